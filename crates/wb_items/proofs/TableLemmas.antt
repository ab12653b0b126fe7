-- Kernels that are found one after another.
use Rattle.std.proofs.Common.{◌≡◌, ℕ, ◌<◌, List, [], ◌∷◌, ◌++◌, length, Some, refl, sym, ◌∙◌, ap, subst, inl, inr, arith, length-append}
use Rattle.std.specs.Prelude.{slice_get, slice_index_or, Contains, ◌↔◌}
use Rattle.std.proofs.lemmas.Option.{slice_get_within, slice_get-get_or}
use Rattle.wb_lemmas.proofs.Places.{at_push, push_last, push_keeps, at_once, at_one}
use Rattle.wb_lemmas.proofs.Members.{contains_at, place_of}
use Rattle.wb_base.specs.declared.symbol.Symbol.{Symbol}
use Rattle.wb_base.specs.Grammar.{GrammarView}
use Rattle.wb_grammar_theory.specs.declared.item.Item.{Item}
use Rattle.wb_grammar_theory.specs.Productions.{end_of}
use Rattle.wb_grammar_theory.specs.Items.{after_dot, advance, initial_item, IsValidItem, move, HasItem, IsKernelItem, IsViablePrefix}
use Rattle.wb_grammar_theory.specs.Items.{SameKernel}
use Rattle.wb_grammar_theory.specs.Items.{start_item}
use Rattle.wb_grammar_theory.specs.Items as valid
use Rattle.wb_grammar_theory.specs.Shape.{IsLive}
use Rattle.wb_grammar_theory.specs.Closure.{InClosure, kernel, opened, MovesTo}
use Rattle.wb_grammar_theory.proofs.ClosureLemmas.{closure_sound, closure_complete, moves_exact, first_kernel}
use Rattle.wb_grammar_theory.proofs.FlowLemmas.{same_itself}
use Rattle.wb_items.specs.declared.transitions.Move.{Move}
use Rattle.wb_items.specs.Index.{IndexView}
use Rattle.wb_items.specs.Kernels.{AreInOrder, ListsKernel, ListsItems}
use Rattle.wb_items.specs.Table.{SameItems, AreKernelsOf, AreMoves, IsRow, Leads, AreFollowed}
use Rattle.wb_items.specs.Inner.Growing.{Grows}
use Rattle.wb_items.specs.Moved.{IsKernelFor}

-- a number of kernels has its prefix
pub prefix_at : {g : GrammarView} {prefixes : List (List Symbol)} {kernels : List (List Item)} → AreKernelsOf g prefixes kernels → (s : ℕ) →
    s < length kernels → (prefix : List Symbol) × (slice_get prefixes s ≡ Some prefix)
prefix_at {prefixes = prefixes} h s lt = (slice_index_or prefixes s [], slice_get-get_or prefixes s [] (omega (arith, h.len)))

-- one item is in order
pub one_in_order : (item : Item) → AreInOrder (item ∷ [])
one_in_order item i j a b lt p q = absurd (omega (arith, (at_one item a i p).0, (at_one item b j q).0))

-- the kernel of the empty prefix alone
pub first_found : (g : GrammarView) → AreKernelsOf g ([] ∷ []) ((start_item g ∷ []) ∷ [])
first_found g = record {
  len = refl;
  first = refl;
  viable = λ s prefix at. subst (IsViablePrefix g) (at_one [] prefix s at).1 (start_item g, end_of g, valid.start);
  exact = λ s prefix items at there. subst (λ z. ListsKernel g z items) (at_one [] prefix s at).1
      (subst (ListsKernel g []) (at_one (start_item g ∷ []) items s there).1 lists);
  sorted = λ s items there. subst AreInOrder (at_one (start_item g ∷ []) items s there).1 (one_in_order (start_item g));
  once = λ s t items other one two same. (at_one (start_item g ∷ []) items s one).0 ∙ sym (at_one (start_item g ∷ []) other t two).0;
}
  where
    lists : ListsKernel g [] (start_item g ∷ [])
    lists item = (
      λ (k : Contains (start_item g ∷ []) item). let (j, at) = place_of (start_item g ∷ []) item k in (first_kernel g item).1
          (sym (at_one (start_item g) item j at).1),
      λ is. subst (Contains (start_item g ∷ [])) (sym ((first_kernel g item).0 is)) (contains_at (start_item g ∷ []) (start_item g) 0 refl),
    )

turned : (items other : List Item) → SameItems items other → SameItems other items
turned items other same item = ((same item).1, (same item).0)

-- a kernel that is new goes after the others
pub kernel_added : (g : GrammarView) (prefixes : List (List Symbol)) (kernels : List (List Item)) (longer : List Symbol) (new : List Item) →
    AreKernelsOf g prefixes kernels → IsKernelFor g longer new →
    ((s : ℕ) (other : List Item) → slice_get kernels s ≡ Some other → ¬ SameItems other new) →
    AreKernelsOf g (prefixes ++ longer ∷ []) (kernels ++ new ∷ [])
kernel_added g prefixes kernels longer new h k fresh = record {
  len = omega (arith, h.len, length-append {A = List Symbol} prefixes (longer ∷ []), length-append {A = List Item} kernels (new ∷ []));
  first = push_keeps prefixes longer 0 [] h.first;
  viable = λ s prefix at. elim (at_push prefixes longer prefix s at) [
    | inl old ↦ h.viable s prefix old
    | inr last ↦ subst (IsViablePrefix g) last.1 k.viable
  ];
  exact = λ s prefix items at there. elim (at_push prefixes longer prefix s at) [
    | inl old ↦ elim (at_push kernels new items s there) [
      | inl old' ↦ h.exact s prefix items old old'
      | inr last' ↦ absurd (omega (arith, h.len, last'.0, slice_get_within prefixes s prefix old))
    ]
    | inr last ↦ elim (at_push kernels new items s there) [
      | inl old' ↦ absurd (omega (arith, h.len, last.0, slice_get_within kernels s items old'))
      | inr last' ↦ subst (λ z. ListsKernel g z items) last.1 (subst (ListsKernel g longer) last'.1 k.exact)
    ]
  ];
  sorted = λ s items there. elim (at_push kernels new items s there) [
    | inl old' ↦ h.sorted s items old'
    | inr last' ↦ subst AreInOrder last'.1 k.sorted
  ];
  once = λ s t items other one two same. elim (at_push kernels new items s one) [
    | inl old ↦ elim (at_push kernels new other t two) [
      | inl old' ↦ h.once s t items other old old' same
      | inr last' ↦ absurd (fresh s items old (subst (SameItems items) (sym last'.1) same))
    ]
    | inr last ↦ elim (at_push kernels new other t two) [
      | inl old' ↦ absurd (fresh t other old' (turned new other (subst (λ z. SameItems z other) (sym last.1) same)))
      | inr last' ↦ last.0 ∙ sym last'.0
    ]
  ];
}

-- more after the known ones
pub grows_push : (prefixes : List (List Symbol)) (kernels : List (List Item)) (longer : List Symbol) (new : List Item) →
    Grows (record { prefixes = prefixes; kernels = kernels }) (record { prefixes = prefixes ++ longer ∷ []; kernels = kernels ++ new ∷ [] })
grows_push prefixes kernels longer new = record {
  prefixes = λ s prefix at. push_keeps prefixes longer s prefix at;
  kernels = λ s items at. push_keeps kernels new s items at;
}

pub grows_none : (found : IndexView) → Grows found found
grows_none found = record { prefixes = λ s prefix at. at; kernels = λ s items at. at }

pub grows_then : {one two three : IndexView} → Grows one two → Grows two three → Grows one three
grows_then p q = record {
  prefixes = λ s prefix at. q.prefixes s prefix (p.prefixes s prefix at);
  kernels = λ s items at. q.kernels s items (p.kernels s items at);
}

-- the kernel is there with the same items
pub leads_known : (g : GrammarView) (prefixes : List (List Symbol)) (kernels : List (List Item)) (s : ℕ) (x : Symbol) (prefix : List Symbol)
    (new : List Item) (next : ℕ) (items : List Item) → AreKernelsOf g prefixes kernels → slice_get prefixes s ≡ Some prefix →
    IsKernelFor g (prefix ++ x ∷ []) new → slice_get kernels next ≡ Some items → SameItems items new → Leads g prefixes s x next
leads_known g prefixes kernels s x prefix new next items h at k there same =
    let (other, to) = prefix_at h next (slice_get_within kernels next items there) in
    record {
      prefix = prefix;
      other = other;
      at = at;
      to = to;
      viable = k.viable;
      same = λ item. (
        λ is. (k.exact item).0 ((same item).0 ((h.exact next other items to there item).1 is)),
        λ is. (h.exact next other items to there item).0 ((same item).1 ((k.exact item).1 is)),
      );
    }

-- the kernel was put last
pub leads_new : (g : GrammarView) (prefixes : List (List Symbol)) (s : ℕ) (x : Symbol) (prefix : List Symbol) (next : ℕ) →
    slice_get prefixes s ≡ Some prefix → IsViablePrefix g (prefix ++ x ∷ []) → next ≡ length prefixes →
    Leads g (prefixes ++ (prefix ++ x ∷ []) ∷ []) s x next
leads_new g prefixes s x prefix next at viable last = record {
  prefix = prefix;
  other = prefix ++ x ∷ [];
  at = push_keeps prefixes (prefix ++ x ∷ []) s prefix at;
  to = ap (slice_get (prefixes ++ (prefix ++ x ∷ []) ∷ [])) last ∙ push_last prefixes (prefix ++ x ∷ []);
  viable = viable;
  same = same_itself g (prefix ++ x ∷ []);
}

-- what leads still leads among more
pub leads_grows : {g : GrammarView} (old new : IndexView) {s : ℕ} {x : Symbol} {next : ℕ} → Grows old new → Leads g old.prefixes s x next →
    Leads g new.prefixes s x next
leads_grows old new h l = record {
  prefix = l.prefix;
  other = l.other;
  at = h.prefixes _ l.prefix l.at;
  to = h.prefixes _ l.other l.to;
  viable = l.viable;
  same = l.same;
}

pub moves_grow : {g : GrammarView} (old new : IndexView) (s : ℕ) (row : List Move) → Grows old new → AreMoves g old.prefixes s row →
    AreMoves g new.prefixes s row
moves_grow old new s row h moves step there = leads_grows old new h (moves step there)

-- the items that move over a symbol are the kernel of the longer prefix
pub moved_kernel : (g : GrammarView) → IsLive g → (prefix : List Symbol) (x : Symbol) (items : List Item) (first : Item) →
    ((item : Item) → Contains items item ↔ MovesTo g (IsKernelItem g prefix) x item) → AreInOrder items → Contains items first →
    IsKernelFor g (prefix ++ x ∷ []) items
moved_kernel g live prefix x items first exact in_order there = record {
  viable = (let ((t, v), _) = (moves_exact g live prefix x first).1 ((exact first).0 there) in (first, t, v));
  exact = λ item. (
    λ listed. (moves_exact g live prefix x item).1 ((exact item).0 listed),
    λ is. (exact item).1 ((moves_exact g live prefix x item).0 is),
  );
  sorted = in_order;
}

closure_by : {g : GrammarView} (prefix : List Symbol) (items : List Item) →
    ((item : Item) → Contains items item → IsKernelItem g prefix item) → {item : Item} → InClosure g (Contains items) item →
    InClosure g (IsKernelItem g prefix) item
closure_by prefix items f (kernel k) = kernel (f _ k)
closure_by prefix items f (opened item b rest q right c is rule) = opened item b rest q right (closure_by prefix items f c) is rule

closure_from : {g : GrammarView} (prefix : List Symbol) (items : List Item) →
    ((item : Item) → IsKernelItem g prefix item → Contains items item) → {item : Item} → InClosure g (IsKernelItem g prefix) item →
    InClosure g (Contains items) item
closure_from prefix items f (kernel k) = kernel (f _ k)
closure_from prefix items f (opened item b rest q right c is rule) = opened item b rest q right (closure_from prefix items f c) is rule

-- the closure of the listed kernel has the items of its prefix
pub closure_lists : (g : GrammarView) → IsLive g → (prefix : List Symbol) (items closure : List Item) → ListsKernel g prefix items →
    ((item : Item) → Contains closure item ↔ InClosure g (Contains items) item) → ListsItems g prefix closure
closure_lists g live prefix items closure lists exact item = (
  λ there. closure_sound prefix live (closure_by prefix items (λ i k. (lists i).0 k) ((exact item).0 there)),
  λ (t, v). (exact item).1 (closure_from prefix items (λ i k. (lists i).1 k) (closure_complete v)),
)

-- nothing has been followed yet
pub none_followed : (g : GrammarView) (prefixes : List (List Symbol)) → AreFollowed g prefixes [] []
none_followed g prefixes = record {
  len = refl;
  exact = λ s prefix closure at there. cc;
  sorted = λ s closure there. cc;
  moves = λ s closure row there at. cc;
}

-- one kernel more has been followed
pub followed_more : (g : GrammarView) (old new : IndexView) (closures : List (List Item)) (rows : List (List Move)) (prefix : List Symbol)
    (closure : List Item) (row : List Move) → Grows old new →
    ((s : ℕ) (p : List Symbol) → s < length closures → slice_get new.prefixes s ≡ Some p → slice_get old.prefixes s ≡ Some p) →
    slice_get new.prefixes (length closures) ≡ Some prefix → AreFollowed g old.prefixes closures rows → ListsItems g prefix closure →
    AreInOrder closure → IsRow g new.prefixes closure (length closures) row →
    AreFollowed g new.prefixes (closures ++ closure ∷ []) (rows ++ row ∷ [])
followed_more g old new closures rows prefix closure row grows back here h lists in_order is_row = record {
  len = omega (arith, h.len, length-append {A = List Move} rows (row ∷ []), length-append {A = List Item} closures (closure ∷ []));
  exact = λ s p items at there. elim (at_push closures closure items s there) [
    | inl known ↦ h.exact s p items (back s p (slice_get_within closures s items known) at) known
    | inr last ↦ subst (ListsItems g p) last.1
        (subst (λ z. ListsItems g z closure)
        (at_once new.prefixes (length closures) prefix p here (subst (λ k. slice_get new.prefixes k ≡ Some p) last.0 at)) lists)
  ];
  sorted = λ s items there. elim (at_push closures closure items s there) [
    | inl known ↦ h.sorted s items known
    | inr last ↦ subst AreInOrder last.1 in_order
  ];
  moves = λ s items moves there at. elim (at_push closures closure items s there) [
    | inl known ↦ elim (at_push rows row moves s at) [
      | inl known' ↦ row_grows s items moves (h.moves s items moves known known')
      | inr last' ↦ absurd (omega (arith, h.len, last'.0, slice_get_within closures s items known))
    ]
    | inr last ↦ elim (at_push rows row moves s at) [
      | inl known' ↦ absurd (omega (arith, h.len, last.0, slice_get_within rows s moves known'))
      | inr last' ↦ subst (λ k. IsRow g new.prefixes items k moves) (sym last.0)
          (subst (λ z. IsRow g new.prefixes z (length closures) moves) last.1
          (subst (IsRow g new.prefixes closure (length closures)) last'.1 is_row))
    ]
  ];
}
  where
    row_grows : (s : ℕ) (items : List Item) (moves : List Move) → IsRow g old.prefixes items s moves → IsRow g new.prefixes items s moves
    row_grows s items moves r = record { sound = moves_grow old new s moves grows r.sound; ordered = r.ordered; complete = r.complete }

-- a new kernel is found
pub record IsAdded (g : GrammarView) (old new : IndexView) (s : ℕ) (x : Symbol) (next : ℕ) : Type 0 where
  pub kernels : AreKernelsOf g new.prefixes new.kernels
  pub grows : Grows old new
  pub leads : Leads g new.prefixes s x next

pub is_added : (g : GrammarView) (old new : IndexView) (s : ℕ) (x : Symbol) (next : ℕ) (items : List Item) →
    AreKernelsOf g old.prefixes old.kernels → s < length old.kernels →
    ((prefix : List Symbol) → slice_get old.prefixes s ≡ Some prefix → IsKernelFor g (prefix ++ x ∷ []) items) →
    ((t : ℕ) (other : List Item) → slice_get old.kernels t ≡ Some other → ¬ SameItems other items) → next ≡ length old.prefixes →
    new ≡ record { prefixes = old.prefixes ++ (slice_index_or old.prefixes s [] ++ x ∷ []) ∷ []; kernels = old.kernels ++ items ∷ [] } →
    IsAdded g old new s x next
is_added g old new s x next items h lt is_kernel fresh last e =
    let prefix = slice_index_or old.prefixes s [] in
    let at : slice_get old.prefixes s ≡ Some prefix = slice_get-get_or old.prefixes s [] (omega (arith, h.len)) in
    let k = is_kernel prefix at in
    subst (λ (f : IndexView). IsAdded g old f s x next) (sym e) (record {
      kernels = kernel_added g old.prefixes old.kernels (prefix ++ x ∷ []) items h k fresh;
      grows = grows_push old.prefixes old.kernels (prefix ++ x ∷ []) items;
      leads = leads_new g old.prefixes s x prefix next at k.viable last;
    })
