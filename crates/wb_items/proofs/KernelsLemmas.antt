-- What a table of kernels shows to callers.
use Rattle.std.proofs.Common.{◌≡◌, ℕ, suc, ◌<◌, List, [], ◌∷◌, ◌++◌, length, Option, Some, None, refl, sym, subst, inl, inr, arith}
use Rattle.std.specs.Prelude.{slice_get, slice_index_or, Contains, ◌↔◌, IfSome, IfNone, IsNone}
use Rattle.std.proofs.lemmas.Option.{slice_get_within, slice_get-get_or}
use Rattle.std.proofs.lemmas.Bool.{true≢false, cases_lt}
use Rattle.std.proofs.lemmas.List.{get_or_past}
use Rattle.wb_lemmas.proofs.Places.{default_at}
use Rattle.wb_base.specs.declared.symbol.Symbol.{Symbol}
use Rattle.wb_base.specs.Grammar.{GrammarView}
use Rattle.wb_grammar_theory.specs.declared.item.Item.{Item}
use Rattle.wb_grammar_theory.specs.Items.{IsValidItem, start, close, move, IsViablePrefix, SameKernel}
use Rattle.wb_grammar_theory.specs.States.{IsNext}
use Rattle.wb_grammar_theory.proofs.KernelLemmas.{kernel_decides, same_move}
use Rattle.wb_grammar_theory.proofs.ValidLemmas.{before_last}
use Rattle.wb_grammar_theory.proofs.FlowLemmas.{same_itself, same_back, same_then}
use Rattle.wb_items.specs.declared.transitions.Move.{Move}
use Rattle.wb_items.specs.Index.{IndexView}
use Rattle.wb_items.specs.Inner.Numbering.{GoesOn}
use Rattle.wb_items.specs.Kernels.{AreKernels, AreInOrder, IsLedTo, ListsKernel, ListsItems, HasNoneBefore}
use Rattle.wb_items.specs.Table.{AreMovesInOrder, SameItems, IsTable, IsRow, Leads}
use Rattle.wb_items.proofs.OrderLemmas.{order_nil}

-- the prefix of a number
abbrev pub at : IndexView → ℕ → List Symbol
at found s = slice_index_or found.prefixes s []

prefix_there : {g : GrammarView} {found : IndexView} {closures : List (List Item)} {rows : List (List Move)} →
    IsTable g found closures rows → (s : ℕ) → s < length found.prefixes → slice_get found.prefixes s ≡ Some (at found s)
prefix_there {found = found} h s lt = slice_get-get_or found.prefixes s [] lt

closure_there : {g : GrammarView} {found : IndexView} {closures : List (List Item)} {rows : List (List Move)} →
    IsTable g found closures rows → (s : ℕ) → s < length found.prefixes → slice_get closures s ≡ Some (slice_index_or closures s [])
closure_there {closures = closures} h s lt = slice_get-get_or closures s [] (omega (arith, h.closures_len, h.kernels.len))

pub kernel_is : {g : GrammarView} {found : IndexView} {closures : List (List Item)} {rows : List (List Move)} →
    IsTable g found closures rows → (s : ℕ) (items : List Item) → s < length found.prefixes → slice_get found.kernels s ≡ Some items →
    ListsKernel g (at found s) items
kernel_is {found = found} h s items lt there = h.kernels.exact s (at found s) items (prefix_there h s lt) there

pub closure_is : {g : GrammarView} {found : IndexView} {closures : List (List Item)} {rows : List (List Move)} →
    IsTable g found closures rows → (s : ℕ) → s < length found.prefixes → ListsItems g (at found s) (slice_index_or closures s [])
closure_is {found = found} {closures = closures} h s lt = h.followed.exact s (at found s) (slice_index_or closures s [])
    (prefix_there h s lt) (closure_there h s lt)

pub closure_sorted : {g : GrammarView} {found : IndexView} {closures : List (List Item)} {rows : List (List Move)} →
    IsTable g found closures rows → (s : ℕ) → AreInOrder (slice_index_or closures s [])
closure_sorted {closures = closures} h s = elim (cases_lt s (length closures)) [
  | inl lt ↦ h.followed.sorted s (slice_index_or closures s []) (slice_get-get_or closures s [] lt)
  | inr past ↦ subst AreInOrder (sym (get_or_past closures s [] past)) order_nil
]

pub leads_next : {g : GrammarView} (found : IndexView) (s : ℕ) (x : Symbol) (next : ℕ) → Leads g found.prefixes s x next →
    IsNext g (length found.prefixes) (at found) s x next
leads_next {g} found s x next l =
    let here : at found s ≡ l.prefix = default_at found.prefixes s [] l.prefix l.at in
    let there : at found next ≡ l.other = default_at found.prefixes next [] l.other l.to in (
      slice_get_within found.prefixes s l.prefix l.at,
      slice_get_within found.prefixes next l.other l.to,
      subst (λ p. IsViablePrefix g (p ++ x ∷ [])) (sym here) l.viable,
      subst (λ p. SameKernel g (at found next) (p ++ x ∷ [])) (sym here)
          (subst (λ p. SameKernel g p (l.prefix ++ x ∷ [])) (sym there) l.same),
    )

row_there : {g : GrammarView} {found : IndexView} {closures : List (List Item)} {rows : List (List Move)} → IsTable g found closures rows →
    (s : ℕ) (row : List Move) → s < length found.prefixes → slice_get rows s ≡ Some row →
    IsRow g found.prefixes (slice_index_or closures s []) s row
row_there {closures = closures} h s row lt there = h.followed.moves s (slice_index_or closures s []) row (closure_there h s lt) there

-- the moves of a kernel are in order
pub moves_ordered : (g : GrammarView) (found : IndexView) (closures : List (List Item)) (rows : List (List Move)) →
    IsTable g found closures rows → (s : ℕ) (row : List Move) → s < length found.prefixes → slice_get rows s ≡ Some row →
    AreMovesInOrder row
moves_ordered g found closures rows h s row lt there = (row_there h s row lt there).ordered

-- a prefix with an item has its number
pub all_there : {g : GrammarView} {found : IndexView} {closures : List (List Item)} {rows : List (List Move)} →
    IsTable g found closures rows → {prefix : List Symbol} {item : Item} {t : ℕ} → IsValidItem g prefix item t →
    (s : ℕ) × (s < length found.prefixes) × SameKernel g (at found s) prefix
all_there {g} {found} h start = (
  0,
  slice_get_within found.prefixes 0 [] h.kernels.first,
  subst (λ p. SameKernel g p [])
      (sym (default_at found.prefixes 0 [] [] h.kernels.first)) (same_itself g []),
)
all_there h (close item t b rest q u right v is rule first) = all_there h v
all_there {g} {found} {closures} {rows} h (move item x rest shorter {t} {longer} {moved} v is longer_is moved_is) =
    let (s, lt, same) = all_there h v in
    let has = kernel_decides h.live v (at found s) (same_back same) in
    let within : s < length rows = omega (arith, h.followed.len, h.closures_len, h.kernels.len) in
    let row = row_there h s (slice_index_or rows s []) lt (slice_get-get_or rows s [] within) in
    let (next, there) = row.complete item x rest ((closure_is h s lt item).1 has) is in
    let n = leads_next found s x next (row.sound (record { symbol = x; state = next }) there) in
    (next, n.1, subst (SameKernel g (at found next)) (sym longer_is) (same_then n.3 (same_move h.live (at found s) shorter x same)))

-- all that callers see
pub whole : (g : GrammarView) (found : IndexView) (closures : List (List Item)) (rows : List (List Move)) → IsTable g found closures rows →
    AreKernels (record { grammar = g; prefixes = found.prefixes; closures = closures })
whole g found closures rows h = record {
  live = h.live;
  states = record {
    first = default_at found.prefixes 0 [] [] h.kernels.first;
    prefixes = λ s lt. h.kernels.viable s (at found s) (prefix_there h s lt);
    each_once = λ s t lt lt' same.
        let one = slice_get-get_or found.kernels s [] (omega (arith, h.kernels.len)) in
        let two = slice_get-get_or found.kernels t [] (omega (arith, h.kernels.len)) in
        let first = kernel_is h s (slice_index_or found.kernels s []) lt one in
        let second = kernel_is h t (slice_index_or found.kernels t []) lt' two in
        h.kernels.once s t (slice_index_or found.kernels s []) (slice_index_or found.kernels t []) one two
        (λ item. (λ k. (second item).1 ((same item).0 ((first item).0 k)), λ k. (first item).1 ((same item).1 ((second item).0 k))));
    all = λ prefix viable. all_there h viable.2;
    next = λ s x next. (λ n. n, λ n. n);
  };
  closures_len = omega (arith, h.closures_len, h.kernels.len);
  closures = λ s lt. closure_is h s lt;
  in_order = λ s. closure_sorted h s;
}

-- where each prefix after the first goes on from one before it, its kernel is led to from that
pub led_to : (g : GrammarView) (found : IndexView) (closures : List (List Item)) (rows : List (List Move)) →
    IsTable g found closures rows → ((n : ℕ) → suc n < length found.prefixes → GoesOn found.prefixes (suc n)) →
    (s : ℕ) → suc s < length found.prefixes → IsLedTo (record { grammar = g; prefixes = found.prefixes; closures = closures }) (suc s)
led_to g found closures rows h steps s lt =
    let on = steps s lt in
    let b = on.before in
    record {
      from = on.from;
      symbol = on.symbol;
      before = on.before;
      leads = (
        (omega (arith, b, lt)),
        lt,
        subst (IsViablePrefix g) on.is (h.kernels.viable (suc s) (at found (suc s)) (prefix_there h (suc s) lt)),
        subst (SameKernel g (at found (suc s))) on.is (same_itself g (at found (suc s))),
      );
    }

-- the moves of a kernel are where its symbols lead
pub moves_lead : (g : GrammarView) (found : IndexView) (closures : List (List Item)) (rows : List (List Move)) →
    IsTable g found closures rows →
    (s : ℕ) (row : List Move) → s < length found.prefixes → slice_get rows s ≡ Some row → (x : Symbol) (next : ℕ) →
    Contains row (record { symbol = x; state = next }) ↔ IsNext g (length found.prefixes) (at found) s x next
moves_lead g found closures rows h s row lt there x next = (there_to next, back)
  where
    there_to : (n : ℕ) → Contains row (record { symbol = x; state = n }) → IsNext g (length found.prefixes) (at found) s x n
    there_to n k = leads_next found s x n ((row_there h s row lt there).sound (record { symbol = x; state = n }) k)

    back : IsNext g (length found.prefixes) (at found) s x next → Contains row (record { symbol = x; state = next })
    back leads =
        let (item, t, v) = leads.2 in
        let (from, rest, has, is) = before_last v (at found s) x refl in
        let (other, listed) = (row_there h s row lt there).complete from x rest ((closure_is h s lt from).1 has) is in
        let l = there_to other listed in
        let same : other ≡ next = (whole g found closures rows h).states.each_once other next l.1 leads.1
        (same_then l.3 (same_back leads.3)) in
        subst (λ n. Contains row (record { symbol = x; state = n })) same listed

pub next_some : (g : GrammarView) (found : IndexView) (closures : List (List Item)) (rows : List (List Move)) →
    IsTable g found closures rows → (s : ℕ) (x : Symbol) (row : List Move) → s < length found.prefixes → slice_get rows s ≡ Some row →
    (r : Option ℕ) → IfSome r (λ next. Contains row (record { symbol = x; state = next })) →
    IfSome r (IsNext g (length found.prefixes) (at found) s x)
next_some g found closures rows h s x row lt there None k = tt
next_some g found closures rows h s x row lt there (Some next) k = leads_next found s x next
    ((row_there h s row lt there).sound (record { symbol = x; state = next }) k)

pub next_none : (g : GrammarView) (found : IndexView) (closures : List (List Item)) (rows : List (List Move)) →
    IsTable g found closures rows → (s : ℕ) (x : Symbol) (row : List Move) → s < length found.prefixes → slice_get rows s ≡ Some row →
    (r : Option ℕ) → IfSome r (λ next. Contains row (record { symbol = x; state = next })) →
    IfNone r ((next : ℕ) → ¬ Contains row (record { symbol = x; state = next })) → IsNone r ↔ HasNoneBefore g (at found s) x
next_none g found closures rows h s x row lt there None k n = (
  λ _ item rest has is. let (next, listed) =
      (row_there h s row lt there).complete item x rest ((closure_is h s lt item).1 has) is in n next listed,
  λ _. refl,
)
next_none g found closures rows h s x row lt there (Some next) k n =
    let l = leads_next found s x next ((row_there h s row lt there).sound (record { symbol = x; state = next }) k) in
    let (item, t, v) = l.2 in
    let (from, rest, has, is) = before_last v (at found s) x refl in
    (λ e. absurd (true≢false e), λ without. absurd (without from rest has is))

same_lists : (g : GrammarView) (prefix : List Symbol) (kernel items : List Item) → ListsKernel g prefix kernel → SameItems kernel items →
    ListsKernel g prefix items
same_lists g prefix kernel items lists same item = (λ k. (lists item).0 ((same item).1 k), λ k. (same item).0 ((lists item).1 k))

-- what a search for a list found
abbrev pub IsFoundAt : IndexView → List Item → ℕ → Type 0
IsFoundAt found items s = (kernel : List Item) × (slice_get found.kernels s ≡ Some kernel) × SameItems kernel items

found_lists : {g : GrammarView} {found : IndexView} {closures : List (List Item)} {rows : List (List Move)} →
    IsTable g found closures rows → (items : List Item) (s : ℕ) → IsFoundAt found items s →
    (s < length found.prefixes) × ListsKernel g (at found s) items
found_lists {g} {found} h items s (kernel, there, same) =
    let lt : s < length found.prefixes = (let w = slice_get_within found.kernels s kernel there in omega (arith, w, h.kernels.len)) in
    (lt, same_lists g (at found s) kernel items (kernel_is h s kernel lt there) same)

pub find_some : (g : GrammarView) (found : IndexView) (closures : List (List Item)) (rows : List (List Move)) →
    IsTable g found closures rows → (items : List Item) (r : Option ℕ) → IfSome r (IsFoundAt found items) →
    IfSome r (λ s. (s < length found.prefixes) × ListsKernel g (at found s) items)
find_some g found closures rows h items None k = tt
find_some g found closures rows h items (Some s) k = found_lists h items s k

pub find_none : (g : GrammarView) (found : IndexView) (closures : List (List Item)) (rows : List (List Move)) →
    IsTable g found closures rows → (items : List Item) (r : Option ℕ) → IfSome r (IsFoundAt found items) →
    IfNone r ((s : ℕ) (kernel : List Item) → slice_get found.kernels s ≡ Some kernel → ¬ SameItems kernel items) →
    IsNone r ↔ ((prefix : List Symbol) → IsViablePrefix g prefix → ¬ ListsKernel g prefix items)
find_none g found closures rows h items None k n = (
  λ _ prefix viable lists.
      let (s, lt, same) = all_there h viable.2 in
      let there = slice_get-get_or found.kernels s [] (omega (arith, h.kernels.len)) in
      let kernel = kernel_is h s (slice_index_or found.kernels s []) lt there in
      n s (slice_index_or found.kernels s []) there
      (λ item. (λ c. (lists item).1 ((same item).0 ((kernel item).0 c)), λ c. (kernel item).1 ((same item).1 ((lists item).0 c)))),
  λ _. refl,
)
find_none g found closures rows h items (Some s) k n =
    let (lt, lists) = found_lists h items s k in
    (λ e. absurd (true≢false e), λ without. absurd (without (at found s) (h.kernels.viable s (at found s) (prefix_there h s lt)) lists))
