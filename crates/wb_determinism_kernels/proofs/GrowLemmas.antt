-- New kernels that are found one after another.
use Rattle.std.proofs.Common.{◌≡◌, ◌+◌, ◌<◌, ◌∙◌, ◌∷◌, ◌++◌, [], List, ℕ, Some, length, map, refl, sym, ap, subst, inl, inr, arith}
use Rattle.std.proofs.Common.{length-append}
use Rattle.std.specs.Prelude.{Contains, Option, slice_get}
use Rattle.std.proofs.lemmas.Bool.{cases_lt}
use Rattle.std.proofs.lemmas.Option.{slice_get_within}
use Rattle.wb_lemmas.proofs.Places.{at_push, push_keeps, push_last}
use Rattle.wb_base.specs.declared.symbol.Symbol.{Symbol}
use Rattle.wb_base.specs.Grammar.{GrammarView}
use Rattle.wb_grammar_theory.specs.declared.item.Item.{Item}
use Rattle.wb_grammar_theory.specs.Items.{IsKernelItem, IsValidItem, IsViablePrefix, SameKernel, close, move, start, start_item}
use Rattle.wb_grammar_theory.specs.Productions.{end_of}
use Rattle.wb_grammar_theory.proofs.FlowLemmas.{same_itself}
use Rattle.wb_items.specs.Moved.{IsKernelFor}
use Rattle.wb_items.specs.Kernels.{AreInOrder, KernelsView, ListsKernel, count_of, prefix_of}
use Rattle.wb_items.specs.Table.{Leads, SameItems}
use Rattle.wb_compose_theory.specs.Numbered.{IsHostKernel}
use Rattle.wb_compose_theory.specs.Renamings.{Renaming, renamed, renamed_item}
use Rattle.wb_determinism_kernels.specs.declared.index.Step.{Step}
use Rattle.wb_determinism_kernels.specs.declared.numbers.Numbers.{Numbers}
use Rattle.wb_determinism_kernels.specs.Given.{IsGiven}
use Rattle.wb_determinism_kernels.specs.NewKernels.{IndexView, prefix_beside, prefixes_beside}
use Rattle.wb_determinism_kernels.specs.Numbers.{up_by}
use Rattle.wb_determinism_kernels.specs.Inner.Growing.{AreFoundSoFar, Grows, IsAdded, IsFollowing, IsHostNumber, IsNoHostKernel}
use Rattle.wb_determinism_kernels.proofs.NumberLemmas.{contains_map, map_contains}
use Rattle.wb_determinism_kernels.proofs.PrefixLemmas.{beside_at, beside_len, beside_push, host_at, host_is}

turned : (items other : List Item) → SameItems items other → SameItems other items
turned items other same item = ((same item).1, (same item).0)

-- a prefix with an item has a kernel item
pub kernel_item : {g : GrammarView} {prefix : List Symbol} {item : Item} {t : ℕ} → IsValidItem g prefix item t →
    (one : Item) × IsKernelItem g prefix one
kernel_item {g} start = (start_item g, ((end_of g, start), inr (refl, refl)))
kernel_item (close item t b rest q u right v is rule first) = kernel_item v
kernel_item (move item x rest prefix {t} {longer} {moved} v is longer_is moved_is) = (
  moved,
  (
    (t, move item x rest prefix v is longer_is moved_is),
    inl (λ none. let dot : moved.dot ≡ item.dot + 1 = ap (λ (i : Item). i.dot) moved_is in omega (arith, dot, none)),
  ),
)

pub grows_none : (host : KernelsView) (k : GrammarView) (up : Renaming) (found : IndexView) → Grows host k up found found
grows_none host k up found = record { prefixes = λ n prefix at. at; kernels = λ i kernel at. at }

pub grows_then : {host : KernelsView} {k : GrammarView} {up : Renaming} {one two three : IndexView} → Grows host k up one two →
    Grows host k up two three → Grows host k up one three
grows_then p q = record {
  prefixes = λ n prefix at. q.prefixes n prefix (p.prefixes n prefix at);
  kernels = λ i kernel at. q.kernels i kernel (p.kernels i kernel at);
}

-- what leads still leads among more
pub leads_grows : {host : KernelsView} {k : GrammarView} {up : Renaming} (old new : IndexView) {s : ℕ} {x : Symbol} {next : ℕ} →
    Grows host k up old new → Leads k (prefixes_beside up host old.steps) s x next → Leads k (prefixes_beside up host new.steps) s x next
leads_grows old new h l = record {
  prefix = l.prefix;
  other = l.other;
  at = h.prefixes _ l.prefix l.at;
  to = h.prefixes _ l.other l.to;
  viable = l.viable;
  same = l.same;
}

-- nothing is found yet
pub none_found : {host : KernelsView} {k : GrammarView} {m : Numbers} {images : List (Option ℕ)} → IsGiven host k m images →
    AreFoundSoFar host k (up_by m) (record { steps = []; kernels = [] })
none_found {host} {k} {m} given = record {
  len = refl;
  viable = λ n prefix at. viable n prefix at;
  exact = λ i prefix kernel at there. cc;
  sorted = λ i kernel there. cc;
  foreign = λ i kernel there. cc;
  once = λ i j kernel other there there' same. cc;
  following = λ i lt. absurd (omega (arith, lt));
}
  where
    viable : (n : ℕ) (prefix : List Symbol) → slice_get (prefixes_beside (up_by m) host []) n ≡ Some prefix → IsViablePrefix k prefix
    viable n prefix at =
        let w = slice_get_within (prefixes_beside (up_by m) host []) n prefix at in
        let e = beside_len (up_by m) host [] in
        let lt : n < count_of host = omega (arith, w, e) in
        let hv = given.kernels.states.prefixes n lt in
        let hk = given.beside.kernels (prefix_of host n) hv in
        subst (IsViablePrefix k) (sym (host_is (up_by m) host [] n prefix lt at)) (lifted_viable (prefix_of host n) hv hk)
      where
        lifted_viable : (other : List Symbol) → IsViablePrefix host.grammar other →
            IsHostKernel host.grammar k (up_by m) (map (renamed (up_by m)) other) other → IsViablePrefix k (map (renamed (up_by m)) other)
        lifted_viable other (item, t, v) hk =
            let (one, has) = kernel_item v in
            let there = (hk.same one).0 has in
            (renamed_item (up_by m) one, there.0.0, there.0.1)

module _ {host : KernelsView} {k : GrammarView} {m : Numbers} {images : List (Option ℕ)} (given : IsGiven host k m images)
    (old : IndexView) (so_far : AreFoundSoFar host k (up_by m) old) (from : ℕ) (x : Symbol) (kernel : List Item)
    (within : from < count_of host + length old.steps)
    (is_kernel : (prefix : List Symbol) → slice_get (prefixes_beside (up_by m) host old.steps) from ≡ Some prefix →
    IsKernelFor k (prefix ++ x ∷ []) kernel) where
  abbrev prefix : List Symbol
  prefix = prefix_beside (up_by m) host old.steps from

  at : slice_get (prefixes_beside (up_by m) host old.steps) from ≡ Some prefix
  at = beside_at (up_by m) host old.steps from within

  for : IsKernelFor k (prefix ++ x ∷ []) kernel
  for = is_kernel prefix at

  pub for_sorted : AreInOrder kernel
  for_sorted = for.sorted

  -- the kernel is the host's of this number
  pub leads_host : (n : ℕ) → IsHostNumber host (up_by m) kernel n → IsAdded host k (up_by m) old old from x n
  leads_host n is = record {
    so_far = so_far;
    grows = grows_none host k (up_by m) old;
    leads = record {
      prefix = prefix;
      other = map (renamed (up_by m)) (prefix_of host n);
      at = at;
      to = host_at (up_by m) host old.steps n is.below;
      viable = for.viable;
      same = same;
    };
  }
    where
      hk : IsHostKernel host.grammar k (up_by m) (map (renamed (up_by m)) (prefix_of host n)) (prefix_of host n)
      hk = given.beside.kernels (prefix_of host n) (given.kernels.states.prefixes n is.below)

      same : SameKernel k (map (renamed (up_by m)) (prefix_of host n)) (prefix ++ x ∷ [])
      same item = (
        λ z.
            let (i, i_is) = hk.within item z in
            let own = (is.lists i).1 ((hk.same i).1 (subst (IsKernelItem k (map (renamed (up_by m)) (prefix_of host n))) i_is z)) in
            (for.exact item).0 (subst (Contains kernel) (sym i_is) (subst (λ c. Contains c (renamed_item (up_by m) i)) is.are
            (map_contains (renamed_item (up_by m)) is.own i own))),
        λ z.
            let (i, i_is, own) = contains_map (renamed_item (up_by m)) is.own item
            (subst (λ c. Contains c item) (sym is.are) ((for.exact item).1 z)) in
            subst (IsKernelItem k (map (renamed (up_by m)) (prefix_of host n))) (sym i_is) ((hk.same i).0 ((is.lists i).0 own)),
      )

  -- the kernel was found before
  pub leads_found : (i : ℕ) (other : List Item) → slice_get old.kernels i ≡ Some other → SameItems other kernel →
      IsAdded host k (up_by m) old old from x (count_of host + i)
  leads_found i other there same =
      let w = slice_get_within old.kernels i other there in
      let to_prefix = prefix_beside (up_by m) host old.steps (count_of host + i) in
      let to : slice_get (prefixes_beside (up_by m) host old.steps) (count_of host + i) ≡ Some to_prefix =
      beside_at (up_by m) host old.steps (count_of host + i) (let e = so_far.len in omega (arith, w, e)) in
      let lists = so_far.exact i to_prefix other to there in
      record {
        so_far = so_far;
        grows = grows_none host k (up_by m) old;
        leads = record {
          prefix = prefix;
          other = to_prefix;
          at = at;
          to = to;
          viable = for.viable;
          same = λ item. (
            λ z. (for.exact item).0 ((same item).0 ((lists item).1 z)),
            λ z. (lists item).0 ((same item).1 ((for.exact item).1 z)),
          );
        };
      }

module _ {host : KernelsView} {k : GrammarView} {m : Numbers} {images : List (Option ℕ)} (given : IsGiven host k m images)
    (old : IndexView) (so_far : AreFoundSoFar host k (up_by m) old) (from : ℕ) (x : Symbol) (kernel : List Item)
    (within : from < count_of host + length old.steps)
    (is_kernel : (prefix : List Symbol) → slice_get (prefixes_beside (up_by m) host old.steps) from ≡ Some prefix →
    IsKernelFor k (prefix ++ x ∷ []) kernel) (foreign : IsNoHostKernel host (up_by m) kernel)
    (fresh : (i : ℕ) (other : List Item) → slice_get old.kernels i ≡ Some other → ¬ SameItems other kernel) (sorted : AreInOrder kernel)
  where
    abbrev start_prefix : List Symbol
    start_prefix = prefix_beside (up_by m) host old.steps from

    at_start : slice_get (prefixes_beside (up_by m) host old.steps) from ≡ Some start_prefix
    at_start = beside_at (up_by m) host old.steps from within

    new_for : IsKernelFor k (start_prefix ++ x ∷ []) kernel
    new_for = is_kernel start_prefix at_start

    abbrev step : Step
    step = record { from = from; symbol = x }

    abbrev added : IndexView
    added = record { steps = old.steps ++ step ∷ []; kernels = old.kernels ++ kernel ∷ [] }

    abbrev known : List (List Symbol)
    known = prefixes_beside (up_by m) host old.steps

    push : prefixes_beside (up_by m) host added.steps ≡ known ++ (start_prefix ++ x ∷ []) ∷ []
    push = beside_push (up_by m) host old.steps step

    len : length known ≡ count_of host + length old.kernels
    len = (let e = beside_len (up_by m) host old.steps in let f = so_far.len in omega (arith, e, f))

    keeps : (n : ℕ) (p : List Symbol) → slice_get known n ≡ Some p →
        slice_get (prefixes_beside (up_by m) host added.steps) n ≡ Some p
    keeps n p there = subst (λ z. slice_get z n ≡ Some p) (sym push) (push_keeps known (start_prefix ++ x ∷ []) n p there)

    grows : Grows host k (up_by m) old added
    grows = record { prefixes = keeps; kernels = λ i other there. push_keeps old.kernels kernel i other there }

    leads : Leads k (prefixes_beside (up_by m) host added.steps) from x (count_of host + length old.kernels)
    leads = record {
      prefix = start_prefix;
      other = start_prefix ++ x ∷ [];
      at = keeps from start_prefix at_start;
      to = subst (λ z. slice_get z (count_of host + length old.kernels) ≡ Some (start_prefix ++ x ∷ [])) (sym push)
          (ap (slice_get (known ++ (start_prefix ++ x ∷ []) ∷ [])) (sym len) ∙ push_last known (start_prefix ++ x ∷ []));
      viable = new_for.viable;
      same = same_itself k (start_prefix ++ x ∷ []);
    }

    more : AreFoundSoFar host k (up_by m) added
    more = record {
      len = (let e = so_far.len in omega
          (arith, e, length-append {A = List Item} old.kernels (kernel ∷ []), length-append {A = Step} old.steps (step ∷ [])));
      viable = λ n p there. elim (at_push known (start_prefix ++ x ∷ []) p n (subst (λ z. slice_get z n ≡ Some p) push there)) [
        | inl before ↦ so_far.viable n p before
        | inr last ↦ subst (IsViablePrefix k) last.1 new_for.viable
      ];
      exact = λ i p items there has. elim
          (at_push known (start_prefix ++ x ∷ []) p (count_of host + i) (subst (λ z. slice_get z (count_of host + i) ≡ Some p) push there)) [
            | inl before ↦ elim (at_push old.kernels kernel items i has) [
              | inl before' ↦ so_far.exact i p items before before'
              | inr last' ↦ absurd
                  (let w = slice_get_within known (count_of host + i) p before in let e = len in omega (arith, w, e, last'.0))
            ]
            | inr last ↦ elim (at_push old.kernels kernel items i has) [
              | inl before' ↦ absurd
                  (let w = slice_get_within old.kernels i items before' in let e = len in omega (arith, w, e, last.0))
              | inr last' ↦ subst (λ z. ListsKernel k z items) last.1
                  (subst (ListsKernel k (start_prefix ++ x ∷ [])) last'.1 new_for.exact)
            ]
          ];
      sorted = λ i items there. elim (at_push old.kernels kernel items i there) [
        | inl before ↦ so_far.sorted i items before
        | inr last ↦ subst AreInOrder last.1 sorted
      ];
      foreign = λ i items there. elim (at_push old.kernels kernel items i there) [
        | inl before ↦ so_far.foreign i items before
        | inr last ↦ subst (IsNoHostKernel host (up_by m)) last.1 foreign
      ];
      once = λ i j items other one two same. elim (at_push old.kernels kernel items i one) [
        | inl before ↦ elim (at_push old.kernels kernel other j two) [
          | inl before' ↦ so_far.once i j items other before before' same
          | inr last' ↦ absurd (fresh i items before (subst (SameItems items) (sym last'.1) same))
        ]
        | inr last ↦ elim (at_push old.kernels kernel other j two) [
          | inl before' ↦ absurd (fresh j other before' (turned kernel other (subst (λ z. SameItems z other) (sym last.1) same)))
          | inr last' ↦ last.0 ∙ sym last'.0
        ]
      ];
      following = λ i lt. elim (cases_lt i (length old.steps)) [
        | inl before ↦ still (count_of host + i) (so_far.following i before)
        | inr past ↦
            let e : length old.kernels ≡ i = (let f = so_far.len in
            omega (arith, f, lt, past, length-append {A = Step} old.steps (step ∷ []))) in
            subst (λ j. IsFollowing host k (up_by m) added (count_of host + j)) e last
      ];
    }
      where
        still : (n : ℕ) → IsFollowing host k (up_by m) old n → IsFollowing host k (up_by m) added n
        still n f = record {
          from = f.from;
          symbol = f.symbol;
          before = f.before;
          leads = leads_grows old added grows f.leads;
        }

        last : IsFollowing host k (up_by m) added (count_of host + length old.kernels)
        last = record {
          from = from;
          symbol = x;
          before = (let f = so_far.len in omega (arith, within, f));
          leads = leads;
        }

    -- the kernel is new
    pub leads_new : (new : IndexView) →
        new ≡ record { steps = old.steps ++ record { from = from; symbol = x } ∷ []; kernels = old.kernels ++ kernel ∷ [] } →
        IsAdded host k (up_by m) old new from x (count_of host + length old.kernels)
    leads_new new is =
        subst (λ (z : IndexView). IsAdded host k (up_by m) old z from x (count_of host + length old.kernels)) (sym is)
        (record { so_far = more; grows = grows; leads = leads })
