-- Chains of the entries that have a key, as entries are put after the others.
use Rattle.std.proofs.Common.{◌≡◌, ℕ, ◌+◌, ◌<◌, ◌≤◌, List, [], ◌∷◌, ◌++◌, length, get_or, set, replicate, refl, sym, ◌∙◌, ap, subst, arith}
use Rattle.std.proofs.Common.{inl, inr, length-append, length-set, get_or-set_same, get_or-set_other}
use Rattle.std.specs.Prelude.{slice_get, slice_index, Some}
use Rattle.std.proofs.lemmas.Bool.{cases_eq, cases_lt}
use Rattle.std.proofs.lemmas.List.{get_or-replicate, get_or_past, length-replicate}
use Rattle.std.proofs.lemmas.Option.{slice_get-get_or}
use Rattle.wb_lemmas.proofs.Places.{at_once, default_at, push_before, push_last}
use Rattle.wb_graph.specs.Graphs.{Edge}
use Rattle.wb_digraph.specs.Inner.Chains.{AreChained, IsLast}
use Rattle.wb_digraph.specs.Inner.Spreading.{IsInGroup, LeavesGroup}

-- no entry is before the first
none_before : (Key : ℕ → ℕ → Type 0) (k : ℕ) → IsLast Key k 0 0
none_before Key k = record {
  within = omega arith;
  has = λ j e. absurd (omega (arith, e));
  others = λ j from lt. absurd (omega (arith, lt));
}

zero_at : (count k : ℕ) → slice_index (replicate count 0) k ≡ 0
zero_at count k = elim (cases_lt k count) [
  | inl lt ↦ get_or-replicate count k 0 0 lt
  | inr past ↦ get_or_past (replicate count 0) k 0 (let e = length-replicate {A = ℕ} count 0 in omega (arith, e, past))
]

-- no entries
pub chained_start : (Key : ℕ → ℕ → Type 0) (count : ℕ) (lasts earlier : List ℕ) → lasts ≡ replicate count 0 → earlier ≡ [] →
    AreChained Key lasts earlier
chained_start Key count lasts earlier lasts_is earlier_is =
    let none : length earlier ≡ 0 = ap length earlier_is in
    record {
      last = λ k. subst (λ z. IsLast Key k z (slice_index lasts k)) (sym none)
          (subst (IsLast Key k 0) (sym (ap (λ z. slice_index z k) lasts_is ∙ zero_at count k)) (none_before Key k));
      before = λ j k lt key. absurd (omega (arith, lt, none));
    }

-- one entry more
pub chained_more : (Key : ℕ → ℕ → Type 0) (key : ℕ) (lasts lasts' earlier earlier' : List ℕ) →
    ((j k k' : ℕ) → Key j k → Key j k' → k ≡ k') → Key (length earlier) key → key < length lasts →
    lasts' ≡ set lasts key (length earlier + 1) → earlier' ≡ earlier ++ slice_index lasts key ∷ [] → AreChained Key lasts earlier →
    AreChained Key lasts' earlier'
chained_more Key key lasts lasts' earlier earlier' once has lt lasts_is earlier_is h = record {
  last = λ k. subst (λ z. IsLast Key k z (slice_index lasts' k)) (sym longer) (elim (cases_eq k key) [
    | inl same ↦ subst (IsLast Key k (length earlier + 1)) (sym (ap (λ z. slice_index lasts' z) same ∙ here)) (record {
      within = omega arith;
      has = λ j e. subst (λ z. Key z k) (let f : length earlier ≡ j = omega (arith, e) in f) (subst (Key (length earlier)) (sym same) has);
      others = λ j from below. absurd (omega (arith, from, below));
    })
    | inr other ↦
        let before = h.last k in
        subst (IsLast Key k (length earlier + 1)) (sym (there k other)) (record {
          within = (let w = before.within in omega (arith, w));
          has = before.has;
          others = λ j from below is. elim (cases_eq j (length earlier)) [
            | inl last ↦ other (once (length earlier) k key (subst (λ z. Key z k) last is) has)
            | inr ne ↦ before.others j from (omega (arith, below, ne)) is
          ];
        })
  ]);
  before = λ j k below is. elim (cases_eq j (length earlier)) [
    | inl last ↦
        let same : k ≡ key = once (length earlier) k key (subst (λ z. Key z k) last is) has in
        subst (λ z. IsLast Key k z (slice_index earlier' j)) (sym last)
        (subst (IsLast Key k (length earlier)) (sym (ap (λ z. slice_index earlier' z) last ∙ at_last)) (subst (λ z.
        IsLast Key z (length earlier) (slice_index lasts key)) (sym same) (h.last key)))
    | inr ne ↦
        let old : j < length earlier = (let e = longer in omega (arith, below, ne, e)) in
        subst (IsLast Key k j) (sym (at_old j old)) (h.before j k old is)
  ];
}
  where
    longer : length earlier' ≡ length earlier + 1
    longer = ap length earlier_is ∙ length-append earlier (slice_index lasts key ∷ [])

    here : slice_index lasts' key ≡ length earlier + 1
    here = ap (λ z. slice_index z key) lasts_is ∙ get_or-set_same lasts key (length earlier + 1) 0 lt

    there : (k : ℕ) → (k ≡ key → ⊥) → slice_index lasts' k ≡ slice_index lasts k
    there k ne = ap (λ z. slice_index z k) lasts_is ∙ get_or-set_other lasts key k (length earlier + 1) 0 ne

    at_last : slice_index earlier' (length earlier) ≡ slice_index lasts key
    at_last = ap (λ z. slice_index z (length earlier)) earlier_is
        ∙ default_at (earlier ++ slice_index lasts key ∷ []) (length earlier) 0 (slice_index lasts key)
        (push_last earlier (slice_index lasts key))

    at_old : (j : ℕ) → j < length earlier → slice_index earlier' j ≡ slice_index earlier j
    at_old j below = ap (λ z. slice_index z j) earlier_is
        ∙ default_at (earlier ++ slice_index lasts key ∷ []) j 0 (slice_index earlier j)
        (push_before earlier (slice_index lasts key) j below ∙ slice_get-get_or earlier j 0 below)

-- an entry has one key
pub in_group_once : (groups : List ℕ) (j k k' : ℕ) → IsInGroup groups j k → IsInGroup groups j k' → k ≡ k'
in_group_once groups j k k' one two = at_once groups j k k' one two

pub leaves_once : (edges : List Edge) (groups : List ℕ) (j k k' : ℕ) → LeavesGroup edges groups j k → LeavesGroup edges groups j k' → k ≡ k'
leaves_once edges groups j k k' (e, at, is) (f, at', is') =
    let same : e ≡ f = at_once edges j e f at at' in
    at_once groups f.0 k k' (subst (λ (z : Edge). slice_get groups z.0 ≡ Some k) same is) is'

-- one entry more
pub pushed_len : (earlier earlier' : List ℕ) (x n : ℕ) → earlier' ≡ earlier ++ x ∷ [] → length earlier ≡ n → length earlier' ≡ n + 1
pushed_len earlier earlier' x n is len = ap length is ∙ length-append earlier (x ∷ []) ∙ ap (λ z. z + 1) len
