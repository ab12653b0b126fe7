-- Kernels by the productions of their items, as a loop gathers them.
use Rattle.std.proofs.Common.{◌≡◌, ◌≢◌, ◌<◌, ◌≤◌, ◌+◌, ◌∙◌, ◌⊎◌, ℕ, zero, suc, List, [], ◌∷◌, ◌++◌, Some, length, replicate, get_or, refl}
use Rattle.std.proofs.Common.{sym, subst, ap, inl, inr, arith, length-set}
use Rattle.std.specs.Prelude.{slice_get, slice_set, Contains}
use Rattle.std.proofs.lemmas.List.{length-replicate}
use Rattle.std.proofs.lemmas.Bool.{cases_eq}
use Rattle.std.proofs.lemmas.Option.{same_Some, slice_get_within, slice_get-get_or}
use Rattle.wb_lemmas.proofs.Members.{contains_push, nothing_in, place_of, push_contains, push_contains_last}
use Rattle.wb_grammar_theory.specs.declared.item.Item.{Item}
use Rattle.wb_grammar_theory.specs.Items.{IsKernelItem}
use Rattle.wb_items.specs.Kernels.{KernelsView, ListsKernel, prefix_of}
use Rattle.wb_determinism.specs.Inner.Index.{IsIndex, IsIndexUpTo}

-- what is at a place after another was written: what was written, or what was there
at_written : {X : Type 0} (xs : List X) (p : ℕ) (x : X) (q : ℕ) (y : X) → slice_get (slice_set xs p x) q ≡ Some y
    → ((q ≡ p) × (y ≡ x)) ⊎ (slice_get xs q ≡ Some y)
at_written [] p x q y at = inr at
at_written (z ∷ xs) zero x zero y at = inl (refl, sym (same_Some x y at))
at_written (z ∷ xs) zero x (suc q) y at = inr at
at_written (z ∷ xs) (suc p) x zero y at = inr at
at_written (z ∷ xs) (suc p) x (suc q) y at = elim (at_written xs p x q y at) [
  | inl (same, is) ↦ inl (ap suc same, is)
  | inr old ↦ inr old
]

empty_row : (count p : ℕ) (row : List ℕ) → slice_get (replicate count []) p ≡ Some row → row ≡ []
empty_row zero p row at = cc
empty_row (suc count) zero row at = sym (same_Some [] row at)
empty_row (suc count) (suc p) row at = empty_row count p row at

pub index_none : (kernels : KernelsView) (count : ℕ) → count ≡ length kernels.grammar.productions + 1
    → IsIndex kernels 0 (replicate count [])
index_none kernels count is = record {
  len = length-replicate count [] ∙ is;
  sound = λ p s row at has. absurd (nothing_in s (subst (λ (r : List ℕ). Contains r s) (empty_row count p row at) has));
  complete = λ s item row below. absurd (omega (arith, below));
}

pub index_begin : (kernels : KernelsView) (n : ℕ) (items : List Item) (index : List (List ℕ)) → IsIndex kernels n index
    → IsIndexUpTo kernels n items 0 index
index_begin kernels n items index is = record {
  len = is.len;
  sound = λ p s row at has. (let below = is.sound p s row at has in omega (arith, below));
  complete = is.complete;
  listed = λ j item row below. absurd (omega (arith, below));
}

-- the kernel is listed at the production of one item more
pub index_more : (kernels : KernelsView) (n : ℕ) (items : List Item) (i : ℕ) (d : Item) (index : List (List ℕ)) (row : List ℕ)
    → i < length items → slice_get index (get_or items i d).production ≡ Some row → IsIndexUpTo kernels n items i index
    → IsIndexUpTo kernels n items (i + 1) (slice_set index (get_or items i d).production (row ++ n ∷ []))
index_more kernels n items i d index row within at is = record {
  len = length-set index p (row ++ n ∷ []) ∙ is.len;
  sound = λ q s other there has. elim (at_written index p (row ++ n ∷ []) q other there) [
    | inl (same, new) ↦ elim (contains_push row n s (subst (λ (r : List ℕ). Contains r s) new has)) [
      | inl old ↦ is.sound p s row at old
      | inr last ↦ omega (arith, last)
    ]
    | inr old ↦ is.sound q s other old has
  ];
  complete = λ s item other below has there. elim (at_written index p (row ++ n ∷ []) item.production other there) [
    | inl (same, new) ↦
        subst (λ (r : List ℕ). Contains r s) (sym new)
        (push_contains row n s (is.complete s item row below has (ap (slice_get index) same ∙ at)))
    | inr old ↦ is.complete s item other below has old
  ];
  listed = λ j item other below here there. elim (at_written index p (row ++ n ∷ []) item.production other there) [
    | inl (same, new) ↦ subst (λ (r : List ℕ). Contains r n) (sym new) (push_contains_last row n)
    | inr old ↦ old_listed j item other below here old there (cases_eq j i)
  ];
}
  where
    p : ℕ
    p = (get_or items i d).production

    old_listed : (j : ℕ) (item : Item) (other : List ℕ) → j < i + 1 → slice_get items j ≡ Some item
        → slice_get index item.production ≡ Some other
        → slice_get (slice_set index p (row ++ n ∷ [])) item.production ≡ Some other → (j ≡ i) ⊎ (j ≢ i) → Contains other n
    old_listed j item other below here old there (inr differs) = is.listed j item other (omega (arith, below, differs)) here old
    old_listed j item other below here old there (inl same) =
        let one : get_or items i d ≡ item = same_Some (get_or items i d) item
        (sym (slice_get-get_or items i d within) ∙ subst (λ (k : ℕ). slice_get items k ≡ Some item) same here) in
        let written = written_at index p (row ++ n ∷ []) (slice_get_within index p row at) in
        let new : row ++ n ∷ [] ≡ other = same_Some (row ++ n ∷ []) other
        (sym written ∙ ap (λ (k : Item). slice_get (slice_set index p (row ++ n ∷ [])) k.production) one ∙ there) in
        subst (λ (r : List ℕ). Contains r n) new (push_contains_last row n)
      where
        written_at : (xs : List (List ℕ)) (k : ℕ) (x : List ℕ) → k < length xs → slice_get (slice_set xs k x) k ≡ Some x
        written_at [] k x lt = absurd (omega (arith, lt))
        written_at (y ∷ xs) zero x lt = refl
        written_at (y ∷ xs) (suc k) x lt = written_at xs k x (omega (arith, lt))

-- all items of the kernel
pub index_done : (kernels : KernelsView) (n : ℕ) (items : List Item) (i : ℕ) (index : List (List ℕ)) → length items ≤ i
    → ListsKernel kernels.grammar (prefix_of kernels n) items → IsIndexUpTo kernels n items i index → IsIndex kernels (n + 1) index
index_done kernels n items i index past lists is = record {
  len = is.len;
  sound = is.sound;
  complete = λ s item row below has at. by s item row below has at (cases_eq s n);
}
  where
    by : (s : ℕ) (item : Item) (row : List ℕ) → s < n + 1 → IsKernelItem kernels.grammar (prefix_of kernels s) item
        → slice_get index item.production ≡ Some row → (s ≡ n) ⊎ (s ≢ n) → Contains row s
    by s item row below has at (inr differs) = is.complete s item row (omega (arith, below, differs)) has at
    by s item row below has at (inl same) =
        let (j, there) = place_of items item
        ((lists item).1 (subst (λ (k : ℕ). IsKernelItem kernels.grammar (prefix_of kernels k) item) same has)) in
        subst (Contains row) (sym same)
        (is.listed j item row (let w = slice_get_within items j item there in omega (arith, w, past)) there at)
