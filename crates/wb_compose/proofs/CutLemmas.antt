-- Rows in groups, cut where the counts say.
use Rattle.std.proofs.Common.{◌≡◌, ◌∙◌, ◌≤◌, ◌+◌, ◌-◌, ◌++◌, [], ◌∷◌, ℕ, zero, suc, List, length, take, drop, refl, ap, arith}
use Rattle.std.proofs.lemmas.List.{length-append, take-append-drop}
use Rattle.std.proofs.lemmas.Slice.Zip.{AllZip-long}
use Rattle.wb_compose_theory_lists.proofs.SplitLemmas.{Groups, Parts}
use Rattle.wb_lemmas.proofs.Parts.{drop_append, take_append}
use Rattle.wb_certify.proofs.RowLemmas.{length-take_within}

-- so many are dropped where there are so many
pub length-drop_within : {X : Type 0} (n : ℕ) (xs : List X) → n ≤ length xs → length (drop n xs) ≡ length xs - n
length-drop_within {X} n xs within =
    let whole = ap (λ (z : List X). length z) (take-append-drop n xs) in
    let joined = length-append (take n xs) (drop n xs) in
    let taken = length-take_within n xs within in omega (arith, whole, joined, taken)

-- past the first and so many of the second
drop_append_more : {X : Type 0} (n k : ℕ) (xs ys : List X) → length xs + k ≡ n → drop n (xs ++ ys) ≡ drop k ys
drop_append_more n k [] ys is = let e : n ≡ k = omega (arith, is) in ap (λ z. drop z ys) e
drop_append_more zero k (x ∷ xs) ys is = absurd (omega (arith, is))
drop_append_more (suc n) k (x ∷ xs) ys is = drop_append_more n k xs ys (omega (arith, is))

-- rows of one group: what is declared comes after as many as were there
pub part_cut : {A B C : Type 0} (M : A → C → Type 0) (W : B → C → Type 0) (before : List A) (declared : List B) (rows : List C)
    (p : Parts M W before declared rows) → drop (length before) rows ≡ p.own
part_cut M W before declared rows p =
    ap (drop (length before)) p.are ∙ drop_append (length before) p.moved p.own (AllZip-long M before p.moved p.are_moved)

module _ {A B C : Type 0} (M : A → C → Type 0) (W : B → C → Type 0) (before : List A) (count : ℕ) (rows : List C)
    (g : Groups M W before count rows) (within : count ≤ length before) where
  moved_first : length g.lead_parts.moved ≡ count
  moved_first =
      AllZip-long M (take count before) g.lead_parts.moved g.lead_parts.are_moved ∙ length-take_within count before within

  moved_after : length g.follow_parts.moved ≡ length before - count
  moved_after =
      AllZip-long M (drop count before) g.follow_parts.moved g.follow_parts.are_moved ∙ length-drop_within count before within

  -- how many are declared of those that lead
  pub lead_long : length g.leading ≡ count + length g.lead_parts.own
  lead_long =
      let is = ap (λ (z : List C). length z) g.lead_parts.are in
      let joined = length-append g.lead_parts.moved g.lead_parts.own in
      let first = moved_first in omega (arith, is, joined, first)

  -- they come after as many as led
  pub lead_cut : (total : ℕ) → length g.leading ≡ total → drop count (take total rows) ≡ g.lead_parts.own
  lead_cut total long =
      ap (λ z. drop count (take total z)) g.are
      ∙ (ap (drop count) (take_append total g.leading g.following long)
      ∙ (ap (drop count) g.lead_parts.are
      ∙ drop_append count g.lead_parts.moved g.lead_parts.own moved_first))

  -- and the others come after all that lead and as many as were there
  pub follow_cut : (total : ℕ) → length g.leading ≡ total → drop (total + (length before - count)) rows ≡ g.follow_parts.own
  follow_cut total long =
      ap (drop (total + (length before - count))) g.are
      ∙ (drop_append_more (total + (length before - count)) (length before - count) g.leading g.following (omega (arith, long))
      ∙ (ap (drop (length before - count)) g.follow_parts.are
      ∙ drop_append (length before - count) g.follow_parts.moved g.follow_parts.own moved_after))
