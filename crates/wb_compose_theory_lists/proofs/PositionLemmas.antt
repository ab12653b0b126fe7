-- Where what was there before stands among the rows, and that its moved number is that place.
use Rattle.std.proofs.Common.{◌≡◌, ◌⊎◌, ◌∙◌, ◌<◌, ◌≤◌, ◌+◌, ◌++◌, ◌∷◌, [], ℕ, suc, List, Some, length, map, slice_get, take, drop, refl}
use Rattle.std.proofs.Common.{sym, ap}
use Rattle.std.proofs.Common.{subst, inl, inr, arith}
use Rattle.std.specs.List.{AllZip}
use Rattle.std.proofs.lemmas.List.{take-append-drop, length-append}
use Rattle.std.proofs.lemmas.Option.{slice_get_within}
use Rattle.wb_lemmas.proofs.Places.{at_append, append_after, append_keeps}
use Rattle.wb_lemmas.proofs.Zips.{zip_at}
use Rattle.wb_syntax_resolved.specs.Once.{Entry, NamesDiffer}
use Rattle.wb_names_numbers_theory.specs.Moved.{IsMovedNumber}
use Rattle.wb_compose_theory_attributes.proofs.EntryLemmas.{row_of, entry_at}
use Rattle.wb_compose_theory_lists.specs.Joined.{Block, place_after, place_grouped}
use Rattle.wb_compose_theory_lists.proofs.PlacedLemmas.{Fits, alone, host_alone, after_below, alone_below, alone_between}
use Rattle.wb_compose_theory_lists.proofs.SplitLemmas.{Parts, Groups}

pub zip_length : {A C : Type 0} (R : A → C → Type 0) (xs : List A) (ys : List C) → AllZip R xs ys → length ys ≡ length xs
zip_length R [] [] all = refl
zip_length R [] (y ∷ ys) all = absurd all
zip_length R (x ∷ xs) [] all = absurd all
zip_length R (x ∷ xs) (y ∷ ys) all = ap suc (zip_length R xs ys all.1)

alone_fits : (size : ℕ) → Fits (alone size)
alone_fits size = inr (omega arith)

-- what a row is moved to
pub record MovedTo {A C : Type 0} (M : A → C → Type 0) (rows : List C) (number : ℕ) (x : A) : Type 0 where
  pub row : C
  pub at : slice_get rows number ≡ Some row
  pub moved : M x row

module _ {A B C : Type 0} (M : A → C → Type 0) (W : B → C → Type 0) (before : List A) where
  -- in one group
  pub part_at : (declared : List B) (rows : List C) → Parts M W before declared rows → (i : ℕ) (x : A) → slice_get before i ≡ Some x
      → MovedTo M rows i x
  part_at declared rows p i x at =
      let there = zip_at M before p.moved i x p.are_moved at in
      record {
        row = there.other;
        at = ap (λ z. slice_get z i) p.are ∙ append_keeps p.moved p.own i there.other there.there;
        moved = there.related;
      }

  -- in two
  module _ (count : ℕ) (rows : List C) (g : Groups M W before count rows) where
    abbrev lead : ℕ
    lead = length (take count before)

    abbrev follow : ℕ
    follow = length (drop count before)

    abbrev first : ℕ
    first = length g.lead_parts.own

    abbrev second : ℕ
    second = length g.follow_parts.own

    abbrev pub place : ℕ → ℕ
    place i = place_grouped lead follow (host_alone first) (host_alone second) i

    in_lead : (i : ℕ) (x : A) → slice_get (take count before) i ≡ Some x → MovedTo M rows (place i) x
    in_lead i x at =
        let there = part_at' g.lead g.leading g.lead_parts i x at in
        let less : i < lead = slice_get_within (take count before) i x at in
        let is = alone_below lead follow (alone first) (alone second) (alone_fits first) (alone_fits second) i less in
        record {
          row = there.row;
          at = ap (slice_get rows) is ∙ (ap (λ z. slice_get z i) g.are ∙ append_keeps g.leading g.following i there.row there.at);
          moved = there.moved;
        }
      where
        part_at' : (declared : List B) (some : List C) → Parts M W (take count before) declared some → (i : ℕ) (x : A)
            → slice_get (take count before) i ≡ Some x → MovedTo M some i x
        part_at' declared some p i x at =
            let there = zip_at M (take count before) p.moved i x p.are_moved at in
            record {
              row = there.other;
              at = ap (λ z. slice_get z i) p.are ∙ append_keeps p.moved p.own i there.other there.there;
              moved = there.related;
            }

    in_follow : (i j : ℕ) (x : A) → i ≡ lead + j → slice_get (drop count before) j ≡ Some x → MovedTo M rows (place i) x
    in_follow i j x i_is at =
        let there = zip_at M (drop count before) g.follow_parts.moved j x g.follow_parts.are_moved at in
        let less : j < follow = slice_get_within (drop count before) j x at in
        let far : lead ≤ i = omega (arith, i_is) in
        let near : i < lead + follow = omega (arith, i_is, less) in
        let is = alone_between lead follow (alone first) (alone second) (alone_fits first) (alone_fits second) i far near in
        let whole = ap (λ (z : List C). length z) g.lead_parts.are ∙ length-append g.lead_parts.moved g.lead_parts.own in
        let moved = zip_length M (take count before) g.lead_parts.moved g.lead_parts.are_moved in
        let index : i + first ≡ length g.leading + j = omega (arith, i_is, whole, moved) in
        record {
          row = there.other;
          at = ap (slice_get rows) (is ∙ index) ∙ (ap (λ z. slice_get z (length g.leading + j)) g.are
              ∙ (append_after g.leading g.following j ∙ (ap (λ z. slice_get z j) g.follow_parts.are
              ∙ append_keeps g.follow_parts.moved g.follow_parts.own j there.other there.there)));
          moved = there.related;
        }

    pub group_at : (i : ℕ) (x : A) → slice_get before i ≡ Some x → MovedTo M rows (place i) x
    group_at i x at =
        elim (at_append (take count before) (drop count before) x i (ap (λ z. slice_get z i) (take-append-drop count before) ∙ at)) [
          | inl here ↦ in_lead i x here
          | inr (j, is, there) ↦ in_follow i j x is there
        ]

-- a moved number is the place of what it names
pub moved_is : {A C : Type 0} (M : A → C → Type 0) (entry : A → Entry) (name : C → Entry) (before : List A) (rows : List C) (place : ℕ → ℕ)
    → ((x : A) (y : C) → M x y → name y ≡ entry x) → ((i : ℕ) (x : A) → slice_get before i ≡ Some x → MovedTo M rows (place i) x)
    → NamesDiffer (map name rows) → (i j : ℕ) → IsMovedNumber (λ (owner : ℕ). owner) (map entry before) (map name rows) i j → j ≡ place i
moved_is M entry name before rows place names there differ i j moved =
    let (x, at, is) = row_of entry before i moved.owner moved.name moved.before in
    let to = there i x at in
    let same = entry_at name rows (place i) to.row to.at ∙ ap Some (names x to.row to.moved ∙ is) in
    differ j (place i) moved.owner moved.owner moved.name moved.after same (inr refl)
