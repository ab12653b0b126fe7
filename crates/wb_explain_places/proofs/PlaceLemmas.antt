-- The lines that show a place, from their parts.
use Rattle.std.proofs.Common.{◌≡◌, ◌≢◌, ◌+◌, ◌≤◌, ◌<◌, ◌∙◌, ℕ, List, ◌++◌, slice_index, slice_range, ap, ◌⊎◌, inl, inr, Result, Ok, Err, OnOk}
use Rattle.std.proofs.lemmas.Bool.{cases_lt}
use Rattle.wb_lemmas.proofs.Parts.{append_assoc}
use Rattle.wb_explain_places.specs.Inner.Ends.{IsLineEnd}
use Rattle.wb_explain_places.specs.LineStarts.{IsLineStart}
use Rattle.wb_explain_places.specs.Place.{column, heading, line_number, pointed, IsLineOf, Shows}

-- a line from its beginning to its end
line_of : (text : List ℕ) (at start end : ℕ) → IsLineStart text at start → IsLineEnd text at end → IsLineOf text at start end
line_of text at start end first last = record {
  from = first.from;
  to = last.to;
  within = last.within;
  begins = first.begins;
  ends = last.ends;
  one = λ k low high. none k low high (cases_lt k at);
}
  where
    none : (k : ℕ) → start ≤ k → k < end → (k < at) ⊎ (at ≤ k) → slice_index text k ≢ 10
    none k low high (inl before) = first.none k low before
    none k low high (inr after) = last.none k after high

-- what was pushed shows the place
pub shows : {X E : Type 0} (r : Result X E) (file text before mid now : List ℕ) (at start end line place : ℕ)
    → IsLineStart text at start → IsLineEnd text at end → line ≡ line_number text at → place ≡ column text at start
    → mid ≡ before ++ heading file line place → OnOk r (now ≡ mid ++ pointed (slice_range text start at) (slice_range text at end))
    → OnOk r (Shows file text at before now)
shows (Ok x) file text before mid now at start end line place first last line_is place_is headed shown = record {
  start = start;
  end = end;
  line = line_of text at start end first last;
  lines =
      let parts = pointed (slice_range text start at) (slice_range text at end) in
      shown ∙ (ap (λ l. l ++ parts) (headed ∙ (ap (λ (n : ℕ). before ++ heading file n place) line_is
      ∙ ap (λ (n : ℕ). before ++ heading file (line_number text at) n) place_is))
      ∙ append_assoc before (heading file (line_number text at) (column text at start)) parts);
}
shows (Err e) file text before mid now at start end line place first last line_is place_is headed shown = tt
