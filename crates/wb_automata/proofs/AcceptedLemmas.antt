-- The lists of accepted terminals.
use Rattle.std.proofs.Common.{◌≡◌, ℕ, ◌+◌, ◌≤◌, List, [], ◌∷◌, ◌++◌, refl, sym, ◌∙◌, ap, subst, arith, inl, inr, Some, length, length-append}
use Rattle.std.specs.Prelude.{slice_get, Contains, ◌↔◌}
use Rattle.std.proofs.lemmas.Bool.{cases_lt, cases_eq}
use Rattle.std.proofs.lemmas.List.{get_or_append_left, get_or_push, get_or_past}
use Rattle.std.proofs.lemmas.Option.{same_Some}
use Rattle.wb_automata_positions.specs.Rows.{row}
use Rattle.wb_automata_positions.specs.Rising.{AreRising}
use Rattle.wb_automata_positions.specs.declared.tables.Tables.{Tables}
use Rattle.wb_automata_positions.specs.Transitions.{EndsAfter}
use Rattle.wb_automata.specs.Inner.Accepted.{AreAccepted}
use Rattle.wb_automata.specs.Inner.Found.{Extends, Found}
use Rattle.wb_automata_positions.proofs.StartLemmas.{rising_none}
use Rattle.wb_automata.proofs.StateLemmas.{back_set}

-- rows rise where each that is added does
pub rising_more : (rows : List (List ℕ)) (all : List ℕ) → AreRising all → ((j : ℕ) → AreRising (row rows j)) → (j : ℕ) → AreRising
    (row (rows ++ all ∷ []) j)
rising_more rows all rise before j = elim (cases_lt j (length rows)) [
  | inl less ↦ rw (get_or_append_left rows (all ∷ []) [] j less) (before j)
  | inr past ↦ elim (cases_eq j (length rows)) [
    | inl e ↦ subst (λ z. AreRising (row (rows ++ all ∷ []) z)) (sym e) (rw (get_or_push rows all [] (length rows) refl) rise)
    | inr ne ↦ rw (get_or_past (rows ++ all ∷ []) j [] (omega (arith, length-append rows (all ∷ [])))) rising_none
  ]
]

pub accepted_none : (t : Tables) (sets : List (List ℕ)) → AreAccepted t sets [] 0
accepted_none t sets = record { len = refl; rising = λ j. rising_none; each = λ j k set lt. absurd (omega arith) }

pub accepted_step : (t : Tables) (sets accepted : List (List ℕ)) (set all : List ℕ) (i : ℕ) → slice_get sets i ≡ Some set →
    ((k : ℕ) → Contains all k ↔ EndsAfter t set k) → AreRising all → AreAccepted t sets accepted i → AreAccepted t sets
    (accepted ++ all ∷ []) (i + 1)
accepted_step t sets accepted set all i at exact rise h = record {
  len = omega (arith, h.len, length-append accepted (all ∷ []));
  rising = rising_more accepted all rise h.rising;
  each = λ j k own lt here. elim (cases_lt j i) [
    | inl early ↦ rw (get_or_append_left accepted (all ∷ []) [] j (omega (arith, h.len))) (h.each j k own early here)
    | inr past ↦
        let same : j ≡ i = omega arith in
        let is : set ≡ own = same_Some set own (sym at ∙ ap (slice_get sets) (sym same) ∙ here) in
        subst (λ z. Contains (row (accepted ++ all ∷ []) z) k ↔ EndsAfter t own k) (sym same)
        (rw (get_or_push accepted all [] i h.len) (subst (λ z. Contains all k ↔ EndsAfter t z k) is (exact k)))
  ];
}

-- lists stay where states are added
pub accepted_extends : (t : Tables) (old new : Found) (accepted : List (List ℕ)) (i : ℕ) → i ≤ length old.sets → Extends old new
    → AreAccepted t old.sets accepted i → AreAccepted t new.sets accepted i
accepted_extends t old new accepted i le g h = record {
  len = h.len;
  rising = h.rising;
  each = λ j k set lt at. h.each j k set lt (back_set old new j set g (omega arith) at);
}
