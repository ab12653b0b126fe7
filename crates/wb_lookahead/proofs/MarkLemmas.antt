-- Marks of places that wait.
use Rattle.std.proofs.Common.{◌≡◌, ℕ, ◌<◌, ◌≤◌, ◌⊎◌, suc, Bool, true, false, List, [], ◌∷◌, ◌++◌, length, get_or, set, refl, sym, ◌∙◌}
use Rattle.std.proofs.Common.{ap, subst, inl, inr, arith, get_or-set_same, get_or-set_other, length-append, length-set}
use Rattle.std.specs.Prelude.{Contains, replicate}
use Rattle.std.proofs.lemmas.Bool.{cases_eq, cases_lt, true≢false}
use Rattle.std.proofs.lemmas.List.{get_or_past}
use Rattle.std.proofs.Math.ListN.{get_or-append}
use Rattle.std.proofs.Math.Seq.{get_or-append_seam}
use Rattle.std.proofs.lemmas.List.Elements.{Contains-append_left, Contains-push}
use Rattle.wb_termset.proofs.CallerLemmas.{IsEmpty-replicate}
use Rattle.wb_lookahead.specs.declared.worklist.Place.{Place}
use Rattle.wb_lookahead.specs.Inner.Waiting.{IsMarked, AreMarked, MarksChange}
use Rattle.wb_lemmas.proofs.Members.{contains_cases}

-- a row of marks after one was put
row_changes : (row : List Bool) (at j : ℕ) (mark : Bool) → get_or (set row at mark) j false ≡ true → ((j ≡ at) × (mark ≡ true)) ⊎
    ((get_or row j false ≡ true) × (j ≡ at → ⊥))
row_changes row at j mark h = elim (cases_eq j at) [
  | inl same ↦ elim (cases_lt at (length row)) [
    | inl lt ↦ inl (same, sym (get_or-set_same row at mark false lt) ∙ ap (λ z. get_or (set row at mark) z false) (sym same) ∙ h)
    | inr past ↦ absurd (true≢false (sym h ∙ get_or_past (set row at mark) j false (omega (arith, length-set row at mark))))
  ]
  | inr ne ↦ inr (sym (get_or-set_other row at j mark false ne) ∙ h, ne)
]

-- marks after one of a row was put
pub marks_put : (marks new : List (List Bool)) (s at : ℕ) (row : List Bool) (mark : Bool) → s < length marks →
    row ≡ set (get_or marks s []) at mark → new ≡ set marks s row →
    MarksChange marks s at mark new
marks_put marks new s at row mark lt row_is is k j h = elim (cases_eq k s) [
  | inl same ↦
      let here : get_or (set (get_or marks s []) at mark) j false ≡ true =
      ap (λ z. get_or z j false) (sym (get_or-set_same marks s row [] lt ∙ row_is)) ∙ ap (λ z. get_or (get_or z s []) j false) (sym is)
      ∙ ap (λ z. get_or (get_or new z []) j false) (sym same) ∙ h in
      elim (row_changes (get_or marks s []) at j mark here) [
        | inl (j_is, on) ↦ inr (same, j_is, on)
        | inr (old, ne) ↦ inl (subst (λ z. IsMarked marks z j) (sym same) old, λ both. ne both.1)
      ]
  | inr ne ↦ inl (
    ap (λ z. get_or z j false) (sym (get_or-set_other marks s k row [] ne)) ∙ ap (λ z. get_or (get_or z k []) j false)
        (sym is) ∙ h,
    λ both. ne both.0,
  )
]

-- where there is no such row, there is no mark
pub marks_past : (marks : List (List Bool)) (s at : ℕ) (mark : Bool) → length marks ≤ s → MarksChange marks s at mark marks
marks_past marks s at mark past k j h = elim (cases_eq k s) [
  | inl same ↦ absurd (true≢false (sym h ∙ ap (λ z. get_or z j false) (ap (λ z. get_or marks z []) same ∙ get_or_past marks s [] past)))
  | inr ne ↦ inl (h, λ both. ne both.0)
]

-- a place that is added, with its mark
pub marked_more : (waiting : List Place) (marks new : List (List Bool)) (place : Place) → AreMarked waiting marks →
    MarksChange marks place.state place.at true new →
    AreMarked (waiting ++ place ∷ []) new
marked_more waiting marks new place h change s at marked = elim (change s at marked) [
  | inl (old, _) ↦ (let (item, there) = h s at old in
      (item, Contains-append_left waiting (place ∷ []) (record { state = s; item = item; at = at }) there))
  | inr (s_is, at_is, _) ↦
      let is : place ≡ record { state = s; item = place.item; at = at } = λ i. record {
        state = sym s_is i;
        item = place.item;
        at = sym at_is i;
      } in
      (place.item, subst (Contains (waiting ++ place ∷ [])) is (Contains-push waiting place))
]

-- the same of one that is added before the others
pub marked_before : (waiting : List Place) (marks new : List (List Bool)) (place : Place) → AreMarked waiting marks →
    MarksChange marks place.state place.at true new →
    AreMarked (place ∷ waiting) new
marked_before waiting marks new place h change s at marked = elim (change s at marked) [
  | inl (old, _) ↦ (let (item, (k, lt, is)) = h s at old in (item, (suc k, omega arith, is)))
  | inr (s_is, at_is, _) ↦
      let is : place ≡ record { state = s; item = place.item; at = at } = λ i. record {
        state = sym s_is i;
        item = place.item;
        at = sym at_is i;
      } in
      (place.item, subst (Contains (place ∷ waiting)) is (0, omega arith, refl))
]

-- the first place is taken, with its mark
pub marked_less : (waiting all : List Place) (marks new : List (List Bool)) (place : Place) → AreMarked all marks → all ≡ place ∷ waiting →
    MarksChange marks place.state place.at false new → AreMarked waiting new
marked_less waiting all marks new place h is change s at marked = elim (change s at marked) [
  | inl (old, other) ↦
      let (item, there) = h s at old in
      elim (contains_cases place (record { state = s; item = item; at = at }) waiting
      (subst (λ z. Contains z (record { state = s; item = item; at = at })) is there)) [
        | inl same ↦ absurd (other (sym (ap (λ (z : Place). z.state) same), sym (ap (λ (z : Place). z.at) same)))
        | inr later ↦ (item, later)
      ]
  | inr (_, _, on) ↦ absurd (true≢false (sym on))
]

-- rows without marks
pub none_marked : (marks : List (List Bool)) (count : ℕ) → ((s at : ℕ) → IsMarked marks s at → ⊥) → (s at : ℕ) →
    IsMarked (marks ++ replicate count false ∷ []) s at → ⊥
none_marked marks count h s at marked = elim (cases_lt s (length marks)) [
  | inl lt ↦ h s at (ap (λ z. get_or z at false) (sym (get_or-append marks (replicate count false ∷ []) [] s lt)) ∙ marked)
  | inr ge ↦ elim (cases_eq s (length marks)) [
    | inl same ↦ IsEmpty-replicate count at (ap (λ z. get_or z at false)
        (sym (ap (λ z. get_or (marks ++ replicate count false ∷ []) z []) same ∙ get_or-append_seam marks (replicate count false) [] [])) ∙
        marked)
    | inr ne ↦ absurd (true≢false (sym marked ∙ ap (λ z. get_or z at false)
        (get_or_past (marks ++ replicate count false ∷ []) s [] (omega (arith, length-append marks (replicate count false ∷ []))))))
  ]
]
