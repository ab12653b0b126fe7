-- What is next at a prefix of a language is next there in one that extends it, where no marker is; and the other way round.
use Rattle.std.proofs.Common.{◌≡◌, ◌⊎◌, ◌∙◌, ◌+◌, ◌-◌, ◌<◌, ◌≤◌, ◌++◌, ◌∷◌, ℕ, Bool, List, Some, [], ap, inl, inr, length, slice_get, refl}
use Rattle.std.proofs.Common.{subst, sym}
use Rattle.std.proofs.Common.{arith}
use Rattle.std.proofs.lemmas.Option.{slice_get_within}
use Rattle.wb_lemmas.proofs.Places.{at_once}
use Rattle.wb_base.specs.declared.symbol.Symbol.{Symbol}
use Rattle.wb_termset.specs.Sets.{IsMember}
use Rattle.wb_grammar_theory.specs.Items.{IsViablePrefix}
use Rattle.wb_scan_theory.specs.declared.form.Form.{Form}
use Rattle.wb_scan_theory.specs.Facts.{IsLanguage}
use Rattle.wb_scan_theory.specs.Languages.{LanguageView, IsLayout}
use Rattle.wb_scan_theory.specs.Tokens.{Next, NextToken, token, skipped, wins, ends, fails}
use Rattle.wb_scan_theory.specs.Winners.{Wins}
use Rattle.wb_reading_theory.specs.Languages.{IsSameForm, of_terminal, of_layout, ExtendsLanguage}
use Rattle.wb_reading_theory.proofs.FormLemmas.{IsMarkerForm, wins_from, wins_to}

-- next on the text from the place on isn't a marker
abbrev pub IsUnmarked : LanguageView → List Bool → List ℕ → List Symbol → ℕ → Type 0
IsUnmarked u markers text prefix at =
    (begin t : ℕ) (lexeme : List ℕ) (after : ℕ) → NextToken u text prefix at (token begin t lexeme after) → ¬ IsMember markers t

module _ {h u : LanguageView} {markers : List Bool} (of_host : IsLanguage h) (of_union : IsLanguage u)
    (extends : ExtendsLanguage h u markers)
    (prefix : List Symbol) (viable : IsViablePrefix h.grammar prefix) (there : IsViablePrefix u.grammar prefix) (text : List ℕ) where
  -- a marker that wins is next
  marked : {at : ℕ} → IsUnmarked u markers text prefix at → (q : ℕ) (piece : List ℕ) → Wins u prefix text at q piece →
      IsMarkerForm u markers q → ⊥
  marked {at} unmarked q piece w m =
      let (lexeme, is) = of_union.written.prefixes q m.form piece m.at w.matches.is in
      unmarked at m.form.terminal lexeme (at + length piece) (wins q m.form piece lexeme m.at w is refl) m.marks

  -- the same form is of layout in both, or in none
  layout_to : {p q : ℕ} → IsSameForm h u p q → IsLayout h p → IsLayout u q
  layout_to {p} {q} (of_terminal form at to) (low, high) = let within = slice_get_within h.forms p form at in
      absurd (omega (arith, within, low))
  layout_to {p} {q} (of_layout k less p_is q_is) is =
      let len = extends.forms.layout in (omega (arith, q_is), omega (arith, q_is, less, len))

  layout_from : {p q : ℕ} → IsSameForm h u p q → IsLayout u q → IsLayout h p
  layout_from {p} {q} (of_terminal form at to) (low, high) = let within = slice_get_within u.forms q form to in
      absurd (omega (arith, within, low))
  layout_from {p} {q} (of_layout k less p_is q_is) is = (omega (arith, p_is), omega (arith, p_is, less))

  form_to : {p q : ℕ} (form : Form) → IsSameForm h u p q → slice_get h.forms p ≡ Some form → slice_get u.forms q ≡ Some form
  form_to {p} {q} form (of_terminal also at to) at' = to ∙ ap Some (at_once h.forms p also form at at')
  form_to {p} {q} form (of_layout k less p_is q_is) at = let within = slice_get_within h.forms p form at in
      absurd (omega (arith, within, p_is))

  form_from : {p q : ℕ} (form : Form) → IsSameForm h u p q → slice_get u.forms q ≡ Some form → slice_get h.forms p ≡ Some form
  form_from {p} {q} form (of_terminal also at to) to' = at ∙ ap Some (at_once u.forms q also form to to')
  form_from {p} {q} form (of_layout k less p_is q_is) to = let within = slice_get_within u.forms q form to in
      absurd (omega (arith, within, q_is))

  -- what wins here wins there at the same form
  wins_same : {at : ℕ} → IsUnmarked u markers text prefix at → (p : ℕ) (piece : List ℕ) → Wins h prefix text at p piece →
      (q : ℕ) × IsSameForm h u p q × Wins u prefix text at q piece
  wins_same {at} unmarked p piece w = elim (wins_to of_host of_union extends prefix viable there text at p piece w) [
    | inl found ↦ found
    | inr (q, longer, v, marker) ↦ absurd (marked unmarked q longer v marker)
  ]

  wins_back : {at : ℕ} → IsUnmarked u markers text prefix at → (q : ℕ) (piece : List ℕ) → Wins u prefix text at q piece →
      (p : ℕ) × IsSameForm h u p q × Wins h prefix text at p piece
  wins_back {at} unmarked q piece w = elim (wins_from of_host of_union extends prefix viable there text at q piece w) [
    | inl found ↦ found
    | inr marker ↦ absurd (marked unmarked q piece w marker)
  ]

  pub next_to : {at : ℕ} {next : Next} → IsUnmarked u markers text prefix at → NextToken h text prefix at next →
      NextToken u text prefix at next
  next_to {at} unmarked (skipped p piece is w rest) =
      let (q, same, v) = wins_same unmarked p piece w in
      let layout = layout_to same is in
      skipped q piece layout v (next_to (λ begin t lexeme after n. unmarked begin t lexeme after (skipped q piece layout v n)) rest)
  next_to {at} unmarked (wins p form piece lexeme form_at w is next_is) =
      let (q, same, v) = wins_same unmarked p piece w in wins q form piece lexeme (form_to form same form_at) v is next_is
  next_to unmarked (ends is next_is) = ends is next_is
  next_to {at} unmarked (fails less none_wins next_is) =
      fails less (λ q piece v. let (p, same, w) = wins_back unmarked q piece v in none_wins p piece w) next_is

  pub next_from : {at : ℕ} {next : Next} → IsUnmarked u markers text prefix at → NextToken u text prefix at next →
      NextToken h text prefix at next
  next_from {at} unmarked (skipped q piece is v rest) =
      let (p, same, w) = wins_back unmarked q piece v in
      skipped p piece (layout_from same is) w
      (next_from (λ begin t lexeme after n. unmarked begin t lexeme after (skipped q piece is v n)) rest)
  next_from {at} unmarked (wins q form piece lexeme form_at v is next_is) =
      let (p, same, w) = wins_back unmarked q piece v in wins p form piece lexeme (form_from form same form_at) w is next_is
  next_from unmarked (ends is next_is) = ends is next_is
  next_from {at} unmarked (fails less none_wins next_is) =
      fails less (λ p piece w. let (q, same, v) = wins_same unmarked p piece w in none_wins q piece v) next_is
