-- One thing is next, and at each place of a text something is.
use Rattle.std.proofs.Common.{◌≡◌, ◌⊎◌, ◌<◌, ◌≤◌, ◌+◌, ◌-◌, ℕ, zero, suc, List, [], ◌∷◌, ◌++◌, length, drop, refl, sym, ◌∙◌, ap, subst, inl}
use Rattle.std.proofs.Common.{inr, arith, length-drop, length-append}
use Rattle.std.specs.Prelude.{slice_get, Some}
use Rattle.std.proofs.lemmas.Bool.{cases_eq, cases_order}
use Rattle.std.proofs.lemmas.Option.{slice_get_within}
use Rattle.wb_lemmas.proofs.Places.{at_once, at_within}
use Rattle.wb_base.specs.declared.symbol.Symbol.{Symbol}
use Rattle.wb_grammar_theory.specs.Productions.{end_of}
use Rattle.wb_grammar_theory.specs.Items.{IsViablePrefix}
use Rattle.wb_scan_theory.specs.declared.form.Form.{Form}
use Rattle.wb_scan_theory.specs.Languages.{LanguageView, IsLayout}
use Rattle.wb_scan_theory.specs.Winners.{IsConsideredForm, MatchesAt, Wins}
use Rattle.wb_scan_theory.specs.Tokens.{Next, token, over, missing, NextToken, skipped, wins, ends, fails}
use Rattle.wb_scan_theory.specs.Facts.{IsWritten, HasOneWinner}
use Rattle.wb_scan_theory.specs.Inner.Runs.{Advances}
use Rattle.wb_scan_theory.proofs.WinnerLemmas.{piece_same, any_match}
use Rattle.wb_scan_theory.proofs.UniqueLemmas.{same_token}

-- a piece that matches has some bytes, and lies within the text
pub piece_some : {l : LanguageView} → IsWritten l → {prefix : List Symbol} {text : List ℕ} {at p : ℕ} {x : List ℕ} →
    MatchesAt l prefix text at p x → (0 < length x) × (at + length x ≤ length text)
piece_some {l} written {prefix} {text} {at} {p} {x} m = (some x m.is, size (some x m.is))
  where
    some : (x : List ℕ) → Rattle.wb_automata.specs.Automata.IsMatch l.expressions p x → 0 < length x
    some [] is = absurd (written.no_empty p is)
    some (c ∷ x) is = omega arith

    size : 0 < length x → at + length x ≤ length text
    size more =
        let a : length (drop at text) ≡ length text - at = length-drop at text in
        let b : length (drop at text) ≡ length x + length m.rest = ap length m.here ∙ length-append x m.rest in
        omega arith

-- one form wins, with one text
pub wins_once : {l : LanguageView} → HasOneWinner l → {prefix : List Symbol} {text : List ℕ} {at p q : ℕ} {x y : List ℕ} →
    Wins l prefix text at p x → Wins l prefix text at q y → (p ≡ q) × (x ≡ y)
wins_once {l} has {prefix} {text} {at} {p} {q} {x} {y} w v =
    let a : length y ≤ length x = w.longest q y v.matches in
    let b : length x ≤ length y = v.longest p x w.matches in
    (has.one prefix text at p q x y w v, piece_same w.matches v.matches (omega arith))

both_kinds : (l : LanguageView) (p q : ℕ) (form : Form) → IsLayout l p → slice_get l.forms q ≡ Some form → p ≡ q → ⊥
both_kinds l p q form layout at same =
    let lt : q < length l.forms = slice_get_within l.forms q form at in
    let le : length l.forms ≤ p = layout.0 in omega arith

cancel : (p x y : List ℕ) → p ++ x ≡ p ++ y → x ≡ y
cancel [] x y e = e
cancel (a ∷ p) x y e = cancel p x y (cc)

module _ {l : LanguageView} (written : IsWritten l) (has : HasOneWinner l) (prefix : List Symbol) (text : List ℕ) where
  no_end : {at p : ℕ} {x : List ℕ} → Wins l prefix text at p x → at ≡ length text → ⊥
  no_end {at} {p} {x} w e =
      let (some, within) = piece_some written w.matches in
      let a : 0 < length x = some in
      let b : at + length x ≤ length text = within in omega arith

  pub one_next : {at : ℕ} {s s' : Next} → NextToken l text prefix at s → NextToken l text prefix at s' → s ≡ s'
  one_next {at} {s} {s'} (skipped p x layout w more) other = go (λ k. one_next more k) other
    where
      go : (NextToken l text prefix (at + length x) s' → s ≡ s') → NextToken l text prefix at s' → s ≡ s'
      go again (skipped q y layout' v more') =
          let k = wins_once has w v in again (subst (λ z. NextToken l text prefix (at + length z) s') (sym k.1) more')
      go again (wins q form y lexeme at_form v is found) = absurd (both_kinds l _ _ _ layout at_form (wins_once has w v).0)
      go again (ends is found) = absurd (no_end w is)
      go again (fails lt out found) = absurd (out p x w)
  one_next {at} {s} {s'} (wins p form x lexeme at_form w is found) other = go other
    where
      go : NextToken l text prefix at s' → s ≡ s'
      go (skipped q y layout v more') = absurd (both_kinds l _ _ _ layout at_form (wins_once has v w).0)
      go (wins q form' y lexeme' at_form' v is' found') =
          let k = wins_once has w v in
          let same : form ≡ form' = at_once l.forms p form form' at_form
          (subst (λ z. slice_get l.forms z ≡ Some form') (sym k.0) at_form') in
          let joined : form.prefix ++ lexeme ≡ form.prefix ++ lexeme' =
          sym is ∙ (k.1 ∙ (is' ∙ ap (λ (z : Form). z.prefix ++ lexeme') (sym same))) in
          let lexeme_is : lexeme ≡ lexeme' = cancel form.prefix lexeme lexeme' joined in
          found ∙ ((λ j. token at (same j).terminal (lexeme_is j) (at + length (k.1 j))) ∙ sym found')
      go (ends is' found') = absurd (no_end w is')
      go (fails lt out found') = absurd (out p x w)
  one_next {at} {s} {s'} (ends is found) other = go other
    where
      go : NextToken l text prefix at s' → s ≡ s'
      go (skipped q y layout v more') = absurd (no_end v is)
      go (wins q form' y lexeme' at_form' v is' found') = absurd (no_end v is)
      go (ends is' found') = found ∙ sym found'
      go (fails lt out found') = absurd (let h : at < length text = lt in omega arith)
  one_next {at} {s} {s'} (fails lt out found) other = go other
    where
      go : NextToken l text prefix at s' → s ≡ s'
      go (skipped q y layout v more') = absurd (out q y v)
      go (wins q form' y lexeme' at_form' v is' found') = absurd (out q y v)
      go (ends is' found') = absurd (let h : at < length text = lt in omega arith)
      go (fails lt' out' found') = found ∙ sym found'

  -- what wins is layout, or a form whose prefix comes before its lexeme
  won : {at p : ℕ} {x : List ℕ} → Wins l prefix text at p x → ((s : Next) × NextToken l text prefix (at + length x) s) →
      (s : Next) × NextToken l text prefix at s
  won {at} {p} {x} w (s, more) = elim (cases_order p (length l.forms)) [
    | inr (inl lt) ↦ (let (form, at_form) = at_within l.forms p lt in
        let (lexeme, is) = written.prefixes p form x at_form w.matches.is in
        (token at form.terminal lexeme (at + length x), wins p form x lexeme at_form w is refl))
    | inl e ↦ (s, skipped p x (upper (omega arith)) w more)
    | inr (inr gt) ↦ (s, skipped p x (upper (omega arith)) w more)
  ]
    where
      upper : length l.forms ≤ p → IsLayout l p
      upper le =
          let lt : p < length l.expressions = slice_get_within l.expressions p w.matches.is.tree w.matches.is.at in
          let e : length l.expressions ≡ length l.forms + length l.layout = written.expressions_len in
          (le, omega arith)

  next_step : IsViablePrefix l.grammar prefix → ((p : ℕ) → IsConsideredForm l prefix p ⊎ (IsConsideredForm l prefix p → ⊥)) →
      (at : ℕ) → at ≤ length text →
      ((y : List ℕ) → 0 < length y → at + length y ≤ length text → (s : Next) × NextToken l text prefix (at + length y) s) →
      (s : Next) × NextToken l text prefix at s
  next_step viable considers at within again = by (cases_eq at (length text)) (any_match l prefix considers text at)
    where
      by : (at ≡ length text) ⊎ (at ≡ length text → ⊥) →
          ((p : ℕ) × (x : List ℕ) × MatchesAt l prefix text at p x) ⊎ ((p : ℕ) (x : List ℕ) → MatchesAt l prefix text at p x → ⊥) →
          (s : Next) × NextToken l text prefix at s
      by (inl e) m = (over at, ends e refl)
      by (inr ne) (inr out) = (missing at, fails (omega arith) (λ p x w. out p x w.matches) refl)
      by (inr ne) (inl (p, x, m)) =
          let (q, y, w) = has.some prefix viable text at p x m in
          let (more, inside) = piece_some written w.matches in
          won w (again y more inside)

  -- at each place of the text something is next
  pub some_next : IsViablePrefix l.grammar prefix → ((p : ℕ) → IsConsideredForm l prefix p ⊎ (IsConsideredForm l prefix p → ⊥)) →
      (fuel at : ℕ) → at ≤ length text → length text ≤ at + fuel → (s : Next) × NextToken l text prefix at s
  some_next viable considers zero at within enough = next_step viable considers at within (λ y more inside. absurd (omega arith))
  some_next viable considers (suc fuel) at within enough =
      next_step viable considers at within (λ y more inside. some_next viable considers fuel (at + length y) inside (omega arith))

-- a token takes some of the text
pub taken : {l : LanguageView} → IsWritten l → {prefix : List Symbol} {text : List ℕ} {at : ℕ} {s : Next} → NextToken l text prefix at s →
    (begin t : ℕ) (lexeme : List ℕ) (after : ℕ) → s ≡ token begin t lexeme after →
    (t < end_of l.grammar) × (at < after) × (after ≤ length text)
taken {l} written {prefix} {text} {at} (skipped p x layout w more) begin t lexeme after is =
    let (below, on, within) = taken written more begin t lexeme after is in
    let h : at + length x < after = on in
    (below, omega arith, within)
taken {l} written {prefix} {text} {at} (wins p form x lexeme' at_form w x_is found) begin t lexeme after is =
    let k = same_token at begin form.terminal t lexeme' lexeme (at + length x) after (sym found ∙ is) in
    let (some, within) = piece_some written w.matches in
    let a : 0 < length x = some in
    let b : at + length x ≤ length text = within in
    let c : form.terminal < l.grammar.terminals = written.forms_below p form at_form in
    let d : form.terminal ≡ t = k.terminals in
    let e : at + length x ≡ after = k.ends in
    (omega arith, omega arith, omega arith)
taken written {at = at} (ends e found) begin t lexeme after is = let h : over at ≡ token begin t lexeme after = sym found ∙ is in cc
taken written {at = at} (fails lt out found) begin t lexeme after is =
    let h : missing at ≡ token begin t lexeme after = sym found ∙ is in cc

pub advances : {l : LanguageView} → IsWritten l → (text : List ℕ) → Advances l.grammar (NextToken l text) (length text)
advances written text = record {
  below = λ prefix at begin t lexeme after n. (taken written n begin t lexeme after refl).0;
  on = λ prefix at begin t lexeme after n. (taken written n begin t lexeme after refl).1;
  within = λ prefix at begin t lexeme after n. (taken written n begin t lexeme after refl).2;
}
