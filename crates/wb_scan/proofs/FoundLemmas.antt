-- What the automaton finds is what wins.
use Rattle.std.proofs.Common.{◌≡◌, ◌≢◌, ◌<◌, ◌≤◌, ◌+◌, ◌-◌, ℕ, List, ◌++◌, length, take, drop, refl, sym, ◌∙◌, ap, subst, inl, inr, arith}
use Rattle.std.proofs.Common.{length-append}
use Rattle.std.specs.Prelude.{◌↔◌, Contains, All, Some, slice_range}
use Rattle.std.proofs.lemmas.Bool.{cases_order}
use Rattle.std.proofs.lemmas.Option.{slice_get_within}
use Rattle.wb_scan.proofs.RangeLemmas.{range_split, range_length}
use Rattle.std.proofs.lemmas.List.Folds.{drop_split}
use Rattle.wb_lemmas.proofs.Elements.{all_from_contained}
use Rattle.wb_lemmas.proofs.Parts.{append_same_left, take_append}
use Rattle.wb_base.specs.declared.symbol.Symbol.{Symbol}
use Rattle.wb_automata.specs.Automata.{AutomatonView, LeadsTo, MatchesIn, IsMatch}
use Rattle.wb_lookahead.specs.Contents.{TablesView, size_of}
use Rattle.wb_scan_theory.specs.declared.form.Form.{Form}
use Rattle.wb_scan_theory.specs.Languages.{LanguageView, forms_of}
use Rattle.wb_scan_theory.specs.Winners.{MatchesAt, Wins}
use Rattle.wb_scan_theory.specs.Parts.{AreLanguageParts, IsPrefixOf}
use Rattle.wb_scan_theory.specs.Examined.{to_end}
use Rattle.wb_scan_theory.proofs.SeenLemmas.{looked_piece}
use Rattle.wb_scan_theory.proofs.BareLemmas.{forms_count}
use Rattle.wb_scan_theory.proofs.TokenLemmas.{piece_some}
use Rattle.wb_scan.proofs.LandingLemmas.{same_champion, some_same}
use Rattle.wb_scan.specs.declared.landing.Landing.{Landing}
use Rattle.wb_scan.specs.declared.longest.Reach.{Reach}
use Rattle.wb_scan.specs.declared.won.Won.{Won}
use Rattle.wb_scan.specs.declared.won.Won.TheVariants.{Nothing, Layout, Token}
use Rattle.wb_scan.specs.Inner.Longest.{IsLongest, IsReached, IsSeenTo}
use Rattle.wb_scan.specs.Landings.{AreLandings, IsChampion, IsOfForm, ranked}
use Rattle.wb_scan.specs.Words.{won_in}
use Rattle.wb_scan.specs.Inner.Rankings.{IsWonAt}
use Rattle.wb_scan.specs.Inner.Found.{IsEnough, IsFound, IsNotFound, IsSought}

module _ {l : LanguageView} {tables : TablesView} {automaton : AutomatonView} (parts : AreLanguageParts l tables automaton) {state : ℕ}
    (below : state < size_of tables) where
  -- what matches at a prefix of the state matches in the state's set, and lies in the text
  matches_in : {prefix : List Symbol} {text : List ℕ} {at p : ℕ} {x : List ℕ} → IsPrefixOf l.grammar tables state prefix →
      MatchesAt l prefix text at p x → MatchesIn automaton state p x
  matches_in {prefix} {p = p} {x} of m = record {
    considered = (parts.sets state p prefix of).1 m.considered;
    is = subst (λ z. IsMatch z p x) (sym parts.expressions) m.is;
  }

  matches_at : {prefix : List Symbol} {text : List ℕ} {at p end : ℕ} → IsPrefixOf l.grammar tables state prefix → at ≤ end →
      MatchesIn automaton state p (slice_range text at end) → MatchesAt l prefix text at p (slice_range text at end)
  matches_at {prefix} {text} {at} {p} {end} of from m = record {
    considered = (parts.sets state p prefix of).0 m.considered;
    is = subst (λ z. IsMatch z p (slice_range text at end)) parts.expressions m.is;
    rest = drop end text;
    here = drop_split text at end from;
  }

-- a piece that matches is the text up to its end
piece_is : {l : LanguageView} {prefix : List Symbol} {text : List ℕ} {at p : ℕ} {x : List ℕ} → MatchesAt l prefix text at p x →
    x ≡ slice_range text at (at + length x)
piece_is {text = text} {at} {x = x} m =
    let size : at + length x - at ≡ length x = omega arith in
    sym (take_append (length x) x m.rest refl) ∙ (ap (take (length x)) (sym m.here) ∙ ap (λ n. take n (drop at text)) (sym size))

-- what a list of accepted forms says at the state that the text up to an end leads to
abbrev pub AreAcceptedAt : AutomatonView → ℕ → List ℕ → List ℕ → Type 0
AreAcceptedAt automaton set text accepted = (terminal : ℕ) → Contains accepted terminal ↔ MatchesIn automaton set terminal text

module _ {l : LanguageView} {tables : TablesView} {automaton : AutomatonView} (parts : AreLanguageParts l tables automaton) {state : ℕ}
    (below : state < size_of tables) where
  -- forms that are accepted are forms
  pub places_below : (x accepted : List ℕ) → AreAcceptedAt automaton state x accepted → All (λ p. p < length (forms_of l)) accepted
  places_below x accepted exact = all_from_contained (λ p. p < length (forms_of l)) accepted (λ p listed.
      let m = (exact p).0 listed in
      let a : p < length automaton.terminals = slice_get_within automaton.terminals p m.is.tree m.is.at in
      let b : length automaton.terminals ≡ length l.expressions = ap length parts.expressions in
      let c : length l.expressions ≡ length l.forms + length l.layout = parts.language.written.expressions_len in
      let d : length (forms_of l) ≡ length l.forms + length l.layout = forms_count l in
      omega arith)

  module _ {text : List ℕ} {at end found : ℕ} (longest : IsLongest automaton state text at (length text) found end) where
    -- no piece ends later
    no_later : {prefix : List Symbol} {p : ℕ} {x : List ℕ} → IsPrefixOf l.grammar tables state prefix → MatchesAt l prefix text at p x →
        at + length x ≤ end
    no_later {p = p} {x} of m = elim (cases_order end (at + length x)) [
      | inr (inl lt) ↦ absurd (longest.none_after (at + length x) p lt ((piece_some parts.language.written m).1)
          (subst (MatchesIn automaton state p) (piece_is m) (matches_in parts below of m)))
      | inl e ↦ omega arith
      | inr (inr gt) ↦ omega arith
    ]

    -- where nothing matched, nothing wins
    pub none_wins : end ≡ at → IsNotFound (record { language = l; tables = tables }) state text at
    none_wins is prefix of place piece w =
        let some : 0 < length piece = (piece_some parts.language.written w.matches).0 in
        let le : at + length piece ≤ end = no_later of w.matches in omega arith

    size : length (slice_range text at end) ≡ end - at
    size = range_length text at end longest.within

    module _ {accepted : List ℕ} (exact : AreAcceptedAt automaton state (slice_range text at end) accepted) where
      -- what wins is accepted, and beats each other form that is
      pub champion_of : {prefix : List Symbol} {p : ℕ} {x : List ℕ} → IsPrefixOf l.grammar tables state prefix →
          (terminal : ℕ) → MatchesIn automaton state terminal (slice_range text at end) → Wins l prefix text at p x →
          IsChampion l accepted p
      champion_of {prefix} {p} {x} of terminal m w =
          let from : at ≤ end = longest.from in
          let le : at + length x ≤ end = no_later of w.matches in
          let ge : length (slice_range text at end) ≤ length x =
          w.longest terminal (slice_range text at end) (matches_at parts below of from m) in
          let len : length (slice_range text at end) ≡ end - at = size in
          let e : at + length x ≡ end = omega arith in
          let x_is : x ≡ slice_range text at end = piece_is w.matches ∙ ap (slice_range text at) e in
          record {
            listed = (exact p).1 (subst (MatchesIn automaton state p) x_is (matches_in parts below of w.matches));
            beats = λ other listed ne. w.beats other (slice_range text at end) (matches_at parts below of from ((exact other).0 listed))
                (sym (ap length x_is)) ne;
          }

      -- a form that is accepted and beats each other one wins
      pub champion_wins : {prefix : List Symbol} (p : ℕ) → IsPrefixOf l.grammar tables state prefix → IsChampion l accepted p →
          Wins l prefix text at p (slice_range text at end)
      champion_wins {prefix} p of champion =
          let from : at ≤ end = longest.from in
          let len : length (slice_range text at end) ≡ end - at = size in
          record {
            matches = matches_at parts below of from ((exact p).0 champion.listed);
            longest = λ other longer m. (let le : at + length longer ≤ end = no_later of m in omega arith);
            beats = λ other same m is ne.
                (let e : at + length same ≡ end = omega arith in
                let same_is : same ≡ slice_range text at end = piece_is m ∙ ap (slice_range text at) e in
                champion.beats other ((exact other).1 (subst (MatchesIn automaton state other) same_is (matches_in parts below of m))) ne);
          }

      -- the form is found
      pub found_wins : at < end → (p : ℕ) → IsChampion l accepted p → IsFound (record { language = l; tables = tables }) state text at p end
      found_wins some p champion = record {
        some = some;
        within = longest.within;
        below = (let m = (exact p).0 champion.listed in
            let a : p < length automaton.terminals = slice_get_within automaton.terminals p m.is.tree m.is.at in
            let b : length automaton.terminals ≡ length l.expressions = ap length parts.expressions in
            let c : length l.expressions ≡ length l.forms + length l.layout = parts.language.written.expressions_len in
            omega arith);
        terminal = parts.language.written.forms_below p;
        prefix = λ f at_f. of_prefix f ((exact p).0 champion.listed)
            (parts.language.written.prefixes p f (slice_range text at end) at_f
            (subst (λ z. IsMatch z p (slice_range text at end)) parts.expressions ((exact p).0 champion.listed).is));
        wins = λ prefix of. champion_wins p of champion;
      }
        where
          of_prefix : (f : Form) → MatchesIn automaton state p (slice_range text at end) →
              ((lexeme : List ℕ) × (slice_range text at end ≡ f.prefix ++ lexeme)) → (at + length f.prefix ≤ end) ×
              (slice_range text at end ≡ f.prefix ++ slice_range text (at + length f.prefix) end)
          of_prefix f m (lexeme, is) =
              let len : length (slice_range text at end) ≡ end - at = size in
              let sum : length (slice_range text at end) ≡ length f.prefix + length lexeme = ap length is ∙ length-append f.prefix lexeme in
              let mid : at + length f.prefix ≤ end = omega arith in
              let within : end ≤ length text = longest.within in
              let split = range_split text at (at + length f.prefix) end (omega arith) mid in
              let front : length (slice_range text at (at + length f.prefix)) ≡ at + length f.prefix - at =
              range_length text at (at + length f.prefix) (omega arith) in
              let same : f.prefix ≡ slice_range text at (at + length f.prefix) =
              append_same_left f.prefix (slice_range text at (at + length f.prefix)) lexeme (slice_range text (at + length f.prefix) end)
              (omega arith) (sym is ∙ split) in
              (mid, split ∙ ap (λ z. z ++ slice_range text (at + length f.prefix) end) (sym same))

-- the state of a match that has some bytes
matched_at : {automaton : AutomatonView} {set : ℕ} {text : List ℕ} {at to found end : ℕ} → IsLongest automaton set text at to found end →
    end ≢ at → (at < end) × LeadsTo automaton set (slice_range text at end) found ×
    ((terminal : ℕ) × MatchesIn automaton set terminal (slice_range text at end))
matched_at longest ne = elim longest.matched [ inl e ↦ absurd (ne e) | inr is ↦ is ]

module _ {l : LanguageView} {tables : TablesView} {automaton : AutomatonView} (parts : AreLanguageParts l tables automaton) {state : ℕ}
    (below : state < size_of tables) {text : List ℕ} {at end found : ℕ}
    (longest : IsLongest automaton state text at (length text) found end) (ne : end ≢ at) (accepted : List ℕ)
    (exact : (terminal s : ℕ) (x : List ℕ) → LeadsTo automaton s x found →
    Contains accepted terminal ↔ MatchesIn automaton s terminal x) where
  accepted_at : AreAcceptedAt automaton state (slice_range text at end) accepted
  accepted_at terminal = exact terminal state (slice_range text at end) (matched_at longest ne).1

  -- what the state accepts are forms
  pub all_below : All (λ p. p < length (forms_of l)) accepted
  all_below = places_below parts below (slice_range text at end) accepted accepted_at

  -- the one that beats each other one wins
  pub is_found : (form : ℕ) → IsChampion l accepted form → IsFound (record { language = l; tables = tables }) state text at form end
  is_found form champion = found_wins parts below longest accepted_at (matched_at longest ne).0 form champion

  -- where none does, no form wins
  pub is_not_found : ((place : ℕ) → ¬ IsChampion l accepted place) → IsNotFound (record { language = l; tables = tables }) state text at
  is_not_found none prefix of place piece w =
      let (terminal, m) = (matched_at longest ne).2 in
      none place (champion_of parts below longest accepted_at of terminal m w)

-- what wins at the state that was found, of the same forms, is what is sought
module _ {l : LanguageView} {tables : TablesView} {automaton : AutomatonView} (parts : AreLanguageParts l tables automaton) {state : ℕ}
    (below : state < size_of tables) {text : List ℕ} {at end found : ℕ}
    (longest : IsLongest automaton state text at (length text) found end) (ne : end ≢ at) (forms : List Form) (layout : List ℕ)
    (preferences : List (ℕ × ℕ)) (f : forms ≡ l.forms) (g : layout ≡ l.layout) (h : preferences ≡ l.preferences) where
  won_form : (won : Won) (accepted : List ℕ) → ((terminal s : ℕ) (x : List ℕ) → LeadsTo automaton s x found →
      Contains accepted terminal ↔ MatchesIn automaton s terminal x) →
      ((place : ℕ) × IsChampion (ranked forms layout preferences) accepted place × IsOfForm forms place won) →
      (form : ℕ) × IsFound (record { language = l; tables = tables }) state text at form end × IsOfForm l.forms form won
  won_form won accepted exact (form, champion, of) = (
    form,
    is_found parts below longest ne accepted exact form (same_champion (ranked forms layout preferences) l f g h accepted form champion),
    subst (λ fs. IsOfForm fs form won) f of,
  )

  pub won_sought : (won : Won) → IsWonAt (ranked forms layout preferences) automaton found won →
      IsSought (record { language = l; tables = tables }) state text at end won
  won_sought Nothing is = is_not_found parts below longest ne is.accepted is.exact (λ place champion.
      is.wins place (same_champion l (ranked forms layout preferences) (sym f) (sym g) (sym h) is.accepted place champion))
  won_sought Layout is = won_form Layout is.accepted is.exact is.wins
  won_sought (Token terminal prefix) is = won_form (Token terminal prefix) is.accepted is.exact is.wins

-- what the landing of the state that was reached says to win is what is sought
pub reached_sought : {l : LanguageView} {tables : TablesView} {automaton : AutomatonView} → AreLanguageParts l tables automaton →
    {state : ℕ} → state < size_of tables → {text : List ℕ} {at : ℕ} (forms : List Form) (layout : List ℕ) (preferences : List (ℕ × ℕ)) →
    forms ≡ l.forms → layout ≡ l.layout → preferences ≡ l.preferences → (landings : List Landing) →
    AreLandings (ranked forms layout preferences) automaton landings → (reach : Reach) →
    IsReached automaton landings state text at reach → (won : Won) → won_in reach.landing.word ≡ Some won →
    IsSought (record { language = l; tables = tables }) state text at reach.end won
reached_sought {l} {tables} {automaton} parts {state} below {text} {at} forms layout preferences f g h landings are reach is won told =
    elim is.kept [
      | inl (e, nothing) ↦ subst (IsSought (record { language = l; tables = tables }) state text at reach.end)
          (some_same Nothing won (sym nothing ∙ told)) (none_wins parts below is.longest e)
      | inr (lt, listed) ↦ (let landing = are is.state reach.landing listed in
          let ne : reach.end ≢ at = λ e. absurd (omega arith) in
          won_sought parts below is.longest ne forms layout preferences f g h won
          (record { accepted = landing.marked.accepted; exact = landing.marked.exact; wins = landing.wins won told }))
    ]

-- what was looked at is enough to see which form wins
pub enough : {l : LanguageView} {tables : TablesView} {automaton : AutomatonView} → AreLanguageParts l tables automaton → {state : ℕ} →
    state < size_of tables → {text : List ℕ} {at e : ℕ} → IsSeenTo automaton state text at e →
    IsEnough (record { language = l; tables = tables }) state text at e
enough parts {state} below {text} {at} {e} (lt, seen) = record {
  on = lt;
  within = elim seen [ inl (le, none) ↦ omega arith | inr is ↦ omega arith ];
  looked = λ prefix of. elim seen [
    | inl (le, none) ↦ looked_piece parts state below of text at e lt le none
    | inr is ↦ to_end (omega arith) is
  ];
}
