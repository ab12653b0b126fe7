-- What is known of a state of an automaton, from what it accepts and where it leads.
use Rattle.std.proofs.Common.{◌≡◌, ◌<◌, ◌≤◌, ◌+◌, ℕ, List, [], ◌∷◌, ◌++◌, length, refl, sym, ◌∙◌, ap, subst, inl, inr, arith}
use Rattle.std.specs.Prelude.{◌==◌, All, Bool, Contains, IfSome, IsNone, None, Option, Some, false, is_some, not, slice_get, true}
use Rattle.std.proofs.lemmas.Bool.{cases_lt}
use Rattle.std.proofs.lemmas.List.Elements.{All-contains, Contains-append_left, Contains-append_right}
use Rattle.std.proofs.lemmas.Option.{slice_get_within}
use Rattle.wb_lemmas.proofs.Elements.{all_from_contained}
use Rattle.wb_lemmas.proofs.Members.{contains_first}
use Rattle.wb_lemmas.proofs.Places.{at_push, at_within}
use Rattle.wb_regex.proofs.MatchLaws.{matches_bytes}
use Rattle.wb_automata.specs.Automata.{AutomatonView, GoesOn, LeadsTo}
use Rattle.wb_lookahead.specs.Contents.{TablesView}
use Rattle.wb_scan_theory.specs.declared.form.Form.{Form}
use Rattle.wb_scan_theory.specs.Languages.{LanguageView, forms_of}
use Rattle.wb_scan_theory.specs.Parts.{AreLanguageParts}
use Rattle.wb_scan_theory.proofs.BareLemmas.{forms_count}
use Rattle.wb_scan_theory.specs.Winners.{Beats, both_bare, both_prefixed, by_prefix}
use Rattle.wb_scan.specs.declared.landing.Landing.{Landing}
use Rattle.wb_scan.specs.declared.won.Won.{Won}
use Rattle.wb_scan.specs.declared.won.Won.TheVariants.{Nothing, Layout, Token}
use Rattle.wb_scan.specs.Landings.{AreAccepted, AreLandings, IsChampion, IsLanding, IsMarked, IsOfForm, IsWon, ranked}
use Rattle.wb_scan.specs.Words.{accepts_in, ends_in}
use Rattle.wb_scan.specs.Inner.Rankings.{AreMarked}
use Rattle.wb_scan.proofs.LongestLemmas.{nothing_listed, some_listed}

-- no match goes on from the state by a byte before this one
abbrev pub HasNoMoveBelow : AutomatonView → ℕ → ℕ → Type 0
HasNoMoveBelow automaton state end = (byte : ℕ) → byte < end → (set : ℕ) (text : List ℕ) → LeadsTo automaton set text state →
    ¬ GoesOn automaton set (text ++ byte ∷ [])

pub no_move_more : (automaton : AutomatonView) (state end : ℕ) →
    ((set : ℕ) (text : List ℕ) → LeadsTo automaton set text state → ¬ GoesOn automaton set (text ++ end ∷ [])) →
    HasNoMoveBelow automaton state end → HasNoMoveBelow automaton state (end + 1)
no_move_more automaton state end here before byte lt set text leads = elim (cases_lt byte end) [
  | inl early ↦ before byte early set text leads
  | inr late ↦ (let e : end ≡ byte = omega arith in subst (λ z. ¬ GoesOn automaton set (text ++ z ∷ [])) e (here set text leads))
]

-- what isn't a byte is in no text that matches
byte_in : (automaton : AutomatonView) (set byte : ℕ) (text : List ℕ) → GoesOn automaton set (text ++ byte ∷ []) → byte < 256
byte_in automaton set byte text goes =
    All-contains (λ b. b < 256) ((text ++ byte ∷ []) ++ goes.rest) byte (matches_bytes goes.is.is.matches)
    (Contains-append_left (text ++ byte ∷ []) goes.rest byte (Contains-append_right text (byte ∷ []) byte (contains_first byte [])))

pub no_move : (automaton : AutomatonView) (state end : ℕ) → 256 ≤ end → HasNoMoveBelow automaton state end → (set byte : ℕ)
    (text : List ℕ) → LeadsTo automaton set text state → ¬ GoesOn automaton set (text ++ byte ∷ [])
no_move automaton state end le none set byte text leads goes =
    let lt = byte_in automaton set byte text goes in none byte (omega arith) set text leads goes

-- a move that isn't there
pub no_next : (next : Option ℕ) (some : Bool) → some ≡ is_some next → some ≡ false → IsNone next
no_next None some is e = refl
no_next (Some s) some is e = cc

-- what is accepted at a state are forms
pub accepted_below : (automaton : AutomatonView) (state n : ℕ) (accepted : List ℕ) → state < length automaton.paths →
    AreAccepted automaton state accepted → length automaton.terminals ≡ n → All (λ p. p < n) accepted
accepted_below automaton state n accepted lt exact count = all_from_contained (λ p. p < n) accepted (λ p listed.
    let (path, at) = at_within automaton.paths state lt in
    let own : LeadsTo automaton path.set path.text state = record { path = path; at = at; alike = λ terminal rest. (λ m. m, λ m. m) } in
    let m = (exact p path.set path.text own).0 listed in
    let below : p < length automaton.terminals = slice_get_within automaton.terminals p m.is.tree m.is.at in
    omega arith)

pub turned : (b : Bool) → not b ≡ true → b ≡ false
turned true e = cc
turned false e = refl

pub turned' : (b : Bool) → not b ≡ false → b ≡ true
turned' true e = refl
turned' false e = cc

-- the landing of a state, whose list of what it accepts was tested
abbrev pub marked : (automaton : AutomatonView) (state : ℕ) (accepted : List ℕ) (empty ends : Bool) (landing : Landing) →
    AreAccepted automaton state accepted → empty ≡ (length accepted == 0) → (ends ≡ true → (set byte : ℕ) (text : List ℕ) →
    LeadsTo automaton set text state → ¬ GoesOn automaton set (text ++ byte ∷ [])) → accepts_in landing.word ≡ not empty →
    ends_in landing.word ≡ ends → IsMarked automaton state landing
marked automaton state accepted empty ends landing exact is never accepts_is ends_is = record {
  accepted = accepted;
  exact = exact;
  some = λ e. some_listed accepted empty is (turned empty (sym accepts_is ∙ e));
  none = λ e. nothing_listed accepted empty is (turned' empty (sym accepts_is ∙ e));
  ends = λ e. never (sym ends_is ∙ e);
}

-- nothing is accepted, and nothing wins
abbrev pub no_landing : Landing
no_landing = record { word = 0 }

pub some_same : (won other : Won) → Some won ≡ Some other → won ≡ other
some_same won other e = cc

-- what is kept of what wins is what wins
pub kept_is : (kept : Option Won) (won other : Won) → IfSome kept (λ k. Some won ≡ Some k) → kept ≡ Some other → won ≡ other
kept_is None won other said e = cc
kept_is (Some k) won other said e = cc

-- what wins is what the form that beats each other one is of
pub won_is : (l : LanguageView) (places : List ℕ) (place : ℕ) (won : Won) → IsChampion l places place → IsOfForm l.forms place won →
    IsWon l places won
won_is l places place Nothing champion of = absurd of
won_is l places place Layout champion of = (place, champion, of)
won_is l places place (Token terminal prefix) champion of = (place, champion, of)

-- what is accepted is known of each state of which more is
pub marks : (l : LanguageView) (automaton : AutomatonView) (landings : List Landing) → AreLandings l automaton landings →
    AreMarked automaton landings
marks l automaton landings are state landing at = (are state landing at).marked

-- one landing more
pub landings_more : (l : LanguageView) (automaton : AutomatonView) (landings : List Landing) (landing : Landing) →
    IsLanding l automaton (length landings) landing → AreLandings l automaton landings → AreLandings l automaton (landings ++ landing ∷ [])
landings_more l automaton landings landing here before state other at = elim (at_push landings landing other state at) [
  | inl old ↦ before state other old
  | inr (place, is) ↦ subst (λ z. IsLanding l automaton state z) is (subst (λ z. IsLanding l automaton z landing) (sym place) here)
]

-- what beats what rests on forms, layout and preferences alone
module _ (l m : LanguageView) (forms : l.forms ≡ m.forms) (layout : l.layout ≡ m.layout) (preferences : l.preferences ≡ m.preferences) where
  same_beats : (f g : Form) → Beats l f g → Beats m f g
  same_beats f g (by_prefix some e) = by_prefix some e
  same_beats f g (both_bare e e' c) = both_bare e e' (subst (λ ps. Contains ps (f.terminal, g.terminal)) preferences c)
  same_beats f g (both_prefixed some some' c) = both_prefixed some some' (subst (λ ps. Contains ps (f.terminal, g.terminal)) preferences c)

  same_forms : forms_of l ≡ forms_of m
  same_forms = ap (λ fs. forms_of (record { grammar = l.grammar; forms = fs; layout = l.layout; spans = l.spans; expressions = l.expressions; preferences = l.preferences })) forms
      ∙ ap (λ ls. forms_of (record { grammar = l.grammar; forms = m.forms; layout = ls; spans = l.spans; expressions = l.expressions; preferences = l.preferences })) layout

  pub same_champion : (places : List ℕ) (place : ℕ) → IsChampion l places place → IsChampion m places place
  same_champion places place champion = record {
    listed = champion.listed;
    beats = λ other listed ne. (let b = champion.beats other listed ne in record {
      one = b.one;
      two = b.two;
      at = subst (λ fs. slice_get fs place ≡ Some b.one) same_forms b.at;
      to = subst (λ fs. slice_get fs other ≡ Some b.two) same_forms b.to;
      beats = same_beats b.one b.two b.beats;
    });
  }

-- the automaton of a language is one of its forms
pub ranked_from : {l : LanguageView} {tables : TablesView} {automaton : AutomatonView} → AreLanguageParts l tables automaton →
    (forms : List Form) (layout : List ℕ) (preferences : List (ℕ × ℕ)) → forms ≡ l.forms → layout ≡ l.layout →
    length automaton.terminals ≡ length (forms_of (ranked forms layout preferences))
ranked_from {l} parts forms layout preferences f g =
    ap length parts.expressions ∙ parts.language.written.expressions_len ∙ ap (λ (fs : List Form). length fs + length l.layout) (sym f)
    ∙ ap (λ (ls : List ℕ). length forms + length ls) (sym g) ∙ sym (forms_count (ranked forms layout preferences))

-- what is known of states is known with the same forms and layout
pub landings_from : (automaton : AutomatonView) (landings : List Landing) (forms others : List Form) (layout rest : List ℕ)
    (preferences : List (ℕ × ℕ)) → forms ≡ others → layout ≡ rest → AreLandings (ranked forms layout preferences) automaton landings →
    AreLandings (ranked others rest preferences) automaton landings
landings_from automaton landings forms others layout rest preferences f g are =
    subst (λ (fs : List Form). AreLandings (ranked fs rest preferences) automaton landings) f
    (subst (λ (ls : List ℕ). AreLandings (ranked forms ls preferences) automaton landings) g are)
