-- What decides which form beats which, and what is known of a state by it.
use Rattle.std.specs.Prelude.{◌≡◌, ℕ, List, Some, length, slice_get}
use Rattle.wb_automata.specs.Automata.{AutomatonView}
use Rattle.wb_scan_theory.specs.Languages.{LanguageView, forms_of}
use Rattle.wb_scan.specs.declared.landing.Landing.{Landing}
use Rattle.wb_scan.specs.declared.winner.Ranking.{Ranking}
use Rattle.wb_scan.specs.declared.won.Won.{Won}
use Rattle.wb_scan.specs.Landings.{AreAccepted, IsMarked, IsWon, ranked}

-- a language in which forms beat each other so
abbrev pub ranked_by : Ranking → LanguageView
ranked_by ranking = ranked ranking.forms.now ranking.layout.now ranking.preferences.now

-- the automaton is one of the forms
abbrev pub AreRanked : Ranking → AutomatonView → Type 0
AreRanked ranking automaton = length automaton.terminals ≡ length (forms_of (ranked_by ranking))

-- of each of these it is known what is accepted at the state of its number
abbrev pub AreMarked : AutomatonView → List Landing → Type 0
AreMarked automaton landings =
    (state : ℕ) (landing : Landing) → slice_get landings state ≡ Some landing → IsMarked automaton state landing

-- this wins of what is accepted at the state
pub record IsWonAt (l : LanguageView) (automaton : AutomatonView) (state : ℕ) (won : Won) : Type 0 where
  pub accepted : List ℕ
  pub exact : AreAccepted automaton state accepted
  pub wins : IsWon l accepted won
