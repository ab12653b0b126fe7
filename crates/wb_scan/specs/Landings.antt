-- What is known of the states of an automaton before a text is scanned: which accept, where a match goes no further, and what wins there.
use Rattle.std.specs.Prelude.{◌≡◌, ◌≢◌, ◌≤◌, ◌↔◌, ℕ, List, [], ◌∷◌, ◌++◌, Contains, Some, false, length, slice_get, true}
use Rattle.wb_automata.specs.Automata.{AutomatonView, GoesOn, LeadsTo, MatchesIn}
use Rattle.wb_scan_theory.specs.declared.form.Form.{Form}
use Rattle.wb_scan_theory.specs.Languages.{LanguageView}
use Rattle.wb_scan_theory.specs.Winners.{BeatsAt}
use Rattle.wb_scan.specs.declared.landing.Landing.{Landing}
use Rattle.wb_scan.specs.declared.won.Won.{Won}
use Rattle.wb_scan.specs.declared.won.Won.TheVariants.{Nothing, Layout, Token}
use Rattle.wb_scan.specs.Views.{language_in}
use Rattle.wb_scan.specs.Words.{accepts_in, ends_in, won_in}

-- a language with these forms, layout and preferences: which form beats which rests on nothing else
abbrev pub ranked : List Form → List ℕ → List (ℕ × ℕ) → LanguageView
ranked forms layout preferences =
    language_in (record { terminals = 0; nonterminals = 0; start = 0; productions = [] }) forms layout [] [] preferences

-- the form is one of these, and beats each other
pub record IsChampion (l : LanguageView) (places : List ℕ) (place : ℕ) : Type 0 where
  pub listed : Contains places place
  pub beats : (other : ℕ) → Contains places other → other ≢ place → BeatsAt l place other

-- these are the forms that match the texts that lead to the state, each from the start of a set that has the form
abbrev pub AreAccepted : AutomatonView → ℕ → List ℕ → Type 0
AreAccepted automaton state accepted = (place set : ℕ) (text : List ℕ) → LeadsTo automaton set text state →
    Contains accepted place ↔ MatchesIn automaton set place text

-- the form at the place is of this sort: layout, or of this terminal and with a prefix of so many bytes
abbrev pub IsOfForm : List Form → ℕ → Won → Type 0
IsOfForm forms place Nothing = ⊥
IsOfForm forms place Layout = length forms ≤ place
IsOfForm forms place (Token terminal prefix) =
    (form : Form) × (slice_get forms place ≡ Some form) × (form.terminal ≡ terminal) × (length form.prefix ≡ prefix)

-- of these forms none beats each other one, or one does and is of this sort
abbrev pub IsWon : LanguageView → List ℕ → Won → Type 0
IsWon l places Nothing = (place : ℕ) → ¬ IsChampion l places place
IsWon l places won = (place : ℕ) × IsChampion l places place × IsOfForm l.forms place won

-- some form is accepted or none is, as the landing says; and where it ends, no match goes on
pub record IsMarked (automaton : AutomatonView) (state : ℕ) (landing : Landing) : Type 0 where
  pub accepted : List ℕ
  pub exact : AreAccepted automaton state accepted
  pub some : accepts_in landing.word ≡ true → accepted ≢ []
  pub none : accepts_in landing.word ≡ false → accepted ≡ []
  pub ends : ends_in landing.word ≡ true → (set byte : ℕ) (text : List ℕ) → LeadsTo automaton set text state →
      ¬ GoesOn automaton set (text ++ byte ∷ [])

-- and what the landing says to win does, of the forms that are accepted
pub record IsLanding (l : LanguageView) (automaton : AutomatonView) (state : ℕ) (landing : Landing) : Type 0 where
  pub marked : IsMarked automaton state landing
  pub wins : (won : Won) → won_in landing.word ≡ Some won → IsWon l marked.accepted won

-- each of these is that of the state of its number
abbrev pub AreLandings : LanguageView → AutomatonView → List Landing → Type 0
AreLandings l automaton landings =
    (state : ℕ) (landing : Landing) → slice_get landings state ≡ Some landing → IsLanding l automaton state landing
