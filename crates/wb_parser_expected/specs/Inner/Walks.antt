-- What a walk over a text keeps.
use Rattle.std.specs.Prelude.{◌≡◌, ◌<◌, ◌≤◌, ◌↔◌, ◌++◌, ◌∷◌, ℕ, List, [], All, Contains}
use Rattle.wb_grammar_theory.specs.Trees.{Forest, leaves, symbols}
use Rattle.wb_scan_theory.specs.declared.stop_kind.StopKind.{StopKind}
use Rattle.wb_scan_theory.specs.Machine.{Follows, Keeps}
use Rattle.wb_scan_theory.specs.Readings.{Begins, terminals_of}
use Rattle.wb_scan_theory.specs.Texts.{ParsesTo, StopsAt}
use Rattle.wb_scan_theory.specs.Tokens.{NextToken}
use Rattle.wb_scan.specs.Views.{LanguageParts}
use Rattle.wb_parser_states.specs.Stacks.{AreStates}
use Rattle.wb_parser_expected.specs.Inner.Trials.{Stands}
use Rattle.wb_parser_expected.specs.declared.leaf.Round.{Round}
use Rattle.wb_parser_expected.specs.declared.leaf.Round.TheVariants.{Goes, Whole, Halts}

-- the text was read up to the place, right after a shift or at its beginning: the states are those of a stack over the leaves that were
-- read, and each tree that begins with the terminals of these leaves passes through it
pub record HasRead (parts : LanguageParts) (text states : List ℕ) (at : ℕ) : Type 0 where
  pub stack : Forest
  pub states_are : AreStates parts.language.grammar parts.tables [] states stack
  pub keeps : Keeps parts.language.grammar (NextToken parts.language text) stack (symbols stack) at
  pub follows : (t : ℕ) → Follows parts.language.grammar stack t

-- the text stops after the leaves of the stack
pub record HasStopped (parts : LanguageParts) (text states : List ℕ) (place : ℕ) (kind : StopKind) : Type 0 where
  pub at : ℕ
  pub read : HasRead parts text states at
  pub stop : StopsAt parts.language text place kind
  pub leaves_are : stop.read ≡ leaves [] read.stack

-- what became of a leaf: it was read; or the text is whole, or stops
abbrev pub IsRound : LanguageParts → List ℕ → List ℕ → Round → Type 0
IsRound parts text states (Goes after) = HasRead parts text states after
IsRound parts text states Whole = (tree : Forest) × ParsesTo parts.language text tree
IsRound parts text states (Halts place kind) = HasStopped parts text states place kind

-- where the text goes on, it does so further
abbrev pub GoesOn : ℕ → ℕ → Round → Type 0
GoesOn size at (Goes after) = (at < after) × (after ≤ size)
GoesOn size at Whole = Unit {0}
GoesOn size at (Halts place kind) = Unit {0}

-- of the terminals below the number the list has exactly those that could come after the leaves of each stack of these states
pub record AreThoseBelow (parts : LanguageParts) (states : List ℕ) (count : ℕ) (terminals : List ℕ) : Type 0 where
  pub within : All (λ t. t < count) terminals
  pub each : (stack : Forest) → ((t : ℕ) → Stands parts.language.grammar parts.tables states stack t) → (t : ℕ) → t < count →
      Contains terminals t ↔ Begins parts.language.grammar (terminals_of (leaves [] stack) ++ t ∷ [])
