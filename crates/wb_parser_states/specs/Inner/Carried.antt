-- What states keep while reductions are made in place.
use Rattle.std.specs.Prelude.{ℕ, List, take}
use Rattle.wb_lookahead.specs.Contents.{action_of}
use Rattle.wb_scan.specs.Views.{LanguageParts}
use Rattle.wb_parser_states.specs.declared.within.Left.{Left}
use Rattle.wb_parser_states.specs.Codes.{IsCodeOf}
use Rattle.wb_parser_states.specs.Stacks.{last_or}
use Rattle.wb_parser_states.specs.Steps.{AreReached}

-- so many of the others are reached, and the code is that of the action at the last of them
pub record AreLeft (parts : LanguageParts) (t : ℕ) (states states' : List ℕ) (left : Left) : Type 0 where
  pub reached : AreReached parts t states states' left.kept
  pub code : IsCodeOf parts.language.grammar (action_of parts.tables (last_or 0 (take left.kept states')) t) left.code
