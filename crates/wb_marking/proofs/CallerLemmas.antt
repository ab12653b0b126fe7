-- What crates above may cite: whether a number is a marker's, and what right sides are where the rules on bridges hold.
use Rattle.std.proofs.Common.{ℕ, ◌⊎◌}
use Rattle.wb_base.specs.Grammar.{GrammarView}
use Rattle.wb_syntax_resolved.specs.declared.resolved.ResolvedParts.{ResolvedParts}
use Rattle.wb_marking.specs.Bridges.{AreBridges}
use Rattle.wb_marking.specs.Marked.{IsMarked}
use Rattle.wb_marking.specs.Markers.{HasGrammar, IsMarker}
use Rattle.wb_marking.proofs.MarkedLemmas as own

-- there is a marker of this number, or none
pub marker_or_not : (r : ResolvedParts) (number : ℕ) → IsMarker r number ⊎ (¬ IsMarker r number)
marker_or_not r number = own.marker_or_not r number

-- where the rules on bridges hold, right sides have markers at their beginnings alone
pub marked : (r : ResolvedParts) (g : GrammarView) → HasGrammar r g → AreBridges r g → IsMarked r g
marked r g has rules = own.marked r g has rules
