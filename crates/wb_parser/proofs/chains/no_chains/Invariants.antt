use Rattle.std.proofs.Common.{[]}
use Rattle.wb_base.specs.Grammar.{GrammarView}
use Rattle.wb_scan_theory.specs.Parts.{AreTablesOf}
use Rattle.wb_parser.specs.Inner.Chains.{AreChains}
use Rattle.wb_parser.proofs.chains.no_chains.Given as goal

abbrev pub invariant-places : goal.invariant-places
invariant-places l = (g : GrammarView) → AreTablesOf g l.tables → AreChains g l.tables [] l.chains.items
