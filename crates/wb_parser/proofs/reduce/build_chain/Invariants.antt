use Rattle.std.proofs.Common.{◌≤◌, List, length, drop, All}
use Rattle.wb_values.specs.Tree.{Tree}
use Rattle.wb_values.specs.ValuesIn.{IsIn}
use Rattle.wb_values.specs.declared.value.Value.{Value}
use Rattle.wb_parser.specs.Parses.{Extends}
use Rattle.wb_parser.specs.Inner.Chains.{AreBuilt}
use Rattle.wb_parser.proofs.reduce.build_chain.Given as goal

abbrev pub invariant-links : goal.invariant-links
invariant-links l = record {
  some : 1 ≤ length l.values;
  values : All (IsIn (length l.store)) l.values;
  rest : (vs : List Value) (trees : List Tree) → AreBuilt (drop l.production-index l.productions) l.values l.store vs trees
      → AreBuilt l.productions l.initial.values l.initial.store vs trees;
  extends : Extends l.initial.store l.store;
}
