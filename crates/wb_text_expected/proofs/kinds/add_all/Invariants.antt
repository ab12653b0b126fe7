use Rattle.std.proofs.Common.{List, ◌++◌, drop, reverse}
use Rattle.wb_text_predictive.specs.declared.table.Placed.{Placed}
use Rattle.wb_text_predictive.specs.Stack.{Any}
use Rattle.wb_text_expected.specs.Expected.{AreThose, ComesAfter}
use Rattle.wb_text_expected.specs.Inner.Bare.{StandsBare}
use Rattle.wb_text_expected.proofs.kinds.add_all.Given as goal

abbrev pub invariant-kinds : goal.invariant-kinds
invariant-kinds g l = (read : List (Placed g.row.T-Token.Denot)) (first : g.row.T-Values.Denot)
    → StandsBare g.T.Kind.PartialEq.eq g.T.Table.end_kind g.T.Table.entries g.T.Table.grammar read (reverse l.stack) Any
    → (rest : List g.row.T-Kind.Denot) → AreThose (ComesAfter g.T.Table.grammar first read) (drop l.kind-index l.kinds) rest
    → AreThose (ComesAfter g.T.Table.grammar first read) l.kinds (l.out.items ++ rest)
