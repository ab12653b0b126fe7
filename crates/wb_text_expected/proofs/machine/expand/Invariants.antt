use Rattle.std.proofs.Common.{List, reverse}
use Rattle.wb_text_predictive.specs.declared.table.Placed.{Placed}
use Rattle.wb_text_predictive.specs.Entries.{weight_of}
use Rattle.wb_text_predictive.specs.Stack.{Any, Begins}
use Rattle.wb_text_expected.specs.Inner.Bare.{StandsBare}
use Rattle.wb_text_expected.proofs.machine.expand.Given as goal

abbrev pub invariant-expand : goal.invariant-expand
invariant-expand g l =
    let t = g.T.Table in
    let same = g.T.Kind.PartialEq.eq in
    (read : List (Placed g.row.T-Token.Denot)) →
    StandsBare same t.end_kind t.entries t.grammar read (reverse l.fn.stack.items) Any →
    StandsBare same t.end_kind t.entries t.grammar read (reverse l.stack.items) (Begins t.grammar.kind_of t.end_kind l.kind)

abbrev pub decreases-expand : goal.decreases-expand
decreases-expand g l = weight_of g.T.Table.entries (reverse l.stack.items)
