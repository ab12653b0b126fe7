use Rattle.std.proofs.Common.{List, reverse}
use Rattle.wb_text_predictive.specs.declared.table.Placed.{Placed}
use Rattle.wb_text_predictive.specs.Entries.{weight_of}
use Rattle.wb_text_predictive.specs.Stack.{Stands, Any, Begins}
use Rattle.wb_text_predictive.proofs.machine.expand.Given as goal

abbrev pub invariant-expand : goal.invariant-expand
invariant-expand g l =
    let t = g.T.Table in
    let same = g.T.Kind.PartialEq.eq in
    (first : g.row.T-Values.Denot) (read : List (Placed g.row.T-Token.Denot)) →
    Stands same t.end_kind t.entries t.grammar first read (reverse l.fn.stack.items) l.fn.values Any →
    Stands same t.end_kind t.entries t.grammar first read (reverse l.stack.items) l.values (Begins t.grammar.kind_of t.end_kind l.kind)

abbrev pub decreases-expand : goal.decreases-expand
decreases-expand g l = weight_of g.T.Table.entries (reverse l.stack.items)
