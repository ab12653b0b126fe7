use Rattle.wb_marking.proofs.ScopeLemmas as p
use Rattle.wb_marking.proofs.scope.is_marker.Goals as goal

pub returns-then-number-terminals : goal.returns-then-number-terminals
returns-then-number-terminals c =
    p.no_marker c.args.parts.now c.args.number c.as_slice-terminals.result.now c.as_slice-terminals.ensures c.if-number-terminals.true

pub returns-in-Marking : goal.returns-in-Marking
returns-in-Marking c =
    p.marker_there c.args.parts.now c.args.number c.as_slice-terminals.result.now c.as_slice-terminals.ensures c.if-number-terminals.false _
    c.in-Marking.is

pub returns-in_default : goal.returns-in_default
returns-in_default c =
    p.other_there c.args.parts.now c.args.number c.as_slice-terminals.result.now c.as_slice-terminals.ensures c.if-number-terminals.false _
    c.in_default.not-Marking
