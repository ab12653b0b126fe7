use Rattle.wb_syntax_expressions.proofs.NodeLemmas.{has_node}
use Rattle.std.proofs.Common.{◌-◌, List, length, sym, subst, arith}
use Rattle.wb_reader_printer.specs.Inner.Walk.{IsVisiting}
use Rattle.wb_reader_printer.specs.declared.expressions.Waiting.{Waiting}
use Rattle.wb_syntax_expressions.proofs.PlaceLemmas.{whole_stands, size_some}
use Rattle.wb_reader_printer.proofs.WalkLemmas.{visit_first, visit_within, visit_next, visit_last}
use Rattle.wb_reader_printer.proofs.expressions.write_expression.Goals as goal

pub overflow_sub-place : goal.overflow_sub-place
overflow_sub-place c = omega (arith, (whole_stands c.args.nodes.now c.requires.0 c.requires.1).1, size_some c.requires.0)

pub visits-init : goal.visits-init
visits-init c = λ e q.
    let s = whole_stands c.args.nodes.now e q in
    subst (λ (l : List Waiting). IsVisiting c.args.nodes.now c.args.line.now c.args.line.now (length c.args.nodes.now - 1) l 0 e)
    (sym c.new-stack.ensures)
    (visit_first c.args.nodes.now e c.args.line.now (length c.args.nodes.now - 1) s.0 s.1)

pub returns-in_default : goal.returns-in_default
returns-in_default c = λ e q.
    let within =
    (visit_within c.args.nodes.now e c.args.line.now c.visits.line c.visits.place c.visits.stack c.visits._visited
    (c.visits.invariant e q)).0 in
    let k = rw c.in_default.is at (c.in_ok-next.ensures c.args.nodes.now) in
    visit_last c.args.nodes.now e c.args.line.now c.visits.line c.visit.new.line c.next_whole.new.line c.visits.place c.visits.stack
    c.visit.new.stack c.visits._visited
    (c.visits.invariant e q)
    (c.in_ok-visit.ensures c.args.nodes.now c.visits.place (has_node c.args.nodes.now c.visits.place _ within c.index-nodes-place.is)) k

pub visits-preserved : goal.visits-preserved
visits-preserved c = λ e q.
    let within =
    (visit_within c.args.nodes.now e c.args.line.now c.visits.line c.visits.place c.visits.stack c.visits._visited
    (c.visits.invariant e q)).0 in
    let k = rw c.in-Some.is at (c.in_ok-next.ensures c.args.nodes.now) in
    visit_next c.args.nodes.now e c.args.line.now c.visits.line c.visit.new.line c.next_whole.new.line c.visits.place c.in-Some.next
    c.visits.stack c.visit.new.stack
    c.next_whole.new.stack c.visits._visited (c.visits.invariant e q)
    (c.in_ok-visit.ensures c.args.nodes.now c.visits.place (has_node c.args.nodes.now c.visits.place _ within c.index-nodes-place.is)) k
