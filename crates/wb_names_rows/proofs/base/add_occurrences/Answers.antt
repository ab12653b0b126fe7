use Rattle.std.proofs.Common.{List, sym, subst, take, length, ◌+◌, ◌<◌}
use Rattle.wb_syntax_resolved.specs.declared.attributes.Occurrence.{Occurrence}
use Rattle.wb_names_rows.specs.Base.{IsOccurrenceNow}
use Rattle.wb_names_rows.specs.Plains.{AddsEach}
use Rattle.wb_names_rows.proofs.PlainLemmas.{each_more, each_all}
use Rattle.wb_names_rows.proofs.base.add_occurrences.Goals as goal

pub loop-occurrence-preserved : goal.loop-occurrence-preserved
loop-occurrence-preserved c =
    let now = IsOccurrenceNow c.args.moves.now in
    subst (λ (z : List Occurrence). AddsEach now (take (c.loop-occurrence.occurrence-index + 1) c.args.occurrences.now)
    c.args.made.now.items z)
    (sym c.in_ok-push.ensures.ok)
    (each_more now c.args.occurrences.now c.loop-occurrence.occurrence-index c.occurrence-item.result c.in_ok-moved.moved
    c.args.made.now.items
    c.loop-occurrence.made.items c.loop-occurrence.invariant c.loop-occurrence-test.true c.occurrence-item.is c.in_ok-moved.ensures)

pub moved_occurrence-requires : goal.moved_occurrence-requires
moved_occurrence-requires c =
    subst (λ (z : Occurrence). z.nonterminal < length c.args.moves.now.nonterminals.items) (sym c.occurrence-item.is)
    (c.requires c.loop-occurrence.occurrence-index c.occurrence-item.result c.loop-occurrence-test.true)

pub returns : goal.returns
returns c =
    each_all (IsOccurrenceNow c.args.moves.now) c.args.occurrences.now c.loop-occurrence.occurrence-index c.args.made.now.items
    c.loop-occurrence.made.items
    c.loop-occurrence.invariant c.loop-occurrence-test.false
