use Rattle.std.proofs.Common.{refl}
use Rattle.wb_recheck_writer.proofs.MovedLemmas.{moved_here, moved_listed, moved_some, moved_within}
use Rattle.wb_recheck_writer.proofs.moved.moved.Goals as goal

pub unreachable-requires : goal.unreachable-requires
unreachable-requires c =
    moved_some c.args.context.now c.requires.context c.args.kernel c.state.result c.state.ensures c.args.symbol c.requires.moves
    (c.in_default.ensures.none.0 refl)

pub unreachable-requires-in_default-place : goal.unreachable-requires-in_default-place
unreachable-requires-in_default-place c =
    c.in_default-place.ensures (moved_listed c.args.context.now c.requires.context c.args.kernel c.state.result c.state.ensures
    c.args.symbol
    c.in-Some.next c.in-Some.ensures.some)

pub returns-clause-within : goal.returns-clause-within
returns-clause-within c =
    moved_within c.args.context.now c.requires.context c.in-Some-place.place c.in-Some.next c.in-Some-place.ensures

pub returns-clause-is : goal.returns-clause-is
returns-clause-is c =
    moved_here c.args.context.now c.requires.context c.args.kernel c.state.result c.state.ensures c.args.symbol c.in-Some.next
    c.in-Some.ensures.some c.in-Some-place.place c.in-Some-place.ensures
