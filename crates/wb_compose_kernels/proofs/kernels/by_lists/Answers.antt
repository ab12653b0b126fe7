use Rattle.std.proofs.Common.{subst, sym}
use Rattle.wb_compose_kernels.specs.Inner.Moves.{AreMovesOf}
use Rattle.wb_compose_kernels.proofs.RowLemmas.{numbers_are}
use Rattle.wb_compose_kernels.proofs.UnionLemmas.{listed_in_order, listed_lists, listed_live, listed_reached}
use Rattle.wb_compose_kernels.proofs.kernels.by_lists.Goals as goal

pub moves_of-requires-clause-blocks : goal.moves_of-requires-clause-blocks
moves_of-requires-clause-blocks c = (c.requires.blocks c.requires.given.spliceable).len

pub moves_of-requires-clause-lists : goal.moves_of-requires-clause-lists
moves_of-requires-clause-lists c =
    numbers_are c.args.splice.now c.requires.given.spliceable c.requires.given (c.requires.listed c.requires.given.spliceable)

pub from_parts-made-requires-clause-live : goal.from_parts-made-requires-clause-live
from_parts-made-requires-clause-live c =
    listed_live c.args.splice.now c.requires.given c.args.host c.args.blocks.now c.args.kernels.now c.args.numbers.now
    c.args.new.now c.in_ok-moves.moves.items c.requires.host c.requires.blocks c.requires.listed c.in_ok-moves.ensures

pub from_parts-made-requires-clause-lists : goal.from_parts-made-requires-clause-lists
from_parts-made-requires-clause-lists c =
    listed_lists c.args.splice.now c.requires.given c.args.host c.args.blocks.now c.args.kernels.now c.args.numbers.now
    c.args.new.now c.deref.result.now c.requires.host c.requires.blocks c.requires.listed
    (subst (AreMovesOf c.args.splice.now c.args.host c.args.blocks.now c.args.numbers.now c.args.new.now)
    (sym c.deref.ensures.value) c.in_ok-moves.ensures)

pub from_parts-made-requires-clause-in_order : goal.from_parts-made-requires-clause-in_order
from_parts-made-requires-clause-in_order c =
    listed_in_order c.args.splice.now c.requires.given c.args.host c.args.blocks.now c.args.kernels.now c.args.numbers.now
    c.args.new.now c.in_ok-moves.moves.items c.requires.host c.requires.blocks c.requires.listed c.in_ok-moves.ensures

pub from_parts-made-requires-clause-reached : goal.from_parts-made-requires-clause-reached
from_parts-made-requires-clause-reached c =
    listed_reached c.args.splice.now c.requires.given c.args.host c.args.blocks.now c.args.kernels.now c.args.numbers.now
    c.args.new.now c.deref.result.now c.requires.host c.requires.blocks c.requires.listed
    (subst (AreMovesOf c.args.splice.now c.args.host c.args.blocks.now c.args.numbers.now c.args.new.now)
    (sym c.deref.ensures.value) c.in_ok-moves.ensures)
