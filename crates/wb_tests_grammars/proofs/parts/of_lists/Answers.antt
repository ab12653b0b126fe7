use Rattle.std.proofs.Common.{subst, sym}
use Rattle.wb_base.specs.Grammar.{GrammarView}
use Rattle.wb_grammar_theory.specs.Shape.{IsLive}
use Rattle.wb_items.specs.Kernels.{count_of}
use Rattle.wb_recheck_theory.specs.KernelLists.{AreKernelsAndMoves}
use Rattle.wb_tests_grammars.specs.Listed.{AreMovesUpTo}
use Rattle.wb_tests_grammars.proofs.ListedLemmas.{all_lists, all_moves, all_reached}
use Rattle.wb_tests_grammars.proofs.parts.of_lists.Goals as goal

moves_are : (c : goal.After-deref) → AreMovesUpTo c.args.kernels.now c.deref.result.now (count_of c.args.kernels.now)
moves_are c = subst (λ z. AreMovesUpTo c.args.kernels.now z (count_of c.args.kernels.now)) (sym c.deref.ensures.value) c.in_ok-moves.ensures

pub from_parts-made-requires-clause-live : goal.from_parts-made-requires-clause-live
from_parts-made-requires-clause-live c = subst IsLive c.requires.grammar c.count-count.ensures.exact.live

pub from_parts-made-requires-clause-lists : goal.from_parts-made-requires-clause-lists
from_parts-made-requires-clause-lists c =
    let kernels = c.args.kernels.now in
    let lists = c.args.lists.now in
    let moves = c.deref.result.now in
    subst (λ (g : GrammarView). AreKernelsAndMoves g lists moves) c.requires.grammar
    (c.parts_law.ensures kernels lists moves c.count-count.ensures.exact (all_lists kernels lists c.requires.lists)
    (all_moves kernels moves (moves_are c)))

pub from_parts-made-requires-clause-reached : goal.from_parts-made-requires-clause-reached
from_parts-made-requires-clause-reached c =
    all_reached c.args.kernels.now c.args.lists.now c.deref.result.now c.requires.lists (moves_are c) c.count-count.ensures.reached
