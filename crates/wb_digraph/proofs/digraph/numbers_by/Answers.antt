use Rattle.std.proofs.Common.{◌≡◌, sym, subst}
use Rattle.std.specs.Prelude.{◌↔◌}
use Rattle.wb_termset.specs.Sets.{IsMember}
use Rattle.wb_base.specs.Grammar.{GrammarView}
use Rattle.wb_grammar_theory.specs.Productions.{end_of}
use Rattle.wb_items.specs.Kernels.{count_of}
use Rattle.wb_digraph.specs.Inner.Numbers.{AreFirstsUpTo}
use Rattle.wb_digraph.specs.Inner.Pools.{IsStart, set_at}
use Rattle.wb_digraph.proofs.FirstLemmas.{firsts_below, firsts_exact}
use Rattle.wb_digraph.proofs.HeldLemmas.{reads_kept, start_kept}
use Rattle.wb_digraph.proofs.digraph.numbers_by.Goals as goal

pub end_number-requires : goal.end_number-requires
end_number-requires c = subst (λ (g : GrammarView). IsStart g c.args.pool.now) c.requires.context.of_grammar c.requires.pool

pub numbers_from-requires-clause-len : goal.numbers_from-requires-clause-len
numbers_from-requires-clause-len c =
    (subst (AreFirstsUpTo c.args.context.now.kernels.now c.args.context.now.productions.now c.args.context.now.bases.now c.args.reads.now c.in_ok-end.end (count_of c.args.context.now.kernels.now))
    (sym c.deref.ensures.value) c.in_ok-firsts.ensures).len

pub numbers_from-requires-clause-below : goal.numbers_from-requires-clause-below
numbers_from-requires-clause-below c =
    let start = start_kept c.args.context.now.kernels.now.grammar c.args.pool.now c.end_number.new.pool c.in_ok-end.ensures.extends c.requires.pool in
    let r = reads_kept c.args.context.now.kernels.now c.args.pool.now c.end_number.new.pool c.args.reads.now c.in_ok-end.ensures.extends c.requires.reads in
    firsts_below c.requires.context.are_kernels c.args.context.now.productions.now c.args.context.now.bases.now c.args.reads.now c.in_ok-end.end
    c.requires.context.are_bases c.end_number.new.pool c.deref.result.now start.some c.in_ok-end.ensures.below r.below
    (subst (AreFirstsUpTo c.args.context.now.kernels.now c.args.context.now.productions.now c.args.context.now.bases.now c.args.reads.now c.in_ok-end.end (count_of c.args.context.now.kernels.now))
    (sym c.deref.ensures.value) c.in_ok-firsts.ensures)

pub numbers_from-requires-clause-firsts : goal.numbers_from-requires-clause-firsts
numbers_from-requires-clause-firsts c =
    let start = start_kept c.args.context.now.kernels.now.grammar c.args.pool.now c.end_number.new.pool c.in_ok-end.ensures.extends c.requires.pool in
    let r = reads_kept c.args.context.now.kernels.now c.args.pool.now c.end_number.new.pool c.args.reads.now c.in_ok-end.ensures.extends c.requires.reads in
    firsts_exact c.requires.context.are_kernels c.args.context.now.productions.now c.args.context.now.bases.now c.args.reads.now c.in_ok-end.end
    c.requires.context.are_bases c.requires.context.in_range c.requires.context.are_productions c.end_number.new.pool start.empty r
    (λ t. subst (λ (g : GrammarView). IsMember (set_at c.end_number.new.pool c.in_ok-end.end) t ↔ (t ≡ end_of g))
    (sym c.requires.context.of_grammar) (c.in_ok-end.ensures.end t))
    c.deref.result.now
    (subst (AreFirstsUpTo c.args.context.now.kernels.now c.args.context.now.productions.now c.args.context.now.bases.now c.args.reads.now c.in_ok-end.end (count_of c.args.context.now.kernels.now))
    (sym c.deref.ensures.value) c.in_ok-firsts.ensures)
