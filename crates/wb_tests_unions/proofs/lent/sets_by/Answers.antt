use Rattle.std.proofs.Common.{ap, sym, subst}
use Rattle.wb_determinism_host.specs.declared.parts.HostParts.{HostParts}
use Rattle.wb_items.specs.Kernels.{KernelsView}
use Rattle.wb_items.specs.LookaheadSets.{AreLookaheads}
use Rattle.wb_tests_unions.proofs.lent.sets_by.Goals as goal

pub find-requires-clause-known : goal.find-requires-clause-known
find-requires-clause-known c =
    let own = c.args.own.now in
    let part = c.args.part.now in
    subst (λ (z : KernelsView). AreLookaheads z c.parts.result.now.lookaheads) (sym c.requires.ready.host)
    (subst (λ (p : HostParts). AreLookaheads own.host.now.parts.kernels p.lookaheads) (sym c.parts.ensures.parts)
    (c.requires.own.certified.parts own.grammar.now c.requires.own.start).lookaheads)

pub returns : goal.returns
returns c = rw c.in-Some.is at c.in_ok-sets.ensures
