use Rattle.std.proofs.Common.{refl}
use Rattle.wb_flow.proofs.CheckLemmas.{notes_none}
use Rattle.wb_flow.proofs.ReadLemmas.{known_production}
use Rattle.wb_flow.proofs.WalkLemmas.{acyclic_apart}
use Rattle.wb_flow.proofs.tested.check_reached.Goals as goal

pub returns-then-leave_components-clause-ok : goal.returns-then-leave_components-clause-ok
returns-then-leave_components-clause-ok c =
    let t = c.args.tested.now in
    let a = t.scope.now.attributes.now in
    let named = known_production a c.requires.tested.attribution t.number t.production.now c.requires.tested.there in (
      c.in_ok-check_reads.ensures.ok,
      notes_none a t.number t.production.now c.args.cycle.now
          (acyclic_apart a t.production.now t.graph.now c.requires.tested.graph c.requires.tested.attribution named c.args.reach.now.components
          c.requires.reach.components (c.if-leave_components.ensures refl)),
    )
