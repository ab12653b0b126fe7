use Rattle.std.proofs.Common.{refl}
use Rattle.wb_flow.proofs.ReadLemmas.{keeps_nothing, known_production}
use Rattle.wb_flow.proofs.tested.check_graph.Goals as goal

pub returns-then-not-inherits-clause-ok : goal.returns-then-not-inherits-clause-ok
returns-then-not-inherits-clause-ok c =
    let t = c.args.tested.now in
    let a = t.scope.now.attributes.now in (
      keeps_nothing a c.requires.attribution t.production.now
          (known_production a c.requires.attribution t.number t.production.now c.requires.there) (c.if-not-inherits.ensures refl),
      c.in_ok-note_cycle.ensures,
    )
