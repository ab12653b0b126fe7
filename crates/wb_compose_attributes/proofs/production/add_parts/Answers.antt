use Rattle.std.proofs.Common.{refl}
use Rattle.wb_compose_attributes.proofs.production.add_parts.Goals as goal

pub returns : goal.returns
returns c = record {
  locals = c.in_ok-add_locals.ensures;
  forward = refl;
  equations = c.in_ok-add_equations.ensures;
}
