use Rattle.std.proofs.Common.{ap, refl}
use Rattle.wb_determinism_host.specs.declared.parts.HostParts.{HostParts}
use Rattle.wb_tests_unions.proofs.lent.lent_of.Goals as goal

pub returns : goal.returns
returns c = record {
  host = ap (λ (p : HostParts). p.kernels) c.parts-parts.ensures.parts;
  grammar = refl;
  numbers = refl;
  images = c.deref.ensures.value;
  new = refl;
}
