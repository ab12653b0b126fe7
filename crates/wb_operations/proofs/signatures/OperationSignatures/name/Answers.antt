use Rattle.std.proofs.Common.{◌≡◌, List, length, refl, ap, subst, arith}
use Rattle.std.specs.Prelude.{IfSome, slice_get}
use Rattle.wb_operations.specs.Operations.{OperationSignature}
use Rattle.wb_operations.proofs.EntryLemmas.{length-signatures, at-name}
use Rattle.wb_operations.proofs.signatures.OperationSignatures.name.Goals as goal

pub name-requires : goal.name-requires
name-requires c =
    omega (
      arith,
      c.requires,
      ap length c.self.view_is,
      c.self.invariant.counted,
      length-signatures c.self.inside.names
          c.self.inside.entries.items c.self.invariant.counted,
    )

pub returns : goal.returns
returns c =
    subst (λ (ss : List OperationSignature). IfSome (slice_get ss c.args.operation) (λ s. c.name.result.now ≡ s.name)) c.self.view_is
    (at-name c.self.inside.names c.self.inside.entries.items c.args.operation c.name.result.now
    (λ s. c.name.result.now ≡ s.name) c.self.invariant.counted c.name.ensures (λ x. refl))
