use Rattle.std.proofs.Common.{◌≡◌, ◌<◌, List, length, refl, sym, ap, subst, ◌∙◌, arith}
use Rattle.std.specs.Prelude.{IfSome, slice_get}
use Rattle.wb_operations.specs.Operations.{OperationSignature}
use Rattle.wb_operations.proofs.EntryLemmas.{length-signatures, at-entry}
use Rattle.wb_operations.proofs.signatures.OperationSignatures.gives.Goals as goal

pub index-requires : goal.index-requires
index-requires c =
    omega (
      arith,
      c.requires,
      ap length c.self.view_is,
      length-signatures c.self.inside.names c.self.inside.entries.items
          c.self.invariant.counted,
      c.self.inside.entries.ok.0,
    )

pub returns : goal.returns
returns c =
    let lt : c.args.operation < length c.self.inside.entries.items = omega (
      arith,
      c.requires,
      ap length c.self.view_is,
      length-signatures c.self.inside.names c.self.inside.entries.items
          c.self.invariant.counted,
    ) in
    subst (λ (ss : List OperationSignature). IfSome (slice_get ss c.args.operation)
    (λ s. c.index.result.now.gives ≡ s.gives)) c.self.view_is
    (at-entry c.self.inside.names c.self.inside.entries.items c.args.operation c.index.result.now
    (λ s. c.index.result.now.gives ≡ s.gives) c.self.invariant.counted lt c.index.ensures (λ n. refl))
