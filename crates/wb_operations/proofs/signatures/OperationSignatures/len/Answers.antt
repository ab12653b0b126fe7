use Rattle.std.proofs.Common.{List, All, length, sym, ap, subst, ◌∙◌}
use Rattle.wb_base.specs.Different.{Differ}
use Rattle.wb_operations.specs.Operations.{OperationSignature, IsPlainSignature, names_of}
use Rattle.wb_operations.proofs.EntryLemmas.{length-signatures, names-signatures, plain-signatures}
use Rattle.wb_operations.proofs.signatures.OperationSignatures.len.Goals as goal

pub returns-clause-count : goal.returns-clause-count
returns-clause-count c =
    c.len.ensures.count ∙ c.self.invariant.counted ∙ sym
    (length-signatures c.self.inside.names c.self.inside.entries.items c.self.invariant.counted) ∙ ap length c.self.view_is

pub returns-clause-different : goal.returns-clause-different
returns-clause-different c =
    subst Differ (sym (names-signatures c.self.inside.names c.self.inside.entries.items c.self.invariant.counted)
    ∙ ap names_of c.self.view_is) c.len.ensures.different

pub returns-clause-plain : goal.returns-clause-plain
returns-clause-plain c =
    subst (All IsPlainSignature) c.self.view_is
    (plain-signatures c.self.inside.names c.self.inside.entries.items c.self.invariant.counted c.self.invariant.plain)
