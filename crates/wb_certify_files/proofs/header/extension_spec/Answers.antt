-- A certified host is one by numbers.
use Rattle.std.proofs.Common.{IfErr, IfOk, subst}
use Rattle.wb_syntax_resolved.specs.declared.resolved.ResolvedParts.{ResolvedParts}
use Rattle.wb_certify_files.specs.Specifications.{IsHeaderRefusal, IsSpecFor}
use Rattle.wb_certify_files.proofs.header.extension_spec.Goals as goal

pub returns-clause-spec : goal.returns-clause-spec
returns-clause-spec c =
    subst (λ (r : ResolvedParts). IfOk c.extension_spec_of.result (IsSpecFor r c.args.contents.now)) c.resolved.ensures.resolved
    c.extension_spec_of.ensures.spec

pub returns-clause-refused : goal.returns-clause-refused
returns-clause-refused c =
    subst (λ (r : ResolvedParts). IfErr c.extension_spec_of.result (IsHeaderRefusal r c.args.contents.now)) c.resolved.ensures.resolved
    c.extension_spec_of.ensures.refused
