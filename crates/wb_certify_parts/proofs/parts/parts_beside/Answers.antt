use Rattle.std.proofs.Common.{rules, subst, sym}
use Rattle.wb_syntax_resolved.specs.declared.resolved.ResolvedParts.{ResolvedParts}
use Rattle.wb_certify_parts.specs.Kept.{ArePartsBeside}
use Rattle.wb_certify_parts.proofs.PartLemmas.{HasHostParts, IsPlainMemory, found_extension, host_beside, no_extension_refusal, start_is}
use Rattle.wb_certify_parts.proofs.parts.parts_beside.Goals as goal

pub extension_determinism-requires-clause-grammar : goal.extension_determinism-requires-clause-grammar
extension_determinism-requires-clause-grammar c =
    let e = c.args.extension.now in
    let both = c.resolved-both.ensures in
    start_is e.host c.resolved-both.result.now e.operations c.args.host.now
    (subst (λ (z : ResolvedParts). HasHostParts e.host z e.operations c.args.host.now) (sym both.resolved)
    (record { certified = both.certified; both = c.certified_both.ensures; of_host = c.requires }))

pub extension_determinism-requires-clause-host : goal.extension_determinism-requires-clause-host
extension_determinism-requires-clause-host c =
    let e = c.args.extension.now in
    let both = c.resolved-both.ensures in
    host_beside e.host c.resolved-both.result.now e.operations c.args.host.now
    (subst (λ (z : ResolvedParts). HasHostParts e.host z e.operations c.args.host.now) (sym both.resolved)
    (record { certified = both.certified; both = c.certified_both.ensures; of_host = c.requires }))

pub unreachable-requires : goal.unreachable-requires
unreachable-requires c =
    let e = c.args.extension.now in
    let both = c.resolved-both.ensures in
    let plain : ¬ IsPlainMemory c.in-Err._refusal = search rules in
    no_extension_refusal e.host c.resolved-both.result.now e.operations c.args.host.now
    (subst (λ (z : ResolvedParts). HasHostParts e.host z e.operations c.args.host.now) (sym both.resolved)
    (record { certified = both.certified; both = c.certified_both.ensures; of_host = c.requires }))
    c.extension_refusals_law.ensures c.in-Err._refusal c.in-Err.ensures.refused plain

pub returns-in-Ok : goal.returns-in-Ok
returns-in-Ok c =
    subst (λ (z : ResolvedParts). ArePartsBeside z c.args.host.now c.in-Ok.parts) c.resolved-both.ensures.resolved
    (found_extension c.resolved-both.result.now c.args.host.now c.in-Ok.parts c.in-Ok.ensures.ok)
