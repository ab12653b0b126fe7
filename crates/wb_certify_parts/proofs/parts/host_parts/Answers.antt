use Rattle.std.proofs.Common.{rules, subst, sym}
use Rattle.std.specs.Prelude.{IfSome}
use Rattle.wb_certify_host.specs.Hosts.{IsCertifiedValue}
use Rattle.wb_determinism_host.specs.Hosts.{AreHostParts}
use Rattle.wb_syntax_resolved.specs.declared.resolved.ResolvedParts.{ResolvedParts}
use Rattle.wb_certify_parts.proofs.PartLemmas.{IsPlainMemory, found_host, host_start, no_host_refusal}
use Rattle.wb_certify_parts.proofs.parts.host_parts.Goals as goal

pub host_determinism-requires : goal.host_determinism-requires
host_determinism-requires c =
    let e = c.args.extension.now in
    let is = subst (λ (z : ResolvedParts). IsCertifiedValue z e.operations) (sym c.host-host.ensures.host) c.host-host.ensures.certified in
    host_start c.host-host.result.now e.operations is

pub unreachable-requires : goal.unreachable-requires
unreachable-requires c =
    let e = c.args.extension.now in
    let is = subst (λ (z : ResolvedParts). IsCertifiedValue z e.operations) (sym c.host-host.ensures.host) c.host-host.ensures.certified in
    let plain : ¬ IsPlainMemory c.in-Err._refusal = search rules in
    no_host_refusal c.host-host.result.now e.operations is c.host_refusals_law.ensures c.in-Err._refusal c.in-Err.ensures.refused plain

pub returns-in-Ok : goal.returns-in-Ok
returns-in-Ok c =
    let e = c.args.extension.now in
    let is = subst (λ (z : ResolvedParts). IsCertifiedValue z e.operations) (sym c.host-host.ensures.host) c.host-host.ensures.certified in
    subst (λ (z : ResolvedParts). IfSome z.grammar (λ g. AreHostParts z g c.in-Ok.parts)) c.host-host.ensures.host
    (found_host c.host-host.result.now e.operations is c.in-Ok.parts c.in-Ok.ensures.ok)
