use Rattle.std.proofs.Common.{◌∙◌, ap}
use Rattle.wb_syntax_resolved.specs.declared.resolved.ResolvedParts.{ResolvedParts}
use Rattle.wb_recheck.proofs.ExtensionLemmas.{certificate_told, fault_told}
use Rattle.wb_recheck.proofs.HostLemmas.{facts_are}
use Rattle.wb_recheck.proofs.beside.looked_by.Goals as goal

pub lookaheads_by_text-requires : goal.lookaheads_by_text-requires
lookaheads_by_text-requires c =
    facts_are c.args.resolved.now c.args.grammar.now c.args.facts.now c.requires.grammar c.requires.facts

pub returns-clause-certificate : goal.returns-clause-certificate
returns-clause-certificate c =
    certificate_told c.args.resolved.now c.args.grammar.now c.args.facts.now c.requires.grammar c.requires.facts c.args.certificate.now
    c.name_of-name.result.now c.as_slice-host.result.now c.name_of-name.ensures
    (c.as_slice-host.ensures ∙ ap (λ (p : ResolvedParts). p.host) c.parts.ensures.parts) c.lookaheads_by_text.result
    c.lookaheads_by_text.ensures.certificate

pub returns-clause-refused : goal.returns-clause-refused
returns-clause-refused c =
    fault_told c.args.resolved.now c.args.grammar.now c.args.facts.now c.requires.grammar c.requires.facts c.args.certificate.now
    c.name_of-name.result.now c.as_slice-host.result.now c.name_of-name.ensures
    (c.as_slice-host.ensures ∙ ap (λ (p : ResolvedParts). p.host) c.parts.ensures.parts) c.lookaheads_by_text.result c.requires.markers
    c.lookaheads_by_text.ensures.refused
