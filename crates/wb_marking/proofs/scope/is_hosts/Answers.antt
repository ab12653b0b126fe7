use Rattle.std.proofs.Common.{◌∙◌, ap}
use Rattle.wb_syntax_resolved.specs.declared.attribution.AttributionParts.{AttributionParts}
use Rattle.wb_marking.proofs.ScopeLemmas as p
use Rattle.wb_marking.proofs.scope.is_hosts.Goals as goal

pub returns-then-nonterminal-nonterminals : goal.returns-then-nonterminal-nonterminals
returns-then-nonterminal-nonterminals c =
    p.no_nonterminal c.args.parts.now c.args.nonterminal c.as_slice-nonterminals.result.now
    (c.as_slice-nonterminals.ensures ∙ ap (λ (a : AttributionParts). a.nonterminals) c.parts.ensures.parts)
    c.if-nonterminal-nonterminals.true

pub returns : goal.returns
returns c =
    p.nonterminal_there c.args.parts.now c.args.nonterminal c.as_slice-nonterminals.result.now
    (c.as_slice-nonterminals.ensures ∙ ap (λ (a : AttributionParts). a.nonterminals) c.parts.ensures.parts)
    c.if-nonterminal-nonterminals.false _
