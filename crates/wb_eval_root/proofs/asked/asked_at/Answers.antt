use Rattle.std.proofs.Common.{subst}
use Rattle.wb_syntax_resolved.specs.declared.attribution.AttributionParts.{AttributionParts}
use Rattle.wb_values.specs.Fits.{FitsTree}
use Rattle.wb_values.specs.ValuesIn.{tree_in}
use Rattle.wb_eval_root.proofs.AskedLemmas.{asked_there}
use Rattle.wb_eval_root.proofs.asked.asked_at.Goals as goal

pub returns : goal.returns
returns c =
    let top = tree_in c.args.store.now c.args.root.0 in
    asked_there c.args.attributes.now c.args.name.now top c.nonterminal_of-nonterminal.result
    (subst (λ (a : AttributionParts). FitsTree a.signatures top c.nonterminal_of-nonterminal.result) c.parts.ensures.parts
    c.nonterminal_of-nonterminal.ensures) c.asked_on.result c.asked_on.ensures
