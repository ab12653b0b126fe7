use Rattle.std.proofs.Common.{sym, ◌∙◌}
use Rattle.std.proofs.lemmas.List.{get_or_default}
use Rattle.wb_syntax_expressions.specs.Places.{HasNode}
use Rattle.wb_explain_mismatches.proofs.KnownLemmas.{wrong_part}
use Rattle.wb_explain_mismatches.proofs.wrong.part_at.Goals as goal

pub returns-in-Some : goal.returns-in-Some
returns-in-Some c = λ wanted known.
    let a = c.args.context.now.attributes.now in
    let operations = c.args.context.now.operations.now in
    let production = c.args.context.now.production.now in
    let nodes = c.args.nodes.now in
    let node = c.index-nodes-at.result in
    let has : HasNode nodes c.args.at node = record {
      within = c.requires;
      is = λ default. get_or_default nodes c.args.at default node c.requires ∙ sym c.index-nodes-at.is;
    } in
    (node, has, wrong_part a operations production nodes c.args.kinds.now known c.args.at node c.in-Some.wrong has c.in-Some.ensures)
