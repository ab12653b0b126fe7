use Rattle.std.proofs.Common.{subst}
use Rattle.wb_explain_mismatches.specs.declared.wrong.Finding.{Finding}
use Rattle.wb_explain_mismatches.specs.declared.wrong.Finding.TheVariants as f
use Rattle.wb_explain_mismatches.specs.Inner.Known.{IsFinding}
use Rattle.wb_explain_mismatches.specs.Inner.Saying.{MaySayKind}
use Rattle.wb_explain_mismatches.proofs.SaidLemmas.{on_ok, part_may, whole_may}
use Rattle.wb_explain_mismatches.proofs.mismatch.push_finding.Goals as goal

pub returns-in-Part : goal.returns-in-Part
returns-in-Part c =
    let a = c.args.world.now.attributes.now in
    let operations = c.args.world.now.operations.now in
    let e = c.args.expected.now in
    let w = c.in-Part.wrong in
    let finding : IsFinding a operations e.production.now e.nodes.now e.kind (f.Part c.in-Part.at w) =
    subst (λ (z : Finding). IsFinding a operations e.production.now e.nodes.now e.kind z) c.in-Part.is c.requires.found in
    let (node, has, wrong) = finding in
    on_ok c.push_part_at.result _ (MaySayKind a operations e.offset c.args.out.now.items c.push_part_at.new.out.items)
    (part_may a operations e.offset e.production.now e.nodes.now e.kind c.requires.at.listed c.requires.at.expected node w.number w.wanted
    w.found c.args.out.now.items c.push_part_at.new.out.items wrong)
    (c.push_part_at.ensures node has)

pub returns-in-Whole : goal.returns-in-Whole
returns-in-Whole c =
    let a = c.args.world.now.attributes.now in
    let operations = c.args.world.now.operations.now in
    let e = c.args.expected.now in
    let wrong : IsFinding a operations e.production.now e.nodes.now e.kind (f.Whole c.in-Whole.found) =
    subst (λ (z : Finding). IsFinding a operations e.production.now e.nodes.now e.kind z) c.in-Whole.is c.requires.found in
    on_ok c.push_whole.result _ (MaySayKind a operations e.offset c.args.out.now.items c.push_whole.new.out.items)
    (whole_may a operations e.offset e.production.now e.nodes.now e.kind c.requires.at.listed c.requires.at.expected c.in-Whole.found
    c.args.out.now.items c.push_whole.new.out.items wrong)
    c.push_whole.ensures
