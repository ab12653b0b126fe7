use Rattle.std.proofs.Common.{◌≡◌, ◌∙◌, ap, sym}
use Rattle.wb_syntax_resolved.specs.declared.resolved.ResolvedParts.{ResolvedParts}
use Rattle.wb_tests_unions.proofs.additions.addition_of.Goals as goal

pub returns : goal.returns
returns c =
    let parts : c.parts-parts.result.now ≡ c.args.extension.now.resolved = c.parts-parts.ensures.parts ∙ c.resolved.ensures.resolved in
    ap (λ (r : ResolvedParts). r.grammar) (sym parts) ∙ c.in-Some.is
