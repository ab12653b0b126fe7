use Rattle.std.proofs.Common.{◌≡◌, ◌∙◌, ap, sym}
use Rattle.wb_syntax_resolved.specs.declared.resolved.ResolvedParts.{ResolvedParts}
use Rattle.wb_tests_unions.proofs.spliced.agree_on_union.Goals as goal

pub with_own-requires-clause-own : goal.with_own-requires-clause-own
with_own-requires-clause-own c =
    let parts : c.parts-2.result.now ≡ c.args.host.now.resolved = c.parts-2.ensures.parts ∙ c.resolved-resolved.ensures.resolved in record {
      certified = c.parts.ensures.certified;
      start = ap (λ (r : ResolvedParts). r.grammar) (sym parts) ∙ c.in-Some.is;
    }
