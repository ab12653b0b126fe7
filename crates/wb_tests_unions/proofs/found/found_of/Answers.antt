-- The extension is certified with this host, and what is found is of the extension.
use Rattle.std.proofs.Common.{◌≡◌, ◌∙◌, ap, sym, subst, Some}
use Rattle.std.proofs.lemmas.Result.{IfOk-weaker}
use Rattle.wb_certify.specs.Kept.{AreCertifiedBoth}
use Rattle.wb_syntax_resolved.specs.declared.resolved.ResolvedParts.{ResolvedParts}
use Rattle.wb_tests_unions.specs.declared.found.Found.{Found}
use Rattle.wb_tests_unions.specs.Inner.Found.{IsFoundBeside, IsFoundIn}
use Rattle.wb_tests_unions.proofs.FitLemmas.{both_with}
use Rattle.wb_tests_unions.proofs.found.found_of.Goals as goal

pub found_by-requires : goal.found_by-requires
found_by-requires c =
    let own = c.args.own.now in
    let e = c.args.extension.now in
    let host = own.host.now in
    let parts : c.parts.result.now ≡ e.resolved = c.parts.ensures.parts ∙ c.resolved-resolved.ensures.resolved in
    let start = ap (λ (r : ResolvedParts). r.grammar) (sym parts) ∙ c.in-Some.is in record {
      own = c.requires.own;
      both = subst (λ (r : ResolvedParts). AreCertifiedBoth host.resolved r own.grammar.now c.in-Some.grammar host.operations)
          (sym c.resolved-resolved.ensures.resolved)
          (both_with host e own.grammar.now c.in-Some.grammar c.requires.certified c.requires.own.start start c.certified_both.ensures);
    }

pub returns-in-Some : goal.returns-in-Some
returns-in-Some c =
    let own = c.args.own.now in
    let e = c.args.extension.now in
    let parts : c.parts.result.now ≡ e.resolved = c.parts.ensures.parts ∙ c.resolved-resolved.ensures.resolved in
    let start = ap (λ (r : ResolvedParts). r.grammar) (sym parts) ∙ c.in-Some.is in
    IfOk-weaker c.found_by.result (IsFoundIn own c.resolved-resolved.result.now c.in-Some.grammar) (IsFoundBeside own e)
    (λ (x : Found) found. record {
      grammar = c.in-Some.grammar;
      start = start;
      found = subst (λ (r : ResolvedParts). IsFoundIn own r c.in-Some.grammar x) c.resolved-resolved.ensures.resolved found;
    }) c.found_by.ensures
