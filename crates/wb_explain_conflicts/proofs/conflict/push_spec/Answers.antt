use Rattle.std.proofs.Common.{subst}
use Rattle.wb_certify_files.proofs.ExtensionLemmas.{extends_by}
use Rattle.wb_certify_files.specs.Numbered.{IsNumbered}
use Rattle.wb_syntax_resolved.specs.declared.resolved.ResolvedParts.{ResolvedParts}
use Rattle.wb_explain_conflicts.proofs.SaidLemmas.{says_of}
use Rattle.wb_explain_conflicts.proofs.conflict.push_spec.Goals as goal

pub push_both-answer-requires-clause-extends : goal.push_both-answer-requires-clause-extends
push_both-answer-requires-clause-extends g c =
    let is = subst (λ (r : ResolvedParts). IsNumbered r c.args.spec.now c.in-Ok.resolved) c.resolved.ensures.resolved c.in-Ok.ensures.ok in
    extends_by c.args.host.now.resolved c.args.spec.now c.in-Ok.resolved is c.items.ensures.text

pub returns-in-Ok : goal.returns-in-Ok
returns-in-Ok g c =
    let is = subst (λ (r : ResolvedParts). IsNumbered r c.args.spec.now c.in-Ok.resolved) c.resolved.ensures.resolved c.in-Ok.ensures.ok in
    says_of c.push_both-answer.result (IsNumbered c.args.host.now.resolved c.args.spec.now) c.in-Ok.resolved c.args.out.now.items
    c.push_both-answer.new.out.items is c.push_both-answer.ensures
