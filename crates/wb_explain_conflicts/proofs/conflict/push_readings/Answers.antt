use Rattle.std.proofs.Common.{◌≡◌, ◌∙◌, Some, IfSome, ap, subst, sym}
use Rattle.wb_base.specs.Grammar.{GrammarView}
use Rattle.wb_syntax_resolved.specs.declared.resolved.ResolvedParts.{ResolvedParts}
use Rattle.wb_marking_holes.specs.Holes.{with_holes_of}
use Rattle.wb_explain_conflicts.proofs.SaidLemmas.{says_holes}
use Rattle.wb_explain_conflicts.proofs.conflict.push_readings.Goals as goal

pub returns-in_ok-holes-in-Some : goal.returns-in_ok-holes-in-Some
returns-in_ok-holes-in-Some c =
    let r = c.args.resolved.now in
    let g = c.in-Some.grammar in
    let has : r.grammar ≡ Some g = sym (ap (λ (z : ResolvedParts). z.grammar) c.parts.ensures.parts) ∙ c.in-Some.is in
    let is = subst (λ o. IfSome o (λ (h : GrammarView). c.in_ok-holes-in-Some.holes ≡ with_holes_of h r.extensible)) has c.in_ok-holes-in-Some.ensures in
    says_holes c.push_in-answer.result r g c.in_ok-holes-in-Some.holes c.args.out.now.items c.push_in-answer.new.out.items has is
    c.push_in-answer.ensures
