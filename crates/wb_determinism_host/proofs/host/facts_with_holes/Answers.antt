use Rattle.wb_determinism_host.proofs.RefusalLemmas.{not_reduced}
use Rattle.wb_marking_holes.proofs.LiftLemmas.{lifted_reduced}
use Rattle.wb_determinism_host.proofs.host.facts_with_holes.Goals as goal

pub returns-in-Err-NotReduced-clause-refused : goal.returns-in-Err-NotReduced-clause-refused
returns-in-Err-NotReduced-clause-refused c =
    let r = c.args.host.now.resolved.now in
    let g = c.args.host.now.grammar.now in
    absurd (not_reduced c.args.holes.now c.in-Err-NotReduced.reason
    (rw c.in-Err-NotReduced.field-0-is at c.in-Err-NotReduced.ensures.refused)
    (rw c.requires.holes (lifted_reduced g r.extensible c.requires.sound.reduced)))

pub returns-in-Err-HiddenLeftRecursion-clause-refused : goal.returns-in-Err-HiddenLeftRecursion-clause-refused
returns-in-Err-HiddenLeftRecursion-clause-refused c =
    let refused = rw c.requires.holes at (rw c.in-Err-HiddenLeftRecursion.field-0-is at c.in-Err-HiddenLeftRecursion.ensures.refused) in
    (c.requires.sound, refused.1, refused.2, refused.3)
