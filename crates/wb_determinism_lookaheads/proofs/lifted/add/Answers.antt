use Rattle.std.proofs.Common.{◌∙◌, sym}
use Rattle.std.proofs.lemmas.Bool.{true≢false}
use Rattle.wb_determinism_lookaheads.proofs.LiftLemmas.{lifted_more, lifted_pass}
use Rattle.wb_determinism_lookaheads.proofs.lifted.add.Goals as goal

pub returns-then-not-becomes : goal.returns-then-not-becomes
returns-then-not-becomes c =
    lifted_pass c.args.context.now c.args.set.now c.args.lifted.now c.args.terminal c.requires.before
    (λ x. true≢false (sym (c.becomes.ensures.1 x) ∙ c.if-not-becomes.true))

pub returns : goal.returns
returns c =
    lifted_more c.args.context.now c.args.set.now c.args.lifted.now c.insert.new.self c.args.terminal c.requires.before c.requires.within
    (c.becomes.ensures.0 c.if-not-becomes.false) c.insert.ensures.after
