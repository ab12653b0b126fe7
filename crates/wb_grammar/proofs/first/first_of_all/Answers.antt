use Rattle.wb_grammar.proofs.FirstLemmas.{first_exact, room_less}
use Rattle.wb_grammar.proofs.first.first_of_all.Goals as goal

pub passes-smaller : goal.passes-smaller
passes-smaller c = room_less c.args.grammar.now c.passes.sets c.pass.new.sets c.passes.invariant.0 c.pass.ensures.shape c.pass.ensures.keeps
    (c.in_ok-pass.ensures.grew c.if-branch.true)

pub returns-clause-exact : goal.returns-clause-exact
returns-clause-exact c =
    first_exact c.args.grammar.now c.args.nullable.now c.pass.new.sets c.requires c.pass.ensures.shape c.pass.ensures.sound
    (c.in_ok-pass.ensures.stayed c.if-branch.false)
