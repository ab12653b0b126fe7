use Rattle.wb_tests_unions.proofs.WalkLemmas.{has_sets}
use Rattle.wb_tests_unions.proofs.walk.are_same_at.Goals as goal

pub have_same_sets-requires-clause-state : goal.have_same_sets-requires-clause-state
have_same_sets-requires-clause-state c = has_sets c.args.one.now c.requires.one c.args.state c.requires.state

pub have_same_sets-requires-clause-partner : goal.have_same_sets-requires-clause-partner
have_same_sets-requires-clause-partner c = has_sets c.args.other.now c.requires.other c.args.partner c.requires.partner
