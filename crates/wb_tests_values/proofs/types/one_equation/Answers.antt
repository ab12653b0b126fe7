use Rattle.wb_tests_values.proofs.SampleLemmas.{is_sampled}
use Rattle.wb_tests_values.proofs.types.one_equation.Goals as goal

pub new-requires : goal.new-requires
new-requires c = is_sampled _ c.args.node c.requires c.in_ok-fill.ensures
