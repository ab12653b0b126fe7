use Rattle.wb_types.proofs.PlaceLemmas.{of_target}
use Rattle.wb_types.proofs.check.target_kind.Goals as goal

pub returns : goal.returns
returns c = of_target c.args.attributes.now c.args.target c.in-Top.attribute c.attribute_kind.result c.in-Top.is c.attribute_kind.ensures
