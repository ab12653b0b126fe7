-- What an action makes of the parts.
use Rattle.wb_reader_builder.specs.declared.actions.Action.{Action}
use Rattle.wb_reader_builder.specs.declared.builder.SpecBuilder.{SpecBuilder}
use Rattle.wb_reader_builder.specs.Items.{item_act}
use Rattle.wb_reader_builder.specs.Parts.{part_act}
use Rattle.wb_reader_builder.specs.Expressions.{expression_act}

-- what an action makes of the parts
abbrev pub act : Action → SpecBuilder → SpecBuilder
act (Action.Item action) v = item_act action v
act (Action.Part action) v = part_act action v
act (Action.Expression action) v = expression_act action v
