use Rattle.std.proofs.Common.{◌∙◌}
use Rattle.wb_names_rules.proofs.table.Table.add_key.Goals as goal

pub returns-clause-present : goal.returns-clause-present
returns-clause-present c = rw (c.deref.ensures.value ∙ c.in_ok-key.ensures) at c.add.ensures.present

pub returns-clause-new : goal.returns-clause-new
returns-clause-new c = rw (c.deref.ensures.value ∙ c.in_ok-key.ensures) at c.add.ensures.new
