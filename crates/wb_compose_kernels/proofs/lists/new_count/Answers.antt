use Rattle.std.proofs.Common.{◌∙◌, ap, sym}
use Rattle.wb_compose_kernels.specs.Inner.Counts.{new_count_in}
use Rattle.wb_compose_kernels.proofs.lists.new_count.Goals as goal

pub returns : goal.returns
returns c = c.len.ensures ∙ ap new_count_in (sym c.part_at.ensures)
