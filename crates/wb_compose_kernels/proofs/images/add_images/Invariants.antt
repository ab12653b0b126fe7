use Rattle.std.proofs.Common.{◌-◌, length}
use Rattle.wb_compose_kernels.specs.Inner.Images.{AddsMembers, BecomesBy}
use Rattle.wb_compose_kernels.proofs.MemberLemmas.{ComesBelow}
use Rattle.wb_compose_kernels.proofs.images.add_images.Given as goal

abbrev pub invariant-members : goal.invariant-members
invariant-members l = AddsMembers (ComesBelow l.set (BecomesBy l.block l.markers) l.from) l.initial.made l.made

abbrev pub decreases-members : goal.decreases-members
decreases-members l = length l.set - l.from
