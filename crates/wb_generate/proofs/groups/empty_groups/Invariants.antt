use Rattle.std.proofs.Common.{◌≡◌, [], replicate}
use Rattle.wb_generate.proofs.groups.empty_groups.Given as goal

abbrev pub invariant-groups : goal.invariant-groups
invariant-groups l = l.groups.items ≡ replicate l._group []
