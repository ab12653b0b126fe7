use Rattle.std.proofs.Common.{◌-◌, length, map}
use Rattle.std.specs.Prelude.{◌<◌}
use Rattle.wb_termset.specs.Sets.{IsMember}
use Rattle.wb_lookahead.specs.Codes.{action_at}
use Rattle.wb_lookahead.specs.Inner.Rows.{Puts}
use Rattle.wb_lookahead.proofs.action_row.put_all.Given as goal

abbrev pub invariant-members : goal.invariant-members
invariant-members l = Puts (map action_at l.initial.row.items) (λ t. (t < l.from) × IsMember l.set t) (action_at l.code)
    (map action_at l.row.items)

abbrev pub decreases-members : goal.decreases-members
decreases-members l = length l.set - l.from
