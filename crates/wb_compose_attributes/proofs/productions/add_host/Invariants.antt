use Rattle.std.proofs.Common.{◌≡◌, ◌++◌, length, take}
use Rattle.wb_compose_attributes.specs.Inner.Gathered.{host_productions}
use Rattle.wb_compose_attributes.proofs.productions.add_host.Given as goal

abbrev pub invariant-rows : goal.invariant-rows
invariant-rows l = l.made.items ≡ l.initial.made.items
    ++ host_productions l.host.numbers.now (length l.host.rows.now.productions.now) l.host.placed.now l.first (take l.place l.rows)
