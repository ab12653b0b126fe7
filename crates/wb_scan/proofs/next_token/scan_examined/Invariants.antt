use Rattle.std.proofs.Common.{length, ◌≤◌, ◌+◌, ◌-◌}
use Rattle.wb_scan.specs.Inner.Found.{SkipsTo}
use Rattle.wb_scan.proofs.next_token.scan_examined.Given as goal

abbrev pub invariant-layout : goal.invariant-layout
invariant-layout l = record {
  from : l.at ≤ l.place;
  within : l.place ≤ length l.text;
  skips : SkipsTo l.language l.state l.text l.at l.place l.examined;
  bound : l.examined ≤ length l.text + 1;
}

abbrev pub decreases-layout : goal.decreases-layout
decreases-layout l = length l.text - l.place
