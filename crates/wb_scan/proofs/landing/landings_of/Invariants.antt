use Rattle.std.proofs.Common.{◌≡◌, length}
use Rattle.wb_scan.specs.Landings.{AreLandings}
use Rattle.wb_scan.specs.Inner.Rankings.{ranked_by}
use Rattle.wb_scan.proofs.landing.landings_of.Given as goal

abbrev pub invariant-states : goal.invariant-states
invariant-states l = record {
  count : length l.landings.items ≡ l.state;
  are : AreLandings (ranked_by l.ranking) l.automaton l.landings.items;
}
