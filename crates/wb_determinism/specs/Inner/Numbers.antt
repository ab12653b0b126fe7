-- What tests ask of the numbers of a host and of the host with an extension.
use Rattle.std.specs.Prelude.{◌≤◌}
use Rattle.wb_determinism.specs.declared.numbers.Numbers.{Numbers}

-- the host's own are among those with holes, and there are no fewer with the extension
pub record AreInTurn (m : Numbers) : Type 0 where
  pub own_terminals : m.own_terminals ≤ m.host_terminals
  pub terminals : m.host_terminals ≤ m.both_terminals
  pub own_productions : m.own_productions ≤ m.host_productions
  pub productions : m.host_productions ≤ m.both_productions
