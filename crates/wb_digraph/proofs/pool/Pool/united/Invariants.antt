use Rattle.std.proofs.Common.{◌≡◌, length, take}
use Rattle.wb_digraph.specs.Inner.Pools.{HasMembersOf, set_at}
use Rattle.wb_digraph.proofs.pool.Pool.united.Given as goal

abbrev pub invariant-parts : goal.invariant-parts
invariant-parts l = record {
  width : length l.set ≡ length (set_at l.self 0);
  members : HasMembersOf l.self (take l.part-index l.parts) l.set;
}
