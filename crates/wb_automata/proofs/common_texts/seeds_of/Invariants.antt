use Rattle.std.proofs.Common.{◌≡◌, length, map, take}
use Rattle.wb_automata.specs.Inner.Starts.{seed_of}
use Rattle.wb_automata.proofs.common_texts.seeds_of.Given as goal

abbrev pub invariant-loop-pair : goal.invariant-loop-pair
invariant-loop-pair l = l.seeds.items ≡ map (seed_of l.machine.starts.items (length l.machine.places.items)) (take l.pair-index l.pairs)
