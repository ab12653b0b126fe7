use Rattle.std.proofs.Common.{arith}
use Rattle.std.proofs.lemmas.Option.{slice_get_within}
use Rattle.wb_automata_positions.proofs.JoinLemmas.{covers_parts}
use Rattle.wb_automata_positions.proofs.concatenated.add_nodes.Goals as goal

pub add_raised-requires : goal.add_raised-requires
add_raised-requires c = record {
  parts = λ k node at. covers_parts k node c.nodes-more.ensures.covers (omega arith)
      (slice_get_within c.nodes-more.result.now k node at) at;
}
