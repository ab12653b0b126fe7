use Rattle.std.proofs.Common.{◌<◌, subst, ℕ}
use Rattle.wb_compose_kernels.specs.Inner.Moves.{Adds, IsHostMove}
use Rattle.wb_items.specs.Kernels.{count_of}
use Rattle.wb_compose_kernels.proofs.RowLemmas.{any_moves}
use Rattle.wb_compose_kernels.proofs.moves.moves_by.Goals as goal

pub add_host_moves-requires : goal.add_host_moves-requires
add_host_moves-requires c = record { lists = c.requires.lists.of_host }

pub returns : goal.returns
returns c =
    let taken = c.args.taken.now in
    any_moves c.args.splice.now taken.host taken.blocks.now taken.numbers.now taken.new.now taken.marks.now
    (count_of c.args.splice.now.kernels.now) c.add_host_moves.new.moves.items c.add_part_moves.new.moves.items
    c.requires.lists.of_host c.requires.lists.len
    (subst (λ z. Adds (λ m. (k : ℕ) × (k < count_of c.args.splice.now.kernels.now) ×
    IsHostMove c.args.splice.now taken.host taken.numbers.now taken.marks.now k m) z c.add_host_moves.new.moves.items)
    c.no_moves-moves.ensures c.in_ok-add_host_moves.ensures) c.in_ok-add_part_moves.ensures
