use Rattle.std.proofs.Common.{◌≡◌, ◌++◌, length, subst, ℕ, ◌<◌, Some, arith}
use Rattle.std.specs.Prelude.{slice_get}
use Rattle.wb_lemmas.proofs.Members.{contains_at}
use Rattle.wb_items.specs.declared.transitions.Move.{Move}
use Rattle.wb_compose_kernels.specs.Inner.Moves.{Adds, IsMoveOf}
use Rattle.wb_compose_kernels.proofs.AddLemmas.{adds_next, adds_start}
use Rattle.wb_compose_kernels.proofs.RowLemmas.{as_row, at_place, by_places}
use Rattle.wb_compose_kernels.proofs.moves.add_row.Goals as goal

pub moves-init : goal.moves-init
moves-init c = adds_start (λ j m. (move : Move) × (slice_get c.args.row.now j ≡ Some move) ×
    IsMoveOf c.args.to.now.names (c.args.to.now.host.now ++ c.args.to.now.new.now) c.args.to.now.marks.now c.args.from move m)
    c.args.moves.now.items

pub add_move-requires : goal.add_move-requires
add_move-requires c = c.requires c.move_in.result (contains_at c.args.row.now c.move_in.result c.moves.place c.move_in.ensures)

pub moves-preserved : goal.moves-preserved
moves-preserved c =
    let numbers = c.args.to.now.host.now ++ c.args.to.now.new.now in
    adds_next (λ j m. (move : Move) × (slice_get c.args.row.now j ≡ Some move) ×
    IsMoveOf c.args.to.now.names numbers c.args.to.now.marks.now c.args.from move m) c.moves.place c.args.moves.now.items
    c.moves.moves.items c.add_move.new.moves.items c.moves.invariant
    (at_place c.args.row.now (IsMoveOf c.args.to.now.names numbers c.args.to.now.marks.now c.args.from) c.moves.place c.move_in.result
    c.moves.moves.items c.add_move.new.moves.items c.move_in.ensures c.in_ok-add_move.ensures)

pub returns : goal.returns
returns c =
    let numbers = c.args.to.now.host.now ++ c.args.to.now.new.now in
    let done : c.moves.place ≡ length c.args.row.now = omega arith in
    as_row c.args.to.now.names numbers c.args.to.now.marks.now c.args.from c.args.row.now c.args.moves.now.items c.moves.moves.items
    (by_places c.args.row.now (IsMoveOf c.args.to.now.names numbers c.args.to.now.marks.now c.args.from) c.args.moves.now.items
    c.moves.moves.items
    (subst (λ n. Adds (λ m. (j : ℕ) × (j < n) × ((move : Move) × (slice_get c.args.row.now j ≡ Some move) ×
    IsMoveOf c.args.to.now.names numbers c.args.to.now.marks.now c.args.from move m)) c.args.moves.now.items c.moves.moves.items) done
    c.moves.invariant))
