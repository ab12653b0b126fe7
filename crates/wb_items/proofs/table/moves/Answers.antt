use Rattle.std.proofs.Common.{◌≤◌, List, length, arith, subst, sym}
use Rattle.wb_items.specs.declared.advance.Advance.{Advance}
use Rattle.wb_items.specs.Inner.Advances.{AreAdvancesRising}
use Rattle.wb_items.specs.Inner.Passes.{MovesUpTo}
use Rattle.wb_items.proofs.AdvanceLemmas.{advances_list}
use Rattle.wb_items.proofs.MoveLemmas.{moves_start, moves_now, moves_then, moves_done}
use Rattle.wb_items.proofs.table.moves.Goals as goal

pub runs-init : goal.runs-init
runs-init c = record {
  moves = rw c.new-row.ensures.items
      (moves_start c.args.grammar.now c.args.found.now c.in_ok-list.list.items c.args.state c.requires.kernels c.requires.state
      (λ prefix at. advances_list c.args.grammar.now c.requires.live prefix c.args.closure.now c.in_ok-list.list.items
      (c.requires.exact prefix at) c.in_ok-list.ensures.exact));
  within = omega arith;
}

pub returns-clause-row : goal.returns-clause-row
returns-clause-row c =
    rw c.from_vec.ensures
    (moves_done c.args.grammar.now c.args.found.now c.runs.found c.args.closure.now c.in_ok-list.list.items c.args.state c.runs.row.items
    c.runs.place (omega arith) c.in_ok-list.ensures.exact c.runs.invariant.moves)

pub add_move-requires-clause-rising : goal.add_move-requires-clause-rising
add_move-requires-clause-rising c = subst AreAdvancesRising (sym c.deref.ensures.value) c.in_ok-list.ensures.rising

pub add_move-requires-clause-before : goal.add_move-requires-clause-before
add_move-requires-clause-before c =
    subst (λ list. MovesUpTo c.args.grammar.now c.runs.found c.runs.found list c.args.state c.runs.row.items c.runs.place)
    (sym c.deref.ensures.value)
    (moves_now c.args.grammar.now c.args.found.now c.runs.found c.in_ok-list.list.items c.args.state c.runs.row.items c.runs.place
    c.runs.invariant.moves)

pub runs-preserved : goal.runs-preserved
runs-preserved c = record {
  moves = moves_then c.args.grammar.now c.args.found.now c.runs.found c.add_move.new.found c.in_ok-list.list.items c.args.state
      c.add_move.new.row.items c.in_ok-place.place c.runs.invariant.moves.grows
      (subst (λ list. MovesUpTo c.args.grammar.now c.runs.found c.add_move.new.found list c.args.state c.add_move.new.row.items
      c.in_ok-place.place) c.deref.ensures.value c.in_ok-place.ensures.moves);
  within = subst (λ (list : List Advance). c.in_ok-place.place ≤ length list) c.deref.ensures.value c.in_ok-place.ensures.after.1;
}
