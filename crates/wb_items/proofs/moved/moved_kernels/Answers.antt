use Rattle.std.proofs.Common.{◌≤◌, List, length, arith, subst, sym}
use Rattle.wb_items.specs.declared.advance.Advance.{Advance}
use Rattle.wb_items.specs.Inner.Advances.{AreAdvancesRising}
use Rattle.wb_items.specs.Inner.MovedKernels.{MovedUpTo}
use Rattle.wb_items.proofs.MovedLemmas.{moved_start, moved_done}
use Rattle.wb_items.proofs.moved.moved_kernels.Goals as goal

pub runs-init : goal.runs-init
runs-init c = record { moved = rw c.new-moved.ensures.items (moved_start c.in_ok-list.list.items); within = omega arith }

pub add_moved-requires-clause-rising : goal.add_moved-requires-clause-rising
add_moved-requires-clause-rising c = subst AreAdvancesRising (sym c.deref.ensures.value) c.in_ok-list.ensures.rising

pub add_moved-requires-clause-before : goal.add_moved-requires-clause-before
add_moved-requires-clause-before c =
    subst (λ list. MovedUpTo list c.runs.moved.items c.runs.place) (sym c.deref.ensures.value) c.runs.invariant.moved

pub runs-preserved : goal.runs-preserved
runs-preserved c = record {
  moved = subst (λ list. MovedUpTo list c.add_moved.new.moved.items c.in_ok-place.place) c.deref.ensures.value
      c.in_ok-place.ensures.moved;
  within = subst (λ (list : List Advance). c.in_ok-place.place ≤ length list) c.deref.ensures.value c.in_ok-place.ensures.after.1;
}

pub returns : goal.returns
returns c =
    moved_done c.args.grammar.now c.args.closure.now c.in_ok-list.list.items c.runs.moved.items c.runs.place (omega arith)
    c.in_ok-list.ensures.exact c.runs.invariant.moved
