use Rattle.std.proofs.Common.{arith}
use Rattle.wb_determinism_beside.specs.Inner.Found.{both_in, prefix_at}
use Rattle.wb_determinism_beside.proofs.ListedLemmas.{closure_there, looks_added, looks_all}
use Rattle.wb_determinism_beside.proofs.rows.row_at.Goals as goal

pub closure-closure-requires : goal.closure-closure-requires
closure-closure-requires c = closure_there c.args.found.now c.requires.found c.args.place c.requires.place

pub items-preserved : goal.items-preserved
items-preserved c =
    looks_added (both_in c.args.found.now) (prefix_at c.args.found.now c.args.place) c.closure-closure.result.now c.items.item-index _
    c.items.row.items c.add_looks.new.row.items c.items-test.true c.in_ok-add_looks.ensures c.items.invariant

pub returns : goal.returns
returns c =
    looks_all (both_in c.args.found.now) (prefix_at c.args.found.now c.args.place) c.closure-closure.result.now c.items.item-index
    c.items.row.items (omega (arith, c.items-test.false))
    (c.requires.found.new.closures c.args.place c.closure-closure.result.now c.closure-closure.ensures) c.items.invariant
