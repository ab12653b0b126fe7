use Rattle.std.proofs.Common.{◌≡◌, ◌+◌, arith, length, subst}
use Rattle.wb_automata.specs.Inner.Accepted.{AreAccepted}
use Rattle.wb_automata.specs.Inner.Exploring.{RowsFrom}
use Rattle.wb_automata.proofs.StateLemmas.{rows_same, rows_more}
use Rattle.wb_automata.proofs.CountLemmas.{few_found}
use Rattle.wb_automata.proofs.explore.close.Goals as goal

pub states-init : goal.states-init
states-init c = record {
  from = rows_same c.args.tables.now c.args.bytes.now c.args.states.now c.args.rows.now.moves c.args.from c.requires.before;
  accepted = c.requires.accepted;
}

pub row_of-requires-clause-before : goal.row_of-requires-clause-before
row_of-requires-clause-before c = c.states.invariant.from.rows

pub row_of-requires-clause-accepted : goal.row_of-requires-clause-accepted
row_of-requires-clause-accepted c = c.states.invariant.accepted

pub states-preserved : goal.states-preserved
states-preserved c = record {
  from = rows_more c.args.tables.now c.args.bytes.now c.args.states.now c.states.states c.row_of.new.states c.states.rows.moves
      c.row_of.new.rows.moves c.states.i (c.states.i + 1) c.states.invariant.from c.in_ok-row_of.ensures.rows;
  accepted = c.in_ok-row_of.ensures.accepted;
}

pub states-smaller : goal.states-smaller
states-smaller c = (let few = few_found c.args.tables.now c.states.states c.states.invariant.from.rows.found_ok c.len.ensures.different in let
    test = c.states-test.true in let count = c.len.ensures.count in omega arith)

pub returns-clause-few : goal.returns-clause-few
returns-clause-few c = few_found c.args.tables.now c.states.states c.states.invariant.from.rows.found_ok c.len.ensures.different

pub returns-clause-rows : goal.returns-clause-rows
returns-clause-rows c =
    let h = c.states.invariant.from in
    let e : c.states.i ≡ length c.states.states.sets = (let le = h.rows.within in let test = c.states-test.false in let
    count = c.len.ensures.count in omega arith) in
    subst (RowsFrom c.args.tables.now c.args.bytes.now c.args.states.now c.states.states c.states.rows.moves) e h

pub returns-clause-accepted : goal.returns-clause-accepted
returns-clause-accepted c =
    let e : c.states.i ≡ length c.states.states.sets = (let le = c.states.invariant.from.rows.within in let test = c.states-test.false in let
    count = c.len.ensures.count in omega arith) in
    subst (AreAccepted c.args.tables.now c.states.states.sets c.states.rows.accepted) e c.states.invariant.accepted
