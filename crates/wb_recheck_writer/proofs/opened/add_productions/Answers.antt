use Rattle.std.proofs.Common.{arith}
use Rattle.wb_lemmas.proofs.Members.{contains_at}
use Rattle.wb_recheck_writer.proofs.OpenedLemmas.{initial_more, opened_whole, opening_within, row_begun}
use Rattle.wb_recheck_writer.proofs.opened.add_productions.Goals as goal

pub numbers_of-numbers-requires-clause-within : goal.numbers_of-numbers-requires-clause-within
numbers_of-numbers-requires-clause-within c =
    let lt = opening_within c.args.opening.now c.requires.opening c.requires.before.ok in
    let len = c.requires.context.rules.len in
    omega (arith, lt, len)

pub add_terminals-requires-clause-production : goal.add_terminals-requires-clause-production
add_terminals-requires-clause-production c =
    c.numbers_of-numbers.ensures.sound c.number_at.result
    (contains_at c.numbers_of-numbers.result.now c.number_at.result c.productions.place
    c.number_at.ensures)

pub add_terminals-requires-clause-before : goal.add_terminals-requires-clause-before
add_terminals-requires-clause-before c =
    row_begun c.args.opening.now c.requires.opening c.numbers_of-numbers.result.now c.numbers_of-numbers.ensures c.productions.entries
    c.productions.place c.number_at.result c.productions.invariant.reached c.productions.invariant.at c.productions.invariant.initial
    c.number_at.ensures

pub productions-preserved : goal.productions-preserved
productions-preserved c =
    let row = c.in_ok-add_terminals.ensures in
    record {
      reached = row.reached;
      at = row.at;
      initial = initial_more c.args.opening.now c.requires.opening c.numbers_of-numbers.result.now c.numbers_of-numbers.ensures
          c.add_terminals.new.entries c.productions.place c.number_at.result row c.number_at.ensures;
    }

pub returns : goal.returns
returns c =
    opened_whole c.args.opening.now c.requires.opening c.numbers_of-numbers.result.now c.numbers_of-numbers.ensures c.productions.entries
    c.productions.place c.productions.invariant.reached c.productions.invariant.at c.productions.invariant.initial
    (let past = c.productions-test.false in omega (arith, past))
