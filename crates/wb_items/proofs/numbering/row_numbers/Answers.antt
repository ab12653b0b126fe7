use Rattle.wb_grammar_theory.specs.declared.item.Item.{Item}
use Rattle.wb_items.proofs.NumberingLemmas.{given_next}
use Rattle.wb_items.proofs.numbering.row_numbers.Goals as goal

abbrev start : Item
start = record { production = 0; dot = 0 }

pub number_for-requires : goal.number_for-requires
number_for-requires c = c.items.invariant.are_made

pub items-preserved : goal.items-preserved
items-preserved c =
    given_next c.args.grammar.now c.args.items.now c.items.item-index start c.items.numbers c.push.new.self c.len-first.result
    c.in_ok-number.number c.items.made c.number_for.new.made c.requires.items c.items-test.true c.items.invariant c.in_ok-number.ensures
    c.in_ok-push.ensures
