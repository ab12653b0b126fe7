use Rattle.std.proofs.Common.{ap, map, ◌∙◌}
use Rattle.std.proofs.lemmas.List.{take_all}
use Rattle.wb_certify_shown.specs.Names.{nonterminal_shown}
use Rattle.wb_certify_shown.proofs.ListLemmas.{mapped_more}
use Rattle.wb_certify_shown.proofs.grammar.nonterminal_names.Goals as goal

pub numbers-preserved : goal.numbers-preserved
numbers-preserved c =
    let r = c.args.resolved.now in
    mapped_more (nonterminal_shown r) c.args.numbers.now c.numbers.number-index _ c.in_ok-name.name c.numbers.made.items c.push.new.list.items
    c.numbers.invariant c.numbers-test.true c.in_ok-name.ensures c.in_ok-push.ensures.ok

pub returns : goal.returns
returns c =
    let r = c.args.resolved.now in
    c.from_vec.ensures
    ∙ (c.numbers.invariant ∙ ap (map (nonterminal_shown r)) (take_all c.numbers.number-index c.args.numbers.now c.numbers-test.false))
