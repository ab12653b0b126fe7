use Rattle.std.proofs.Common.{ap, map, ◌∙◌}
use Rattle.std.proofs.lemmas.List.{take_all}
use Rattle.wb_certify_shown.specs.Names.{symbol_shown}
use Rattle.wb_certify_shown.proofs.ListLemmas.{mapped_more}
use Rattle.wb_certify_shown.proofs.grammar.symbol_names.Goals as goal

pub symbols-preserved : goal.symbols-preserved
symbols-preserved c =
    let r = c.args.resolved.now in
    mapped_more (symbol_shown r) c.args.symbols.now c.symbols.symbol-index _ c.in_ok-name.name c.symbols.made.items c.push.new.list.items
    c.symbols.invariant c.symbols-test.true c.in_ok-name.ensures c.in_ok-push.ensures.ok

pub returns : goal.returns
returns c =
    let r = c.args.resolved.now in
    c.from_vec.ensures
    ∙ (c.symbols.invariant ∙ ap (map (symbol_shown r)) (take_all c.symbols.symbol-index c.args.symbols.now c.symbols-test.false))
