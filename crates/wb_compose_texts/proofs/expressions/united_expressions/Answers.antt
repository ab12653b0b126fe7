use Rattle.wb_compose_texts.proofs.AddedLemmas.{united}
use Rattle.wb_compose_texts.proofs.expressions.united_expressions.Goals as goal

pub returns : goal.returns
returns c =
    united c.resolved-host.result.now c.args.host.now.resolved c.args.extensions.now c.new-expressions.result.items
    c.add_terminals.new.expressions.items c.add_extensions.new.expressions.items c.add_layouts.new.expressions.items
    c.add_own_layouts.new.expressions.items c.resolved-host.ensures.resolved c.new-expressions.ensures.items
    c.in_ok-add_terminals.ensures c.in_ok-add_extensions.ensures c.in_ok-add_layouts.ensures c.in_ok-add_own_layouts.ensures
