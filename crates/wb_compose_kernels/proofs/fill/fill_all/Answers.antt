use Rattle.wb_compose_kernels.proofs.FillingLemmas.{all_gained}
use Rattle.wb_compose_kernels.proofs.fill.fill_all.Goals as goal

pub fill_parts-requires-clause-making : goal.fill_parts-requires-clause-making
fill_parts-requires-clause-making c = (c.in_ok-fill_host.ensures c.requires.filling).making

pub returns : goal.returns
returns c =
    all_gained c.args.filling.now c.requires.filling c.args.made.now c.fill_host.new.made c.fill_parts.new.made c.requires.making
    c.requires.empty (c.in_ok-fill_host.ensures c.requires.filling) (c.in_ok-fill_parts.ensures c.requires.filling)
