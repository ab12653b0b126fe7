use Rattle.std.proofs.Common.{subst}
use Rattle.std.proofs.lemmas.List.{take_all}
use Rattle.wb_names_symbols.specs.Writers.{AreWriters}
use Rattle.wb_names_symbols.proofs.WritersLemmas.{next_item}
use Rattle.wb_names_symbols.proofs.writers.add_items.Goals as goal

pub items-preserved : goal.items-preserved
items-preserved c =
    next_item c.args.items.now c.items.place c.index-items-place.result c.items.made c.add_item.new.made c.items.invariant c.items-test.true
    c.index-items-place.is c.in_ok-add_item.ensures

pub returns : goal.returns
returns c =
    subst (λ z. AreWriters c.args.items.now z c.items.made) (take_all c.items.place c.args.items.now c.items-test.false) c.items.invariant
