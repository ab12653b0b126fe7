use Rattle.std.proofs.lemmas.List.Elements.{Contains-get_or}
use Rattle.wb_determinism_beside.proofs.ListedLemmas.{foreign_at}
use Rattle.wb_determinism_beside.proofs.foreign.has_foreign.Goals as goal

pub returns-in-None : goal.returns-in-None
returns-in-None c = λ _.
    foreign_at c.args.found.now c.requires.found c.args.place c.requires.place c.kernel-item-items.result.now c.kernel-item-items.ensures _
    (Contains-get_or c.kernel-item-items.result.now c.items.item-index _ c.items-test.true) c.in-None.ensures
