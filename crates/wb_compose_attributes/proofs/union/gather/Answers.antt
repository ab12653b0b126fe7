use Rattle.std.proofs.Common.{◌≡◌, ◌∙◌, OnOk, subst}
use Rattle.wb_compose_attributes.specs.Inner.Filled.{parts_in}
use Rattle.wb_compose_attributes.specs.Inner.Gathered.{gathered}
use Rattle.wb_compose_attributes.proofs.PartLemmas.{gathered_are}
use Rattle.wb_compose_attributes.proofs.UnitedLemmas.{same_gathered}
use Rattle.wb_compose_attributes.proofs.union.gather.Goals as goal

pub returns : goal.returns
returns c =
    let host = c.args.host.now in
    let adds = c.args.additions.now in
    subst (λ z. OnOk c.add_all.result (parts_in c.add_all.new.made ≡ z)) (same_gathered host adds gathered c.counts_of.result
    c.in_ok-all.all c.in_ok-numbers.numbers c.deref.result.now c.in_ok-placed.placed.items c.counts_of.ensures
    c.in_ok-all.ensures c.in_ok-numbers.ensures
    c.deref.ensures.value c.in_ok-placed.ensures ∙ gathered_are host adds) c.add_all.ensures
