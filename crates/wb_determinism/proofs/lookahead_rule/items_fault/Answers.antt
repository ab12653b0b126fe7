use Rattle.std.proofs.Common.{arith}
use Rattle.std.proofs.lemmas.List.Elements.{Contains-get_or}
use Rattle.std.proofs.lemmas.Option.{slice_get_within}
use Rattle.wb_lemmas.proofs.Members.{place_of}
use Rattle.wb_determinism.proofs.KeepLemmas.{keeps_listed, keeps_more}
use Rattle.wb_determinism.proofs.lookahead_rule.items_fault.Goals as goal

pub item_fault-requires-clause-item : goal.item_fault-requires-clause-item
item_fault-requires-clause-item c =
    (c.kernel-item-items.ensures.exact _).0 (Contains-get_or c.kernel-item-items.result.now c.items.item-index _ c.items-test.true)

pub items-preserved : goal.items-preserved
items-preserved c =
    keeps_more c.args.context.now c.args.state c.kernel-item-items.result.now c.items.item-index _ c.items-test.true c.items.invariant
    c.in_default.ensures

pub returns : goal.returns
returns c =
    keeps_listed c.args.context.now c.requires.context c.args.state c.kernel-item-items.result.now
    (λ item has. (c.kernel-item-items.ensures.exact item).1 has)
    (λ item has. (let (n, at) = place_of c.kernel-item-items.result.now item has in
    c.items.invariant n item (let w = slice_get_within c.kernel-item-items.result.now n item at in omega
    (arith, w, c.items-test.false)) at))
