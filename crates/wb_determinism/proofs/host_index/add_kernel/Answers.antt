use Rattle.std.proofs.Common.{◌+◌, List, ℕ, get_or, length, refl, sym, subst, arith}
use Rattle.std.specs.Prelude.{slice_set}
use Rattle.std.proofs.lemmas.List.Elements.{Contains-get_or}
use Rattle.std.proofs.lemmas.Option.{slice_get_read}
use Rattle.wb_grammar_theory.specs.declared.item.Item.{Item}
use Rattle.wb_determinism.specs.Inner.Index.{IsIndexUpTo}
use Rattle.wb_determinism.proofs.BoundLemmas.{valid_bound}
use Rattle.wb_determinism.proofs.IndexLemmas.{index_begin, index_more, index_done}
use Rattle.wb_determinism.proofs.host_index.add_kernel.Goals as goal

pub items-init : goal.items-init
items-init c = index_begin c.args.host.now c.args.state c.kernel-item-items.result.now c.args.index.now.items c.requires.before

pub index_mut-requires : goal.index_mut-requires
index_mut-requires c =
    let none : Item = record { production = 0; dot = 0 } in
    let item : Item = get_or c.kernel-item-items.result.now c.items.item-index none in
    let has = (c.kernel-item-items.ensures.exact item).0
    (Contains-get_or c.kernel-item-items.result.now c.items.item-index none c.items-test.true) in
    let below = valid_bound (has.0).1 in
    omega (arith, below, c.items.invariant.len, c.items.index.ok.0)

pub items-preserved : goal.items-preserved
items-preserved c =
    let row = c.index_mut.result.now in
    let none : Item = record { production = 0; dot = 0 } in
    let item : Item = get_or c.kernel-item-items.result.now c.items.item-index none in
    let has = (c.kernel-item-items.ensures.exact item).0
    (Contains-get_or c.kernel-item-items.result.now c.items.item-index none c.items-test.true) in
    let below = valid_bound (has.0).1 in
    subst (λ (z : List ℕ). IsIndexUpTo c.args.host.now c.args.state c.kernel-item-items.result.now (c.items.item-index + 1)
    (slice_set c.items.index.items item.production z)) (sym c.in_ok-push.ensures)
    (index_more c.args.host.now c.args.state c.kernel-item-items.result.now c.items.item-index none c.items.index.items row
    c.items-test.true
    (slice_get_read c.items.index.items (length c.items.index.items) item.production row refl (omega (arith, below, c.items.invariant.len))
    c.index_mut.ensures.value) c.items.invariant)

pub returns : goal.returns
returns c =
    index_done c.args.host.now c.args.state c.kernel-item-items.result.now c.items.item-index c.items.index.items
    (omega (arith, c.items-test.false)) c.kernel-item-items.ensures.exact c.items.invariant
