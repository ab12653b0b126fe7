use Rattle.std.proofs.Common.{refl, subst, List}
use Rattle.std.proofs.lemmas.Option.{MatchOption-at_some, MatchOption-at_none}
use Rattle.wb_base.specs.declared.symbol.Symbol.{Symbol}
use Rattle.wb_grammar_theory.specs.declared.item.Item.{Item}
use Rattle.wb_grammar_theory.specs.Items.{IsViablePrefix}
use Rattle.wb_items.specs.Kernels.{ListsKernel, prefix_of}
use Rattle.wb_determinism.specs.Inner.Moved.{AreMoved, HasForeign}
use Rattle.wb_determinism.proofs.RegionLemmas.{foreign_region, new_region, moved_kernel}
use Rattle.wb_determinism.proofs.regions.region_of.Goals as goal

pub returns-in_default : goal.returns-in_default
returns-in_default c =
    let m = c.args.numbers.now in
    let items = c.kernel.result.now in
    foreign_region c.args.host.now c.args.both.now m c.args.state items c.kernel.ensures.exact
    (MatchOption-at_none (HasForeign m items) (AreMoved m items) c.in_default.is c.in_ok-moved.ensures)

pub returns-in-Some-find : goal.returns-in-Some-find
returns-in-Some-find c =
    let m = c.args.numbers.now in
    let items = c.kernel.result.now in
    let host = c.args.host.now in
    let (below, lists) = c.in-Some-find.ensures.some in (
      below,
      moved_kernel host.grammar c.args.both.now.grammar m (prefix_of host c.in-Some-find.other) (prefix_of c.args.both.now c.args.state)
          items c.in-Some.moved (MatchOption-at_some (HasForeign m items)
          (AreMoved m items) c.in-Some.moved c.in-Some.is c.in_ok-moved.ensures)
          c.kernel.ensures.exact
          (subst (ListsKernel host.grammar (prefix_of host c.in-Some-find.other)) c.as_slice.ensures lists),
    )

pub returns : goal.returns
returns c =
    let m = c.args.numbers.now in
    let items = c.kernel.result.now in
    let host = c.args.host.now in
    new_region host c.args.both.now m c.args.state items c.requires.both c.requires.state c.kernel.ensures.exact c.in-Some.moved
    (MatchOption-at_some (HasForeign m items) (AreMoved m items) c.in-Some.moved c.in-Some.is c.in_ok-moved.ensures)
    (subst (λ (z : List Item). (prefix : List Symbol) → IsViablePrefix host.grammar prefix → ¬ ListsKernel host.grammar prefix z)
    c.as_slice.ensures (c.in-None.ensures.none.0 refl))
