use Rattle.std.proofs.Common.{◌∙◌, get_or, refl, sym}
use Rattle.std.specs.Prelude.{Contains}
use Rattle.std.proofs.lemmas.Bool.{false≢true, true≢false}
use Rattle.std.proofs.lemmas.List.Elements.{Contains-get_or}
use Rattle.wb_grammar_theory.specs.declared.item.Item.{Item}
use Rattle.wb_determinism.proofs.ListLemmas.{before_all, before_more}
use Rattle.wb_determinism.proofs.envelope.has_all.Goals as goal

pub items-preserved : goal.items-preserved
items-preserved c =
    let none : Item = record { production = 0; dot = 0 } in
    before_more (Contains c.args.items.now) c.args.own.now c.items.item-index none c.items-test.true c.items.invariant
    (c.is_in.ensures.0 c.if-not-is_in.false)

pub returns-then-not-is_in : goal.returns-then-not-is_in
returns-then-not-is_in c = (
  λ bad. absurd (false≢true bad),
  λ all.
      let none : Item = record { production = 0; dot = 0 } in
      let has = all (get_or c.args.own.now c.items.item-index none)
      (Contains-get_or c.args.own.now c.items.item-index none c.items-test.true) in
      absurd (true≢false (sym (c.is_in.ensures.1 has) ∙ c.if-not-is_in.true)),
)

pub returns : goal.returns
returns c = (
  λ _. before_all (Contains c.args.items.now) c.args.own.now c.items.item-index c.items-test.false c.items.invariant,
  λ _. refl,
)
