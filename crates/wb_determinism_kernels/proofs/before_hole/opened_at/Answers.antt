use Rattle.std.proofs.Common.{◌≡◌, ◌∙◌, Some, refl, sym, subst, inl, inr, arith}
use Rattle.std.specs.Prelude.{slice_get, slice_index_or}
use Rattle.std.proofs.lemmas.Bool.{true≢false, cases_eq}
use Rattle.std.proofs.lemmas.Option.{slice_get-get_or, slice_get_within}
use Rattle.wb_lemmas.proofs.Members.{contains_at, place_of}
use Rattle.wb_lemmas.proofs.Places.{at_once}
use Rattle.wb_grammar_theory.specs.declared.item.Item.{Item}
use Rattle.wb_determinism_kernels.specs.NewKernels.{BeginsWith}
use Rattle.wb_determinism_kernels.proofs.HoleLemmas.{is_before, none_before}
use Rattle.wb_determinism_kernels.proofs.before_hole.opened_at.Goals as goal

abbrev zero : Item
zero = record { production = 0; dot = 0 }

pub returns-in_default : goal.returns-in_default
returns-in_default c = none_before c.args.host.now c.args.state c.args.hole (c.in_default.ensures.none.0 refl)

pub returns-then-begins_with : goal.returns-then-begins_with
returns-then-begins_with c =
    let items = c.closure-items.result.now in
    let item : Item = slice_index_or items c.items.place zero in
    is_before c.args.host.now c.args.state c.args.hole items item c.requires.state c.closure-items.ensures.exact
    (contains_at items item c.items.place (slice_get-get_or items c.items.place zero c.items-test.true))
    (subst (λ z. BeginsWith z c.args.hole item) (sym c.requires.grammar) (c.begins_with.ensures.0 c.if-begins_with.true))

pub items-preserved : goal.items-preserved
items-preserved c = λ p item lt at begins. elim (cases_eq p c.items.place) [
  | inl same ↦
      let items = c.closure-items.result.now in
      let is = at_once items c.items.place item (slice_index_or items c.items.place zero) (subst (λ z. slice_get items z ≡ Some item)
      same at)
      (slice_get-get_or items c.items.place zero c.items-test.true) in
      true≢false (sym (c.begins_with.ensures.1 (subst (BeginsWith c.args.own.now c.args.hole) is begins)) ∙ c.if-begins_with.false)
  | inr other ↦ c.items.invariant p item (omega (arith, lt, other)) at begins
]

pub returns : goal.returns
returns c = λ item has begins.
    let items = c.closure-items.result.now in
    let (p, at) = place_of items item ((c.closure-items.ensures.exact item).1 has) in
    let w = slice_get_within items p item at in
    c.items.invariant p item (omega (arith, w, c.items-test.false, c.items.auto.place-end)) at
    (subst (λ z. BeginsWith z c.args.hole item) c.requires.grammar begins)
