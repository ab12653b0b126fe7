use Rattle.std.proofs.Common.{◌≡◌, ◌<◌, Some, length, get_or, ap, subst, sym, ◌∙◌, rules, arith}
use Rattle.std.specs.Prelude.{slice_get}
use Rattle.std.proofs.lemmas.Option.{slice_get-get_or}
use Rattle.std.proofs.lemmas.List.Elements.{Contains-get_or}
use Rattle.wb_grammar_theory.specs.declared.item.Item.{Item}
use Rattle.wb_items.specs.Lookaheads.{LookaheadsView}
use Rattle.wb_items.proofs.CallerLemmas.{items_are}
use Rattle.wb_items.proofs.RowLemmas.{row_len}
use Rattle.wb_digraph.specs.Inner.Numbers.{HasNumber}
use Rattle.wb_digraph.proofs.FillLemmas.{filled_more, filled_row, later_kept}
use Rattle.wb_digraph.proofs.fill.put_row.Goals as goal

-- what items are read with beyond their end
abbrev no_item : Item
no_item = record { production = 0; dot = 0 }

pub number_of-number-requires-clause-has : goal.number_of-number-requires-clause-has
number_of-number-requires-clause-has c =
    (c.closure-items.ensures.exact _).0 (Contains-get_or c.closure-items.result.now c.items.place _ c.items-test.true)

pub bounds-numbers-number : goal.bounds-numbers-number
bounds-numbers-number c = c.items.invariant.flows.within c.args.state _ c.number_of-number.result c.number_of-number.ensures

pub offset_bounds-numbers-number : goal.offset_bounds-numbers-number
offset_bounds-numbers-number c =
    let within : c.number_of-number.result < length c.args.numbers.now =
    c.items.invariant.flows.within c.args.state _ c.number_of-number.result c.number_of-number.ensures in
    search rules

pub overflow_add-numbers : goal.overflow_add-numbers
overflow_add-numbers c =
    let within : c.number_of-number.result < length c.args.numbers.now =
    c.items.invariant.flows.within c.args.state _ c.number_of-number.result c.number_of-number.ensures in
    let lt = c.items.invariant.flows.below c.number_of-number.result _ (slice_get-get_or c.args.numbers.now c.number_of-number.result 0 within) in
    let room = c.items.invariant.flows.room in
    omega (arith, lt, room)

pub put_at-requires-clause-place : goal.put_at-requires-clause-place
put_at-requires-clause-place c =
    let shape = c.items.invariant.filled.shape in
    let e = row_len shape.numbered c.args.state in
    let f = ap length (items_are c.requires.context.are_kernels c.items.lookaheads shape c.args.state) in
    let g = ap length c.closure-items.ensures.is in
    let t = c.items-test.true in
    omega (arith, e, f, g, t)

pub put_at-requires-clause-number : goal.put_at-requires-clause-number
put_at-requires-clause-number c =
    let within : c.number_of-number.result < length c.args.numbers.now =
    c.items.invariant.flows.within c.args.state _ c.number_of-number.result c.number_of-number.ensures in
    c.items.invariant.flows.below c.number_of-number.result _ (slice_get-get_or c.args.numbers.now c.number_of-number.result 0 within)

pub items-preserved : goal.items-preserved
items-preserved c =
    let within : c.number_of-number.result < length c.args.numbers.now =
    c.items.invariant.flows.within c.args.state _ c.number_of-number.result c.number_of-number.ensures in
    record {
      flows = later_kept c.requires.context.are_kernels (HasNumber c.args.context.now.kernels.now c.args.context.now.productions.now c.args.context.now.bases.now) c.args.numbers.now c.items.lookaheads c.put_at.new.self
          (ap (λ (z : LookaheadsView). z.sets) c.put_at.ensures) c.items.invariant.flows;
      filled = filled_more c.requires.context.are_kernels (HasNumber c.args.context.now.kernels.now c.args.context.now.productions.now c.args.context.now.bases.now) c.args.numbers.now c.args.state c.items.place c.number_of-number.result
          (get_or c.args.numbers.now c.number_of-number.result 0)
          (get_or c.closure-items.result.now c.items.place no_item) c.items.lookaheads c.put_at.new.self
          (subst (λ z. slice_get z c.items.place ≡ Some (get_or c.closure-items.result.now c.items.place no_item))
          c.closure-items.ensures.is (slice_get-get_or c.closure-items.result.now c.items.place no_item c.items-test.true)) c.number_of-number.ensures
          (slice_get-get_or c.args.numbers.now c.number_of-number.result 0 within) c.put_at.ensures c.items.invariant.flows
          c.items.invariant.filled;
    }

pub returns-clause-filled : goal.returns-clause-filled
returns-clause-filled c =
    filled_row c.args.state c.items.place c.items.lookaheads
    (let e = ap length c.closure-items.ensures.is in let past = c.items-test.false in omega (arith, e, past)) c.items.invariant.filled
