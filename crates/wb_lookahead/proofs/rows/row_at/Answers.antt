use Rattle.std.proofs.Common.{◌≡◌, ◌+◌, ◌∙◌, ap, get_or, subst, sym, Some}
use Rattle.std.specs.Prelude.{slice_get}
use Rattle.std.proofs.lemmas.List.Elements.{Contains-get_or}
use Rattle.std.proofs.lemmas.Option.{slice_get-get_or}
use Rattle.wb_grammar_theory.specs.declared.item.Item.{Item}
use Rattle.wb_items.specs.Kernels.{closure_of}
use Rattle.wb_base.specs.Grammar.{GrammarView}
use Rattle.wb_lookahead.specs.Inner.KernelRows.{IsEmptyRow}
use Rattle.wb_lookahead.proofs.KernelRowLemmas.{kernel_row_more, nothing_yet}
use Rattle.wb_lookahead.proofs.rows.row_at.Goals as goal

pub items-init : goal.items-init
items-init c =
    let count : c.in_ok-lookahead_count.field-0 ≡ c.args.kernels.now.grammar.terminals + 1 = c.in_ok-lookahead_count.ensures.count
    ∙ ap (λ (g : GrammarView). g.terminals + 1) (sym c.requires.grammar) in
    nothing_yet c.args.state c.in_ok-row.row (subst (λ n. IsEmptyRow n c.in_ok-row.row) count c.in_ok-row.ensures)

pub add_item-requires-clause-item : goal.add_item-requires-clause-item
add_item-requires-clause-item c =
    let item : Item = get_or c.closure-item-items.result.now c.items.item-index (record { production = 0; dot = 0 }) in
    (c.closure-item-items.ensures.exact item).0 (Contains-get_or c.closure-item-items.result.now c.items.item-index
    (record { production = 0; dot = 0 }) c.items-test.true)

pub add_item-requires-clause-sound : goal.add_item-requires-clause-sound
add_item-requires-clause-sound c = record { actions = c.items.invariant.actions.sound; valid = c.items.invariant.valid }

pub items-preserved : goal.items-preserved
items-preserved c =
    let item : Item = get_or c.closure-item-items.result.now c.items.item-index (record { production = 0; dot = 0 }) in
    let at : slice_get c.closure-item-items.result.now c.items.item-index ≡ Some item =
    slice_get-get_or c.closure-item-items.result.now c.items.item-index (record { production = 0; dot = 0 }) c.items-test.true in
    let here : slice_get (closure_of c.args.kernels.now c.args.state) c.items.item-index ≡ Some item = subst
    (λ z. slice_get z c.items.item-index ≡ Some item) c.closure-item-items.ensures.is at in
    kernel_row_more c.items.item-index item here c.items.invariant c.in_ok-add_item.ensures.ok
