use Rattle.std.proofs.Common.{◌≡◌, List, Some, sym, ◌∙◌, subst}
use Rattle.std.specs.Prelude.{Contains, MatchOption, slice_get}
use Rattle.wb_grammar_theory.specs.declared.item.Item.{Item}
use Rattle.wb_items.specs.Lookaheads.{AreNumbered}
use Rattle.wb_items.proofs.RowLemmas.{items_read, row_items_are}
use Rattle.wb_items.proofs.lookaheads.Lookaheads.find.Goals as goal

pub returns : goal.returns
returns c =
    let h : AreNumbered c.args.self.now = subst AreNumbered c.self.view_is c.self.invariant in
    let read = items_read c.self.view_is c.args.state c.requires c.index.result.now c.index.ensures in
    subst (λ (z : List Item). MatchOption c.position.result (¬ Contains z c.args.item) (λ place. slice_get z place ≡ Some c.args.item))
    (c.as_slice.ensures ∙ read ∙ sym (row_items_are h c.args.state)) c.position.ensures
