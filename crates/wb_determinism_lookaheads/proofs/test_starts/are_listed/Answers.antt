use Rattle.std.proofs.Common.{ℕ}
use Rattle.wb_termset.specs.Sets.{IsMember}
use Rattle.wb_grammar_theory.specs.declared.item.Item.{Item}
use Rattle.wb_determinism_lookaheads.specs.Inner.Spreading.{both_of, with_sets}
use Rattle.wb_determinism_lookaheads.specs.NewLookaheads.{Lists}
use Rattle.wb_determinism_lookaheads.proofs.ListLemmas.{before_all, before_more}
use Rattle.wb_determinism_lookaheads.proofs.test_starts.are_listed.Goals as goal

pub items-preserved : goal.items-preserved
items-preserved c =
    let x = c.args.context.now in
    let P : Item → Type 0 = λ item. (t : ℕ) → IsMember c.args.set.now t → Lists (both_of x) (with_sets x c.args.sets.now) c.args.place item
    t in
    before_more P c.args.items.now c.items.item-index (record { production = 0; dot = 0 }) c.items-test.true c.items.invariant
    (c.is_listed.ensures c.if-not-is_listed.false)

pub returns : goal.returns
returns c = λ _ item t has member.
    let x = c.args.context.now in
    let P : Item → Type 0 = λ i. (u : ℕ) → IsMember c.args.set.now u → Lists (both_of x) (with_sets x c.args.sets.now) c.args.place i u in
    before_all P c.args.items.now c.items.item-index c.items-test.false c.items.invariant item has t member
