use Rattle.std.proofs.Common.{arith, ◌+◌, sym, ◌∙◌, ap, Some}
use Rattle.std.proofs.lemmas.Option.{slice_get-get_or}
use Rattle.wb_termset.specs.Sets.{IsMember}
use Rattle.wb_lexical.specs.Inner.Rows.{AreTogether, AreTogetherBelow}
use Rattle.wb_lexical.proofs.RowLemmas.{hold_more, hold_none, hold_same, square, together_all, together_more}
use Rattle.wb_lexical.proofs.rows.rows_together.Goals as goal

pub sets-init : goal.sets-init
sets-init c = hold_none c.args.count (AreTogetherBelow c.args.sets.now 0) c.in_ok-rows.rows.items c.in_ok-rows.ensures
    (λ t u (k, lt, left, right). omega (arith, lt))

pub add_set-requires : goal.add_set-requires
add_set-requires c = square c.args.count (AreTogetherBelow c.args.sets.now c.sets.set-index) c.sets.rows.items c.sets.invariant

pub sets-preserved : goal.sets-preserved
sets-preserved c =
    let sets = c.args.sets.now in
    let i = c.sets.set-index in
    let set = c.set-item.result in
    hold_more c.args.count (AreTogetherBelow sets i) (λ t u. IsMember set t × IsMember set u) (AreTogetherBelow sets (i + 1))
    c.sets.rows.items c.add_set.new.rows.items c.sets.invariant c.add_set.ensures
    (together_more sets i set (slice_get-get_or sets i set c.sets-test.true ∙ ap Some (sym c.set-item.is)))

pub returns : goal.returns
returns c =
    hold_same c.args.count (AreTogetherBelow c.args.sets.now c.sets.set-index) (AreTogether c.args.sets.now) c.sets.rows.items
    c.sets.invariant (together_all c.args.sets.now c.sets.set-index (omega (arith, c.sets-test.false)))
