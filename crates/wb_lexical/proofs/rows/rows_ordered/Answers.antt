use Rattle.std.proofs.Common.{arith, get_or, ◌+◌}
use Rattle.std.proofs.lemmas.Option.{slice_get-get_or}
use Rattle.wb_lexical.specs.Clash.{AreOrdered}
use Rattle.wb_lexical.specs.Inner.Rows.{AreOrderedBelow, AreThese}
use Rattle.wb_lexical.proofs.RowLemmas.{hold_more, hold_none, hold_same, square, ordered_all, ordered_more}
use Rattle.wb_lexical.proofs.rows.rows_ordered.Goals as goal

pub preferences-init : goal.preferences-init
preferences-init c = hold_none c.args.count (AreOrderedBelow c.args.preferences.now 0) c.in_ok-rows.rows.items c.in_ok-rows.ensures
    (λ t u (k, lt, either). omega (arith, lt))

pub add_preference-requires : goal.add_preference-requires
add_preference-requires c =
    square c.args.count (AreOrderedBelow c.args.preferences.now c.preferences.preference-index) c.preferences.rows.items
    c.preferences.invariant

pub preferences-preserved : goal.preferences-preserved
preferences-preserved c =
    let preferences = c.args.preferences.now in
    let i = c.preferences.preference-index in
    let p = get_or preferences i (0, 0) in
    hold_more c.args.count (AreOrderedBelow preferences i) (AreThese p.0 p.1) (AreOrderedBelow preferences (i + 1))
    c.preferences.rows.items c.add_preference.new.rows.items c.preferences.invariant c.add_preference.ensures
    (ordered_more preferences i p (slice_get-get_or preferences i (0, 0) c.preferences-test.true))

pub returns : goal.returns
returns c =
    hold_same c.args.count (AreOrderedBelow c.args.preferences.now c.preferences.preference-index) (AreOrdered c.args.preferences.now)
    c.preferences.rows.items c.preferences.invariant
    (ordered_all c.args.preferences.now c.preferences.preference-index (omega (arith, c.preferences-test.false)))
