use Rattle.std.proofs.Common.{List, sym, subst, take, get_or, ◌+◌, ◌≡◌}
use Rattle.std.proofs.lemmas.Option.{get_or_from_slice_get, slice_get-get_or}
use Rattle.wb_syntax_resolved.specs.declared.terminal.Preference.{Preference}
use Rattle.wb_names_rows.specs.Base.{IsPreferenceNow}
use Rattle.wb_names_rows.specs.Plains.{AddsEach}
use Rattle.wb_names_rows.proofs.PlainLemmas.{each_more, each_all}
use Rattle.wb_names_rows.proofs.base.add_preferences.Goals as goal

pub loop-preference-preserved : goal.loop-preference-preserved
loop-preference-preserved c =
    let now = IsPreferenceNow c.args.moves.now in
    let x : Preference = get_or c.args.preferences.now c.loop-preference.preference-index (record { first = 0; second = 0 }) in
    let is : x ≡ get_or c.args.preferences.now c.loop-preference.preference-index x =
    sym (get_or_from_slice_get c.args.preferences.now c.loop-preference.preference-index x x
    (slice_get-get_or c.args.preferences.now c.loop-preference.preference-index (record { first = 0; second = 0 })
    c.loop-preference-test.true)) in
    subst (λ (z : List Preference). AddsEach now (take (c.loop-preference.preference-index + 1) c.args.preferences.now)
    c.args.made.now.items z)
    (sym c.in_ok-push.ensures.ok)
    (each_more now c.args.preferences.now c.loop-preference.preference-index x c.moved_preference.result c.args.made.now.items
    c.loop-preference.made.items c.loop-preference.invariant c.loop-preference-test.true is c.moved_preference.ensures)

pub returns : goal.returns
returns c =
    each_all (IsPreferenceNow c.args.moves.now) c.args.preferences.now c.loop-preference.preference-index c.args.made.now.items
    c.loop-preference.made.items
    c.loop-preference.invariant c.loop-preference-test.false
