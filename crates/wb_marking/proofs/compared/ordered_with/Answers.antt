use Rattle.std.proofs.Common.{◌≡◌, ◌<◌, ◌≤◌, length, get_or, ap, arith}
use Rattle.wb_syntax_resolved.specs.declared.terminal.Preference.{Preference}
use Rattle.wb_marking.proofs.ClashLemmas as p
use Rattle.wb_marking.proofs.compared.ordered_with.Goals as goal

pub preferences-preserved : goal.preferences-preserved
preferences-preserved c =
    let r = c.args.parts.now in
    let i = c.preferences.preference-index in
    let none : Preference = record { first = 0; second = 0 } in
    let len : length c.as_slice-preference-items.result.now ≡ length r.preferences = ap length c.as_slice-preference-items.ensures in
    let within : i < length r.preferences = omega (arith, len) in
    p.ordered_more r c.args.marker i c.preferences.ordered c.add.new.ordered
    (get_or c.as_slice-preference-items.result.now i none)
    (p.read_in c.as_slice-preference-items.result.now r.preferences c.as_slice-preference-items.ensures i none within)
    c.preferences.invariant
    c.add.ensures.len c.add.ensures.each

pub returns : goal.returns
returns c =
    let len : length c.as_slice-preference-items.result.now ≡ length c.args.parts.now.preferences =
    ap length c.as_slice-preference-items.ensures in
    let ended : length c.args.parts.now.preferences ≤ c.preferences.preference-index = omega (arith, len) in
    p.ordered_all c.args.parts.now c.args.marker c.preferences.preference-index c.preferences.ordered ended c.preferences.invariant
