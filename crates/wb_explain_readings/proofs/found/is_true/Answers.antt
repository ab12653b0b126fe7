use Rattle.std.proofs.Common.{rules, ◌≡◌, true, subst}
use Rattle.wb_explain_readings.specs.Inner.Leaves.{leaves}
use Rattle.wb_explain_readings.specs.Readings.{HasText}
use Rattle.wb_explain_readings.proofs.NodeLemmas.{found_true}
use Rattle.wb_explain_readings.proofs.found.is_true.Goals as goal

pub returns : goal.returns
returns c =
    let found = c.args.found.now in
    let one = c.as_slice-first.result.now in
    let first : c.in_ok-is_tree.field-0 ≡ true = search rules in
    let second : c.in_ok-is_tree-2.field-0 ≡ true = search rules in
    let differ : c.differ.result ≡ true = search rules in
    let has : c.in_ok-has_text.field-0 ≡ true = search rules in
    found_true c.has_text-2.result c.args.grammar.now found one c.as_slice-second.result.now c.as_slice-2.result.now c.as_slice-first.ensures
    c.as_slice-second.ensures c.as_slice-2.ensures (c.in_ok-is_tree.ensures first) (c.in_ok-is_tree-2.ensures second) (c.differ.ensures differ)
    (subst (λ z. HasText found.is_whole z (leaves one)) c.as_slice.ensures (c.in_ok-has_text.ensures has)) c.has_text-2.ensures
