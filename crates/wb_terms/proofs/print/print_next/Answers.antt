use Rattle.std.proofs.Common.{◌≡◌, ◌+◌, ◌-◌, ◌≤◌, ◌++◌, Some, length, reverse, ◌∙◌, arith, get_or}
use Rattle.std.specs.Prelude.{slice_get, false}
use Rattle.std.proofs.lemmas.Option.{slice_get-get_or}
use Rattle.std.proofs.lemmas.Result.{IfOk-weaker, IfErr-weaker}
use Rattle.wb_lemmas.proofs.Elements.{all_at}
use Rattle.wb_lemmas.proofs.Refusals.{handed_on}
use Rattle.wb_values.specs.ValuesIn.{value_in, IsIn}
use Rattle.wb_values.specs.declared.value.Value.{Value}
use Rattle.wb_values.specs.declared.value.Value.TheVariants.{Bool}
use Rattle.wb_terms.specs.declared.print.Current.{Current}
use Rattle.wb_terms.specs.declared.print.Next.{Next}
use Rattle.wb_terms.specs.declared.refusal.PrintRefusal.{PrintRefusal}
use Rattle.wb_terms.specs.Lengths.{IsTooLong}
use Rattle.wb_terms.specs.Printed.{printed_value}
use Rattle.wb_terms.specs.Inner.Pending.{current_text, next_text, Begins}
use Rattle.wb_terms.proofs.NextLemmas.{child_too_long, plain_steps, tree_steps, tree_too_long}
use Rattle.wb_terms.proofs.PendingLemmas.{appended, handed_back, is_within}
use Rattle.wb_terms.proofs.print.print_next.Goals as goal

pub returns-in_err-answer-clause-refused : goal.returns-in_err-answer-clause-refused
returns-in_err-answer-clause-refused c =
    let ss = c.args.signatures.now in
    let ts = c.args.store.now in
    let vs = c.args.pending.now.values in
    let os = reverse c.args.pending.now.begun.items in
    let old = c.args.out.now.items in
    let place = c.len-place.result - 1 in
    let last : place + 1 ≡ length vs = omega (arith, c.len-place.ensures, c.requires.some) in
    let some : c.args.current.begun.below ≤ place = omega (arith, c.len-place.ensures, c.requires.some) in
    let v = get_or vs place (Bool false) in
    let there = slice_get-get_or vs place (Bool false) (omega (arith, last)) in
    handed_on (λ (e : PrintRefusal). (child : Value) → slice_get vs place ≡ Some child → IsTooLong (printed_value ss (value_in ts child)) e)
    (IsTooLong (old ++ current_text ss ts vs c.args.current os)) c.from_residual-in_err-answer.result c.in_err-answer.field-0.0
    c.from_residual-in_err-answer.ensures.1
    (λ e long. child_too_long ss ts old c.print_separator.new.out.items c.args.current os vs place v last some there c.requires.pending
    c.in_ok-print_separator.ensures e (long v there))
    (c.in_err-answer.ensures.refused ss ts)

pub begin_tree-requires-clause-within : goal.begin_tree-requires-clause-within
begin_tree-requires-clause-within c =
    let vs = c.args.pending.now.values in
    let place = c.len-place.result - 1 in
    let last : place + 1 ≡ length vs = omega (arith, c.len-place.ensures, c.requires.some) in
    let v = get_or vs place (Bool false) in
    let there = slice_get-get_or vs place (Bool false) (omega (arith, last)) in
    let count = length c.args.store.now in
    is_within count v c.in-Some.tree
    (handed_back c.print_separator.new.out.items c.print_at.new.out.items v c.in_ok-answer.answer c.in-Some.tree c.in-Some.is
    (c.in_ok-answer.ensures.ok v there)).0
    (all_at (IsIn count) vs place v c.requires.pending.0 there)

pub returns-in-None-clause-ok : goal.returns-in-None-clause-ok
returns-in-None-clause-ok c =
    let ss = c.args.signatures.now in
    let ts = c.args.store.now in
    let vs = c.args.pending.now.values in
    let place = c.len-place.result - 1 in
    let last : place + 1 ≡ length vs = omega (arith, c.len-place.ensures, c.requires.some) in
    let some : c.args.current.begun.below ≤ place = omega (arith, c.len-place.ensures, c.requires.some) in
    let v = get_or vs place (Bool false) in
    let there = slice_get-get_or vs place (Bool false) (omega (arith, last)) in
    plain_steps ss ts c.args.out.now.items c.print_separator.new.out.items c.args.current (reverse c.args.pending.now.begun.items) vs place v
    last some there c.requires.pending c.in_ok-print_separator.ensures c.print_at.new.out.items c.truncate.new.self
    (appended c.print_separator.new.out.items c.print_at.new.out.items v c.in_ok-answer.answer ss ts c.in-None.is
    (c.in_ok-answer.ensures.ok v there))
    c.truncate.ensures

pub returns-in_ok-closes-in-Some-clause-ok : goal.returns-in_ok-closes-in-Some-clause-ok
returns-in_ok-closes-in-Some-clause-ok c =
    let ss = c.args.signatures.now in
    let ts = c.args.store.now in
    let vs = c.args.pending.now.values in
    let us = c.truncate.new.self in
    let ws = c.begin_tree.new.values in
    let old = c.args.out.now.items in
    let mid = c.print_at.new.out.items in
    let new = c.begin_tree.new.out.items in
    let os = reverse c.args.pending.now.begun.items in
    let qs = reverse c.keep.new.begun.items in
    let place = c.len-place.result - 1 in
    let last : place + 1 ≡ length vs = omega (arith, c.len-place.ensures, c.requires.some) in
    let some : c.args.current.begun.below ≤ place = omega (arith, c.len-place.ensures, c.requires.some) in
    let v = get_or vs place (Bool false) in
    let there = slice_get-get_or vs place (Bool false) (omega (arith, last)) in
    let next : Next = record { tree = c.in-Some.tree; closes = c.in_ok-closes-in-Some.closes } in
    let back = handed_back c.print_separator.new.out.items mid v c.in_ok-answer.answer c.in-Some.tree c.in-Some.is (c.in_ok-answer.ensures.ok v there) in
    let f = λ (d : Current) (begins : Begins ss ts mid new next us ws d).
    tree_steps ss ts old mid c.args.current os vs place v last some there c.requires.pending (back.1 ∙ c.in_ok-print_separator.ensures)
    new us ws next qs d back.0 c.truncate.ensures c.in_ok-closes-in-Some.ensures begins in
    IfOk-weaker c.begin_tree.result _ _ f c.begin_tree.ensures.ok

pub returns-in_ok-closes-in-Some-clause-refused : goal.returns-in_ok-closes-in-Some-clause-refused
returns-in_ok-closes-in-Some-clause-refused c =
    let ss = c.args.signatures.now in
    let ts = c.args.store.now in
    let vs = c.args.pending.now.values in
    let us = c.truncate.new.self in
    let old = c.args.out.now.items in
    let mid = c.print_at.new.out.items in
    let os = reverse c.args.pending.now.begun.items in
    let qs = reverse c.keep.new.begun.items in
    let place = c.len-place.result - 1 in
    let last : place + 1 ≡ length vs = omega (arith, c.len-place.ensures, c.requires.some) in
    let some : c.args.current.begun.below ≤ place = omega (arith, c.len-place.ensures, c.requires.some) in
    let v = get_or vs place (Bool false) in
    let there = slice_get-get_or vs place (Bool false) (omega (arith, last)) in
    let next : Next = record { tree = c.in-Some.tree; closes = c.in_ok-closes-in-Some.closes } in
    let back = handed_back c.print_separator.new.out.items mid v c.in_ok-answer.answer c.in-Some.tree c.in-Some.is (c.in_ok-answer.ensures.ok v there) in
    let f = λ (e : PrintRefusal) (long : IsTooLong (mid ++ next_text ss ts next.tree.0 next.closes) e).
    tree_too_long ss ts old mid c.args.current os vs place v last some there c.requires.pending (back.1 ∙ c.in_ok-print_separator.ensures)
    us next qs e back.0 c.truncate.ensures c.in_ok-closes-in-Some.ensures long in
    IfErr-weaker c.begin_tree.result _ _ f c.begin_tree.ensures.refused
