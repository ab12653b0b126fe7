use Rattle.std.proofs.Common.{sym, ◌∙◌, subst}
use Rattle.wb_grammar_theory.specs.Items.{IsKernelItem}
use Rattle.wb_items.specs.Kernels.{prefix_of}
use Rattle.wb_items.proofs.CallerLemmas.{row_has}
use Rattle.wb_lookahead.proofs.PlaceLemmas.{held_len}
use Rattle.wb_determinism.specs.Inner.Contexts.{both_of}
use Rattle.wb_determinism.proofs.KeepLemmas.{item_answer}
use Rattle.wb_determinism.proofs.lookahead_rule.item_fault.Goals as goal

pub unreachable-requires : goal.unreachable-requires
unreachable-requires c =
    let (own, is) = c.requires.region.within c.args.item c.requires.item in
    c.in_default.ensures own is

pub of-set-requires-clause-item : goal.of-set-requires-clause-item
of-set-requires-clause-item c =
    let x = c.args.context.now in
    row_has c.requires.context.both x.both_lookaheads.now c.requires.context.both_lookaheads.shape c.args.state c.args.item c.requires.state
    c.requires.item.0

pub of-allowed-requires-clause-item : goal.of-allowed-requires-clause-item
of-allowed-requires-clause-item c =
    let x = c.args.context.now in
    row_has c.requires.context.host x.host_lookaheads.now c.requires.context.host_lookaheads.shape c.args.other c.in-Some.own
    c.requires.other
    ((c.requires.region.same c.in-Some.own).1
    (subst (IsKernelItem (both_of x) (prefix_of x.both.now c.args.state)) c.in-Some.ensures c.requires.item)).0

pub foreign_member-requires : goal.foreign_member-requires
foreign_member-requires c =
    let x = c.args.context.now in
    let h = c.requires.context in
    held_len h.both x.both_lookaheads.now h.both_lookaheads.shape c.args.state c.requires.state c.args.item c.of-set.result.now
    c.of-set.ensures ∙ sym h.images

pub returns : goal.returns
returns c =
    item_answer c.args.context.now c.requires.context c.args.state c.args.other c.args.item c.in-Some.own c.of-set.result.now
    c.of-allowed.result.now c.requires.state c.requires.other c.requires.region c.requires.item c.in-Some.ensures c.of-set.ensures
    c.of-allowed.ensures c.foreign_member.result c.foreign_member.ensures
