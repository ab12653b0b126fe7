use Rattle.std.proofs.Common.{◌∙◌, sym}
use Rattle.wb_lookahead.proofs.PlaceLemmas.{held_len}
use Rattle.wb_items.proofs.CallerLemmas.{row_has}
use Rattle.wb_determinism.proofs.EnvelopeLemmas.{union_members}
use Rattle.wb_determinism.proofs.envelope.add_lookaheads.Goals as goal

pub of-requires-clause-item : goal.of-requires-clause-item
of-requires-clause-item c =
    row_has c.requires.context.host c.args.context.now.host_lookaheads.now c.requires.context.host_lookaheads.shape c.args.state c.args.item
    c.requires.state c.requires.item

pub returns-clause-each : goal.returns-clause-each
returns-clause-each c =
    union_members c.args.set.now c.of.result.now c.union_with.new.self c.union_with.ensures.after
    (λ t. c.requires.context.host_lookaheads.exact c.args.state c.args.item c.of.result.now t c.requires.state c.of.ensures)

pub union_with-requires : goal.union_with-requires
union_with-requires c =
    let x = c.args.context.now in
    c.requires.len ∙ sym (held_len c.requires.context.host x.host_lookaheads.now c.requires.context.host_lookaheads.shape c.args.state
    c.requires.state c.args.item c.of.result.now c.of.ensures)
