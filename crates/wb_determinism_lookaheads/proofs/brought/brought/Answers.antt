use Rattle.std.proofs.Common.{refl}
use Rattle.std.proofs.lemmas.Result.{IfOk-weaker}
use Rattle.wb_determinism_lookaheads.proofs.StartLemmas.{behind_listed, behind_there, brought_by, start_is}
use Rattle.wb_determinism_lookaheads.proofs.brought.brought.Goals as goal

pub next-requires : goal.next-requires
next-requires c = (start_is c.requires.context c.args.start c.requires.start).before

pub unreachable-requires : goal.unreachable-requires
unreachable-requires c =
    behind_there c.requires.context c.args.start (start_is c.requires.context c.args.start c.requires.start)
    (c.in_default.ensures.none.0 refl)

pub of-requires-clause-item : goal.of-requires-clause-item
of-requires-clause-item c =
    behind_listed c.requires.context c.args.start (start_is c.requires.context c.args.start c.requires.start) c.in-Some.behind
    c.in-Some.ensures.some

pub returns : goal.returns
returns c =
    IfOk-weaker c.lifted.result _ _
    (λ made l. brought_by c.requires.context c.args.start (start_is c.requires.context c.args.start c.requires.start) c.in-Some.behind
    c.in-Some.ensures.some c.of.result.now made c.of.ensures l) c.lifted.ensures
