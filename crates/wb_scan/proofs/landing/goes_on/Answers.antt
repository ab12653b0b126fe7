use Rattle.std.proofs.Common.{arith}
use Rattle.wb_scan.proofs.LandingLemmas.{no_move, no_move_more, no_next}
use Rattle.wb_scan.proofs.landing.goes_on.Goals as goal

pub bytes-preserved : goal.bytes-preserved
bytes-preserved c =
    no_move_more c.args.automaton.now c.args.state c.bytes.byte (λ set text leads.
    (c.step.ensures.none set text leads).0 (no_next c.step.result c.is_some.result c.is_some.ensures c.if-is_some.false)) c.bytes.invariant

pub returns : goal.returns
returns c e = no_move c.args.automaton.now c.args.state c.bytes.byte (omega arith) c.bytes.invariant
