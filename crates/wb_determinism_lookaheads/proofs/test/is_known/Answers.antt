use Rattle.wb_items.specs.Lookaheads.{set_of}
use Rattle.wb_items.proofs.RowLemmas.{number_set}
use Rattle.wb_determinism_lookaheads.proofs.PassedLemmas.{known_by}
use Rattle.wb_determinism_lookaheads.proofs.test.is_known.Goals as goal

pub returns-in-Some-lift_of : goal.returns-in-Some-lift_of
returns-in-Some-lift_of c = λ holds t has.
    let known = c.args.context.now.known.now in
    let (n, number, l) = c.in-Some-lift_of.ensures in
    known_by c.requires.context c.args.state c.requires.state c.args.item c.in-Some.own c.in-Some.ensures (set_of known n)
    c.in-Some-lift_of.allowed.now (number_set known c.args.state c.in-Some.own n number) l t (c.are_among.ensures holds t has)
