use Rattle.std.proofs.Common.{inl, inr}
use Rattle.wb_determinism_lookaheads.proofs.test.is_there.Goals as goal

pub returns-in-Some : goal.returns-in-Some
returns-in-Some c = λ holds t has. inl (c.in-Some.place, c.in-Some.ensures, c.is_listed.ensures holds t has)

pub returns-in-None : goal.returns-in-None
returns-in-None c = λ holds t has. inr (c.in-None.ensures, c.is_known.ensures holds t has)
