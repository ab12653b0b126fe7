use Rattle.std.proofs.Common.{◌≡◌, subst, sym}
use Rattle.std.specs.Prelude.{Contains}
use Rattle.wb_automata_positions.proofs.ClosureLemmas.{adds_none, adds_pushed}
use Rattle.wb_automata_positions.proofs.closure.meet.Goals as goal

pub returns-then-is_met : goal.returns-then-is_met
returns-then-is_met c = adds_none (λ d. d ≡ c.args.place) c.args.met.now (λ d e. subst (Contains c.args.met.now) (sym e)
    (subst (λ z. Contains z c.args.place) c.as_slice.ensures (c.is_met.ensures c.if-is_met.true)))

pub returns : goal.returns
returns c = adds_pushed c.args.met.now c.push.new.self c.args.place c.push.result c.push.ensures
