use Rattle.std.proofs.Common.{◌≡◌, arith}
use Rattle.wb_automata_positions.specs.Inner.Closures.{IsEntry}
use Rattle.wb_automata_positions.specs.Transitions.{entry_of}
use Rattle.wb_automata_positions.proofs.ClosureLemmas.{first_all, first_more, first_none, of_all}
use Rattle.wb_automata_positions.proofs.closure.meet_entries.Goals as goal

pub loop-p-init : goal.loop-p-init
loop-p-init c = first_none (λ from d. d ≡ entry_of c.args.tables.now from) c.args.set.now c.args.met.now

pub loop-p-preserved : goal.loop-p-preserved
loop-p-preserved c = first_more (λ from d. d ≡ entry_of c.args.tables.now from) c.args.set.now c.args.met.now c.loop-p.met c.meet.new.met
    c.loop-p.p-index (omega arith) (rw (c.entry_of.ensures) at c.in_ok-meet.ensures) c.loop-p.invariant

pub returns : goal.returns
returns c = first_all (λ from d. d ≡ entry_of c.args.tables.now from) (IsEntry c.args.tables.now c.args.set.now) c.args.set.now
    c.args.met.now c.loop-p.met c.loop-p.p-index (omega arith) (λ d from has e. record { from = from; has = has; is = e })
    (λ d v. of_all (λ from d. d ≡ entry_of c.args.tables.now from) c.args.set.now v.from d v.has v.is) c.loop-p.invariant
