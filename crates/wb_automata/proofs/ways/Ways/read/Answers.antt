use Rattle.std.proofs.Common.{arith, refl, length, ◌≡◌, subst}
use Rattle.wb_automata.specs.Inner.Ways.{AreWays}
use Rattle.wb_automata.proofs.WayLemmas.{ways_more, ways_none}
use Rattle.wb_automata.proofs.ways.Ways.read.Goals as goal

pub loop-q-init : goal.loop-q-init
loop-q-init c = rw (c.in_ok-begin.ensures.chains, c.in_ok-begin.ensures.ends)
    (ways_none c.args.nodes.now c.args.bytes.now c.args.ahead.now)

pub pass-requires-clause-listed : goal.pass-requires-clause-listed
pass-requires-clause-listed c = c.loop-q.invariant.listed

pub loop-q-preserved : goal.loop-q-preserved
loop-q-preserved c = ways_more c.args.nodes.now c.args.bytes.now c.args.ahead.now c.loop-q.q-index (length c.args.nodes.now) _
    c.loop-q.self.chains _ c.loop-q.self.ends.items _ c.requires.places (omega arith) (λ b. refl) c.loop-q.invariant c.in_ok-pass.ensures

pub returns : goal.returns
returns c = subst (AreWays c.args.nodes.now c.args.bytes.now c.args.ahead.now c.loop-q.self.chains c.loop-q.self.ends.items)
    (let e : c.loop-q.q-index ≡ length c.args.ahead.now = omega arith in e) c.loop-q.invariant
