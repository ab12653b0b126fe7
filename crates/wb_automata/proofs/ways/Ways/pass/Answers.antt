use Rattle.std.proofs.Common.{arith, length, ◌≡◌, subst}
use Rattle.wb_automata.specs.Inner.Ways.{HasPassed}
use Rattle.wb_automata.proofs.WayLemmas.{passed_below, passed_none, passed_step}
use Rattle.wb_automata.proofs.ways.Ways.pass.Goals as goal

pub step-requires-clause-place : goal.step-requires-clause-place
step-requires-clause-place c = omega (arith, c.bytes.invariant.0.len, c.requires.listed.len, c.bytes-test.true)

pub step-requires-clause-listed : goal.step-requires-clause-listed
step-requires-clause-listed c = passed_below c.args.node c.args.bytes.now c.args.q c.bytes.c (length c.args.bytes.now) c.args.self.now.chains
    c.bytes.self.chains c.args.self.now.ends.items c.bytes.self.ends.items c.requires.listed c.bytes-test.true c.bytes.invariant.0

pub bytes-init : goal.bytes-init
bytes-init c = (passed_none c.args.node c.args.bytes.now c.args.q c.args.self.now.chains c.args.self.now.ends.items, omega arith)

pub bytes-preserved : goal.bytes-preserved
bytes-preserved c = (
  passed_step c.args.node c.args.bytes.now c.args.q c.bytes.c c.in_ok-c.c c.args.self.now.chains c.bytes.self.chains _
      c.args.self.now.ends.items c.bytes.self.ends.items _ c.bytes.invariant.0 c.in_ok-c.ensures,
  c.in_ok-c.ensures.within,
)

pub bytes-smaller : goal.bytes-smaller
bytes-smaller c = (let further = c.in_ok-c.ensures.further in omega (arith, c.bytes-test.true))

pub returns : goal.returns
returns c = subst (λ z. HasPassed c.args.node c.args.bytes.now c.args.q z c.args.self.now.chains c.args.self.now.ends.items
    c.bytes.self.chains c.bytes.self.ends.items)
    (let e : c.bytes.c ≡ length c.args.bytes.now = omega (arith, c.bytes.invariant.1, c.bytes-test.false) in e) c.bytes.invariant.0
