use Rattle.std.proofs.Common.{refl, subst, sym, ◌∙◌}
use Rattle.std.specs.Prelude.{None}
use Rattle.wb_scan.specs.Inner.Longest.{IsReached}
use Rattle.wb_scan.proofs.ReachLemmas.{by_init, by_passes, by_finds, by_stops, by_halts, by_ends}
use Rattle.wb_scan.proofs.longest.longest.Goals as goal

pub bytes-init : goal.bytes-init
bytes-init c =
    by_init c.args.automaton.now c.args.landings.now c.args.set c.args.text.now c.args.at c.start-state.result c.requires.at
    c.start-state.ensures.leads c.start-state.ensures.state

pub returns-in_default : goal.returns-in_default
returns-in_default c =
    subst (IsReached c.args.automaton.now c.args.landings.now c.args.set c.args.text.now c.args.at) (sym c.reached.ensures)
    (by_stops c.args.automaton.now c.args.landings.now c.args.set c.args.text.now c.args.at c.bytes.place c.bytes.state c.bytes.found.end
    c.bytes.found.landing c.bytes.invariant _ None c.bytes-test.true refl c.in_default.ensures.none refl)

pub bytes-preserved-else-ends : goal.bytes-preserved-else-ends
bytes-preserved-else-ends c =
    by_finds c.args.automaton.now c.args.landings.now c.args.set c.args.text.now c.args.at c.bytes.place c.bytes.state c.bytes.found.end
    c.bytes.found.landing c.bytes.invariant c.requires.landings c.in-Some.next _ c.in-Some-listed.landing c.bytes-test.true refl
    c.in-Some.ensures.state c.in-Some.ensures.leads c.in-Some-listed.ensures (sym c.accepts.ensures ∙ c.if-accepts.true)

pub returns-then-ends : goal.returns-then-ends
returns-then-ends c =
    subst (IsReached c.args.automaton.now c.args.landings.now c.args.set c.args.text.now c.args.at) (sym c.reached-then-ends.ensures)
    (by_halts c.args.automaton.now c.args.landings.now c.args.set c.args.text.now c.args.at _ c.in-Some.next _ c.in-Some-listed.landing
    (by_finds c.args.automaton.now c.args.landings.now c.args.set c.args.text.now c.args.at c.bytes.place c.bytes.state c.bytes.found.end
    c.bytes.found.landing c.bytes.invariant c.requires.landings c.in-Some.next _ c.in-Some-listed.landing c.bytes-test.true refl
    c.in-Some.ensures.state c.in-Some.ensures.leads c.in-Some-listed.ensures (sym c.accepts.ensures ∙ c.if-accepts.true))
    (λ s byte x. (c.requires.landings c.in-Some.next c.in-Some-listed.landing c.in-Some-listed.ensures).ends
    (sym c.ends.ensures ∙ c.if-ends.true) s byte x))

pub bytes-preserved : goal.bytes-preserved
bytes-preserved c =
    by_passes c.args.automaton.now c.args.landings.now c.args.set c.args.text.now c.args.at c.bytes.place c.bytes.state c.bytes.found.end
    c.bytes.found.landing c.bytes.invariant c.requires.landings c.in-Some.next _ c.in-Some-listed.landing c.bytes-test.true refl
    c.in-Some.ensures.state c.in-Some.ensures.leads c.in-Some-listed.ensures (sym c.accepts.ensures ∙ c.if-accepts.false)

pub returns : goal.returns
returns c =
    subst (IsReached c.args.automaton.now c.args.landings.now c.args.set c.args.text.now c.args.at) (sym c.reached-2.ensures)
    (by_ends c.args.automaton.now c.args.landings.now c.args.set c.args.text.now c.args.at c.bytes.place c.bytes.state c.bytes.found.end
    c.bytes.found.landing c.bytes.invariant c.bytes-test.false)
