use Rattle.std.proofs.Common.{length, refl, subst, sym}
use Rattle.std.specs.Prelude.{None}
use Rattle.wb_scan.specs.Inner.Longest.{IsLongest, IsSeenTo}
use Rattle.wb_scan.proofs.LongestLemmas.{nothing_listed, some_listed, reading_passes, reading_finds, reading_stops, reading_ends}
use Rattle.wb_scan.proofs.LongestLemmas.{seen_stops, seen_ends}
use Rattle.wb_scan.proofs.unlisted.last_match.Goals as goal

pub returns-in_default-clause-longest : goal.returns-in_default-clause-longest
returns-in_default-clause-longest c =
    subst (λ z. IsLongest c.args.automaton.now c.args.set c.args.text.now c.args.at (length c.args.text.now) z.state z.end)
    (sym c.ended.ensures)
    (reading_stops c.args.automaton.now c.args.set c.args.text.now c.args.at c.bytes.place c.bytes.state c.bytes.found.state
    c.bytes.found.end _ None c.bytes.invariant c.bytes-test.true refl c.in_default.ensures.none refl)

pub returns-in_default-clause-examined : goal.returns-in_default-clause-examined
returns-in_default-clause-examined c =
    subst (λ z. IsSeenTo c.args.automaton.now c.args.set c.args.text.now c.args.at z.examined) (sym c.ended.ensures)
    (seen_stops c.args.automaton.now c.args.set c.args.text.now c.args.at c.bytes.place c.bytes.state c.bytes.found.state
    c.bytes.found.end _ None c.bytes.invariant c.bytes-test.true refl c.in_default.ensures.none refl)

pub bytes-preserved-then-not-is_empty : goal.bytes-preserved-then-not-is_empty
bytes-preserved-then-not-is_empty c =
    reading_finds c.args.automaton.now c.args.set c.args.text.now c.args.at c.bytes.place c.bytes.state c.bytes.found.state c.bytes.found.end
    c.in-Some.next _ c.bytes.invariant c.bytes-test.true refl c.in-Some.ensures.state c.in-Some.ensures.leads c.accepted.result.now
    c.accepted.ensures.exact (some_listed c.accepted.result.now c.is_empty.result c.is_empty.ensures c.if-not-is_empty.true)

pub bytes-preserved : goal.bytes-preserved
bytes-preserved c =
    reading_passes c.args.automaton.now c.args.set c.args.text.now c.args.at c.bytes.place c.bytes.state c.bytes.found.state c.bytes.found.end
    c.in-Some.next _ c.bytes.invariant c.bytes-test.true refl c.in-Some.ensures.state c.in-Some.ensures.leads c.accepted.result.now
    c.accepted.ensures.exact (nothing_listed c.accepted.result.now c.is_empty.result c.is_empty.ensures c.if-not-is_empty.false)

pub returns-clause-longest : goal.returns-clause-longest
returns-clause-longest c =
    subst (λ z. IsLongest c.args.automaton.now c.args.set c.args.text.now c.args.at (length c.args.text.now) z.state z.end)
    (sym c.ended-2.ensures)
    (reading_ends c.args.automaton.now c.args.set c.args.text.now c.args.at c.bytes.place c.bytes.state c.bytes.found.state
    c.bytes.found.end c.bytes.invariant c.bytes-test.false)

pub returns-clause-examined : goal.returns-clause-examined
returns-clause-examined c =
    subst (λ z. IsSeenTo c.args.automaton.now c.args.set c.args.text.now c.args.at z.examined) (sym c.ended-2.ensures)
    (seen_ends c.args.automaton.now c.args.set c.args.text.now c.args.at c.bytes.place c.bytes.state c.bytes.found.state
    c.bytes.found.end c.bytes.invariant c.bytes-test.false)
