use Rattle.std.proofs.Common.{arith, rules, ◌-◌, ◌<◌, length}
use Rattle.std.proofs.lemmas.Option.{slice_get-get_or}
use Rattle.wb_automata.specs.Inner.Chains.{lists_of}
use Rattle.wb_automata.proofs.ChainLemmas.{lists_len, off_begin, off_end, off_more}
use Rattle.wb_automata.proofs.chains.read_back.Goals as goal

pub back-init : goal.back-init
back-init c = rw (c.clear.ensures.items) (off_begin (lists_of c.args.links.now) c.args.number c.requires.number)

pub back-preserved : goal.back-preserved
back-preserved c = (off_more c.args.links.now c.args.number c.back.at c.back.all.items c.push.new.list.items _ c.requires.links
    c.back-test.true (slice_get-get_or c.args.links.now (c.back.at - 1) _
    (omega (arith, lists_len c.args.links.now, c.back.invariant.0, c.back-test.true))) c.in_ok-push.ensures.ok c.back.invariant).1

pub back-smaller : goal.back-smaller
back-smaller c = (off_more c.args.links.now c.args.number c.back.at c.back.all.items c.push.new.list.items _ c.requires.links
    c.back-test.true (slice_get-get_or c.args.links.now (c.back.at - 1) _
    (omega (arith, lists_len c.args.links.now, c.back.invariant.0, c.back-test.true))) c.in_ok-push.ensures.ok c.back.invariant).0

pub returns : goal.returns
returns c = off_end c.args.links.now c.args.number c.back.at c.back.all.items c.reverse.new.self.items (omega (arith, c.back-test.false))
    c.reverse.ensures.items c.back.invariant c.requires.number

pub offset_bounds-links-at : goal.offset_bounds-links-at
offset_bounds-links-at c =
    let within : c.back.at - 1 < length c.args.links.now = omega
    (arith, lists_len c.args.links.now, c.back.invariant.0, c.back-test.true) in search rules

pub bounds-links-at : goal.bounds-links-at
bounds-links-at c = omega (arith, lists_len c.args.links.now, c.back.invariant.0, c.back-test.true)

pub offset_bounds-links-at-in-back : goal.offset_bounds-links-at-in-back
offset_bounds-links-at-in-back c =
    let within : c.back.at - 1 < length c.args.links.now = omega
    (arith, lists_len c.args.links.now, c.back.invariant.0, c.back-test.true) in search rules

pub bounds-links-at-in-back : goal.bounds-links-at-in-back
bounds-links-at-in-back c = omega (arith, lists_len c.args.links.now, c.back.invariant.0, c.back-test.true)
