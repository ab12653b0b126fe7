use Rattle.std.proofs.lemmas.Option.{MatchOption-at_some, MatchOption-at_none}
use Rattle.wb_items.specs.Kernels.{prefix_of}
use Rattle.wb_determinism.specs.Inner.Contexts.{both_of, host_of}
use Rattle.wb_determinism.specs.Inner.Moved.{AreMoved, HasForeign}
use Rattle.wb_determinism.proofs.RegionLemmas.{listed_up, listed_down}
use Rattle.wb_determinism.proofs.envelope_test.own_items.Goals as goal

pub unreachable-requires : goal.unreachable-requires
unreachable-requires c =
    let m = c.args.context.now.numbers.now in
    let items = c.kernel.result.now in
    let found = MatchOption-at_none (HasForeign m items) (AreMoved m items) c.in_default.is c.in_ok-own.ensures in
    let (own, is) = c.requires.new.within found.item ((c.kernel.ensures.exact found.item).0 found.has) in
    found.foreign own is

pub returns : goal.returns
returns c =
    let x = c.args.context.now in
    let m = x.numbers.now in
    let items = c.kernel.result.now in
    let are = MatchOption-at_some (HasForeign m items) (AreMoved m items) c.in-Some.own c.in-Some.is c.in_ok-own.ensures in
    record {
      new = c.requires.new;
      lists = λ i. (
        listed_up (host_of x) (both_of x) m (prefix_of x.host.now 0) (prefix_of x.both.now c.args.state) items c.in-Some.own are
            c.kernel.ensures.exact i,
        listed_down (host_of x) (both_of x) m (prefix_of x.host.now 0) (prefix_of x.both.now c.args.state) items c.in-Some.own are
            c.kernel.ensures.exact i,
      );
    }
