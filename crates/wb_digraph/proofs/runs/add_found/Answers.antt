use Rattle.std.proofs.Common.{◌≡◌, ◌+◌, ◌-◌, ◌<◌, length, arith}
use Rattle.std.proofs.lemmas.Option.{slice_get_within}
use Rattle.wb_digraph.specs.Inner.Spreading.{IsFoundAt, LeavesGroup}
use Rattle.wb_digraph.proofs.RunLemmas.{chain_before, chain_last, taken_all, taken_more, taken_start}
use Rattle.wb_digraph.proofs.runs.add_found.Goals as goal

pub edges-init : goal.edges-init
edges-init c =
    let last = chain_last (LeavesGroup c.args.graph.now.edges.now c.args.graph.now.components.now.numbers)
    c.args.graph.now.leaving.now.lasts.items c.args.graph.now.leaving.now.earlier.items c.args.group c.index-place.result.now
    c.requires.graph.leaves (let e = c.requires.graph.leaves_keys in let lt = c.requires.group in omega (arith, e, lt)) c.index-place.ensures in
    let len = c.requires.graph.leaves_len in
    record {
      within = (let le = last.within in omega (arith, le, len));
      key = last.has;
      taken = taken_start (LeavesGroup c.args.graph.now.edges.now c.args.graph.now.components.now.numbers)
          (IsFoundAt c.args.graph.now.edges.now c.args.graph.now.components.now.numbers c.args.found.now c.args.group) c.args.group
          (length c.args.graph.now.leaving.now.earlier.items) c.index-place.result.now c.args.parts.now.items last
          (λ j n (e, i, at, from, to, less, is). (
            (e, at, from),
            (let w = slice_get_within c.args.graph.now.edges.now j e at in omega (arith, w, len)),
          ));
    }

pub edges-smaller : goal.edges-smaller
edges-smaller c =
    let last = chain_before (LeavesGroup c.args.graph.now.edges.now c.args.graph.now.components.now.numbers)
    c.args.graph.now.leaving.now.lasts.items c.args.graph.now.leaving.now.earlier.items c.args.group c.edges.place
    c.index-place-in-edges.result.now c.requires.graph.leaves c.edges-test.true
    (let e = c.requires.graph.leaves_len in let w = c.edges.invariant.within in omega (arith, e, w)) c.edges.invariant.key
    c.index-place-in-edges.ensures in
    let le = last.within in let some = c.edges-test.true in omega (arith, le, some)

pub edges-preserved : goal.edges-preserved
edges-preserved c =
    let last = chain_before (LeavesGroup c.args.graph.now.edges.now c.args.graph.now.components.now.numbers)
    c.args.graph.now.leaving.now.lasts.items c.args.graph.now.leaving.now.earlier.items c.args.group c.edges.place
    c.index-place-in-edges.result.now c.requires.graph.leaves c.edges-test.true
    (let e = c.requires.graph.leaves_len in let w = c.edges.invariant.within in omega (arith, e, w)) c.edges.invariant.key
    c.index-place-in-edges.ensures in
    let is : c.edges.place ≡ (c.edges.place - 1) + 1 = (let some = c.edges-test.true in omega (arith, some)) in
    let lt : c.edges.place - 1 < length c.args.graph.now.edges.now =
    (let w = c.edges.invariant.within in let some = c.edges-test.true in omega (arith, w, some)) in
    record {
      within = (let le = last.within in omega (arith, le, lt));
      key = last.has;
      taken = taken_more (LeavesGroup c.args.graph.now.edges.now c.args.graph.now.components.now.numbers)
          (IsFoundAt c.args.graph.now.edges.now c.args.graph.now.components.now.numbers c.args.found.now c.args.group) c.args.group
          c.edges.place c.index-place-in-edges.result.now (c.edges.place - 1) c.args.parts.now.items c.edges.parts.items
          c.add_target.new.parts.items is last (λ j n (e, i, at, from, to, less, is'). (e, at, from)) c.in_ok-add_target.ensures
          c.edges.invariant.taken;
    }

pub returns : goal.returns
returns c =
    taken_all (IsFoundAt c.args.graph.now.edges.now c.args.graph.now.components.now.numbers c.args.found.now c.args.group) c.edges.place
    c.args.parts.now.items c.edges.parts.items c.edges-test.false c.edges.invariant.taken
