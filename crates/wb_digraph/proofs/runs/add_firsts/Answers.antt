use Rattle.std.proofs.Common.{◌≡◌, ◌+◌, ◌-◌, ◌<◌, length, arith}
use Rattle.std.proofs.lemmas.Option.{slice_get-get_or}
use Rattle.wb_digraph.specs.Inner.Spreading.{IsFirstAt, IsInGroup}
use Rattle.wb_digraph.proofs.RunLemmas.{chain_before, first_at, taken_all, taken_more}
use Rattle.wb_digraph.proofs.runs.add_firsts.Goals as goal

pub vertices-smaller : goal.vertices-smaller
vertices-smaller c =
    let last = chain_before (IsInGroup c.args.graph.now.components.now.numbers) c.args.graph.now.vertices.now.lasts.items
    c.args.graph.now.vertices.now.earlier.items c.args.group c.vertices.place c.index-place-in-vertices.result.now c.requires.graph.in_group
    c.vertices-test.true (let e = c.requires.graph.in_group_len in let w = c.vertices.invariant.within in omega (arith, e, w))
    c.vertices.invariant.key c.index-place-in-vertices.ensures in
    let le = last.within in let some = c.vertices-test.true in omega (arith, le, some)

pub vertices-preserved : goal.vertices-preserved
vertices-preserved c =
    let last = chain_before (IsInGroup c.args.graph.now.components.now.numbers) c.args.graph.now.vertices.now.lasts.items
    c.args.graph.now.vertices.now.earlier.items c.args.group c.vertices.place c.index-place-in-vertices.result.now c.requires.graph.in_group
    c.vertices-test.true (let e = c.requires.graph.in_group_len in let w = c.vertices.invariant.within in omega (arith, e, w))
    c.vertices.invariant.key c.index-place-in-vertices.ensures in
    let is : c.vertices.place ≡ (c.vertices.place - 1) + 1 = (let some = c.vertices-test.true in omega (arith, some)) in
    let lt : c.vertices.place - 1 < length c.args.graph.now.firsts.now =
    (let w = c.vertices.invariant.within in let some = c.vertices-test.true in omega (arith, w, some)) in
    record {
      within = (let le = last.within in omega (arith, le, lt));
      key = last.has;
      taken = taken_more (IsInGroup c.args.graph.now.components.now.numbers)
          (IsFirstAt c.args.graph.now.firsts.now c.args.graph.now.components.now.numbers c.args.group) c.args.group c.vertices.place
          c.index-place-in-vertices.result.now (c.vertices.place - 1) c.args.parts.now.items c.vertices.parts.items c.add.new.parts.items is last
          (λ j n at. at.0)
          (first_at c.args.graph.now.firsts.now c.args.graph.now.components.now.numbers c.args.group (c.vertices.place - 1) _
          c.vertices.parts.items c.add.new.parts.items (c.vertices.invariant.key (c.vertices.place - 1) is)
          (slice_get-get_or c.args.graph.now.firsts.now (c.vertices.place - 1) _ lt) c.in_ok-add.ensures) c.vertices.invariant.taken;
    }

pub returns : goal.returns
returns c =
    taken_all (IsFirstAt c.args.graph.now.firsts.now c.args.graph.now.components.now.numbers c.args.group) c.vertices.place
    c.args.parts.now.items c.vertices.parts.items c.vertices-test.false c.vertices.invariant.taken
