use Rattle.std.proofs.Common.{◌≡◌, ◌<◌, ◌≤◌, ◌-◌, length, rules}
use Rattle.std.specs.Prelude.{slice_index_or}
use Rattle.wb_lemmas.proofs.Places.{at_default}
use Rattle.wb_session.specs.declared.stacks.Entry.{Entry}
use Rattle.wb_session.proofs.StandingLemmas.{states_more, states_shared}
use Rattle.wb_session.proofs.older.compare.Goals as goal

pub roots-preserved : goal.roots-preserved
roots-preserved c =
    let es = c.args.entries.now in
    let ds = c.args.others.now in
    let none : Entry = record { state = 0; below = 0; tree = 0 } in
    let x = slice_index_or es (c.roots.one - 1) none in
    let y = slice_index_or ds (c.roots.two - 1) none in
    let lt : c.roots.one - 1 < length es = search rules in
    let lt' : c.roots.two - 1 < length ds = search rules in
    let some : 0 < c.roots.one = search rules in
    let some' : 0 < c.roots.two = search rules in
    let same : x.state ≡ y.state = search rules in
    record {
      so_far = λ below. c.roots.invariant.so_far
          (states_more es ds c.roots.one c.roots.two x y some some' (at_default es (c.roots.one - 1) none lt)
          (at_default ds (c.roots.two - 1) none lt') same below);
    }

pub returns : goal.returns
returns c = λ true shared.
    (let same : c.roots.one ≡ c.roots.two = search rules in
    let le : c.roots.one ≤ c.args.shared = search rules in
    c.roots.invariant.so_far
    (states_shared c.args.entries.now c.args.others.now c.args.shared c.roots.one c.roots.two same le shared))
