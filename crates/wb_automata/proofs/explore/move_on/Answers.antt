use Rattle.std.proofs.Common.{◌≡◌, ◌∙◌, ◌+◌, ◌-◌, ◌≤◌, ◌<◌, [], ◌∷◌, ◌++◌, sym, ap, subst, arith, ℕ, get_or, length, replicate, None, Some}
use Rattle.std.specs.Prelude.{slice_get}
use Rattle.std.proofs.lemmas.Option.{slice_get_within}
use Rattle.wb_automata.specs.Automata.{Path}
use Rattle.wb_automata.specs.Inner.Found.{on}
use Rattle.wb_automata.specs.Inner.Ways.{IsOnWay}
use Rattle.wb_automata.specs.Paths.{path_on}
use Rattle.wb_automata.proofs.StateLemmas.{row_end}
use Rattle.wb_automata.proofs.WayLemmas.{moved_some, way_on, way_repeat}
use Rattle.wb_automata.proofs.explore.move_on.Goals as goal

pub set_of-set-requires : goal.set_of-set-requires
set_of-set-requires c = slice_get_within c.args.states.now.paths c.args.i c.requires.before.row.path c.requires.before.row.at_path

pub bytes-init : goal.bytes-init
bytes-init c = record { way = c.requires.before; within = omega arith }

pub move_by-requires-clause-within : goal.move_by-requires-clause-within
move_by-requires-clause-within c = omega (arith, c.bytes.invariant.way.ways.listed.len, c.bytes-test.true)

pub move_by-requires-clause-listed : goal.move_by-requires-clause-listed
move_by-requires-clause-listed c = c.bytes.invariant.way.ways.listed.below c.bytes.c (omega (arith, c.bytes-test.true))

pub move_by-requires-clause-moves : goal.move_by-requires-clause-moves
move_by-requires-clause-moves c = omega (arith, c.bytes.invariant.way.row.are_moves.len)

pub repeat-requires : goal.repeat-requires
repeat-requires c = moved_some c.bytes.c c.bytes.ways.chains c.bytes.ways.ends.items _ c.bytes.states c.move_by.new.states c.bytes.moves
    c.move_by.new.moves (c.bytes.invariant.way.ways.listed.below c.bytes.c (omega (arith, c.bytes-test.true)))
    c.in_ok-move_by.ensures.moved

pub run_end-next-requires : goal.run_end-next-requires
run_end-next-requires c = rw (c.deref.ensures.value, c.move_by.ensures.ends)
    (omega (arith, c.bytes.invariant.way.ways.listed.len, c.bytes-test.true))

pub bytes-preserved : goal.bytes-preserved
bytes-preserved c =
    let t = c.args.tables.now in
    let bytes = c.args.bytes.now in
    let old = c.args.states.now in
    let new = c.move_by.new.states in
    let chains = c.bytes.ways.chains in
    let ends = c.bytes.ways.ends.items in
    let r = c.requires.before.row in
    let h = c.bytes.invariant.way.row in
    let b : ℕ = get_or bytes c.bytes.c 0 in
    let first : slice_get old.paths c.args.i ≡ Some h.path = r.at_path ∙ sym (h.extends.paths c.args.i r.path r.at_path) ∙ h.at_path in
    let set : c.set_of-set.result ≡ h.path.set = c.set_of-set.ensures h.path first in
    let w : Path = path_on (slice_get c.bytes.states.paths c.args.i) c.set_of-set.result b in
    let e : w ≡ on h.path b = ap (λ z. path_on z c.set_of-set.result b) h.at_path ∙ ap
    (λ z. record { set = z; text = h.path.text ++ b ∷ [] }) set in
    let one = way_on t bytes old c.bytes.states new c.args.i c.bytes.c chains ends c.bytes.moves c.move_by.new.moves w c.requires.table
    c.requires.rising (omega (arith, c.bytes-test.true)) c.bytes.invariant.way e c.in_ok-move_by.ensures.moved in
    let next = c.run_end-next.result in
    let after = c.run_end-next.ensures.after in
    let within : next ≤ length ends = rw (c.deref.ensures.value, c.move_by.ensures.ends) at c.run_end-next.ensures.within in
    let alike : (k : ℕ) → c.bytes.c ≤ k → k < next → get_or ends k 0 ≡ get_or ends c.bytes.c 0 = rw
    (c.deref.ensures.value, c.move_by.ensures.ends) at c.run_end-next.ensures.alike in
    let len : length ends ≡ length bytes = c.bytes.invariant.way.ways.listed.len in
    let place : c.bytes.c + 1 + (next - c.bytes.c - 1) ≡ next = omega arith in
    let all = c.move_by.new.moves ++ replicate (next - c.bytes.c - 1) (get_or c.move_by.new.moves (length c.move_by.new.moves - 1) None) in
    record {
      way = rw (c.in_ok-repeat.ensures, c.move_by.ensures.chains, c.move_by.ensures.ends)
          (subst (IsOnWay t bytes old new c.args.i all chains ends) place
          (way_repeat t bytes old new c.args.i c.bytes.c (next - c.bytes.c - 1) chains ends c.move_by.new.moves c.requires.table
          c.requires.rising (omega arith) (λ k from lt. alike k from (omega arith)) one));
      within = omega arith;
    }

pub bytes-smaller : goal.bytes-smaller
bytes-smaller c = (let after = c.run_end-next.ensures.after in omega (arith, c.bytes-test.true))

pub returns : goal.returns
returns c =
    let h = c.bytes.invariant.way in
    let e : c.bytes.c ≡ length c.args.bytes.now = (let le = c.bytes.invariant.within in omega (arith, c.bytes-test.false)) in
    row_end c.args.tables.now c.args.bytes.now c.args.states.now c.bytes.states c.args.i h.ahead c.bytes.moves c.bytes.c
    (λ k less. omega (arith, c.type_inv.bytes k)) e h.row
