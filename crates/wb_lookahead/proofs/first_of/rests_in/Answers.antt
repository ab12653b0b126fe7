use Rattle.std.proofs.Common.{◌≡◌, ◌+◌, ◌-◌, length, drop, take, subst, arith, length-drop}
use Rattle.std.proofs.lemmas.List.{take_all}
use Rattle.std.proofs.lemmas.Option.{slice_get-get_or}
use Rattle.wb_lookahead.specs.Inner.Rests.{IsRest}
use Rattle.wb_lookahead.proofs.RestRows.{joined_opening, length_more, rests_more, rests_done}
use Rattle.wb_lookahead.proofs.first_of.rests_in.Goals as goal

pub places-preserved : goal.places-preserved
places-preserved c =
    let g = c.args.grammar.now in
    let right = c.args.right.now in
    let n = c.places.place in
    let all : take (length right - (n + 1)) (drop (n + 1) right) ≡ drop (n + 1) right =
    take_all (length right - (n + 1)) (drop (n + 1) right) (omega (arith, length-drop (n + 1) right)) in
    let is_rest : IsRest g (drop (n + 1) right) c.in_ok-rest.rest = subst (λ z. IsRest g z c.in_ok-rest.rest) all c.in_ok-rest.ensures in
    record {
      len = length_more c.places.row.items c.push.new.list.items c.join_repeats.new.rest n c.places.invariant.len c.in_ok-push.ensures.ok;
      each = rests_more g right c.places.row.items c.push.new.list.items n c.join_repeats.new.rest _ c.places.invariant.len
          c.in_ok-push.ensures.ok
          (slice_get-get_or right n _ c.places-test.true)
          (joined_opening g _ (drop
          (n + 1) right) c.args.repeats.now c.in_ok-rest.rest c.join_repeats.new.rest is_rest c.requires.repeats c.join_repeats.ensures)
          c.places.invariant.each;
    }

pub returns : goal.returns
returns c = rests_done c.args.grammar.now c.args.right.now c.places.row.items c.from_vec.result
    (omega (arith, c.places.invariant.len, c.places-test.false, c.places.auto.place-end)) c.places.invariant.each c.from_vec.ensures
