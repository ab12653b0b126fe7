use Rattle.std.proofs.Common.{◌≡◌, ◌+◌, ◌-◌, length, drop, take, sym, subst, arith, length-drop}
use Rattle.std.proofs.lemmas.List.{take_all}
use Rattle.wb_lookahead.proofs.RestRows.{length_more}
use Rattle.wb_determinism_lookaheads.specs.Inner.Rests.{AreRestsOf, IsRest}
use Rattle.wb_determinism_lookaheads.proofs.RestLemmas.{rests_more}
use Rattle.wb_determinism_lookaheads.proofs.rests.rests_in.Goals as goal

pub places-preserved : goal.places-preserved
places-preserved c =
    let g = c.args.grammar.now in
    let right = c.args.right.now in
    let n = c.places.place in
    let all : take (length right - (n + 1)) (drop (n + 1) right) ≡ drop (n + 1) right =
    take_all (length right - (n + 1)) (drop (n + 1) right) (omega (arith, length-drop (n + 1) right)) in
    let is_rest : IsRest g (drop (n + 1) right) c.in_ok-rest.rest = subst (λ z. IsRest g z c.in_ok-rest.rest) all c.in_ok-rest.ensures in
    record {
      len = length_more c.places.row.items c.push.new.list.items c.in_ok-rest.rest n c.places.invariant.len c.in_ok-push.ensures.ok;
      each = rests_more g right c.places.row.items c.push.new.list.items n c.in_ok-rest.rest c.places.invariant.len
          c.in_ok-push.ensures.ok is_rest c.places.invariant.each;
    }

pub returns : goal.returns
returns c = subst (AreRestsOf c.args.grammar.now c.args.right.now) (sym c.from_vec.ensures) (record {
  len = omega (arith, c.places.invariant.len, c.places-test.false, c.places.auto.place-end);
  each = c.places.invariant.each;
})
