use Rattle.std.proofs.Common.{◌∙◌, Bool, false, List, length, get_or, ap, subst, arith}
use Rattle.std.proofs.lemmas.List.{length-replicate}
use Rattle.std.proofs.lemmas.Option.{slice_get-get_or}
use Rattle.wb_termset.specs.Sets.{IsMember}
use Rattle.wb_termset.proofs.CallerLemmas.{IsEmpty-replicate}
use Rattle.wb_determinism_beside.proofs.ValidLemmas.{shifted_more}
use Rattle.wb_determinism_beside.proofs.valid.shifts_of.Goals as goal

pub items-preserved : goal.items-preserved
items-preserved c = record {
  len = c.add_shift.ensures.len ∙ c.items.invariant.len;
  each = shifted_more c.args.grammar.now c.args.row.now c.items.place (get_or c.args.row.now c.items.place c.index-row-place.result)
      (slice_get-get_or c.args.row.now c.items.place c.index-row-place.result c.items-test.true) c.items.shifts c.add_shift.new.shifts
      c.items.invariant.each c.add_shift.ensures.each;
}

pub items-init : goal.items-init
items-init c =
    let n = c.in_ok-lookahead_count.field-0 in
    record {
      len = ap (λ (z : List Bool). length z) c.in_ok-shifts.ensures ∙ length-replicate n false ∙ c.in_ok-lookahead_count.ensures.count;
      each = λ t. (
        λ has. absurd (IsEmpty-replicate n t (subst (λ (z : List Bool). IsMember z t) c.in_ok-shifts.ensures has)),
        λ shifted. let below = shifted.below in absurd (omega (arith, below)),
      );
    }
