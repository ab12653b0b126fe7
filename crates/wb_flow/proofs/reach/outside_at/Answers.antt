use Rattle.std.proofs.Common.{◌∙◌, Some, refl, ap}
use Rattle.std.proofs.lemmas.Option.{slice_get-get_or}
use Rattle.wb_flow.proofs.reach.outside_at.Goals as goal

pub returns-then-not-contains-clause-none : goal.returns-then-not-contains-clause-none
returns-then-not-contains-clause-none c i outside = let bad = c.if-not-contains.ensures.1 outside.has in cc

pub returns-then-contains-clause-none : goal.returns-then-contains-clause-none
returns-then-contains-clause-none c i outside = outside.lacks (c.if-contains.ensures.0 refl)

pub returns-clause-some : goal.returns-clause-some
returns-clause-some c = record {
  top = slice_get-get_or c.args.tops.now c.args.number _ c.requires.number ∙ ap Some c.in-Top.is;
  has = c.if-not-contains.ensures.0 refl;
  lacks = λ member. let bad = c.if-contains.ensures.1 member in cc;
}
