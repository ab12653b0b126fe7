use Rattle.std.proofs.Common.{◌≡◌, ◌<◌, ◌++◌, ◌∷◌, [], length, get_or, arith, rules, subst, sym}
use Rattle.std.proofs.lemmas.Option.{slice_get-get_or}
use Rattle.std.proofs.lemmas.Grind.{common_steps}
use Rattle.wb_grammar.proofs.PathLemmas.{GoesBack, goes_start, goes_more, goes_end}
use Rattle.wb_grammar.proofs.paths.walk_back.Goals as goal

pub back-init : goal.back-init
back-init c =
    let is : c.push.new.list.items ≡ (get_or c.args.trail.now c.args.place (0, 0)).0 ∷ [] = grind (arith, common_steps) in (
      c.requires.place,
      subst (λ p. GoesBack c.args.trail.now c.args.place p c.args.place) (sym is)
          (goes_start c.args.trail.now c.args.place (0, 0) c.requires.place),
    )

pub back-smaller : goal.back-smaller
back-smaller c = c.requires.lower c.back.at (get_or c.args.trail.now c.back.at (0, 0))
    (slice_get-get_or c.args.trail.now c.back.at (0, 0) c.back.invariant.0) (λ z. omega arith)

pub bounds-trail-at-in-back-2 : goal.bounds-trail-at-in-back-2
bounds-trail-at-in-back-2 c =
    let lower : (get_or c.args.trail.now c.back.at (0, 0)).1 < c.back.at = c.requires.lower c.back.at
    (get_or c.args.trail.now c.back.at (0, 0)) (slice_get-get_or c.args.trail.now c.back.at (0, 0) c.back.invariant.0)
    (λ z. omega arith) in
    omega (arith, c.back.invariant.0)

pub offset_bounds-trail-at-in-back-2 : goal.offset_bounds-trail-at-in-back-2
offset_bounds-trail-at-in-back-2 c =
    let lower : (get_or c.args.trail.now c.back.at (0, 0)).1 < c.back.at = c.requires.lower c.back.at
    (get_or c.args.trail.now c.back.at (0, 0)) (slice_get-get_or c.args.trail.now c.back.at (0, 0) c.back.invariant.0)
    (λ z. omega arith) in
    let within : (get_or c.args.trail.now c.back.at (0, 0)).1 < length c.args.trail.now = omega (arith, c.back.invariant.0) in
    search rules

pub back-preserved : goal.back-preserved
back-preserved c =
    let lower : (get_or c.args.trail.now c.back.at (0, 0)).1 < c.back.at = c.requires.lower c.back.at
    (get_or c.args.trail.now c.back.at (0, 0)) (slice_get-get_or c.args.trail.now c.back.at (0, 0) c.back.invariant.0)
    (λ z. omega arith) in
    let within : (get_or c.args.trail.now c.back.at (0, 0)).1 < length c.args.trail.now = omega (arith, c.back.invariant.0) in
    let is : c.push-in-back.new.list.items ≡ c.back.path.items ++ (get_or c.args.trail.now (get_or c.args.trail.now c.back.at (0, 0)).1
    (0, 0)).0 ∷ [] = grind (arith, common_steps) in (
      within,
      subst (λ p. GoesBack c.args.trail.now c.args.place p (get_or c.args.trail.now c.back.at (0, 0)).1) (sym is)
          (goes_more c.args.trail.now c.args.place c.back.path.items c.back.at (0, 0) (0, 0) c.back.invariant.0
          (λ z. omega arith) within c.back.invariant.1),
    )

pub returns : goal.returns
returns c =
    let zero_at : c.back.at ≡ 0 = omega arith in
    goes_end c.args.trail.now c.args.place c.back.path.items
    (subst (GoesBack c.args.trail.now c.args.place c.back.path.items) zero_at c.back.invariant.1)
