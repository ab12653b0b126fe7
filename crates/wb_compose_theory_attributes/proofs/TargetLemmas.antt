-- No two targets become one in new numbers.
use Rattle.std.proofs.Common.{◌≡◌, ℕ, ap}
use Rattle.wb_syntax_resolved.specs.declared.equation.Place.{Place}
use Rattle.wb_syntax_resolved.specs.declared.equation.Place.TheVariants as place
use Rattle.wb_syntax_resolved.specs.declared.equation.Target.{Target}
use Rattle.wb_syntax_resolved.specs.declared.equation.Target.TheVariants as target
use Rattle.wb_compose_theory_attributes.specs.Numbers.{NumberMap, IsOneToOne}
use Rattle.wb_compose_theory_attributes.specs.Rows.{new_place, new_target}

module _ (t : NumberMap) (once : IsOneToOne t) (p : ℕ) where
  place_once : (x y : Place) → new_place t p x ≡ new_place t p y → x ≡ y
  place_once (place.Child i) (place.Child j) is = is
  place_once (place.Child i) (place.Local y) is = absurd (cc is)
  place_once (place.Local x) (place.Child j) is = absurd (cc is)
  place_once (place.Local x) (place.Local y) is =
      let equal : t.local_in p x ≡ t.local_in p y = cc is in ap place.Local (once.local_in p x y equal)

  pub target_once : (x y : Target) → new_target t p x ≡ new_target t p y → x ≡ y
  target_once (target.Top x) (target.Top y) is =
      let equal : t.attribute x ≡ t.attribute y = cc is in ap target.Top (once.attribute x y equal)
  target_once (target.Top x) (target.Place at y) is = absurd (cc is)
  target_once (target.Top x) (target.Forward y) is = absurd (cc is)
  target_once (target.Place at x) (target.Top y) is = absurd (cc is)
  target_once (target.Place at x) (target.Place to y) is =
      let equal : t.attribute x ≡ t.attribute y = cc is in
      let places : new_place t p at ≡ new_place t p to = cc is in
      let one = once.attribute x y equal in
      let other = place_once at to places in
      cc (one, other)
  target_once (target.Place at x) (target.Forward y) is = absurd (cc is)
  target_once (target.Forward x) (target.Top y) is = absurd (cc is)
  target_once (target.Forward x) (target.Place at y) is = absurd (cc is)
  target_once (target.Forward x) (target.Forward y) is =
      let equal : t.attribute x ≡ t.attribute y = cc is in ap target.Forward (once.attribute x y equal)
