use Rattle.std.proofs.Common.{◌≡◌, ◌-◌, List, length, Some, refl, subst, sym}
use Rattle.std.specs.Prelude.{slice_get}
use Rattle.wb_values.specs.declared.value.Value.{Value}
use Rattle.wb_values.specs.declared.value.Value.TheVariants.{Tree as Stored}
use Rattle.wb_parser.proofs.leaf.parsed_of.Goals as goal

pub returns-in-None : goal.returns-in-None
returns-in-None c id is =
    absurd (c.in-None.ensures.none id (subst (λ (vs : List Value). slice_get vs (length vs - 1) ≡ Some (Stored id)) (sym is) refl))
