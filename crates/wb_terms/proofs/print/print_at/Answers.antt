use Rattle.std.proofs.Common.{◌≡◌, Some, refl, sym, subst, ◌∙◌}
use Rattle.std.specs.Prelude.{slice_get}
use Rattle.std.proofs.lemmas.Option.{same_Some}
use Rattle.std.proofs.lemmas.Result.{IfErr-weaker}
use Rattle.wb_values.specs.ValuesIn.{value_in}
use Rattle.wb_values.specs.declared.value.Value.{Value}
use Rattle.wb_values.specs.declared.value.Value.TheVariants.{Tree as Stored}
use Rattle.wb_terms.specs.declared.refusal.PrintRefusal.{PrintRefusal}
use Rattle.wb_terms.specs.Lengths.{IsTooLong}
use Rattle.wb_terms.specs.Printed.{printed_value}
use Rattle.wb_terms.proofs.print.print_at.Goals as goal

pub returns-in-Some-clause-ok : goal.returns-in-Some-clause-ok
returns-in-Some-clause-ok c child at = (same_Some child (Stored c.in-Some.tree) (sym at ∙ c.in-Some.ensures.some), refl)

pub returns-clause-refused : goal.returns-clause-refused
returns-clause-refused c ss trees =
    let f = λ (e : PrintRefusal) (long : IsTooLong (printed_value ss (value_in trees c.in_ok-value.value)) e) (child : Value)
    (at : slice_get c.args.values.now c.args.place ≡ Some child).
    subst (λ (v : Value). IsTooLong (printed_value ss (value_in trees v)) e)
    (same_Some c.in_ok-value.value child (sym c.in_ok-value.ensures ∙ at)) long in
    IfErr-weaker c.print_plain.result _ _ f (c.print_plain.ensures.refused ss trees)
