use Rattle.std.proofs.Common.{◌≡◌, ◌<◌, Some, None, arith, ap, get_or, length, length-set, slice_get, ◌∙◌}
use Rattle.std.specs.Prelude.{option_map}
use Rattle.std.proofs.lemmas.List.{length-take-le}
use Rattle.std.proofs.lemmas.Option.{slice_get-map}
use Rattle.wb_lemmas.proofs.Places.{at_default}
use Rattle.wb_program_words.specs.Rows.{name_of}
use Rattle.wb_program_words.specs.declared.rows.OptionName.TheVariants.{Text}
use Rattle.wb_program_words.specs.Inner.Values.{HaveNoValues}
use Rattle.wb_program_words.proofs.SplitLemmas.{on_none}
use Rattle.wb_program_words.proofs.ValueLemmas.{none_have, values_are, values_more}
use Rattle.wb_program_words.proofs.values.values_of.Goals as goal

pub returns-in_err-value-clause-none : goal.returns-in_err-value-clause-none
returns-in_err-value-clause-none c =
    let names = c.args.names.now in
    let slots = c.args.slots.now in
    let i = c.names.place in
    let small : i < length names = c.names-test.true in
    let few = c.requires in
    let three = c.told-slots in
    on_none c.from_residual.result (HaveNoValues names slots)
    (none_have names slots i (get_or names i Text) (get_or slots i None) (at_default names i Text small)
    (at_default slots i None (omega (arith, small, few, three))) c.in_err-value.ensures.none)

pub names-preserved : goal.names-preserved
names-preserved c =
    let names = c.args.names.now in
    let slots = c.args.slots.now in
    let i = c.names.place in
    let name = get_or names i Text in
    let small : i < length names = c.names-test.true in
    let few = c.requires in
    let three = c.told-slots in
    let at : slice_get names i ≡ Some name = at_default names i Text small in (
      length-set c.names.list i c.in_ok-value.value ∙ c.names.invariant.0,
      λ options are. values_more options names c.names.list i c.in_ok-value.value name at
          (c.in_ok-value.ensures.some options
          (are.each i (name_of name) (get_or slots i None) (slice_get-map name_of names i ∙ ap (option_map name_of) at)
          (at_default slots i None (omega (arith, small, few, three)))))
          (c.names.invariant.1 options are),
    )

pub returns-clause-some : goal.returns-clause-some
returns-clause-some c =
    let names = c.args.names.now in
    let few = c.requires in
    let three : length c.names.list ≡ 3 = c.names.invariant.0 in
    let over = c.names-test.false in
    λ options are. values_are options names c.names.list
    (length-take-le (length names) c.names.list (omega (arith, few, three)))
    (λ k name value small. c.names.invariant.1 options are k name value (omega (arith, small, over)))
