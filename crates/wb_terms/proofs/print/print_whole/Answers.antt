use Rattle.wb_lemmas.proofs.Refusals.{handed_on}
use Rattle.wb_values.specs.ValuesIn.{value_in}
use Rattle.wb_terms.specs.Lengths.{IsTooLong}
use Rattle.wb_terms.specs.Printed.{printed_value}
use Rattle.wb_terms.proofs.print.print_whole.Goals as goal

pub returns-in_err-print_plain-clause-refused : goal.returns-in_err-print_plain-clause-refused
returns-in_err-print_plain-clause-refused c =
    let ss = c.args.signatures.now in
    let ts = c.args.store.now in
    let Long = IsTooLong (printed_value ss (value_in ts c.args.value.now)) in
    handed_on Long Long c.from_residual.result c.in_err-print_plain.field-0.0 c.from_residual.ensures.1 (λ e long. long)
    (c.in_err-print_plain.ensures.refused ss ts)
