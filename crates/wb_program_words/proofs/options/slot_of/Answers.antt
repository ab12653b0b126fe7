use Rattle.std.proofs.Common.{arith}
use Rattle.std.proofs.lemmas.Option.{slice_get_within}
use Rattle.wb_program_words.proofs.ValueLemmas.{no_name}
use Rattle.wb_program_words.proofs.options.slot_of.Goals as goal

pub returns-clause-none : goal.returns-clause-none
returns-clause-none c =
    no_name c.args.names.now c.args.name.now
    (λ k name at.
    let within = slice_get_within c.args.names.now k name at in
    let over = c.names-test.false in
    c.names.invariant k name (omega (arith, within, over)) at)
