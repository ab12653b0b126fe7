use Rattle.std.proofs.Common.{◌≡◌, sym, subst}
use Rattle.wb_operations.specs.Operations.{HasOperation, IsOperation}
use Rattle.wb_eval_rules.proofs.NumberLemmas.{number_found, number_none}
use Rattle.wb_eval_rules.proofs.code.number_of.Goals as goal

pub returns-in-Some : goal.returns-in-Some
returns-in-Some c =
    number_found c.args.signatures.now c.args.operation.now c.in-Some.number c.in-Some.ensures.different
    (subst (λ name. IsOperation c.args.signatures.now name c.in-Some.number) c.as_slice.ensures c.in-Some.ensures.found)

pub returns-in-None : goal.returns-in-None
returns-in-None c =
    number_none c.args.signatures.now c.args.operation.now
    (subst (λ name. ¬ HasOperation c.args.signatures.now name) c.as_slice.ensures c.in-None.ensures.none)
