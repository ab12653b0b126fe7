use Rattle.std.proofs.Common.{rules}
use Rattle.std.specs.Prelude.{IsSome}
use Rattle.wb_determinism_host.specs.Refusals.{IsNoMemory}
use Rattle.wb_certify_host.proofs.RefusalLemmas.{deterministic, not_deterministic, parts_of}
use Rattle.wb_certify_host.proofs.value.determinism_of.Goals as goal

pub returns-in-Ok-clause-ok : goal.returns-in-Ok-clause-ok
returns-in-Ok-clause-ok c =
    let there : IsSome c.args.resolved.now.grammar = search rules in record {
      whole = c.parts.ensures.whole;
      deterministic = deterministic c.args.resolved.now c.in-Ok.parts there c.in-Ok.ensures.ok;
      of_grammar = parts_of c.args.resolved.now c.in-Ok.parts c.in-Ok.ensures.ok;
    }

pub returns-in-Err-clause-refused : goal.returns-in-Err-clause-refused
returns-in-Err-clause-refused c =
    let there : IsSome c.args.resolved.now.grammar = search rules in
    let other : ¬ IsNoMemory c.in-Err.refusal = search rules in
    not_deterministic c.args.resolved.now c.in-Err.refusal there c.in-Err.ensures.refused other
