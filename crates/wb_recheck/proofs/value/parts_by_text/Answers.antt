use Rattle.std.proofs.Common.{◌≡◌, None, inl, rules}
use Rattle.std.specs.Prelude.{IsSome}
use Rattle.wb_recheck.proofs.HostLemmas.{found, grammar_value, start_value}
use Rattle.wb_recheck.proofs.value.parts_by_text.Goals as goal

pub returns-then-is_none-clause-refused : goal.returns-then-is_none-clause-refused
returns-then-is_none-clause-refused c =
    let without : c.args.resolved.now.grammar ≡ None = search rules in
    start_value c.args.resolved.now c.args.certificate.now without c.without_start.result c.of_certify.result c.of_certify.ensures
    c.without_start.ensures

pub returns-in-Ok-clause-ok : goal.returns-in-Ok-clause-ok
returns-in-Ok-clause-ok c =
    let there : IsSome c.args.resolved.now.grammar = search rules in
    found c.args.resolved.now c.args.certificate.now c.parts_with-answer.result c.parts.ensures.whole there
    c.parts_with-answer.ensures.ok c.parts_with-answer.ensures.certificate

pub returns-in-Err-clause-refused : goal.returns-in-Err-clause-refused
returns-in-Err-clause-refused c =
    let there : IsSome c.args.resolved.now.grammar = search rules in
    grammar_value c.args.resolved.now c.args.certificate.now there c.in-Err.refusal c.of_determinism.result c.of_determinism.ensures
    c.in-Err.ensures.refused (inl c.in-Err.ensures.early)
