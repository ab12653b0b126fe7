use Rattle.std.proofs.Common.{ℕ, IfSome, subst}
use Rattle.wb_determinism_host.specs.declared.refusal.DeterminismRefusal.{DeterminismRefusal}
use Rattle.wb_determinism_host.specs.Hosts.{AreHostParts, IsDeterministicBy}
use Rattle.wb_determinism_host.specs.Lexicons.{lexicon_beside}
use Rattle.wb_determinism_host.specs.Refusals.{IsRefusalBy}
use Rattle.wb_determinism.specs.Extensions.{both_lexicon}
use Rattle.wb_determinism.specs.Refusals.{IsExtensionRefusal}
use Rattle.wb_lemmas.proofs.Refusals.{handed_on}
use Rattle.wb_determinism.proofs.JudgeLemmas.{some_extension, some_refusal}
use Rattle.wb_determinism.proofs.extension.judge_extension.Goals as goal

pub returns-in_err-both-clause-refused : goal.returns-in_err-both-clause-refused
returns-in_err-both-clause-refused c =
    let r = c.args.resolved.now in
    let host = c.args.host.now.grammar in
    handed_on (λ (e : DeterminismRefusal). IfSome r.grammar (λ g. IsRefusalBy r g (both_lexicon r g host) e))
    (λ (e : DeterminismRefusal). IfSome r.grammar (λ g. IsExtensionRefusal r g host e)) c.from_residual.result
    c.in_err-both.field-0.0 c.from_residual.ensures.1 (λ e. some_refusal r r.grammar host e)
    (subst (λ (n : ℕ). IfSome r.grammar (λ g. IsRefusalBy r g (lexicon_beside r g n) c.in_err-both.field-0.0)) c.first_production-first.ensures
    c.in_err-both.ensures.refused)

pub regions_beside-requires-clause-both : goal.regions_beside-requires-clause-both
regions_beside-requires-clause-both c =
    let r = c.args.resolved.now in
    subst (λ (n : ℕ). IfSome r.grammar (λ g. IsDeterministicBy r g (lexicon_beside r g n) × AreHostParts r g c.in_ok-both.both))
    c.first_production-first.ensures c.in_ok-both.ensures.ok

pub returns-in-Ok-clause-ok : goal.returns-in-Ok-clause-ok
returns-in-Ok-clause-ok c =
    let r = c.args.resolved.now in
    some_extension r r.grammar c.args.host.now c.in_ok-both.both c.in-Ok.regions
    (subst (λ (n : ℕ). IfSome r.grammar (λ g. IsDeterministicBy r g (lexicon_beside r g n) × AreHostParts r g c.in_ok-both.both))
    c.first_production-first.ensures c.in_ok-both.ensures.ok) c.in-Ok.ensures.ok
    c.in-Ok.ensures.regions
