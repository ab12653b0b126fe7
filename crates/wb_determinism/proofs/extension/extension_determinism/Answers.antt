use Rattle.std.proofs.Common.{IfSome}
use Rattle.wb_determinism_host.specs.declared.refusal.DeterminismRefusal.{DeterminismRefusal}
use Rattle.wb_determinism_host.specs.Refusals.{IsBeforeConflict, IsHostRefusal}
use Rattle.wb_determinism.specs.Refusals.{IsExtensionRefusal}
use Rattle.wb_lemmas.proofs.Refusals.{handed_on}
use Rattle.wb_determinism.proofs.JudgeLemmas.{early_refusal}
use Rattle.wb_determinism.proofs.extension.extension_determinism.Goals as goal

pub returns-in_err-grammar-clause-refused : goal.returns-in_err-grammar-clause-refused
returns-in_err-grammar-clause-refused c =
    let r = c.args.resolved.now in
    let host = c.args.host.now.grammar in
    handed_on (λ (e : DeterminismRefusal). IsBeforeConflict e × IfSome r.grammar (λ g. IsHostRefusal r g e))
    (λ (e : DeterminismRefusal). IfSome r.grammar (λ g. IsExtensionRefusal r g host e)) c.from_residual.result
    c.in_err-grammar.field-0.0 c.from_residual.ensures.1 (λ e (early, is). early_refusal r r.grammar host e early is)
    (c.in_err-grammar.ensures.early, c.in_err-grammar.ensures.refused)
