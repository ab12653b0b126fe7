-- An extension with another name than those before it is apart from them; one that is refused has another name too.
use Rattle.std.proofs.Common.{ℕ, List, Contains, refl, subst}
use Rattle.wb_compose_texts.specs.Composed.{IsWith}
use Rattle.wb_program_files.specs.ExtensionContents.{IsExtensionText, IsExtensionRefusal}
use Rattle.wb_operations.specs.Operations.{OperationSignature}
use Rattle.wb_compose_texts.specs.Unions.{all_resolved}
use Rattle.wb_program_texts.specs.SeveralChecks.{names_of}
use Rattle.wb_program_texts.proofs.SeveralLemmas.{is_apart, not_found}
use Rattle.wb_program_texts.proofs.several.next_with.Goals as goal

pub returns-in-Ok-clause-apart : goal.returns-in-Ok-clause-apart
returns-in-Ok-clause-apart g c = λ contents is.
    let host = c.args.host.now in
    let before = c.args.before.now in
    let spec = c.args.spec.now in
    let new : ¬ Contains (names_of (all_resolved before)) spec.name =
    subst (λ (name : List ℕ). ¬ Contains (names_of (all_resolved before)) name) c.name.ensures
    (not_found c.has_name.result (Contains (names_of (all_resolved before)) c.name.result.now) c.has_name.ensures c.if-has_name.false) in
    let with_it : IsWith host c.in-Ok.extension =
    record { host_is = c.in-Ok.ensures.host; operations_are = c.in-Ok.ensures.operations } in
    is_apart host host.operations before c.in-Ok.extension contents spec with_it is (c.in-Ok.ensures.extension contents is.accepted) new

pub returns-in-Ok-clause-ok : goal.returns-in-Ok-clause-ok
returns-in-Ok-clause-ok g c = λ contents is.
    let host = c.args.host.now in
    let spec = c.args.spec.now in
    let before = c.args.before.now in
    let new : ¬ Contains (names_of (all_resolved before)) spec.name =
    subst (λ (name : List ℕ). ¬ Contains (names_of (all_resolved before)) name) c.name.ensures
    (not_found c.has_name.result (Contains (names_of (all_resolved before)) c.name.result.now) c.has_name.ensures c.if-has_name.false) in
    record {
      name = spec.name;
      named = record { spec = spec; is = is; named = refl };
      new = new;
      text = subst (λ (operations : List OperationSignature). IsExtensionText host.resolved operations contents c.in-Ok.extension.resolved)
          c.requires (c.in-Ok.ensures.extension contents is.accepted);
    }

pub returns-in-Err-clause-refused : goal.returns-in-Err-clause-refused
returns-in-Err-clause-refused g c = λ contents is.
    let host = c.args.host.now in
    let spec = c.args.spec.now in
    let before = c.args.before.now in
    let new : ¬ Contains (names_of (all_resolved before)) spec.name =
    subst (λ (name : List ℕ). ¬ Contains (names_of (all_resolved before)) name) c.name.ensures
    (not_found c.has_name.result (Contains (names_of (all_resolved before)) c.name.result.now) c.has_name.ensures c.if-has_name.false) in
    record {
      name = spec.name;
      named = record { spec = spec; is = is; named = refl };
      new = new;
      cause = subst (λ (operations : List OperationSignature). IsExtensionRefusal host.resolved operations contents c.in-Err.refusal)
          c.requires (c.in-Err.ensures.refused contents is.accepted);
    }
