use Rattle.std.proofs.Common.{rules, subst, sym}
use Rattle.wb_recheck.specs.BesideRefusals.{IsMemory}
use Rattle.wb_syntax_resolved.specs.declared.resolved.ResolvedParts.{ResolvedParts}
use Rattle.wb_certify_files.specs.ExtensionContents.{IsExtensionText}
use Rattle.wb_certify_files.proofs.ShownExtensions.{value_shown}
use Rattle.wb_certify_files.proofs.ExtensionLemmas.{stands_for}
use Rattle.wb_certify_files.proofs.extension_contents.certified.Goals as goal

pub bad_value-shown-requires : goal.bad_value-shown-requires
bad_value-shown-requires g c =
    let other : ¬ IsMemory c.in-Err.refusal = search rules in
    value_shown c.args.host.now.resolved c.args.resolved.now c.args.host.now.operations c.in-Err.refusal c.in-Err.ensures.refused other

pub returns-in-Ok-clause-extension : goal.returns-in-Ok-clause-extension
returns-in-Ok-clause-extension g c = λ spec is contents accepted.
    let host = c.args.host.now.resolved in
    subst (λ (r : ResolvedParts). IsExtensionText host c.args.host.now.operations contents r) (sym c.in-Ok.ensures.resolved) (record {
      stands = stands_for host spec c.args.resolved.now is contents accepted;
      certified = c.in-Ok.ensures.certified;
    })

pub returns-in-Err-clause-refused : goal.returns-in-Err-clause-refused
returns-in-Err-clause-refused g c =
    λ spec is. c.bad_value-shown.ensures c.args.host.now.resolved c.args.host.now.operations spec is c.in-Err.ensures.refused

pub returns-in-Err-NoMemory-clause-refused : goal.returns-in-Err-NoMemory-clause-refused
returns-in-Err-NoMemory-clause-refused g c = λ spec is contents accepted. tt
