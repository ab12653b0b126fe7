use Rattle.std.proofs.Common.{ap, length, ◌∙◌}
use Rattle.wb_certify_files.proofs.RecheckedExtensionLemmas.{extension_line, extension_shown, name_memory, named_or_memory}
use Rattle.wb_certify_files.proofs.rechecked_extension.rechecked.Goals as goal

pub name_of-requires : goal.name_of-requires
name_of-requires g c = ap length c.in-Ok.ensures.certified.one

pub shown_value-requires : goal.shown_value-requires
shown_value-requires g c =
    extension_line c.args.host.now.resolved c.args.host.now.operations c.args.certificate.now c.args.resolved.now c.in-Err.refusal
    c.in-Err.ensures.refused

pub returns-in-Ok-clause-extension : goal.returns-in-Ok-clause-extension
returns-in-Ok-clause-extension g c = λ contents stands.
    named_or_memory c.args.host.now.resolved c.args.host.now.operations c.args.certificate.now contents c.args.resolved.now stands
    c.in-Ok.ensures.certified c.in-Ok.ensures.certificate c.name_of.result.now c.name_of.ensures c.copied.result c.copied.ensures

pub returns-in-Ok-clause-refused : goal.returns-in-Ok-clause-refused
returns-in-Ok-clause-refused g c = λ contents stands.
    name_memory c.args.host.now.resolved c.args.host.now.operations c.args.certificate.now contents c.name_of.result.now c.copied.result
    c.copied.ensures

pub returns-in-Err-clause-refused : goal.returns-in-Err-clause-refused
returns-in-Err-clause-refused g c = λ contents stands.
    extension_shown c.args.host.now.resolved c.args.host.now.operations c.args.certificate.now c.args.resolved.now contents stands
    c.in-Err.refusal c.in-Err.ensures.refused c.shown_value.result c.shown_value.ensures
