use Rattle.std.proofs.Common.{ap, sym, ◌∙◌}
use Rattle.std.specs.Option.{option_copied}
use Rattle.wb_explain_flows_lists.specs.Files.{text_beside}
use Rattle.wb_explain_flows_lists.proofs.files.text_of.Goals as goal

pub returns-in-Some : goal.returns-in-Some
returns-in-Some c =
    c.one_of.ensures ∙ sym (ap (λ z. text_beside c.args.source.now.contents.now (option_copied z) c.args.owner) c.in-Some.is)

pub returns-in-None : goal.returns-in-None
returns-in-None c = sym (ap (λ z. text_beside c.args.source.now.contents.now (option_copied z) c.args.owner) c.in-None.is)
