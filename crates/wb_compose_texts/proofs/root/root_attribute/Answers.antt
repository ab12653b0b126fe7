use Rattle.wb_compose_texts.proofs.ParsedLemmas.{root_found}
use Rattle.wb_compose_texts.proofs.root.root_attribute.Goals as goal

pub returns : goal.returns
returns c = λ extensions is.
    root_found c.args.host.now.resolved c.args.host.now.operations extensions c.args.attributes.now is c.args.name.now
    c.start_of-start.result
    c.start_of-start.ensures c.asked_on.result c.asked_on.ensures
