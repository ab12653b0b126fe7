use Rattle.std.proofs.lemmas.Result.{on_ok_weaker}
use Rattle.wb_operations.specs.Operations.{Operations}
use Rattle.wb_values.specs.ValuesIn.{tree_in}
use Rattle.wb_explain_values.proofs.SaidLemmas.{named_said, says_found}
use Rattle.wb_explain_values.proofs.term.push_asked.Goals as goal

pub waiting_instances-requires-clause-asked : goal.waiting_instances-requires-clause-asked
waiting_instances-requires-clause-asked g c =
    let asked = c.requires.asked in record {
      nonterminal = asked.nonterminal;
      fits = asked.fits;
      occurs = asked.asked.occurs;
      needs_nothing = asked.asked.needs_nothing;
    }

pub returns : goal.returns
returns g c =
    let a = c.args.attributes.now in
    let asked = c.args.asked.now in
    let operations : Operations = record { signatures = c.args.operations.now.signatures; meaning = g.M.Meaning.meaning } in
    let top = tree_in c.args.store.now c.args.root.0 in
    on_ok_weaker c.push_found.result
    (λ said. named_said asked.files.now a operations top asked.name.now c.args.attribute asked.steps c.args.out.now.items
    c.push_found.new.out.items c.requires.asked
    (says_found asked.files.now a operations top c.args.attribute asked.steps c.waiting_instances.new.store c.in_ok-waiting.waiting
    c.args.out.now.items c.push_found.new.out.items c.in_ok-waiting.ensures.waits said)) c.push_found.ensures
