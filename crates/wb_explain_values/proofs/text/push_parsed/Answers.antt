use Rattle.std.proofs.Common.{sym, subst}
use Rattle.std.specs.Prelude.{OnOk}
use Rattle.wb_session.specs.parsed.Parsed.{Parsed}
use Rattle.wb_explain_values.specs.Inner.Found.{SaysOfParsed}
use Rattle.std.proofs.lemmas.Result.{on_ok_weaker}
use Rattle.wb_operations.specs.Operations.{Operations}
use Rattle.wb_values.specs.ValuesIn.{tree_in}
use Rattle.wb_explain_values.proofs.SaidLemmas.{says_found}
use Rattle.wb_explain_values.proofs.text.push_parsed.Goals as goal

pub returns-in_ok-waiting-in-Tree : goal.returns-in_ok-waiting-in-Tree
returns-in_ok-waiting-in-Tree g c =
    let q = c.args.question.now in
    let operations : Operations = record { signatures = c.args.operations.now.signatures; meaning = g.M.Meaning.meaning } in
    subst (λ (p : Parsed). OnOk c.push_found.result (SaysOfParsed c.args.asked.now.files.now q.attributes.now operations c.args.store.now
    q.attribute q.steps p c.args.out.now.items c.push_found.new.out.items)) (sym c.in-Tree.is)
    (on_ok_weaker c.push_found.result
    (says_found c.args.asked.now.files.now q.attributes.now operations (tree_in c.args.store.now c.in-Tree.root.0) q.attribute q.steps
    c.waiting_instances.new.store c.in_ok-waiting-in-Tree.waiting c.args.out.now.items c.push_found.new.out.items
    c.in_ok-waiting-in-Tree.ensures.waits) c.push_found.ensures)
