use Rattle.std.proofs.lemmas.Option.{IfSome_then}
use Rattle.wb_explain_flows.proofs.ReadLemmas.{at_place}
use Rattle.wb_explain_flows.proofs.rule.local_rule.Goals as goal

pub returns-in-Some : goal.returns-in-Some
returns-in-Some c =
    let l = c.in-Some.local.now in
    IfSome_then c.made_rule.result c.made_rule.ensures (λ at made. (
      l,
      at_place c.args.locals.now c.args.number l c.in-Some.ensures.lookup.0 c.in-Some.ensures.lookup.1,
      made,
    ))
