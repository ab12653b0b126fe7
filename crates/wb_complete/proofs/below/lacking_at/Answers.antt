use Rattle.std.proofs.lemmas.Option.{IfSome_then}
use Rattle.wb_complete.proofs.TestLemmas.{defines_read, lacks_read, none_then}
use Rattle.wb_complete.proofs.below.lacking_at.Goals as goal

pub returns-clause-some : goal.returns-clause-some
returns-clause-some c =
    let needs = c.needs.result.now in
    IfSome_then c.lacking_of.result c.lacking_of.ensures.some
    (lacks_read c.args.scope.now.attributes.now c.args.production.now c.args.node.now c.in-Read.label c.in-Read.attribute
    c.in-Some.nonterminal needs c.in-Read.is c.in-Some.ensures.some (λ i. (c.needs.ensures i).0))

pub returns-clause-none : goal.returns-clause-none
returns-clause-none c =
    let needs = c.needs.result.now in
    none_then c.lacking_of.result c.lacking_of.ensures.none
    (defines_read c.args.scope.now.attributes.now c.args.production.now c.args.node.now c.in-Read.label c.in-Read.attribute
    c.in-Some.nonterminal needs c.in-Read.is c.in-Some.ensures.some (λ i. (c.needs.ensures i).1))
