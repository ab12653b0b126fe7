use Rattle.std.proofs.Common.{rules}
use Rattle.wb_eval.proofs.StartLemmas.{tree_some, tree_production, tree_starts, tree_stops}
use Rattle.wb_eval.proofs.start.start_of_tree.Goals as goal

pub overflow_sub-site : goal.overflow_sub-site
overflow_sub-site c =
    (tree_some c.args.site c.requires.works.2).0

pub index-origin-requires : goal.index-origin-requires
index-origin-requires c =
    let within = (tree_some c.args.site c.requires.works.2).1 in
    search rules

pub rules_at-rules-requires-clause-production : goal.rules_at-rules-requires-clause-production
rules_at-rules-requires-clause-production c =
    tree_production c.args.site c.requires.works.2 c.index-origin.result.now c.index-origin.ensures

pub returns : goal.returns
returns c = λ operations under works coded.
    tree_starts c.args.site works c.index-origin.result.now c.index-origin.ensures c.rules_at-rules.result.production.now
    c.in-Some.code.now
    c.rules_at-rules.ensures.production
    (c.in-Some.ensures.some operations.signatures (c.rules_at-rules.ensures.codes operations.signatures coded))

pub unreachable-requires : goal.unreachable-requires
unreachable-requires c =
    tree_stops c.args.site c.requires.works.2 c.index-origin.result.now c.index-origin.ensures c.rules_at-rules.result.production.now
    c.rules_at-rules.ensures.production c.in-None.ensures.none

pub tree_code-requires : goal.tree_code-requires
tree_code-requires c =
    let (signatures, coded) = c.requires.coded in (signatures, c.rules_at-rules.ensures.codes signatures coded)
