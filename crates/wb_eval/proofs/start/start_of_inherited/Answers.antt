use Rattle.std.proofs.Common.{rules, subst}
use Rattle.wb_eval_rules.specs.Codes.{HasCode}
use Rattle.wb_flow_theory.specs.Rules.{HasRule}
use Rattle.wb_flow_theory.specs.Vertices.{Vertex}
use Rattle.wb_eval.proofs.StartLemmas.{inherited_some, inherited_production, inherited_starting, inherited_alone}
use Rattle.wb_eval.proofs.start.start_of_inherited.Goals as goal

pub overflow_sub-site : goal.overflow_sub-site
overflow_sub-site c =
    (inherited_some c.args.site c.args.attribute c.requires.works.2).0

pub index-origin-requires : goal.index-origin-requires
index-origin-requires c =
    let within = (inherited_some c.args.site c.args.attribute c.requires.works.2).1 in
    search rules

pub rules_at-rules-requires-clause-production : goal.rules_at-rules-requires-clause-production
rules_at-rules-requires-clause-production c =
    inherited_production c.args.site c.args.attribute c.requires.works.2 c.index-origin.result.now c.index-origin.ensures

pub returns-in-Some : goal.returns-in-Some
returns-in-Some c = λ operations under works coded.
    inherited_starting c.args.site c.args.attribute works c.index-origin.result.now c.index-origin.ensures
    c.rules_at-rules.result.production.now c.in-Some.code.now c.rules_at-rules.ensures.production
    (subst (λ (v : Vertex). HasCode operations.signatures c.rules_at-rules.result.production.now v c.in-Some.code.now)
    c.target_below.ensures
    (c.in-Some.ensures.some operations.signatures (c.rules_at-rules.ensures.codes operations.signatures coded)))

pub returns-in-None : goal.returns-in-None
returns-in-None c = λ operations under works coded.
    inherited_alone c.args.site c.args.attribute works c.index-origin.result.now c.index-origin.ensures
    c.rules_at-rules.result.production.now c.rules_at-rules.ensures.production
    (subst (λ (v : Vertex). ¬ HasRule c.rules_at-rules.result.production.now v) c.target_below.ensures c.in-None.ensures.none)

pub equation_for-requires-clause-coded : goal.equation_for-requires-clause-coded
equation_for-requires-clause-coded c =
    let (signatures, coded) = c.requires.coded in (signatures, c.rules_at-rules.ensures.codes signatures coded)
