use Rattle.std.proofs.Common.{rules}
use Rattle.wb_eval.proofs.StartLemmas.{synthesized_starting, synthesized_forward, synthesized_wanted, synthesized_production}
use Rattle.wb_eval.proofs.start.start_of_synthesized.Goals as goal

pub returns-then-is_none : goal.returns-then-is_none
returns-then-is_none c = λ operations under works coded.
    synthesized_wanted c.args.site c.args.attribute works c.index.result.now c.index.ensures (search rules)

pub rules_at-rules-requires-clause-production : goal.rules_at-rules-requires-clause-production
rules_at-rules-requires-clause-production c =
    synthesized_production c.args.site c.args.attribute c.requires.works.2 c.index.result.now c.index.ensures (search rules)

pub returns-in-Some : goal.returns-in-Some
returns-in-Some c = λ operations under works coded.
    synthesized_starting c.args.site c.args.attribute works c.rules_at-rules.result.production.now c.in-Some.code.now
    c.rules_at-rules.ensures.production
    (c.in-Some.ensures.some operations.signatures (c.rules_at-rules.ensures.codes operations.signatures coded))

pub returns-in-None : goal.returns-in-None
returns-in-None c = λ operations under works coded.
    synthesized_forward c.args.site c.args.attribute works c.rules_at-rules.result.production.now
    c.rules_at-rules.ensures.production c.in-None.ensures.none

pub equation_for-requires-clause-coded : goal.equation_for-requires-clause-coded
equation_for-requires-clause-coded c =
    let (signatures, coded) = c.requires.coded in (signatures, c.rules_at-rules.ensures.codes signatures coded)
