use Rattle.std.proofs.Common.{◌∙◌, sym, ap, Some, arith}
use Rattle.wb_determinism.specs.Images.{begins}
use Rattle.wb_determinism_beside.proofs.ImageLemmas.{bridged_here, bridged_on, production_at, left_at}
use Rattle.wb_tests_unions.proofs.images.bridged.Goals as goal

pub returns-then-begins : goal.returns-then-begins
returns-then-begins c =
    let rules = c.args.grammar.now.productions in
    let p = c.productions.production in
    let t = c.args.terminal in
    let (rule, at, right) = production_at rules p c.right.result.now
    (omega (arith, c.productions-test.true, c.productions-production-end.ensures.count))
    c.right.ensures.right in
    ap (λ a. Some a) (left_at rules p c.left.result rule at c.left.ensures.left)
    ∙ sym (bridged_here t rules p rule at (sym (ap (begins t) right) ∙ sym c.begins.ensures ∙ c.if-begins.true)) ∙ c.productions.invariant

pub productions-preserved : goal.productions-preserved
productions-preserved c =
    let rules = c.args.grammar.now.productions in
    let p = c.productions.production in
    let t = c.args.terminal in
    let (rule, at, right) = production_at rules p c.right.result.now
    (omega (arith, c.productions-test.true, c.productions-production-end.ensures.count))
    c.right.ensures.right in
    bridged_on t rules p rule at (sym (ap (begins t) right) ∙ sym c.begins.ensures ∙ c.if-begins.false) ∙ c.productions.invariant
