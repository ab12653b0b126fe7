use Rattle.std.proofs.Common.{◌≡◌, ◌+◌, ap, ◌∙◌, arith, sym, refl}
use Rattle.wb_generate.specs.Draws.{draw, upper}
use Rattle.wb_generate.specs.Inner.States.{state_of}
use Rattle.wb_generate.proofs.ReplaceLemmas.{in_productions, in_totals, is_below, is_counted, is_few, is_grouped, right_read, rule_at}
use Rattle.wb_generate.proofs.ReplaceLemmas.{taken_by, taken_over}
use Rattle.wb_generate.proofs.RoomLemmas.{numbers_known, some_number}
use Rattle.wb_generate.proofs.make.Making.replace.Goals as goal

pub least-least-requires : goal.least-least-requires
least-least-requires c =
    is_counted c.args.grammar.now c.args.choices.now c.requires.choices c.args.a (state_of c.args.self.now) c.requires.fit

pub is_over-requires : goal.is_over-requires
is_over-requires c =
    let few = is_few c.args.grammar.now c.args.choices.now c.requires.choices c.args.a (state_of c.args.self.now) c.requires.fit in
    omega (arith, few, c.least-least.ensures)

pub returns-then-is_over : goal.returns-then-is_over
returns-then-is_over c =
    taken_over c.args.grammar.now c.args.choices.now c.requires.choices c.args.a (state_of c.args.self.now) c.requires.fit
    (ap (λ z. c.args.self.now.spare + z) (sym c.least-least.ensures) ∙ c.is_over.ensures.0 c.if-is_over.true)

pub choose-production-requires-clause-counts : goal.choose-production-requires-clause-counts
choose-production-requires-clause-counts c =
    is_counted c.args.grammar.now c.args.choices.now c.requires.choices c.args.a (state_of c.args.self.now) c.requires.fit

pub choose-production-requires-clause-rules : goal.choose-production-requires-clause-rules
choose-production-requires-clause-rules c =
    is_grouped c.args.grammar.now c.args.choices.now c.requires.choices c.args.a (state_of c.args.self.now) c.requires.fit

pub choose-production-requires-clause-some : goal.choose-production-requires-clause-some
choose-production-requires-clause-some c =
    let few = is_few c.args.grammar.now c.args.choices.now c.requires.choices c.args.a (state_of c.args.self.now) c.requires.fit in
    some_number c.args.grammar.now 100001 c.args.choices.now c.requires.choices c.args.a c.args.self.now.spare
    (is_below c.args.grammar.now c.args.choices.now c.requires.choices c.args.a (state_of c.args.self.now) c.requires.fit)
    (omega (arith, few))

pub choose-production-requires-clause-known : goal.choose-production-requires-clause-known
choose-production-requires-clause-known c =
    let few = is_few c.args.grammar.now c.args.choices.now c.requires.choices c.args.a (state_of c.args.self.now) c.requires.fit in
    numbers_known c.args.grammar.now 100001 c.args.choices.now c.requires.choices c.args.a c.args.self.now.spare
    (is_below c.args.grammar.now c.args.choices.now c.requires.choices c.args.a (state_of c.args.self.now) c.requires.fit)
    (omega (arith, few))

pub choose-production-requires-clause-few : goal.choose-production-requires-clause-few
choose-production-requires-clause-few c =
    is_few c.args.grammar.now c.args.choices.now c.requires.choices c.args.a (state_of c.args.self.now) c.requires.fit

pub total-requires : goal.total-requires
total-requires c =
    in_totals c.args.grammar.now c.args.choices.now c.requires.choices c.args.a (state_of c.args.self.now) c.requires.fit c.upper.result
    c.choose-production.result
    (rule_at c.args.grammar.now c.args.choices.now c.requires.choices c.args.a (state_of c.args.self.now) c.requires.fit c.upper.result
    c.choose-production.result c.choose-production.ensures)

pub spare_after-spare-requires : goal.spare_after-spare-requires
spare_after-spare-requires c =
    let rule = rule_at c.args.grammar.now c.args.choices.now c.requires.choices c.args.a (state_of c.args.self.now) c.requires.fit
    c.upper.result c.choose-production.result c.choose-production.ensures in
    let low = rule.low in
    let sum = rule.sum in
    omega (arith, low, sum, c.total.ensures, c.least-least.ensures)

pub right-requires : goal.right-requires
right-requires c =
    in_productions c.args.grammar.now c.args.choices.now c.requires.choices c.args.a (state_of c.args.self.now) c.requires.fit c.upper.result
    c.choose-production.result
    (rule_at c.args.grammar.now c.args.choices.now c.requires.choices c.args.a (state_of c.args.self.now) c.requires.fit c.upper.result
    c.choose-production.result c.choose-production.ensures)

pub returns : goal.returns
returns c =
    let rule = rule_at c.args.grammar.now c.args.choices.now c.requires.choices c.args.a (state_of c.args.self.now) c.requires.fit
    c.upper.result c.choose-production.result c.choose-production.ensures in
    let x : c.upper.result ≡ upper (draw c.args.self.now.number) = c.upper.ensures ∙ ap upper c.drawn-number.ensures in
    taken_by c.args.grammar.now c.args.choices.now c.requires.choices c.args.a (state_of c.args.self.now) c.requires.fit _ c.upper.result
    c.choose-production.result c.least-least.result c.total.result c.is_over.result c.right.result.now c.is_over.ensures c.if-is_over.false
    c.least-least.ensures c.total.ensures x rule
    (right_read c.args.grammar.now c.args.a c.choose-production.result rule.right c.right.result.now rule.rule c.right.ensures.right)
    c.in_ok-put_before.ensures c.spare_after-spare.ensures c.drawn-number.ensures refl
