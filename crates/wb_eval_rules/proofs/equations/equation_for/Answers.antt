use Rattle.std.proofs.Common.{rules, ◌≡◌, ◌<◌, ◌-◌, length, Some, slice_get, sym, ap, subst, refl, arith}
use Rattle.wb_lemmas.proofs.Places.{at_within, read_at}
use Rattle.wb_flow_theory.specs.Rules.{target_vertex}
use Rattle.wb_eval_rules.specs.Codes.{HasCode}
use Rattle.wb_eval_rules.proofs.IndexLemmas.{indexed, indexed_within, not_indexed}
use Rattle.wb_eval_rules.proofs.equations.equation_for.Goals as goal

pub index-requires : goal.index-requires
index-requires c =
    let p = c.args.rules.now.production.now in
    let within = indexed_within p c.args.rules.now.equations.now c.args.target c.get-number.result c.requires.index c.get-number.ensures
    c.if-number-eq0.false in
    let count = c.requires.coded.1.equations.count in
    let codes = c.args.rules.now.codes.now.equations.ok.0 in
    omega (arith, within, count, codes)

pub returns-then-number-eq0-clause-none : goal.returns-then-number-eq0-clause-none
returns-then-number-eq0-clause-none c =
    not_indexed c.args.rules.now.production.now c.args.rules.now.equations.now c.args.target c.requires.index (search rules)

pub returns-else-number-eq0-clause-some : goal.returns-else-number-eq0-clause-some
returns-else-number-eq0-clause-some c = λ signatures coded.
    let p = c.args.rules.now.production.now in
    let n = c.get-number.result in
    let codes = c.args.rules.now.codes.now.equations.items in
    let within = indexed_within p c.args.rules.now.equations.now c.args.target n c.requires.index c.get-number.ensures
    c.if-number-eq0.false in
    let count = coded.equations.count in
    let (e, at) = at_within p.equations (n - 1) within in
    let rule = indexed p c.args.rules.now.equations.now c.args.target n e c.requires.index
    (sym c.get-number.ensures) c.if-number-eq0.false at in
    let there : slice_get codes (n - 1) ≡ Some c.index.result.now =
    read_at codes codes (n - 1) c.index.result.now refl (omega (arith, within, count)) c.index.ensures in
    let code_is = coded.equations.each (n - 1) e c.index.result.now at there in
    subst (HasCode signatures p (target_vertex c.args.target)) (sym c.as_slice.ensures.value)
    (record { nodes = e.nodes; rule = rule; code_is = code_is })
