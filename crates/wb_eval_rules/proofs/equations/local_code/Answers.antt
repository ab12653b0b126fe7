use Rattle.std.proofs.Common.{rules, ◌≡◌, ◌≤◌, ◌<◌, length, refl, slice_get, Some, sym, subst, arith}
use Rattle.wb_lemmas.proofs.Places.{at_within, read_at}
use Rattle.wb_flow_theory.specs.Rules as r
use Rattle.wb_flow_theory.specs.Vertices.{local, tree_of}
use Rattle.wb_eval_rules.specs.Codes.{HasCode}
use Rattle.wb_eval_rules.proofs.TargetLemmas.{no_local}
use Rattle.wb_eval_rules.proofs.equations.local_code.Goals as goal

pub returns-then-x-len-clause-some : goal.returns-then-x-len-clause-some
returns-then-x-len-clause-some c = λ signatures coded.
    let p = c.args.rules.now.production.now in
    let codes = c.args.rules.now.codes.now.locals.items in
    let inside : c.args.x < length codes = search rules in
    let count = coded.locals.count in
    let (l, at) = at_within p.locals c.args.x (omega (arith, inside, count)) in
    let there : slice_get codes c.args.x ≡ Some c.index.result.now =
    read_at codes codes c.args.x c.index.result.now refl inside c.index.ensures in
    subst (HasCode signatures p (tree_of (local c.args.x))) (sym c.as_slice.ensures.value)
    (record { nodes = l.nodes; rule = r.by_local c.args.x l at refl refl; code_is = coded.locals.each c.args.x l c.index.result.now at there })

pub returns-else-x-len-clause-none : goal.returns-else-x-len-clause-none
returns-else-x-len-clause-none c =
    let p = c.args.rules.now.production.now in
    let codes = c.args.rules.now.codes.now.locals.items in
    let past : length codes ≤ c.args.x = search rules in
    let count = c.requires.1.locals.count in
    no_local p c.args.x (omega (arith, past, count))
