use Rattle.std.proofs.Common.{refl, sym, subst}
use Rattle.wb_flow_theory.specs.Rules as r
use Rattle.wb_flow_theory.specs.Vertices.{forward, tree_of}
use Rattle.wb_eval_rules.specs.Codes.{HasCode, IsForwardCode}
use Rattle.wb_eval_rules.proofs.TargetLemmas.{no_forward}
use Rattle.wb_eval_rules.proofs.equations.forward_code.Goals as goal

pub returns-in-Some-clause-some : goal.returns-in-Some-clause-some
returns-in-Some-clause-some c = λ signatures coded.
    let p = c.args.rules.now.production.now in
    let f = c.in-Some.field-0 in
    subst (HasCode signatures p (tree_of forward)) (sym c.as_slice.ensures.value)
    (record {
      nodes = f.nodes;
      rule = r.by_forward f c.in-Some.is refl refl;
      code_is = subst (λ o. IsForwardCode signatures o c.args.rules.now.codes.now.forward.ops.items) c.in-Some.is coded.forward;
    })

pub returns-in-None-clause-none : goal.returns-in-None-clause-none
returns-in-None-clause-none c = no_forward c.args.rules.now.production.now c.in-None.is
