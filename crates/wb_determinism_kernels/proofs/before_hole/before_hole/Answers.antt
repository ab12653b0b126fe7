use Rattle.std.proofs.Common.{subst, inl, inr, arith}
use Rattle.std.proofs.lemmas.Bool.{cases_eq}
use Rattle.wb_grammar_theory.specs.Items.{HasItem}
use Rattle.wb_items.specs.Kernels.{prefix_of}
use Rattle.wb_determinism_kernels.proofs.before_hole.before_hole.Goals as goal

pub kernels-preserved : goal.kernels-preserved
kernels-preserved c = λ s lt item has begins. elim (cases_eq s c.kernels.state) [
  | inl same ↦ c.in_default.ensures item
      (subst (λ z. HasItem c.args.host.now.grammar (prefix_of c.args.host.now z) item) same has) begins
  | inr other ↦ c.kernels.invariant s (omega (arith, lt, other)) item has begins
]

pub returns : goal.returns
returns c = λ s lt item has begins.
    c.kernels.invariant s (omega (arith, lt, c.kernels-test.false, c.kernels.auto.state-end, c.count-state-end.ensures.count)) item has
    begins
