use Rattle.std.proofs.Common.{◌≡◌, ◌∙◌, ap, arith, get_or, inl, inr}
use Rattle.std.proofs.lemmas.Bool.{cases_lt}
use Rattle.wb_automata.proofs.explore.run_end.Goals as goal

pub numbers-init : goal.numbers-init
numbers-init c = record {
  after = omega arith;
  within = omega (arith, c.requires);
  alike = λ k from lt. let e : k ≡ c.args.place = omega arith in ap (λ z. get_or c.args.numbers.now z 0) e;
}

pub numbers-preserved : goal.numbers-preserved
numbers-preserved c =
    let after = c.numbers.invariant.after in
    let is = c.has_at.ensures.is c.numbers-test.true in
    record {
      after = omega arith;
      within = omega (arith, c.has_at.ensures.within c.numbers-test.true);
      alike = λ k from lt. elim (cases_lt k c.numbers.end) [
        | inl less ↦ c.numbers.invariant.alike k from less
        | inr past ↦
            (let e : k ≡ c.numbers.end = omega arith in ap (λ z. get_or c.args.numbers.now z 0) e ∙ is)
      ];
    }

pub numbers-smaller : goal.numbers-smaller
numbers-smaller c = omega (arith, c.has_at.ensures.within c.numbers-test.true)
