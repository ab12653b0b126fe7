use Rattle.wb_grammar_theory.specs.Items.{initial_item}
use Rattle.wb_determinism_lookaheads.specs.Inner.Spreading.{IsPassedOn}
use Rattle.wb_determinism_lookaheads.proofs.ListLemmas.{EachBefore}
use Rattle.wb_determinism_lookaheads.proofs.test.is_together_passed.Given as goal

abbrev pub invariant-productions : goal.invariant-productions
invariant-productions l =
    EachBefore (λ q. IsPassedOn l.context l.sets l.place (initial_item q) l.set) l.numbers l.production-index
