-- A true refusal other than out of memory rules facts out.
use Rattle.wb_base.specs.Grammar.{GrammarView}
use Rattle.wb_grammar_theory.proofs.CycleLemmas.{unit_cycle_member, hidden_cycle_above, first_element}
use Rattle.wb_grammar.specs.declared.refusal.Reason.TheVariants.{Unreachable, Unproductive}
use Rattle.wb_grammar.specs.declared.refusal.GrammarRefusal.{GrammarRefusal}
use Rattle.wb_grammar.specs.declared.refusal.GrammarRefusal.TheVariants.{NotReduced, UnitCycle, HiddenLeftRecursion, NoMemory}
use Rattle.wb_grammar.specs.Facts.{FactsView, AreFacts}
use Rattle.wb_grammar.specs.Refusals.{IsTrueRefusal, IsNoMemory}

pub excluded : (g : GrammarView) (refusal : GrammarRefusal) (facts : FactsView) → IsTrueRefusal g refusal → AreFacts g facts →
    IsNoMemory refusal
excluded g (NotReduced (Unreachable a)) facts h are = absurd (h.1 (are.reduced.reachable a h.0))
excluded g (NotReduced (Unproductive a)) facts h are = absurd (h.1 (are.reduced.productive a h.0))
excluded g (UnitCycle list) facts h are = (let (a, at) =
    first_element list h.1.nonempty in absurd (are.no_unit_cycle a (unit_cycle_member g list h.1 0 a at)))
excluded g (HiddenLeftRecursion list) facts h are = absurd (are.no_hidden_left_recursion h.2.above (hidden_cycle_above g list h.2))
excluded g (NoMemory e) facts h are = tt
