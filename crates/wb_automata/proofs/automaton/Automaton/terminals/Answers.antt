use Rattle.std.proofs.Common.{◌<◌, [], ℕ, List, length, subst}
use Rattle.wb_automata.specs.Automata.{AutomatonView, IsMatch}
use Rattle.wb_automata.proofs.automaton.Automaton.terminals.Goals as goal

pub returns-clause-not_empty : goal.returns-clause-not_empty
returns-clause-not_empty c =
    subst (λ (v : AutomatonView). (terminal : ℕ) → ¬ IsMatch v.terminals terminal []) c.self.view_is c.self.invariant.not_empty

pub returns-clause-filled : goal.returns-clause-filled
returns-clause-filled c = subst (λ (v : AutomatonView). (terminal : ℕ) → terminal < length v.terminals → (text : List ℕ)
    × IsMatch v.terminals terminal text) c.self.view_is c.self.invariant.filled
