use Rattle.std.proofs.Common.{◌≤◌, ◌∙◌, sym, ap, subst, length}
use Rattle.wb_automata.specs.Automata.{AutomatonView, most_states}
use Rattle.wb_automata.proofs.TextLemmas.{paths_len}
use Rattle.wb_automata.proofs.automaton.Automaton.states.Goals as goal

pub returns-clause-count : goal.returns-clause-count
returns-clause-count c = c.len.ensures ∙ c.self.inside.predecessors.ok.0 ∙ sym (paths_len c.self.inside.predecessors.items) ∙ ap
    (λ (v : AutomatonView). length v.paths) c.self.view_is

pub returns-clause-few : goal.returns-clause-few
returns-clause-few c = subst (λ (v : AutomatonView). c.len.result ≤ most_states v.terminals) c.self.view_is
    (subst (λ z. z ≤ most_states c.self.inside.terminals.items)
    (paths_len c.self.inside.predecessors.items ∙ sym c.self.inside.predecessors.ok.0 ∙ sym c.len.ensures) c.self.invariant.few)
