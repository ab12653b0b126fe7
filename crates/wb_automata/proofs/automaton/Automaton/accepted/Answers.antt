use Rattle.std.proofs.Common.{subst, ℕ, List}
use Rattle.std.specs.Prelude.{Contains, ◌↔◌}
use Rattle.wb_automata_positions.specs.Rows.{row}
use Rattle.wb_automata.specs.Automata.{AutomatonView, LeadsTo, MatchesIn}
use Rattle.wb_automata.proofs.WalkLemmas.{accepted_means}
use Rattle.wb_automata.proofs.automaton.Automaton.accepted.Goals as goal

pub returns-clause-exact : goal.returns-clause-exact
returns-clause-exact c = rw (c.row.ensures) (subst (λ (v : AutomatonView). (terminal s : ℕ) (text : List ℕ) → LeadsTo v s text c.args.state
    → Contains (row c.self.inside.accepted c.args.state) terminal ↔ MatchesIn v s terminal text) c.self.view_is
    (λ terminal s text l. accepted_means _ _ _ _ _ _ c.self.invariant c.args.state terminal s text l))

pub returns-clause-rising : goal.returns-clause-rising
returns-clause-rising c = rw (c.row.ensures) (c.self.invariant.rising c.args.state)
