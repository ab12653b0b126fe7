use Rattle.std.proofs.Common.{◌≡◌, true, List, ℕ, Contains, subst}
use Rattle.std.specs.Prelude.{◌↔◌}
use Rattle.wb_automata.proofs.MetLemmas.{has_is}
use Rattle.wb_automata.proofs.met.Met.has.Goals as goal

pub returns : goal.returns
returns c = subst (λ (keys : List ℕ). (c.contains.result ≡ true) ↔ Contains keys c.args.number) c.self.view_is
    (has_is c.self.inside.numbers.keys c.args.number c.contains.result c.contains.ensures)
