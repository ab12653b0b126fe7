use Rattle.std.proofs.Common.{List, ℕ, subst}
use Rattle.wb_automata.specs.Inner.Pairs.{IsInserted}
use Rattle.wb_automata.proofs.MetLemmas.{inserted}
use Rattle.wb_automata.proofs.met.Met.insert.Goals as goal

pub returns : goal.returns
returns c = subst (λ (keys : List ℕ). IsInserted keys c.args.number c.insert_full.new.self.keys c.in_ok-new.new) c.self.view_is
    (inserted c.self.inside.numbers.keys c.insert_full.new.self.keys c.args.number c.in_ok-new.new c.in_ok-new.ensures.added
    c.in_ok-new.ensures.keys)
