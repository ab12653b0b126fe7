use Rattle.std.proofs.Common.{◌<◌, [], ap, length, subst, arith}
use Rattle.std.proofs.lemmas.List.{get_or_read}
use Rattle.std.proofs.lemmas.Option.{slice_get_within}
use Rattle.wb_automata.specs.Automata.{AutomatonView, LeadsTo}
use Rattle.wb_automata.proofs.automaton.Automaton.start.Goals as goal

started : (c : goal.After-row_known-1) → LeadsTo c.args.self.now c.args.set [] c.index.result.now
started c =
    let sets = ap (λ (v : AutomatonView). length v.sets) c.self.view_is in
    let within : c.args.set < length c.self.inside.starts.items = omega (arith, c.requires, c.self.invariant.starts_len, sets) in
    subst (λ (v : AutomatonView). LeadsTo v c.args.set [] c.index.result.now) c.self.view_is
    (rw (get_or_read c.self.inside.starts.items c.args.set c.index.result.now within c.index.ensures 0)
    (c.self.invariant.begins c.args.set within))

pub returns-clause-state : goal.returns-clause-state
returns-clause-state c = let s = started c in slice_get_within c.args.self.now.paths c.index.result.now s.path s.at

pub returns-clause-leads : goal.returns-clause-leads
returns-clause-leads c = started c
