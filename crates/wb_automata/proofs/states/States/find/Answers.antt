use Rattle.std.proofs.Common.{◌≡◌, Some, subst, sym}
use Rattle.std.specs.Prelude.{slice_get, IfSome, Contains}
use Rattle.wb_automata.specs.Inner.Found.{Found}
use Rattle.wb_automata.proofs.KeyLemmas.{key_some, key_none}
use Rattle.wb_automata.proofs.states.States.find.Goals as goal

pub returns-clause-some : goal.returns-clause-some
returns-clause-some c = subst (λ (f : Found). IfSome c.get_index_of.result
    (λ i. slice_get f.sets i ≡ Some c.args.places.now)) c.self.view_is
    (key_some c.self.inside.sets.keys c.args.places.now c.get_index_of.result c.get_index_of.ensures.index)

pub returns-clause-none : goal.returns-clause-none
returns-clause-none c none has = key_none c.self.inside.sets.keys c.args.places.now c.get_index_of.result c.get_index_of.ensures.found none
    (subst (λ (f : Found). Contains f.sets c.args.places.now) (sym c.self.view_is) has)
