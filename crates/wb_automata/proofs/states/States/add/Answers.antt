use Rattle.std.proofs.Common.{◌≡◌, false, ◌++◌, ◌∷◌, [], length, refl, sym, ◌∙◌, ap, subst, inr}
use Rattle.std.specs.Prelude.{Contains}
use Rattle.std.proofs.lemmas.List.{length-map}
use Rattle.std.specs.List.{list_any}
use Rattle.wb_base.specs.Different.{Differ}
use Rattle.wb_automata.specs.Inner.Found.{Found}
use Rattle.wb_automata.specs.Paths.{path_by, paths_of}
use Rattle.wb_automata.proofs.KeyLemmas.{has_places, key_absent, key_added, different_more, places_of}
use Rattle.wb_automata.proofs.PlaceLemmas.{paths_more, pushed_at}
use Rattle.wb_automata.proofs.states.States.add.Goals as goal

pub invariant_of-self-2 : goal.invariant_of-self-2
invariant_of-self-2 c =
    let keys = c.self.inside.sets.keys in
    let places = c.args.places.now in
    let unlisted : ¬ Contains (places_of keys) places = λ has. c.requires
    (subst (λ (f : Found). Contains f.sets places) c.self.view_is has) in
    subst Differ (sym (key_added keys c.insert_full.new.self.keys c.in_ok-set.set places c.in_ok-set.ensures.items
    (key_absent keys places unlisted) c.in_ok-insert_full.ensures.keys))
    (different_more (places_of keys) places c.self.invariant unlisted)

pub returns : goal.returns
returns c =
    let keys = c.self.inside.sets.keys in
    let places = c.args.places.now in
    let absent : list_any (has_places places) keys ≡ false = key_absent keys places
    (λ has. c.requires (subst (λ (f : Found). Contains f.sets places) c.self.view_is has)) in
    let added : places_of c.insert_full.new.self.keys ≡ places_of keys ++ c.args.places.now ∷ [] = key_added keys
    c.insert_full.new.self.keys c.in_ok-set.set c.args.places.now c.in_ok-set.ensures.items absent c.in_ok-insert_full.ensures.keys in
    let paths : paths_of c.push.new.list.items ≡ paths_of c.self.inside.predecessors.items ++ path_by (paths_of c.self.inside.predecessors.items) c.args.predecessor ∷ [] = ap paths_of c.in_ok-push.ensures.ok ∙ paths_more c.self.inside.predecessors.items c.args.predecessor in
    let count : c.len-state.result ≡ length (places_of keys) = c.len-state.ensures.len ∙ sym (length-map keys (λ key. key.items)) in
    rw (← c.self.view_is, added, paths) (record {
      here = pushed_at
          (places_of keys) c.args.places.now c.len-state.result count;
      change = inr (count, refl);
    })
