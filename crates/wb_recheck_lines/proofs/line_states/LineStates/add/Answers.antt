use Rattle.std.proofs.Common.{rules, ◌≡◌, ◌<◌, ◌++◌, ◌∷◌, [], length, set, Some, Contains, ap, sym, subst}
use Rattle.wb_recheck_lines.specs.States.{ArePlaces}
use Rattle.wb_recheck_lines.proofs.PlaceLemmas.{places_more}
use Rattle.wb_recheck_lines.proofs.line_states.LineStates.add.Goals as goal

pub invariant_of-self-2 : goal.invariant_of-self-2
invariant_of-self-2 c =
    let pushed : c.push_reserved.new.self.items ≡ c.self.inside.states.items ++ c.args.state ∷ [] = search rules in
    let long : c.len-place.result ≡ length c.self.inside.states.items = search rules in
    let below : c.args.state < length c.self.inside.places.items = search rules in
    let new : ¬ Contains c.self.inside.states.items c.args.state = search rules in
    subst (λ z. ArePlaces z (set c.self.inside.places.items c.args.state (Some c.len-place.result))) (sym pushed)
    (places_more c.self.inside.states.items c.self.inside.places.items
    (set c.self.inside.places.items c.args.state (Some c.len-place.result)) c.args.state c.self.invariant below new
    (ap (λ n. set c.self.inside.places.items c.args.state (Some n)) long))
