use Rattle.std.proofs.Common.{rules, ◌≡◌, ◌++◌, ◌∷◌, [], None, replicate, set, Some, ap, sym, ◌∙◌, subst}
use Rattle.wb_recheck_lines.specs.States.{ArePlaces}
use Rattle.wb_recheck_lines.proofs.PlaceLemmas.{places_start}
use Rattle.wb_recheck_lines.proofs.line_states.LineStates.new.Goals as goal

pub invariant_of-result : goal.invariant_of-result
invariant_of-result c =
    let filled : c.in_ok-places.places.items ≡ replicate c.args.count None = search rules in
    let pushed : c.push.new.list.items ≡ 0 ∷ [] = c.in_ok-push.ensures.ok ∙ ap (λ z. z ++ 0 ∷ []) c.new-states.ensures.items in
    subst (λ z. ArePlaces z (set c.in_ok-places.places.items 0 (Some 0))) (sym pushed)
    (places_start (set c.in_ok-places.places.items 0 (Some 0)) c.args.count c.requires
    (ap (λ z. set z 0 (Some 0)) filled))
