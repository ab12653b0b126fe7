-- Links that lead to the same states.
use Rattle.std.proofs.Common.{◌≡◌, ◌<◌, ◌≤◌, ◌-◌, ℕ, List, [], ◌∷◌, ◌++◌, take, sym, ◌∙◌, ap, arith, subst}
use Rattle.std.specs.Prelude.{Some, slice_get}
use Rattle.wb_lemmas.proofs.Places.{at_once}
use Rattle.wb_values.specs.declared.value.Value.{Value}
use Rattle.wb_session.specs.declared.stacks.Entry.{Entry}
use Rattle.wb_session.specs.Stacks.{LeadsTo, bottom, above}
use Rattle.wb_session.specs.Inner.Standing.{HaveStates}
use Rattle.wb_session.proofs.StackLemmas.{leads_cut, top_part}

-- a link leads to the same states, whatever the values are
leads_states : {entries : List Entry} {ws ws' : List Value} {link other : ℕ} {states states' : List ℕ} {vs vs' : List Value} →
    LeadsTo entries ws link states vs → LeadsTo entries ws' other states' vs' → link ≡ other → states ≡ states'
leads_states (bottom s v) (bottom s' v') e = s ∙ sym s'
leads_states (bottom s v) (above k' x' v' lower' under' at' has' le' leads' s' w') e = absurd (omega (arith, e))
leads_states (above k x v lower under at has le leads s w) (bottom s' v') e = absurd (omega (arith, e))
leads_states {entries} (above k x v lower under at has le leads s w) (above k' x' v' lower' under' at' has' le' leads' s' w') e =
    let same : k' ≡ k = omega (arith, e) in
    let x_is : x ≡ x' = at_once entries k x x' at (subst (λ n. slice_get entries n ≡ Some x') same at') in
    let lower_is : lower ≡ lower' = leads_states leads leads' (ap (λ (z : Entry). z.below) x_is) in
    let top : x.state ≡ x'.state = ap (λ (z : Entry). z.state) x_is in
    s ∙ (λ i. lower_is i ++ top i ∷ []) ∙ sym s'

-- at a link that is among the first entries, which are the same
pub states_shared : (entries others : List Entry) (n link other : ℕ) → link ≡ other → link ≤ n → take n entries ≡ take n others →
    HaveStates entries link others other
states_shared entries others n link other e le same ws ws' states states' vs vs' a b =
    let le' : other ≤ n = omega (arith, e, le) in
    leads_states (subst (λ z. LeadsTo z (take n ws) link states vs) same (leads_cut n a le)) (leads_cut n b le') e

-- with one root more on each
pub states_more : (entries others : List Entry) (link other : ℕ) (x y : Entry) → 0 < link → 0 < other →
    slice_get entries (link - 1) ≡ Some x → slice_get others (other - 1) ≡ Some y → x.state ≡ y.state →
    HaveStates entries x.below others y.below → HaveStates entries link others other
states_more entries others link other x y some some' at at' same below ws ws' states states' vs vs' a b =
    let p = top_part a some in
    let q = top_part b some' in
    let p_is : p.x ≡ x = at_once entries (link - 1) p.x x p.at at in
    let q_is : q.x ≡ y = at_once others (other - 1) q.x y q.at at' in
    let lower_is : p.lower ≡ q.lower = below ws ws' p.lower q.lower p.under q.under (leads_from p_is p.leads) (leads_from q_is q.leads) in
    let top : p.x.state ≡ q.x.state = ap (λ (z : Entry). z.state) p_is ∙ same ∙ sym (ap (λ (z : Entry). z.state) q_is) in
    p.states_are ∙ (λ k. lower_is k ++ top k ∷ []) ∙ sym q.states_are
  where
    leads_from : {es : List Entry} {us : List Value} {z w : Entry} {lower : List ℕ} {under : List Value} → z ≡ w →
        LeadsTo es us z.below lower under → LeadsTo es us w.below lower under
    leads_from {es} {us} {lower = lower} {under} e leads = subst (λ (t : Entry). LeadsTo es us t.below lower under) e leads
