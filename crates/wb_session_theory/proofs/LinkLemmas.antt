-- Laws of stacks that share what is below.
use Rattle.std.proofs.Common.{◌≡◌, ◌≤◌, ◌<◌, ℕ, suc, List, [], ◌∷◌, ◌++◌, length, refl, sym, ◌∙◌, ap, subst, arith}
use Rattle.std.specs.Prelude.{slice_get, Some}
use Rattle.wb_lemmas.proofs.Places.{append_keeps, push_last, at_once}
use Rattle.wb_session_theory.specs.Links.{Entry, IsChain, bottom, above, states_in, HasSameLinks}

-- more entries keep each stack
pub chain_kept : {entries : List Entry} (more : List Entry) {top : ℕ} {stack : List (ℕ × ℕ)} → IsChain entries top stack →
    IsChain (entries ++ more) top stack
chain_kept more (bottom is) = bottom is
chain_kept {entries} more (above k x rest at le below is) = above k x rest (append_keeps entries more k x at) le (chain_kept more below) is

chain_within : {entries : List Entry} {top : ℕ} {stack : List (ℕ × ℕ)} → IsChain entries top stack → top ≤ length entries
chain_within (bottom is) = omega arith
chain_within {entries} (above k x rest at le below is) =
    let lt : k < length entries = Rattle.std.proofs.lemmas.Option.slice_get_within entries k x at in omega arith

-- a push is one entry
pub chain_push : {entries : List Entry} {top : ℕ} {stack : List (ℕ × ℕ)} → IsChain entries top stack → (state value : ℕ) →
    IsChain (entries ++ (record { state = state; value = value; below = top }) ∷ []) (suc (length entries)) ((state, value) ∷ stack)
chain_push {entries} {top} {stack} chain state value =
    above (length entries) x stack (push_last entries x) (chain_within chain) (chain_kept (x ∷ []) chain) refl
  where
    x : Entry
    x = record { state = state; value = value; below = top }

-- a link leads to one stack
pub chain_once : {entries : List Entry} {top : ℕ} {stack other : List (ℕ × ℕ)} → IsChain entries top stack → IsChain entries top other →
    stack ≡ other
chain_once (bottom is) (bottom is') = is ∙ sym is'
chain_once {entries} {stack = stack} {other} (above k x rest at le below is) (above k2 y rest' at' le' below' is') =
    let same : x ≡ y = at_once entries k x y at at' in
    let tails : rest ≡ rest' = chain_once below (subst (λ (z : Entry). IsChain entries z.below rest') (sym same) below') in
    is ∙ ((λ i. ((same i).state, (same i).value) ∷ tails i) ∙ sym is')

-- a pop follows one link
pub chain_pop : {entries : List Entry} {top : ℕ} {stack : List (ℕ × ℕ)} → IsChain entries top stack → (state value : ℕ)
    (rest : List (ℕ × ℕ)) → stack ≡ (state, value) ∷ rest → (k : ℕ) × (x : Entry) × (top ≡ suc k) × (slice_get entries k ≡ Some x) ×
    IsChain entries x.below rest
chain_pop (bottom is) state value rest e = let h : [] ≡ (state, value) ∷ rest = sym is ∙ e in cc
chain_pop {entries} (above k x rest' at le below is) state value rest e =
    let h : (x.state, x.value) ∷ rest' ≡ (state, value) ∷ rest = sym is ∙ e in
    let same : rest' ≡ rest = cc in
    (k, x, refl, at, subst (IsChain entries x.below) same below)

-- values written over others leave the states of every stack
pub chain_written : {entries entries' : List Entry} → HasSameLinks entries entries' → {top : ℕ} {stack : List (ℕ × ℕ)} →
    IsChain entries top stack → (other : List (ℕ × ℕ)) × IsChain entries' top other × (states_in other ≡ states_in stack)
chain_written same (bottom is) = ([], bottom refl, sym (ap states_in is))
chain_written {entries} {entries'} same (above k x rest at le below is) =
    let (y, at', state_is, below_is) = same.each k x at in
    let (rest', chain, states_are) = chain_written same below in
    let chain' : IsChain entries' y.below rest' = subst (λ z. IsChain entries' z rest') (sym below_is) chain in (
      (y.state, y.value) ∷ rest',
      above k y rest' at' (omega arith) chain' refl,
      (λ i. state_is i ∷ states_are i) ∙ sym (ap states_in is),
    )
