-- What symbols begin with, and rests of right sides one after another.
use Rattle.std.proofs.Common.{◌≡◌, ℕ, ◌+◌, ◌∙◌, ◌++◌, ◌∷◌, [], Bool, List, Some, drop, length, sym, subst, inl, inr}
use Rattle.std.specs.Prelude.{slice_get}
use Rattle.wb_lemmas.proofs.Places.{at_push}
use Rattle.wb_base.specs.declared.symbol.Symbol.{Symbol}
use Rattle.wb_base.specs.Grammar.{GrammarView}
use Rattle.wb_grammar_theory.specs.Productions.{IsProduction}
use Rattle.wb_lookahead.specs.Inner.Rests as known
use Rattle.wb_determinism_lookaheads.specs.declared.rests.Rest.{Rest}
use Rattle.wb_determinism_lookaheads.specs.Inner.Rests.{AreRestsOf, IsRest}

-- what symbols begin with
pub rest_from : (g : GrammarView) (w : List Symbol) (set : List Bool) (empty : Bool) →
    known.IsRest g w (record { set = set; empty = empty }) → IsRest g w (record { set = set; empty = empty })
rest_from g w set empty r = record { len = r.len; first = r.first; empty = r.empty }

-- one rest more
pub rests_more : (g : GrammarView) (right : List Symbol) (row new : List Rest) (n : ℕ) (rest : Rest) → length row ≡ n →
    new ≡ row ++ rest ∷ [] → IsRest g (drop (n + 1) right) rest →
    ((d : ℕ) (r : Rest) → slice_get row d ≡ Some r → IsRest g (drop (d + 1) right) r) →
    (d : ℕ) (r : Rest) → slice_get new d ≡ Some r → IsRest g (drop (d + 1) right) r
rests_more g right row new n rest len is last each d r at = elim (at_push row rest r d (subst (λ z. slice_get z d ≡ Some r) is at)) [
  | inl old ↦ each d r old
  | inr (d_is, r_is) ↦ subst (IsRest g (drop (d + 1) right)) r_is (subst (λ k. IsRest g (drop (k + 1) right) rest) (sym (d_is ∙ len)) last)
]

-- the rests of one production more
pub rows_more : (g : GrammarView) (rows new : List (List Rest)) (n : ℕ) (row : List Rest) → length rows ≡ n → new ≡ rows ++ row ∷ [] →
    ((a : ℕ) (right : List Symbol) → IsProduction g n a right → AreRestsOf g right row) →
    ((p a : ℕ) (right : List Symbol) (r : List Rest) → slice_get rows p ≡ Some r → IsProduction g p a right → AreRestsOf g right r) →
    (p a : ℕ) (right : List Symbol) (r : List Rest) → slice_get new p ≡ Some r → IsProduction g p a right → AreRestsOf g right r
rows_more g rows new n row len is last each p a right r at rule = elim (at_push rows row r p (subst (λ z. slice_get z p ≡ Some r) is at)) [
  | inl old ↦ each p a right r old rule
  | inr (p_is, r_is) ↦ subst (AreRestsOf g right) r_is (last a right (subst (λ k. IsProduction g k a right) (p_is ∙ len) rule))
]
