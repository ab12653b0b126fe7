-- A prefix of a viable prefix is viable, and the kernel's own laws.
use Rattle.std.proofs.Common.{◌≡◌, ℕ, List, [], ◌∷◌, ◌++◌, refl, sym, ◌∙◌, ap, subst, inl, inr, ◌⊎◌}
use Rattle.wb_base.specs.declared.symbol.Symbol.{Symbol}
use Rattle.wb_base.specs.Grammar.{GrammarView}
use Rattle.wb_grammar_theory.specs.declared.item.Item.{Item}
use Rattle.wb_grammar_theory.specs.Productions.{end_of}
use Rattle.wb_grammar_theory.specs.Items.{IsValidItem, start, close, move, IsViablePrefix, start_item}
use Rattle.wb_grammar_theory.proofs.DerivesLemmas.{nil_parts}

-- a prefix of a list with one more symbol is the whole, or a prefix of the list
pub front_cases : (u w shorter : List Symbol) (x : Symbol) → u ++ w ≡ shorter ++ x ∷ [] → (u ≡ shorter ++ x ∷ []) ⊎
    ((rest : List Symbol) × (shorter ≡ u ++ rest))
front_cases [] w shorter x e = inr (shorter, refl)
front_cases (y ∷ u) w [] x e =
    let parts = nil_parts u w (let h : [] ≡ u ++ w = cc in h) in
    let same : y ≡ x = cc in
    inl (ap (λ z. y ∷ z) parts.0 ∙ ap (λ z. z ∷ []) same)
front_cases (y ∷ u) w (z ∷ shorter) x e =
    let same : y ≡ z = cc in
    elim (front_cases u w shorter x (cc)) [
      | inl whole ↦ inl (ap (λ s. y ∷ s) whole ∙ ap (λ s. s ∷ (shorter ++ x ∷ [])) same)
      | inr front ↦ inr (front.0, ap (λ s. z ∷ s) front.1 ∙ ap (λ s. s ∷ (u ++ front.0)) (sym same))
    ]

-- by how an item became valid
front_valid : {g : GrammarView} {longer : List Symbol} {item : Item} {t : ℕ} → IsValidItem g longer item t → (u w : List Symbol) →
    longer ≡ u ++ w → IsViablePrefix g u
front_valid {g} start u w e = (
  start_item g,
  end_of g,
  subst (λ z. IsValidItem g z (start_item g) (end_of g))
      (sym (nil_parts u w e).0) start,
)
front_valid (close item t b rest q u' right v is rule first) u w e = front_valid v u w e
front_valid {g} (move item x rest shorter {t} {longer} {moved} v is longer_is moved_is) u w e = elim
    (front_cases u w shorter x (sym e ∙ longer_is)) [
      | inl whole ↦ (
        moved,
        t,
        subst (λ z. IsValidItem g z moved t) (longer_is ∙ sym whole)
            (move item x rest shorter v is longer_is moved_is),
      )
      | inr front ↦ front_valid v u front.0 front.1
    ]

pub front_viable : (g : GrammarView) (u w : List Symbol) → IsViablePrefix g (u ++ w) → IsViablePrefix g u
front_viable g u w (item, t, v) = front_valid v u w refl
