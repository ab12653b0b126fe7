-- What a part's symbols derive in a larger part, they derive in the part up to marks.
use Rattle.std.proofs.Common.{◌++◌, ◌∙◌, ◌∷◌, ◌≡◌, List, [], ap, inl, inr, refl, subst, sym, ℕ}
use Rattle.wb_base.specs.declared.symbol.Symbol.{Symbol}
use Rattle.wb_base.specs.declared.symbol.Symbol.TheVariants.{Nonterminal, Terminal}
use Rattle.wb_grammar_theory.proofs.DerivesLemmas.{nil_parts}
use Rattle.wb_compose_theory.proofs.DerivesLemmas.{DerivesIn-same, begins_cut, derives_terminal}
use Rattle.wb_compose_theory.proofs.MarkLemmas.{Clean, bridge, own, ways}
use Rattle.wb_compose_theory.specs.Derives.{DerivesIn, done, expand, keep}
use Rattle.wb_compose_theory.specs.Marks.{IsBare, IsMarked}
use Rattle.wb_compose_theory.specs.Worlds.{IsProductionIn, Part, World, bare, on}

-- what begins with a terminal doesn't derive the empty text
nil_derives : {w : World} {part : Part} {a x : List Symbol} (t : ℕ) (rest : List Symbol) → DerivesIn w part a x → a ≡ Terminal t ∷ rest →
    x ≡ [] → ⊥
nil_derives t rest d e n = let (v, f) = derives_terminal t rest d e in cc

-- what derives the empty text in any part does so in the part of its symbols
pub nullable_project : {w : World} {all part : Part} {a x : List Symbol} → IsMarked w → DerivesIn w all a x → x ≡ [] → Clean w part a →
    DerivesIn w part a []
nullable_project ok done e clean = done
nullable_project ok (keep y r) e clean = cc
nullable_project {w} {all} {part} ok (expand p b u v {a} rule left r s is) e clean =
    let n = nil_parts u v (sym e ∙ is) in
    elim (ways ok all part p b rule left ((clean.0).0)) [
      | own mine clean' ↦ expand p b [] [] mine left (nullable_project ok r n.0 clean') (nullable_project ok s n.1 clean.1) refl
      | bridge m rest mark of_mark right ↦ absurd (nil_derives m rest r right n.0)
    ]

-- what can begin with u in any part can begin with it in the part of its symbols, or with the nonterminal that u marks
pub data Begins (w : World) (part : Part) (a : List Symbol) (u : ℕ) : Type 0 where
  by_itself : (v : List Symbol) → w.mark u ≡ bare → DerivesIn w part a (Terminal u ∷ v) → Begins w part a u
  by_mark : (h : ℕ) (v : List Symbol) → w.mark u ≡ on h → DerivesIn w part a (Nonterminal h ∷ v) → Begins w part a u

-- what can begin with u
pub begins_project : {w : World} {all part : Part} {a x : List Symbol} → IsMarked w → DerivesIn w all a x → (u : ℕ) (v : List Symbol) →
    x ≡ Terminal u ∷ v → Clean w part a → Begins w part a u
begins_project ok done u v e clean = cc
begins_project {w} {all} {part} ok (keep y {a} {b} r) u v e clean =
    let h : y ≡ Terminal u = cc in
    by_itself a (subst (IsBare w) h ((clean.0).1)) (subst (λ z. DerivesIn w part (y ∷ a) (z ∷ a)) h (DerivesIn-same w part (y ∷ a)))
begins_project {w} {all} {part} ok (expand p b u1 v1 {a} rule left r s is) u v e clean =
    elim (ways ok all part p b rule left ((clean.0).0)) [
      | own mine clean' ↦
          elim (begins_cut (Terminal u) v u1 v1 (sym e ∙ is)) [
            | inl n ↦ later mine (nullable_project ok r n.0 clean') (begins_project ok s u v n.1 clean.1)
            | inr n ↦ sooner mine (begins_project ok r u n.0 n.1 clean')
          ]
      | bridge m rest mark of_mark right ↦
          elim (begins_cut (Terminal u) v u1 v1 (sym e ∙ is)) [
            | inl n ↦ absurd (nil_derives m rest r right n.0)
            | inr n ↦
                let same : u ≡ m = same_first m (derives_terminal m rest r right) n.0 n.1 in
                by_mark b a (ap w.mark same ∙ mark) (DerivesIn-same w part (Nonterminal b ∷ a))
          ]
    ]
  where
    same_first : (m : ℕ) → (v : List Symbol) × (u1 ≡ Terminal m ∷ v) → (v' : List Symbol) → u1 ≡ Terminal u ∷ v' → u ≡ m
    same_first m (v2, f) v' g = cc

    later : IsProductionIn w part p → DerivesIn w part (w.right p) [] → Begins w part a u → Begins w part (Nonterminal b ∷ a) u
    later mine n (by_itself v' mark d) = by_itself v' mark (expand p b [] (Terminal u ∷ v') mine left n d refl)
    later mine n (by_mark h v' mark d) = by_mark h v' mark (expand p b [] (Nonterminal h ∷ v') mine left n d refl)

    sooner : IsProductionIn w part p → Begins w part (w.right p) u → Begins w part (Nonterminal b ∷ a) u
    sooner mine (by_itself v' mark d) = by_itself (v' ++ a) mark (expand p b (Terminal u ∷ v') a mine left d (DerivesIn-same w part a) refl)
    sooner mine (by_mark h v' mark d) =
        by_mark h (v' ++ a) mark (expand p b (Nonterminal h ∷ v') a mine left d (DerivesIn-same w part a) refl)
