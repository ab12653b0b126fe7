-- A nonterminal derives itself exactly where a walk of edges leads back to it.
use Rattle.std.proofs.Common.{◌≡◌, ℕ, List, [], ◌∷◌, ◌++◌, refl, sym, ◌∙◌, ap, subst, append_assoc}
use Rattle.std.specs.Prelude.{◌↔◌}
use Rattle.wb_base.specs.declared.symbol.Symbol.{Symbol}
use Rattle.wb_base.specs.declared.symbol.Symbol.TheVariants.{Nonterminal}
use Rattle.wb_base.specs.Grammar.{GrammarView}
use Rattle.wb_grammar_theory.specs.Productions.{IsProduction}
use Rattle.wb_grammar_theory.specs.Derives.{Derives, done, keep, expand, Steps, DerivesInSteps}
use Rattle.wb_grammar_theory.proofs.DerivesLemmas.{Derives-append, Derives-then, Derives-same, append_nil, Derives-from_steps}
use Rattle.wb_grammar_theory.proofs.DerivesLemmas.{Steps-from_derives}
use Rattle.wb_grammar_theory.specs.Cycles.{DerivesItself, IsUnitProduction, DerivesAlone}
use Rattle.wb_grammar_theory.specs.Walks.{Walk, one, more}

-- of a production of a with b in it, b alone is left where all beside it derives the empty text
pub production_alone : {g : GrammarView} {a b : ℕ} → IsUnitProduction g a b → DerivesAlone g a b
production_alone {g} {b = b} e = (
  e.p,
  e.before ++ Nonterminal b ∷ e.after,
  e.rule,
  Derives-append e.before_empty
      (Derives-append (Derives-same g (Nonterminal b ∷ [])) e.after_empty),
)

-- what derives the next alone, and this another, derives that alone
pub alone_then : {g : GrammarView} {a b c : ℕ} → DerivesAlone g a b → DerivesAlone g b c → DerivesAlone g a c
alone_then {g} {a} {b} {c} (p, right, rule, r) (q, right', rule', r') =
    (p, right, rule, Derives-then r (expand q b right' (Nonterminal c ∷ []) [] rule' r' done refl))

walk_alone : {g : GrammarView} {a b : ℕ} → Walk (IsUnitProduction g) a b → DerivesAlone g a b
walk_alone (one e) = production_alone e
walk_alone (more e w) = alone_then (production_alone e) (walk_alone w)

-- the case of a production in a derivation of one nonterminal: the nonterminal is in the later part, or in this one
split_one : (u v : List Symbol) (b : ℕ) (P : Type 0) → Nonterminal b ∷ [] ≡ u ++ v → (u ≡ [] → v ≡ Nonterminal b ∷ [] → P) →
    (u ≡ Nonterminal b ∷ [] → v ≡ [] → P) → P
split_one [] v b P e later here = later refl (sym e)
split_one (x ∷ []) v b P e later here = here (cc) (cc)
split_one (x ∷ y ∷ u) v b P e later here = cc

-- symbols within a right side that derive the nonterminal alone, where all before them derive the empty text
alone_walk : {g : GrammarView} (a b p : ℕ) (before : List Symbol) {w x : List Symbol} → Derives g w x → x ≡ Nonterminal b ∷ [] →
    IsProduction g p a (before ++ w) → Derives g before [] → Walk (IsUnitProduction g) a b
alone_walk a b p before done e rule empty = cc
alone_walk {g} a b p before (keep y {w} {v} r) e rule empty =
    let f : y ≡ Nonterminal b = cc in
    let n : v ≡ [] = cc in
    one (record {
      p = p;
      before = before;
      after = w;
      rule = subst (λ z. IsProduction g p a (before ++ z ∷ w)) f rule;
      before_empty = empty;
      after_empty = subst (Derives g w) n r;
    })
alone_walk {g} a b p before (expand q c right u v {w} {x} rule' r s is) e rule empty =
    split_one u v b (Walk (IsUnitProduction g) a b) (sym e ∙ is)
    (λ nu nv. alone_walk a b p (before ++ Nonterminal c ∷ []) s nv
    (subst (IsProduction g p a) (sym (append_assoc before (Nonterminal c ∷ []) w)) rule)
    (Derives-append empty (expand q c right u [] rule' r done (sym nu ∙ sym (append_nil u)))))
    (λ nu nv. more (record { p = p; before = before; after = w; rule = rule; before_empty = empty; after_empty = subst (Derives g w) nv s })
    (alone_walk c b q [] r nu rule' done))

-- deriving alone is a walk
pub alone_is : (g : GrammarView) (a b : ℕ) → DerivesAlone g a b ↔ Walk (IsUnitProduction g) a b
alone_is g a b = (λ (p, right, rule, r). alone_walk a b p [] r refl rule done, walk_alone)

pub unit_cycle_is : (g : GrammarView) (a : ℕ) → DerivesItself g a ↔ Walk (IsUnitProduction g) a a
unit_cycle_is g a = alone_is g a a

-- one symbol as a list with one in the middle
middle_of_one : (before after : List Symbol) (x y : Symbol) → x ∷ [] ≡ before ++ y ∷ after → (before ≡ []) × (after ≡ []) × (x ≡ y)
middle_of_one [] [] x y e = (refl, refl, cc)
middle_of_one [] (z ∷ after) x y e = cc
middle_of_one (z ∷ []) after x y e = cc
middle_of_one (z ∷ w ∷ before) after x y e = cc

-- the production of the first step, and the rest
pub unit_steps : (g : GrammarView) (a : ℕ) → DerivesItself g a ↔ DerivesInSteps g (Nonterminal a ∷ []) (Nonterminal a ∷ [])
unit_steps g a = (
  λ (p, right, rule, r). (
    [],
    [],
    right,
    p,
    a,
    rule,
    refl,
    subst (λ z. Steps g z (Nonterminal a ∷ [])) (sym (append_nil right))
        (Steps-from_derives r),
  ),
  λ (before, after, right, p, b, rule, is, steps). back before after right p b rule is steps,
)
  where
    back : (before after right : List Symbol) (p b : ℕ) → IsProduction g p b right → Nonterminal a ∷ [] ≡ before ++ Nonterminal b ∷ after →
        Steps g (before ++ right ++ after) (Nonterminal a ∷ []) → DerivesItself g a
    back before after right p b rule is steps =
        let parts = middle_of_one before after (Nonterminal a) (Nonterminal b) is in
        let same : a ≡ b = (let e : Nonterminal a ≡ Nonterminal b = parts.2 in cc) in
        let flat : before ++ right ++ after ≡ right = ap (λ z. z ++ right ++ after) parts.0
        ∙ (ap (λ z. right ++ z) parts.1 ∙ append_nil right) in (
          p,
          right,
          subst (λ z. IsProduction g p z right) (sym same) rule,
          Derives-from_steps
              (subst (λ z. Steps g z (Nonterminal a ∷ [])) flat steps),
        )
