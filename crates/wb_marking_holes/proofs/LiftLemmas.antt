-- What a grammar derives, it derives with holes too.
use Rattle.std.proofs.Common.{ℕ, List}
use Rattle.wb_base.specs.declared.symbol.Symbol.{Symbol}
use Rattle.wb_base.specs.Grammar.{GrammarView}
use Rattle.wb_grammar_theory.specs.Cycles.{HasNoUnitCycle, HasNoHiddenLeftRecursion}
use Rattle.wb_grammar_theory.specs.Productions.{IsProduction}
use Rattle.wb_grammar_theory.specs.Derives.{Derives, done, keep, expand}
use Rattle.wb_grammar_theory.specs.Shape.{IsReduced}
use Rattle.wb_lemmas.proofs.Places.{append_keeps}
use Rattle.wb_marking_holes.specs.Holes.{hole_productions, with_holes_of}

-- a production
pub lifted_production : (g : GrammarView) (extensible : List ℕ) (p a : ℕ) (right : List Symbol) → IsProduction g p a right
    → IsProduction (with_holes_of g extensible) p a right
lifted_production g extensible p a right is = append_keeps g.productions (hole_productions g.terminals extensible) p (a, right) is

-- a derivation
pub lifted : (g : GrammarView) (extensible : List ℕ) {w v : List Symbol} → Derives g w v → Derives (with_holes_of g extensible) w v
lifted g extensible done = done
lifted g extensible (keep x rest) = keep x (lifted g extensible rest)
lifted g extensible (expand p a right u v is within rest whole) =
    expand p a right u v (lifted_production g extensible p a right is) (lifted g extensible within) (lifted g extensible rest) whole

-- a reduced grammar is reduced with holes
pub lifted_reduced : (g : GrammarView) (extensible : List ℕ) → IsReduced g → IsReduced (with_holes_of g extensible)
lifted_reduced g extensible is = record {
  reachable = λ a within. (let (u, v, derives) = is.reachable a within in (u, v, lifted g extensible derives));
  productive = λ a within. (let (v, derives, text) = is.productive a within in (v, lifted g extensible derives, text));
}

-- without a unit cycle with holes there is none without
pub no_unit_cycle_without : (g : GrammarView) (extensible : List ℕ) → HasNoUnitCycle (with_holes_of g extensible) → HasNoUnitCycle g
no_unit_cycle_without g extensible never a (p, right, is, derives) =
    never a (p, right, lifted_production g extensible p a right is, lifted g extensible derives)

-- and without hidden left recursion
pub no_hidden_left_recursion_without : (g : GrammarView) (extensible : List ℕ) → HasNoHiddenLeftRecursion (with_holes_of g extensible)
    → HasNoHiddenLeftRecursion g
no_hidden_left_recursion_without g extensible never a (p, right, b, c, is, derives, some, empty) =
    never a (p, right, b, c, lifted_production g extensible p a right is, lifted g extensible derives, some, lifted g extensible empty)
