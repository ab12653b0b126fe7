-- A vertex's expression is what the nodes of its rule are read back as.
use Rattle.std.proofs.Common.{◌≡◌, ◌∙◌, ◌&&◌, ◌∷◌, [], inl, inr, ℕ, List, Option, Some, None, Bool, true, false, nat_eq, refl, sym, ap}
use Rattle.std.proofs.Common.{Contains, slice_get}
use Rattle.std.proofs.lemmas.Bool.{eqb-true, eq-eqb}
use Rattle.wb_lemmas.proofs.Members.{contains_first, contains_later, contains_cases, nothing_in}
use Rattle.wb_flow_theory.proofs.RuleLemmas.{one_rule_in}
use Rattle.wb_flow_theory.specs.Rules as rules
use Rattle.wb_flow_theory.specs.Rules.{IsRule, target_vertex}
use Rattle.wb_flow_theory.specs.Vertices.{Made, local, forward, Step, child, made, Vertex, top_synthesized, top_inherited, synthesized}
use Rattle.wb_flow_theory.specs.Vertices.{inherited, tree_of}
use Rattle.wb_flow_theory.specs.Laws.{HasOneRule}
use Rattle.wb_syntax_resolved.specs.declared.attribution.AttributionParts.{AttributionParts}
use Rattle.wb_syntax_resolved.specs.declared.equation.Equation.{Equation}
use Rattle.wb_syntax_resolved.specs.declared.equation.Target.{Target}
use Rattle.wb_syntax_resolved.specs.declared.equation.Target.TheVariants as target
use Rattle.wb_syntax_resolved.specs.declared.production.Forward.{Forward}
use Rattle.wb_syntax_resolved.specs.declared.production.Local.{Local}
use Rattle.wb_syntax_resolved.specs.declared.production.Production.{Production}
use Rattle.wb_syntax_resolved.specs.Attribution.{IsAttribution}
use Rattle.wb_syntax_resolved.specs.Expression.{Expression, Node}
use Rattle.wb_eval_theory.specs.Laws.{IsRuleRead}
use Rattle.wb_eval_theory.specs.Rules.{same_made, same_step, same_vertex, equation_for, local_expression, forward_expression}
use Rattle.wb_eval_theory.specs.Rules.{expression_of, rule_of}

-- vertices that are found the same are so, and the other way round
made_equal : (k l : Made) → same_made k l ≡ true → k ≡ l
made_equal (local k) (local l) is = ap local (eqb-true k l is)
made_equal (local k) forward is = absurd (cc is)
made_equal forward (local l) is = absurd (cc is)
made_equal forward forward is = refl

made_again : (k : Made) → same_made k k ≡ true
made_again (local k) = eq-eqb k k refl
made_again forward = refl

step_equal : (s t : Step) → same_step s t ≡ true → s ≡ t
step_equal (child k) (child l) is = ap child (eqb-true k l is)
step_equal (child k) (made l) is = absurd (cc is)
step_equal (made k) (child l) is = absurd (cc is)
step_equal (made k) (made l) is = ap made (made_equal k l is)

step_again : (s : Step) → same_step s s ≡ true
step_again (child k) = eq-eqb k k refl
step_again (made k) = made_again k

pub both : (first second : Bool) → (first && second) ≡ true → (first ≡ true) × (second ≡ true)
both true second is = (refl, is)
both false second is = absurd (cc is)

pub vertex_equal : (v w : Vertex) → same_vertex v w ≡ true → v ≡ w
vertex_equal (top_synthesized y) (top_synthesized z) is = ap top_synthesized (eqb-true y z is)
vertex_equal (top_inherited y) (top_inherited z) is = ap top_inherited (eqb-true y z is)
vertex_equal (synthesized s y) (synthesized t z) is =
    let (steps, numbers) = both (same_step s t) (nat_eq y z) is in
    ap (λ k. synthesized k y) (step_equal s t steps) ∙ ap (synthesized t) (eqb-true y z numbers)
vertex_equal (inherited s y) (inherited t z) is =
    let (steps, numbers) = both (same_step s t) (nat_eq y z) is in
    ap (λ k. inherited k y) (step_equal s t steps) ∙ ap (inherited t) (eqb-true y z numbers)
vertex_equal (tree_of k) (tree_of l) is = ap tree_of (made_equal k l is)
vertex_equal _ _ is = absurd (cc is)

pub vertex_again : (v : Vertex) → same_vertex v v ≡ true
vertex_again (top_synthesized y) = eq-eqb y y refl
vertex_again (top_inherited y) = eq-eqb y y refl
vertex_again (synthesized s y) = ap (λ b. b && nat_eq y y) (step_again s) ∙ eq-eqb y y refl
vertex_again (inherited s y) = ap (λ b. b && nat_eq y y) (step_again s) ∙ eq-eqb y y refl
vertex_again (tree_of k) = made_again k

-- the equation that is found for a vertex
abbrev IsFor : Vertex → Expression → Equation → Type 0
IsFor v e f = (v ≡ target_vertex f.target) × (expression_of f.nodes ≡ Some e)

abbrev IsFound : Vertex → Expression → List Equation → Type 0
IsFound v e equations = (f : Equation) × Contains equations f × IsFor v e f

-- what is found from an equation on, by whether it is for the vertex
abbrev from_equation : Vertex → Equation → List Equation → Bool → Option Expression
from_equation v f rest same = elim same [ true ↦ expression_of f.nodes | false ↦ equation_for v rest ]

found_equation : (v : Vertex) (e : Expression) (equations : List Equation) → equation_for v equations ≡ Some e → IsFound v e equations
found_equation v e [] is = absurd (cc is)
found_equation v e (f ∷ rest) is = cases (same_vertex v (target_vertex f.target)) refl is (found_equation v e rest) where
  cases : (same : Bool) → same_vertex v (target_vertex f.target) ≡ same → from_equation v f rest same ≡ Some e
      → (equation_for v rest ≡ Some e → IsFound v e rest) → IsFound v e (f ∷ rest)
  cases true same is more = (f, contains_first f rest, (vertex_equal v (target_vertex f.target) same, is))
  cases false same is more = let (g, listed, found) = more is in (g, contains_later f g rest listed, found)

-- an equation for a vertex is found, if there is one and all for it have the expression
abbrev AllHave : Vertex → Expression → List Equation → Type 0
AllHave v e equations = (g : Equation) → Contains equations g → v ≡ target_vertex g.target → expression_of g.nodes ≡ Some e

some_equation : (v : Vertex) (f : Equation) (e : Expression) (equations : List Equation) → Contains equations f → v ≡ target_vertex f.target
    → AllHave v e equations → equation_for v equations ≡ Some e
some_equation v f e [] listed is each = absurd (nothing_in f listed)
some_equation v f e (g ∷ rest) listed is each =
    cases (same_vertex v (target_vertex g.target)) refl (λ later. some_equation v f e rest later is (λ h has. each h (contains_later g h rest has))) where
      cases : (same : Bool) → same_vertex v (target_vertex g.target) ≡ same → (Contains rest f → equation_for v rest ≡ Some e)
          → equation_for v (g ∷ rest) ≡ Some e
      cases true same more = ap (from_equation v g rest) same ∙ each g (contains_first g rest) (vertex_equal v (target_vertex g.target) same)
      cases false same more = elim (contains_cases g f rest listed) [
        | inl first ↦
            let again = vertex_again v in
            let target : target_vertex g.target ≡ v = ap (λ (z : Equation). target_vertex z.target) first ∙ sym is in
            absurd (cc (same, target, again))
        | inr later ↦ ap (from_equation v g rest) same ∙ more later
      ]

-- the vertex has the expression by a rule
abbrev HasRead : Production → Vertex → Expression → Type 0
HasRead production v e = (nodes : List Node) × IsRule production v nodes × (expression_of nodes ≡ Some e)

module _ (production : Production) where
  by_local_of : (x : ℕ) (e : Expression) (l : Option Local) → slice_get production.locals x ≡ l → local_expression l ≡ Some e
      → HasRead production (tree_of (local x)) e
  by_local_of x e None at is = absurd (cc is)
  by_local_of x e (Some l) at is = (l.nodes, rules.by_local x l at refl refl, is)

  by_forward_of : (e : Expression) (f : Option Forward) → production.forward ≡ f → forward_expression f ≡ Some e
      → HasRead production (tree_of forward) e
  by_forward_of e None at is = absurd (cc is)
  by_forward_of e (Some f) at is = (f.nodes, rules.by_forward f at refl refl, is)

  by_equation_of : (v : Vertex) (e : Expression) → equation_for v production.equations ≡ Some e → HasRead production v e
  by_equation_of v e is =
      let (f, listed, (target, nodes)) = found_equation v e production.equations is in
      (f.nodes, rules.by_equation f listed target refl, nodes)

  has_read : (v : Vertex) (e : Expression) → rule_of production v ≡ Some e → HasRead production v e
  unfolding rule_of
  has_read (tree_of (local k)) e is = by_local_of k e (slice_get production.locals k) refl is
  has_read (tree_of forward) e is = by_forward_of e production.forward refl is
  has_read (top_synthesized y) e is = by_equation_of (top_synthesized y) e is
  has_read (top_inherited y) e is = by_equation_of (top_inherited y) e is
  has_read (synthesized s y) e is = by_equation_of (synthesized s y) e is
  has_read (inherited s y) e is = by_equation_of (inherited s y) e is

  rule_of_target : (t : Target) → rule_of production (target_vertex t) ≡ equation_for (target_vertex t) production.equations
  unfolding rule_of
  rule_of_target (target.Top y) = refl
  rule_of_target (target.Place at y) = refl
  rule_of_target (target.Forward y) = refl

  module _ (one : HasOneRule production) where
    is_read : (v : Vertex) (e : Expression) → HasRead production v e → rule_of production v ≡ Some e
    unfolding rule_of
    is_read v e (nodes, rules.by_equation f listed target at, is) =
        let each : (g : Equation) → Contains production.equations g → v ≡ target_vertex g.target → expression_of g.nodes ≡ Some e
        = λ g has for. ap expression_of (one v g.nodes nodes (rules.by_equation g has for refl) (rules.by_equation f listed target at)) ∙ is in
        let found = some_equation v f e production.equations listed target each in
        ap (rule_of production) target ∙ rule_of_target f.target ∙ ap (λ z. equation_for z production.equations) (sym target) ∙ found
    is_read v e (nodes, rules.by_local x l at same known, is) =
        ap (rule_of production) same ∙ ap local_expression at ∙ ap expression_of (sym known) ∙ is
    is_read v e (nodes, rules.by_forward f at same known, is) =
        ap (rule_of production) same ∙ ap forward_expression at ∙ ap expression_of (sym known) ∙ is

    is_rule_read : IsRuleRead production
    is_rule_read v e = (has_read v e, is_read v e)

-- so it is in each production of an attribution
pub rule_read_in : (a : AttributionParts) → IsAttribution a → (production : Production) → Contains a.productions production
    → IsRuleRead production
rule_read_in a is production listed = is_rule_read production (one_rule_in a is production listed)
