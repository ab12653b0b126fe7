-- A vertex has one rule at most.
use Rattle.std.proofs.Common.{◌≡◌, ◌∙◌, ℕ, List, Some, refl, sym, ap, subst, Contains, slice_get, map, option_map}
use Rattle.std.proofs.lemmas.Option.{slice_get-map}
use Rattle.wb_lemmas.proofs.Elements.{all_contained}
use Rattle.wb_lemmas.proofs.Members.{place_of}
use Rattle.wb_lemmas.proofs.Places.{at_once}
use Rattle.wb_syntax_resolved.specs.declared.attribution.AttributionParts.{AttributionParts}
use Rattle.wb_syntax_resolved.specs.declared.equation.Equation.{Equation}
use Rattle.wb_syntax_resolved.specs.declared.equation.Place.TheVariants as place
use Rattle.wb_syntax_resolved.specs.declared.equation.Target.{Target}
use Rattle.wb_syntax_resolved.specs.declared.equation.Target.TheVariants as target
use Rattle.wb_syntax_resolved.specs.declared.production.Forward.{Forward}
use Rattle.wb_syntax_resolved.specs.declared.production.Local.{Local}
use Rattle.wb_syntax_resolved.specs.declared.production.Production.{Production}
use Rattle.wb_syntax_resolved.specs.Attribution.{IsAttribution}
use Rattle.wb_syntax_resolved.specs.Expression.{Node}
use Rattle.wb_syntax_resolved.specs.Once.{IsOnceIn}
use Rattle.wb_flow_theory.specs.Vertices.{Vertex, Made, top_synthesized, top_inherited, synthesized, inherited, tree_of, child, made, local}
use Rattle.wb_flow_theory.specs.Vertices.{forward}
use Rattle.wb_flow_theory.specs.Laws.{HasOneRule}
use Rattle.wb_flow_theory.specs.Rules.{IsRule, target_vertex}
use Rattle.wb_flow_theory.specs.Rules as rules

-- the target of an equation that defines a vertex; of one that none defines, any
abbrev target_for : Vertex → Target
target_for (top_synthesized x) = target.Top x
target_for (top_inherited x) = target.Top x
target_for (synthesized s x) = target.Top x
target_for (inherited (child k) x) = target.Place (place.Child k) x
target_for (inherited (made (local y)) x) = target.Place (place.Local y) x
target_for (inherited (made forward) x) = target.Forward x
target_for (tree_of k) = target.Top 0

target_again : (t : Target) → target_for (target_vertex t) ≡ t
target_again (target.Top x) = refl
target_again (target.Place (place.Child k) x) = refl
target_again (target.Place (place.Local y) x) = refl
target_again (target.Forward x) = refl

-- equations of different targets define different vertices
pub one_target : (t u : Target) → target_vertex t ≡ target_vertex u → t ≡ u
one_target t u same = sym (target_again t) ∙ ap target_for same ∙ target_again u

-- no equation is for a tree
pub no_tree : (t : Target) (k : Made) → target_vertex t ≡ tree_of k → ⊥
no_tree (target.Top x) k is = cc
no_tree (target.Place at x) k is = cc
no_tree (target.Forward x) k is = cc

-- the targets of two equations
target_at : (production : Production) (e : Equation) (i : ℕ) → slice_get production.equations i ≡ Some e
    → slice_get (map (λ (z : Equation). z.target) production.equations) i ≡ Some e.target
target_at production e i at =
    slice_get-map (λ (z : Equation). z.target) production.equations i ∙ ap (option_map (λ (z : Equation). z.target)) at

module _ (production : Production) (once : IsOnceIn production) where
  -- two equations for one vertex are one
  one_equation : (e f : Equation) → Contains production.equations e → Contains production.equations f
      → target_vertex e.target ≡ target_vertex f.target → e ≡ f
  one_equation e f he hf same =
      let (i, at) = place_of production.equations e he in
      let (j, there) = place_of production.equations f hf in
      let targets : e.target ≡ f.target = one_target e.target f.target same in
      let equal = once.targets e.target i j (target_at production e i at) (target_at production f j there ∙ ap Some (sym targets)) in
      at_once production.equations j e f (subst (λ k. slice_get production.equations k ≡ Some e) equal at) there

  -- two locals of one number are one
  one_local : (x y : ℕ) (l k : Local) → slice_get production.locals x ≡ Some l → slice_get production.locals y ≡ Some k
      → tree_of (local x) ≡ tree_of (local y) → l ≡ k
  one_local x y l k at there same =
      let equal : x ≡ y = cc in
      at_once production.locals y l k (subst (λ z. slice_get production.locals z ≡ Some l) equal at) there

  -- a vertex has one rule at most
  pub one_rule : (v : Vertex) (first second : List Node) → IsRule production v first → IsRule production v second → first ≡ second
  one_rule v first second (rules.by_equation e he is at) (rules.by_equation f hf same there) =
      at ∙ ap (λ (z : Equation). z.nodes) (one_equation e f he hf (sym is ∙ same)) ∙ sym there
  one_rule v first second (rules.by_equation e he is at) (rules.by_local y k hk same there) = absurd (no_tree e.target (local y) (sym is ∙ same))
  one_rule v first second (rules.by_equation e he is at) (rules.by_forward g hg same there) = absurd (no_tree e.target forward (sym is ∙ same))
  one_rule v first second (rules.by_local x l hl is at) (rules.by_equation f hf same there) = absurd (no_tree f.target (local x) (sym same ∙ is))
  one_rule v first second (rules.by_local x l hl is at) (rules.by_local y k hk same there) =
      at ∙ ap (λ (z : Local). z.nodes) (one_local x y l k hl hk (sym is ∙ same)) ∙ sym there
  one_rule v first second (rules.by_local x l hl is at) (rules.by_forward g hg same there) = let wrong = sym is ∙ same in absurd (cc)
  one_rule v first second (rules.by_forward g hg is at) (rules.by_equation f hf same there) = absurd (no_tree f.target forward (sym same ∙ is))
  one_rule v first second (rules.by_forward g hg is at) (rules.by_local y k hk same there) = let wrong = sym is ∙ same in absurd (cc)
  one_rule v first second (rules.by_forward g hg is at) (rules.by_forward h hh same there) =
      let both = sym hg ∙ hh in
      let equal : g ≡ h = cc in
      at ∙ ap (λ (z : Forward). z.nodes) equal ∙ sym there

-- so it is in each production of an attribution
pub one_rule_in : (a : AttributionParts) → IsAttribution a → (production : Production) → Contains a.productions production
    → HasOneRule production
one_rule_in a is production listed = one_rule production (all_contained IsOnceIn a.productions production is.once.productions listed)
