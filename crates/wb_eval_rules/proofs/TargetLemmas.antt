-- What a production defines, by its equations, its locals and its forward.
use Rattle.std.proofs.Common.{◌≡◌, ◌≢◌, ◌∙◌, ◌≤◌, ℕ, None, length, sym, ap, Contains, arith}
use Rattle.std.proofs.lemmas.Option.{slice_get_within}
use Rattle.wb_flow_theory.specs.Rules.{IsRule, HasRule, target_vertex}
use Rattle.wb_flow_theory.specs.Rules as rules
use Rattle.wb_flow_theory.specs.Vertices.{Made, local, forward, tree_of, step_to}
use Rattle.wb_syntax_resolved.specs.declared.equation.Equation.{Equation}
use Rattle.wb_syntax_resolved.specs.declared.equation.Place.{Place}
use Rattle.wb_syntax_resolved.specs.declared.equation.Place.TheVariants as place
use Rattle.wb_syntax_resolved.specs.declared.equation.Target.{Target}
use Rattle.wb_syntax_resolved.specs.declared.equation.Target.TheVariants as target
use Rattle.wb_syntax_resolved.specs.declared.production.Production.{Production}

one_place : (p q : Place) → step_to p ≡ step_to q → p ≡ q
one_place (place.Child k) (place.Child l) e = ap place.Child (cc e)
one_place (place.Local k) (place.Local l) e = ap place.Local (cc e)
one_place (place.Child k) (place.Local l) e = absurd (cc e)
one_place (place.Local k) (place.Child l) e = absurd (cc e)

pub one_target : (s t : Target) → target_vertex s ≡ target_vertex t → s ≡ t
one_target (target.Top y) (target.Top z) e = ap target.Top (cc e)
one_target (target.Forward y) (target.Forward z) e = ap target.Forward (cc e)
one_target (target.Place p y) (target.Place q z) e =
    let places : step_to p ≡ step_to q = cc e in
    let numbers : y ≡ z = cc e in
    ap (λ (r : Place). target.Place r y) (one_place p q places) ∙ ap (target.Place q) numbers
one_target (target.Top y) (target.Forward z) e = absurd (cc e)
one_target (target.Top y) (target.Place q z) e = absurd (cc e)
one_target (target.Forward y) (target.Top z) e = absurd (cc e)
one_target (target.Place q y) (target.Top z) e = absurd (cc e)
one_target (target.Forward y) (target.Place (place.Child k) z) e = absurd (cc e)
one_target (target.Forward y) (target.Place (place.Local k) z) e = absurd (cc e)
one_target (target.Place (place.Child k) y) (target.Forward z) e = absurd (cc e)
one_target (target.Place (place.Local k) y) (target.Forward z) e = absurd (cc e)

no_tree : (t : Target) (k : Made) → target_vertex t ≡ tree_of k → ⊥
no_tree (target.Top y) k e = cc e
no_tree (target.Place p y) k e = cc e
no_tree (target.Forward y) k e = cc e

module _ (p : Production) where
  pub no_equation : (t : Target) → ((e : Equation) → Contains p.equations e → e.target ≢ t) → ¬ HasRule p (target_vertex t)
  no_equation t none (nodes, rules.by_equation e listed is same) = none e listed (sym (one_target t e.target is))
  no_equation t none (nodes, rules.by_local x l at is same) = no_tree t (local x) is
  no_equation t none (nodes, rules.by_forward f at is same) = no_tree t forward is

  pub no_local : (x : ℕ) → length p.locals ≤ x → ¬ HasRule p (tree_of (local x))
  no_local x past (nodes, rules.by_local y l at is same) =
      let e : x ≡ y = cc is in
      let lt = slice_get_within p.locals y l at in omega (arith, past, e, lt)
  no_local x past (nodes, rules.by_forward f at is same) = cc is
  no_local x past (nodes, rules.by_equation e listed is same) = no_tree e.target (local x) (sym is)

  pub no_forward : p.forward ≡ None → ¬ HasRule p (tree_of forward)
  no_forward none (nodes, rules.by_forward f at is same) = cc (none, at)
  no_forward none (nodes, rules.by_local x l at is same) = cc is
  no_forward none (nodes, rules.by_equation e listed is same) = no_tree e.target forward (sym is)
