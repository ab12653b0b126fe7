-- What the laws say of kinds, of edges and of what is needed.
use Rattle.std.proofs.Common.{◌≡◌, ◌∙◌, ℕ, refl, sym, subst}
use Rattle.std.proofs.lemmas.Option.{same_Some}
use Rattle.wb_flow_theory.specs.Flow.{by_tree, one}
use Rattle.wb_flow_theory.specs.Rules.{IsBelow}
use Rattle.wb_flow_theory.specs.Vertices.{Made, made, synthesized, tree_of}
use Rattle.wb_base.specs.declared.symbol.Kind.TheVariants as kind
use Rattle.wb_operations.specs.Operations.{Operations}
use Rattle.wb_syntax_resolved.specs.declared.attribution.AttributionParts.{AttributionParts}
use Rattle.wb_syntax_resolved.specs.declared.production.Production.{Production}
use Rattle.wb_values.specs.Fits.{FitsTree}
use Rattle.wb_values.specs.Tree.{Tree, Value, production_of}
use Rattle.wb_eval_theory.proofs.AnswerLemmas.{one_node}
use Rattle.wb_eval_theory.proofs.CycleLemmas.{walk_in, nothing_needs_itself}
use Rattle.wb_eval_theory.proofs.DefinedLemmas.{needed_there, never_missing}
use Rattle.wb_eval_theory.proofs.KindLemmas.{node_fits, kinded}
use Rattle.wb_eval_theory.proofs.ProductionLemmas.{one_below}
use Rattle.wb_eval_theory.proofs.ReadLemmas.{place_of, vertex_at, IsThere, Move, along, to_tree, move_of}
use Rattle.wb_eval_theory.proofs.Settings.{Setting, NodeAt, IsOf, ValueFits}
use Rattle.wb_eval_theory.proofs.SoundLemmas.{IsMade}
use Rattle.wb_eval_theory.specs.Evaluable.{IsEvaluable, IsAsked}
use Rattle.wb_eval_theory.specs.Instances.{Path, root, down, Instance, synthesized_at, inherited_at, tree_at, instance_of}
use Rattle.wb_eval_theory.specs.Laws.{HasKinds, IsAlongEdges, IsWellFounded}

-- a setting, by its parts
abbrev pub setting_of : (a : AttributionParts) (operations : Operations) (top : Tree) (m : ℕ) → IsEvaluable a operations
    → FitsTree a.signatures top m → Setting
setting_of a operations top m evaluable fits = record {
  attribution = a;
  operations = operations;
  top = top;
  evaluable = evaluable;
  nonterminal = m;
  fits = fits;
}

-- an instance is the vertex that it is, at its node
is_at_place : (i : Instance) → i ≡ instance_of (place_of i) (vertex_at i)
is_at_place (synthesized_at q y) = refl
is_at_place (inherited_at root y) = refl
is_at_place (inherited_at (down q b) y) = refl
is_at_place (tree_at q m) = refl

made_fits : (s : Setting) (q : Path) (k : Made) (v : Value) (t : Tree) (p : Production) (m : ℕ) → IsMade s q k v → NodeAt s q t
    → IsOf s (production_of t) p → IsBelow p (made k) m → ValueFits s v (kind.Tree m)
made_fits s q k v t p m has there is below =
    let same : has.above ≡ t = one_node s.attribution s.operations s.top has.there there in
    let is' = subst (λ (u : Tree). IsOf s (production_of u) has.production) same has.is in
    let p_same : has.production ≡ p = same_Some has.production p (sym is' ∙ is) in
    let below' = subst (λ (r : Production). IsBelow r (made k) has.nonterminal) p_same has.below in
    subst (λ (z : ℕ). ValueFits s v (kind.Tree z)) (one_below p (made k) has.nonterminal m below' below) has.fits

pub has_kinds : (a : AttributionParts) (operations : Operations) (top : Tree) (m : ℕ) → IsEvaluable a operations
    → FitsTree a.signatures top m → HasKinds a operations top
has_kinds a operations top m evaluable fits =
    let s = setting_of a operations top m evaluable fits in
    record {
      nodes = λ q t there. node_fits s there;
      synthesized = λ q y v is has of_kind. kinded s has is of_kind;
      inherited = λ q y v is has of_kind. kinded s has is of_kind;
      trees = λ q k v t p n has there is below. made_fits s q k v t p n (kinded s has) there is below;
    }

along_edges : (s : Setting) (i r : Instance) → IsThere s i → Move s i r → IsAlongEdges s.attribution s.operations s.top i r
along_edges s i r f (along v t p there is vertex w e) = record {
  path = place_of i;
  at = t;
  production = p;
  from = vertex_at i;
  to = v;
  is_node = there;
  is_production = is;
  first = is_at_place i;
  second = e;
  reaches = walk_in s t p there is w;
}
along_edges s i r f (to_tree q m y t p there is at to) =
    let g = subst (IsThere s) at f in
    let (n, below, occurs) = g.vertex in
    record {
      path = q;
      at = g.above;
      production = g.production;
      from = synthesized (made m) y;
      to = tree_of m;
      is_node = g.there;
      is_production = g.is;
      first = at;
      second = to;
      reaches = one (by_tree below occurs);
    }

pub is_well_founded : (a : AttributionParts) (operations : Operations) (top : Tree) (y : ℕ) → IsEvaluable a operations → IsAsked a top y
    → IsWellFounded a operations top y
is_well_founded a operations top y evaluable asked =
    let s = setting_of a operations top asked.nonterminal evaluable asked.fits in
    record {
      along = λ i r needs reads. let f = needed_there s y asked needs in along_edges s i r f (move_of s f reads);
      defined = λ i needs. let f = needed_there s y asked needs in (f.above, f.there, never_missing s y asked needs f.above f.there);
      acyclic = λ i r needs reads back. nothing_needs_itself s i r (needed_there s y asked needs) reads back;
    }
