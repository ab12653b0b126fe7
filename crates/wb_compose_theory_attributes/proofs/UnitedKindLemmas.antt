-- Each expression of a union is of its kind where those of its parts are.
use Rattle.std.proofs.Common.{◌≡◌, ◌∙◌, ◌≤◌, ℕ, zero, suc, List, Some, Contains, All, map, slice_get, length, refl}
use Rattle.std.proofs.Common.{sym, ap, subst, inr}
use Rattle.std.specs.Prelude.{IfSome}
use Rattle.wb_lemmas.proofs.Elements.{all_at, all_contained}
use Rattle.wb_lemmas.proofs.Members.{contains_at, place_of}
use Rattle.wb_base.specs.declared.symbol.Kind.{Kind}
use Rattle.wb_base.specs.declared.symbol.Kind.TheVariants as kind
use Rattle.wb_operations.specs.Operations.{OperationSignature, IsPlainSignature}
use Rattle.wb_syntax_resolved.specs.declared.attribution.AttributionParts.{AttributionParts}
use Rattle.wb_syntax_resolved.specs.declared.equation.Equation.{Equation}
use Rattle.wb_syntax_resolved.specs.declared.equation.Target.{Target}
use Rattle.wb_syntax_resolved.specs.declared.equation.Target.TheVariants as target
use Rattle.wb_syntax_resolved.specs.declared.production.Forward.{Forward}
use Rattle.wb_syntax_resolved.specs.declared.production.Local.{Local}
use Rattle.wb_syntax_resolved.specs.declared.production.Production.{Production}
use Rattle.wb_syntax_resolved.specs.Expression.{Node}
use Rattle.wb_syntax_resolved.specs.Named.{IsNamedNode, IsNamedExpression, IsNamedEquation, IsNamedLocal}
use Rattle.wb_syntax_resolved.specs.Numbered.{IsNumbered}
use Rattle.wb_types.specs.Expected.{attribute_of, IsExpected}
use Rattle.wb_types.specs.Expected as expected
use Rattle.wb_types.specs.Kinds.{IsAttributeKind}
use Rattle.wb_types.specs.Rules.{IsKnown, HasArity, IsOfKind, KindsOk}
use Rattle.wb_compose_theory_attributes.specs.Laws.{HasUnitedKinds}
use Rattle.wb_compose_theory_attributes.specs.Numbers.{NumberMap}
use Rattle.wb_compose_theory_attributes.specs.Rows.{new_kind, new_node, new_target, new_forward}
use Rattle.wb_compose_theory_attributes.specs.Seen.{IsSeenProduction}
use Rattle.wb_compose_theory_attributes.specs.Unions.{Rooted, IsWithin}
use Rattle.wb_compose_theory_attributes.proofs.NewKindLemmas.{all_known_new, attribute_kind_back, of_kind_new, all_arities_new}
use Rattle.wb_compose_theory_attributes.proofs.SeenLemmas.{mapped}
use Rattle.wb_compose_theory_attributes.proofs.UnionNamedLemmas.{row_named, production_owner, local_may, equation_may}
use Rattle.wb_compose_theory_attributes.proofs.UnitedLemmas.{views, extension_at}
use Rattle.wb_compose_theory_attributes.proofs.ViewLemmas.{View, production_back, local_back}

attribute_of_new : (t : NumberMap) (p : ℕ) (to : Target) → attribute_of (new_target t p to) ≡ t.attribute (attribute_of to)
attribute_of_new t p (target.Top x) = refl
attribute_of_new t p (target.Place at x) = refl
attribute_of_new t p (target.Forward x) = refl

module _ (a : AttributionParts) (within : IsWithin a) (views : (k : ℕ) → k ≤ length a.extensions → View a k) (numbered : IsNumbered a) where
  -- an expression of a comes from one in the view of an owner
  record Origin (there : Production) (nodes : List Node) (is : Kind) (offset : ℕ) : Type 0 where
    k : ℕ
    bound : k ≤ length a.extensions
    p : ℕ
    row : Production
    at : slice_get (views k bound).s.productions p ≡ Some row
    same : IsSeenProduction (views k bound).t k p row there
    owner : ℕ
    from : List Node
    named : All (IsNamedNode (views k bound).s row owner) from
    was : Kind
    wanted : IsExpected (views k bound).s row from was offset
    nodes_are : nodes ≡ map (new_node (views k bound).t p) from
    is_is : is ≡ new_kind (views k bound).t was

  module _ (q : ℕ) (there : Production) (at_q : slice_get a.productions q ≡ Some there) where
    origin : (nodes : List Node) (is : Kind) (offset : ℕ) → IsExpected a there nodes is offset → Origin there nodes is offset
    origin nodes is offset (expected.local l has nodes_are is_is begins) =
        let (y, at) = place_of there.locals l has in
        let k = l.owner in
        let may = local_may a within views q there at_q y l at in
        let v = views k may.is_owner in
        let (p, row, row_at, q_is, same) = production_back a k v q there at_q may.sees in
        let (x, from, from_at, y_is, equal) = local_back a k v p row there same y l at (inr refl) in
        let good = all_at (IsNamedLocal v.s row) row.locals x from (row_named a k v p row row_at).locals from_at in
        record {
          k = k;
          bound = may.is_owner;
          p = p;
          row = row;
          at = row_at;
          same = same;
          owner = from.owner;
          from = from.nodes;
          named = good.value.named;
          was = kind.Tree from.nonterminal;
          wanted = expected.local from (contains_at row.locals from x from_at) refl refl (begins ∙ sym (ap (λ
              (z : Local). z.offset) equal));
          nodes_are = nodes_are ∙ sym (ap (λ (z : Local). z.nodes) equal);
          is_is = is_is ∙ sym (ap (λ (z : Local). kind.Tree z.nonterminal) equal);
        }
    origin nodes is offset (expected.forward f has nodes_are is_is begins) =
        let k = there.owner in
        let bound = production_owner a within views q there at_q in
        let v = views k bound in
        let (p, row, row_at, q_is, same) = production_back a k v q there at_q (inr refl) in
        let (from, from_at, equal) = mapped (new_forward v.t p) row.forward f (sym same.forward ∙ has) in
        let good = subst (λ o. IfSome o (λ (g : Forward). IsNamedExpression v.s row row.owner g.nodes)) from_at
        (row_named a k v p row row_at).forward in
        record {
          k = k;
          bound = bound;
          p = p;
          row = row;
          at = row_at;
          same = same;
          owner = row.owner;
          from = from.nodes;
          named = good.named;
          was = kind.Tree row.left;
          wanted = expected.forward from from_at refl refl (begins ∙ sym (ap (λ (z : Forward). z.offset) equal));
          nodes_are = nodes_are ∙ sym (ap (λ (z : Forward). z.nodes) equal);
          is_is = is_is ∙ ap kind.Tree same.left;
        }
    origin nodes is offset (expected.equation e has nodes_are is_kind begins) =
        let k = e.owner in
        let may = equation_may a within views q there at_q e has in
        let v = views k may.is_owner in
        let (p, row, row_at, q_is, same) = production_back a k v q there at_q may.sees in
        let (from, listed, equal) = same.equations_from e has (inr refl) in
        let good = all_contained (IsNamedEquation v.s row) row.equations from (row_named a k v p row row_at).equations listed in
        let number = ap (λ (z : Equation). attribute_of z.target) equal ∙ attribute_of_new v.t p from.target in
        let (was, was_kind, is_is) = attribute_kind_back v.s a k v.t v.seen v.is.numbered numbered (attribute_of from.target) is
        (subst (λ z. IsAttributeKind a z is) number is_kind) in
        record {
          k = k;
          bound = may.is_owner;
          p = p;
          row = row;
          at = row_at;
          same = same;
          owner = from.owner;
          from = from.nodes;
          named = good.value.named;
          was = was;
          wanted = expected.equation from listed refl was_kind (begins ∙ ap (λ (z : Equation). z.offset) equal);
          nodes_are = nodes_are ∙ ap (λ (z : Equation). z.nodes) equal;
          is_is = is_is;
        }

  module _ (operations : List OperationSignature) (plain : All IsPlainSignature operations)
      (good : (k : ℕ) (bound : k ≤ length a.extensions) → KindsOk (views k bound).s operations) where
    known_in : (there : Production) (nodes : List Node) (is : Kind) (offset : ℕ) → Origin there nodes is offset → All
        (IsKnown operations) nodes
    known_in there nodes is offset o =
        let v = views o.k o.bound in
        let mine = (good o.k o.bound).known o.row o.from o.was offset (contains_at v.s.productions o.row o.p o.at) o.wanted in
        subst (All (IsKnown operations)) (sym o.nodes_are) (all_known_new v.t o.p operations o.from mine)

    arities_in : (there : Production) (nodes : List Node) (is : Kind) (offset : ℕ) → Origin there nodes is offset
        → All (HasArity a operations) nodes
    arities_in there nodes is offset o =
        let v = views o.k o.bound in
        let mine = (good o.k o.bound).arities o.row o.from o.was offset (contains_at v.s.productions o.row o.p o.at) o.wanted in
        subst (All (HasArity a operations)) (sym o.nodes_are)
        (all_arities_new v.s a o.k v.t v.seen v.is.numbered numbered operations plain o.p o.row there o.same o.owner o.from mine o.named)

    kinds_in : (there : Production) (nodes : List Node) (is : Kind) (offset : ℕ) → Origin there nodes is offset
        → IsOfKind a operations there nodes is
    kinds_in there nodes is offset o =
        let v = views o.k o.bound in
        let mine = (good o.k o.bound).kinds o.row o.from o.was offset (contains_at v.s.productions o.row o.p o.at) o.wanted in
        subst (IsOfKind a operations there nodes) (sym o.is_is)
        (subst (λ z. IsOfKind a operations there z (new_kind v.t o.was)) (sym o.nodes_are)
        (of_kind_new v.s a o.k v.t v.seen v.is.numbered numbered operations plain o.p o.row there o.same o.from o.was mine))

    origin_of : (there : Production) (nodes : List Node) (is : Kind) (offset : ℕ) → Contains a.productions there
        → IsExpected a there nodes is offset → Origin there nodes is offset
    origin_of there nodes is offset has wanted = let (q, at) = place_of a.productions there has in origin q there at nodes is offset wanted

    pub kinds_ok : KindsOk a operations
    kinds_ok = record {
      known = λ there nodes is offset has wanted. known_in there nodes is offset (origin_of there nodes is offset has wanted);
      arities = λ there nodes is offset has wanted. arities_in there nodes is offset (origin_of there nodes is offset has wanted);
      kinds = λ there nodes is offset has wanted. kinds_in there nodes is offset (origin_of there nodes is offset has wanted);
    }

pub united_kinds : (host_part : Rooted) (extensions : List Rooted) (a : Rooted) → HasUnitedKinds host_part extensions a
united_kinds host_part extensions a union are operations plain each =
    kinds_ok a.attributes union.within (views host_part extensions a union are) union.numbered operations plain good where
      good : (k : ℕ) (bound : k ≤ length a.attributes.extensions) → KindsOk (views host_part extensions a union are k bound).s operations
      good zero bound = each.of_host
      good (suc k) bound =
          let x = extension_at host_part extensions a union are k bound in
          all_at (λ (z : Rooted). KindsOk z.attributes operations) extensions k x.e each.of_extensions x.at
