-- What a read needs and has no equation is lacking by the rule.
use Rattle.std.proofs.Common.{◌≡◌, ◌≢◌, ◌++◌, ◌∷◌, [], ◌⊎◌, inl, inr, ℕ, List, Some, refl, sym, ap, subst}
use Rattle.std.proofs.Common.{Contains, slice_get, get_or, ◌<◌, length, option_map}
use Rattle.wb_base.specs.declared.symbol.Kind.TheVariants as kind
use Rattle.wb_syntax_expressions.specs.declared.node.Node.TheVariants as n
use Rattle.wb_lemmas.proofs.Members.{contains_push}
use Rattle.wb_flow_theory.specs.Modular.{IsProduction}
use Rattle.wb_flow_theory.specs.Occurrences.{Needs}
use Rattle.wb_flow_theory.specs.Rules as rules
use Rattle.wb_flow_theory.specs.Rules.{HasRule, IsRule, IsTreeAt, target_vertex}
use Rattle.wb_flow_theory.specs.Vertices as w
use Rattle.wb_flow_theory.proofs.EdgeLemmas.{below_place}
use Rattle.wb_flow_theory.proofs.OccurrenceLemmas.{flow_type_inherited}
use Rattle.wb_flow.proofs.AddingLemmas.{read_item}
use Rattle.wb_flow.proofs.ArrowLemmas.{below_rule, place_vertex}
use Rattle.wb_flow.specs.Rules.{attribute_at, IsDefined}
use Rattle.wb_flow.specs.declared.vertex.Vertex.{Vertex}
use Rattle.wb_syntax_resolved.specs.Attribution.{IsAttribution}
use Rattle.wb_syntax_resolved.specs.declared.attributes.Direction.TheVariants.{Inherited}
use Rattle.wb_syntax_resolved.specs.declared.attribution.AttributionParts.{AttributionParts}
use Rattle.wb_syntax_resolved.specs.declared.equation.Place.{Place}
use Rattle.wb_syntax_resolved.specs.declared.equation.Place.TheVariants as place
use Rattle.wb_syntax_resolved.specs.declared.production.Child.{Child}
use Rattle.wb_syntax_resolved.specs.declared.production.ChildKind.TheVariants as kinds
use Rattle.wb_syntax_resolved.specs.declared.production.Local.{Local}
use Rattle.wb_syntax_resolved.specs.declared.production.Production.{Production}
use Rattle.wb_syntax_resolved.specs.Expression.{Node}
use Rattle.wb_syntax_resolved.specs.Visible.{kind_at}
use Rattle.wb_explain_flows_lists.specs.declared.handed.Lacking.{Lacking}
use Rattle.wb_explain_flows_lists.specs.declared.rule.Rule.{Rule}
use Rattle.wb_explain_flows_lists.specs.Handed.{AreLacking, HasReadAt, IsLacking, IsRuleAt}
use Rattle.wb_explain_flows_lists.specs.Handed as h
use Rattle.wb_explain_flows_lists.specs.declared.handed.Spot.{Spot}
use Rattle.wb_explain_flows_lists.specs.Inner.Spots.{IsNodeAt, IsSpot, KeepsLacking}

rule_place : (p : Production) (at : Place) (i : ℕ) → HasRule p (w.inherited (w.step_to at) i) → IsDefined p (attribute_at at i)
rule_place p (place.Child k) i rule = below_rule p (w.child k) i rule
rule_place p (place.Local x) i rule = below_rule p (w.made (w.local x)) i rule

not_forward : (at : Place) → w.step_to at ≢ w.made w.forward
not_forward (place.Child k) e = cc
not_forward (place.Local x) e = cc

-- the expression at a place is one by which the production defines a vertex
rule_is : (p : Production) (at : Rule) (nodes : List Node) → IsRuleAt p at nodes → (v : w.Vertex) × IsRule p v nodes
rule_is p at nodes (h.by_equation e listed owner offset same) = (target_vertex e.target, rules.by_equation e listed refl same)
rule_is p at nodes (h.by_local k l there owner offset same) = (w.tree_of (w.local k), rules.by_local k l there refl same)
rule_is p at nodes (h.by_forward f there owner offset same) = (w.tree_of w.forward, rules.by_forward f there refl same)

abbrev pub lacking : ℕ → Vertex → Vertex → Rule → Lacking
lacking number vertex reader at = record { production = number; vertex = vertex; reader = reader; at = at }

module _ (a : AttributionParts) (is : IsAttribution a) (number : ℕ) (p : Production) (there : IsProduction a number p) where
  -- what a read needs and has no equation is lacking
  pub lacks : (at : Rule) (label : Place) (x m i : ℕ) → HasReadAt p at label x → IsTreeAt p label m → Needs a x m i
      → ¬ IsDefined p (attribute_at label i) → IsLacking a (lacking number (attribute_at label i) (attribute_at label x) at)
  lacks at label x m i read tree needs none =
      let goes = (flow_type_inherited a is x m i needs).1.goes in
      let (v, rule) = rule_is p at read.nodes read.rule in
      record {
        production = p;
        there = there;
        lacks = record {
          step = w.step_to label;
          inherited_one = i;
          names = place_vertex a label Inherited i goes;
          needs = record {
            vertex = v;
            nodes = read.nodes;
            attribute = x;
            nonterminal = m;
            rule = rule;
            reads = (n.Read label x, read.reads, refl);
            below = below_place p label m tree;
            needs = needs;
          };
          lacks = λ has. none (rule_place p label i has);
          other = not_forward label;
        };
        label = label;
        attribute = x;
        reader = refl;
        read = read;
      }

-- what is kept by two in turn
pub keeps_both : (a : AttributionParts) (xs ys zs : List Lacking) → KeepsLacking a xs ys → KeepsLacking a ys zs → KeepsLacking a xs zs
keeps_both a xs ys zs first second before = second (first before)

-- nothing is added, or one that is lacking
pub keeps_one : (a : AttributionParts) (xs ys : List Lacking) (one : Lacking) (none : Type 0)
    → (ys ≡ xs) ⊎ ((ys ≡ xs ++ one ∷ []) × none) → (none → IsLacking a one) → KeepsLacking a xs ys
keeps_one a xs ys one none (inl same) is before = subst (AreLacking a) (sym same) before
keeps_one a xs ys one none (inr (pushed, holds)) is before = subst (AreLacking a) (sym pushed) each where
  each : AreLacking a (xs ++ one ∷ [])
  each l has = elim (contains_push xs one l has) [ inl old ↦ before l old | inr last ↦ subst (IsLacking a) last (is holds) ]

-- a node that reads of a child or local
pub read_of_node : (p : Production) (at : Rule) (node : Node) (label : Place) (x : ℕ) → node ≡ n.Read label x → IsNodeAt p at node
    → HasReadAt p at label x
read_of_node p at node label x is (nodes, rule, listed) =
    record { nodes = nodes; rule = rule; reads = subst (Contains nodes) is listed }

-- what a read needs is lacking where it is added
pub keeps_read : (s : Spot) → IsSpot s → (at : Rule) (label : Place) (x m i : ℕ) → HasReadAt s.production.now at label x
    → IsTreeAt s.production.now label m → Needs s.scope.now.attributes.now x m i → (reader vertex : Vertex) → reader ≡ attribute_at label x
    → vertex ≡ attribute_at label i → (xs ys : List Lacking)
    → (ys ≡ xs) ⊎ ((ys ≡ xs ++ lacking s.number vertex reader at ∷ []) × ¬ Contains s.defined.now vertex)
    → KeepsLacking s.scope.now.attributes.now xs ys
keeps_read s spot at label x m i read tree needs reader vertex reader_is vertex_is xs ys either =
    let a = s.scope.now.attributes.now in
    let p = s.production.now in
    keeps_one a xs ys (lacking s.number vertex reader at) (¬ Contains s.defined.now vertex) either (λ none.
    subst (λ z. IsLacking a (lacking s.number vertex z at)) (sym reader_is)
    (subst (λ z. IsLacking a (lacking s.number z (attribute_at label x) at)) (sym vertex_is)
    (lacks a spot.attribution s.number p spot.there at label x m i read tree needs
    (λ defined. none (subst (Contains s.defined.now) (sym vertex_is) ((spot.defined (attribute_at label i)).1 defined))))))

-- what is at a child or local that is there
pub child_kind_at : (p : Production) (children : List Child) (k : ℕ) (c : Child) → children ≡ p.children
    → k < length children → c ≡ get_or children k c → kind_at p (place.Child k) ≡ Some c.kind
child_kind_at p children k c same within is =
    ap (option_map (λ (x : Child). x.kind)) (subst (λ (z : List Child). slice_get z k ≡ Some c) same (read_item children k c within is))

pub local_kind_at : (p : Production) (locals : List Local) (k : ℕ) (l : Local) → locals ≡ p.locals
    → k < length locals → l ≡ get_or locals k l → kind_at p (place.Local k) ≡ Some (kinds.Value (kind.Tree l.nonterminal))
local_kind_at p locals k l same within is =
    ap (option_map (λ (x : Local). kinds.Value (kind.Tree x.nonterminal)))
    (subst (λ (z : List Local). slice_get z k ≡ Some l) same (read_item locals k l within is))
