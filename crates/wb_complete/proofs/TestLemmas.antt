-- What the tests of a production find is what the rules say.
use Rattle.std.proofs.Common.{◌≡◌, ◌≢◌, ◌∙◌, ◌⊎◌, inl, inr, ℕ, List, None, Option, Some, IfNone, refl, sym, ap, subst}
use Rattle.std.proofs.Common.{Contains, slice_get, get_or, [], false, is_some}
use Rattle.std.proofs.Common.{◌<◌, ◌≤◌, length, option_map}
use Rattle.std.proofs.lemmas.Option.{same_Some, slice_get_past}
use Rattle.wb_base.specs.declared.symbol.Kind.TheVariants as kind
use Rattle.wb_syntax_expressions.specs.declared.node.Node.TheVariants as n
use Rattle.wb_lemmas.proofs.Members.{place_of, contains_at}
use Rattle.wb_lemmas.proofs.Places.{at_once}
use Rattle.wb_flow_theory.specs.Modular.{InheritsNothing}
use Rattle.wb_flow_theory.specs.Vertices as w
use Rattle.wb_flow_theory.specs.Occurrences.{Goes, Needs}
use Rattle.wb_flow_theory.specs.Rules.{Forwards, IsTreeAt, IsBelow, IsRule, HasRule, node_read, place_read, Reads}
use Rattle.wb_flow_theory.specs.Rules as rules
use Rattle.wb_flow_theory.specs.WellDefined.{DefinesTop, DefinesBelow}
use Rattle.wb_flow_theory.proofs.EdgeLemmas.{below_place}
use Rattle.wb_flow_theory.proofs.OccurrenceLemmas.{flow_type_inherited}
use Rattle.wb_flow.specs.declared.vertex.Vertex.{Vertex}
use Rattle.wb_flow.specs.declared.vertex.Vertex.TheVariants as code
use Rattle.wb_flow.specs.Occurrences.{IsIndexOf}
use Rattle.wb_flow.specs.Rules.{attribute_at, IsDefined}
use Rattle.wb_flow.specs.Vertices.{vertex_of}
use Rattle.wb_flow.proofs.AddingLemmas.{read_item}
use Rattle.wb_flow.proofs.ArrowLemmas.{defined_rule, top_rule, below_rule, place_vertex}
use Rattle.wb_complete.specs.Inner.Tests.{DefinesAttribute, DefinesRead, DefinesReads, LacksNeeds, LacksRead, LacksReads}
use Rattle.wb_complete.specs.Refusals.{LacksTop, LacksBelow, StartHas}
use Rattle.wb_syntax_resolved.specs.declared.attributes.Direction.TheVariants.{Synthesized, Inherited}
use Rattle.wb_syntax_resolved.specs.declared.attributes.Occurrence.{Occurrence}
use Rattle.wb_syntax_resolved.specs.declared.attribution.AttributionParts.{AttributionParts}
use Rattle.wb_syntax_resolved.specs.declared.equation.Equation.{Equation}
use Rattle.wb_syntax_resolved.specs.declared.equation.Place.{Place}
use Rattle.wb_syntax_resolved.specs.declared.equation.Place.TheVariants as place
use Rattle.wb_syntax_resolved.specs.declared.production.Child.{Child}
use Rattle.wb_syntax_resolved.specs.declared.production.ChildKind.TheVariants as kinds
use Rattle.wb_syntax_resolved.specs.declared.production.Forward.{Forward}
use Rattle.wb_syntax_resolved.specs.declared.production.Local.{Local}
use Rattle.wb_syntax_resolved.specs.declared.production.Production.{Production}
use Rattle.wb_syntax_resolved.specs.Attribution.{IsAttribution}
use Rattle.wb_syntax_resolved.specs.Expression.{Node}
use Rattle.wb_syntax_resolved.specs.Visible.{kind_at}

-- what follows where there is no value
pub none_then : {X : Type 0} (o : Option X) {P Q : Type 0} → IfNone o P → (P → Q) → IfNone o Q
none_then None holds f = f holds
none_then (Some x) holds f = tt

-- an equation for an attribute of a child or local is its rule
place_rule : (production : Production) (at : Place) (i : ℕ) → IsDefined production (attribute_at at i)
    → HasRule production (w.inherited (w.step_to at) i)
place_rule production (place.Child k) i defined = defined_rule production (code.Child k i) defined
place_rule production (place.Local x) i defined = defined_rule production (code.Local x i) defined

rule_place : (production : Production) (at : Place) (i : ℕ) → HasRule production (w.inherited (w.step_to at) i)
    → IsDefined production (attribute_at at i)
rule_place production (place.Child k) i rule = below_rule production (w.child k) i rule
rule_place production (place.Local x) i rule = below_rule production (w.made (w.local x)) i rule

-- a child or local isn't the forwarded tree
not_forward : (at : Place) → w.step_to at ≢ w.made w.forward
not_forward (place.Child k) e = cc
not_forward (place.Local x) e = cc

-- a tree one step down to a child or local is there
tree_place : (production : Production) (at : Place) (m : ℕ) → IsBelow production (w.step_to at) m → IsTreeAt production at m
tree_place production (place.Child k) m is = is
tree_place production (place.Local x) m is = is

module _ (a : AttributionParts) (production : Production) where
  -- where each attribute on the left side that is synthesized has an equation, the top is defined
  pub defines_top : ((o : Occurrence) → Contains a.occurrences o → o.nonterminal ≡ production.left → DefinesAttribute a production o)
      → DefinesTop a production
  defines_top each x occurs =
      let flow = occurs.on.1 in
      let o = flow.occurrence in
      let defined = each o flow.listed flow.on_nonterminal (subst (Goes a Synthesized) (sym flow.of_attribute) occurs.goes) in
      inl (defined_rule production (code.Top x) (subst (λ z. IsDefined production (code.Top z)) flow.of_attribute defined))

  pub forwards_top : Forwards production → DefinesTop a production
  forwards_top forwards x occurs = inr forwards

  -- an attribute on the left side without equation lacks one
  pub lacks_top : (o : Occurrence) → Contains a.occurrences o → o.nonterminal ≡ production.left → Goes a Synthesized o.attribute
      → ¬ IsDefined production (code.Top o.attribute) → ¬ Forwards production → LacksTop a production o.attribute
  lacks_top o listed on goes none forwards = record {
    occurs = record {
      goes = goes;
      on = (o.needs, record { occurrence = o; listed = listed; of_attribute = refl; on_nonterminal = on; needs_are = refl });
    };
    lacks = λ rule. none (top_rule production o.attribute rule);
    no_forward = forwards;
  }

  -- what a node reads one step down, at a child or local or at the forwarded tree
  record ReadAt (node : Node) (s : w.Step) (x : ℕ) : Type 0 where
    at : Place
    attribute : ℕ
    reads : node ≡ n.Read at attribute
    step : s ≡ w.step_to at
    same : x ≡ attribute

  read_at : (node : Node) (s : w.Step) (x : ℕ) → node_read node ≡ Some (w.synthesized s x) → ReadAt node s x ⊎ (s ≡ w.made w.forward)
  read_at (n.Label (place.Child k)) s x is = absurd (cc is)
  read_at (n.Label (place.Local k)) s x is = absurd (cc is)
  read_at (n.Read at attribute) s x is =
      let both = same_Some (w.synthesized (w.step_to at) attribute) (w.synthesized s x) is in
      let step : w.step_to at ≡ s = cc in
      let number : attribute ≡ x = cc in
      inl (record { at = at; attribute = attribute; reads = refl; step = sym step; same = sym number })
  read_at (n.Forward y) s x is =
      let both = same_Some (w.synthesized (w.made w.forward) y) (w.synthesized s x) is in
      let step : w.made w.forward ≡ s = cc in
      inr (sym step)
  read_at node s x is = absurd (cc is)

  -- where the reads of all expressions are defined, what is needed one step down is
  pub defines_below : ((e : Equation) → Contains production.equations e → DefinesReads a production e.nodes)
      → ((l : Local) → Contains production.locals l → DefinesReads a production l.nodes)
      → ((f : Forward) → production.forward ≡ Some f → DefinesReads a production f.nodes) → DefinesBelow a production
  defines_below equations locals forward s i needs = go needs.reads where
    of_rule : (v : w.Vertex) (nodes : List Node) → IsRule production v nodes → DefinesReads a production nodes
    of_rule v nodes (rules.by_equation e listed is same) = subst (DefinesReads a production) (sym same) (equations e listed)
    of_rule v nodes (rules.by_local x l there is same) =
        subst (DefinesReads a production) (sym same) (locals l (contains_at production.locals l x there))
    of_rule v nodes (rules.by_forward f there is same) = subst (DefinesReads a production) (sym same) (forward f there)

    by_read : (node : Node) → Contains needs.nodes node → ReadAt node s needs.attribute → HasRule production (w.inherited s i)
    by_read node listed read =
        let below = subst (λ z. IsBelow production z needs.nonterminal) read.step needs.below in
        let defined = of_rule needs.vertex needs.nodes needs.rule node listed read.at read.attribute needs.nonterminal i read.reads
        (tree_place production read.at needs.nonterminal below)
        (subst (λ z. Needs a z needs.nonterminal i) read.same needs.needs) in
        subst (λ z. HasRule production (w.inherited z i)) (sym read.step) (place_rule production read.at i defined)

    go : Reads needs.nodes (w.synthesized s needs.attribute) → HasRule production (w.inherited s i) ⊎ (s ≡ w.made w.forward)
    go (node, listed, is) = elim (read_at node s needs.attribute is) [ inl read ↦ inl (by_read node listed read) | inr other ↦ inr other ]

  module _ (is : IsAttribution a) where
    -- what a read of an expression lacks is lacked one step down
    pub lacks_below : (v : w.Vertex) (nodes : List Node) → IsRule production v nodes → (vertex : Vertex)
        → LacksReads a production nodes vertex → LacksBelow a production vertex
    lacks_below v nodes rule vertex (node, listed, lacks) =
        let goes = (flow_type_inherited a is lacks.attribute lacks.nonterminal lacks.inherited_one lacks.needs).1.goes in
        record {
          step = w.step_to lacks.at;
          inherited_one = lacks.inherited_one;
          names = ap (vertex_of a) lacks.is ∙ place_vertex a lacks.at Inherited lacks.inherited_one goes;
          needs = record {
            vertex = v;
            nodes = nodes;
            attribute = lacks.attribute;
            nonterminal = lacks.nonterminal;
            rule = rule;
            reads = (node, listed, ap node_read lacks.reads);
            below = below_place production lacks.at lacks.nonterminal lacks.tree;
            needs = lacks.needs;
          };
          lacks = λ has. lacks.lacks (subst (IsDefined production) (sym lacks.is) (rule_place production lacks.at lacks.inherited_one has));
          other = not_forward lacks.at;
        }

  -- what a node's read needs and isn't defined is what the node lacks
  pub lacks_read : (node : Node) (at : Place) (x m : ℕ) (needs : List ℕ) → node ≡ n.Read at x → IsTreeAt production at m
      → ((i : ℕ) → Contains needs i → Needs a x m i) → (vertex : Vertex) → LacksNeeds production at needs vertex
      → LacksRead a production node vertex
  lacks_read node at x m needs reads tree are vertex (i, has, is, lacks) = record {
    at = at;
    attribute = x;
    nonterminal = m;
    inherited_one = i;
    reads = reads;
    tree = tree;
    needs = are i has;
    is = is;
    lacks = lacks;
  }

  -- where all that a read needs is defined, the node's reads are
  pub defines_read : (node : Node) (at : Place) (x m : ℕ) (needs : List ℕ) → node ≡ n.Read at x → IsTreeAt production at m
      → ((i : ℕ) → Needs a x m i → Contains needs i) → ((i : ℕ) → Contains needs i → IsDefined production (attribute_at at i))
      → DefinesRead a production node
  defines_read node at x m needs reads tree are each other y k i is there need =
      let both : n.Read at x ≡ n.Read other y = sym reads ∙ is in
      let place_is : at ≡ other = cc in
      let number : x ≡ y = cc in
      let same_tree : m ≡ k = one_tree other m k (subst (λ z. IsTreeAt production z m) place_is tree) there in
      subst (λ z. IsDefined production (attribute_at z i)) place_is
      (each i (are i (subst (λ z. Needs a z m i) (sym number) (subst (λ z. Needs a y z i) (sym same_tree) need)))) where
        one_tree : (p : Place) (l o : ℕ) → IsTreeAt production p l → IsTreeAt production p o → l ≡ o
        one_tree p l o first second = let e = sym first ∙ second in cc

-- of the occurrence of a number it holds
pub of_number : (occurrences : List Occurrence) (Q : Occurrence → Type 0) (n : ℕ) (o : Occurrence) → slice_get occurrences n ≡ Some o → Q o
    → (p : Occurrence) → slice_get occurrences n ≡ Some p → Q p
of_number occurrences Q n o at holds p there = subst Q (at_once occurrences n o p at there) holds

-- what holds for each number of a row holds for each occurrence on the nonterminal
pub of_row : (a : AttributionParts) (rows : List (List ℕ)) → IsIndexOf a.occurrences rows → (m : ℕ) (row : List ℕ) → row ≡ get_or rows m []
    → (Q : Occurrence → Type 0) → ((k n : ℕ) → slice_get row k ≡ Some n → (o : Occurrence) → slice_get a.occurrences n ≡ Some o → Q o)
    → (o : Occurrence) → Contains a.occurrences o → o.nonterminal ≡ m → Q o
of_row a rows index m row same Q each o listed on =
    let (n, at) = place_of a.occurrences o listed in
    let (k, there) = place_of (get_or rows m []) n ((index m n).1 (o, at, on)) in
    each k n (subst (λ z. slice_get z k ≡ Some n) (sym same) there) o at

-- an inherited attribute that occurs on the start is one that it has
pub start_has : (a : AttributionParts) (start : Option ℕ) (m : ℕ) → start ≡ Some m → (o : Occurrence) → Contains a.occurrences o
    → o.nonterminal ≡ m → Goes a Inherited o.attribute → StartHas a start o.attribute
start_has a start m is o listed on goes = record {
  nonterminal = m;
  is_start = is;
  occurs = record {
    goes = goes;
    on = (o.needs, record { occurrence = o; listed = listed; of_attribute = refl; on_nonterminal = on; needs_are = refl });
  };
}

-- where no number of a row is that of an inherited attribute, the nonterminal inherits nothing
pub inherits_nothing : (a : AttributionParts) (rows : List (List ℕ)) → IsIndexOf a.occurrences rows → (m : ℕ) (row : List ℕ)
    → row ≡ get_or rows m []
    → ((k n : ℕ) → slice_get row k ≡ Some n → (o : Occurrence) → slice_get a.occurrences n ≡ Some o → ¬ Goes a Inherited o.attribute)
    → InheritsNothing a m
inherits_nothing a rows index m row same each i occurs =
    let flow = occurs.on.1 in
    of_row a rows index m row same (λ o. ¬ Goes a Inherited o.attribute) each flow.occurrence flow.listed flow.on_nonterminal
    (subst (Goes a Inherited) (sym flow.of_attribute) occurs.goes)

-- a production without a forward doesn't forward
pub none_forwards : (production : Production) → production.forward ≡ None → ¬ Forwards production
none_forwards production none forwards = let bad : is_some production.forward ≡ false = ap is_some none in cc

-- what is at a child or local that is there, and that there is nothing at another
pub child_kind_at : (production : Production) (children : List Child) (n : ℕ) (c : Child) → children ≡ production.children
    → n < length children → c ≡ get_or children n c → kind_at production (place.Child n) ≡ Some c.kind
child_kind_at production children n c same within is =
    ap (option_map (λ (x : Child). x.kind)) (subst (λ (z : List Child). slice_get z n ≡ Some c) same (read_item children n c within is))

pub local_kind_at : (production : Production) (locals : List Local) (n : ℕ) (l : Local) → locals ≡ production.locals
    → n < length locals → l ≡ get_or locals n l → kind_at production (place.Local n) ≡ Some (kinds.Value (kind.Tree l.nonterminal))
local_kind_at production locals n l same within is =
    ap (option_map (λ (x : Local). kinds.Value (kind.Tree x.nonterminal)))
    (subst (λ (z : List Local). slice_get z n ≡ Some l) same (read_item locals n l within is))

pub no_child_at : (production : Production) (children : List Child) (n m : ℕ) → children ≡ production.children → length children ≤ n
    → ¬ IsTreeAt production (place.Child n) m
no_child_at production children n m same past tree =
    let none = ap (option_map (λ (x : Child). x.kind))
    (subst (λ (z : List Child). slice_get z n ≡ None) same (slice_get_past children n past)) in
    let bad = sym none ∙ tree in cc

pub no_local_at : (production : Production) (locals : List Local) (n m : ℕ) → locals ≡ production.locals → length locals ≤ n
    → ¬ IsTreeAt production (place.Local n) m
no_local_at production locals n m same past tree =
    let none = ap (option_map (λ (x : Local). kinds.Value (kind.Tree x.nonterminal)))
    (subst (λ (z : List Local). slice_get z n ≡ None) same (slice_get_past locals n past)) in
    let bad = sym none ∙ tree in cc
