-- Expressions have their kinds in new numbers.
use Rattle.std.proofs.Common.{◌≡◌, ◌∙◌, ◌∷◌, [], ℕ, List, Some, All, map, option_map, slice_get, length, refl, sym, ap}
use Rattle.std.proofs.Common.{subst}
use Rattle.std.proofs.lemmas.List.{length-map}
use Rattle.std.proofs.lemmas.List.Elements.{All-head, All-tail, All-map}
use Rattle.std.proofs.lemmas.Option.{slice_get-map}
use Rattle.wb_lemmas.proofs.Elements.{all_at, all_contained, all_weaker, all_from_contained}
use Rattle.wb_lemmas.proofs.Places.{at_once}
use Rattle.wb_base.specs.declared.symbol.Kind.{Kind}
use Rattle.wb_base.specs.declared.symbol.Kind.TheVariants as kind
use Rattle.wb_syntax_expressions.specs.declared.node.Node.TheVariants as n
use Rattle.wb_operations.specs.Given.{IsPlainKind}
use Rattle.wb_operations.specs.Operations.{OperationSignature, IsPlainSignature}
use Rattle.wb_syntax_resolved.specs.declared.attributes.Attribute.{Attribute}
use Rattle.wb_syntax_resolved.specs.declared.attribution.AttributionParts.{AttributionParts}
use Rattle.wb_syntax_resolved.specs.declared.production.Child.{Child}
use Rattle.wb_syntax_resolved.specs.declared.production.ChildKind.{ChildKind}
use Rattle.wb_syntax_resolved.specs.declared.production.ChildKind.TheVariants as child
use Rattle.wb_syntax_resolved.specs.declared.production.Production.{Production}
use Rattle.wb_syntax_resolved.specs.Expression.{Expression, Expressions, Node}
use Rattle.wb_syntax_resolved.specs.Named.{IsNamedNode}
use Rattle.wb_syntax_resolved.specs.Numbered.{value_kind, signature_of, IsNumbered}
use Rattle.wb_types.specs.Kinds.{IsAttributeKind, HasKind, HaveKinds, int, text, truth, label, read, lexeme, top, forward, build, call}
use Rattle.wb_types.specs.Kinds.{if_then}
use Rattle.wb_types.specs.Kinds.{nothing, next}
use Rattle.wb_types.specs.Rules.{IsKnown, HasArity, IsOfKind}
use Rattle.wb_values.specs.Signature.{Signature}
use Rattle.wb_compose_theory_attributes.specs.Numbers.{NumberMap}
use Rattle.wb_compose_theory_attributes.specs.Rows.{new_kind, new_child_kind, new_child, new_attribute, new_node}
use Rattle.wb_compose_theory_attributes.specs.Seen.{IsSeenProduction, IsSeen}
use Rattle.wb_compose_theory_attributes.proofs.ExpressionLemmas.{new_expression, new_expressions, nodes_of_new}
use Rattle.wb_compose_theory_attributes.proofs.SeenLemmas.{kind_new, attribute_at, mapped}

-- plain kinds stay
plain_new : (t : NumberMap) (is : Kind) → IsPlainKind is → new_kind t is ≡ is
plain_new t kind.Int plain = refl
plain_new t kind.Bool plain = refl
plain_new t kind.Text plain = refl
plain_new t (kind.Tree m) plain = absurd plain

plain_all_new : (t : NumberMap) (ks : List Kind) → All IsPlainKind ks → map (new_kind t) ks ≡ ks
plain_all_new t [] plain = refl
plain_all_new t (k ∷ ks) plain =
    ap (λ z. z ∷ map (new_kind t) ks) (plain_new t k (All-head IsPlainKind k ks plain))
    ∙ ap (λ z. k ∷ z) (plain_all_new t ks (All-tail IsPlainKind k ks plain))

-- kinds of children
value_kind_new : (t : NumberMap) (c : ChildKind) → value_kind (new_child_kind t c) ≡ new_kind t (value_kind c)
value_kind_new t (child.Terminal number) = refl
value_kind_new t (child.Value is) = refl

children_new : (t : NumberMap) (cs : List Child) → map (λ (c : Child). value_kind c.kind) (map (new_child t) cs)
    ≡ map (new_kind t) (map (λ (c : Child). value_kind c.kind) cs)
children_new t [] = refl
children_new t (c ∷ cs) =
    ap (λ z. z ∷ map (λ (d : Child). value_kind d.kind) (map (new_child t) cs)) (value_kind_new t c.kind)
    ∙ ap (λ z. new_kind t (value_kind c.kind) ∷ z) (children_new t cs)

known_new : (t : NumberMap) (p : ℕ) (operations : List OperationSignature) (node : Node) → IsKnown operations node
    → IsKnown operations (new_node t p node)
known_new t p operations (n.Call name arguments) known = known
known_new t p operations node known = tt

pub all_known_new : (t : NumberMap) (p : ℕ) (operations : List OperationSignature) (nodes : List Node) → All (IsKnown operations) nodes
    → All (IsKnown operations) (map (new_node t p) nodes)
all_known_new t p operations nodes known =
    All-map (IsKnown operations) (new_node t p) nodes
    (all_weaker (IsKnown operations) (λ node. IsKnown operations (new_node t p node)) nodes (known_new t p operations) known)

module _ (s a : AttributionParts) (k : ℕ) (t : NumberMap) (seen : IsSeen s a k t) (numbered : IsNumbered s) (numbered' : IsNumbered a) where
  -- the signature of a production
  record SignatureThere (number : ℕ) (was : Signature) : Type 0 where
    there : Signature
    at : slice_get a.signatures (t.production number) ≡ Some there
    left : there.left ≡ t.nonterminal was.left
    children : there.children ≡ map (new_kind t) was.children

  signature_there : (number : ℕ) (was : Signature) → slice_get s.signatures number ≡ Some was → SignatureThere number was
  signature_there number was at =
      let mine = sym (slice_get-map (signature_of s.extensions) s.productions number)
      ∙ (sym (ap (λ z. slice_get z number) numbered.signatures) ∙ at) in
      let (row, at_row, is) = mapped (signature_of s.extensions) (slice_get s.productions number) was mine in
      let (there, at_there, same) = seen.productions number row at_row in
      record {
        there = signature_of a.extensions there;
        at = ap (λ z. slice_get z (t.production number)) numbered'.signatures
            ∙ (slice_get-map (signature_of a.extensions) a.productions (t.production number)
            ∙ ap (option_map (signature_of a.extensions)) at_there);
        left = same.left ∙ ap (λ (z : Signature). t.nonterminal z.left) is;
        children = ap (map (λ (c : Child). value_kind c.kind)) same.children
            ∙ (children_new t row.children ∙ ap (λ (z : Signature). map (new_kind t) z.children) is);
      }

  attribute_kind_new : (number : ℕ) (is : Kind) → IsAttributeKind s number is → IsAttributeKind a (t.attribute number) (new_kind t is)
  attribute_kind_new number is known =
      let (r, at, equal) = mapped (λ (z : Attribute). z.kind) (slice_get s.attributes number) is known in
      ap (option_map (λ (z : Attribute). z.kind)) (attribute_at s a k t seen number r at) ∙ ap (λ z. Some (new_kind t z)) equal

  -- the kind of what an attribute in new numbers has
  pub attribute_kind_back : (number : ℕ) (is : Kind) → IsAttributeKind a (t.attribute number) is
      → (from : Kind) × IsAttributeKind s number from × (is ≡ new_kind t from)
  attribute_kind_back number is known =
      let (big, at, equal) = mapped (λ (z : Attribute). z.kind) (slice_get a.attributes (t.attribute number)) is known in
      let (r, at_r, same) = mapped (new_attribute t k) (slice_get s.attributes number) big (sym (seen.attributes number) ∙ at) in
      (r.kind, ap (option_map (λ (z : Attribute). z.kind)) at_r, sym equal ∙ sym (ap (λ (z : Attribute). z.kind) same))

  module _ (operations : List OperationSignature) (plain : All IsPlainSignature operations) (p : ℕ) (row there : Production)
      (same : IsSeenProduction t k p row there) where
    mutual
      kind_of_new : {e : Expression} {is : Kind} → HasKind s operations row e is
          → HasKind a operations there (new_expression t p e) (new_kind t is)
      kind_of_new int = int
      kind_of_new text = text
      kind_of_new truth = truth
      kind_of_new (label {at = at} {k = is} known) = label (kind_new t k p row there same at (child.Value is) known)
      kind_of_new (read {number = number} {k = is} known) = read (attribute_kind_new number is known)
      kind_of_new lexeme = lexeme
      kind_of_new (top {number = number} {k = is} known) = top (attribute_kind_new number is known)
      kind_of_new (forward {number = number} {k = is} known) = forward (attribute_kind_new number is known)
      kind_of_new (build {number = number} {es = es} was at kinds is) =
          let new = signature_there number was at in
          build new.there new.at (subst (HaveKinds a operations there (new_expressions t p es)) (sym new.children) (kinds_of_new kinds))
          (ap (new_kind t) is ∙ ap kind.Tree (sym new.left))
      kind_of_new (call {es = es} number was at named kinds is) =
          let good = all_at IsPlainSignature operations number was plain at in
          call number was at named (subst (HaveKinds a operations there (new_expressions t p es))
          (plain_all_new t was.takes good.takes_plain)
          (kinds_of_new kinds)) (ap (new_kind t) is ∙ plain_new t was.gives good.gives_plain)
      kind_of_new (if_then condition holds fails) = if_then (kind_of_new condition) (kind_of_new holds) (kind_of_new fails)

      kinds_of_new : {es : Expressions} {ks : List Kind} → HaveKinds s operations row es ks
          → HaveKinds a operations there (new_expressions t p es) (map (new_kind t) ks)
      kinds_of_new nothing = nothing
      kinds_of_new (next kind_is kinds) = next (kind_of_new kind_is) (kinds_of_new kinds)

    pub of_kind_new : (nodes : List Node) (is : Kind) → IsOfKind s operations row nodes is
        → IsOfKind a operations there (map (new_node t p) nodes) (new_kind t is)
    of_kind_new nodes is (e, known, good) = (new_expression t p e, ap (map (new_node t p)) known ∙ nodes_of_new t p e, kind_of_new good)

    -- numbers of arguments
    build_arity : (number : ℕ) (children : List ℕ) (owner : ℕ) → HasArity s operations (n.Build number children)
        → IsNamedNode s row owner (n.Build number children) → HasArity a operations (n.Build (t.production number) children)
    build_arity number children owner arity sees there_is at =
        let was = signature_of s.extensions sees.production in
        let mine = ap (λ z. slice_get z number) numbered.signatures
        ∙ (slice_get-map (signature_of s.extensions) s.productions number ∙ ap (option_map (signature_of s.extensions)) sees.is) in
        let new = signature_there number was mine in
        let equal = at_once a.signatures (t.production number) new.there there_is new.at at in
        let count = arity was mine in
        let lengths : length new.there.children ≡ length was.children = ap length new.children ∙ length-map was.children (new_kind t) in
        count ∙ (sym lengths ∙ ap (λ (z : Signature). length z.children) equal)

    arity_new : (owner : ℕ) (node : Node) → HasArity s operations node → IsNamedNode s row owner node
        → HasArity a operations (new_node t p node)
    arity_new owner (n.Build number children) arity sees = build_arity number children owner arity sees
    arity_new owner (n.Call name arguments) arity sees = arity
    arity_new owner node arity sees = tt

    pub all_arities_new : (owner : ℕ) (nodes : List Node) → All (HasArity s operations) nodes → All (IsNamedNode s row owner) nodes
        → All (HasArity a operations) (map (new_node t p) nodes)
    all_arities_new owner nodes arities sees =
        All-map (HasArity a operations) (new_node t p) nodes
        (all_from_contained (λ node. HasArity a operations (new_node t p node)) nodes
        (λ node has. arity_new owner node (all_contained (HasArity s operations) nodes node arities has)
        (all_contained (IsNamedNode s row owner) nodes node sees has)))
