-- The kinds of nodes are those of their expressions.
use Rattle.std.proofs.Common.{◌≡◌, ◌<◌, ◌+◌, ◌↔◌, ◌∷◌, ◌++◌, [], ℕ, zero, suc, List, Option, Some, All, length, refl, sym, ap, subst, ◌∙◌}
use Rattle.std.proofs.Common.{◌⊎◌, inl, inr, slice_get, arith}
use Rattle.std.proofs.Math.Decide.{dec_lt}
use Rattle.wb_lemmas.proofs.Places.{push_last, push_before}
use Rattle.std.proofs.lemmas.List.Elements.{All-head, All-tail}
use Rattle.wb_base.specs.declared.symbol.Kind.{Kind}
use Rattle.wb_base.specs.declared.symbol.Kind.TheVariants as kind
use Rattle.wb_syntax_expressions.specs.declared.node.Node.TheVariants as n
use Rattle.wb_syntax_expressions.specs.Expression as x
use Rattle.wb_syntax_expressions.specs.Places.{HasNode, HasPartsBefore, Stands, AllStand}
use Rattle.wb_syntax_expressions.specs.Places as p
use Rattle.wb_operations.specs.Operations.{OperationSignature}
use Rattle.wb_syntax_resolved.specs.declared.attribution.AttributionParts.{AttributionParts}
use Rattle.wb_syntax_resolved.specs.declared.equation.Place.{Place}
use Rattle.wb_syntax_resolved.specs.declared.production.Production.{Production}
use Rattle.wb_syntax_resolved.specs.Expression.{Expression, Expressions, Node}
use Rattle.wb_syntax_resolved.specs.declared.production.ChildKind.TheVariants as child
use Rattle.wb_syntax_resolved.specs.Visible.{kind_at}
use Rattle.wb_values.specs.Signature.{Signature}
use Rattle.wb_types.specs.Kinds.{HasKind, HaveKinds, IsAttributeKind}
use Rattle.wb_types.specs.Kinds as k
use Rattle.wb_types.specs.Inner.Nodes.{IsAt, AreAt, NodeHasKind, AreKept}

-- what holds of the form of a node holds of the node
pub of_node : (a : AttributionParts) (operations : List OperationSignature) (production : Production) (kinds : List (Option Kind))
    (node form : Node)
    (r : Option Kind) (is : Kind) → node ≡ form → (r ≡ Some is) ↔ NodeHasKind a operations production kinds form is
    → (r ≡ Some is) ↔ NodeHasKind a operations production kinds node is
of_node a operations production kinds node form r is e exact =
    subst (λ (z : Node). (r ≡ Some is) ↔ NodeHasKind a operations production kinds z is) (sym e) exact

-- a node that reads an attribute, wherever, has the attribute's kind
pub of_attribute : (a : AttributionParts) (operations : List OperationSignature) (production : Production) (kinds : List (Option Kind))
    (node : Node) (attribute : ℕ) (r : Option Kind) (is : Kind)
    → (((at : Place) × (node ≡ n.Read at attribute)) ⊎ ((node ≡ n.Top attribute) ⊎ (node ≡ n.Forward attribute)))
    → (r ≡ Some is) ↔ IsAttributeKind a attribute is → (r ≡ Some is) ↔ NodeHasKind a operations production kinds node is
of_attribute a operations production kinds node attribute r is (inl (at, e)) exact =
    of_node a operations production kinds node (n.Read at attribute) r is e exact
of_attribute a operations production kinds node attribute r is (inr (inl e)) exact =
    of_node a operations production kinds node (n.Top attribute) r is e exact
of_attribute a operations production kinds node attribute r is (inr (inr e)) exact =
    of_node a operations production kinds node (n.Forward attribute) r is e exact

module _ (a : AttributionParts) (operations : List OperationSignature) (production : Production) where
  -- the first of several parts, and the others
  first_part : (kinds : List (Option Kind)) (at : ℕ) (places : List ℕ) (is : Kind) (are : List Kind) → AreAt kinds (at ∷ places) (is ∷ are)
      → IsAt kinds at is × AreAt kinds places are
  first_part kinds at places is are parts = (
    parts.each 0 at is refl refl,
    record { count = let e = parts.count in omega (arith, e); each = λ i p q here there. parts.each (suc i) p q here there },
  )

  with_first : (kinds : List (Option Kind)) (at : ℕ) (places : List ℕ) (is : Kind) (are : List Kind) → IsAt kinds at is
      → AreAt kinds places are
      → AreAt kinds (at ∷ places) (is ∷ are)
  with_first kinds at places is are here rest = record { count = ap suc rest.count; each = each } where
    each : (i p : ℕ) (q : Kind) → slice_get (at ∷ places) i ≡ Some p → slice_get (is ∷ are) i ≡ Some q → IsAt kinds p q
    each zero p q e f = let g : at ≡ p = cc in let h : is ≡ q = cc in subst (λ z. IsAt kinds z q) g (subst (IsAt kinds at) h here)
    each (suc i) p q e f = rest.each i p q e f

  -- what has a kind, by its form
  abbrev KindFacts : Expression → Kind → Type 0
  KindFacts (x.Int z) is = is ≡ kind.Int
  KindFacts (x.Text s) is = is ≡ kind.Text
  KindFacts (x.Truth b) is = is ≡ kind.Bool
  KindFacts (x.Label at) is = kind_at production at ≡ Some (child.Value is)
  KindFacts (x.Read at number) is = IsAttributeKind a number is
  KindFacts (x.Lexeme at) is = is ≡ kind.Text
  KindFacts (x.Top number) is = IsAttributeKind a number is
  KindFacts (x.Forward number) is = IsAttributeKind a number is
  KindFacts (x.Build number es) is =
      (s : Signature) × (slice_get a.signatures number ≡ Some s) × HaveKinds a operations production es s.children × (is ≡ kind.Tree s.left)
  KindFacts (x.Call name es) is =
      (number : ℕ) × (s : OperationSignature) × (slice_get operations number ≡ Some s) × (s.name ≡ name)
      × HaveKinds a operations production es s.takes × (is ≡ s.gives)
  KindFacts (x.If condition holds fails) is =
      HasKind a operations production condition kind.Bool × HasKind a operations production holds is
      × HasKind a operations production fails is

  facts : {e : Expression} {is : Kind} → HasKind a operations production e is → KindFacts e is
  facts k.int = refl
  facts k.text = refl
  facts k.truth = refl
  facts (k.label at) = at
  facts (k.read at) = at
  facts k.lexeme = refl
  facts (k.top at) = at
  facts (k.forward at) = at
  facts (k.build s at have e) = (s, at, have, e)
  facts (k.call number s at named have e) = (number, s, at, named, have, e)
  facts (k.if_then condition holds fails) = (condition, holds, fails)

  -- what several have, by their form
  abbrev KindsFacts : Expressions → List Kind → Type 0
  KindsFacts x.none are = are ≡ []
  KindsFacts (x.more e es) are = (is : Kind) × (rest : List Kind) × (are ≡ is ∷ rest) × HasKind a operations production e is
      × HaveKinds a operations production es rest

  all_facts : {es : Expressions} {are : List Kind} → HaveKinds a operations production es are → KindsFacts es are
  all_facts k.nothing = refl
  all_facts (k.next {k = is} {ks = rest} first more) = (is, rest, refl, first, more)

  module _ (nodes : List Node) (kinds : List (Option Kind)) (count : ℕ) (kept : AreKept a operations production nodes kinds count) where
    -- parts are of these kinds where their expressions are, and they are where the parts are
    parts_have : {places : List ℕ} {es : Expressions} → AllStand nodes places es → (are : List Kind) → All (λ part. part < count) places
        → AreAt kinds places are → HaveKinds a operations production es are
    parts_have p.nothing [] before parts = k.nothing
    parts_have p.nothing (is ∷ are) before parts = absurd (let e = parts.count in omega (arith, e))
    parts_have (p.next here rest) [] before parts = absurd (let e = parts.count in omega (arith, e))
    parts_have (p.next {at = at} {places = places} {e = e} {es = es} here rest) (is ∷ are) before parts =
        let both = first_part kinds at places is are parts in
        k.next ((kept at e is (All-head (λ part. part < count) at places before) here).0 both.0)
        (parts_have rest are (All-tail (λ part. part < count) at places before) both.1)

    have_parts : {places : List ℕ} {es : Expressions} → AllStand nodes places es → (are : List Kind) → All (λ part. part < count) places
        → HaveKinds a operations production es are → AreAt kinds places are
    have_parts p.nothing are before have =
        subst (AreAt kinds []) (sym (all_facts have)) (record { count = refl; each = λ i at is here there. absurd (cc here) })
    have_parts (p.next {at = at} {places = places} {e = e} {es = es} here rest) are before have =
        let (is, others, same, first, more) = all_facts have in
        subst (AreAt kinds (at ∷ places)) (sym same)
        (with_first kinds at places is others ((kept at e is (All-head (λ part. part < count) at places before) here).1 first)
        (have_parts rest others (All-tail (λ part. part < count) at places before) more))

    -- the node of an expression
    record FormOf (at : ℕ) (e : Expression) : Type 0 where
      pub form : Node
      pub has : HasNode nodes at form
      pub exact : (is : Kind) → NodeHasKind a operations production kinds form is ↔ HasKind a operations production e is

    form_of : {at : ℕ} {e : Expression} → Stands nodes at e → HasPartsBefore nodes → at ≡ count → FormOf at e
    form_of (p.int {z = z} h) before last =
        record {
          form = n.Int z;
          has = h;
          exact = λ is. (
            λ e. let f : is ≡ kind.Int = e in subst
                (HasKind a operations production (x.Int z)) (sym f) k.int,
            λ have. facts have,
          );
        }
    form_of (p.text {s = s} h) before last =
        record {
          form = n.Text s;
          has = h;
          exact = λ is. (
            λ e. let f : is ≡ kind.Text = e in subst
                (HasKind a operations production (x.Text s)) (sym f) k.text,
            λ have. facts have,
          );
        }
    form_of (p.truth {b = b} h) before last =
        record {
          form = n.Bool b;
          has = h;
          exact = λ is. (
            λ e. let f : is ≡ kind.Bool = e in subst
                (HasKind a operations production (x.Truth b)) (sym f) k.truth,
            λ have. facts have,
          );
        }
    form_of (p.label {l = l} h) before last = record { form = n.Label l; has = h; exact = λ is. (λ e. k.label e, λ have. facts have) }
    form_of (p.read {l = l} {a = number} h) before last = record {
      form = n.Read l number;
      has = h;
      exact = λ is.
          (λ e. k.read e, λ have. facts have);
    }
    form_of (p.lexeme {l = l} h) before last =
        record {
          form = n.Lexeme l;
          has = h;
          exact = λ is. (
            λ e. let f : is ≡ kind.Text = e in subst
                (HasKind a operations production (x.Lexeme l)) (sym f) k.lexeme,
            λ have. facts have,
          );
        }
    form_of (p.top {a = number} h) before last = record { form = n.Top number; has = h; exact = λ is. (λ e. k.top e, λ have. facts have) }
    form_of (p.forward {a = number} h) before last = record {
      form = n.Forward number;
      has = h;
      exact = λ is.
          (λ e. k.forward e, λ have. facts have);
    }
    form_of {at} (p.build {name = number} {places = places} {es = es} h parts) before last =
        let below = subst (λ (z : ℕ). All (λ part. part < z) places) last (before at (n.Build number places) h) in
        record {
          form = n.Build number places;
          has = h;
          exact = λ is. (
            λ b. k.build b.signature b.listed (parts_have parts b.signature.children below b.parts) b.whole,
            λ have. let (s, there, arguments, whole) = facts have in
                record { signature = s; listed = there; parts = have_parts parts s.children below arguments; whole = whole },
          );
        }
    form_of {at} (p.call {name = name} {places = places} {es = es} h parts) before last =
        let below = subst (λ (z : ℕ). All (λ part. part < z) places) last (before at (n.Call name places) h) in
        record {
          form = n.Call name places;
          has = h;
          exact = λ is. (
            λ b. k.call b.number b.signature b.listed b.named (parts_have parts b.signature.takes below b.parts) b.whole,
            λ have. let (number, s, there, named, arguments, whole) = facts have in
                record {
                  number = number;
                  signature = s;
                  listed = there;
                  named = named;
                  parts = have_parts parts s.takes below arguments;
                  whole = whole;
                },
          );
        }
    form_of {at}
        (p.if_then {c = c} {h = y} {f = z} {condition = condition} {holds = holds} {fails = fails} has first second third) before last =
        let below = subst (λ (w : ℕ). All (λ part. part < w) (c ∷ y ∷ z ∷ [])) last (before at (n.If c y z) has) in
        let b0 : c < count = All-head (λ part. part < count) c (y ∷ z ∷ []) below in
        let rest1 = All-tail (λ part. part < count) c (y ∷ z ∷ []) below in
        let b1 : y < count = All-head (λ part. part < count) y (z ∷ []) rest1 in
        let b2 : z < count = All-head (λ part. part < count) z [] (All-tail (λ part. part < count) y (z ∷ []) rest1) in
        record {
          form = n.If c y z;
          has = has;
          exact = λ is. (
            λ b. let (u, v, w) = b in
                k.if_then ((kept c condition kind.Bool b0 first).0 u) ((kept y holds is b1 second).0 v) ((kept z fails is b2 third).0 w),
            λ have. let (u, v, w) = facts have in
                ((kept c condition kind.Bool b0 first).1 u, (kept y holds is b1 second).1 v, (kept z fails is b2 third).1 w),
          );
        }

  -- a node at a place is one
  one_node : (nodes : List Node) (at : ℕ) (node other : Node) → HasNode nodes at node → HasNode nodes at other → node ≡ other
  one_node nodes at node other here there = sym (here.is node) ∙ there.is node

  -- with the kind of one node more, the kinds kept are those of the expressions
  pub kept_more : (nodes : List Node) (kinds : List (Option Kind)) (count : ℕ) (node : Node) (found : Option Kind) → HasPartsBefore nodes
      → length kinds ≡ count → AreKept a operations production nodes kinds count → HasNode nodes count node
      → ((is : Kind) → (found ≡ Some is) ↔ NodeHasKind a operations production kinds node is)
      → AreKept a operations production nodes (kinds ++ found ∷ []) (count + 1)
  kept_more nodes kinds count node found before len kept has exact at e is lt stands = cases (dec_lt at count) where
    earlier : at < count → IsAt (kinds ++ found ∷ []) at is ↔ HasKind a operations production e is
    earlier below =
        let same : slice_get (kinds ++ found ∷ []) at ≡ slice_get kinds at = push_before kinds found at (omega (arith, below, len)) in
        let was = kept at e is below stands in
        (λ here. was.0 (sym same ∙ here), λ have. same ∙ was.1 have)

    last : (at < count → ⊥) → IsAt (kinds ++ found ∷ []) at is ↔ HasKind a operations production e is
    last above =
        let here : at ≡ count = omega (arith, above, lt) in
        let there : slice_get (kinds ++ found ∷ []) at ≡ Some found = ap (slice_get (kinds ++ found ∷ [])) (here ∙ sym len)
        ∙ push_last kinds found in
        let form = form_of nodes kinds count kept stands before here in
        let one : node ≡ form.form = one_node nodes count node form.form has (subst (λ z. HasNode nodes z form.form) here form.has) in (
          λ shown. let g : Some found ≡ Some (Some is) = sym there ∙ shown in let f : found ≡ Some is = cc in
              (form.exact is).0 (subst (λ z. NodeHasKind a operations production kinds z is) one ((exact is).0 f)),
          λ have. there ∙ ap Some ((exact is).1 (subst (λ z. NodeHasKind a operations production kinds z is) (sym one)
              ((form.exact is).1 have))),
        )

    cases : Dec (at < count) → IsAt (kinds ++ found ∷ []) at is ↔ HasKind a operations production e is
    cases (yes below) = earlier below
    cases (no above) = last above
