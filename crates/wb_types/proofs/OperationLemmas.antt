-- Operations and signatures by their numbers.
use Rattle.std.proofs.Common.{◌≡◌, ◌<◌, ◌≤◌, ◌↔◌, ℕ, List, Option, Some, None, length, refl, sym, ap, subst, ◌∙◌, slice_get}
use Rattle.std.proofs.Common.{IfSome, arith, true, eqb}
use Rattle.std.specs.Option.{IsSomeAnd, option_map}
use Rattle.std.proofs.lemmas.Option.{slice_get-map, slice_get_within}
use Rattle.wb_base.specs.declared.symbol.Kind.{Kind}
use Rattle.wb_base.specs.declared.symbol.Kind.TheVariants as kind
use Rattle.wb_base.specs.Different.{Differ}
use Rattle.wb_syntax_expressions.specs.declared.node.Node.TheVariants as n
use Rattle.std.proofs.lemmas.Bool.{eq-eqb}
use Rattle.wb_lemmas.proofs.Members.{contains_at}
use Rattle.wb_lemmas.proofs.Numbers.{eqb_true}
use Rattle.wb_lemmas.proofs.Places.{at_within, at_once}
use Rattle.wb_syntax_resolved.specs.Expression.{Node}
use Rattle.wb_values.specs.Signature.{Signature}
use Rattle.wb_operations.specs.Operations.{OperationSignature, HasOperation, IsOperation, names_of}
use Rattle.wb_syntax_resolved.specs.declared.attribution.AttributionParts.{AttributionParts}
use Rattle.wb_types.specs.Rules.{HasArity}
use Rattle.wb_types.specs.Inner.Nodes.{AreAt, BuildsKind, CallsKind}

-- what is there, of which a fact holds
some_at : {X : Type 0} (o : Option X) (P : X → Type 0) → IsSomeAnd o P → (x : X) × (o ≡ Some x) × P x
some_at None P holds = absurd holds
some_at (Some x) P holds = (x, refl, holds)

-- a fact of what is there
pub fact_at : {X : Type 0} (o : Option X) (P : X → Type 0) (x : X) → IfSome o P → o ≡ Some x → P x
fact_at None P x holds is = absurd (cc is)
fact_at (Some y) P x holds is = let e : y ≡ x = cc is in subst P e holds

-- the operation of a number that was found
pub operation_at : (operations : List OperationSignature) (name : List ℕ) (number : ℕ) → IsOperation operations name number
    → (s : OperationSignature) × (slice_get operations number ≡ Some s) × (s.name ≡ name)
operation_at operations name number is = some_at (slice_get operations number) (λ (s : OperationSignature). s.name ≡ name) is

-- its number is in range
pub operation_within : (operations : List OperationSignature) (name : List ℕ) (number : ℕ) → IsOperation operations name number
    → number < length operations
operation_within operations name number is =
    let (s, at, named) = operation_at operations name number is in
    slice_get_within operations number s at

-- the name of an operation is among the names
named_at : (operations : List OperationSignature) (number : ℕ) (s : OperationSignature) → slice_get operations number ≡ Some s
    → slice_get (names_of operations) number ≡ Some s.name
named_at operations number s at =
    slice_get-map (λ (s : OperationSignature). s.name) operations number ∙ ap (option_map (λ (s : OperationSignature). s.name)) at

-- operations of one name are one
pub one_operation : (operations : List OperationSignature) (name : List ℕ) (i j : ℕ) (s t : OperationSignature) → Differ
    (names_of operations)
    → slice_get operations i ≡ Some s → s.name ≡ name → slice_get operations j ≡ Some t → t.name ≡ name → s ≡ t
one_operation operations name i j s t differ at is there same =
    let named = named_at operations i s at ∙ ap Some is in
    let other = named_at operations j t there ∙ ap Some same in
    let e : i ≡ j = differ name i j named other in
    let same : Some s ≡ Some t = sym at ∙ ap (slice_get operations) e ∙ there in
    cc

-- an operation that is found takes these kinds, so the parts are of the kinds exactly where the call has the kind that it gives
pub calls_exact : (operations : List OperationSignature) (kinds : List (Option Kind)) (name : List ℕ) (arguments : List ℕ) (number : ℕ)
    (takes : List Kind) → Differ (names_of operations) → IsOperation operations name number
    → IfSome (slice_get operations number) (λ (s : OperationSignature). takes ≡ s.takes) → (is : Kind)
    → CallsKind operations kinds name arguments is → AreAt kinds arguments takes
calls_exact operations kinds name arguments number takes differ found takes_is is calls =
    let (s, at, named) = operation_at operations name number found in
    let one : calls.signature ≡ s = one_operation operations name calls.number number calls.signature s differ calls.listed calls.named at
    named in
    let kinds_is = fact_at (slice_get operations number) (λ (s : OperationSignature). takes ≡ s.takes) s takes_is at in
    subst (AreAt kinds arguments) (ap (λ (s : OperationSignature). s.takes) one ∙ sym kinds_is) calls.parts

pub calls_gives : (operations : List OperationSignature) (kinds : List (Option Kind)) (name : List ℕ) (arguments : List ℕ) (number : ℕ)
    (gives : Kind) → Differ (names_of operations) → IsOperation operations name number
    → IfSome (slice_get operations number) (λ (s : OperationSignature). gives ≡ s.gives) → (is : Kind)
    → CallsKind operations kinds name arguments is → gives ≡ is
calls_gives operations kinds name arguments number gives differ found gives_is is calls =
    let (s, at, named) = operation_at operations name number found in
    let one : calls.signature ≡ s = one_operation operations name calls.number number calls.signature s differ calls.listed calls.named at
    named in
    let kind_is = fact_at (slice_get operations number) (λ (s : OperationSignature). gives ≡ s.gives) s gives_is at in
    kind_is ∙ sym (calls.whole ∙ ap (λ (s : OperationSignature). s.gives) one)

-- the call has the kind that the operation gives, where the parts are of the kinds that it takes
pub gives_calls : (operations : List OperationSignature) (kinds : List (Option Kind)) (name : List ℕ) (arguments : List ℕ) (number : ℕ)
    (takes : List Kind) (gives : Kind) → IsOperation operations name number
    → IfSome (slice_get operations number) (λ (s : OperationSignature). takes ≡ s.takes)
    → IfSome (slice_get operations number) (λ (s : OperationSignature). gives ≡ s.gives)
    → AreAt kinds arguments takes → CallsKind operations kinds name arguments gives
gives_calls operations kinds name arguments number takes gives found takes_is gives_is parts =
    let (s, at, named) = operation_at operations name number found in
    let kinds_is = fact_at (slice_get operations number) (λ (s : OperationSignature). takes ≡ s.takes) s takes_is at in
    let kind_is = fact_at (slice_get operations number) (λ (s : OperationSignature). gives ≡ s.gives) s gives_is at in
    record {
      number = number;
      signature = s;
      listed = at;
      named = named;
      parts = subst
          (AreAt kinds arguments) kinds_is parts;
      whole = kind_is;
    }

-- a name that was found is known
pub found_known : (operations : List OperationSignature) (name : List ℕ) (number : ℕ) → IsOperation operations name number
    → HasOperation operations name
found_known operations name number found =
    let (s, at, named) = operation_at operations name number found in
    contains_at (names_of operations) name number (named_at operations number s at ∙ ap Some named)

-- where a name isn't known, no operation has it
pub unknown_none : (operations : List OperationSignature) (name : List ℕ) (number : ℕ) (s : OperationSignature)
    → ¬ HasOperation operations name
    → slice_get operations number ≡ Some s → s.name ≡ name → ⊥
unknown_none operations name number s unknown at named =
    unknown (contains_at (names_of operations) name number (named_at operations number s at ∙ ap Some named))

-- the operation that was found takes as many as are there, exactly where the call has the right number
pub arity_found : (a : AttributionParts) (operations : List OperationSignature) (name : List ℕ) (arguments : List ℕ) (number : ℕ)
    (takes : List Kind) → Differ (names_of operations) → IsOperation operations name number
    → IfSome (slice_get operations number) (λ (s : OperationSignature). takes ≡ s.takes)
    → (length arguments ≡ length takes) ↔ HasArity a operations (n.Call name arguments)
arity_found a operations name arguments number takes differ found takes_is =
    let (s, at, named) = operation_at operations name number found in
    let kinds_is = fact_at (slice_get operations number) (λ (s : OperationSignature). takes ≡ s.takes) s takes_is at in (
      λ e. λ j t there same. let one : t ≡ s = one_operation operations name j number t s differ there same at named in
          e ∙ ap length (kinds_is ∙ sym (ap (λ (s : OperationSignature). s.takes) one)),
      λ has. has number s at named ∙ sym (ap length kinds_is),
    )

-- a tree of a production that isn't there has the right number of children
pub built_past : (a : AttributionParts) (operations : List OperationSignature) (node : Node) (number : ℕ) (children : List ℕ)
    → node ≡ n.Build number children → length a.signatures ≤ number → HasArity a operations node
built_past a operations node number children is past = subst (HasArity a operations) (sym is) (λ s at. absurd (
    let within = slice_get_within a.signatures number s at in
    omega (arith, within, past)))

-- a tree has the right number exactly where it has as many as its production's children
pub built_exact : (a : AttributionParts) (operations : List OperationSignature) (node : Node) (number : ℕ) (children : List ℕ)
    (kinds : List Kind) (count : ℕ) → node ≡ n.Build number children → number < length a.signatures
    → IfSome (slice_get a.signatures number) (λ (s : Signature). kinds ≡ s.children) → count ≡ length children
    → (eqb (length kinds) count ≡ true) ↔ HasArity a operations node
built_exact a operations node number children kinds count is within kinds_are counted =
    let (s, at) = at_within a.signatures number within in
    let same : kinds ≡ s.children = fact_at (slice_get a.signatures number) (λ (s : Signature). kinds ≡ s.children) s kinds_are at in (
      λ e. subst (HasArity a operations) (sym is) (λ t there.
          let one = at_once a.signatures number s t at there in
          sym counted ∙ sym (eqb_true (length kinds) count e) ∙ ap length (same ∙ ap (λ (s : Signature). s.children) one)),
      λ has. eq-eqb (length kinds) count
          (ap length same ∙ sym (counted ∙ subst (HasArity a operations) is has s at)),
    )

-- the parts of a tree are of the kinds of its production's children
pub builds_exact : (signatures : List Signature) (kinds : List (Option Kind)) (number : ℕ) (places : List ℕ) (children : List Kind)
    → IfSome (slice_get signatures number) (λ (s : Signature). children ≡ s.children) → (is : Kind)
    → BuildsKind signatures kinds number places is → AreAt kinds places children
builds_exact signatures kinds number places children are is builds =
    subst (AreAt kinds places) (sym (fact_at (slice_get signatures number) (λ (s : Signature). children ≡ s.children) builds.signature are
    builds.listed)) builds.parts

-- a tree is of the production's left side
pub builds_left : (signatures : List Signature) (kinds : List (Option Kind)) (number : ℕ) (places : List ℕ) (left : ℕ)
    → IfSome (slice_get signatures number) (λ (s : Signature). left ≡ s.left) → (is : Kind)
    → BuildsKind signatures kinds number places is → kind.Tree left ≡ is
builds_left signatures kinds number places left left_is is builds =
    ap kind.Tree (fact_at (slice_get signatures number) (λ (s : Signature). left ≡ s.left) builds.signature left_is builds.listed)
    ∙ sym builds.whole

-- where the parts are of those kinds, it is one
pub left_builds : (signatures : List Signature) (kinds : List (Option Kind)) (number : ℕ) (places : List ℕ) (children : List Kind)
    (left : ℕ) → number < length signatures → IfSome (slice_get signatures number) (λ (s : Signature). children ≡ s.children)
    → IfSome (slice_get signatures number) (λ (s : Signature). left ≡ s.left) → AreAt kinds places children
    → BuildsKind signatures kinds number places (kind.Tree left)
left_builds signatures kinds number places children left within are left_is parts =
    let (s, at) = at_within signatures number within in
    record {
      signature = s;
      listed = at;
      parts = subst (AreAt kinds places)
          (fact_at (slice_get signatures number) (λ (z : Signature). children ≡ z.children) s are at) parts;
      whole = ap kind.Tree (fact_at (slice_get signatures number) (λ (z : Signature). left ≡ z.left) s left_is at);
    }
