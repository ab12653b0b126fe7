-- What passes a rule, node by node and expression by expression.
use Rattle.std.proofs.Common.{◌≡◌, ◌<◌, ◌≤◌, ◌+◌, ◌-◌, ◌∷◌, ◌++◌, [], ℕ, List, Option, Some, All, length, take, get_or, refl, sym, ap}
use Rattle.std.proofs.Common.{subst, ◌∙◌, slice_get, arith, Contains}
use Rattle.std.proofs.lemmas.List.{take_more, take_all}
use Rattle.std.proofs.lemmas.Option.{slice_get-get_or}
use Rattle.wb_lemmas.proofs.Elements.{all_contained}
use Rattle.wb_lemmas.proofs.Members.{contains_at}
use Rattle.std.proofs.lemmas.List.Elements.{All-push}
use Rattle.wb_base.specs.declared.symbol.Kind.{Kind}
use Rattle.wb_base.specs.declared.symbol.Kind.TheVariants as kind
use Rattle.wb_syntax_expressions.specs.declared.node.Node.TheVariants as n
use Rattle.wb_syntax_expressions.specs.Expression.{IsWhole}
use Rattle.wb_syntax_expressions.proofs.PartLemmas.{whole_some}
use Rattle.wb_syntax_expressions.proofs.PlaceLemmas.{whole_stands}
use Rattle.wb_operations.specs.Operations.{OperationSignature, HasOperation}
use Rattle.wb_syntax_resolved.specs.declared.attribution.AttributionParts.{AttributionParts}
use Rattle.wb_syntax_resolved.specs.declared.production.Production.{Production}
use Rattle.wb_syntax_resolved.specs.Expression.{Node}
use Rattle.wb_syntax_resolved.specs.declared.equation.Equation.{Equation}
use Rattle.wb_syntax_resolved.specs.declared.production.Forward.{Forward}
use Rattle.wb_syntax_resolved.specs.declared.production.Local.{Local}
use Rattle.wb_types.specs.declared.context.Rule.{Rule}
use Rattle.wb_types.specs.declared.context.Rule.TheVariants as rule
use Rattle.wb_types.specs.declared.refusal.TypeRefusal.{TypeRefusal}
use Rattle.wb_types.specs.declared.refusal.TypeRefusal.TheVariants as r
use Rattle.wb_types.specs.Expected.{IsExpected, attribute_of}
use Rattle.wb_types.specs.Expected as s
use Rattle.wb_types.specs.Kinds.{IsAttributeKind}
use Rattle.wb_types.specs.Refusals.{IsTrueRefusal}
use Rattle.wb_types.specs.Rules.{IsKnown, HasArity, IsOfKind, AreKnown, HaveArities}
use Rattle.wb_types.specs.Inner.Nodes.{IsAt, AreKept}
use Rattle.wb_types.specs.Inner.Passes.{IsUnknownIn, Passes, Fails, AllPass, SomeFails, AnyFails}

-- what holds of those before a place and of the one there holds of one more
pub taken_more : {X : Type 0} (P : X → Type 0) (xs : List X) (i : ℕ) (x : X) → All P (take i xs) → i < length xs → x ≡ get_or xs i x → P x
    → All P (take (i + 1) xs)
taken_more P xs i x all within is holds =
    subst (All P) (sym (take_more xs i x within ∙ ap (λ z. take i xs ++ z ∷ []) (sym is))) (All-push P (take i xs) x all holds)

-- at the end all hold
pub taken_all : {X : Type 0} (P : X → Type 0) (xs : List X) (i : ℕ) → All P (take i xs) → length xs ≤ i → All P xs
taken_all P xs i all ended = subst (All P) (take_all i xs ended) all

-- at the end each that is listed holds
pub each_taken : {X : Type 0} (P : X → Type 0) (ys xs : List X) (i : ℕ) → ys ≡ xs → All P (take i ys) → length ys ≤ i
    → (x : X) → Contains xs x → P x
each_taken P ys xs i same all ended x listed = all_contained P xs x (subst (All P) same (taken_all P ys i all ended)) listed

-- a node that calls nothing calls nothing unknown
pub calls_nothing : (operations : List OperationSignature) (node : Node)
    → ((name : List ℕ) (arguments : List ℕ) → node ≡ n.Call name arguments → ⊥) → IsKnown operations node
calls_nothing operations (n.Call name arguments) other = absurd (other name arguments refl)
calls_nothing operations node other = tt

module _ (a : AttributionParts) (operations : List OperationSignature) (production : Production) (nodes : List Node)
    (kinds : List (Option Kind))
    (kept : AreKept a operations production nodes kinds (length nodes)) (is : Kind) where
  -- the last node has the kind, so the whole has it
  pub last_whole : IsWhole nodes → IsAt kinds (length nodes - 1) is → IsOfKind a operations production nodes is
  last_whole whole at =
      let some = whole_some nodes whole in
      (whole.0, whole.1, (kept (length nodes - 1) whole.0 is (omega (arith, some)) (whole_stands nodes whole.0 whole.1).0).0 at)

  -- the whole has the kind, so its last node has it
  pub whole_last : IsOfKind a operations production nodes is → IsAt kinds (length nodes - 1) is
  whole_last (e, same, have) =
      let some = whole_some nodes (e, same) in
      (kept (length nodes - 1) e is (omega (arith, some)) (whole_stands nodes e same).0).1 have

-- an expression that fails is one of its production's
pub some_fails : (rule : Rule) (a : AttributionParts) (operations : List OperationSignature) (production : Production) (nodes : List Node)
    (is : Kind)
    (offset : ℕ) → IsExpected a production nodes is offset → (refusal : TypeRefusal)
    → Fails rule a operations production nodes is offset refusal → SomeFails rule a operations production refusal
some_fails rule a operations production nodes is offset asked refusal fails =
    record { nodes = nodes; is = is; offset = offset; asked = asked; fails = fails }

-- a production in which one fails is one of the attribution's
pub any_fails : (rule : Rule) (a : AttributionParts) (operations : List OperationSignature) (production : Production)
    → Contains a.productions production
    → (refusal : TypeRefusal) → SomeFails rule a operations production refusal → AnyFails rule a operations refusal
any_fails rule a operations production listed refusal fails = record { production = production; listed = listed; fails = fails }

-- all of a production's expressions pass where its locals', its forward's and its equations' do
pub all_pass : (rule : Rule) (a : AttributionParts) (operations : List OperationSignature) (production : Production)
    → ((l : Local) → Contains production.locals l → Passes rule a operations production l.nodes (kind.Tree l.nonterminal))
    → ((f : Forward) → production.forward ≡ Some f → Passes rule a operations production f.nodes (kind.Tree production.left))
    → ((e : Equation) (is : Kind) → Contains production.equations e → IsAttributeKind a (attribute_of e.target) is
    → Passes rule a operations production e.nodes is)
    → AllPass rule a operations production
all_pass rule a operations production locals forward equations nodes is offset asked = at asked where
  at : IsExpected a production nodes is offset → Passes rule a operations production nodes is
  at (s.local l listed e f g) =
      subst (λ z. Passes rule a operations production z is) (sym e)
      (subst (Passes rule a operations production l.nodes) (sym f) (locals l listed))
  at (s.forward y there e f g) =
      subst (λ z. Passes rule a operations production z is) (sym e)
      (subst (Passes rule a operations production y.nodes) (sym f) (forward y there))
  at (s.equation y listed e f g) = subst (λ z. Passes rule a operations production z is) (sym e) (equations y is listed f)

-- what the production forwards to passes where its nodes do
pub forward_passes : (rule : Rule) (a : AttributionParts) (operations : List OperationSignature) (production : Production) (f : Forward)
    (nodes : List Node) → production.forward ≡ Some f → nodes ≡ f.nodes
    → Passes rule a operations production nodes (kind.Tree production.left) → (g : Forward) → production.forward ≡ Some g
    → Passes rule a operations production g.nodes (kind.Tree production.left)
forward_passes rule a operations production f nodes there same passes g here =
    let some : Some f ≡ Some g = sym there ∙ here in let one : f ≡ g = cc in
    subst (λ z. Passes rule a operations production z (kind.Tree production.left)) (same ∙ ap (λ (z : Forward). z.nodes) one) passes

-- a node that neither builds nor calls has the right number
pub other_arity : (a : AttributionParts) (operations : List OperationSignature) (node : Node)
    → ((number : ℕ) (children : List ℕ) → node ≡ n.Build number children → ⊥)
    → ((name : List ℕ) (arguments : List ℕ) → node ≡ n.Call name arguments → ⊥) → HasArity a operations node
other_arity a operations (n.Build number children) build call = absurd (build number children refl)
other_arity a operations (n.Call name arguments) build call = absurd (call name arguments refl)
other_arity a operations node build call = tt

-- an expression that fails the first rule calls what isn't there
pub known_refused : (a : AttributionParts) (operations : List OperationSignature) (refusal : TypeRefusal)
    → AnyFails rule.Known a operations refusal → IsTrueRefusal a operations refusal
known_refused a operations (r.UnknownOperation name) any = let found = any.fails in let calls = found.fails in
    record {
      offset = found.offset;
      expression = record {
        production = any.production;
        listed = any.listed;
        nodes = found.nodes;
        expected = found.is;
        is_expected = found.asked;
      };
      arguments = calls.arguments;
      calls = calls.calls;
      unknown = calls.unknown;
    }
known_refused a operations (r.WrongArity at) any = absurd any.fails.fails
known_refused a operations (r.TypeMismatch at) any = absurd any.fails.fails
known_refused a operations (r.NoMemory error) any = tt

-- one that fails the second, where the first holds, has a wrong number of arguments
pub arity_refused : (a : AttributionParts) (operations : List OperationSignature) → AreKnown a operations → (refusal : TypeRefusal)
    → AnyFails rule.Arity a operations refusal → IsTrueRefusal a operations refusal
arity_refused a operations known refusal any =
    let found = any.fails in
    subst (IsTrueRefusal a operations) (sym found.fails.0) (record {
      known = known;
      expression = record {
        production = any.production;
        listed = any.listed;
        nodes = found.nodes;
        expected = found.is;
        is_expected = found.asked;
      };
      wrong = found.fails.1;
    })

-- one that fails the third, where the others hold, has a wrong kind
pub kind_refused : (a : AttributionParts) (operations : List OperationSignature) → AreKnown a operations → HaveArities a operations
    → (refusal : TypeRefusal) → AnyFails rule.Kind a operations refusal → IsTrueRefusal a operations refusal
kind_refused a operations known arities (r.UnknownOperation name) any = absurd any.fails.fails
kind_refused a operations known arities (r.WrongArity at) any = absurd any.fails.fails
kind_refused a operations known arities (r.TypeMismatch at) any =
    let found = any.fails in
    record {
      known = known;
      arities = arities;
      expression = record {
        production = any.production;
        listed = any.listed;
        nodes = found.nodes;
        expected = found.is;
        is_expected = subst (IsExpected a any.production found.nodes found.is) (sym found.fails.0) found.asked;
      };
      wrong = found.fails.1;
    }
kind_refused a operations known arities (r.NoMemory error) any = tt

-- what is read from a list is in it
pub read_contained : {X : Type 0} (ys xs : List X) (i : ℕ) (x : X) → ys ≡ xs → i < length ys → x ≡ get_or ys i x → Contains xs x
read_contained ys xs i x same within is =
    contains_at xs x i (ap (λ z. slice_get z i) (sym same) ∙ slice_get-get_or ys i x within ∙ ap Some (sym is))

-- a node that calls what isn't there is an unknown call of the expression
pub unknown_in : (operations : List OperationSignature) (nodes : List Node) (node : Node) (name copy operation : List ℕ)
    (arguments : List ℕ)
    → Contains nodes node → node ≡ n.Call operation arguments → name ≡ operation → copy ≡ operation → ¬ HasOperation operations name
    → IsUnknownIn operations nodes copy
unknown_in operations nodes node name copy operation arguments listed is same copied unknown = record {
  arguments = arguments;
  calls = subst (Contains nodes) (is ∙ ap (λ z. n.Call z arguments) (sym copied)) listed;
  unknown = λ has. unknown (subst (HasOperation operations) (copied ∙ sym same) has);
}
