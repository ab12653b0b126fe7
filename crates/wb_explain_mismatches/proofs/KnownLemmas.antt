-- The kinds that are kept are those of the expressions, and a part of another kind than is wanted is one in the expression.
use Rattle.std.proofs.Common.{◌≡◌, inl, inr, ◌<◌, ◌+◌, ◌∷◌, ◌++◌, [], ℕ, suc, List, Option, Some, None, IfSome, length, slice_get, refl, sym, ap, subst}
use Rattle.std.proofs.Common.{◌∙◌, arith, length-append}
use Rattle.std.proofs.Math.Decide.{dec_lt}
use Rattle.std.proofs.lemmas.Option.{slice_get_within}
use Rattle.wb_lemmas.proofs.Places.{at_once, push_before, push_last}
use Rattle.wb_base.specs.declared.symbol.Kind.{Kind}
use Rattle.wb_base.specs.declared.symbol.Kind.TheVariants as kind
use Rattle.wb_syntax_expressions.specs.declared.node.Node.TheVariants as n
use Rattle.wb_syntax_expressions.specs.Expression as x
use Rattle.wb_syntax_expressions.specs.Places.{HasNode, AllStand}
use Rattle.wb_syntax_expressions.specs.Places as p
use Rattle.wb_operations.specs.Operations.{OperationSignature}
use Rattle.wb_syntax_resolved.specs.declared.attribution.AttributionParts.{AttributionParts}
use Rattle.wb_syntax_resolved.specs.declared.production.Production.{Production}
use Rattle.wb_syntax_resolved.specs.Expression.{Expressions, Node}
use Rattle.wb_types.specs.Kinds.{HasKind, HaveKinds}
use Rattle.wb_types.specs.Kinds as k
use Rattle.wb_explain_mismatches.specs.declared.wrong.Wrong.{Wrong}
use Rattle.wb_explain_mismatches.specs.declared.wrong.Finding.{Finding}
use Rattle.wb_explain_mismatches.specs.declared.wrong.Finding.TheVariants as f
use Rattle.wb_explain_mismatches.specs.Wrong.{IsKindAt, IsWrongPart, Wants}
use Rattle.wb_explain_mismatches.specs.Inner.Known.{AreAt, AreKnown, IsFinding, IsLastFound, IsOtherIn, NodeKind}

module _ (a : AttributionParts) (operations : List OperationSignature) (production : Production) (nodes : List Node) where
  -- expressions at places, of kinds
  record AllAt (places : List ℕ) (are : List Kind) : Type 0 where
    pub expressions : Expressions
    pub stand : AllStand nodes places expressions
    pub have : HaveKinds a operations production expressions are

  module _ (kinds : List Kind) (known : AreKnown a operations production nodes kinds) where
    -- parts of these kinds are expressions of these kinds
    all_at : (places : List ℕ) (are : List Kind) → AreAt kinds places are → AllAt places are
    all_at [] [] parts = record { expressions = x.none; stand = p.nothing; have = k.nothing }
    all_at [] (is ∷ are) parts = absurd (let e = parts.count in omega (arith, e))
    all_at (at ∷ places) [] parts = absurd (let e = parts.count in omega (arith, e))
    all_at (at ∷ places) (is ∷ are) parts =
        let one = known at is (parts.each 0 at is refl refl) in
        let rest = all_at places are (record {
          count = let e = parts.count in omega (arith, e);
          each = λ i q s here there. parts.each (suc i) q s here there;
        }) in
        record {
          expressions = x.more one.expression rest.expressions;
          stand = p.next one.stands rest.stand;
          have = k.next one.kind rest.have;
        }

    -- so a node is an expression of its kind
    is_at : (at : ℕ) (node : Node) (is : Kind) → HasNode nodes at node → NodeKind a operations production kinds node is
        → IsKindAt a operations production nodes at is
    is_at at (n.Int z) is has e =
        let same : is ≡ kind.Int = e in
        record { expression = x.Int z; stands = p.int has; kind = subst (HasKind a operations production (x.Int z)) (sym same) k.int }
    is_at at (n.Text s) is has e =
        let same : is ≡ kind.Text = e in
        record { expression = x.Text s; stands = p.text has; kind = subst (HasKind a operations production (x.Text s)) (sym same) k.text }
    is_at at (n.Bool b) is has e =
        let same : is ≡ kind.Bool = e in
        record { expression = x.Truth b; stands = p.truth has; kind = subst (HasKind a operations production (x.Truth b)) (sym same) k.truth }
    is_at at (n.Label l) is has e = record { expression = x.Label l; stands = p.label has; kind = k.label e }
    is_at at (n.Read l number) is has e = record { expression = x.Read l number; stands = p.read has; kind = k.read e }
    is_at at (n.Lexeme l) is has e =
        let same : is ≡ kind.Text = e in
        record { expression = x.Lexeme l; stands = p.lexeme has; kind = subst (HasKind a operations production (x.Lexeme l)) (sym same) k.lexeme }
    is_at at (n.Top number) is has e = record { expression = x.Top number; stands = p.top has; kind = k.top e }
    is_at at (n.Forward number) is has e = record { expression = x.Forward number; stands = p.forward has; kind = k.forward e }
    is_at at (n.Build number places) is has e =
        let all = all_at places e.signature.children e.parts in
        record {
          expression = x.Build number all.expressions;
          stands = p.build has all.stand;
          kind = k.build e.signature e.listed all.have e.whole;
        }
    is_at at (n.Call name places) is has e =
        let all = all_at places e.signature.takes e.parts in
        record {
          expression = x.Call name all.expressions;
          stands = p.call has all.stand;
          kind = k.call e.number e.signature e.listed e.named all.have e.whole;
        }
    is_at at (n.If condition holds fails) is has e =
        let one = known condition kind.Bool e.asked in
        let two = known holds is e.first in
        let three = known fails is e.second in
        record {
          expression = x.If one.expression two.expression three.expression;
          stands = p.if_then has one.stands two.stands three.stands;
          kind = k.if_then one.kind two.kind three.kind;
        }

    -- with one kind more
    pub known_more : (node : Node) (is : Kind) → HasNode nodes (length kinds) node → NodeKind a operations production kinds node is
        → AreKnown a operations production nodes (kinds ++ is ∷ [])
    known_more node is has have at other there = cases (dec_lt at (length kinds)) where
      cases : Dec (at < length kinds) → IsKindAt a operations production nodes at other
      cases (yes below) = known at other (sym (push_before kinds is at below) ∙ there)
      cases (no above) =
          let within : at < length (kinds ++ is ∷ []) = slice_get_within (kinds ++ is ∷ []) at other there in
          let here : at ≡ length kinds = omega (arith, above, within, length-append kinds (is ∷ [])) in
          let one : is ≡ other = at_once (kinds ++ is ∷ []) (length kinds) is other (push_last kinds is)
          (subst (λ (z : ℕ). slice_get (kinds ++ is ∷ []) z ≡ Some other) here there) in
          subst (λ (z : ℕ). IsKindAt a operations production nodes z other) (sym here)
          (subst (λ (z : Kind). IsKindAt a operations production nodes (length kinds) z) one (is_at (length kinds) node is has have))

    -- a part of another kind than is wanted is one in the expression
    pub wrong_part : (at : ℕ) (node : Node) (w : Wrong) → HasNode nodes at node → IsOtherIn a operations kinds node w
        → IsWrongPart a operations production nodes node w.number w.wanted w.found
    wrong_part at (n.Build number children) w has (wanted, are, other) = record {
      at = at;
      has = has;
      part = w.part;
      listed = other.place;
      wants = (wanted, are, other.wants);
      found_is = known w.part w.found other.is;
      differ = other.differ;
    }
    wrong_part at (n.Call name arguments) w has (wanted, are, other) = record {
      at = at;
      has = has;
      part = w.part;
      listed = other.place;
      wants = (wanted, are, other.wants);
      found_is = known w.part w.found other.is;
      differ = other.differ;
    }
    wrong_part at (n.If condition holds fails) w has (inl other) = record {
      at = at;
      has = has;
      part = w.part;
      listed = subst (λ (z : ℕ). slice_get (condition ∷ holds ∷ fails ∷ []) z ≡ Some w.part) (sym other.number) (ap Some (sym other.part));
      wants = subst (λ (z : ℕ). Wants a operations production nodes (n.If condition holds fails) z w.wanted) (sym other.number) other.wants;
      found_is = known w.part w.found other.is;
      differ = other.differ;
    }
    wrong_part at (n.If condition holds fails) w has (inr other) = record {
      at = at;
      has = has;
      part = w.part;
      listed = subst (λ (z : ℕ). slice_get (condition ∷ holds ∷ fails ∷ []) z ≡ Some w.part) (sym other.number) (ap Some (sym other.part));
      wants = subst (λ (z : ℕ). Wants a operations production nodes (n.If condition holds fails) z w.wanted) (sym other.number)
          (known holds w.wanted other.wants);
      found_is = known w.part w.found other.is;
      differ = other.differ;
    }
    wrong_part at node w has other = absurd other

    -- the last kind, where another is wanted, is that of the whole
    pub wrong_whole : (wanted : Kind) (found : Finding) → length kinds ≡ length nodes → IsLastFound kinds wanted found
        → IsFinding a operations production nodes wanted found
    wrong_whole wanted (f.Part at w) count last = absurd last
    wrong_whole wanted (f.Whole found) count last = record {
      at = last.at;
      last = last.last ∙ count;
      found_is = known last.at found last.is;
      differ = last.differ;
    }

  -- no kinds yet
  pub known_none : AreKnown a operations production nodes []
  known_none at is there = absurd (cc there)

-- what holds of the form of a node holds of the node
pub of_node : (a : AttributionParts) (operations : List OperationSignature) (production : Production) (kinds : List Kind)
    (node form : Node) (r : Option Kind) → node ≡ form → IfSome r (NodeKind a operations production kinds form)
    → IfSome r (NodeKind a operations production kinds node)
of_node a operations production kinds node form r e have =
    subst (λ (z : Node). IfSome r (NodeKind a operations production kinds z)) (sym e) have

pub of_other : (a : AttributionParts) (operations : List OperationSignature) (kinds : List Kind) (node form : Node) (r : Option Wrong)
    → node ≡ form → IfSome r (IsOtherIn a operations kinds form) → IfSome r (IsOtherIn a operations kinds node)
of_other a operations kinds node form r e have = subst (λ (z : Node). IfSome r (IsOtherIn a operations kinds z)) (sym e) have

-- what follows from what is so of what is there
pub some_map : {X : Type 0} (r : Option X) (P Q : X → Type 0) → ((x : X) → P x → Q x) → IfSome r P → IfSome r Q
some_map None P Q f p = tt
some_map (Some x) P Q f p = f x p
