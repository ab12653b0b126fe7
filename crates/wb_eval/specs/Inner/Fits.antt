-- What code on a stack of values fits.
use Rattle.std.specs.Prelude.{◌≡◌, ℕ, zero, suc, List, [], ◌∷◌, Some, length, slice_get}
use Rattle.wb_base.specs.declared.symbol.Kind.{Kind}
use Rattle.wb_base.specs.declared.symbol.Kind.TheVariants as kind
use Rattle.wb_operations.specs.Operations.{OperationSignature, Operations}
use Rattle.wb_syntax_resolved.specs.declared.attribution.AttributionParts.{AttributionParts}
use Rattle.wb_syntax_resolved.specs.declared.production.Production.{Production}
use Rattle.wb_syntax_resolved.specs.Expression.{Expression, Node}
use Rattle.wb_syntax_resolved.specs.Named.{IsNamedNode}
use Rattle.wb_types.specs.Kinds.{HasKind}
use Rattle.wb_values.specs.declared.value.Value.{Value}
use Rattle.wb_values.specs.Fits.{FitsValue}
use Rattle.wb_values.specs.Signature.{Signature}
use Rattle.wb_values.specs.Tree.{Tree}
use Rattle.wb_values.specs.Tree as tree
use Rattle.wb_values.specs.ValuesIn.{values_in}
use Rattle.wb_eval_rules.specs.Code.{visit, build, call, stay, Way, next, skip, unless, Instruction, does}
use Rattle.wb_eval_theory.proofs.ExpressionLemmas.{IsIn as IsPart}
use Rattle.wb_eval.specs.Inner.Going.{pushed}

-- the values of a stack, the last on top
abbrev pub stack_of : List Tree → List Value → List tree.Value
stack_of trees values = pushed (values_in trees values) []

-- kinds of a stack with more values
abbrev pub more_kinds : List Kind → List Kind → List Kind
more_kinds [] kinds = kinds
more_kinds (k ∷ ks) kinds = more_kinds ks (k ∷ kinds)

-- the values are of the kinds, one by one
abbrev pub ValuesFit : List Signature → List tree.Value → List Kind → Type 0
ValuesFit signatures [] kinds = kinds ≡ []
ValuesFit signatures (v ∷ vs) kinds = (k : Kind) × (rest : List Kind) × (kinds ≡ k ∷ rest) × FitsValue signatures v k
    × ValuesFit signatures vs rest

-- code goes on so with a value of this kind, on values of these
abbrev pub WayFits : (ℕ → List Kind → Type 0) → Way → Kind → List Kind → Type 0
WayFits on next is kinds = on zero (is ∷ kinds)
WayFits on (skip n) is kinds = on n (is ∷ kinds)
WayFits on (unless n) is kinds = (is ≡ kind.Bool) × on zero kinds × on n kinds

module _ (a : AttributionParts) (operations : Operations) (production : Production) where
  -- an expression of the production of this kind, in which all is named
  pub record IsTyped (e : Expression) (is : Kind) : Type 0 where
    pub has_kind : HasKind a operations.signatures production e is
    pub named : (part : Node) → IsPart e part → (owner : ℕ) × IsNamedNode a production owner part

  -- code is done on a stack of values of these kinds, after so many instructions that are left out, and ends with one value
  abbrev pub CodeFits : List Instruction → ℕ → List Kind → Type 0
  CodeFits [] n kinds = (is : Kind) × (kinds ≡ is ∷ [])
  CodeFits (i ∷ code) (suc n) kinds = CodeFits code n kinds
  CodeFits (does (visit e) way ∷ code) zero kinds = (is : Kind) × IsTyped e is × WayFits (CodeFits code) way is kinds
  CodeFits (does (build p n) way ∷ code) zero kinds = (s : Signature) × (rest : List Kind) × (slice_get a.signatures p ≡ Some s)
      × (length s.children ≡ n) × (kinds ≡ more_kinds s.children rest) × WayFits (CodeFits code) way (kind.Tree s.left) rest
  CodeFits (does (call number n) way ∷ code) zero kinds = (s : OperationSignature) × (rest : List Kind)
      × (slice_get operations.signatures number ≡ Some s) × (length s.takes ≡ n) × (kinds ≡ more_kinds s.takes rest)
      × WayFits (CodeFits code) way s.gives rest
  CodeFits (does stay way ∷ code) zero kinds = (is : Kind) × (rest : List Kind) × (kinds ≡ is ∷ rest) × WayFits (CodeFits code) way is rest
