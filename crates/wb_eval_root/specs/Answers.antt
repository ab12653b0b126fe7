-- What comes of asking for an attribute at the root of a written term: what comes of it in the term's tree, or why there is nothing.
use Rattle.std.specs.Prelude.{◌≡◌, ℕ, List}
use Rattle.wb_operations.specs.Operations.{Operations}
use Rattle.wb_report.specs.declared.spec_reason.TermReason.{TermReason}
use Rattle.wb_report.specs.declared.spec_reason.TermReason.TheVariants as t
use Rattle.wb_syntax_resolved.specs.declared.attribution.AttributionParts.{AttributionParts}
use Rattle.wb_terms.specs.TermAnswer.{Answer, bad, unknown, wrong, IsAnswer, IsTermOf}
use Rattle.wb_values.specs.Tree.{Tree}
use Rattle.wb_eval_root.specs.Asked.{IsAskedAs}
use Rattle.wb_eval_root.specs.Values.{IsTreeValue}
use Rattle.wb_eval_root.specs.declared.answer.RootAnswer.{RootAnswer}
use Rattle.wb_eval_root.specs.declared.answer.RootAnswer.TheVariants as r
use Rattle.wb_eval_root.specs.declared.value.TreeValue.{TreeValue}
use Rattle.wb_eval_root.specs.declared.value.TreeValue.TheVariants as v

-- why bytes aren't a term, as it is shown
abbrev pub answer_shown : TermReason → Answer
answer_shown (t.Syntax place) = bad place
answer_shown (t.Unknown place) = unknown place
answer_shown (t.WrongChild place) = wrong place

-- the term is of this tree, of which the attribute of this number is asked by its name
pub record Asks (a : AttributionParts) (term name : List ℕ) (top : Tree) (attribute : ℕ) : Type 0 where
  pub stands : IsTermOf a.signatures term top
  pub asked : IsAskedAs a top name attribute

module _ (a : AttributionParts) (operations : Operations) (term name : List ℕ) (steps : ℕ) where
  -- this comes of what is asked
  pub record ComesFrom (value : TreeValue) : Type 0 where
    pub top : Tree
    pub attribute : ℕ
    pub asks : Asks a term name top attribute
    pub is : IsTreeValue a operations top attribute steps value

  -- the term is of a tree of which no attribute is asked by this name
  pub record AsksForNone : Type 0 where
    pub top : Tree
    pub stands : IsTermOf a.signatures term top
    pub none : (attribute : ℕ) → ¬ IsAskedAs a top name attribute

  -- the answer is what comes of asking for the attribute of this name at the root of the term, within so many steps
  abbrev pub IsRootAnswer : RootAnswer → Type 0
  IsRootAnswer (r.Value printed) = ComesFrom (v.Value printed)
  IsRootAnswer r.TooLong = ComesFrom v.TooLong
  IsRootAnswer (r.Fault operation code) = ComesFrom (v.Fault operation code)
  IsRootAnswer r.MoreSteps = ComesFrom v.MoreSteps
  IsRootAnswer r.UnknownAttribute = AsksForNone
  IsRootAnswer (r.Refused reason) = IsAnswer a.signatures term (answer_shown reason)

-- a term, a name and a number of steps have one answer at most
abbrev pub HasOneAnswer : AttributionParts → Operations → Type 0
HasOneAnswer a operations =
    (term name : List ℕ) (steps : ℕ) (one other : RootAnswer) → IsRootAnswer a operations term name steps one
    → IsRootAnswer a operations term name steps other → one ≡ other
