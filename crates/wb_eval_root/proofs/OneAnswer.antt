-- A term, a name and a number of steps have one answer at most.
use Rattle.std.proofs.Common.{◌≡◌, ℕ, List, refl, sym, ap, subst, ◌∙◌}
use Rattle.wb_operations.specs.Operations.{Operations}
use Rattle.wb_report.specs.declared.spec_reason.TermReason.{TermReason}
use Rattle.wb_report.specs.declared.spec_reason.TermReason.TheVariants as t
use Rattle.wb_syntax_resolved.specs.Attribution.{IsAttribution}
use Rattle.wb_syntax_resolved.specs.declared.attribution.AttributionParts.{AttributionParts}
use Rattle.wb_terms.specs.TermAnswer.{stands, bad, unknown, wrong, IsAnswer, IsTermOf}
use Rattle.wb_terms.proofs.AnswerLemmas as terms
use Rattle.wb_values.specs.Tree.{Tree}
use Rattle.wb_eval_root.specs.Answers.{Asks, AsksForNone, ComesFrom, HasOneAnswer, IsRootAnswer, answer_shown}
use Rattle.wb_eval_root.specs.Asked.{IsAskedAs}
use Rattle.wb_eval_root.specs.Inner.Printed.{answer_for}
use Rattle.wb_eval_root.specs.Values.{IsTreeValue}
use Rattle.wb_eval_root.specs.declared.answer.RootAnswer.{RootAnswer}
use Rattle.wb_eval_root.specs.declared.answer.RootAnswer.TheVariants as r
use Rattle.wb_eval_root.specs.declared.value.TreeValue.{TreeValue}
use Rattle.wb_eval_root.specs.declared.value.TreeValue.TheVariants as v
use Rattle.wb_eval_root.proofs.OneValue.{one_value}
use Rattle.wb_eval_root.proofs.PrintedNames.{one_attribute}

-- what comes of asking
data Result : Type 0 where
  came : TreeValue → Result
  none_asked : Result
  refused : TermReason → Result

-- the answer for it
abbrev shown : Result → RootAnswer
shown (came x) = answer_for x
shown none_asked = r.UnknownAttribute
shown (refused reason) = r.Refused reason

-- one reason is shown of a term
one_reason : (x y : TermReason) → answer_shown x ≡ answer_shown y → x ≡ y
one_reason (t.Syntax i) (t.Syntax j) e = let same : bad i ≡ bad j = e in cc
one_reason (t.Syntax i) (t.Unknown j) e = let same : bad i ≡ unknown j = e in absurd (cc)
one_reason (t.Syntax i) (t.WrongChild j) e = let same : bad i ≡ wrong j = e in absurd (cc)
one_reason (t.Unknown i) (t.Syntax j) e = let same : unknown i ≡ bad j = e in absurd (cc)
one_reason (t.Unknown i) (t.Unknown j) e = let same : unknown i ≡ unknown j = e in cc
one_reason (t.Unknown i) (t.WrongChild j) e = let same : unknown i ≡ wrong j = e in absurd (cc)
one_reason (t.WrongChild i) (t.Syntax j) e = let same : wrong i ≡ bad j = e in absurd (cc)
one_reason (t.WrongChild i) (t.Unknown j) e = let same : wrong i ≡ unknown j = e in absurd (cc)
one_reason (t.WrongChild i) (t.WrongChild j) e = let same : wrong i ≡ wrong j = e in cc

-- a tree is no reason
no_reason : (u : Tree) (x : TermReason) → stands u ≡ answer_shown x → ⊥
no_reason u (t.Syntax i) e = let same : stands u ≡ bad i = e in absurd (cc)
no_reason u (t.Unknown i) e = let same : stands u ≡ unknown i = e in absurd (cc)
no_reason u (t.WrongChild i) e = let same : stands u ≡ wrong i = e in absurd (cc)

module _ (a : AttributionParts) (operations : Operations) (term name : List ℕ) (steps : ℕ) where
  -- what comes of asking
  abbrev IsResult : Result → Type 0
  IsResult (came x) = ComesFrom a operations term name steps x
  IsResult none_asked = AsksForNone a operations term name steps
  IsResult (refused reason) = IsAnswer a.signatures term (answer_shown reason)

  -- an answer shows what comes
  record Came (answer : RootAnswer) : Type 0 where
    result : Result
    is : IsResult result
    shows : answer ≡ shown result

  of_answer : (x : RootAnswer) → IsRootAnswer a operations term name steps x → Came x
  of_answer (r.Value printed) has = record { result = came (v.Value printed); is = has; shows = refl }
  of_answer r.TooLong has = record { result = came v.TooLong; is = has; shows = refl }
  of_answer (r.Fault operation code) has = record { result = came (v.Fault operation code); is = has; shows = refl }
  of_answer r.MoreSteps has = record { result = came v.MoreSteps; is = has; shows = refl }
  of_answer r.UnknownAttribute has = record { result = none_asked; is = has; shows = refl }
  of_answer (r.Refused reason) has = record { result = refused reason; is = has; shows = refl }

  -- a term is of one tree
  one_top : (u w : Tree) → IsTermOf a.signatures term u → IsTermOf a.signatures term w → u ≡ w
  one_top u w first second =
      let same : stands u ≡ stands w = terms.one_answer a.signatures term (stands u) (stands w) first second in cc

  -- a tree excludes a reason
  not_refused : (u : Tree) (reason : TermReason) → IsTermOf a.signatures term u → IsAnswer a.signatures term (answer_shown reason) → ⊥
  not_refused u reason is has = no_reason u reason (terms.one_answer a.signatures term (stands u) (answer_shown reason) is has)

  -- what is asked excludes that nothing is
  not_none : (u : Tree) (x : ℕ) → Asks a term name u x → AsksForNone a operations term name steps → ⊥
  not_none u x asks none = none.none x (subst (λ z. IsAskedAs a z name x) (one_top u none.top asks.stands none.stands) asks.asked)

  module _ (whole : IsAttribution a) where
    one_came : (x y : TreeValue) → ComesFrom a operations term name steps x → ComesFrom a operations term name steps y → x ≡ y
    one_came x y first second =
        let top = one_top first.top second.top first.asks.stands second.asks.stands in
        let attribute = one_attribute a whole name first.attribute second.attribute first.asks.asked.asked.named
        second.asks.asked.asked.named in
        let also = subst (λ z. IsTreeValue a operations z first.attribute steps y) (sym top)
        (subst (λ k. IsTreeValue a operations second.top k steps y) (sym attribute) second.is) in
        one_value a operations first.top first.attribute steps x y first.is also

    one_result : (x y : Result) → IsResult x → IsResult y → x ≡ y
    one_result (came x) (came y) first second = ap came (one_came x y first second)
    one_result (came x) none_asked first second = absurd (not_none first.top first.attribute first.asks second)
    one_result (came x) (refused reason) first second = absurd (not_refused first.top reason first.asks.stands second)
    one_result none_asked (came y) first second = absurd (not_none second.top second.attribute second.asks first)
    one_result none_asked none_asked first second = refl
    one_result none_asked (refused reason) first second = absurd (not_refused first.top reason first.stands second)
    one_result (refused reason) (came y) first second = absurd (not_refused second.top reason second.asks.stands first)
    one_result (refused reason) none_asked first second = absurd (not_refused second.top reason second.stands first)
    one_result (refused reason) (refused other) first second =
        ap refused (one_reason reason other (terms.one_answer a.signatures term (answer_shown reason) (answer_shown other) first second))

-- two answers are one
pub one_answer : (a : AttributionParts) (operations : Operations) → IsAttribution a → HasOneAnswer a operations
one_answer a operations whole term name steps x y first second =
    let p = of_answer a operations term name steps x first in
    let q = of_answer a operations term name steps y second in
    let same = one_result a operations term name steps whole p.result q.result p.is q.is in
    p.shows ∙ (ap shown same ∙ sym q.shows)
