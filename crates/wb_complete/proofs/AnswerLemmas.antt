-- The tests of completeness have at most one answer.
use Rattle.std.proofs.Common.{◌≡◌, inl, inr, ℕ, Option, None, Some, IfSome, sym, subst}
use Rattle.wb_flow_theory.specs.WellDefined.{DefinesTop, DefinesBelow}
use Rattle.wb_flow_theory.specs.Modular.{EachProduction, InheritsNothing, ForwardsAsExtension}
use Rattle.wb_flow.specs.declared.vertex.Vertex.{Vertex}
use Rattle.wb_complete.specs.Refusals.{StartHas, LacksForward, LacksEquation, LacksInherited}
use Rattle.wb_complete.specs.OneAnswer.{CompletenessHasOneAnswer}
use Rattle.wb_syntax_resolved.specs.declared.attribution.AttributionParts.{AttributionParts}

-- what holds of some value holds of the one that it is
of_some : {X : Type 0} (P : X → Type 0) (o : Option X) (x : X) → o ≡ Some x → IfSome o P → P x
of_some P o x is holds = subst (λ z. IfSome z P) is holds

-- what holds of the value that there is, and where there is none
pub if_some : {X : Type 0} (P : X → Type 0) (o : Option X) (x : X) → o ≡ Some x → P x → IfSome o P
if_some P o x is holds = subst (λ z. IfSome z P) (sym is) holds

pub if_none : {X : Type 0} (P : X → Type 0) (o : Option X) → o ≡ None → IfSome o P
if_none P o is = subst (λ z. IfSome z P) (sym is) tt

module _ (a : AttributionParts) (start extension : Option ℕ) where
  start_excludes : IfSome start (InheritsNothing a) → (x : ℕ) → ¬ StartHas a start x
  start_excludes none x has = of_some (InheritsNothing a) start has.nonterminal has.is_start none x has.occurs

  forward_excludes : IfSome extension (ForwardsAsExtension a) → (p : ℕ) → ¬ LacksForward a start extension p
  forward_excludes forwards p lacks =
      lacks.lacks (of_some (ForwardsAsExtension a) extension lacks.owner lacks.is_extension forwards p lacks.production lacks.there
      lacks.must_forward)

  top_excludes : EachProduction a (DefinesTop a) → (p x : ℕ) → ¬ LacksEquation a start extension p x
  top_excludes top p x lacks =
      let found = lacks.lacks in
      elim (top p lacks.production lacks.there x found.occurs) [ inl rule ↦ found.lacks rule | inr forwards ↦ found.no_forward forwards ]

  below_excludes : EachProduction a (DefinesBelow a) → (p : ℕ) (v : Vertex) → ¬ LacksInherited a start extension p v
  below_excludes below p v lacks =
      let found = lacks.lacks in
      elim (below p lacks.production lacks.there found.step found.inherited_one found.needs) [
        | inl rule ↦ found.lacks rule
        | inr forwards ↦ found.other forwards
      ]

  pub one_answer : CompletenessHasOneAnswer a start extension
  one_answer = record {
    rules = λ ok. record {
      start_inherits = start_excludes ok.start_inherits;
      forwards = forward_excludes ok.forwards;
      top = top_excludes ok.top;
      below = below_excludes ok.below;
    };
    refusals = record {
      start_forward = λ x p has lacks. start_excludes lacks.start_inherits x has;
      start_top = λ x p y has lacks. start_excludes lacks.start_inherits x has;
      start_below = λ x p v has lacks. start_excludes lacks.start_inherits x has;
      forward_top = λ p q y lacks other. forward_excludes other.forwards p lacks;
      forward_below = λ p q v lacks other. forward_excludes other.forwards p lacks;
      top_below = λ p x q v lacks other. top_excludes other.top p x lacks;
    };
  }
