-- What may be asked of the root of a term.
use Rattle.std.proofs.Common.{◌≡◌, ◌∙◌, ℕ, List, [], Option, Some, None, IfSome, Contains, subst, slice_get}
use Rattle.wb_lemmas.proofs.Members.{nothing_in}
use Rattle.wb_values.specs.Fits.{FitsTree}
use Rattle.wb_values.specs.Signature.{Signature}
use Rattle.wb_values.specs.Tree.{Tree, node, production_of}
use Rattle.wb_syntax_resolved.specs.declared.attributes.Direction.TheVariants.{Synthesized}
use Rattle.wb_syntax_resolved.specs.declared.attribution.AttributionParts.{AttributionParts}
use Rattle.wb_syntax_resolved.specs.Attribution.{IsAttribution}
use Rattle.wb_flow_theory.specs.Occurrences.{Goes, HasFlowType}
use Rattle.wb_flow_theory.proofs.OccurrenceLemmas.{one_flow_type}
use Rattle.wb_eval_theory.specs.Evaluable.{IsAsked}

module _ (a : AttributionParts) (is : IsAttribution a) where
  -- a synthesized attribute with an empty flow type on the left side of the root's production may be asked
  asked : (top : Tree) (n m x : ℕ) → FitsTree a.signatures top n
      → IfSome (slice_get a.signatures (production_of top)) (λ (s : Signature). m ≡ s.left) → Goes a Synthesized x → HasFlowType a x m []
      → IsAsked a top x
  asked (node p vs) n m x (s, at, left, fit) given goes flow =
      let same : m ≡ n = subst (λ o. IfSome o (λ (t : Signature). m ≡ t.left)) at given ∙ left in
      let there : HasFlowType a x n [] = subst (λ k. HasFlowType a x k []) same flow in
      record {
        nonterminal = n;
        fits = (s, at, left, fit);
        occurs = record { goes = goes; on = ([], there) };
        needs_nothing = λ i (needs, other, has).
            nothing_in i (subst (λ z. Contains z i) (one_flow_type a is x n needs [] other there) has);
      }

  -- the same of one that may be there
  asked_one : (top : Tree) → (n : ℕ) × FitsTree a.signatures top n → (m p : ℕ) → p ≡ production_of top
      → IfSome (slice_get a.signatures p) (λ (s : Signature). m ≡ s.left) → (r : Option ℕ) → IfSome r (Goes a Synthesized)
      → IfSome r (λ x. HasFlowType a x m []) → IfSome r (IsAsked a top)
  asked_one top fits m p same left None goes flow = tt
  asked_one top (n, fits) m p same left (Some x) goes flow =
      asked top n m x fits (subst (λ k. IfSome (slice_get a.signatures k) (λ (s : Signature). m ≡ s.left)) same left) goes flow

-- the same where lists that are equal were read
pub asked_read : (a b d : AttributionParts) → IsAttribution a → b ≡ a → d ≡ a → (top : Tree) → (n : ℕ) × FitsTree a.signatures top n
    → (m p : ℕ) → p ≡ production_of top → IfSome (slice_get b.signatures p) (λ (s : Signature). m ≡ s.left) → (r : Option ℕ)
    → IfSome r (Goes d Synthesized) → IfSome r (λ x. HasFlowType d x m []) → IfSome r (IsAsked a top)
asked_read a b d is first second top fits m p same left r goes flow =
    asked_one a is top fits m p same (subst (λ (z : AttributionParts). IfSome (slice_get z.signatures p) (λ (s : Signature). m ≡ s.left)) first left) r
    (subst (λ (z : AttributionParts). IfSome r (Goes z Synthesized)) second goes)
    (subst (λ (z : AttributionParts). IfSome r (λ x. HasFlowType z x m [])) second flow)
