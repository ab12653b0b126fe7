-- Refusals for kinds, and for attributes, have one code.
use Rattle.std.proofs.Common.{◌≡◌, ◌⊎◌, ℕ, List, [], Option, None, Some, IfSome, inl, inr, refl, subst}
use Rattle.std.proofs.lemmas.Option.{same_Some}
use Rattle.std.specs.Prelude.{slice_get}
use lib.Chars.{codes}
use Rattle.wb_syntax_expressions.specs.declared.node.Node.TheVariants as n
use Rattle.wb_lemmas.proofs.Elements.{all_contained}
use Rattle.wb_certify_files.specs.CertifyRefusals.{IsAttributeMemory, IsTypeMemory}
use Rattle.wb_certify_files.specs.Shows.{attribute_reason, inherited_reason, of_attributes, of_spec, type_reason}
use Rattle.wb_complete.specs.ForwardRefusals.{HasForwardRead, IsTrueForwardRefusal}
use Rattle.wb_complete.specs.Refusals.{CompleteOk, IsTrueCompletenessRefusal}
use Rattle.wb_flow.proofs.CheckLemmas.{cycle_reaches}
use Rattle.wb_flow.specs.Refusals.{FlowsOk, HasReadOutside, IsTrueFlowRefusal, KeepToFlowTypes}
use Rattle.wb_flow.specs.declared.refusal.AttributeRefusal.{AttributeRefusal}
use Rattle.wb_flow.specs.declared.refusal.AttributeRefusal.TheVariants as a
use Rattle.wb_flow.specs.declared.vertex.Vertex.{Vertex}
use Rattle.wb_flow.specs.declared.vertex.Vertex.TheVariants as v
use Rattle.wb_flow_theory.specs.Modular.{EachProduction, ForwardsAsExtension, HoldForwardNeeds, InheritsNothing}
use Rattle.wb_flow_theory.specs.WellDefined.{DefinesBelow, DefinesTop, IsAcyclic}
use Rattle.wb_operations.specs.Operations.{OperationSignature}
use Rattle.wb_report.specs.declared.refusal.Refusal.{Refusal}
use Rattle.wb_syntax_resolved.specs.declared.attribution.AttributionParts.{AttributionParts}
use Rattle.wb_syntax_resolved.specs.declared.production.Production.{Production}
use Rattle.wb_syntax_resolved.specs.declared.resolved.ResolvedParts.{ResolvedParts}
use Rattle.wb_types.specs.Refusals.{IsTrueRefusal}
use Rattle.wb_types.specs.Rules.{AreKnown, HaveArities, HaveExpectedKinds, IsKnown, KindsOk}
use Rattle.wb_types.specs.declared.refusal.TypeRefusal.{TypeRefusal}
use Rattle.wb_types.specs.declared.refusal.TypeRefusal.TheVariants as t
use Rattle.wb_program_theory.specs.Codes.{IsOfWritten, code_of}
use Rattle.wb_program_theory.proofs.ChainLemmas.{First, HasOne, NoneLeft, first_one, none_one}

-- nothing is no something
pub none_some : {X : Type 0} {x : X} → None ≡ Some x → ⊥
none_some e = cc

-- the code of what is shown meets this, and what is shown isn't of what is written
abbrev pub Coded : (List ℕ → Type 0) → Refusal → Type 0
Coded R shown = R (code_of shown) × (¬ IsOfWritten shown)

-- what is shown is this
pub coded : (R : List ℕ → Type 0) (x shown : Refusal) → Some x ≡ Some shown → Coded R x → Coded R shown
coded R x shown is holds = subst (Coded R) (same_Some x shown is) holds

module _ (a : AttributionParts) (operations : List OperationSignature) (Later : List ℕ → Type 0) where
  -- the rules of kinds, and then the later ones
  abbrev pub KindRules : List ℕ → Type 0
  KindRules =
      First (AreKnown a operations) (codes "N1")
      (First (HaveArities a operations) (codes "Y2") (First (HaveExpectedKinds a operations) (codes "Y1") Later))

  pub kinds_one : HasOne Later → HasOne KindRules
  kinds_one one =
      first_one (AreKnown a operations) (codes "N1")
      (First (HaveArities a operations) (codes "Y2") (First (HaveExpectedKinds a operations) (codes "Y1") Later))
      (first_one (HaveArities a operations) (codes "Y2") (First (HaveExpectedKinds a operations) (codes "Y1") Later)
      (first_one (HaveExpectedKinds a operations) (codes "Y1") Later one))

  pub after_kinds : KindsOk a operations → (x : List ℕ) → Later x → KindRules x
  after_kinds ok x later = inr (ok.known, inr (ok.arities, inr (ok.kinds, later)))

  -- a refusal for kinds is of the first rule that fails
  pub kinds_coded : (refusal : TypeRefusal) (shown : Refusal) → IsTrueRefusal a operations refusal → ¬ IsTypeMemory refusal
      → of_spec (type_reason refusal) ≡ Some shown → Coded KindRules shown
  kinds_coded (t.UnknownOperation name) shown calls other is =
      coded KindRules _ shown is (
        inl (
          (λ known.
              let e = calls.expression in
              calls.unknown (all_contained (IsKnown operations) e.nodes (n.Call name calls.arguments)
              (known e.production e.nodes e.expected calls.offset e.listed e.is_expected) calls.calls)),
          refl,
        ),
        (λ no. no),
      )
  kinds_coded (t.WrongArity at) shown wrong other is =
      coded KindRules _ shown is (
        inr (
          wrong.known,
          inl (
            (λ arities. let e = wrong.expression in wrong.wrong (arities e.production e.nodes e.expected at e.listed e.is_expected)),
            refl,
          ),
        ),
        (λ no. no),
      )
  kinds_coded (t.TypeMismatch at) shown wrong other is =
      coded KindRules _ shown is (
        inr (
          wrong.known,
          inr (
            wrong.arities,
            inl (
              (λ kinds. let e = wrong.expression in wrong.wrong (kinds e.production e.nodes e.expected at e.listed e.is_expected)),
              refl,
            ),
          ),
        ),
        (λ no. no),
      )
  kinds_coded (t.NoMemory error) shown fails other is = absurd (other tt)

-- the code of a rule of attributes
abbrev attribute_rule : AttributeRefusal → List ℕ
attribute_rule (a.StartInherits x) = codes "A5"
attribute_rule (a.NoForward p) = codes "E7"
attribute_rule (a.NoEquation p x) = codes "A1"
attribute_rule (a.NoInherited p vertex) = codes "A2"
attribute_rule (a.LacksForward m x i) = codes "A6"
attribute_rule (a.Reads p x i) = codes "A3"
attribute_rule (a.Cycle p vertices) = codes "A4"
attribute_rule (a.ForwardReads p x i) = codes "E8"
attribute_rule (a.NoMemory error) = []

-- what is shown of an attribute one step down
below_shown : (R : List ℕ → Type 0) (r : ResolvedParts) (number : ℕ) (p : Option Production) (vertex : Vertex) (shown : Refusal)
    → of_attributes (inherited_reason r number p vertex) ≡ Some shown → R (codes "A2") → Coded R shown
below_shown R r number p (v.Child k x) shown is holds = coded R _ shown is (holds, (λ no. no))
below_shown R r number p (v.Local k x) shown is holds = coded R _ shown is (holds, (λ no. no))
below_shown R r number p (v.Top x) shown is holds = absurd (none_some is)
below_shown R r number p (v.Forward x) shown is holds = absurd (none_some is)
below_shown R r number p (v.LocalTree k) shown is holds = absurd (none_some is)
below_shown R r number p v.ForwardTree shown is holds = absurd (none_some is)

-- what is shown has that code
rule_shown : (R : List ℕ → Type 0) (r : ResolvedParts) (refusal : AttributeRefusal) (shown : Refusal)
    → of_attributes (attribute_reason r refusal) ≡ Some shown → R (attribute_rule refusal) → Coded R shown
rule_shown R r (a.StartInherits x) shown is holds = coded R _ shown is (holds, (λ no. no))
rule_shown R r (a.NoForward p) shown is holds = coded R _ shown is (holds, (λ no. no))
rule_shown R r (a.NoEquation p x) shown is holds = coded R _ shown is (holds, (λ no. no))
rule_shown R r (a.NoInherited p vertex) shown is holds =
    below_shown R r p (slice_get r.attributes.productions p) vertex shown is holds
rule_shown R r (a.LacksForward m x i) shown is holds = coded R _ shown is (holds, (λ no. no))
rule_shown R r (a.Reads p x i) shown is holds = coded R _ shown is (holds, (λ no. no))
rule_shown R r (a.Cycle p vertices) shown is holds = coded R _ shown is (holds, (λ no. no))
rule_shown R r (a.ForwardReads p x i) shown is holds = coded R _ shown is (holds, (λ no. no))
rule_shown R r (a.NoMemory error) shown is holds = absurd (none_some is)

-- what holds of some value holds of the one that it is
of_some : {X : Type 0} (P : X → Type 0) (o : Option X) (x : X) → o ≡ Some x → IfSome o P → P x
of_some P o x is holds = subst (λ z. IfSome z P) is holds

module _ (at : AttributionParts) where
  -- no equation for a forwarded tree reads what it may not
  abbrev ForwardsKeep : Type 0
  ForwardsKeep = (p x i : ℕ) → ¬ HasForwardRead at 1 p x i

  -- the rules of flow types and cycles, and then that of equations for forwarded trees
  abbrev FlowRules : List ℕ → Type 0
  FlowRules =
      First (HoldForwardNeeds at) (codes "A6")
      (First (KeepToFlowTypes at) (codes "A3")
      (First (EachProduction at (IsAcyclic at)) (codes "A4") (First ForwardsKeep (codes "E8") NoneLeft)))

  flows_one : HasOne FlowRules
  flows_one =
      first_one (HoldForwardNeeds at) (codes "A6")
      (First (KeepToFlowTypes at) (codes "A3")
      (First (EachProduction at (IsAcyclic at)) (codes "A4") (First ForwardsKeep (codes "E8") NoneLeft)))
      (first_one (KeepToFlowTypes at) (codes "A3")
      (First (EachProduction at (IsAcyclic at)) (codes "A4") (First ForwardsKeep (codes "E8") NoneLeft))
      (first_one (EachProduction at (IsAcyclic at)) (codes "A4") (First ForwardsKeep (codes "E8") NoneLeft)
      (first_one ForwardsKeep (codes "E8") NoneLeft none_one)))

  -- a production that doesn't keep to a flow type
  not_kept : (p : ℕ) (x : Option ℕ) (i : ℕ) → HasReadOutside at p x i → ¬ KeepToFlowTypes at
  not_kept p (Some x) i reads keep =
      let (occurs, reaches, lacks) = reads.reaches in lacks (keep.attributes p reads.production reads.there x i occurs reaches)
  not_kept p None i reads keep =
      let (reaches, lacks) = reads.reaches in lacks (keep.forwards p reads.production reads.there i reaches)

  flow_first : (refusal : AttributeRefusal) → IsTrueFlowRefusal at refusal → ¬ IsAttributeMemory refusal
      → FlowRules (attribute_rule refusal)
  flow_first (a.LacksForward m x i) fails other = inl ((λ hold. fails.lacks (hold m x i fails.occurs fails.forward)), refl)
  flow_first (a.Reads p x i) fails other = inr (fails.forward_needs, inl (not_kept p x i fails, refl))
  flow_first (a.Cycle p vertices) fails other =
      let (u, reaches) = cycle_reaches at fails.production vertices fails.cycle in
      inr (
        fails.forward_needs,
        inr (fails.flow_types, inl ((λ acyclic. acyclic p fails.production fails.there u reaches), refl)),
      )
  flow_first (a.NoMemory error) fails other = absurd (other tt)
  flow_first (a.StartInherits x) fails other = absurd fails
  flow_first (a.NoForward p) fails other = absurd fails
  flow_first (a.NoEquation p x) fails other = absurd fails
  flow_first (a.NoInherited p vertex) fails other = absurd fails
  flow_first (a.ForwardReads p x i) fails other = absurd fails

  forward_first : FlowsOk at → (refusal : AttributeRefusal) → IsTrueForwardRefusal at 1 refusal → ¬ IsAttributeMemory refusal
      → FlowRules (attribute_rule refusal)
  forward_first ok (a.ForwardReads p x i) fails other =
      inr (ok.forward_needs, inr (ok.flow_types, inr (ok.acyclic, inl ((λ keep. keep p x i fails), refl))))
  forward_first ok (a.NoMemory error) fails other = absurd (other tt)
  forward_first ok (a.StartInherits x) fails other = absurd fails
  forward_first ok (a.NoForward p) fails other = absurd fails
  forward_first ok (a.NoEquation p x) fails other = absurd fails
  forward_first ok (a.NoInherited p vertex) fails other = absurd fails
  forward_first ok (a.LacksForward m x i) fails other = absurd fails
  forward_first ok (a.Reads p x i) fails other = absurd fails
  forward_first ok (a.Cycle p vertices) fails other = absurd fails

  module _ (start extension : Option ℕ) where
    -- all rules of attributes
    abbrev pub AttributeRules : List ℕ → Type 0
    AttributeRules =
        First (IfSome start (InheritsNothing at)) (codes "A5")
        (First (IfSome extension (ForwardsAsExtension at)) (codes "E7")
        (First (EachProduction at (DefinesTop at)) (codes "A1") (First (EachProduction at (DefinesBelow at)) (codes "A2") FlowRules)))

    pub attributes_one : HasOne AttributeRules
    attributes_one =
        first_one (IfSome start (InheritsNothing at)) (codes "A5")
        (First (IfSome extension (ForwardsAsExtension at)) (codes "E7")
        (First (EachProduction at (DefinesTop at)) (codes "A1") (First (EachProduction at (DefinesBelow at)) (codes "A2") FlowRules)))
        (first_one (IfSome extension (ForwardsAsExtension at)) (codes "E7")
        (First (EachProduction at (DefinesTop at)) (codes "A1") (First (EachProduction at (DefinesBelow at)) (codes "A2") FlowRules))
        (first_one (EachProduction at (DefinesTop at)) (codes "A1") (First (EachProduction at (DefinesBelow at)) (codes "A2") FlowRules)
        (first_one (EachProduction at (DefinesBelow at)) (codes "A2") FlowRules flows_one)))

    after_complete : CompleteOk at start extension → (x : List ℕ) → FlowRules x → AttributeRules x
    after_complete ok x later = inr (ok.start_inherits, inr (ok.forwards, inr (ok.top, inr (ok.below, later))))

    complete_first : (refusal : AttributeRefusal) → IsTrueCompletenessRefusal at start extension refusal → ¬ IsAttributeMemory refusal
        → AttributeRules (attribute_rule refusal)
    complete_first (a.StartInherits x) fails other =
        inl ((λ none. of_some (InheritsNothing at) start fails.nonterminal fails.is_start none x fails.occurs), refl)
    complete_first (a.NoForward p) fails other =
        inr (
          fails.start_inherits,
          inl (
            (λ forwards. fails.lacks (of_some (ForwardsAsExtension at) extension fails.owner fails.is_extension forwards p
                fails.production fails.there fails.must_forward)),
            refl,
          ),
        )
    complete_first (a.NoEquation p x) fails other =
        let found = fails.lacks in
        inr (
          fails.start_inherits,
          inr (
            fails.forwards,
            inl (
              (λ top. elim (top p fails.production fails.there x found.occurs) [
                | inl rule ↦ found.lacks rule
                | inr forwards ↦ found.no_forward forwards
              ]),
              refl,
            ),
          ),
        )
    complete_first (a.NoInherited p vertex) fails other =
        let found = fails.lacks in
        inr (
          fails.start_inherits,
          inr (
            fails.forwards,
            inr (
              fails.top,
              inl (
                (λ below. elim (below p fails.production fails.there found.step found.inherited_one found.needs) [
                  | inl rule ↦ found.lacks rule
                  | inr forwards ↦ found.other forwards
                ]),
                refl,
              ),
            ),
          ),
        )
    complete_first (a.NoMemory error) fails other = absurd (other tt)
    complete_first (a.LacksForward m x i) fails other = absurd fails
    complete_first (a.Reads p x i) fails other = absurd fails
    complete_first (a.Cycle p vertices) fails other = absurd fails
    complete_first (a.ForwardReads p x i) fails other = absurd fails

-- a refusal for attributes, as a host's or an extension's, is of the first rule that fails
pub attributes_coded : (r : ResolvedParts) (start extension : Option ℕ) (refusal : AttributeRefusal) (shown : Refusal)
    → (IsTrueCompletenessRefusal r.attributes start extension refusal
    ⊎ (CompleteOk r.attributes start extension × IsTrueFlowRefusal r.attributes refusal)
    ⊎ (CompleteOk r.attributes start extension × FlowsOk r.attributes × IsTrueForwardRefusal r.attributes 1 refusal))
    → ¬ IsAttributeMemory refusal → of_attributes (attribute_reason r refusal) ≡ Some shown
    → Coded (AttributeRules r.attributes start extension) shown
attributes_coded r start extension refusal shown (inl fails) other is =
    rule_shown (AttributeRules r.attributes start extension) r refusal shown is
    (complete_first r.attributes start extension refusal fails other)
attributes_coded r start extension refusal shown (inr (inl (ok, fails))) other is =
    rule_shown (AttributeRules r.attributes start extension) r refusal shown is
    (after_complete r.attributes start extension ok (attribute_rule refusal) (flow_first r.attributes refusal fails other))
attributes_coded r start extension refusal shown (inr (inr (ok, flows, fails))) other is =
    rule_shown (AttributeRules r.attributes start extension) r refusal shown is
    (after_complete r.attributes start extension ok (attribute_rule refusal) (forward_first r.attributes flows refusal fails other))
