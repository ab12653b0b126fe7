-- Which attributes may be asked on a nonterminal, by its occurrences, and of a tree.
use Rattle.std.proofs.Common.{◌≡◌, ◌∙◌, ◌∷◌, ℕ, List, [], Option, Some, None, MatchOption, Result, Ok, Err, IfOk, Contains}
use Rattle.std.proofs.Common.{refl, sym, ap, subst}
use Rattle.wb_lemmas.proofs.Members.{contains_first, nothing_in}
use Rattle.wb_flow_theory.specs.Occurrences.{Goes, HasFlowType}
use Rattle.wb_flow_theory.proofs.OccurrenceLemmas.{one_flow_type}
use Rattle.wb_syntax_resolved.specs.Attribution.{IsAttribution}
use Rattle.wb_syntax_resolved.specs.declared.attributes.Direction.TheVariants.{Synthesized}
use Rattle.wb_syntax_resolved.specs.declared.attribution.AttributionParts.{AttributionParts}
use Rattle.wb_values.specs.Fits.{FitsTree}
use Rattle.wb_values.specs.Signature.{Signature}
use Rattle.wb_values.specs.Tree.{Tree, node}
use Rattle.wb_eval_root.specs.Asked.{IsAskedAs, IsAskedOn, IsPrintedAs}
use Rattle.wb_eval_root.specs.Inner.Free.{HasNoneFree, IsFree, IsFreeOn}

-- a tree is of one nonterminal
one_nonterminal : (ss : List Signature) (top : Tree) (n m : ℕ) → FitsTree ss top n → FitsTree ss top m → n ≡ m
one_nonterminal ss (node p vs) n m (s, at, left, fit) (z, there, also, other) =
    let same : Some s ≡ Some z = sym at ∙ there in
    let one : s ≡ z = cc in
    sym left ∙ (ap (λ (q : Signature). q.left) one ∙ also)

-- a list without members is empty
no_members : (xs : List ℕ) → ((i : ℕ) → ¬ Contains xs i) → xs ≡ []
no_members [] none = refl
no_members (x ∷ xs) none = absurd (none x (contains_first x xs))

module _ (a : AttributionParts) (is : IsAttribution a) (name : List ℕ) (n : ℕ) where
  -- an attribute of which a free occurrence is listed may be asked
  free_asked : (x : ℕ) → IsFreeOn a name n x → IsAskedOn a name n x
  free_asked x free =
      let flow : HasFlowType a x n [] = record {
        occurrence = free.occurrence;
        listed = free.listed;
        of_attribute = sym free.its;
        on_nonterminal = free.is_free.on;
        needs_are = free.is_free.needs;
      } in
      record {
        named = subst (IsPrintedAs a name) (sym free.its) free.is_free.up.named;
        occurs = record { goes = subst (Goes a Synthesized) (sym free.its) free.is_free.up.goes; on = ([], flow) };
        needs_nothing = λ i (needs, other, has). nothing_in i (subst (λ z. Contains z i) (one_flow_type a is x n needs [] other flow) has);
      }

  -- one that may be asked has such an occurrence
  asked_free : (x : ℕ) (needs : List ℕ) → (flow : HasFlowType a x n needs) → needs ≡ [] → Goes a Synthesized x → IsPrintedAs a name x
      → IsFree a name n flow.occurrence
  asked_free x needs flow none goes named = record {
    on = flow.on_nonterminal;
    needs = flow.needs_are ∙ none;
    up = record {
      goes = subst (Goes a Synthesized) (sym flow.of_attribute) goes;
      named = subst (IsPrintedAs a name) (sym flow.of_attribute) named;
    };
  }

  none_asked : HasNoneFree a name n → (x : ℕ) → ¬ IsAskedOn a name n x
  none_asked none x asked =
      let (needs, flow) = asked.occurs.on in
      let empty = no_members needs (λ i has. asked.needs_nothing i (needs, flow, has)) in
      none flow.occurrence flow.listed (asked_free x needs flow empty asked.occurs.goes asked.named)

  asked_one : (r : Option ℕ) → MatchOption r (HasNoneFree a name n) (IsFreeOn a name n)
      → MatchOption r ((x : ℕ) → ¬ IsAskedOn a name n x) (IsAskedOn a name n)
  asked_one None none = none_asked none
  asked_one (Some x) free = free_asked x free

-- the same where lists that are equal were read, and memory may hinder
pub asked_read : {E : Type 0} (a b : AttributionParts) → IsAttribution a → b ≡ a → (name : List ℕ) (n : ℕ) (x : Result (Option ℕ) E)
    → IfOk x (λ r. MatchOption r (HasNoneFree b name n) (IsFreeOn b name n))
    → IfOk x (λ r. MatchOption r ((attribute : ℕ) → ¬ IsAskedOn a name n attribute) (IsAskedOn a name n))
asked_read a b is same name n (Err error) found = tt
asked_read a b is same name n (Ok r) found =
    subst (λ z. MatchOption r ((attribute : ℕ) → ¬ IsAskedOn z name n attribute) (IsAskedOn z name n)) same
    (asked_one b (subst IsAttribution (sym same) is) name n r found)

module _ (a : AttributionParts) (name : List ℕ) (top : Tree) (n : ℕ) (fits : FitsTree a.signatures top n) where
  -- what is asked of a tree is asked on its nonterminal
  none_of : ((x : ℕ) → ¬ IsAskedOn a name n x) → (x : ℕ) → ¬ IsAskedAs a top name x
  none_of none x asked =
      none x (subst (λ z. IsAskedOn a name z x) (one_nonterminal a.signatures top asked.nonterminal n asked.fits fits) asked.asked)

  asked_of : (r : Option ℕ) → MatchOption r ((x : ℕ) → ¬ IsAskedOn a name n x) (IsAskedOn a name n)
      → MatchOption r ((x : ℕ) → ¬ IsAskedAs a top name x) (IsAskedAs a top name)
  asked_of None none = none_of none
  asked_of (Some x) asked = record { nonterminal = n; fits = fits; asked = asked }

  -- the same where memory may hinder
  pub asked_there : {E : Type 0} (x : Result (Option ℕ) E)
      → IfOk x (λ r. MatchOption r ((attribute : ℕ) → ¬ IsAskedOn a name n attribute) (IsAskedOn a name n))
      → IfOk x (λ r. MatchOption r ((attribute : ℕ) → ¬ IsAskedAs a top name attribute) (IsAskedAs a top name))
  asked_there (Err error) found = tt
  asked_there (Ok r) found = asked_of r found
