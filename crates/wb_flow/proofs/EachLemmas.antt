-- Loops that test each value of a list.
use Rattle.std.proofs.Common.{◌≡◌, ◌<◌, ◌≤◌, ◌+◌, ◌∷◌, ◌++◌, [], inl, inr, ℕ, Bool, true, false, eqb, List, Some, All, length, take, get_or}
use Rattle.std.proofs.Common.{slice_get, Contains, refl, sym, subst}
use Rattle.std.proofs.Common.{arith}
use Rattle.std.specs.Bool.{Decides}
use Rattle.std.specs.List.{AllZip, IsAnyAnswer}
use Rattle.std.proofs.lemmas.Bool.Decides.{Decides-eqb}
use Rattle.std.proofs.lemmas.List.Elements.{contains_decides, Decides-contains}
use Rattle.std.proofs.lemmas.List.{take_more}
use Rattle.std.proofs.lemmas.Option.{slice_get_within, slice_get-get_or}
use Rattle.std.proofs.lemmas.Slice.Zip.{all_zipped_more}
use Rattle.wb_lemmas.proofs.Elements.{all_at}
use Rattle.wb_lemmas.proofs.Members.{place_of}
use Rattle.wb_lemmas.proofs.Places.{at_once}
use Rattle.wb_flow_theory.specs.Occurrences.{Goes, HasFlowType, ForwardNeeds}
use Rattle.wb_flow_theory.specs.Modular.{HoldForwardNeeds}
use Rattle.wb_flow_theory.proofs.OccurrenceLemmas.{one_flow_type}
use Rattle.wb_flow.specs.declared.vertex.Vertex.{Vertex}
use Rattle.wb_flow.specs.Inner.Sources.{HoldsForward}
use Rattle.wb_flow.specs.Refusals.{LacksForwardNeed}
use Rattle.wb_flow.proofs.AddingLemmas.{below_or}
use Rattle.wb_syntax_resolved.specs.declared.attributes.Direction.TheVariants.{Synthesized}
use Rattle.wb_syntax_resolved.specs.declared.attributes.Occurrence.{Occurrence}
use Rattle.wb_syntax_resolved.specs.declared.attribution.AttributionParts.{AttributionParts}
use Rattle.wb_syntax_resolved.specs.Attribution.{IsAttribution}

-- of each of the first values it holds
abbrev pub EachBefore : {X : Type 0} → List X → ℕ → (X → Type 0) → Type 0
EachBefore {X} xs count P = (k : ℕ) (x : X) → k < count → slice_get xs k ≡ Some x → P x

module _ {X : Type 0} (xs : List X) (P : X → Type 0) where
  pub each_more : (i : ℕ) (x : X) → slice_get xs i ≡ Some x → EachBefore xs i P → P x → EachBefore xs (i + 1) P
  each_more i x there before holds k y lt at = elim (below_or k i lt) [
    | inl low ↦ before k y low at
    | inr last ↦ subst P (sym (at_once xs i y x (subst (λ z. slice_get xs z ≡ Some y) last at) there)) holds
  ]

  pub each_all : (i : ℕ) → length xs ≤ i → EachBefore xs i P → (k : ℕ) (x : X) → slice_get xs k ≡ Some x → P x
  each_all i ended before k x at = let lt = slice_get_within xs k x at in before k x (omega (arith, lt, ended)) at

  -- where the list is given by another name
  pub each_in : (ys : List X) → xs ≡ ys → (i : ℕ) → length xs ≤ i → EachBefore xs i P → (k : ℕ) (x : X) → slice_get ys k ≡ Some x → P x
  each_in ys same i ended before k x at = each_all i ended before k x (subst (λ z. slice_get z k ≡ Some x) (sym same) at)

-- one place more
pub zip_more : {A B : Type 0} (R : A → B → Type 0) (xs : List A) (i : ℕ) (d : A) (ys zs : List B) (y : B) → i < length xs
    → AllZip R (take i xs) ys → R (get_or xs i d) y → zs ≡ ys ++ y ∷ [] → AllZip R (take (i + 1) xs) zs
zip_more R xs i d ys zs y within zipped related is =
    subst (λ (z : List _). AllZip R z zs) (sym (take_more xs i d within))
    (subst (AllZip R (take i xs ++ get_or xs i d ∷ [])) (sym is) (all_zipped_more R (take i xs) ys (get_or xs i d) y zipped related))

-- what is read at a place that is read
pub read_place : (vertices : List Vertex) (places : List ℕ) (i d : ℕ) (v : Vertex) → All (λ place. place < length vertices) places
    → i < length places → slice_get vertices (get_or places i d) ≡ Some (get_or vertices (get_or places i d) v)
read_place vertices places i d v below within =
    slice_get-get_or vertices (get_or places i d) v (all_at (λ place. place < length vertices) places i (get_or places i d) below
    (slice_get-get_or places i d within))

module _ (a : AttributionParts) (is : IsAttribution a) where
  own_flow : (o : Occurrence) → Contains a.occurrences o → HasFlowType a o.attribute o.nonterminal o.needs
  own_flow o listed = record { occurrence = o; listed = listed; of_attribute = refl; on_nonterminal = refl; needs_are = refl }

  -- what the flow type of an occurrence lacks
  pub lacks_need : (o : Occurrence) → Contains a.occurrences o → Goes a Synthesized o.attribute → (i : ℕ) → ForwardNeeds a o.nonterminal i
      → ¬ Contains o.needs i → LacksForwardNeed a o.nonterminal o.attribute i
  lacks_need o listed goes i forward lacks = record {
    occurs = record { goes = goes; on = (o.needs, own_flow o listed) };
    forward = forward;
    lacks = λ (needs, flow, has). lacks (subst (λ z. Contains z i)
        (one_flow_type a is o.attribute o.nonterminal needs o.needs flow (own_flow o listed)) has);
  }

  -- where each occurrence has what its forward has, flow types do
  pub hold_all : ((k : ℕ) (o : Occurrence) → slice_get a.occurrences k ≡ Some o → HoldsForward a o) → HoldForwardNeeds a
  hold_all each m x i occurs forward =
      let flow = occurs.on.1 in
      let o = flow.occurrence in
      let (k, at) = place_of a.occurrences o flow.listed in
      let has = each k o at (subst (Goes a Synthesized) (sym flow.of_attribute) occurs.goes) i
      (subst (λ z. ForwardNeeds a z i) (sym flow.on_nonterminal) forward) in (
        o.needs,
        record {
          occurrence = o;
          listed = flow.listed;
          of_attribute = flow.of_attribute;
          on_nonterminal = flow.on_nonterminal;
          needs_are = refl;
        },
        has,
      )

-- what a test of membership says
decides : (slice list : List ℕ) → slice ≡ list → (n : ℕ) (r : Bool) → IsAnyAnswer (λ y b. eqb y n ≡ b) slice r → Decides r (Contains list n)
decides slice list same n r cases =
    subst (λ z. Decides r (Contains z n)) same (Decides-contains slice n r (contains_decides eqb Decides-eqb slice n r cases))

pub is_contained : (slice list : List ℕ) → slice ≡ list → (n : ℕ) (r : Bool) → IsAnyAnswer (λ y b. eqb y n ≡ b) slice r → r ≡ true
    → Contains list n
is_contained slice list same n r cases = (decides slice list same n r cases).0

pub not_contained : (slice list : List ℕ) → slice ≡ list → (n : ℕ) (r : Bool) → IsAnyAnswer (λ y b. eqb y n ≡ b) slice r → r ≡ false
    → ¬ Contains list n
not_contained slice list same n r cases false_is has = let yes = (decides slice list same n r cases).1 has in cc
