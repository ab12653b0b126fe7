-- What a look-up by the key of a declaration says of the declaration.
use Rattle.std.proofs.Common.{◌≡◌, ◌∷◌, ◌++◌, [], ℕ, List, Option, Some, None, Result, Ok, Err}
use Rattle.std.proofs.Common.{length, slice_get, Contains, refl, subst, inr}
use Rattle.std.specs.Prelude.{IfOk, IfSome, IfNone}
use Rattle.std.proofs.lemmas.Option.{slice_get_within}
use Rattle.wb_lemmas.proofs.Members.{place_of}
use Rattle.wb_syntax_resolved.specs.declared.attributes.Direction.{Direction}
use Rattle.wb_syntax_resolved.specs.declared.attributes.Direction.TheVariants.{Synthesized}
use Rattle.wb_names_theory.specs.declared.declaration.Declaration.{Declaration}
use Rattle.wb_names_theory.specs.declared.declaration.Declaration.TheVariants as d
use Rattle.wb_names_theory.specs.declared.declaration.Labelled.{Labelled}
use Rattle.wb_names_theory.specs.declared.declaration.Labelled.TheVariants.{Plain}
use Rattle.wb_names_theory.specs.declared.declaration.Sort.{Sort}
use Rattle.wb_names_theory.specs.declared.declaration.Sort.TheVariants.{Terminal}
use Rattle.wb_names_theory.specs.Duplicate.{AreSame, Counts}
use Rattle.wb_names_theory.specs.Duplicate as s
use Rattle.wb_names_rules.specs.declared.table.Pass.TheVariants.{Others}
use Rattle.wb_names_rules.specs.Keys.{key_of, marked}
use Rattle.wb_names_rules.specs.Index.{CountOnce}
use Rattle.wb_names_rules.specs.Indexed.{IsIndexed, IsKept}
use Rattle.wb_names_rules.specs.Inner.Indexed.{IsAtKey, HasNoKey, IsFound}
use Rattle.wb_names_rules.proofs.KeyLemmas.{key_apart}

module _ (declared : List Declaration) where
  -- a key that the table doesn't have is no declaration's that counts
  no_key : (keys : List (List ℕ)) (places : List ℕ) (key : List ℕ) → IsIndexed declared keys places Others (length declared)
      → ¬ Contains keys key → HasNoKey declared key
  no_key keys places key known absent one has counts is =
      let (at, there) = place_of declared one has in
      absent (subst (Contains keys) is (known.complete at one there (inr (slice_get_within declared at one there)) counts))

  -- what a table keeps for a key is found by it
  pub is_found : (keys : List (List ℕ)) (places : List ℕ) (key : List ℕ) (found : Option ℕ)
      → IsIndexed declared keys places Others (length declared) → IfSome found (IsKept keys places key)
      → IfNone found (¬ Contains keys key) → IsFound declared key found
  is_found keys places key None known kept absent = no_key keys places key known absent
  is_found keys places key (Some place) known kept absent = let has = known.sound key place kept in
      record { declaration = has.declaration; at = has.at; is_key = has.is_key }

  -- declarations of the same thing that count are one
  pub once_all : (keys : List (List ℕ)) (places : List ℕ) → IsIndexed declared keys places Others (length declared) → CountOnce declared
  once_all keys places known i j one other at_one at_other counts same =
      known.once i j one other at_one at_other (inr (slice_get_within declared i one at_one)) (inr (slice_get_within declared j other at_other))
      counts same

  -- what is at a place where a key is found
  pub found_as : {E : Type 0} (r : Result (Option ℕ) E) (key : List ℕ) (P : ℕ → Type 0) → ((place : ℕ) → IsAtKey declared key place
      → P place)
      → IfOk r (IsFound declared key) → IfOk r (λ (found : Option ℕ). IfSome found P)
  found_as (Ok None) key P gives found = tt
  found_as (Ok (Some place)) key P gives found = gives place found
  found_as (Err e) key P gives found = tt

  -- what isn't there where a key isn't found
  pub none_as : {E : Type 0} (r : Result (Option ℕ) E) (key : List ℕ) (P : Type 0) → (HasNoKey declared key → P)
      → IfOk r (IsFound declared key)
      → IfOk r (λ (found : Option ℕ). IfNone found P)
  none_as (Ok None) key P gives found = gives found
  none_as (Ok (Some place)) key P gives found = tt
  none_as (Err e) key P gives found = tt

  -- no declaration with this key that counts is there
  pub not_there : (one : Declaration) → Counts declared one → HasNoKey declared (key_of one) → ¬ Contains declared one
  not_there one counts none has = none one has counts refl

  -- what is at a place with the key of a declaration is of the same thing
  same_there : (place : ℕ) (one : Declaration) → IsAtKey declared (key_of one) place
      → (other : Declaration) × (slice_get declared place ≡ Some other) × AreSame one other
  same_there place one at = (at.declaration, at.at, key_apart one at.declaration at.is_key)

  -- a symbol
  pub symbol_there : (name : List ℕ) (place : ℕ) → IsAtKey declared (0 ∷ name) place
      → (is : Sort) × (slice_get declared place ≡ Some (d.Symbol name is))
  symbol_there name place at = by_same (same_there place (d.Symbol name Terminal) at) where
    by_same : (other : Declaration) × (slice_get declared place ≡ Some other) × AreSame (d.Symbol name Terminal) other
        → (is : Sort) × (slice_get declared place ≡ Some (d.Symbol name is))
    by_same (other, there, s.symbol {other = is}) = (is, there)

  -- an attribute
  pub attribute_there : (name : List ℕ) (place : ℕ) → IsAtKey declared (1 ∷ name) place
      → (direction : Direction) × (slice_get declared place ≡ Some (d.Attribute name direction))
  attribute_there name place at = by_same (same_there place (d.Attribute name Synthesized) at) where
    by_same : (other : Declaration) × (slice_get declared place ≡ Some other) × AreSame (d.Attribute name Synthesized) other
        → (direction : Direction) × (slice_get declared place ≡ Some (d.Attribute name direction))
    by_same (other, there, s.attribute {other = is}) = (is, there)

  -- a label
  pub label_there : (p l : List ℕ) (place : ℕ) → IsAtKey declared (4 ∷ (marked p ++ l)) place
      → (is : Labelled) × (slice_get declared place ≡ Some (d.Label p l is))
  label_there p l place at = by_same (same_there place (d.Label p l Plain) at) where
    by_same : (other : Declaration) × (slice_get declared place ≡ Some other) × AreSame (d.Label p l Plain) other
        → (is : Labelled) × (slice_get declared place ≡ Some (d.Label p l is))
    by_same (other, there, s.label {other = is}) = (is, there)

  -- a left side
  pub left_there : (p : List ℕ) (place : ℕ) → IsAtKey declared (3 ∷ p) place
      → (n : List ℕ) × (slice_get declared place ≡ Some (d.Left p n))
  left_there p place at = by_same (same_there place (d.Left p []) at) where
    by_same : (other : Declaration) × (slice_get declared place ≡ Some other) × AreSame (d.Left p []) other
        → (n : List ℕ) × (slice_get declared place ≡ Some (d.Left p n))
    by_same (other, there, s.left {m = n}) = (n, there)

  -- an occurrence
  pub occurrence_there : (a n : List ℕ) (place : ℕ) → IsAtKey declared (2 ∷ (marked a ++ n)) place
      → slice_get declared place ≡ Some (d.Occurrence a n)
  occurrence_there a n place at = by_same (same_there place (d.Occurrence a n) at) where
    by_same : (other : Declaration) × (slice_get declared place ≡ Some other) × AreSame (d.Occurrence a n) other
        → slice_get declared place ≡ Some (d.Occurrence a n)
    by_same (other, there, s.occurrence) = there

  -- a forward
  pub forward_there : (p : List ℕ) (place : ℕ) → IsAtKey declared (6 ∷ p) place → slice_get declared place ≡ Some (d.Forward p)
  forward_there p place at = by_same (same_there place (d.Forward p) at) where
    by_same : (other : Declaration) × (slice_get declared place ≡ Some other) × AreSame (d.Forward p) other
        → slice_get declared place ≡ Some (d.Forward p)
    by_same (other, there, s.forward) = there
