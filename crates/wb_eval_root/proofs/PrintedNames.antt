-- No two attributes are printed alike.
use Rattle.std.proofs.Common.{◌≡◌, ◌≢◌, ◌≤◌, ◌++◌, ◌∷◌, [], ℕ, zero, suc, true, List, Option, Some, None, All, map, length, slice_get}
use Rattle.std.proofs.Common.{IsSomeAnd, inr, refl, sym, ap, subst, ◌∙◌, arith}
use Rattle.std.specs.Prelude.{codes, slice_index_or, option_map}
use Rattle.std.specs.List.{list_all}
use Rattle.std.proofs.lemmas.Option.{slice_get-map, slice_get-get_or}
use Rattle.wb_base.specs.Different.{Differ}
use Rattle.wb_base.specs.Identifiers.{IsIdentifier, IsName, is_letter, is_name_byte}
use Rattle.wb_lemmas.proofs.Booleans.{and_parts}
use Rattle.wb_lemmas.proofs.Elements.{all_at}
use Rattle.wb_syntax_resolved.specs.Attribution.{IsAttribution}
use Rattle.wb_syntax_resolved.specs.declared.attributes.Attribute.{Attribute}
use Rattle.wb_syntax_resolved.specs.declared.attribution.AttributionParts.{AttributionParts}
use Rattle.wb_syntax_resolved.specs.Named.{IsNamedAttribute}
use Rattle.wb_syntax_resolved.specs.Once.{Entry}
use Rattle.wb_syntax_resolved.specs.Owners.{printed_name}
use Rattle.wb_eval_root.specs.Asked.{IsPrintedAs}

-- none of the bytes is a colon
abbrev HasNoColon : List ℕ → Type 0
HasNoColon [] = Unit {0}
HasNoColon (b ∷ x) = (b ≢ 58) × HasNoColon x

-- a name has no colon
bytes_no_colon : (x : List ℕ) → list_all is_name_byte x ≡ true → HasNoColon x
bytes_no_colon [] e = tt
bytes_no_colon (b ∷ x) e =
    let (first, later) = and_parts (is_name_byte b) (list_all is_name_byte x) e in
    (λ f. let is : is_name_byte 58 ≡ true = subst (λ c. is_name_byte c ≡ true) f first in absurd (cc is), bytes_no_colon x later)

identifier_no_colon : (x : List ℕ) → IsIdentifier x → HasNoColon x
identifier_no_colon [] is = absurd is
identifier_no_colon (b ∷ x) (first, later) =
    (λ f. let is : is_letter 58 ≡ true = subst (λ c. is_letter c ≡ true) f first in absurd (cc is), bytes_no_colon x later)

-- what comes before the first colon, and what after it
one_split : (x y u v : List ℕ) → HasNoColon x → HasNoColon y → x ++ codes ":" ++ u ≡ y ++ codes ":" ++ v → (x ≡ y) × (u ≡ v)
one_split [] [] u v p q e = let whole : 58 ∷ u ≡ 58 ∷ v = e in (refl, cc)
one_split [] (d ∷ y) u v p q e = let whole : 58 ∷ u ≡ d ∷ (y ++ codes ":" ++ v) = e in absurd (q.0 (cc))
one_split (b ∷ x) [] u v p q e = let whole : b ∷ (x ++ codes ":" ++ u) ≡ 58 ∷ v = e in absurd (p.0 (cc))
one_split (b ∷ x) (d ∷ y) u v p q e =
    let whole : b ∷ (x ++ codes ":" ++ u) ≡ d ∷ (y ++ codes ":" ++ v) = e in
    let first : b ≡ d = cc in
    let rest : x ++ codes ":" ++ u ≡ y ++ codes ":" ++ v = cc in
    let (same, others) = one_split x y u v p.1 q.1 rest in
    (ap (λ c. c ∷ x) first ∙ ap (λ z. d ∷ z) same, others)

-- there is a colon in it
has_colon : (x u : List ℕ) → HasNoColon (x ++ codes ":" ++ u) → ⊥
has_colon [] u is = is.0 refl
has_colon (b ∷ x) u is = has_colon x u is.1

module _ (extensions : List (List ℕ)) (differ : Differ extensions) (named : All IsName extensions) where
  -- the name of an extension
  its_name : (k : ℕ) → suc k ≤ length extensions → IsName (slice_index_or extensions k [])
  its_name k within = all_at IsName extensions k (slice_index_or extensions k []) named (slice_get-get_or extensions k [] (omega (arith, within)))

  -- names that are printed alike are one, and of one owner
  pub one_printed : (o p : ℕ) (n m : List ℕ) → o ≤ length extensions → p ≤ length extensions → IsName n → IsName m
      → printed_name extensions o n ≡ printed_name extensions p m → (o ≡ p) × (n ≡ m)
  one_printed zero zero n m i j is_n is_m e = (refl, e)
  one_printed zero (suc k) n m i j is_n is_m e =
      absurd (has_colon (slice_index_or extensions k []) m (subst HasNoColon e (identifier_no_colon n is_n.identifier)))
  one_printed (suc k) zero n m i j is_n is_m e =
      absurd (has_colon (slice_index_or extensions k []) n (subst HasNoColon (sym e) (identifier_no_colon m is_m.identifier)))
  one_printed (suc k) (suc h) n m i j is_n is_m e =
      let first = identifier_no_colon (slice_index_or extensions k []) (its_name k i).identifier in
      let second = identifier_no_colon (slice_index_or extensions h []) (its_name h j).identifier in
      let (same, names) = one_split (slice_index_or extensions k []) (slice_index_or extensions h []) n m first second e in
      let at = slice_get-get_or extensions k [] (omega (arith, i)) in
      let there = slice_get-get_or extensions h [] (omega (arith, j)) in
      (ap suc (differ (slice_index_or extensions h []) k h (at ∙ ap Some same) there), names)

-- an attribute that is printed so
record IsThere (a : AttributionParts) (name : List ℕ) (number : ℕ) : Type 0 where
  its : Attribute
  at : slice_get a.attributes number ≡ Some its
  printed : printed_name a.extensions its.owner its.name ≡ name

there : (a : AttributionParts) (name : List ℕ) (number : ℕ) → IsPrintedAs a name number → IsThere a name number
there a name number named = by (slice_get a.attributes number) refl named
  where
    by : (o : Option Attribute) → slice_get a.attributes number ≡ o
        → IsSomeAnd o (λ (x : Attribute). printed_name a.extensions x.owner x.name ≡ name) → IsThere a name number
    by None at is = absurd is
    by (Some x) at is = record { its = x; at = at; printed = is }

-- one attribute is printed so
pub one_attribute : (a : AttributionParts) → IsAttribution a → (name : List ℕ) (x y : ℕ) → IsPrintedAs a name x → IsPrintedAs a name y → x ≡ y
one_attribute a is name x y first second =
    let p = there a name x first in
    let q = there a name y second in
    let n : IsNamedAttribute a p.its = all_at (IsNamedAttribute a) a.attributes x p.its is.named.attributes p.at in
    let m : IsNamedAttribute a q.its = all_at (IsNamedAttribute a) a.attributes y q.its is.named.attributes q.at in
    let (owner, named) = one_printed a.extensions is.once.extensions is.named.extensions p.its.owner q.its.owner p.its.name q.its.name n.owner
    m.owner n.name m.name (p.printed ∙ sym q.printed) in
    let entry : Attribute → Entry = λ (r : Attribute). (r.owner, r.name) in
    let at : slice_get (map entry a.attributes) x ≡ Some (p.its.owner, p.its.name) =
    slice_get-map entry a.attributes x ∙ ap (option_map entry) p.at in
    let same : slice_get (map entry a.attributes) y ≡ Some (q.its.owner, q.its.name) =
    slice_get-map entry a.attributes y ∙ ap (option_map entry) q.at in
    let moved : slice_get (map entry a.attributes) y ≡ Some (q.its.owner, p.its.name) =
    same ∙ ap (λ z. Some (q.its.owner, z)) (sym named) in
    is.once.attributes x y p.its.owner q.its.owner p.its.name at moved (inr (sym owner))
