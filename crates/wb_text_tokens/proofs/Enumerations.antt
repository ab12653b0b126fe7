-- Enums without fields: the list of their values, and tests of each value by one computation. So no proof lists the variants again.
use Rattle.std.proofs.Common.{◌≡◌, List, [], ◌∷◌, Bool, true, false, ◌&&◌, inl, inr, subst}
use Rattle.std.specs.Prelude.{Contains}
use Rattle.wb_lemmas.proofs.Booleans.{and_left, and_right}
use Rattle.wb_lemmas.proofs.Members.{contains_first, contains_later}
use denote.Struct.Field.{Field}
use denote.Enum.Bare.{Bare}
use denote.Enum.Declared.{Record, Choice}

-- the values, in the order of the variants
abbrev pub values_from : {D : Type 0} (Fss : List (List Field)) → (Choice Fss → D) → List D
values_from [] make = []
values_from ([] ∷ Fss) make = make (inl tt) ∷ values_from Fss (λ c. make (inr c))
values_from ((F ∷ Fs) ∷ Fss) make = []

abbrev pub values_of : (N : Record) → List N.D
values_of N = values_from N.parts N.make

contains_choice : {D : Type 0} (Fss : List (List Field)) → Bare Fss → (make : Choice Fss → D) (c : Choice Fss)
    → Contains (values_from Fss make) (make c)
contains_choice [] bare make c = absurd c
contains_choice ([] ∷ Fss) bare make (inl x) = contains_first (make (inl tt)) (values_from Fss (λ c. make (inr c)))
contains_choice ([] ∷ Fss) bare make (inr c) =
    contains_later (make (inl tt)) (make (inr c)) (values_from Fss (λ d. make (inr d))) (contains_choice Fss bare (λ d. make (inr d)) c)
contains_choice ((F ∷ Fs) ∷ Fss) bare make c = absurd bare

-- each value is in the list
pub contains_value : (N : Record) → Bare N.parts → (d : N.D) → Contains (values_of N) d
contains_value N bare d = subst (λ x. Contains (values_of N) x) (N.eta d) (contains_choice N.parts bare N.make (N.as_values d))

-- the test holds of each value
abbrev pub holds_from : (Fss : List (List Field)) → (Choice Fss → Bool) → Bool
holds_from [] p = true
holds_from ([] ∷ Fss) p = p (inl tt) && holds_from Fss (λ c. p (inr c))
holds_from ((F ∷ Fs) ∷ Fss) p = false

each_choice : (Fss : List (List Field)) (p : Choice Fss → Bool) → holds_from Fss p ≡ true → (c : Choice Fss) → p c ≡ true
each_choice [] p h c = absurd c
each_choice ([] ∷ Fss) p h (inl x) = and_left (p (inl tt)) (holds_from Fss (λ d. p (inr d))) h
each_choice ([] ∷ Fss) p h (inr c) = each_choice Fss (λ d. p (inr d)) (and_right (p (inl tt)) (holds_from Fss (λ d. p (inr d))) h) c
each_choice ((F ∷ Fs) ∷ Fss) p h c = absurd (cc)

-- where it computes to true, it holds of each
pub each_value : (N : Record) (p : N.D → Bool) → holds_from N.parts (λ c. p (N.make c)) ≡ true → (d : N.D) → p d ≡ true
each_value N p h d = subst (λ x. p x ≡ true) (N.eta d) (each_choice N.parts (λ c. p (N.make c)) h (N.as_values d))
