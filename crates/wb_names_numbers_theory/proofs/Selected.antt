-- Which equations are on a production, and what is kept of a list.
use Rattle.std.proofs.Common.{◌≡◌, ◌∷◌, ◌⊎◌, inl, inr, [], ℕ, Bool, true, false, List, Option, Some, None, Contains, cond, ap, sym, refl}
use Rattle.std.proofs.Common.{subst, ◌∙◌}
use Rattle.std.specs.Prelude.{filter, filter_map}
use Rattle.std.specs.List.{cons_option}
use Rattle.std.specs.Str.{bytes_eq}
use Rattle.std.proofs.lemmas.Slice.Eq.{bytes_eq-Decides}
use Rattle.wb_lemmas.proofs.Members.{contains_cases, contains_first, contains_later, nothing_in}
use Rattle.wb_syntax.specs.declared.expression.Equation.{Equation}
use Rattle.wb_names_theory.specs.Declarations.{Items}
use Rattle.wb_names_numbers_theory.specs.Files.{Block, blocks, equations_on}
use Rattle.wb_names_numbers_theory.proofs.OwnDeclared.{contains_flat_map, flat_map_contains}

-- texts are the same exactly where the test holds
pub same_bytes : (x y : List ℕ) → bytes_eq x y ≡ true → x ≡ y
same_bytes x y = (bytes_eq-Decides x y).0

pub bytes_same : (x y : List ℕ) → x ≡ y → bytes_eq x y ≡ true
bytes_same x y = (bytes_eq-Decides x y).1

module _ {X : Type 0} (test : X → Bool) where
  passes : (z : X) (xs : List X) → test z ≡ true → filter test (z ∷ xs) ≡ z ∷ filter test xs
  passes z xs e = ap (λ k. cond k (z ∷ filter test xs) (filter test xs)) e

  fails : (z : X) (xs : List X) → test z ≡ false → filter test (z ∷ xs) ≡ filter test xs
  fails z xs e = ap (λ k. cond k (z ∷ filter test xs) (filter test xs)) e

  kept_first : (z x : X) (xs : List X) → z ≡ x → test x ≡ true → Contains (filter test (z ∷ xs)) x
  kept_first z x xs same e =
      let passed = passes z xs (ap test same ∙ e) in
      subst (λ k. Contains k x) (sym passed) (subst (Contains (z ∷ filter test xs)) same (contains_first z (filter test xs)))

  kept_later : (z x : X) (xs : List X) (b : Bool) → test z ≡ b → Contains (filter test xs) x → Contains (filter test (z ∷ xs)) x
  kept_later z x xs true e has = subst (λ k. Contains k x) (sym (passes z xs e)) (contains_later z x (filter test xs) has)
  kept_later z x xs false e has = subst (λ k. Contains k x) (sym (fails z xs e)) has

  -- what passes is kept, and nothing else
  pub filter_contains : (xs : List X) (x : X) → Contains xs x → test x ≡ true → Contains (filter test xs) x
  filter_contains [] x has e = absurd (nothing_in x has)
  filter_contains (z ∷ xs) x has e =
      elim (contains_cases z x xs has) [
        | inl same ↦ kept_first z x xs same e
        | inr more ↦ kept_later z x xs (test z) refl (filter_contains xs x more e)
      ]

  first_or_later : (z x : X) (xs : List X) (b : Bool) → test z ≡ b → Contains (filter test (z ∷ xs)) x
      → ((z ≡ x) × (test z ≡ true)) ⊎ Contains (filter test xs) x
  first_or_later z x xs true e has =
      elim (contains_cases z x (filter test xs) (subst (λ k. Contains k x) (passes z xs e) has)) [
        | inl same ↦ inl (same, e)
        | inr more ↦ inr more
      ]
  first_or_later z x xs false e has = inr (subst (λ k. Contains k x) (fails z xs e) has)

  pub contains_filter : (xs : List X) (x : X) → Contains (filter test xs) x → Contains xs x × (test x ≡ true)
  contains_filter [] x has = absurd (nothing_in x has)
  contains_filter (z ∷ xs) x has =
      elim (first_or_later z x xs (test z) refl has) [
        | inl first ↦ (subst (Contains (z ∷ xs)) first.0 (contains_first z xs), subst (λ k. test k ≡ true) first.0 first.1)
        | inr more ↦ let rest = contains_filter xs x more in (contains_later z x xs rest.0, rest.1)
      ]

-- what is kept of a list comes from an element
pub kept_from : {X Y : Type 0} (g : X → Option Y) (xs : List X) (y : Y) → Contains (filter_map g xs) y
    → (x : X) × Contains xs x × (g x ≡ Some y)
kept_from {X} {Y} g [] y has = absurd (nothing_in y has)
kept_from {X} {Y} g (z ∷ xs) y has = from (g z) refl (λ more. kept_from g xs y more) where
  from : (o : Option Y) → g z ≡ o → (Contains (filter_map g xs) y → (x : X) × Contains xs x × (g x ≡ Some y))
      → (x : X) × Contains (z ∷ xs) x × (g x ≡ Some y)
  from None e rest =
      let more = rest (subst (λ k. Contains k y) (ap (λ o. cons_option o (filter_map g xs)) e) has) in
      (more.0, contains_later z more.0 xs more.1, more.2)
  from (Some w) e rest =
      elim (contains_cases w y (filter_map g xs) (subst (λ k. Contains k y) (ap (λ o. cons_option o (filter_map g xs)) e) has)) [
        | inl same ↦ (z, contains_first z xs, e ∙ ap Some same)
        | inr more ↦ let found = rest more in (found.0, contains_later z found.0 xs found.1, found.2)
      ]

-- the equations on a production are those of its blocks
pub equations_of_block : (name : List ℕ) (items : Items) (b : Block) → Contains (blocks items) b → b.name ≡ name → (e : Equation)
    → Contains b.equations e → Contains (equations_on name items) e
equations_of_block name items b has same e more =
    flat_map_contains (λ (x : Block). x.equations) (filter (λ (x : Block). bytes_eq x.name name) (blocks items)) b e
    (filter_contains (λ (x : Block). bytes_eq x.name name) (blocks items) b has (bytes_same b.name name same)) more

pub block_of_equation : (name : List ℕ) (items : Items) (e : Equation) → Contains (equations_on name items) e
    → (b : Block) × Contains (blocks items) b × (b.name ≡ name) × Contains b.equations e
block_of_equation name items e has =
    let x = contains_flat_map (λ (x : Block). x.equations) (filter (λ (x : Block). bytes_eq x.name name) (blocks items)) e has in
    let y = contains_filter (λ (x : Block). bytes_eq x.name name) (blocks items) x.0 x.1 in
    (x.0, y.0, same_bytes x.0.name name y.1, x.2)
