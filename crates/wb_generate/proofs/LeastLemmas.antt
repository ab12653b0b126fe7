-- What has a least one: that numbers or texts with some property lack it can't be.
use Rattle.std.proofs.Common.{◌≡◌, ◌≢◌, ◌⊎◌, ◌≤◌, ◌<◌, ℕ, zero, suc, List, [], ◌∷◌, length, refl, sym, ◌∙◌, ap, subst, inl, inr, arith}
use Rattle.std.proofs.lemmas.Bool.{cases_eq, cases_lt}
use Rattle.wb_lemmas.proofs.NotNot.{bind, certain, decide, follows}
use Rattle.wb_automata.specs.Order.{IsAtMost, IsBefore, IsLessByBytes}
use Rattle.wb_automata.specs.Overlaps.{IsLeastMatch}
use Rattle.wb_regex.specs.Matches.{Matches}
use Rattle.wb_regex.specs.Tree.{Tree}

-- no number below one has the property, and that one has it or is the limit
pub record IsFirst (P : ℕ → Type 0) (limit n : ℕ) : Type 0 where
  pub most : n ≤ limit
  pub lower : (j : ℕ) → P j → n ≤ j
  pub reached : (n ≡ limit) ⊎ P n

-- one more is looked at
first_more : (P : ℕ → Type 0) (limit n : ℕ) → IsFirst P limit n → P limit ⊎ ¬ P limit → (m : ℕ) × IsFirst P (suc limit) m
first_more P limit n first one = by_reached first.reached one
  where
    most : n ≤ limit
    most = first.most

    above : ¬ P limit → n ≡ limit → (j : ℕ) → P j → suc limit ≤ j
    above none last j has = let low : n ≤ j = first.lower j has in at_least (cases_eq j limit) low
      where
        at_least : (j ≡ limit) ⊎ (j ≢ limit) → n ≤ j → suc limit ≤ j
        at_least (inl same) low = absurd (none (subst P same has))
        at_least (inr other) low = omega (arith, low, last, other)

    by_reached : (n ≡ limit) ⊎ P n → P limit ⊎ ¬ P limit → (m : ℕ) × IsFirst P (suc limit) m
    by_reached (inr has) one = (n, record { most = omega (arith, most); lower = first.lower; reached = inr has })
    by_reached (inl last) (inl has) =
        (n, record { most = omega (arith, most); lower = first.lower; reached = inr (subst P (sym last) has) })
    by_reached (inl last) (inr none) =
        (suc limit, record { most = omega arith; lower = above none last; reached = inl refl })

pub some_first : (P : ℕ → Type 0) (limit : ℕ) → ¬ ¬ ((n : ℕ) × IsFirst P limit n)
some_first P zero = certain (zero, record { most = omega arith; lower = λ j has. omega arith; reached = inl refl })
some_first P (suc limit) =
    bind (some_first P limit) (λ (n, first). follows (decide (P limit)) (λ one. first_more P limit n first one))

-- a number that has the property, and each that has it is no less
pub record IsLeastOf (P : ℕ → Type 0) (n : ℕ) : Type 0 where
  pub has : P n
  pub lower : (j : ℕ) → P j → n ≤ j

pub some_least : (P : ℕ → Type 0) (k : ℕ) → P k → ¬ ¬ ((n : ℕ) × IsLeastOf P n)
some_least P k has = follows (some_first P (suc k)) (λ (n, first). (n, record { has = within n first; lower = first.lower }))
  where
    within : (n : ℕ) → IsFirst P (suc k) n → P n
    within n first = by_reached first.reached (first.lower k has)
      where
        by_reached : (n ≡ suc k) ⊎ P n → n ≤ k → P n
        by_reached (inl last) low = absurd (omega (arith, last, low))
        by_reached (inr is) low = is

-- a text of one length that has the property, and each of that length that has it is the same, or the first to differ by a greater byte
pub record IsLeastText (P : List ℕ → Type 0) (n : ℕ) (x : List ℕ) : Type 0 where
  pub len : length x ≡ n
  pub has : P x
  pub least : (y : List ℕ) → length y ≡ n → P y → (x ≡ y) ⊎ IsLessByBytes x y

-- the property of a text after one byte
abbrev Begins : (List ℕ → Type 0) → ℕ → ℕ → Type 0
Begins P n b = (x : List ℕ) × (length x ≡ n) × P (b ∷ x)

one_byte : (P : List ℕ → Type 0) (n b : ℕ) (rest : List ℕ) → IsLeastOf (Begins P n) b → IsLeastText (λ x. P (b ∷ x)) n rest →
    IsLeastText P (suc n) (b ∷ rest)
one_byte P n b rest first tail = record { len = ap suc tail.len; has = tail.has; least = least }
  where
    least : (y : List ℕ) → length y ≡ suc n → P y → (b ∷ rest ≡ y) ⊎ IsLessByBytes (b ∷ rest) y
    least [] len has = absurd (omega (arith, len))
    least (c ∷ y) len has =
        by_byte (cases_eq b c) (first.lower c (y, omega (arith, len), has)) where
          later : b ≡ c → (rest ≡ y) ⊎ IsLessByBytes rest y → (b ∷ rest ≡ c ∷ y) ⊎ IsLessByBytes (b ∷ rest) (c ∷ y)
          later same (inl is) = inl (λ i. same i ∷ is i)
          later same (inr less) = inr (inr (same, less))

          by_byte : (b ≡ c) ⊎ (b ≢ c) → b ≤ c → (b ∷ rest ≡ c ∷ y) ⊎ IsLessByBytes (b ∷ rest) (c ∷ y)
          by_byte (inl same) low = later same (tail.least y (omega (arith, len)) (subst (λ z. P (z ∷ y)) (sym same) has))
          by_byte (inr other) low = inr (inl (omega (arith, other, low)))

pub some_text : (P : List ℕ → Type 0) (n : ℕ) (x : List ℕ) → length x ≡ n → P x → ¬ ¬ ((y : List ℕ) × IsLeastText P n y)
some_text P zero [] len has = certain ([], record { len = refl; has = has; least = λ y same is. nothing y same })
  where
    nothing : (y : List ℕ) → length y ≡ 0 → ([] ≡ y) ⊎ IsLessByBytes [] y
    nothing [] same = inl refl
    nothing (b ∷ y) same = absurd (omega (arith, same))
some_text P zero (b ∷ x) len has = absurd (omega (arith, len))
some_text P (suc n) [] len has = absurd (omega (arith, len))
some_text P (suc n) (b ∷ x) len has =
    bind (some_least (Begins P n) b (x, omega (arith, len), has)) (λ (c, first).
    let (rest, long, is) = first.has in
    follows (some_text (λ y. P (c ∷ y)) n rest long is) (λ (tail, least). (c ∷ tail, one_byte P n c tail first least)))

-- an expression that matches some text has a least one
pub some_least_match : (tree : Tree) (text : List ℕ) → Matches tree text → ¬ ¬ ((x : List ℕ) × IsLeastMatch tree x)
some_least_match tree text matches =
    bind (some_least (λ n. (x : List ℕ) × (length x ≡ n) × Matches tree x) (length text) (text, refl, matches)) (λ (n, shortest).
    let (x, long, is) = shortest.has in
    follows (some_text (Matches tree) n x long is) (λ (y, least). (
      y,
      record {
        matches = least.has;
        least = λ other does. at_most n y least other does (cases_eq (length other) n) (shortest.lower (length other) (other, refl, does));
      },
    )))
  where
    at_most : (n : ℕ) (y : List ℕ) → IsLeastText (Matches tree) n y → (other : List ℕ) → Matches tree other →
        (length other ≡ n) ⊎ (length other ≢ n) → n ≤ length other → IsAtMost y other
    at_most n y least other does (inl same) low = by_bytes (least.least other same does)
      where
        by_bytes : (y ≡ other) ⊎ IsLessByBytes y other → IsAtMost y other
        by_bytes (inl is) = inl is
        by_bytes (inr less) = inr (inr (least.len ∙ sym same, less))
    at_most n y least other does (inr longer) low = let long : length y ≡ n = least.len in inr (inl (omega (arith, long, longer, low)))
