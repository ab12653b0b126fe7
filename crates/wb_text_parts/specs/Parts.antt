-- Parts of texts, such as words, numbers and lines, and where a part first goes wrong.
use Rattle.std.specs.Prelude.{◌≡◌, ◌≢◌, ◌<◌, ◌^◌, ◌⊎◌, ℕ, List, [], ◌∷◌, ◌++◌}
use Rattle.std.specs.Fmt.{decimal}

-- the number is below 2^64
abbrev pub IsSmall : ℕ → Type 0
IsSmall n = n < 2 ^ 64

-- a number in decimal, without leading zeros, and the byte after it
abbrev pub number_then : ℕ → ℕ → List ℕ
number_then after n = decimal n ++ after ∷ []

-- the texts of the good values
abbrev pub Texts : {V : Type 0} → (V → Type 0) → (V → List ℕ) → List ℕ → Type 0
Texts {V = V} Good text_of l = (v : V) × Good v × (l ≡ text_of v)

-- the text begins with that of a good value
abbrev pub Begins : {V : Type 0} → (V → Type 0) → (V → List ℕ) → List ℕ → V → List ℕ → Type 0
Begins Good text_of text v after = Good v × (text ≡ text_of v ++ after)

-- one text of the first set and one of the second
abbrev pub Both : (List ℕ → Type 0) → (List ℕ → Type 0) → List ℕ → Type 0
Both First Second l = (a : List ℕ) × (b : List ℕ) × First a × Second b × (l ≡ a ++ b)

-- these bytes alone
abbrev pub Exactly : List ℕ → List ℕ → Type 0
Exactly word l = l ≡ word

-- the texts of a number and this byte
abbrev pub Numbers : ℕ → List ℕ → Type 0
Numbers end = Texts IsSmall (number_then end)

-- the byte is no digit
abbrev pub IsNoDigit : ℕ → Type 0
IsNoDigit b = (b < 48) ⊎ (57 < b)

-- the text is cut where it first goes wrong: what is before begins some text of the set, with the byte after it none goes on, and no text
-- of the set is at the beginning
pub record IsStop (Set : List ℕ → Type 0) (text rest : List ℕ) : Type 0 where
  pub front : List ℕ
  pub split : text ≡ front ++ rest
  pub more : List ℕ
  pub begins : Set (front ++ more)
  pub no_further : (b : ℕ) (after tail : List ℕ) → rest ≡ b ∷ after → ¬ Set (front ++ b ∷ tail)
  pub no_whole : (part after : List ℕ) → Set part → text ≢ part ++ after

-- no text begins with two different ones of the set
abbrev pub IsPrefixFree : (List ℕ → Type 0) → Type 0
IsPrefixFree Set = (a b x y : List ℕ) → Set a → Set b → a ++ x ≡ b ++ y → a ≡ b
