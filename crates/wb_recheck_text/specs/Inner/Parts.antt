-- Parts of texts, such as words and lines, and where a part first goes wrong.
use Rattle.std.specs.Prelude.{◌≡◌, ◌≢◌, ◌≤◌, ◌<◌, ◌+◌, ◌*◌, ◌-◌, ◌^◌, ◌⊎◌, ℕ, List, [], ◌∷◌, ◌++◌, length, take, drop, true, false}
use Rattle.std.specs.Fmt.{decimal}
use Rattle.wb_base.specs.Identifiers.{IsIdentifier, IsName, is_letter, is_name_byte}
use Rattle.wb_recheck_text.specs.Text.{number_then, name_then}
use Rattle.wb_recheck_text.specs.Faults.{IsSmall}

-- the texts of the good values
abbrev pub Texts : {V : Type 0} → (V → Type 0) → (V → List ℕ) → List ℕ → Type 0
Texts {V = V} Good text_of l = (v : V) × Good v × (l ≡ text_of v)

-- the text begins with that of a good value
abbrev pub Begins : {V : Type 0} → (V → Type 0) → (V → List ℕ) → List ℕ → V → List ℕ → Type 0
Begins Good text_of text v after = Good v × (text ≡ text_of v ++ after)

-- one text of the first set and one of the second
abbrev pub Both : (List ℕ → Type 0) → (List ℕ → Type 0) → List ℕ → Type 0
Both First Second l = (a : List ℕ) × (b : List ℕ) × First a × Second b × (l ≡ a ++ b)

-- these bytes alone
abbrev pub Exactly : List ℕ → List ℕ → Type 0
Exactly word l = l ≡ word

-- the texts of a number and this byte
abbrev pub Numbers : ℕ → List ℕ → Type 0
Numbers end = Texts IsSmall (number_then end)

-- the texts of a name and this byte
abbrev pub NamesThen : ℕ → List ℕ → Type 0
NamesThen end = Texts IsName (name_then end)

-- the text is cut where it first goes wrong: what is before begins some text of the set, with the byte after it none goes on, and no text
-- of the set is at the beginning
pub record IsStop (Set : List ℕ → Type 0) (text rest : List ℕ) : Type 0 where
  pub front : List ℕ
  pub split : text ≡ front ++ rest
  pub more : List ℕ
  pub begins : Set (front ++ more)
  pub no_further : (b : ℕ) (after tail : List ℕ) → rest ≡ b ∷ after → ¬ Set (front ++ b ∷ tail)
  pub no_whole : (part after : List ℕ) → Set part → text ≢ part ++ after

-- no text begins with two different ones of the set
abbrev pub IsPrefixFree : (List ℕ → Type 0) → Type 0
IsPrefixFree Set = (a b x y : List ℕ) → Set a → Set b → a ++ x ≡ b ++ y → a ≡ b

-- the two texts are the same so far, and then they differ or one of them ends
pub record AreSameUpTo (text bytes : List ℕ) (at : ℕ) : Type 0 where
  pub within : at ≤ length bytes
  pub inside : at ≤ length text
  pub split : text ≡ take at bytes ++ drop at text
  pub differ : (b c : ℕ) (after more : List ℕ) → drop at text ≡ b ∷ after → drop at bytes ≡ c ∷ more → b ≢ c

-- the byte is no digit
abbrev pub IsNoDigit : ℕ → Type 0
IsNoDigit b = (b < 48) ⊎ (57 < b)

-- the text doesn't begin with a digit
abbrev pub HasNoDigit : List ℕ → Type 0
HasNoDigit text = (b : ℕ) (after : List ℕ) → text ≡ b ∷ after → IsNoDigit b

-- the byte is a digit that can be after those of the number: it has no leading zero, and with the digit it is below 2^64
pub record CanFollow (value byte : ℕ) : Type 0 where
  pub some : value ≢ 0
  pub low : 48 ≤ byte
  pub high : byte ≤ 57
  pub small : value * 10 + (byte - 48) < 2 ^ 64

-- the number is at the beginning, and no digit that is there can follow it
pub record IsLongest (text : List ℕ) (value at : ℕ) : Type 0 where
  pub small : IsSmall value
  pub within : at ≤ length text
  pub split : text ≡ decimal value ++ drop at text
  pub last : (b : ℕ) (after : List ℕ) → drop at text ≡ b ∷ after → ¬ CanFollow value b

-- the text doesn't begin with a letter or `_`
abbrev pub HasNoLetter : List ℕ → Type 0
HasNoLetter text = (b : ℕ) (after : List ℕ) → text ≡ b ∷ after → is_letter b ≡ false

-- an identifier is at the beginning, and goes on no further
pub record IsRun (text : List ℕ) (at : ℕ) : Type 0 where
  pub within : at ≤ length text
  pub identifier : IsIdentifier (take at text)
  pub last : (b : ℕ) (after : List ℕ) → drop at text ≡ b ∷ after → is_name_byte b ≡ false
