-- How words are split into options and the positional words after them.
use Rattle.std.specs.Prelude.{◌≡◌, ◌≢◌, ◌≤◌, ◌++◌, ℕ, List, [], ◌∷◌, All, Contains, Some, map, slice_get}
use Rattle.std.specs.Str.Parse.{IsNumeral, digits_value}
use lib.Chars.{codes}
use Rattle.wb_base.specs.Different.{Differ}

-- a word or a value that isn't empty and doesn't begin with a dash
abbrev pub IsPositional : List ℕ → Type 0
IsPositional [] = ⊥
IsPositional (byte ∷ bytes) = byte ≢ 45

-- an option with its value
pub record Given : Type 0 where
  pub name : List ℕ
  pub value : List ℕ

-- the names of options
abbrev pub names_of : List Given → List (List ℕ)
names_of options = map (λ (o : Given). o.name) options

-- the name of an option: no byte of it is '='
abbrev pub IsOptionName : List ℕ → Type 0
IsOptionName name = All (λ byte. byte ≢ 61) name

-- words are options, each as `--NAME VALUE` or as `--NAME=VALUE`, and then positional words
pub data Splits : List (List ℕ) → List Given → List (List ℕ) → Type 0 where
  no_option : {words : List (List ℕ)} → All IsPositional words → Splits words [] words
  apart : {word value : List ℕ} {words rest : List (List ℕ)} {o : Given} {options : List Given} → IsOptionName o.name →
      word ≡ codes "--" ++ o.name
      → value ≡ o.value → IsPositional o.value → Splits words options rest → Splits (word ∷ value ∷ words) (o ∷ options) rest
  joined : {word : List ℕ} {words rest : List (List ℕ)} {o : Given} {options : List Given} → IsOptionName o.name
      → word ≡ codes "--" ++ (o.name ++ (codes "=" ++ o.value)) → IsPositional o.value → Splits words options rest →
      Splits (word ∷ words) (o ∷ options) rest

-- an option of this name has this value
pub record HasOption (options : List Given) (name value : List ℕ) : Type 0 where
  pub place : ℕ
  pub given : slice_get options place ≡ Some (record { name = name; value = value })

-- each option has one of these names, and none is given twice
pub record AreOptions (names : List (List ℕ)) (options : List Given) : Type 0 where
  pub known : All (λ o. Contains names o.name) options
  pub once : Differ (names_of options)

-- an option of this name is a number in decimal digits, from least to most
pub record HasNumber (options : List Given) (name : List ℕ) (least most number : ℕ) : Type 0 where
  pub value : List ℕ
  pub given : HasOption options name value
  pub digits : IsNumeral 10 value
  pub is : number ≡ digits_value 10 value
  pub low : least ≤ number
  pub high : number ≤ most
