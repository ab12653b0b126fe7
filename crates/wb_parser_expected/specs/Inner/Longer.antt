-- Words of tokens, and the one of two that ends later.
use Rattle.std.specs.Prelude.{◌≡◌, ◌<◌, ◌≤◌, ◌⊎◌, ℕ, List, Option, Some, None, IfSome}
use Rattle.wb_base.specs.declared.symbol.Symbol.{Symbol}
use Rattle.wb_scan_theory.specs.Parts.{IsPrefixOf}
use Rattle.wb_scan_theory.specs.Tokens.{NextToken, token}
use Rattle.wb_scan.specs.Views.{LanguageParts}
use Rattle.wb_scan.specs.declared.scanned.Scanned.{Scanned}
use Rattle.wb_scan.specs.declared.scanned.Scanned.TheVariants.{Token, End, NoToken}
use Rattle.wb_parser_expected.specs.WordsAt.{IsWordAt}
use Rattle.wb_parser_expected.specs.declared.word.Word.{Word}

-- the word is that of the token, and there is none where nothing is scanned or the end
abbrev pub IsWordOf : Scanned → Option Word → Type 0
IsWordOf (Token terminal at lexeme end) found = found ≡ Some (record { terminal = terminal; at = at; end = end })
IsWordOf (End at) found = found ≡ None
IsWordOf (NoToken at) found = found ≡ None

-- a word that is there ends at or before the other, which is there too
abbrev pub EndsBefore : Option Word → Option Word → Type 0
EndsBefore None other = Unit {0}
EndsBefore (Some word) None = ⊥
EndsBefore (Some word) (Some other) = word.end ≤ other.end

-- the longest is one of both, and both end before it
pub record IsLonger (one other longest : Option Word) : Type 0 where
  pub is : (longest ≡ one) ⊎ (longest ≡ other)
  pub first : EndsBefore one longest
  pub second : EndsBefore other longest

-- the word is one at the place, and each that is next at a prefix of a state below the number ends before it
pub record IsLongestBelow (parts : LanguageParts) (text : List ℕ) (from count : ℕ) (longest : Option Word) : Type 0 where
  pub is : IfSome longest (λ word. IsWordAt parts.language text from word.terminal word.at word.end)
  pub before : (state : ℕ) → state < count → (prefix : List Symbol) → IsPrefixOf parts.language.grammar parts.tables state prefix →
      (terminal at end : ℕ) (lexeme : List ℕ) → NextToken parts.language text prefix from (token at terminal lexeme end) →
      EndsBefore (Some (record { terminal = terminal; at = at; end = end })) longest
