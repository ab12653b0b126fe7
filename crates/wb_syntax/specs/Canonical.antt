-- The canonical text of a specification.
use Rattle.std.specs.Prelude.{◌≡◌, ℕ, pos, ◌||◌, Bool, true, false, List, [], ◌∷◌, ◌++◌, map, codes, if◌then◌else◌}
use Rattle.std.specs.Fmt.{signed_decimal}
use Rattle.wb_text_tokens.specs.declared.token.Token.{Token}
use Rattle.wb_text_tokens.specs.declared.token.Token.TheVariants as t
use Rattle.wb_text_tokens.specs.declared.punctuation.Punctuation.TheVariants as p
use Rattle.wb_text_tokens.specs.Words.{word_text, punctuation_text}
use Rattle.wb_text_tokens.specs.Printing.{printed_text}
use Rattle.wb_syntax.specs.declared.item.Item.{Item}
use Rattle.wb_syntax.specs.declared.pattern.Pattern.{Pattern}
use Rattle.wb_syntax.specs.declared.pattern.WrittenPattern.{WrittenPattern}
use Rattle.wb_syntax.specs.Tokens.{Lexeme}
use Rattle.wb_syntax.specs.ItemGrammar.{IsItem, IsHeader}
use Rattle.wb_syntax.specs.SpecText.{SpecView, IsReadAs}
use Rattle.wb_syntax.specs.Offsets.{unplaced}

-- a token as it is printed: a regular expression keeps its bytes, an integer is decimal without leading zeros, a string is as values are
-- printed
abbrev pub printed : Token → List ℕ
printed (t.Name text) = text
printed (t.Word word) = word_text word
printed (t.Int value) = signed_decimal value
printed (t.Text text) = printed_text text
printed (t.Regex body) = 47 ∷ (body ++ 47 ∷ [])
printed (t.Punctuation mark) = punctuation_text mark

-- no space comes before `;` `,` `.` `(` `)`
abbrev pub follows_closely : Token → Bool
follows_closely (t.Punctuation p.Semicolon) = true
follows_closely (t.Punctuation p.Comma) = true
follows_closely (t.Punctuation p.Dot) = true
follows_closely (t.Punctuation p.OpenParenthesis) = true
follows_closely (t.Punctuation p.CloseParenthesis) = true
follows_closely token = false

-- no space comes after `.` `@` `(`
abbrev pub leads_closely : Token → Bool
leads_closely (t.Punctuation p.Dot) = true
leads_closely (t.Punctuation p.At) = true
leads_closely (t.Punctuation p.OpenParenthesis) = true
leads_closely token = false

-- tokens on a line: one space between two neighbours, or none
abbrev pub line_of : List Token → List ℕ
line_of [] = []
line_of (a ∷ []) = printed a
line_of (a ∷ b ∷ rest) = printed a ++ (if leads_closely a || follows_closely b then [] else 32 ∷ []) ++ line_of (b ∷ rest)

-- the line has the tokens of these lexemes
abbrev pub IsLine : List Lexeme → List ℕ → Type 0
IsLine lexemes line = line ≡ line_of (map (λ x. x.token) lexemes)

-- the line is an item's: its tokens are the item but for places
pub record IsItemLine (item : Item Pattern) (text : List ℕ) : Type 0 where
  pub lexemes : List Lexeme
  pub written : Item WrittenPattern
  pub other : Item Pattern
  pub grammar : IsItem lexemes written
  pub read : IsReadAs written other
  pub same : unplaced other ≡ unplaced item
  pub line : IsLine lexemes text

-- the lines of items, each ended by LF
pub data AreItemLines : List (Item Pattern) → List ℕ → Type 0 where
  nothing : AreItemLines [] []
  next : {item : Item Pattern} {rest : List (Item Pattern)} {line text whole : List ℕ} → IsItemLine item line → AreItemLines rest text
      → whole ≡ line ++ 10 ∷ text
      → AreItemLines (item ∷ rest) whole

-- the line that tells the format
abbrev pub format_line : ℕ → List ℕ
format_line format = codes "format " ++ signed_decimal (pos format) ++ codes ";"

-- the text is the specification's canonical one: its format, the header and each item on lines of their own, each ended by LF
pub record IsCanonical (spec : SpecView) (text : List ℕ) : Type 0 where
  pub lexemes : List Lexeme
  pub header : List ℕ
  pub items : List ℕ
  pub is_header : IsHeader lexemes spec.name spec.header
  pub header_line : IsLine lexemes header
  pub item_lines : AreItemLines spec.items items
  pub whole : text ≡ format_line spec.format ++ 10 ∷ (header ++ 10 ∷ items)
