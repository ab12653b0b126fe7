-- Fields, one after another: words, marks and named parts. Which tokens are which fields.
use Rattle.std.specs.Prelude.{◌≡◌, ℕ, List, [], ◌∷◌, ◌++◌, Option}
use Rattle.wb_text_tokens.specs.declared.word.Word.{Word}
use Rattle.wb_text_tokens.specs.declared.punctuation.Punctuation.{Punctuation}
use Rattle.wb_syntax.specs.declared.production.NamedKind.{NamedKind}
use Rattle.wb_syntax.specs.Tokens.{Lexeme, IsWord, IsMark, IsName}
use Rattle.wb_syntax.specs.PartGrammar.{IsKind, AreNeeds, AreOptionalNeeds}

-- a field, with what is written there
pub data Field : Type 0 where
  word : Word → Field
  mark : Punctuation → Field
  name : List ℕ → Field
  kind : NamedKind → Field
  needs : List (List ℕ) → Field
  optional_needs : Option (List (List ℕ)) → Field

-- the tokens are these fields
pub data AreFields : List Lexeme → List Field → Type 0 where
  no_field : AreFields [] []
  then_word : {x : Lexeme} {v : List Lexeme} {value : Word} {rest : List Field} → IsWord value x → AreFields v rest
      → AreFields (x ∷ v) (word value ∷ rest)
  then_mark : {x : Lexeme} {v : List Lexeme} {value : Punctuation} {rest : List Field} → IsMark value x → AreFields v rest
      → AreFields (x ∷ v) (mark value ∷ rest)
  then_name : {x : Lexeme} {v : List Lexeme} {value : List ℕ} {rest : List Field} → IsName value x → AreFields v rest
      → AreFields (x ∷ v) (name value ∷ rest)
  then_kind : {u v w : List Lexeme} {value : NamedKind} {rest : List Field} → IsKind u value → AreFields v rest → w ≡ u ++ v
      → AreFields w (kind value ∷ rest)
  then_needs : {u v w : List Lexeme} {value : List (List ℕ)} {rest : List Field} → AreNeeds u value → AreFields v rest → w ≡ u ++ v
      → AreFields w (needs value ∷ rest)
  then_optional_needs : {u v w : List Lexeme} {value : Option (List (List ℕ))} {rest : List Field} → AreOptionalNeeds u value
      → AreFields v rest
      → w ≡ u ++ v → AreFields w (optional_needs value ∷ rest)
