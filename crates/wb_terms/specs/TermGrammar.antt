-- The grammar of terms: which tokens are a term. Each relation says that the first of some tokens are the part, and which are left.
use Rattle.std.specs.Prelude.{◌≡◌, ℕ, ◌++◌, List, ◌∷◌, ℤ, true, false}
use Rattle.wb_text_predictive.specs.declared.table.Placed.{Placed}
use Rattle.wb_text_tokens.specs.declared.token.Token.{Token}
use Rattle.wb_text_tokens.specs.declared.token.Token.TheVariants as t
use Rattle.wb_text_tokens.specs.declared.word.Word.TheVariants as w
use Rattle.wb_text_tokens.specs.declared.punctuation.Punctuation.TheVariants as p
use Rattle.wb_values.specs.Tree.{int, bool, text}
use Rattle.wb_terms.specs.Term.{Term, Argument, Arguments, named, plain, term, empty, more}

-- tokens with their places
abbrev pub Tokens : Type 0
Tokens = List (Placed Token)

-- the token is this one
abbrev pub Is : Token → Placed Token → Type 0
Is token x = x.token ≡ token

-- NAME, or NAME ':' NAME, whose place is that of the first
pub data IsHead : List ℕ → ℕ → Tokens → Tokens → Type 0 where
  simple : {name : List ℕ} {place : ℕ} {tokens rest : Tokens} {x : Placed Token} → Is (t.Name name) x → place ≡ x.at → tokens ≡ x ∷ rest
      → IsHead name place tokens rest
  owned : {owner second name : List ℕ} {place : ℕ} {tokens rest : Tokens} {x colon y : Placed Token} → Is (t.Name owner) x
      → Is (t.Punctuation p.Colon) colon
      → Is (t.Name second) y → name ≡ owner ++ 58 ∷ second → place ≡ x.at → tokens ≡ x ∷ colon ∷ y ∷ rest → IsHead name place tokens rest

mutual
  -- a head, then arguments in parentheses
  pub data IsTerm : Term → Tokens → Tokens → Type 0 where
    whole : {name : List ℕ} {place : ℕ} {arguments : Arguments} {tokens inner rest : Tokens} {opening closing : Placed Token}
        → IsHead name place tokens (opening ∷ inner) → Is (t.Punctuation p.OpenParenthesis) opening
        → AreArguments arguments inner (closing ∷ rest) → Is (t.Punctuation p.CloseParenthesis) closing
        → IsTerm (named name place arguments) tokens rest

  -- nothing, or an argument and more
  pub data AreArguments : Arguments → Tokens → Tokens → Type 0 where
    nothing : {tokens rest : Tokens} → tokens ≡ rest → AreArguments empty tokens rest
    some : {a : Argument} {others : Arguments} {tokens middle rest : Tokens} → IsArgument a tokens middle → AreMore others middle rest
        → AreArguments (more a others) tokens rest

  -- nothing, or a comma, an argument and more
  pub data AreMore : Arguments → Tokens → Tokens → Type 0 where
    ended : {tokens rest : Tokens} → tokens ≡ rest → AreMore empty tokens rest
    next : {a : Argument} {others : Arguments} {tokens first middle rest : Tokens} {comma : Placed Token} → Is (t.Punctuation p.Comma) comma
        → tokens ≡ comma ∷ first → IsArgument a first middle → AreMore others middle rest → AreMore (more a others) tokens rest

  -- INT, STRING, `true`, `false` or a term
  pub data IsArgument : Argument → Tokens → Tokens → Type 0 where
    number : {z : ℤ} {place : ℕ} {tokens rest : Tokens} {x : Placed Token} → Is (t.Int z) x → place ≡ x.at → tokens ≡ x ∷ rest
        → IsArgument (plain (int z) place) tokens rest
    string : {s : List ℕ} {place : ℕ} {tokens rest : Tokens} {x : Placed Token} → Is (t.Text s) x → place ≡ x.at → tokens ≡ x ∷ rest
        → IsArgument (plain (text s) place) tokens rest
    truth : {place : ℕ} {tokens rest : Tokens} {x : Placed Token} → Is (t.Word w.True) x → place ≡ x.at → tokens ≡ x ∷ rest
        → IsArgument (plain (bool true) place) tokens rest
    untruth : {place : ℕ} {tokens rest : Tokens} {x : Placed Token} → Is (t.Word w.False) x → place ≡ x.at → tokens ≡ x ∷ rest
        → IsArgument (plain (bool false) place) tokens rest
    below : {t : Term} {tokens rest : Tokens} → IsTerm t tokens rest → IsArgument (term t) tokens rest
