-- What crates above may cite: a spelling is that of one token, one thing comes next, what is reserved in a dialect, and what is printed is a
-- token. That a spelling is in a text as its token is in `StandingLemmas`.
use Rattle.std.proofs.Common.{◌≡◌, ◌∙◌, ◌⊎◌, ℕ, ◌<◌, ◌^◌, List, length, ℤ, get_or, FitsSigned, w64, IsTrue, refl, sym, subst, inl, inr, ⊎_elim}
use Rattle.std.specs.Prelude.{codes}
use Rattle.std.specs.Fmt.{signed_decimal}
use Rattle.wb_base.specs.Identifiers.{IsReserved}
use Rattle.wb_text_tokens.specs.Words.{has_closed, IsReservedIn}
use Rattle.wb_text_tokens.specs.NextToken.{IsTokenAt, IsNextIn}
use Rattle.wb_text_tokens.specs.Printing.{printed_text}
use Rattle.wb_text_tokens.specs.Spelling.{Spells, IsToken}
use Rattle.wb_text_tokens.specs.declared.token.Dialect.{Dialect}
use Rattle.wb_text_predictive.specs.declared.table.Next.{Next}
use Rattle.wb_text_tokens.specs.declared.token.Token.{Token}
use Rattle.wb_text_tokens.specs.declared.token.Dialect.TheVariants.{FormatTwo}
use Rattle.wb_text_tokens.specs.declared.token.Token.TheVariants as t
use Rattle.wb_text_tokens.specs.declared.word.Word.TheVariants as w
use Rattle.wb_text_tokens.proofs.OnlyLemmas as only
use Rattle.wb_text_tokens.proofs.WordLemmas as words
use Rattle.wb_text_tokens.proofs.PrintLemmas.{integer_printed, text_printed}

-- a spelling is that of one token
pub same_token : (dialect : Dialect) (x : List ℕ) (a b : Token) → Spells dialect a x → Spells dialect b x → a ≡ b
same_token = only.same_token

-- one token is at a place, and ends at one place
pub token_only : (dialect : Dialect) (text : List ℕ) (a b : Token) (at i j : ℕ) → IsTokenAt dialect text a at i → IsTokenAt dialect text b at j → (a ≡ b) × (i ≡ j)
token_only = only.token_only

-- one thing comes next
pub next_only : (dialect : Dialect) (text : List ℕ) (from : ℕ) (a b : Next Token) → IsNextIn dialect text from a
    → IsNextIn dialect text from b → a ≡ b
next_only = only.next_only

-- a printed integer is that integer
pub printed_integer : (dialect : Dialect) (z : ℤ) → FitsSigned w64 z → IsToken dialect (t.Int z) (signed_decimal z)
printed_integer dialect z fits = (integer_printed z fits, fits)

-- a printed text of bytes is the string of that text
pub printed_string : (dialect : Dialect) (text : List ℕ) → ((k : ℕ) → k < length text → get_or text k 0 < 2 ^ 8) → IsToken dialect (t.Text text) (printed_text text)
printed_string dialect text bytes = (text_printed text bytes, tt)

-- what is reserved is so in every dialect
pub reserved_word : (dialect : Dialect) (x : List ℕ) → IsReserved x → IsReservedIn dialect x
reserved_word = words.reserved_word

-- what is reserved in a dialect is so in every one, or is `closed` where that is reserved
pub reserved_in : (dialect : Dialect) (x : List ℕ) → IsReservedIn dialect x
    → IsReserved x ⊎ (IsTrue (has_closed dialect) × (x ≡ codes "closed"))
reserved_in dialect x (word, s) =
    ⊎_elim (λ reserved. inl (subst IsReserved (sym s.is) reserved)) (λ closed. inr (closed.0, s.is ∙ closed.1))
    (words.word_reserved dialect word s.reserved)

-- `closed` is a word of format 2
pub closed_reserved : IsReservedIn FormatTwo (codes "closed")
closed_reserved = (w.Closed, record { reserved = refl; is = refl })
