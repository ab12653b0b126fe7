-- How the table's grammar derives tokens and right sides.
use Rattle.std.proofs.Common.{ℕ, ℤ, List, ◌∷◌, refl, sym, ap, subst}
use Rattle.wb_text_predictive.specs.declared.symbol.Symbol.TheVariants.{Token}
use Rattle.wb_text_predictive.specs.Grammar.{token}
use Rattle.wb_text_tokens.specs.declared.word.Word.{Word}
use Rattle.wb_text_tokens.specs.declared.punctuation.Punctuation.{Punctuation}
use Rattle.wb_syntax.specs.Tokens.{Lexeme, IsWord, IsMark, IsName, IsInt, IsString, IsRegex}
use Rattle.wb_text_tokens.specs.declared.kind.TokenKind.TheVariants as kind
use Rattle.wb_reader_builder.specs.declared.builder.SpecBuilder.{SpecBuilder}
use Rattle.wb_text_tokens.specs.Kinds.{kind_of, integer_kind}
use Rattle.wb_reader_builder.specs.Builder.{with_name, with_integer, with_text, with_pattern}
use Rattle.wb_reader_builder.specs.Items.{word_shift}
use Rattle.wb_reader.specs.Inner.Table.{shift}
use Rattle.wb_reader.proofs.Taking.{Row, Makes}

pub word_given : {x : Lexeme} {f : Row} {v : List Lexeme} {a b : SpecBuilder} (y : Word) → IsWord y x → Makes f v (word_shift y x.at a) b
    → Makes (Token (kind.Word y) ∷ f) (x ∷ v) a b
word_given {x = x} {f = f} {v = v} {a = a} {b = b} y h d =
    token (ap kind_of h) (subst (λ z. Makes f v (shift z x.at x.end a) b) (sym h) d) refl

pub mark_given : {x : Lexeme} {f : Row} {v : List Lexeme} {a b : SpecBuilder} (m : Punctuation) → IsMark m x → Makes f v a b
    → Makes (Token (kind.Mark m) ∷ f) (x ∷ v) a b
mark_given {x = x} {f = f} {v = v} {a = a} {b = b} m h d =
    token (ap kind_of h) (subst (λ z. Makes f v (shift z x.at x.end a) b) (sym h) d) refl

pub name_given : {x : Lexeme} {f : Row} {v : List Lexeme} {a b : SpecBuilder} {n : List ℕ} → IsName n x → Makes f v (with_name n x.at a) b
    → Makes (Token kind.Name ∷ f) (x ∷ v) a b
name_given {x = x} {f = f} {v = v} {a = a} {b = b} h d =
    token (ap kind_of h) (subst (λ z. Makes f v (shift z x.at x.end a) b) (sym h) d) refl

pub integer_given : {x : Lexeme} {f : Row} {v : List Lexeme} {a b : SpecBuilder} {z : ℤ} → IsInt z x → Makes f v (with_integer z a) b
    → Makes (Token (integer_kind z) ∷ f) (x ∷ v) a b
integer_given {x = x} {f = f} {v = v} {a = a} {b = b} h d =
    token (ap kind_of h) (subst (λ z. Makes f v (shift z x.at x.end a) b) (sym h) d) refl

pub string_given : {x : Lexeme} {f : Row} {v : List Lexeme} {a b : SpecBuilder} {s : List ℕ} → IsString s x → Makes f v (with_text s a) b
    → Makes (Token kind.String ∷ f) (x ∷ v) a b
string_given {x = x} {f = f} {v = v} {a = a} {b = b} h d =
    token (ap kind_of h) (subst (λ z. Makes f v (shift z x.at x.end a) b) (sym h) d) refl

pub regex_given : {x : Lexeme} {f : Row} {v : List Lexeme} {a b : SpecBuilder} {s : List ℕ} → IsRegex s x
    → Makes f v (with_pattern s x.at a) b → Makes (Token kind.Regex ∷ f) (x ∷ v) a b
regex_given {x = x} {f = f} {v = v} {a = a} {b = b} h d =
    token (ap kind_of h) (subst (λ z. Makes f v (shift z x.at x.end a) b) (sym h) d) refl
