-- What the first byte of a token tells: its kind, and for a name or a reserved word what its bytes are.
use Rattle.std.proofs.Common.{◌≡◌, ◌≢◌, ℕ, ◌<◌, ◌≤◌, List, [], ◌∷◌, ◌++◌, Bool, true, false, ◌||◌, ◌&&◌, cond, eqb, length, get_or, refl}
use Rattle.std.proofs.Common.{sym, ap, ◌∙◌, subst, arith, ℤ}
use Rattle.std.proofs.lemmas.Bool.{eqb-true}
use Rattle.std.proofs.lemmas.Str.Parse.{digit_from_value}
use Rattle.std.specs.Char.{is_ascii_digit}
use Rattle.std.specs.List.{list_all}
use Rattle.std.specs.Str.Parse.{IsNumeral}
use Rattle.wb_text_tokens.specs.Inner.Longest.{first_class}
use Rattle.wb_text_tokens.specs.Spelling.{IsInteger, IsString, IsRegexBody, Spells}
use Rattle.wb_base.specs.Identifiers.{is_letter, is_name_byte}
use Rattle.wb_text_tokens.specs.Words.{word_text, punctuation_text}
use Rattle.wb_text_tokens.specs.declared.token_class.TokenClass.{TokenClass}
use Rattle.wb_text_tokens.specs.declared.token_class.TokenClass.TheVariants.{Letter, Number, Quote, Slash, Mark}
use Rattle.wb_text_tokens.specs.declared.punctuation.Punctuation.{Punctuation}
use Rattle.wb_text_tokens.specs.declared.punctuation.Punctuation.TheVariants as p
use Rattle.wb_text_tokens.specs.declared.token.Dialect.{Dialect}
use Rattle.wb_text_tokens.specs.declared.token.Token.{Token}
use Rattle.wb_text_tokens.specs.declared.token.Token.TheVariants as t
use Rattle.wb_text_tokens.specs.declared.word.Word.{Word}
use Rattle.wb_text_tokens.specs.contracts.word.Word as words
use Rattle.wb_text_tokens.proofs.Enumerations.{each_value}
use Rattle.wb_lemmas.proofs.Booleans.{and_left, and_right}
use Rattle.wb_lemmas.proofs.Digits.{digit_is}

-- the kind of a token
abbrev pub class_of : Token → TokenClass
class_of (t.Name text) = Letter
class_of (t.Word word) = Letter
class_of (t.Int value) = Number
class_of (t.Text text) = Quote
class_of (t.Regex body) = Slash
class_of (t.Punctuation mark) = Mark

-- a letter begins names and reserved words
pub letter_is : (b : ℕ) → is_letter b ≡ true → first_class b ≡ Letter
letter_is b h = ap (λ t. cond t Letter (cond (is_ascii_digit b || eqb b 45) Number (cond (eqb b 34) Quote (cond (eqb b 47) Slash Mark)))) h

-- what each word is
record IsWordText (x : List ℕ) : Type 0 where
  some : 0 < length x
  letter : first_class (get_or x 0 0) ≡ Letter
  bytes : list_all is_name_byte x ≡ true

-- a text that begins with a letter has a byte
some_of : (x : List ℕ) → is_letter (get_or x 0 0) ≡ true → 0 < length x
some_of [] h = absurd (cc)
some_of (b ∷ x) h = omega arith

-- each reserved word begins with a letter, and its bytes are letters, digits and `_`
word_is : (word : Word) → IsWordText (word_text word)
word_is word =
    let x = word_text word in
    let h = each_value words.enum (λ y. is_letter (get_or (word_text y) 0 0) && list_all is_name_byte (word_text y)) refl word in
    let letter = and_left (is_letter (get_or x 0 0)) (list_all is_name_byte x) h in
    record {
      some = some_of x letter;
      letter = letter_is (get_or x 0 0) letter;
      bytes = and_right (is_letter (get_or x 0 0)) (list_all is_name_byte x) h;
    }

-- what each mark is
record IsMarkText (x : List ℕ) : Type 0 where
  some : 0 < length x
  mark : first_class (get_or x 0 0) ≡ Mark

-- each mark is such a text
mark_is : (mark : Punctuation) → IsMarkText (punctuation_text mark)
mark_is p.Semicolon = record { some = omega arith; mark = refl }
mark_is p.Colon = record { some = omega arith; mark = refl }
mark_is p.Becomes = record { some = omega arith; mark = refl }
mark_is p.OpenBrace = record { some = omega arith; mark = refl }
mark_is p.CloseBrace = record { some = omega arith; mark = refl }
mark_is p.Equals = record { some = omega arith; mark = refl }
mark_is p.Dot = record { some = omega arith; mark = refl }
mark_is p.Comma = record { some = omega arith; mark = refl }
mark_is p.OpenParenthesis = record { some = omega arith; mark = refl }
mark_is p.CloseParenthesis = record { some = omega arith; mark = refl }
mark_is p.At = record { some = omega arith; mark = refl }

-- a digit is no letter
digit_no_letter : (b : ℕ) → 48 ≤ b → b ≤ 57 → is_letter b ≡ false
digit_no_letter b low high = grind arith

-- a digit begins integers
digit_begins : (b : ℕ) → 48 ≤ b → b ≤ 57 → first_class b ≡ Number
digit_begins b low high =
    ap (λ t. cond t Letter (cond (is_ascii_digit b || eqb b 45) Number (cond (eqb b 34) Quote (cond (eqb b 47) Slash Mark))))
    (digit_no_letter b low high)
    ∙ ap (λ t. cond (t || eqb b 45) Number (cond (eqb b 34) Quote (cond (eqb b 47) Slash Mark))) (digit_is b low high)

-- a numeral begins with a digit
numeral_begins : (x : List ℕ) → IsNumeral 10 x → first_class (get_or x 0 0) ≡ Number
numeral_begins [] h = absurd (omega (arith, h.0))
numeral_begins (c ∷ cs) h = let r = digit_from_value c h.1.0 in digit_begins c r.0 r.1

-- a token has a byte
pub spelled_some : (dialect : Dialect) (token : Token) (x : List ℕ) → Spells dialect token x → 0 < length x
spelled_some dialect (t.Name text) [] s = absurd s.1
spelled_some dialect (t.Name text) (b ∷ x) s = omega arith
spelled_some dialect (t.Word word) x s = subst (λ y. 0 < length y) (sym s.is) (word_is word).some
spelled_some dialect (t.Int value) x (IsInteger.positive n e) = n.0
spelled_some dialect (t.Int value) x (IsInteger.negative n e f) = subst (λ y. 0 < length y) (sym e) (omega arith)
spelled_some dialect (t.Text text) x s = subst (λ y. 0 < length y) (sym s.quoted) (omega arith)
spelled_some dialect (t.Regex body) x s = subst (λ y. 0 < length y) (sym s.0) (omega arith)
spelled_some dialect (t.Punctuation mark) x s = subst (λ y. 0 < length y) (sym s) (mark_is mark).some

-- the first byte of a token tells its kind
pub spelled_beginning : (dialect : Dialect) (token : Token) (x : List ℕ) → Spells dialect token x → first_class (get_or x 0 0) ≡ class_of token
spelled_beginning dialect (t.Name text) [] s = absurd s.1
spelled_beginning dialect (t.Name text) (b ∷ x) s = letter_is b s.1.0
spelled_beginning dialect (t.Word word) x s = ap (λ y. first_class (get_or y 0 0)) s.is ∙ (word_is word).letter
spelled_beginning dialect (t.Int value) x (IsInteger.positive n e) = numeral_begins x n
spelled_beginning dialect (t.Int value) x (IsInteger.negative n e f) = ap (λ y. first_class (get_or y 0 0)) e
spelled_beginning dialect (t.Text text) x s = ap (λ y. first_class (get_or y 0 0)) s.quoted
spelled_beginning dialect (t.Regex body) x s = ap (λ y. first_class (get_or y 0 0)) s.0
spelled_beginning dialect (t.Punctuation mark) x s = ap (λ y. first_class (get_or y 0 0)) s ∙ (mark_is mark).mark

-- a letter begins names and reserved words, and their bytes are letters, digits and `_`
pub name_bytes : (dialect : Dialect) (token : Token) (x : List ℕ) → Spells dialect token x → class_of token ≡ Letter → list_all is_name_byte x ≡ true
name_bytes dialect (t.Name text) [] s k = refl
name_bytes dialect (t.Name text) (b ∷ x) s k = ap (λ t. (t || is_ascii_digit b) && list_all is_name_byte x) s.1.0 ∙ s.1.1
name_bytes dialect (t.Word word) x s k = ap (list_all is_name_byte) s.is ∙ (word_is word).bytes
name_bytes dialect (t.Int value) x s k = cc
name_bytes dialect (t.Text text) x s k = cc
name_bytes dialect (t.Regex body) x s k = cc
name_bytes dialect (t.Punctuation mark) x s k = cc

-- which test holds where the choice is a letter
choice_letter : (l d q s : Bool) → cond l Letter (cond d Number (cond q Quote (cond s Slash Mark))) ≡ Letter → l ≡ true
choice_letter true d q s h = refl
choice_letter false true q s h = cc
choice_letter false false true s h = cc
choice_letter false false false true h = cc
choice_letter false false false false h = cc

-- which test holds where the choice is a quote
choice_quote : (l d q s : Bool) → cond l Letter (cond d Number (cond q Quote (cond s Slash Mark))) ≡ Quote → q ≡ true
choice_quote true d q s h = cc
choice_quote false true q s h = cc
choice_quote false false true s h = refl
choice_quote false false false true h = cc
choice_quote false false false false h = cc

-- which test holds where the choice is a slash
choice_slash : (l d q s : Bool) → cond l Letter (cond d Number (cond q Quote (cond s Slash Mark))) ≡ Slash → s ≡ true
choice_slash true d q s h = cc
choice_slash false true q s h = cc
choice_slash false false true s h = cc
choice_slash false false false true h = refl
choice_slash false false false false h = cc

-- a name or a reserved word begins with a letter
pub begins_letter : (b : ℕ) → first_class b ≡ Letter → is_letter b ≡ true
begins_letter b h = choice_letter (is_letter b) (is_ascii_digit b || eqb b 45) (eqb b 34) (eqb b 47) h

-- a string begins with a quote
pub begins_quote : (b : ℕ) → first_class b ≡ Quote → b ≡ 34
begins_quote b h = eqb-true b 34 (choice_quote (is_letter b) (is_ascii_digit b || eqb b 45) (eqb b 34) (eqb b 47) h)

-- a regular expression begins with a slash
pub begins_slash : (b : ℕ) → first_class b ≡ Slash → b ≡ 47
begins_slash b h = eqb-true b 47 (choice_slash (is_letter b) (is_ascii_digit b || eqb b 45) (eqb b 34) (eqb b 47) h)

-- a token that begins with a digit or a minus is an integer
pub number_is : (dialect : Dialect) (token : Token) (x : List ℕ) → Spells dialect token x → class_of token ≡ Number → (z : ℤ) × (token ≡ t.Int z) × IsInteger x z
number_is dialect (t.Name text) x s k = cc
number_is dialect (t.Word word) x s k = cc
number_is dialect (t.Int value) x s k = (value, refl, s)
number_is dialect (t.Text text) x s k = cc
number_is dialect (t.Regex body) x s k = cc
number_is dialect (t.Punctuation mark) x s k = cc

-- a token that begins with a quote is a string
pub string_is : (dialect : Dialect) (token : Token) (x : List ℕ) → Spells dialect token x → class_of token ≡ Quote
    → (text : List ℕ) × (token ≡ t.Text text) × IsString x text
string_is dialect (t.Name text) x s k = cc
string_is dialect (t.Word word) x s k = cc
string_is dialect (t.Int value) x s k = cc
string_is dialect (t.Text text) x s k = (text, refl, s)
string_is dialect (t.Regex body) x s k = cc
string_is dialect (t.Punctuation mark) x s k = cc

-- a token that begins with a slash is a regular expression
pub regex_is : (dialect : Dialect) (token : Token) (x : List ℕ) → Spells dialect token x → class_of token ≡ Slash
    → (body : List ℕ) × (token ≡ t.Regex body) × (x ≡ 47 ∷ (body ++ 47 ∷ [])) × (body ≢ []) × IsRegexBody body
regex_is dialect (t.Name text) x s k = cc
regex_is dialect (t.Word word) x s k = cc
regex_is dialect (t.Int value) x s k = cc
regex_is dialect (t.Text text) x s k = cc
regex_is dialect (t.Regex body) x s k = (body, refl, s.0, s.1, s.2)
regex_is dialect (t.Punctuation mark) x s k = cc

-- any other token is a punctuation mark
pub punctuation_is : (dialect : Dialect) (token : Token) (x : List ℕ) → Spells dialect token x → class_of token ≡ Mark
    → (mark : Punctuation) × (token ≡ t.Punctuation mark) × (x ≡ punctuation_text mark)
punctuation_is dialect (t.Name text) x s k = cc
punctuation_is dialect (t.Word word) x s k = cc
punctuation_is dialect (t.Int value) x s k = cc
punctuation_is dialect (t.Text text) x s k = cc
punctuation_is dialect (t.Regex body) x s k = cc
punctuation_is dialect (t.Punctuation mark) x s k = (mark, refl, s)
