-- The tokens of a text of bytes are printed as what they are.
use Rattle.std.proofs.Common.{◌≡◌, ◌<◌, ◌-◌, ℕ, List, [], ◌∷◌, ◌++◌, Option, Some, None, Bool, true, false, ◌&&◌, cond, eqb, leb, length}
use Rattle.std.proofs.Common.{take, drop, refl, sym, subst, arith}
use Rattle.std.specs.List.{All}
use Rattle.std.proofs.lemmas.List.Elements.{All-take, All-drop, All-nil, All-cons}
use Rattle.std.proofs.Math.Seq.{take-append_seam, drop-append_seam}
use Rattle.wb_text_predictive.specs.Reading.{Spells, none, next}
use Rattle.wb_text_tokens.specs.declared.token.Dialect.{Dialect}
use Rattle.wb_text_tokens.specs.declared.token.Token.{Token}
use Rattle.wb_text_tokens.specs.declared.token.Token.TheVariants as t
use Rattle.wb_text_tokens.specs.NextToken.{IsTokenAt}
use Rattle.wb_text_tokens.specs.NextToken.{IsNextIn}
use Rattle.wb_text_tokens.specs.Words.{IsReservedIn}
use Rattle.wb_text_tokens.specs.Spelling.{IsToken, escaped_byte, IsStringPart, IsStringBody, IsString}
use Rattle.wb_base.specs.Decimal.{hex_value}
use Rattle.wb_base.specs.Identifiers.{IsIdentifier}
use Rattle.wb_text_tokens.proofs.CallerLemmas.{printed_integer, printed_string}
use Rattle.wb_syntax.specs.Tokens.{Lexeme}
use Rattle.wb_syntax.specs.Canonical.{printed}
use Rattle.wb_reader_printer.proofs.GrammarTokens.{tokens}

-- these are bytes
abbrev pub AreBytes : List ℕ → Type 0
AreBytes x = All (λ b. b < 256) x

-- a prefix of bytes is bytes
front_bytes : (x y : List ℕ) → AreBytes (x ++ y) → AreBytes x
front_bytes x y h = subst AreBytes (take-append_seam x y) (All-take (λ b. b < 256) (length x) (x ++ y) h)

-- and what comes after it
back_bytes : (x y : List ℕ) → AreBytes (x ++ y) → AreBytes y
back_bytes x y h = subst AreBytes (drop-append_seam x y) (All-drop (λ b. b < 256) (length x) (x ++ y) h)

-- one of two values, or another
either_below : (t : Bool) (bound n b : ℕ) (other : Option ℕ) → cond t (Some n) other ≡ Some b → (t ≡ true → n < bound)
    → (other ≡ Some b → b < bound) → b < bound
either_below true bound n b other h l k = let e : n ≡ b = cc in omega (arith, e, l refl)
either_below false bound n b other h l k = k h

-- no value
none_below : (b bound : ℕ) → None ≡ Some b → b < bound
none_below b bound h = absurd (cc)

-- an escape stands for a byte
escaped_below : (e b : ℕ) → escaped_byte e ≡ Some b → b < 256
escaped_below e b h0 =
    either_below (eqb e 34) 256 34 b _ h0 (λ _. omega arith) (λ h1.
    either_below (eqb e 92) 256 92 b _ h1 (λ _. omega arith) (λ h2.
    either_below (eqb e 110) 256 10 b _ h2 (λ _. omega arith) (λ h3.
    either_below (eqb e 116) 256 9 b _ h3 (λ _. omega arith) (λ h4.
    either_below (eqb e 114) 256 13 b _ h4 (λ _. omega arith) (λ h5. none_below b 256 h5)))))

-- what a digit from `0` to `9` is worth
decimal_below : (d : ℕ) → (leb 48 d && leb d 57) ≡ true → d - 48 < 16
decimal_below d h = grind (arith, h)

-- what a digit from `a` to `f` is worth
lower_below : (d : ℕ) → (leb 97 d && leb d 102) ≡ true → d - 87 < 16
lower_below d h = grind (arith, h)

-- what a digit from `A` to `F` is worth
upper_below : (d : ℕ) → (leb 65 d && leb d 70) ≡ true → d - 55 < 16
upper_below d h = grind (arith, h)

-- what a hexadecimal digit is worth
hex_below : (d m : ℕ) → hex_value d ≡ Some m → m < 16
hex_below d m h0 =
    either_below (leb 48 d && leb d 57) 16 (d - 48) m _ h0 (decimal_below d) (λ h1.
    either_below (leb 97 d && leb d 102) 16 (d - 87) m _ h1 (lower_below d) (λ h2.
    either_below (leb 65 d && leb d 70) 16 (d - 55) m _ h2 (upper_below d) (λ h3. none_below m 16 h3)))

-- bytes stand for a byte in a string
part_below : (part : List ℕ) (b : ℕ) → AreBytes part → IsStringPart part b → b < 256
part_below part b small (IsStringPart.plain h e) = let s = subst AreBytes e small in s 0 0 (omega arith)
part_below part b small (IsStringPart.escaped {e = e} h f) = escaped_below e b h
part_below part b small (IsStringPart.hexadecimal {h = h} {l = l} {m = m} {n = n} p q g f) =
    let i = hex_below h m p in
    let j = hex_below l n q in
    omega (arith, g, i, j)

-- bytes stand for bytes in a string
body_bytes : (body text : List ℕ) → AreBytes body → IsStringBody body text → AreBytes text
body_bytes body text small (IsStringBody.none e f) = subst AreBytes (sym f) (All-nil (λ b. b < 256))
body_bytes body text small (IsStringBody.next {part = part} {x = x} {text = rest} {b = b} p r e f) =
    let both = subst AreBytes e small in
    subst AreBytes (sym f) (All-cons (λ b. b < 256) b rest (part_below part b (front_bytes part x both) p)
    (body_bytes x rest (back_bytes part x both) r))

-- a string of bytes has a text of bytes
string_bytes : (x text : List ℕ) → AreBytes x → IsString x text → AreBytes text
string_bytes x text small s =
    let quoted = subst AreBytes s.quoted small in
    body_bytes s.body text (front_bytes s.body (34 ∷ []) (back_bytes (34 ∷ []) (s.body ++ 34 ∷ []) quoted)) s.stands

-- a token that is in a text of bytes is printed as what it is
token_printed : (dialect : Dialect) (text : List ℕ) (token : Token) (at behind : ℕ) → AreBytes text
    → IsTokenAt dialect text token at behind → IsToken dialect token (printed token)
token_printed dialect text (t.Name name) at behind small s =
    let h = s.spelled in
    ((refl, subst IsIdentifier h.0 h.1, λ r. h.2 (subst (IsReservedIn dialect) (sym h.0) r)), tt)
token_printed dialect text (t.Word word) at behind small s = (record { reserved = s.spelled.reserved; is = refl }, tt)
token_printed dialect text (t.Int z) at behind small s = printed_integer dialect z s.in_range
token_printed dialect text (t.Text string) at behind small s =
    let piece : AreBytes (take (behind - at) (drop at text)) =
    All-take (λ b. b < 256) (behind - at) (drop at text) (All-drop (λ b. b < 256) at text small) in
    let bytes = string_bytes (take (behind - at) (drop at text)) string piece s.spelled in
    printed_string dialect string (λ k h. bytes k 0 h)
token_printed dialect text (t.Regex body) at behind small s = let h = s.spelled in ((refl, h.1, h.2), tt)
token_printed dialect text (t.Punctuation mark) at behind small s = (refl, tt)

-- each of these is printed as what it is in the dialect
abbrev pub ArePrinted : Dialect → List Token → Type 0
ArePrinted dialect [] = Unit {0}
ArePrinted dialect (a ∷ ts) = IsToken dialect a (printed a) × ArePrinted dialect ts

-- the tokens of a text of bytes are
pub tokens_printed : (dialect : Dialect) (text : List ℕ) (from to : ℕ) (xs : List Lexeme) → AreBytes text
    → Spells (IsNextIn dialect text) from xs to → ArePrinted dialect (tokens xs)
tokens_printed dialect text from to xs small (none e) = tt
tokens_printed dialect text from to xs small (next {x = x} {xs = rest} h r) =
    (token_printed dialect text x.token x.at x.end small h.stands, tokens_printed dialect text x.end to rest small r)

-- the first of them are
pub printed_front : (dialect : Dialect) (ts us : List Token) → ArePrinted dialect (ts ++ us) → ArePrinted dialect ts
printed_front dialect [] us h = tt
printed_front dialect (a ∷ ts) us h = (h.0, printed_front dialect ts us h.1)

-- and the others
pub printed_back : (dialect : Dialect) (ts us : List Token) → ArePrinted dialect (ts ++ us) → ArePrinted dialect us
printed_back dialect [] us h = h
printed_back dialect (a ∷ ts) us h = printed_back dialect ts us h.1
