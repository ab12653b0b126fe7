-- What is printed is the spelling of its token.
use Rattle.std.proofs.Common.{◌≡◌, ℕ, suc, ◌+◌, ◌/◌, ◌%◌, ◌<◌, List, [], ◌∷◌, ◌++◌, Some, Bool, true, false, ◌&&◌, cond, eqb, leb, length}
use Rattle.std.proofs.Common.{get_or, take, refl, sym, ap, ◌∙◌, append_assoc, arith, pos, negsuc, neg_ℤ, ℤ, FitsSigned, w64}
use Rattle.std.proofs.lemmas.Bool.{eqb-true}
use Rattle.std.proofs.lemmas.Fmt.{decimal_is_IsNumeral}
use Rattle.std.proofs.lemmas.Grind.{flat_map-append}
use Rattle.std.proofs.lemmas.List.{append-nil, take_more}
use Rattle.std.specs.Fmt.{signed_decimal, digit_glyph}
use Rattle.std.specs.List.{flat_map}
use Rattle.wb_text_tokens.specs.Printing.{printed_byte, printed_text}
use Rattle.wb_text_tokens.specs.Spelling.{is_plain, IsInteger, IsStringPart, IsStringBody, IsString}
use Rattle.wb_base.specs.Decimal.{hex_value}

-- a printed integer is the integer
pub integer_printed : (z : ℤ) → FitsSigned w64 z → IsInteger (signed_decimal z) z
integer_printed (pos n) fits =
    let d = decimal_is_IsNumeral n (omega (arith, fits)) in IsInteger.positive d.0 (ap pos (sym d.1))
integer_printed (negsuc n) fits =
    let d = decimal_is_IsNumeral (suc n) (omega (arith, fits)) in IsInteger.negative d.0 refl (ap (λ m. neg_ℤ (pos m)) (sym d.1))

-- a printed hexadecimal digit has its value
hex_digit_read : (d : ℕ) → d < 16 → hex_value (digit_glyph false d) ≡ Some d
hex_digit_read d lt = grind arith

-- a byte that is none of three is plain
plain_read : (b : ℕ) → eqb b 34 ≡ false → eqb b 92 ≡ false → eqb b 10 ≡ false → is_plain b ≡ true
plain_read b q s l = grind (arith, q, s, l)

-- a byte as `\x` with two digits
abbrev hexadecimal : ℕ → List ℕ
hexadecimal b = 92 ∷ 120 ∷ digit_glyph false (b / 16) ∷ digit_glyph false (b % 16) ∷ []

-- such digits stand for the byte
hexadecimal_printed : (b : ℕ) → b < 256 → IsStringPart (hexadecimal b) b
hexadecimal_printed b lt =
    IsStringPart.hexadecimal (hex_digit_read (b / 16) (omega (arith, lt))) (hex_digit_read (b % 16) (omega arith)) (omega arith) refl

-- a byte from 0x20 to 0x7e stands for itself, and any other is printed by digits
range_printed : (b : ℕ) → b < 256 → eqb b 34 ≡ false → eqb b 92 ≡ false → eqb b 10 ≡ false
    → (t : Bool) → IsStringPart (cond t (b ∷ []) (hexadecimal b)) b
range_printed b lt q s l true = IsStringPart.plain (plain_read b q s l) refl
range_printed b lt q s l false = hexadecimal_printed b lt

-- what is printed of a byte that is no quote and no backslash
abbrev from_line : ℕ → Bool → List ℕ
from_line b t = cond t (92 ∷ 110 ∷ []) (cond (leb 32 b && leb b 126) (b ∷ []) (hexadecimal b))

-- what is printed of a byte that is no quote
abbrev from_backslash : ℕ → Bool → List ℕ
from_backslash b t = cond t (92 ∷ 92 ∷ []) (from_line b (eqb b 10))

-- LF stands as `\n`
line_printed : (b : ℕ) → b < 256 → eqb b 34 ≡ false → eqb b 92 ≡ false → (t : Bool) → eqb b 10 ≡ t → IsStringPart (from_line b t) b
line_printed b lt q s true l = IsStringPart.escaped (ap Some (sym (eqb-true b 10 l))) refl
line_printed b lt q s false l = range_printed b lt q s l (leb 32 b && leb b 126)

-- a backslash comes after a backslash
backslash_printed : (b : ℕ) → b < 256 → eqb b 34 ≡ false → (t : Bool) → eqb b 92 ≡ t → IsStringPart (from_backslash b t) b
backslash_printed b lt q true s = IsStringPart.escaped (ap Some (sym (eqb-true b 92 s))) refl
backslash_printed b lt q false s = line_printed b lt q s (eqb b 10) refl

-- a quote comes after a backslash
quote_printed : (b : ℕ) → b < 256 → (t : Bool) → eqb b 34 ≡ t → IsStringPart (cond t (92 ∷ 34 ∷ []) (from_backslash b (eqb b 92))) b
quote_printed b lt true q = IsStringPart.escaped (ap Some (sym (eqb-true b 34 q))) refl
quote_printed b lt false q = backslash_printed b lt q (eqb b 92) refl

-- a printed byte stands for the byte
byte_printed : (b : ℕ) → b < 256 → IsStringPart (printed_byte b) b
byte_printed b lt = quote_printed b lt (eqb b 34) refl

-- a printed text stands for the text
body_printed : (text : List ℕ) → ((k : ℕ) → k < length text → get_or text k 0 < 256) → IsStringBody (flat_map printed_byte text) text
body_printed [] bytes = IsStringBody.none refl refl
body_printed (b ∷ text) bytes =
    IsStringBody.next (byte_printed b (bytes 0 (omega arith))) (body_printed text (λ k lt. bytes (suc k) (omega (arith, lt)))) refl refl

-- a printed text is the string of the text
pub text_printed : (text : List ℕ) → ((k : ℕ) → k < length text → get_or text k 0 < 256) → IsString (printed_text text) text
text_printed text bytes = record { body = flat_map printed_byte text; stands = body_printed text bytes; quoted = refl }

-- one byte more is printed
pub text_more : (before out new text : List ℕ) (i : ℕ) → i < length text → out ≡ before ++ flat_map printed_byte (take i text)
    → new ≡ out ++ printed_byte (get_or text i 0) → new ≡ before ++ flat_map printed_byte (take (i + 1) text)
text_more before out new text i within e f =
    let one : flat_map printed_byte (get_or text i 0 ∷ []) ≡ printed_byte (get_or text i 0) = append-nil (printed_byte (get_or text i 0)) in
    let more : flat_map printed_byte (take (i + 1) text) ≡ flat_map printed_byte (take i text) ++ printed_byte (get_or text i 0) =
    ap (flat_map printed_byte) (take_more text i 0 within)
    ∙ (flat_map-append printed_byte (take i text) (get_or text i 0 ∷ []) ∙ ap (λ l. flat_map printed_byte (take i text) ++ l) one) in
    f ∙ (ap (λ l. l ++ printed_byte (get_or text i 0)) e
    ∙ (append_assoc before (flat_map printed_byte (take i text)) (printed_byte (get_or text i 0)) ∙ ap (λ l. before ++ l) (sym more)))

-- what follows the opening quote comes after what was there, and so does the closing quote, where it is written
pub grown_by : (old out new more last : List ℕ) (is_written : Bool) → out ≡ (old ++ 34 ∷ []) ++ more → new ≡ cond is_written
    (out ++ last) out
    → (added : List ℕ) × (new ≡ old ++ added)
grown_by old out new more last true e f = (
  (34 ∷ more) ++ last,
  f ∙ (ap (λ l. l ++ last) (e ∙ append_assoc old (34 ∷ []) more) ∙ append_assoc old (34 ∷ more) last),
)
grown_by old out new more last false e f = (34 ∷ more, f ∙ (e ∙ append_assoc old (34 ∷ []) more))
