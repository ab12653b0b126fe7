-- Texts that are too long to be printed because a part of them is.
use Rattle.std.proofs.Common.{◌≤◌, ◌∷◌, ◌++◌, [], ◌/◌, ◌%◌, ◌&&◌, ◌≡◌, ℕ, Bool, true, false, List, length, ap}
use Rattle.std.proofs.Common.{length-append, cond, eqb, leb, arith}
use Rattle.std.specs.Fmt.{digit_glyph}
use Rattle.std.specs.List.{flat_map}
use Rattle.wb_text_tokens.specs.Printing.{printed_byte, printed_text}
use Rattle.wb_terms.specs.declared.refusal.PrintRefusal.{PrintRefusal}
use Rattle.wb_terms.specs.declared.refusal.PrintRefusal.TheVariants.{TooLong, NoMemory}
use Rattle.wb_terms.specs.Lengths.{IsTooLong}

-- a byte is printed in one byte at least
byte_long : (b : ℕ) (quote backslash line plain : Bool) → 1 ≤ length
    (cond quote (92 ∷ 34 ∷ []) (cond backslash (92 ∷ 92 ∷ []) (cond line (92 ∷ 110 ∷ []) (cond plain (b ∷ [])
    (92 ∷ 120 ∷ digit_glyph false (b / 16) ∷ digit_glyph false (b % 16) ∷ [])))))
byte_long b true backslash line plain = omega arith
byte_long b false true line plain = omega arith
byte_long b false false true plain = omega arith
byte_long b false false false true = omega arith
byte_long b false false false false = omega arith

bytes_long : (text : List ℕ) → length text ≤ length (flat_map printed_byte text)
bytes_long [] = omega arith
bytes_long (b ∷ text) =
    let one : 1 ≤ length (printed_byte b) = byte_long b (eqb b 34) (eqb b 92) (eqb b 10) (leb 32 b && leb b 126) in
    omega (arith, one, bytes_long text, length-append (printed_byte b) (flat_map printed_byte text))

-- a text is no longer than its string
pub text_long : (text : List ℕ) → length text ≤ length (printed_text text)
text_long text = omega (arith, bytes_long text, length-append (flat_map printed_byte text) (34 ∷ []))

-- what is at least as long is too long too
pub too_long_in : (part whole : List ℕ) (e : PrintRefusal) → length part ≤ length whole → IsTooLong part e → IsTooLong whole e
too_long_in part whole TooLong longer long = omega (arith, longer, long)
too_long_in part whole (NoMemory error) longer long = tt

-- what begins with a part, behind something else, is too long where the part is
pub part_too_long : (a part rest whole : List ℕ) (e : PrintRefusal) → whole ≡ a ++ (part ++ rest) → IsTooLong part e → IsTooLong whole e
part_too_long a part rest whole e is long =
    too_long_in part whole e (omega (arith, ap length is, length-append a (part ++ rest), length-append part rest)) long
