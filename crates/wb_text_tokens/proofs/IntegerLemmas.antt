-- The number after an optional sign, as far as digits go, is the longest integer.
use Rattle.std.proofs.Common.{◌≡◌, ◌≢◌, ℕ, zero, suc, ◌+◌, ◌<◌, ◌≤◌, ◌⊎◌, List, [], ◌∷◌, ◌++◌, Some, None, Bool, true, false, cond, length}
use Rattle.std.proofs.Common.{get_or, take, drop, refl, sym, ap, ◌∙◌, subst, arith, length-take, length-append, pos, neg_ℤ, ℤ, ⊎_elim}
use Rattle.std.proofs.Common.{FitsSigned, w64}
use Rattle.std.proofs.Math.Seq.{take-append-add}
use Rattle.std.proofs.lemmas.Bool.{cases_lt}
use Rattle.std.proofs.lemmas.List.{get_or-take}
use Rattle.std.proofs.lemmas.List.Sums.{prefix_len-le-length}
use Rattle.std.proofs.lemmas.Str.Parse.{digit_from_value}
use Rattle.std.specs.Char.{is_ascii_digit}
use Rattle.std.specs.Str.Parse.{AllDigits, IsNumeral, digits_value}
use Rattle.wb_text_tokens.specs.Inner.Longest.{first_class, IsLongest}
use Rattle.wb_text_tokens.specs.Inner.Numbers.{number_of, FindsNumber}
use Rattle.wb_lemmas.proofs.Digits.{digits_pass, digit_is}
use Rattle.wb_base.specs.Decimal.{signed, digit_count}
use Rattle.wb_text_tokens.specs.Spelling.{IsInteger}
use Rattle.wb_text_tokens.specs.declared.token_class.TokenClass.TheVariants.{Number}
use Rattle.wb_text_tokens.specs.declared.token.Dialect.{Dialect}
use Rattle.wb_text_tokens.specs.declared.token.Token.{Token}
use Rattle.wb_text_tokens.specs.declared.token.Token.TheVariants as t
use Rattle.wb_text_tokens.proofs.FirstByteLemmas.{number_is}
use Rattle.wb_text_tokens.proofs.LongestLemmas.{prefix_some, prefix_kind}
use Rattle.wb_lemmas.proofs.Runs.{all_before, headed}

-- the run of digits at the beginning is all digits
pub run_digits : (y : List ℕ) → AllDigits 10 (take (digit_count y) y)
run_digits y = digits_pass (take (digit_count y) y) (all_before is_ascii_digit y)

-- a run of digits at the beginning is no longer
digits_within : (n : ℕ) (y : List ℕ) → n ≤ length y → AllDigits 10 (take n y) → n ≤ digit_count y
digits_within zero y le all = omega arith
digits_within (suc n) [] le all = absurd (omega (arith, le))
digits_within (suc n) (c ∷ y) le all =
    let r = digit_from_value c all.0 in
    let e : digit_count (c ∷ y) ≡ 1 + digit_count y = ap (λ t. cond t (1 + digit_count y) 0) (digit_is c r.0 r.1) in
    let i = digits_within n y (omega (arith, le)) all.1 in
    omega (arith, e, i)

-- the bytes of the sign
abbrev pub sign : Bool → List ℕ
sign true = 45 ∷ []
sign false = []

-- the text is its sign, if it has one, and what comes after it
pub record IsSigned (text : List ℕ) (negative : Bool) (digits : List ℕ) : Type 0 where
  pub joined : text ≡ sign negative ++ digits
  pub plain : negative ≡ false → get_or text 0 0 ≢ 45

-- so many bytes of the text are an integer
record IsShape (negative : Bool) (digits : List ℕ) (count : ℕ) (z : ℤ) : Type 0 where
  taken : ℕ
  counted : count ≡ length (sign negative) + taken
  within : taken ≤ length digits
  numeral : IsNumeral 10 (take taken digits)
  value : z ≡ signed negative (digits_value 10 (take taken digits))

-- an integer in a text without a minus
shape_plain : (text : List ℕ) → get_or text 0 0 ≢ 45 → (count : ℕ) (z : ℤ) → count ≤ length text
    → IsInteger (take count text) z → IsShape false text count z
shape_plain text plain count z le (IsInteger.positive n e) = record {
  taken = count;
  counted = omega arith;
  within = le;
  numeral = n;
  value = e;
}
shape_plain text plain zero z le (IsInteger.negative n e f) = cc
shape_plain text plain (suc m) z le (IsInteger.negative {x} {y} n e f) =
    absurd (plain (sym (get_or-take (suc m) text 0 0 (omega arith)) ∙ ap (λ l. get_or l 0 0) e))

-- an integer in a text with a minus
shape_negative : (digits : List ℕ) (count : ℕ) (z : ℤ) → count ≤ length (45 ∷ digits)
    → IsInteger (take count (45 ∷ digits)) z → IsShape true digits count z
shape_negative digits zero z le (IsInteger.positive n e) = absurd (omega (arith, n.0))
shape_negative digits (suc m) z le (IsInteger.positive n e) = absurd (omega (arith, n.1.0))
shape_negative digits zero z le (IsInteger.negative n e f) = cc
shape_negative digits (suc m) z le (IsInteger.negative {x} {y} n e f) =
    let same : take m digits ≡ y = cc in
    record {
      taken = m;
      counted = omega arith;
      within = omega (arith, le);
      numeral = subst (λ l. IsNumeral 10 l) (sym same) n;
      value = f ∙ ap (λ l. neg_ℤ (pos (digits_value 10 l))) (sym same);
    }

-- an integer in any text
shape : (text : List ℕ) (negative : Bool) (digits : List ℕ) → IsSigned text negative digits → (count : ℕ) (z : ℤ) → count ≤ length text
    → IsInteger (take count text) z → IsShape negative digits count z
shape text true digits s count z le i =
    shape_negative digits count z (subst (λ l. count ≤ length l) s.joined le) (subst (λ l. IsInteger (take count l) z) s.joined i)
shape text false digits s count z le i =
    subst (λ l. IsShape false l count z) s.joined (shape_plain text (s.plain refl) count z le i)

-- the digits at the beginning, with the sign, are an integer
whole : (negative : Bool) (digits : List ℕ) → 0 < digit_count digits
    → IsInteger (sign negative ++ take (digit_count digits) digits) (number_of negative digits)
whole true digits some =
    let n : IsNumeral 10 (take (digit_count digits) digits) = (
      omega
          (arith, length-take (digit_count digits) digits, prefix_len-le-length is_ascii_digit digits),
      run_digits digits,
    ) in
    IsInteger.negative n refl refl
whole false digits some =
    let n : IsNumeral 10 (take (digit_count digits) digits) = (
      omega
          (arith, length-take (digit_count digits) digits, prefix_len-le-length is_ascii_digit digits),
      run_digits digits,
    ) in
    IsInteger.positive n refl

-- the same as the first bytes of the text
whole_at : (text : List ℕ) (negative : Bool) (digits : List ℕ) → IsSigned text negative digits → 0 < digit_count digits
    → IsInteger (take (length (sign negative) + digit_count digits) text) (number_of negative digits)
whole_at text negative digits s some =
    subst (λ l. IsInteger l (number_of negative digits)) (sym (ap (take (length (sign negative) + digit_count digits)) s.joined
    ∙ take-append-add (sign negative) digits (digit_count digits)))
    (whole negative digits some)

-- a number in range is the longest token
pub integer_longest : (dialect : Dialect) (text : List ℕ) (negative : Bool) (digits : List ℕ) → IsSigned text negative digits
    → first_class (get_or text 0 0) ≡ Number
    → (value : ℤ) (n count : ℕ) → FindsNumber negative digits (Some (value, n)) → count ≡ length (sign negative) + n
    → IsLongest dialect text (t.Int value) count
integer_longest dialect text negative digits s begins value n count found e =
    let at : count ≡ length (sign negative) + digit_count digits = omega (arith, e, found.1) in
    let spelled : IsInteger (take count text) value =
    subst (λ k. IsInteger (take k text) value) (sym at) (subst (λ z. IsInteger (take (length (sign negative) + digit_count digits) text) z)
    (sym found.0) (whole_at text negative digits s found.2)) in
    record {
      some = prefix_some dialect text (t.Int value) count spelled;
      within = omega (arith, at, ap length s.joined, length-append (sign negative) digits, prefix_len-le-length is_ascii_digit digits);
      spelled = spelled;
      in_range = found.3;
      longest = λ other more lt le o.
          let i = number_is dialect other (take more text) o (sym (prefix_kind dialect text other more o) ∙ begins) in
          let h = shape text negative digits s more i.0 le i.2 in
          let no_more = digits_within h.taken digits h.within h.numeral.1 in
          omega (arith, at, lt, h.counted, no_more);
    }

-- an integer that is cut before its last digit isn't the longest
no_shorter : (dialect : Dialect) (text : List ℕ) (negative : Bool) (digits : List ℕ) → IsSigned text negative digits
    → (z : ℤ) (count : ℕ) → IsLongest dialect text (t.Int z) count
    → count < length (sign negative) + digit_count digits → ⊥
no_shorter dialect text negative digits s z count l less =
    let more = length (sign negative) + digit_count digits in
    let some : 0 < digit_count digits =
    let h = shape text negative digits s count z l.within l.spelled in
    omega (arith, less, h.counted, h.numeral.0, length-take h.taken digits) in
    let within : more ≤ length text = omega (
      arith,
      ap length s.joined,
      length-append
          (sign negative) digits,
      prefix_len-le-length is_ascii_digit digits,
    ) in
    l.longest (t.Int (number_of negative digits)) more less within (whole_at text negative digits s some)

-- no integer is the longest token where there is no digit or the number is out of range
no_token : (dialect : Dialect) (text : List ℕ) (negative : Bool) (digits : List ℕ) → IsSigned text negative digits
    → (z : ℤ) (count : ℕ) → IsLongest dialect text (t.Int z) count
    → (digit_count digits ≡ 0) ⊎ (¬ FitsSigned w64 (number_of negative digits)) → ⊥
no_token dialect text negative digits s z count l none =
    let h = shape text negative digits s count z l.within l.spelled in
    let no_more = digits_within h.taken digits h.within h.numeral.1 in
    let some : 0 < h.taken = omega (arith, h.numeral.0, length-take h.taken digits) in
    ⊎_elim
    (λ less. no_shorter dialect text negative digits s z count l (omega (arith, less, h.counted)))
    (λ all.
    let same : h.taken ≡ digit_count digits = omega (arith, all, no_more) in
    let value : z ≡ number_of negative digits = h.value ∙ ap (λ n. signed negative (digits_value 10 (take n digits))) same in
    ⊎_elim (λ zero. omega (arith, zero, some, same)) (λ out. out (subst (λ v. FitsSigned w64 v) value l.in_range)) none)
    (cases_lt h.taken (digit_count digits))

-- where there is no digit, or the number is out of range, no token begins
pub integer_none : (dialect : Dialect) (text : List ℕ) (negative : Bool) (digits : List ℕ) → IsSigned text negative digits
    → first_class (get_or text 0 0) ≡ Number
    → FindsNumber negative digits None → (token : Token) (count : ℕ) → IsLongest dialect text token count → ⊥
integer_none dialect text negative digits s begins none token count l =
    let i = number_is dialect token (take count text) l.spelled (sym (prefix_kind dialect text token count l.spelled) ∙ begins) in
    no_token dialect text negative digits s i.0 count (subst (λ k. IsLongest dialect text k count) i.1 l) none

-- a text with a minus, and one without
pub signed_text : (text : List ℕ) → 0 < length text → get_or text 0 0 ≡ 45 → IsSigned text true (drop 1 text)
signed_text text some minus = record { joined = headed text 45 some minus; plain = λ e. absurd (cc) }

-- a text without a minus
pub unsigned_text : (text : List ℕ) → get_or text 0 0 ≢ 45 → IsSigned text false text
unsigned_text text plain = record { joined = refl; plain = λ _. plain }
