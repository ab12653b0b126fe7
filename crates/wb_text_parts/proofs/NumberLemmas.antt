-- Numbers in decimal, with a byte that ends them.
use Rattle.std.proofs.Common.{◌≡◌, ◌≢◌, ◌<◌, ◌≤◌, ◌+◌, ◌*◌, ◌-◌, ◌/◌, ◌%◌, ◌^◌, ◌⊎◌}
use Rattle.std.proofs.Common.{ℕ, zero, suc, List, [], ◌∷◌, ◌++◌, length, get_or, take, drop}
use Rattle.std.proofs.Common.{refl, sym, ap, ◌∙◌, subst, inl, inr, arith, Bool, true, false}
use Rattle.std.specs.Fmt.{decimal}
use Rattle.std.specs.Char.{digit_value, is_ascii_digit}
use Rattle.std.specs.Str.Parse.{AllDigits, digits_value, digits_value_after}
use Rattle.std.proofs.lemmas.Fmt.{decimal_digit, decimal_step, decimal_is_IsNumeral, decimal_injective, first_decimal}
use Rattle.std.proofs.lemmas.Str.Parse.{digit_from_value}
use Rattle.wb_lemmas.proofs.Parts.{append_assoc, drop_from}
use Rattle.wb_lemmas.proofs.Digits.{digit_worth, digit_is}
use Rattle.wb_text_parts.specs.Parts.{number_then, Begins, IsNoDigit, IsPrefixFree, IsSmall, IsStop, Numbers}
use Rattle.wb_text_parts.specs.Inner.Lengths.{CanFollow, HasNoDigit, IsLongest}
use Rattle.wb_text_parts.proofs.StopLemmas.{append_cases, append_cancel, append_none, stop_here}
use Rattle.wb_text_parts.proofs.WordLemmas.{head_at, none_at}

-- digits that follow make the value no smaller
after_le : (n : ℕ) (ds : List ℕ) → n ≤ digits_value_after 10 n ds
after_le n [] = omega arith
after_le n (d ∷ ds) = let more = after_le (n * 10 + digit_value d) ds in omega (arith, more)

-- the value of digits after others
after_append : (n : ℕ) (xs ys : List ℕ) → digits_value_after 10 n (xs ++ ys) ≡ digits_value_after 10 (digits_value_after 10 n xs) ys
after_append n [] ys = refl
after_append n (x ∷ xs) ys = after_append (n * 10 + digit_value x) xs ys

-- each of the digits is one
digits_after : (xs ys : List ℕ) → AllDigits 10 (xs ++ ys) → AllDigits 10 ys
digits_after [] ys all = all
digits_after (x ∷ xs) ys all = digits_after xs ys all.1

-- no number of two digits begins with zero
not_zero_first : (k b : ℕ) (m : List ℕ) → k < 2 ^ 64 → decimal k ≡ 48 ∷ b ∷ m → ⊥
not_zero_first zero b m small is =
    let one : length (decimal 0) ≡ 1 = ap length (decimal_digit 0 (omega arith)) in
    let two : length (decimal 0) ≡ suc (suc (length m)) = ap length is in
    absurd (omega (arith, one, two))
not_zero_first (suc k) b m small is =
    let first : get_or (decimal (suc k)) 0 0 ≡ 48 = ap (λ l. get_or l 0 0) is in
    let above = first_decimal (suc k) (omega arith) small in
    absurd (omega (arith, first, above))

-- a digit more in a number's text can follow the number before it
pub digit_follows : (n v b : ℕ) (m : List ℕ) → n < 2 ^ 64 → v < 2 ^ 64 → decimal n ≡ decimal v ++ b ∷ m → CanFollow v b
digit_follows n v b m n_small v_small is =
    let numeral = decimal_is_IsNumeral n n_small in
    let digits = digits_after (decimal v) (b ∷ m) (subst (AllDigits 10) is numeral.0.1) in
    let range = digit_from_value b digits.0 in
    let value : digits_value_after 10 v (b ∷ m) ≡ n =
    ap (λ k. digits_value_after 10 k (b ∷ m)) (sym (decimal_is_IsNumeral v v_small).1)
    ∙ (sym (after_append 0 (decimal v) (b ∷ m)) ∙ (ap (digits_value 10) (sym is) ∙ numeral.1)) in
    let worth = digit_worth b range.0 range.1 in
    let least = after_le (v * 10 + digit_value b) m in
    record {
      some = λ zero_first.
          not_zero_first n b m n_small (is ∙ ap (λ l. l ++ b ∷ m) (ap decimal zero_first ∙ decimal_digit 0 (omega arith)));
      low = range.0;
      high = range.1;
      small = omega (arith, value, worth, least, n_small);
    }

-- two numbers at the beginning, of which a byte that is no digit ends the second: they are the same and end together, or a digit that can
-- follow is after the first
pub number_meets : (end n v : ℕ) (rest after : List ℕ) → IsNoDigit end → n < 2 ^ 64 → v < 2 ^ 64 →
    decimal v ++ rest ≡ decimal n ++ end ∷ after →
    ((v ≡ n) × (rest ≡ end ∷ after)) ⊎ ((c : ℕ) × (tail : List ℕ) × (rest ≡ c ∷ tail) × CanFollow v c)
number_meets end n v rest after other n_small v_small is =
    elim (append_cases (decimal v) rest (decimal n) (end ∷ after) is) [
      | inl (m, f, g) ↦ within m f g
      | inr (m, f, g) ↦ longer m f g
    ]
  where
    no_end : CanFollow n end → IsNoDigit end → ⊥
    no_end can (inl low) = let bound = can.low in omega (arith, low, bound)
    no_end can (inr high) = let bound = can.high in omega (arith, high, bound)

    within : (m : List ℕ) → decimal v ≡ decimal n ++ m → end ∷ after ≡ m ++ rest →
        ((v ≡ n) × (rest ≡ end ∷ after)) ⊎ ((c : ℕ) × (tail : List ℕ) × (rest ≡ c ∷ tail) × CanFollow v c)
    within [] f g = inl (decimal_injective v n v_small n_small (f ∙ append_none (decimal n)), sym g)
    within (c ∷ m) f g =
        let same : c ≡ end = cc in
        absurd (no_end (digit_follows v n end m v_small n_small (f ∙ ap (λ z. decimal n ++ z ∷ m) same)) other)

    longer : (m : List ℕ) → decimal n ≡ decimal v ++ m → rest ≡ m ++ end ∷ after →
        ((v ≡ n) × (rest ≡ end ∷ after)) ⊎ ((c : ℕ) × (tail : List ℕ) × (rest ≡ c ∷ tail) × CanFollow v c)
    longer [] f g = inl (decimal_injective v n v_small n_small (sym (f ∙ append_none (decimal v))), g)
    longer (c ∷ m) f g = inr (c, m ++ end ∷ after, g, digit_follows n v c m n_small v_small f)

-- so a number with its end is at the beginning of no text with another
pub number_unique : (end n v : ℕ) (x y : List ℕ) → IsNoDigit end → n < 2 ^ 64 → v < 2 ^ 64 →
    number_then end v ++ x ≡ number_then end n ++ y →
    (v ≡ n) × (x ≡ y)
number_unique end n v x y other n_small v_small is =
    cases (number_meets end n v (end ∷ x) y other n_small v_small
    (sym (append_assoc (decimal v) (end ∷ []) x) ∙ (is ∙ append_assoc (decimal n) (end ∷ []) y)))
  where
    cases : ((v ≡ n) × (end ∷ x ≡ end ∷ y)) ⊎ ((c : ℕ) × (tail : List ℕ) × (end ∷ x ≡ c ∷ tail) × CanFollow v c) → (v ≡ n) × (x ≡ y)
    cases (inl (same, rest)) = (same, cc)
    cases (inr (c, tail, e, can)) =
        let at : end ≡ c = cc in
        let low = can.low in
        let high = can.high in
        elim other [ inl below ↦ absurd (omega (arith, at, low, below)) | inr above ↦ absurd (omega (arith, at, high, above)) ]

pub numbers_free : (end : ℕ) → IsNoDigit end → IsPrefixFree (Numbers end)
numbers_free end other a b x y (v, v_small, is) (n, n_small, is') e =
    let both : number_then end v ++ x ≡ number_then end n ++ y = ap (λ l. l ++ x) (sym is) ∙ (e ∙ ap (λ l. l ++ y) is') in
    is ∙ (ap (number_then end) (number_unique end n v x y other n_small v_small both).0 ∙ sym is')

-- the number at the beginning and its end
pub number_read : (text : List ℕ) (value at end : ℕ) → IsLongest text value at → drop at text ≡ end ∷ drop 1 (drop at text) →
    Begins IsSmall (number_then end) text value (drop 1 (drop at text))
number_read text value at end found is =
    (found.small, found.split ∙ (ap (λ l. decimal value ++ l) is ∙ sym (append_assoc (decimal value) (end ∷ []) (drop 1 (drop at text)))))

-- a number that another byte ends
pub number_stopped : (text : List ℕ) (value at end : ℕ) → IsNoDigit end → IsLongest text value at →
    ((after : List ℕ) → drop at text ≢ end ∷ after) → IsStop (Numbers end) text (drop at text)
number_stopped text value at end other found differs = record {
  front = decimal value;
  split = found.split;
  more = end ∷ [];
  begins = (value, found.small, refl);
  no_further = λ b after tail is (n, n_small, e). further b after tail is n n_small e;
  no_whole = λ part after (n, n_small, e) is. whole n n_small (part) after e is;
}
  where
    stuck : (n : ℕ) (rest after : List ℕ) → n < 2 ^ 64 → ((c : ℕ) (tail : List ℕ) → rest ≡ c ∷ tail → ¬ CanFollow value c) →
        rest ≢ end ∷ after → decimal value ++ rest ≡ decimal n ++ end ∷ after → ⊥
    stuck n rest after n_small none no_end e =
        elim (number_meets end n value rest after other n_small found.small e) [
          | inl (same, is) ↦ no_end is
          | inr (c, tail, is, can) ↦ none c tail is can
        ]

    further : (b : ℕ) (after tail : List ℕ) → drop at text ≡ b ∷ after → (n : ℕ) → n < 2 ^ 64 →
        decimal value ++ b ∷ tail ≡ number_then end n → ⊥
    further b after tail is n n_small e =
        stuck n (b ∷ tail) [] n_small
        (λ c more same can. found.last b after is (let head : c ≡ b = cc in subst (CanFollow value) head can))
        (λ same. (let head : b ≡ end = cc in differs after (is ∙ ap (λ z. z ∷ after) head)))
        e

    whole : (n : ℕ) → n < 2 ^ 64 → (part after : List ℕ) → part ≡ number_then end n → text ≡ part ++ after → ⊥
    whole n n_small part after e is =
        stuck n (drop at text) after n_small found.last (differs after)
        (sym found.split ∙ (is ∙ (ap (λ l. l ++ after) e ∙ append_assoc (decimal n) (end ∷ []) after)))

-- a number begins with a digit
pub number_first : (end n b : ℕ) (tail : List ℕ) → n < 2 ^ 64 → b ∷ tail ≡ number_then end n → (48 ≤ b) × (b ≤ 57)
number_first end n b tail n_small is = cases (decimal n) (decimal_is_IsNumeral n n_small).0 is where
  cases : (ds : List ℕ) → (0 < length ds) × AllDigits 10 ds → b ∷ tail ≡ ds ++ end ∷ [] → (48 ≤ b) × (b ≤ 57)
  cases [] some e = absurd (omega (arith, some.0))
  cases (d ∷ ds) some e =
      let same : d ≡ b = cc in
      let range = digit_from_value d some.1.0 in
      (subst (λ z. 48 ≤ z) same range.0, subst (λ z. z ≤ 57) same range.1)

pub number_some : (end n : ℕ) → n < 2 ^ 64 → [] ≡ number_then end n → ⊥
number_some end n n_small is = cases (decimal n) is where
  cases : (ds : List ℕ) → [] ≡ ds ++ end ∷ [] → ⊥
  cases [] e = cc
  cases (d ∷ ds) e = cc

-- where there is no digit
pub number_none : (text : List ℕ) (end : ℕ) → HasNoDigit text → IsStop (Numbers end) text text
number_none text end none =
    let zero_small : 0 < 2 ^ 64 = omega arith in
    stop_here text (number_then end 0) (0, zero_small, refl)
    (λ b after tail is (n, n_small, e).
    (let range = number_first end n b tail n_small e in
    elim (none b after is) [ inl below ↦ absurd (omega (arith, below, range.0)) | inr above ↦ absurd (omega (arith, above, range.1)) ]))
    (λ (n, n_small, e). number_some end n n_small e)

-- the first byte is a digit
pub one_digit : (text : List ℕ) (d : ℕ) → d < 10 → text ≡ (48 + d) ∷ drop 1 text → text ≡ decimal d ++ drop 1 text
one_digit text d small is = is ∙ ap (λ l. l ++ drop 1 text) (sym (decimal_digit d small))

-- one more
pub longer_number : (text : List ℕ) (value longer at byte : ℕ) → at < length text → byte ≡ get_or text at byte →
    decimal longer ≡ decimal value ++ byte ∷ [] → text ≡ decimal value ++ drop at text → text ≡ decimal longer ++ drop (at + 1) text
longer_number text value longer at byte within is more split =
    split ∙ (ap (λ l. decimal value ++ l) (drop_from text at byte within is)
    ∙ (sym (append_assoc (decimal value) (byte ∷ []) (drop (at + 1) text)) ∙ ap (λ l. l ++ drop (at + 1) text) (sym more)))

-- no digit follows at the end
pub longest_at_end : (text : List ℕ) (value at : ℕ) → value < 2 ^ 64 → at ≤ length text → length text ≤ at →
    text ≡ decimal value ++ drop at text → IsLongest text value at
longest_at_end text value at small within past split = record {
  small = small;
  within = within;
  split = split;
  last = λ b after is can. none_at text at b after past is;
}

-- and where the byte there can't
pub longest_at_byte : (text : List ℕ) (value at byte : ℕ) → value < 2 ^ 64 → at < length text → get_or text at 0 ≡ byte →
    text ≡ decimal value ++ drop at text → ¬ CanFollow value byte → IsLongest text value at
longest_at_byte text value at byte small within is split none = record {
  small = small;
  within = omega (arith, within);
  split = split;
  last = λ b after there can. none (subst (CanFollow value) (sym (head_at text at b after there) ∙ is) can);
}

-- a digit after a number
pub decimal_longer : (v b n : ℕ) → v ≢ 0 → 48 ≤ b → b ≤ 57 → n ≡ v * 10 + (b - 48) → n < 2 ^ 64 → decimal n ≡ decimal v ++ b ∷ []
decimal_longer v b n some low high is small =
    let above : 10 ≤ n = above v some (omega (arith, is)) in
    let front : n / 10 ≡ v = omega (arith, is, low, high) in
    let last : 48 + n % 10 ≡ b = omega (arith, is, low, high) in
    decimal_step n above small ∙ (ap (λ k. decimal k ++ (48 + n % 10) ∷ []) front ∙ ap (λ k. decimal v ++ k ∷ []) last)
  where
    above : (k : ℕ) → k ≢ 0 → k * 10 ≤ n → 10 ≤ n
    above zero some le = absurd (some refl)
    above (suc k) some le = omega (arith, le)

-- a number that is stopped, where the rest is known under another name
pub number_stopped_at : (text rest : List ℕ) (value at end : ℕ) → rest ≡ drop at text → IsNoDigit end → IsLongest text value at →
    ((after : List ℕ) → rest ≢ end ∷ after) → IsStop (Numbers end) text rest
number_stopped_at text rest value at end is other found differs =
    subst (IsStop (Numbers end) text) (sym is)
    (number_stopped text value at end other found (λ after there. differs after (is ∙ there)))

-- a digit that makes the number too large
pub too_large : (v b : ℕ) → (2 ^ 64 - 1 - (b - 48)) / 10 < v → b ≤ 57 → ¬ CanFollow v b
too_large v b above high can =
    let small = can.small in
    let low = can.low in
    omega (arith, above, small, low, high)
