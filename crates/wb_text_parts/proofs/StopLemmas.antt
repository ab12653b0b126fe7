-- Where a text of two parts first goes wrong: in the first part, or in the second after the first.
use Rattle.std.proofs.Common.{◌≡◌, ◌≢◌, ◌⊎◌, ℕ, List, [], ◌∷◌, ◌++◌, refl, sym, ap, ◌∙◌, subst, inl, inr}
use Rattle.wb_lemmas.proofs.Parts.{append_assoc, append_same_right, joined}
use Rattle.wb_text_parts.specs.Parts.{Both, Exactly, IsPrefixFree, IsStop}

-- two lists that are joined to the same: one of the first parts begins with the other
pub append_cases : {X : Type 0} (a b c d : List X) → a ++ b ≡ c ++ d → ((m : List X) × (a ≡ c ++ m) × (d ≡ m ++ b)) ⊎
    ((m : List X) × (c ≡ a ++ m) × (b ≡ m ++ d))
append_cases [] b c d e = inr (c, refl, e)
append_cases (x ∷ a) b [] d e = inl (x ∷ a, refl, sym e)
append_cases (x ∷ a) b (y ∷ c) d e =
    let head : x ≡ y = cc in
    let tail : a ++ b ≡ c ++ d = cc in
    elim (append_cases a b c d tail) [
      | inl (m, f, g) ↦ inl (m, ap (λ z. z ∷ a) head ∙ ap (λ l. y ∷ l) f, g)
      | inr (m, f, g) ↦ inr (m, ap (λ z. z ∷ c) (sym head) ∙ ap (λ l. x ∷ l) f, g)
    ]

-- what is after the same
pub append_cancel : {X : Type 0} (a x y : List X) → a ++ x ≡ a ++ y → x ≡ y
append_cancel a x y e = append_same_right a a x y refl e

-- and after two that are the same
pub append_cancel_same : {X : Type 0} (a b x y : List X) → a ≡ b → a ++ x ≡ b ++ y → x ≡ y
append_cancel_same a b x y same e = append_cancel b x y (ap (λ l. l ++ x) (sym same) ∙ e)

pub append_none : {X : Type 0} (a : List X) → a ++ [] ≡ a
append_none [] = refl
append_none (x ∷ a) = ap (λ l. x ∷ l) (append_none a)

-- no text of the set begins the front and the byte at which it stops, or goes on after them
module _ {Set : List ℕ → Type 0} {text rest : List ℕ} (s : IsStop Set text rest) where
  longer : (b : ℕ) (after tail m x y : List ℕ) → rest ≡ b ∷ after → Set x → x ≡ s.front ++ m → b ∷ tail ≡ m ++ y → ⊥
  longer b after tail [] x y is one f g =
      s.no_whole x rest one (s.split ∙ ap (λ l. l ++ rest) (sym (append_none s.front) ∙ sym f))
  longer b after tail (c ∷ m) x y is one f g =
      let same : c ≡ b = cc in
      s.no_further b after m is (subst Set (f ∙ ap (λ z. s.front ++ z ∷ m) same) one)

  pub stop_over : (b : ℕ) (after tail x y : List ℕ) → rest ≡ b ∷ after → Set x → s.front ++ b ∷ tail ≡ x ++ y → ⊥
  stop_over b after tail x y is one e =
      elim (append_cases x y s.front (b ∷ tail) (sym e)) [
        | inl (m, f, g) ↦ longer b after tail m x y is one f g
        | inr (m, f, g) ↦ s.no_whole x (m ++ rest) one (s.split ∙ (ap (λ l. l ++ rest) f ∙ append_assoc x m rest))
      ]

-- a stop in the first part
pub stop_first : {First Second : List ℕ → Type 0} {text rest : List ℕ} → IsStop First text rest → (l : List ℕ) → Second l →
    IsStop (Both First Second) text rest
stop_first s l two = record {
  front = s.front;
  split = s.split;
  more = s.more ++ l;
  begins = (s.front ++ s.more, l, s.begins, two, sym (append_assoc s.front s.more l));
  no_further = λ b after tail is (x, y, p, q, e). stop_over s b after tail x y is p e;
  no_whole = λ part after (x, y, p, q, e) is.
      s.no_whole x (y ++ after) p (is ∙ (ap (λ l. l ++ after) e ∙ append_assoc x y after));
}

-- a stop in the second, after a text of the first
pub stop_second : {First Second : List ℕ → Type 0} {after rest : List ℕ} → IsPrefixFree First → (a text : List ℕ) → First a →
    text ≡ a ++ after → IsStop Second after rest → IsStop (Both First Second) text rest
stop_second {First = First} {Second = Second} {after = after} {rest = rest} free a text one is s = record {
  front = a ++ s.front;
  split = joined a after s.front rest text is s.split;
  more = s.more;
  begins = (a, s.front ++ s.more, one, s.begins, append_assoc a s.front s.more);
  no_further = λ b next tail at (x, y, p, q, e). further b next tail at x y p q e;
  no_whole = λ part next (x, y, p, q, e) same. whole part next x y p q e same;
}
  where
    further : (b : ℕ) (next tail : List ℕ) → rest ≡ b ∷ next → (x y : List ℕ) → First x → Second y →
        (a ++ s.front) ++ b ∷ tail ≡ x ++ y → ⊥
    further b next tail at x y p q e =
        let e' : a ++ (s.front ++ b ∷ tail) ≡ x ++ y = sym (append_assoc a s.front (b ∷ tail)) ∙ e in
        let same = free a x (s.front ++ b ∷ tail) y one p e' in
        s.no_further b next tail at (subst Second (sym (append_cancel_same a x (s.front ++ b ∷ tail) y same e')) q)

    whole : (part next x y : List ℕ) → First x → Second y → part ≡ x ++ y → text ≡ part ++ next → ⊥
    whole part next x y p q e same =
        let e' : a ++ after ≡ x ++ (y ++ next) = sym is ∙ (same ∙ (ap (λ l. l ++ next) e ∙ append_assoc x y next)) in
        let one_first = free a x after (y ++ next) one p e' in
        s.no_whole y next q (append_cancel_same a x after (y ++ next) one_first e')

-- a stop in a set is one in a set of the same texts
pub stop_same : {Set Other : List ℕ → Type 0} {text rest : List ℕ} → ((l : List ℕ) → Set l → Other l) →
    ((l : List ℕ) → Other l → Set l) → IsStop Set text rest → IsStop Other text rest
stop_same {Set = Set} {Other = Other} there back s = record {
  front = s.front;
  split = s.split;
  more = s.more;
  begins = there (s.front ++ s.more) s.begins;
  no_further = λ b after tail is o. s.no_further b after tail is (back (s.front ++ b ∷ tail) o);
  no_whole = λ part after o is. s.no_whole part after (back part o) is;
}

-- a stop in a set is one in a larger set, all of whose texts with the same first byte are in the first
pub stop_wider : {Set Other : List ℕ → Type 0} (text : List ℕ) {rest : List ℕ} → ((l : List ℕ) → Set l → Other l) →
    ((b : ℕ) (after tail : List ℕ) → text ≡ b ∷ after → Other (b ∷ tail) → Set (b ∷ tail)) → ¬ Other [] → IsStop Set text rest →
    IsStop Other text rest
stop_wider {Set = Set} {Other = Other} text {rest = rest} there back some s = record {
  front = s.front;
  split = s.split;
  more = s.more;
  begins = there (s.front ++ s.more) s.begins;
  no_further = λ b after tail is o. s.no_further b after tail is (further s.front s.split b after tail is o);
  no_whole = λ part after o is. whole part after o is;
}
  where
    further : (front : List ℕ) → text ≡ front ++ rest → (b : ℕ) (after tail : List ℕ) → rest ≡ b ∷ after → Other (front ++ b ∷ tail) →
        Set (front ++ b ∷ tail)
    further [] split b after tail is o = back b after tail (split ∙ is) o
    further (c ∷ front) split b after tail is o = back c (front ++ rest) (front ++ b ∷ tail) split o

    whole : (part after : List ℕ) → Other part → text ≡ part ++ after → ⊥
    whole [] after o is = some o
    whole (c ∷ part) after o is = s.no_whole (c ∷ part) after (back c (part ++ after) part is o) is

-- a stop at the first byte
pub stop_here : {Set : List ℕ → Type 0} (text more : List ℕ) → Set more →
    ((b : ℕ) (after tail : List ℕ) → text ≡ b ∷ after → ¬ Set (b ∷ tail)) → ¬ Set [] → IsStop Set text text
stop_here {Set = Set} text more begins none some = record {
  front = [];
  split = refl;
  more = more;
  begins = begins;
  no_further = λ b after tail is. none b after tail is;
  no_whole = λ part after o is. whole part after o is;
}
  where
    whole : (part after : List ℕ) → Set part → text ≡ part ++ after → ⊥
    whole [] after o is = some o
    whole (c ∷ part) after o is = none c (part ++ after) part is o

-- these bytes alone are a set in which no text begins with two
pub exactly_free : (word : List ℕ) → IsPrefixFree (Exactly word)
exactly_free word a b x y one two e = one ∙ sym two

-- a stop after the first byte, which all that are looked for begin with
pub stop_after : {Set : List ℕ → Type 0} {text rest : List ℕ} (c : ℕ) → ¬ Set [] → IsStop (λ l. Set (c ∷ l)) text rest →
    IsStop Set (c ∷ text) rest
stop_after {Set = Set} {text = text} {rest = rest} c some s = record {
  front = c ∷ s.front;
  split = ap (λ l. c ∷ l) s.split;
  more = s.more;
  begins = s.begins;
  no_further = λ b after tail is. s.no_further b after tail is;
  no_whole = λ part after o is. whole part after o is;
}
  where
    whole : (part after : List ℕ) → Set part → c ∷ text ≡ part ++ after → ⊥
    whole [] after o is = some o
    whole (d ∷ part) after o is =
        let same : d ≡ c = cc in
        let tail : text ≡ part ++ after = cc in
        s.no_whole part after (subst (λ z. Set (z ∷ part)) same o) tail

-- parts of which no two begin one text, one after another
pub both_free : {First Second : List ℕ → Type 0} → IsPrefixFree First → IsPrefixFree Second → IsPrefixFree (Both First Second)
both_free first second l m x y (a, b, p, q, e) (c, d, r, s, f) is =
    let whole : a ++ (b ++ x) ≡ c ++ (d ++ y) =
    sym (append_assoc a b x) ∙ (ap (λ z. z ++ x) (sym e) ∙ (is ∙ (ap (λ z. z ++ y) f ∙ append_assoc c d y))) in
    let one : a ≡ c = first a c (b ++ x) (d ++ y) p r whole in
    let two : b ≡ d = second b d x y q s (append_cancel_same a c (b ++ x) (d ++ y) one whole) in
    e ∙ (ap (λ z. z ++ b) one ∙ (ap (λ z. c ++ z) two ∙ sym f))
