-- The first part of the body of a string or of a regular expression is the one part that is at its beginning, and so a body goes to
-- one closing byte alone.
use Rattle.std.proofs.Common.{◌≡◌, ◌≢◌, ℕ, ◌+◌, ◌*◌, ◌<◌, ◌≤◌, List, [], ◌∷◌, ◌++◌, Option, Some, None, Bool, true, false, ◌||◌, cond, eqb}
use Rattle.std.proofs.Common.{refl, sym, ap, ◌∙◌, subst, ⊎_elim, arith, append_assoc, length, take, drop, length-drop, get_or}
use Rattle.std.proofs.lemmas.Bool.{cases_Bool, eqb-true}
use Rattle.std.proofs.Math.Seq.{take-add, take-append_seam}
use Rattle.std.proofs.lemmas.List.{drop_at, get_or-drop, take-append-drop}
use Rattle.wb_text_tokens.specs.Spelling.{is_plain, escaped_byte, IsStringPart, IsStringBody, IsRegexPart, IsRegexBody}
use Rattle.wb_base.specs.Decimal.{hex_value}
use Rattle.wb_text_tokens.specs.Skipping.{HasByte}
use Rattle.wb_text_tokens.specs.Inner.Parts.{byte_of, counted, hexadecimal_at, escape_at, string_part, regex_escape, regex_part}

-- a plain byte is no backslash
not_backslash : (b : ℕ) → is_plain b ≡ true → eqb b 92 ≡ false
not_backslash b h = ⊎_elim (λ t. let e = ap is_plain (eqb-true b 92 t) in absurd (cc)) (λ f. f) (cases_Bool (eqb b 92))

-- a byte that is an escape alone is no `x`
not_hexadecimal : (e b : ℕ) → escaped_byte e ≡ Some b → eqb e 120 ≡ false
not_hexadecimal e b h = ⊎_elim (λ t. let f = ap escaped_byte (eqb-true e 120 t) in absurd (cc)) (λ f. f) (cases_Bool (eqb e 120))

-- the part of a string that is at the beginning is found
string_only : {part : List ℕ} {b : ℕ} (r : List ℕ) → IsStringPart part b → string_part (part ++ r) ≡ Some (b, length part)
string_only r (IsStringPart.plain {x} {b} h e) =
    ap (λ p. string_part (p ++ r)) e ∙ ap (λ t. cond t (escape_at r) (cond (is_plain b) (Some (b, 1)) None)) (not_backslash b h)
    ∙ ap (λ t. cond t (Some (b, 1)) None) h ∙ ap (λ p. Some (b, length p)) (sym e)
string_only r (IsStringPart.escaped {x} {e} {b} h f) =
    ap (λ p. string_part (p ++ r)) f ∙ ap (λ t. cond t (hexadecimal_at r) (counted (escaped_byte e) 2)) (not_hexadecimal e b h)
    ∙ ap (λ o. counted o 2) h ∙ ap (λ p. Some (b, length p)) (sym f)
string_only r (IsStringPart.hexadecimal {x} {h} {l} {m} {n} {b} p q g f) =
    ap (λ p. string_part (p ++ r)) f ∙ ap (λ o. counted (byte_of o (hex_value l)) 4) p ∙ ap (λ o. counted (byte_of (Some m) o) 4) q
    ∙ ap (λ a. Some (a, 4)) (sym g) ∙ ap (λ p. Some (b, length p)) (sym f)

-- the part of a regular expression that is at the beginning is found
regex_only : {part : List ℕ} (r : List ℕ) → IsRegexPart part → regex_part (part ++ r) ≡ Some (length part)
regex_only r (IsRegexPart.plain {x} {b} h e) = ap (λ p. regex_part (p ++ r)) e ∙ known b h ∙ ap (λ p. Some (length p)) (sym e)
  where
    known : (b : ℕ) → (eqb b 47 || eqb b 92 || eqb b 10) ≡ false
        → cond (eqb b 92) (regex_escape r) (cond (eqb b 47 || eqb b 10) None (Some 1)) ≡ Some 1
    known b h = grind (arith, h)
regex_only r (IsRegexPart.escaped {x} {b} h e) =
    ap (λ p. regex_part (p ++ r)) e ∙ ap (λ t. cond t None (Some 2)) h ∙ ap (λ p. Some (length p)) (sym e)

-- fronts of one length leave one rest
same_length : (p q u v : List ℕ) → length p ≡ length q → p ++ u ≡ q ++ v → u ≡ v
same_length p q u v h e = sym (drop_at p u (length q) h) ∙ ap (drop (length q)) e ∙ drop_at q v (length q) refl

-- fronts of one length are one
same_front : (p q u v : List ℕ) → length p ≡ length q → p ++ u ≡ q ++ v → p ≡ q
same_front p q u v h e = sym (take-append_seam p u) ∙ ap (λ n. take n (p ++ u)) h ∙ ap (take (length q)) e ∙ take-append_seam q v

-- two bodies of strings that go on in one text, the one where no part stands and the other with a quote, are one
pub same_string : {front body text other : List ℕ} (r rest : List ℕ) → IsStringBody front text
    → string_part r ≡ None → IsStringBody body other
    → front ++ r ≡ body ++ 34 ∷ rest → (front ≡ body) × (text ≡ other) × (r ≡ 34 ∷ rest)
same_string r rest (IsStringBody.none e f) n (IsStringBody.none g h) j = (cc, cc, sym (ap (λ u. u ++ r) e) ∙ j ∙ ap (λ u. u ++ 34 ∷ rest) g)
same_string r rest (IsStringBody.none e f) n (IsStringBody.next {part} {x} p b g h) j =
    let a = sym (ap (λ u. u ++ r) e) ∙ j ∙ ap (λ u. u ++ 34 ∷ rest) g ∙ append_assoc part x (34 ∷ rest) in
    let s = sym n ∙ ap string_part a ∙ string_only (x ++ 34 ∷ rest) p in absurd (cc)
same_string r rest (IsStringBody.next {part} {x} p b e f) n (IsStringBody.none g h) j =
    let a = sym (append_assoc part x r) ∙ sym (ap (λ u. u ++ r) e) ∙ j ∙ ap (λ u. u ++ 34 ∷ rest) g in
    let s = sym (string_only (x ++ r) p) ∙ ap string_part a in absurd (cc)
same_string r rest (IsStringBody.next {part} {x} {y} {text} {whole} {b = byte} p b e f) n
    (IsStringBody.next {part = q} {x = z} {y = w} {text = other} {whole = all} {b = c} p' b' g h) j =
    let a : part ++ (x ++ r) ≡ q ++ (z ++ 34 ∷ rest) = sym (append_assoc part x r) ∙ sym
    (ap (λ u. u ++ r) e) ∙ j ∙ ap (λ u. u ++ 34 ∷ rest) g ∙ append_assoc q z (34 ∷ rest) in
    let s : ◌≡◌ {A = Option (ℕ × ℕ)} (Some (byte, length part)) (Some (c, length q)) = sym
    (string_only (x ++ r) p) ∙ ap string_part a ∙ string_only (z ++ 34 ∷ rest) p' in
    let pair : ◌≡◌ {A = ℕ × ℕ} (byte, length part) (c, length q) = cc in
    let count = ap (λ (k : ℕ × ℕ). k.1) pair in
    let same = ap (λ (k : ℕ × ℕ). k.0) pair in
    let parts = same_front part q (x ++ r) (z ++ 34 ∷ rest) count a in
    let i = same_string r rest b n b' (same_length part q (x ++ r) (z ++ 34 ∷ rest) count a) in
    (e ∙ ap (λ u. u ++ x) parts ∙ ap (λ u. q ++ u) i.0 ∙ sym g, f ∙ ap (λ u. u ∷ text) same ∙ ap (λ u. c ∷ u) i.1 ∙ sym h, i.2)

-- the same of regular expressions and slashes
pub same_regex : {front body : List ℕ} (r rest : List ℕ) → IsRegexBody front → regex_part r ≡ None → IsRegexBody body
    → front ++ r ≡ body ++ 47 ∷ rest → (front ≡ body) × (r ≡ 47 ∷ rest)
same_regex r rest (IsRegexBody.none e) n (IsRegexBody.none g) j = (cc, sym (ap (λ u. u ++ r) e) ∙ j ∙ ap (λ u. u ++ 47 ∷ rest) g)
same_regex r rest (IsRegexBody.none e) n (IsRegexBody.next {part} {x} p b g) j =
    let a = sym (ap (λ u. u ++ r) e) ∙ j ∙ ap (λ u. u ++ 47 ∷ rest) g ∙ append_assoc part x (47 ∷ rest) in
    let s = sym n ∙ ap regex_part a ∙ regex_only (x ++ 47 ∷ rest) p in absurd (cc)
same_regex r rest (IsRegexBody.next {part} {x} p b e) n (IsRegexBody.none g) j =
    let a = sym (append_assoc part x r) ∙ sym (ap (λ u. u ++ r) e) ∙ j ∙ ap (λ u. u ++ 47 ∷ rest) g in
    let s = sym (regex_only (x ++ r) p) ∙ ap regex_part a in absurd (cc)
same_regex r rest (IsRegexBody.next {part} {x} p b e) n (IsRegexBody.next {part = q} {x = z} p' b' g) j =
    let a : part ++ (x ++ r) ≡ q ++ (z ++ 47 ∷ rest) = sym (append_assoc part x r) ∙ sym
    (ap (λ u. u ++ r) e) ∙ j ∙ ap (λ u. u ++ 47 ∷ rest) g ∙ append_assoc q z (47 ∷ rest) in
    let s : Some (length part) ≡ Some (length q) = sym (regex_only (x ++ r) p) ∙ ap regex_part a ∙ regex_only (z ++ 47 ∷ rest) p' in
    let count : length part ≡ length q = cc in
    let i = same_regex r rest b n b' (same_length part q (x ++ r) (z ++ 47 ∷ rest) count a) in
    (e ∙ ap (λ u. u ++ x) (same_front part q (x ++ r) (z ++ 47 ∷ rest) count a) ∙ ap (λ u. q ++ u) i.0 ∙ sym g, i.1)

-- a body and one more part
string_more : {u t p : List ℕ} {b : ℕ} → IsStringBody u t → IsStringPart p b → IsStringBody (u ++ p) (t ++ b ∷ [])
string_more {p = p} {b = b} (IsStringBody.none e f) h =
    IsStringBody.next h (IsStringBody.none refl refl) (ap (λ u. u ++ p) e ∙ sym (nil p)) (ap (λ t. t ++ b ∷ []) f)
  where
    nil : (l : List ℕ) → l ++ [] ≡ l
    nil [] = refl
    nil (x ∷ xs) = ap (λ l. x ∷ l) (nil xs)
string_more {p = p} {b = b} (IsStringBody.next {part} {x} {y} {text} {whole} {b = c} q k e f) h =
    IsStringBody.next q (string_more k h) (ap (λ u. u ++ p) e ∙ append_assoc part x p) (ap (λ t. t ++ b ∷ []) f)

-- the same of regular expressions
regex_more : {u p : List ℕ} → IsRegexBody u → IsRegexPart p → IsRegexBody (u ++ p)
regex_more {p = p} (IsRegexBody.none e) h = IsRegexBody.next h (IsRegexBody.none refl) (ap (λ u. u ++ p) e ∙ sym (nil p))
  where
    nil : (l : List ℕ) → l ++ [] ≡ l
    nil [] = refl
    nil (x ∷ xs) = ap (λ l. x ∷ l) (nil xs)
regex_more {p = p} (IsRegexBody.next {part} {x} q k e) h = IsRegexBody.next q (regex_more k h) (ap (λ u. u ++ p) e ∙ append_assoc part x p)

-- the digits of a byte
byte_of_some : (o p : Option ℕ) (b : ℕ) → byte_of o p ≡ Some b → (m n : ℕ) × (o ≡ Some m) × (p ≡ Some n) × (b ≡ 16 * m + n)
byte_of_some None p b h = cc
byte_of_some (Some m) None b h = cc
byte_of_some (Some m) (Some n) b h = (m, n, refl, refl, cc)

-- a byte with its count
counted_some : (o : Option ℕ) (count b n : ℕ) → counted o count ≡ Some (b, n) → (o ≡ Some b) × (count ≡ n)
counted_some None count b n h = cc
counted_some (Some a) count b n h =
    let pair : ◌≡◌ {A = ℕ × ℕ} (a, count) (b, n) = cc in (ap (λ (k : ℕ × ℕ). Some k.0) pair, ap (λ (k : ℕ × ℕ). k.1) pair)

-- so many bytes of the list stand for the byte
abbrev pub StandsFor : List ℕ → ℕ → ℕ → Type 0
StandsFor x b n = IsStringPart (take n x) b × (0 < n) × (n ≤ length x)

-- after `\x` two digits are found
found_hexadecimal : (x : List ℕ) (b n : ℕ) → hexadecimal_at x ≡ Some (b, n) → StandsFor (92 ∷ 120 ∷ x) b n
found_hexadecimal [] b n h = cc
found_hexadecimal (a ∷ []) b n h = cc
found_hexadecimal (a ∷ l ∷ x) b n h =
    let g = counted_some (byte_of (hex_value a) (hex_value l)) 4 b n h in
    let m = byte_of_some (hex_value a) (hex_value l) b g.0 in
    subst (λ k. StandsFor (92 ∷ 120 ∷ a ∷ l ∷ x) b k) g.1 (IsStringPart.hexadecimal m.2 m.3 m.4 refl, omega arith, omega arith)

-- after a backslash an escape is found
found_escape : (x : List ℕ) (b n : ℕ) → escape_at x ≡ Some (b, n) → StandsFor (92 ∷ x) b n
found_escape [] b n h = cc
found_escape (e ∷ x) b n h = ⊎_elim hexadecimal other (cases_Bool (eqb e 120))
  where
    hexadecimal : eqb e 120 ≡ true → StandsFor (92 ∷ e ∷ x) b n
    hexadecimal t = subst (λ a. StandsFor (92 ∷ a ∷ x) b n) (sym (eqb-true e 120 t))
        (found_hexadecimal x b n (sym (ap (λ a. cond a (hexadecimal_at x) (counted (escaped_byte e) 2)) t) ∙ h))

    other : eqb e 120 ≡ false → StandsFor (92 ∷ e ∷ x) b n
    other t =
        let g = counted_some (escaped_byte e) 2 b n (sym (ap (λ a. cond a (hexadecimal_at x) (counted (escaped_byte e) 2)) t) ∙ h) in
        subst (λ k. StandsFor (92 ∷ e ∷ x) b k) g.1 (IsStringPart.escaped g.0 refl, omega arith, omega arith)

-- a plain byte is found
found_plain : (b c n : ℕ) (x : List ℕ) (t : Bool) → is_plain b ≡ t → cond {A = Option (ℕ × ℕ)} t (Some (b, 1)) None ≡ Some (c, n)
    → StandsFor (b ∷ x) c n
found_plain b c n x true t h =
    let pair : ◌≡◌ {A = ℕ × ℕ} (b, 1) (c, n) = cc in
    subst (λ (k : ℕ × ℕ). StandsFor (b ∷ x) k.0 k.1) pair (IsStringPart.plain t refl, omega arith, omega arith)
found_plain b c n x false t h = cc

-- what is found is at the beginning
pub string_found : (x : List ℕ) (b n : ℕ) → string_part x ≡ Some (b, n) → StandsFor x b n
string_found [] b n h = cc
string_found (a ∷ x) b n h = ⊎_elim escape other (cases_Bool (eqb a 92))
  where
    escape : eqb a 92 ≡ true → StandsFor (a ∷ x) b n
    escape t = subst (λ a. StandsFor (a ∷ x) b n) (sym (eqb-true a 92 t))
        (found_escape x b n (sym (ap (λ t. cond t (escape_at x) (cond (is_plain a) (Some (a, 1)) None)) t) ∙ h))

    other : eqb a 92 ≡ false → StandsFor (a ∷ x) b n
    other t = found_plain a b n x (is_plain a) refl (sym (ap (λ t. cond t (escape_at x) (cond (is_plain a) (Some (a, 1)) None)) t) ∙ h)

-- so many bytes of the list are a part
abbrev pub IsPartAt : List ℕ → ℕ → Type 0
IsPartAt x n = IsRegexPart (take n x) × (0 < n) × (n ≤ length x)

-- after a backslash any byte but LF is found
found_regex_escape : (x : List ℕ) (n : ℕ) → regex_escape x ≡ Some n → IsPartAt (92 ∷ x) n
found_regex_escape [] n h = cc
found_regex_escape (b ∷ x) n h = at (eqb b 10) refl h
  where
    at : (t : Bool) → eqb b 10 ≡ t → cond t None (Some 2) ≡ Some n → IsPartAt (92 ∷ b ∷ x) n
    at true t h = cc
    at false t h = let e : 2 ≡ n = cc in subst (λ k. IsPartAt (92 ∷ b ∷ x) k) e (IsRegexPart.escaped t refl, omega arith, omega arith)

-- the same of regular expressions
pub regex_found : (x : List ℕ) (n : ℕ) → regex_part x ≡ Some n → IsPartAt x n
regex_found [] n h = cc
regex_found (b ∷ x) n h = ⊎_elim escape other (cases_Bool (eqb b 92))
  where
    escape : eqb b 92 ≡ true → IsPartAt (b ∷ x) n
    escape t = subst (λ a. IsPartAt (a ∷ x) n) (sym (eqb-true b 92 t))
        (found_regex_escape x n (sym (ap (λ t. cond t (regex_escape x) (cond (eqb b 47 || eqb b 10) None (Some 1))) t) ∙ h))

    plain : (t : Bool) → (eqb b 47 || eqb b 10) ≡ t → eqb b 92 ≡ false → cond t None (Some 1) ≡ Some n → IsPartAt (b ∷ x) n
    plain true s t h = cc
    plain false s t h = let e : 1 ≡ n = cc in subst (λ k. IsPartAt (b ∷ x) k) e (
      IsRegexPart.plain (grind (arith, s, t)) refl,
      omega arith,
      omega arith,
    )

    other : eqb b 92 ≡ false → IsPartAt (b ∷ x) n
    other t = plain (eqb b 47 || eqb b 10) refl t (sym (ap (λ t. cond t (regex_escape x) (cond (eqb b 47 || eqb b 10) None (Some 1))) t)
        ∙ h)

-- what is at a place begins what is left from there
byte_at : (x : List ℕ) (at b : ℕ) (rest : List ℕ) → drop at x ≡ b ∷ rest → HasByte x at b
byte_at x at b rest e = record {
  within = omega (arith, ap length e, length-drop at x);
  is = let same : at ≡ at + 0 = omega arith in ap (λ n. get_or x n 0) same ∙ sym (get_or-drop at x 0 0) ∙ ap (λ l. get_or l 0 0) e;
}

-- a body goes on with the part after it
pub string_step : (x text : List ℕ) (at b n : ℕ) → at ≤ length x → IsStringBody (take at x) text → string_part (drop at x) ≡ Some (b, n)
    → (at + n ≤ length x) × IsStringBody (take (at + n) x) (text ++ b ∷ [])
string_step x text at b n le body part =
    let f = string_found (drop at x) b n part in
    (omega (arith, f.2, length-drop at x, le), subst (λ l. IsStringBody l (text ++ b ∷ [])) (sym (take-add at n x)) (string_more body f.0))

-- the same of regular expressions
pub regex_step : (x : List ℕ) (at n : ℕ) → at ≤ length x → IsRegexBody (take at x) → regex_part (drop at x) ≡ Some n
    → (at + n ≤ length x) × IsRegexBody (take (at + n) x)
regex_step x at n le body part =
    let f = regex_found (drop at x) n part in
    (omega (arith, f.2, length-drop at x, le), subst (λ l. IsRegexBody l) (sym (take-add at n x)) (regex_more body f.0))

-- where neither a part nor a quote comes after a body, no string ends
pub string_open : (x text : List ℕ) (at : ℕ) → IsStringBody (take at x) text → string_part (drop at x) ≡ None → ¬ HasByte x at 34
    → (body other rest : List ℕ) → IsStringBody body other → x ≢ body ++ 34 ∷ rest
string_open x text at front part no_quote body other rest stands e =
    no_quote (byte_at x at 34 rest (same_string (drop at x) rest front part stands (take-append-drop at x ∙ e)).2)

-- where neither a part nor a slash comes after a body, no regular expression ends
pub regex_open : (x : List ℕ) (at : ℕ) → IsRegexBody (take at x) → regex_part (drop at x) ≡ None → ¬ HasByte x at 47
    → (body rest : List ℕ) → IsRegexBody body → x ≢ body ++ 47 ∷ rest
regex_open x at front part no_slash body rest stands e =
    no_slash (byte_at x at 47 rest (same_regex (drop at x) rest front part stands (take-append-drop at x ∙ e)).1)
