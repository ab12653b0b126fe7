-- A spelling is that of one token, and in a text one thing comes next.
use Rattle.std.proofs.Common.{◌≡◌, ℕ, ◌+◌, ◌-◌, ◌≤◌, List, [], ◌∷◌, ◌++◌, length, take, drop, refl, sym, ap, ◌∙◌, subst, arith, ⊎_elim, pos}
use Rattle.std.proofs.Common.{neg_ℤ, ℤ, length-drop}
use Rattle.std.proofs.lemmas.Bool.{cases_order}
use Rattle.std.proofs.lemmas.List.{append_cancel_right}
use Rattle.std.specs.Prelude.{slice_range}
use Rattle.std.specs.Str.Parse.{digits_value, IsNumeral}
use Rattle.wb_text_tokens.specs.Inner.Longest.{IsLongest}
use Rattle.wb_text_tokens.specs.NextToken.{IsTokenAt, IsNextIn}
use Rattle.wb_text_tokens.specs.Spelling.{IsInteger, IsString, Spells}
use Rattle.wb_text_tokens.specs.Words.{IsSpelledIn, IsReservedIn}
use Rattle.wb_text_tokens.specs.declared.token_class.TokenClass.TheVariants.{Letter}
use Rattle.wb_text_tokens.specs.declared.token.Dialect.{Dialect}
use Rattle.wb_text_predictive.specs.declared.table.Next.{Next}
use Rattle.wb_text_predictive.specs.declared.table.Next.TheVariants as n
use Rattle.wb_text_tokens.specs.declared.token.Token.{Token}
use Rattle.wb_text_tokens.specs.declared.token.Token.TheVariants as t
use Rattle.wb_text_tokens.specs.declared.word.Word.{Word}
use Rattle.wb_text_tokens.proofs.FirstByteLemmas.{class_of, spelled_beginning, number_is, string_is, regex_is, punctuation_is}
use Rattle.wb_text_tokens.proofs.PartLemmas.{same_string}
use Rattle.wb_text_tokens.proofs.SkippingLemmas.{skips_only}
use Rattle.wb_text_tokens.proofs.WordLemmas.{same_word, same_mark}

-- an integer has one value
same_integer : (x : List ℕ) (a b : ℤ) → IsInteger x a → IsInteger x b → a ≡ b
same_integer x a b (IsInteger.positive n e) (IsInteger.positive m f) = e ∙ sym f
same_integer x a b (IsInteger.positive n e) (IsInteger.negative m f g) = let h = subst (λ l. IsNumeral 10 l) f n in
    absurd (omega (arith, h.1.0))
same_integer x a b (IsInteger.negative n e f) (IsInteger.positive m g) = let h = subst (λ l. IsNumeral 10 l) e m in
    absurd (omega (arith, h.1.0))
same_integer x a b (IsInteger.negative {y} n e f) (IsInteger.negative {y = z} m g h) =
    let same : y ≡ z = cc in f ∙ ap (λ l. neg_ℤ (pos (digits_value 10 l))) same ∙ sym h

-- a string has one text
same_text : (x a b : List ℕ) → IsString x a → IsString x b → a ≡ b
same_text x a b s r =
    let e : 34 ∷ (s.body ++ 34 ∷ []) ≡ 34 ∷ (r.body ++ 34 ∷ []) = sym s.quoted ∙ r.quoted in
    let f : s.body ++ 34 ∷ [] ≡ r.body ++ 34 ∷ [] = cc in
    (same_string (34 ∷ []) [] s.stands refl r.stands f).1

-- what is a name is no other token
only_name : (dialect : Dialect) (x text : List ℕ) (b : Token) → x ≡ text → ¬ IsReservedIn dialect x → Spells dialect b x → Letter ≡ class_of b → t.Name text ≡ b
only_name dialect x text (t.Name other) e free s k = ap t.Name (sym e ∙ s.0)
only_name dialect x text (t.Word word) e free s k = absurd (free (word, s))
only_name dialect x text (t.Int value) e free s k = cc
only_name dialect x text (t.Text other) e free s k = cc
only_name dialect x text (t.Regex body) e free s k = cc
only_name dialect x text (t.Punctuation mark) e free s k = cc

-- what is a reserved word is no other token
only_word : (dialect : Dialect) (x : List ℕ) (word : Word) (b : Token) → IsSpelledIn dialect x word → Spells dialect b x → Letter ≡ class_of b → t.Word word ≡ b
only_word dialect x word (t.Name other) e s k = absurd (s.2 (word, e))
only_word dialect x word (t.Word other) e s k = ap t.Word (same_word word other (sym e.is ∙ s.is))
only_word dialect x word (t.Int value) e s k = cc
only_word dialect x word (t.Text other) e s k = cc
only_word dialect x word (t.Regex body) e s k = cc
only_word dialect x word (t.Punctuation mark) e s k = cc

-- a spelling is that of one token
pub same_token : (dialect : Dialect) (x : List ℕ) (a b : Token) → Spells dialect a x → Spells dialect b x → a ≡ b
same_token dialect x a b s r = by_kind a s (sym (spelled_beginning dialect a x s) ∙ spelled_beginning dialect b x r)
  where
    by_kind : (a : Token) → Spells dialect a x → class_of a ≡ class_of b → a ≡ b
    by_kind (t.Name text) s k = only_name dialect x text b s.0 s.2 r k
    by_kind (t.Word word) s k = only_word dialect x word b s r k
    by_kind (t.Int value) s k = let i = number_is dialect b x r (sym k) in ap t.Int (same_integer x value i.0 s i.2) ∙ sym i.1
    by_kind (t.Text text) s k = let i = string_is dialect b x r (sym k) in ap t.Text (same_text x text i.0 s i.2) ∙ sym i.1
    by_kind (t.Regex body) s k =
        let i = regex_is dialect b x r (sym k) in
        let e : 47 ∷ (body ++ 47 ∷ []) ≡ 47 ∷ (i.0 ++ 47 ∷ []) = sym s.0 ∙ i.2 in
        let f : body ++ 47 ∷ [] ≡ i.0 ++ 47 ∷ [] = cc in
        ap t.Regex (append_cancel_right body i.0 (47 ∷ []) f) ∙ sym i.1
    by_kind (t.Punctuation mark) s k = let i = punctuation_is dialect b x r (sym k) in ap t.Punctuation (same_mark mark i.0 (sym s ∙ i.2)) ∙ sym i.1

-- one token is at a place, and ends at one place
pub token_only : (dialect : Dialect) (text : List ℕ) (a b : Token) (at i j : ℕ) → IsTokenAt dialect text a at i → IsTokenAt dialect text b at j → (a ≡ b) × (i ≡ j)
token_only dialect text a b at i j x y =
    let same : i ≡ j = ⊎_elim (λ e. e) (λ o. ⊎_elim
    (λ lt. absurd (x.longest b j lt y.within y.spelled))
    (λ lt. absurd (y.longest a i lt x.within x.spelled)) o) (cases_order i j) in
    (same_token dialect (slice_range text at i) a b x.spelled (subst (λ k. Spells dialect b (slice_range text at k)) (sym same) y.spelled), same)

-- one thing comes next
pub next_only : (dialect : Dialect) (text : List ℕ) (from : ℕ) (a b : Next Token) → IsNextIn dialect text from a
    → IsNextIn dialect text from b → a ≡ b
next_only dialect text from (n.Found x) (n.Found y) h k =
    let places : x.at ≡ y.at = skips_only h.skipped k.skipped in
    let same = token_only dialect text x.token y.token x.at x.end y.end h.stands
    (subst (λ p. IsTokenAt dialect text y.token p y.end) (sym places) k.stands) in
    let tokens = same.0 in let ends = same.1 in
    ap n.Found (ap (λ t. record { token = t; at = x.at; end = x.end }) tokens
    ∙ (ap (λ p. record { token = y.token; at = p; end = x.end }) places ∙ ap (λ e. record { token = y.token; at = y.at; end = e }) ends))
next_only dialect text from (n.Found x) (n.End at') h k =
    let places = skips_only h.skipped k.skipped in absurd (omega (arith, places, k.last, h.stands.ordered, h.stands.within))
next_only dialect text from (n.Found x) (n.NoToken at') h k =
    let places = skips_only h.skipped k.skipped in
    absurd (k.none_stands x.token x.end (subst (λ p. IsTokenAt dialect text x.token p x.end) places h.stands))
next_only dialect text from (n.End at) (n.Found y) h k =
    let places = skips_only h.skipped k.skipped in absurd (omega (arith, places, h.last, k.stands.ordered, k.stands.within))
next_only dialect text from (n.End at) (n.End at') h k = ap n.End (skips_only h.skipped k.skipped)
next_only dialect text from (n.End at) (n.NoToken at') h k =
    let places = skips_only h.skipped k.skipped in absurd (omega (arith, places, h.last, k.within))
next_only dialect text from (n.NoToken at) (n.Found y) h k =
    let places = skips_only h.skipped k.skipped in
    absurd (h.none_stands y.token y.end (subst (λ p. IsTokenAt dialect text y.token p y.end) (sym places) k.stands))
next_only dialect text from (n.NoToken at) (n.End at') h k =
    let places = skips_only h.skipped k.skipped in absurd (omega (arith, places, k.last, h.within))
next_only dialect text from (n.NoToken at) (n.NoToken at') h k = ap n.NoToken (skips_only h.skipped k.skipped)

-- the longest token of what stands from a place on is there
pub stands_at : (dialect : Dialect) (text : List ℕ) (at count : ℕ) (token : Token) → at ≤ length text → IsLongest dialect (drop at text) token count
    → IsTokenAt dialect text token at (at + count)
stands_at dialect text at count token le l =
    let e : (at + count) - at ≡ count = omega arith in
    record {
      ordered = omega (arith, l.some);
      within = omega (arith, l.within, length-drop at text, le);
      spelled = subst (λ k. Spells dialect token (take k (drop at text))) (sym e) l.spelled;
      in_range = l.in_range;
      longest = λ other later lt within s. l.longest other (later - at) (omega (arith, lt)) (omega (arith, within, length-drop at text)) s;
    }

-- and the other way round
pub longest_at : (dialect : Dialect) (text : List ℕ) (at behind : ℕ) (token : Token) → IsTokenAt dialect text token at behind
    → IsLongest dialect (drop at text) token (behind - at)
longest_at dialect text at behind token s = record {
  some = omega (arith, s.ordered);
  within = omega (arith, s.ordered, s.within, length-drop at text);
  spelled = s.spelled;
  in_range = s.in_range;
  longest = λ other more lt le o.
      let e : (at + more) - at ≡ more = omega arith in
      s.longest other (at + more) (omega (arith, lt, s.ordered)) (omega (arith, le, length-drop at text, s.ordered, s.within))
      (subst (λ k. Spells dialect other (take k (drop at text))) (sym e) o);
}
