-- The mark that is found at the beginning is the longest one there.
use Rattle.std.proofs.Common.{◌≡◌, ℕ, ◌≤◌, List, [], ◌∷◌, ◌++◌, Option, Some, None, Bool, true, false, ◌&&◌, cond, eqb, length, get_or}
use Rattle.std.proofs.Common.{take, drop, refl, sym, ap, ◌∙◌, subst, ⊎_elim, arith, length-take, length-append}
use Rattle.std.proofs.Math.Seq.{take-append_seam}
use Rattle.std.proofs.lemmas.Bool.{cases_Bool, eqb-true}
use Rattle.std.proofs.lemmas.List.{take-append-drop}
use Rattle.wb_text_tokens.specs.Inner.Longest.{first_class, IsLongest}
use Rattle.wb_text_tokens.specs.Inner.Marks.{single_mark, colon_at, mark_at}
use Rattle.wb_text_tokens.specs.Words.{punctuation_text}
use Rattle.wb_text_tokens.specs.declared.token_class.TokenClass.TheVariants.{Mark}
use Rattle.wb_text_tokens.specs.declared.punctuation.Punctuation.{Punctuation}
use Rattle.wb_text_tokens.specs.declared.punctuation.Punctuation.TheVariants as p
use Rattle.wb_text_tokens.specs.declared.token.Dialect.{Dialect}
use Rattle.wb_text_tokens.specs.declared.token.Token.{Token}
use Rattle.wb_text_tokens.specs.declared.token.Token.TheVariants as t
use Rattle.wb_text_tokens.proofs.FirstByteLemmas.{punctuation_is}
use Rattle.wb_text_tokens.proofs.LongestLemmas.{prefix_some, prefix_kind}

-- a mark's bytes are at the beginning of the text
abbrev BeginsWith : List ℕ → Punctuation → Type 0
BeginsWith text mark = (rest : List ℕ) × (text ≡ punctuation_text mark ++ rest)

-- the mark is found by its byte, or among the others
either : (b k : ℕ) (found mark : Punctuation) (others : Option Punctuation) (x : List ℕ)
    → punctuation_text mark ≡ k ∷ [] → cond (eqb b k) (Some mark) others ≡ Some found
    → (others ≡ Some found → BeginsWith (b ∷ x) found) → BeginsWith (b ∷ x) found
either b k found mark others x spelled h other = ⊎_elim
    (λ yes. let e : Some mark ≡ Some found = sym (ap (λ t. cond t (Some mark) others) yes) ∙ h in
    let same : mark ≡ found = cc in
    (x, ap (λ a. a ∷ x) (eqb-true b k yes) ∙ ap (λ l. l ++ x) (sym spelled) ∙ ap (λ m. punctuation_text m ++ x) same))
    (λ no_. other (sym (ap (λ t. cond t (Some mark) others) no_) ∙ h))
    (cases_Bool (eqb b k))

-- a mark of one byte is found by that byte
single_found : (b : ℕ) (x : List ℕ) (found : Punctuation) → single_mark b ≡ Some found → BeginsWith (b ∷ x) found
single_found b x found h0 =
    either b 59 found p.Semicolon _ x refl h0 (λ h1.
    either b 123 found p.OpenBrace _ x refl h1 (λ h2.
    either b 125 found p.CloseBrace _ x refl h2 (λ h3.
    either b 61 found p.Equals _ x refl h3 (λ h4.
    either b 46 found p.Dot _ x refl h4 (λ h5.
    either b 44 found p.Comma _ x refl h5 (λ h6.
    either b 40 found p.OpenParenthesis _ x refl h6 (λ h7.
    either b 41 found p.CloseParenthesis _ x refl h7 (λ h8.
    either b 64 found p.At _ x refl h8 (λ h9.
    absurd (cc))))))))))

-- a test of two bytes
both : (b c : ℕ) → (eqb b 58 && eqb c 61) ≡ true → b ∷ c ∷ [] ≡ 58 ∷ 61 ∷ []
both b c h = let first : b ≡ 58 = grind (arith, h) in let second : c ≡ 61 = grind (arith, h) in cc

-- a mark that begins with a colon
colon_found : (x : List ℕ) (found : Punctuation) → colon_at x ≡ found → BeginsWith (58 ∷ x) found
colon_found [] found h = ([], ap (λ m. punctuation_text m ++ []) h)
colon_found (b ∷ []) found h = (b ∷ [], ap (λ m. punctuation_text m ++ b ∷ []) h)
colon_found (b ∷ c ∷ x) found h = at (eqb b 58 && eqb c 61) refl h
  where
    at : (t : Bool) → (eqb b 58 && eqb c 61) ≡ t → cond t p.Becomes p.Colon ≡ found → BeginsWith (58 ∷ b ∷ c ∷ x) found
    at true h e = (x, ap (λ l. 58 ∷ (l ++ x)) (both b c h) ∙ ap (λ m. punctuation_text m ++ x) e)
    at false h e = (b ∷ c ∷ x, ap (λ m. punctuation_text m ++ b ∷ c ∷ x) e)

-- what is found is at the beginning
mark_found : (text : List ℕ) (found : Punctuation) → mark_at text ≡ Some found → BeginsWith text found
mark_found [] found h = cc
mark_found (b ∷ x) found h = ⊎_elim colon other (cases_Bool (eqb b 58))
  where
    colon : eqb b 58 ≡ true → BeginsWith (b ∷ x) found
    colon t =
        let e : Some (colon_at x) ≡ Some found = sym (ap (λ s. cond s (Some (colon_at x)) (single_mark b)) t) ∙ h in
        subst (λ a. BeginsWith (a ∷ x) found) (sym (eqb-true b 58 t)) (colon_found x found (cc))

    other : eqb b 58 ≡ false → BeginsWith (b ∷ x) found
    other t = single_found b x found (sym (ap (λ s. cond s (Some (colon_at x)) (single_mark b)) t) ∙ h)

-- where a mark is at the beginning, one as long or longer is found
record Reaches (text : List ℕ) (mark : Punctuation) : Type 0 where
  found : Punctuation
  finds : mark_at text ≡ Some found
  reaches : length (punctuation_text mark) ≤ length (punctuation_text found)

-- where a colon stands, `:` or `::=` is found
colon_reaches : (r : List ℕ) → Reaches (58 ∷ r) p.Colon
colon_reaches r = record { found = colon_at r; finds = refl; reaches = longer r }
  where
    one : (t : Bool) → 1 ≤ length (punctuation_text (cond t p.Becomes p.Colon))
    one true = omega arith
    one false = omega arith

    longer : (r : List ℕ) → 1 ≤ length (punctuation_text (colon_at r))
    longer [] = omega arith
    longer (b ∷ []) = omega arith
    longer (b ∷ c ∷ x) = one (eqb b 58 && eqb c 61)

-- where a mark stands, it or a longer one is found
reaches : (mark : Punctuation) (r : List ℕ) → Reaches (punctuation_text mark ++ r) mark
reaches p.Semicolon r = record { found = p.Semicolon; finds = refl; reaches = omega arith }
reaches p.Colon r = colon_reaches r
reaches p.Becomes r = record { found = p.Becomes; finds = refl; reaches = omega arith }
reaches p.OpenBrace r = record { found = p.OpenBrace; finds = refl; reaches = omega arith }
reaches p.CloseBrace r = record { found = p.CloseBrace; finds = refl; reaches = omega arith }
reaches p.Equals r = record { found = p.Equals; finds = refl; reaches = omega arith }
reaches p.Dot r = record { found = p.Dot; finds = refl; reaches = omega arith }
reaches p.Comma r = record { found = p.Comma; finds = refl; reaches = omega arith }
reaches p.OpenParenthesis r = record { found = p.OpenParenthesis; finds = refl; reaches = omega arith }
reaches p.CloseParenthesis r = record { found = p.CloseParenthesis; finds = refl; reaches = omega arith }
reaches p.At r = record { found = p.At; finds = refl; reaches = omega arith }

-- the same of the first bytes of a text
reaches_at : (text : List ℕ) (mark : Punctuation) (count : ℕ) → take count text ≡ punctuation_text mark → Reaches text mark
reaches_at text mark count h =
    subst (λ l. Reaches l mark) (ap (λ l. l ++ drop count text) (sym h) ∙ take-append-drop count text) (reaches mark (drop count text))

-- the mark that is found is the longest token
pub mark_longest : (dialect : Dialect) (text : List ℕ) (found : Punctuation) → first_class (get_or text 0 0) ≡ Mark → mark_at text ≡ Some found
    → IsLongest dialect text (t.Punctuation found) (length (punctuation_text found))
mark_longest dialect text found begins h =
    let f = mark_found text found h in
    let s : take (length (punctuation_text found)) text ≡ punctuation_text found =
    ap (take (length (punctuation_text found))) f.1 ∙ take-append_seam (punctuation_text found) f.0 in
    record {
      some = prefix_some dialect text (t.Punctuation found) _ s;
      within = omega (arith, ap length f.1, length-append (punctuation_text found) f.0);
      spelled = s;
      in_range = tt;
      longest = λ other more lt le o.
          let i = punctuation_is dialect other (take more text) o (sym (prefix_kind dialect text other more o) ∙ begins) in
          let r = reaches_at text i.0 more i.2 in
          let e : Some r.found ≡ Some found = sym r.finds ∙ h in
          let same : r.found ≡ found = cc in
          omega (arith, lt, le, r.reaches, ap (λ m. length (punctuation_text m)) same, ap length i.2, length-take more text);
    }

-- where none is found, no token begins
pub mark_none : (dialect : Dialect) (text : List ℕ) → first_class (get_or text 0 0) ≡ Mark → mark_at text ≡ None
    → (token : Token) (count : ℕ) → IsLongest dialect text token count → ⊥
mark_none dialect text begins h token count l =
    let i = punctuation_is dialect token (take count text) l.spelled (sym (prefix_kind dialect text token count l.spelled) ∙ begins) in
    let r = reaches_at text i.0 count i.2 in
    let e : Some r.found ≡ None = sym r.finds ∙ h in cc
