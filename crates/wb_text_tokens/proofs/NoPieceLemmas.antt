-- No layout begins where a token does.
use Rattle.std.proofs.Common.{◌≡◌, ◌≢◌, ℕ, ◌+◌, ◌-◌, ◌<◌, ◌≤◌, List, [], ◌∷◌, ◌++◌, true, false, ◌||◌, not, eqb, length, get_or, take, drop}
use Rattle.std.proofs.Common.{refl, sym, ap, ◌∙◌, subst, arith, length-take, length-append, ⊎_elim}
use Rattle.std.proofs.lemmas.Bool.{eqb-true}
use Rattle.std.proofs.lemmas.List.{get_or-take, get_or-drop}
use Rattle.std.specs.Prelude.{slice_range}
use Rattle.wb_lemmas.proofs.Booleans.{or_cases, not_true}
use Rattle.wb_text_tokens.specs.Inner.Longest.{first_class}
use Rattle.wb_text_tokens.specs.Skipping.{is_blank, IsLayoutPiece, blank, comment}
use Rattle.wb_text_tokens.specs.Spelling.{IsRegexPart, IsRegexBody, Spells}
use Rattle.wb_text_tokens.specs.Words.{punctuation_text}
use Rattle.wb_text_tokens.specs.contracts.punctuation.Punctuation as marks
use Rattle.wb_text_tokens.specs.declared.token.Dialect.{Dialect}
use Rattle.wb_text_tokens.specs.declared.token.Token.{Token}
use Rattle.wb_text_tokens.specs.declared.token_class.TokenClass.TheVariants.{Mark}
use Rattle.wb_text_tokens.proofs.Enumerations.{each_value}
use Rattle.wb_text_tokens.proofs.FirstByteLemmas.{spelled_some, spelled_beginning, regex_is, punctuation_is}

-- a byte of a piece of a text
pub byte_of_piece : (text : List ℕ) (at end k : ℕ) → k < end - at → get_or (take (end - at) (drop at text)) k 0 ≡ get_or text (at + k) 0
byte_of_piece text at end k lt = get_or-take (end - at) (drop at text) k 0 lt ∙ get_or-drop at text k 0

-- no mark begins with a blank
blank_class : (b : ℕ) → is_blank b ≡ true → first_class b ≡ Mark
blank_class b h =
    ⊎_elim (λ h1. ⊎_elim (λ h2. ⊎_elim
    (λ i. ap first_class (eqb-true b 32 i)) (λ i. ap first_class (eqb-true b 9 i)) (or_cases (eqb b 32) (eqb b 9) h2))
    (λ i. ap first_class (eqb-true b 10 i)) (or_cases (eqb b 32 || eqb b 9) (eqb b 10) h1))
    (λ i. ap first_class (eqb-true b 13 i)) (or_cases (eqb b 32 || eqb b 9 || eqb b 10) (eqb b 13) h)

-- no token begins with a blank
no_blank : (dialect : Dialect) (token : Token) (x : List ℕ) → Spells dialect token x → is_blank (get_or x 0 0) ≡ true → ⊥
no_blank dialect token x s h =
    let mark = punctuation_is dialect token x s (sym (spelled_beginning dialect token x s) ∙ blank_class (get_or x 0 0) h) in
    let clear = not_true (is_blank (get_or (punctuation_text mark.0) 0 0))
    (each_value marks.enum (λ m. not (is_blank (get_or (punctuation_text m) 0 0))) refl mark.0) in
    let e = sym h ∙ (ap (λ y. is_blank (get_or y 0 0)) mark.2 ∙ clear) in
    absurd (cc)

-- the body of a regular expression doesn't begin with a slash
pub no_slash : (d : ℕ) (x : List ℕ) → IsRegexBody (d ∷ x) → d ≡ 47 → ⊥
no_slash d x (IsRegexBody.none e) q = absurd (cc)
no_slash d x (IsRegexBody.next {part = part} {x = y} (IsRegexPart.plain {b = b} h f) r e) q =
    let w : d ∷ x ≡ b ∷ y = e ∙ ap (λ l. l ++ y) f in
    let same : d ≡ b = cc in
    let k : (eqb 47 47 || eqb 47 92 || eqb 47 10) ≡ false = subst (λ c. (eqb c 47 || eqb c 92 || eqb c 10) ≡ false) (sym same ∙ q) h in
    absurd (cc)
no_slash d x (IsRegexBody.next {part = part} {x = y} (IsRegexPart.escaped {b = b} h f) r e) q =
    let w : d ∷ x ≡ 92 ∷ b ∷ y = e ∙ ap (λ l. l ++ y) f in
    let same : d ≡ 92 = cc in
    omega (arith, same, q)

-- a regular expression doesn't begin with two slashes
regex_no_slashes : (body x : List ℕ) → x ≡ 47 ∷ (body ++ 47 ∷ []) → body ≢ [] → IsRegexBody body → get_or x 1 0 ≡ 47 → ⊥
regex_no_slashes [] x e some r second = some refl
regex_no_slashes (d ∷ body) x e some r second = no_slash d body r (sym (ap (λ l. get_or l 1 0) e) ∙ second)

-- no token begins with two slashes
no_slashes : (dialect : Dialect) (token : Token) (x : List ℕ) → Spells dialect token x → get_or x 0 0 ≡ 47 → get_or x 1 0 ≡ 47 → ⊥
no_slashes dialect token x s first second =
    let r = regex_is dialect token x s (sym (spelled_beginning dialect token x s) ∙ ap first_class first) in
    regex_no_slashes r.0 x r.2 r.3 r.4 second

-- a token that begins with a slash has further bytes
slash_more : (dialect : Dialect) (token : Token) (x : List ℕ) → Spells dialect token x → get_or x 0 0 ≡ 47 → 1 < length x
slash_more dialect token x s first =
    let r = regex_is dialect token x s (sym (spelled_beginning dialect token x s) ∙ ap first_class first) in
    omega (arith, ap length r.2, length-append r.0 (47 ∷ []))

-- where a token is, no layout begins
pub no_piece : (dialect : Dialect) (text : List ℕ) (token : Token) (at end : ℕ) → end ≤ length text → Spells dialect token (slice_range text at end)
    → (behind : ℕ) → ¬ IsLayoutPiece dialect text at behind
no_piece dialect text token at end within s behind (blank here is after) =
    let x = take (end - at) (drop at text) in
    let some : 0 < end - at = omega (arith, spelled_some dialect token x s, length-take (end - at) (drop at text)) in
    no_blank dialect token x s (ap is_blank (byte_of_piece text at end 0 some ∙ ap (λ i. get_or text i 0) (omega arith)) ∙ is)
no_piece dialect text token at end within s behind (comment l c) =
    let x = take (end - at) (drop at text) in
    let long : length x ≤ end - at = omega (arith, length-take (end - at) (drop at text)) in
    let some : 0 < end - at = omega (arith, spelled_some dialect token x s, long) in
    let first : get_or x 0 0 ≡ 47 = byte_of_piece text at end 0 some ∙ (ap (λ i. get_or text i 0) (omega arith) ∙ c.first.is) in
    let more : 1 < end - at = omega (arith, slash_more dialect token x s first, long) in
    no_slashes dialect token x s first (byte_of_piece text at end 1 more ∙ c.second.is)
