-- Texts whose bytes stand for themselves in a string.
use Rattle.std.proofs.Common.{◌≡◌, ◌<◌, ◌≤◌, ◌+◌, ℕ, List, [], ◌∷◌, ◌++◌, length, get_or, refl, sym, ◌∙◌, ap, subst, inl, inr, arith, append_assoc}
use Rattle.std.specs.List.{flat_map}
use Rattle.std.proofs.lemmas.Bool.{cases_lt, le-leb, ne_eqb}
use Rattle.std.proofs.lemmas.List.{get_or_default}
use Rattle.std.proofs.lemmas.List.Elements.{All-head, All-tail}
use Rattle.wb_text_tokens.specs.Printing.{printed_byte, printed_text}
use Rattle.wb_terms.specs.Inner.Plain.{ArePlain, IsPlain}

-- the first i bytes stand for themselves
abbrev pub PlainBelow : List ℕ → ℕ → Type 0
PlainBelow text i = (k : ℕ) → k < i → IsPlain (get_or text k 0)

pub plain_more : (text : List ℕ) (i : ℕ) → IsPlain (get_or text i 0) → PlainBelow text i → PlainBelow text (i + 1)
plain_more text i here before k lt = elim (cases_lt k i) [
  | inl early ↦ before k early
  | inr late ↦ (let e : i ≡ k = omega arith in subst (λ z. IsPlain (get_or text z 0)) e here)
]

pub plain_all : (text : List ℕ) (i : ℕ) → length text ≤ i → PlainBelow text i → ArePlain text
plain_all text i le before k d lt = subst IsPlain (get_or_default text k 0 d lt) (before k (omega arith))

plain_byte : (b : ℕ) → IsPlain b → printed_byte b ≡ b ∷ []
plain_byte b is = rw (
  ne_eqb b 34 is.no_quote,
  ne_eqb b 92 is.no_backslash,
  ne_eqb b 10 (let from = is.from in omega arith),
  le-leb 32 b is.from,
  le-leb b 126 is.to,
) refl

plain_bytes : (text : List ℕ) → ArePlain text → flat_map printed_byte text ≡ text
plain_bytes [] are = refl
plain_bytes (b ∷ text) are =
    ap (λ l. l ++ flat_map printed_byte text) (plain_byte b (All-head IsPlain b text are))
    ∙ ap (λ l. b ∷ l) (plain_bytes text (All-tail IsPlain b text are))

-- between quotes they are their string
pub plain_text : (text out : List ℕ) → ArePlain text → ((out ++ 34 ∷ []) ++ text) ++ 34 ∷ [] ≡ out ++ printed_text text
plain_text text out are =
    let a : ((out ++ 34 ∷ []) ++ text) ++ 34 ∷ [] ≡ out ++ (34 ∷ (text ++ 34 ∷ [])) = simp append_assoc in
    a ∙ ap (λ l. out ++ (34 ∷ (l ++ 34 ∷ []))) (sym (plain_bytes text are))
