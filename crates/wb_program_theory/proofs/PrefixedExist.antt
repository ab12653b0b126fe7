-- Expressions of the texts that begin with fixed bytes: there are some.
use Rattle.std.proofs.Common.{◌≡◌, ◌∙◌, ◌⊎◌, ℕ, zero, suc, ◌*◌, ◌/◌, ◌%◌, ◌^◌, ◌<◌, List, [], ◌∷◌, ◌++◌, get_or, set, refl, sym, ap}
use Rattle.std.proofs.Common.{subst, arith, inl, inr, w64, get_or-set_same, get_or-set_other}
use Rattle.std.specs.Prelude.{All, bit_or}
use Rattle.std.specs.Int.{bit_at}
use Rattle.std.proofs.lemmas.Bool.{cases_eq}
use Rattle.std.proofs.lemmas.List.Elements.{All-head, All-tail}
use Rattle.std.proofs.lemmas.Nat.Bits.{bit_at-zero, bit_at_set_same, bit_at_set_other}
use Rattle.wb_compose_texts.specs.GenerateLaws.{MatchesSome}
use Rattle.wb_regex.specs.Matches.{HoldsByte, Matches}
use Rattle.wb_regex.specs.Matches as m
use Rattle.wb_regex.specs.Prefixed.{IsPrefixed, IsPrefixedText}
use Rattle.wb_regex.specs.Tree.{Tree, Sequence, Set}

-- no byte
abbrev cleared : List ℕ
cleared = 0 ∷ 0 ∷ 0 ∷ 0 ∷ []

zeros : (k : ℕ) → get_or cleared k 0 ≡ 0
zeros zero = refl
zeros (suc zero) = refl
zeros (suc (suc zero)) = refl
zeros (suc (suc (suc zero))) = refl
zeros (suc (suc (suc (suc k)))) = refl

-- one byte
abbrev word_of : ℕ → ℕ
word_of b = bit_or (get_or cleared (b / 64) 0) (1 * 2 ^ (b % 64) % 2 ^ 64)

abbrev words_of : ℕ → List ℕ
words_of b = set cleared (b / 64) (word_of b)

its_word : (b : ℕ) → b < 256 → get_or (words_of b) (b / 64) 0 ≡ word_of b
its_word b small = get_or-set_same cleared (b / 64) (word_of b) 0 (omega (arith, small))

holds_it : (b : ℕ) → b < 256 → HoldsByte (words_of b) b
holds_it b small = (
  small,
  ap (λ x. bit_at x (b % 64)) (its_word b small) ∙ bit_at_set_same w64 (get_or cleared (b / 64) 0) (b % 64) (omega arith),
)

other_bit : (b c : ℕ) → b < 256 → (c ≡ b → ⊥) → bit_at (get_or (words_of b) (c / 64) 0) (c % 64) ≡ bit_at (get_or cleared (c / 64) 0) (c % 64)
other_bit b c small ne = elim (cases_eq (c / 64) (b / 64)) [
  | inl e ↦
      ap (λ k. bit_at (get_or (words_of b) k 0) (c % 64)) e
      ∙ ap (λ x. bit_at x (c % 64)) (its_word b small)
      ∙ bit_at_set_other w64 (get_or cleared (b / 64) 0) (b % 64) (omega arith) (c % 64) (omega arith)
      ∙ ap (λ k. bit_at (get_or cleared k 0) (c % 64)) (sym e)
  | inr apart ↦ ap (λ x. bit_at x (c % 64)) (get_or-set_other cleared (b / 64) (c / 64) (word_of b) 0 apart)
]

holds_alone : (b c : ℕ) → b < 256 → HoldsByte (words_of b) c → c ≡ b
holds_alone b c small holds = by_cases (cases_eq c b)
  where
    by_cases : (c ≡ b) ⊎ (c ≡ b → ⊥) → c ≡ b
    by_cases (inl same) = same
    by_cases (inr ne) =
        let e : 0 ≡ 1 = sym (bit_at-zero (c % 64)) ∙ ap (λ x. bit_at x (c % 64)) (sym (zeros (c / 64))) ∙ sym (other_bit b c small ne) ∙ holds.1 in
        absurd (omega (arith, e))

-- the expression after these bytes
abbrev pub after_bytes : List ℕ → Tree → Tree
after_bytes [] r = r
after_bytes (b ∷ prefix) r = Sequence (Set (words_of b)) (after_bytes prefix r)

there : (prefix : List ℕ) (r : Tree) → All (λ b. b < 256) prefix → (rest : List ℕ) → Matches r rest → Matches (after_bytes prefix r) (prefix ++ rest)
there [] r all rest matches = matches
there (b ∷ prefix) r all rest matches =
    m.both (m.byte (holds_it b (All-head (λ c. c < 256) b prefix all)) refl)
    (there prefix r (All-tail (λ c. c < 256) b prefix all) rest matches) refl

back : (prefix : List ℕ) (r : Tree) → All (λ b. b < 256) prefix → {t : Tree} {x : List ℕ} → Matches t x → t ≡ after_bytes prefix r
    → IsPrefixedText prefix r x
back [] r all {t} {x} matches is = record { rest = x; matches = subst (λ z. Matches z x) is matches; is = refl }
back (b ∷ prefix) r all (m.both {x = x} {y = y} {z = z} first rest e) is =
    by_parts (inverted first (left_is is)) (back prefix r (All-tail (λ c. c < 256) b prefix all) rest (right_is is))
  where
    left_is : {s t u v : Tree} → Sequence s t ≡ Sequence u v → s ≡ u
    left_is e = cc

    right_is : {s t u v : Tree} → Sequence s t ≡ Sequence u v → t ≡ v
    right_is e = cc

    set_is : {one other : List ℕ} → Set one ≡ Set other → one ≡ other
    set_is e = cc

    inverted : {t : Tree} {u : List ℕ} → Matches t u → t ≡ Set (words_of b) → u ≡ b ∷ []
    inverted (m.byte {b = c} holds same) e =
        same ∙ ap (λ k. k ∷ []) (holds_alone b c (All-head (λ c. c < 256) b prefix all) (subst (λ w. HoldsByte w c) (set_is e) holds))
    inverted (m.both p q f) e = absurd (cc)
    inverted (m.left p) e = absurd (cc)
    inverted (m.right p) e = absurd (cc)
    inverted (m.none f) e = absurd (cc)
    inverted (m.more p q f) e = absurd (cc)
    inverted (m.once p q f) e = absurd (cc)
    inverted (m.absent f) e = absurd (cc)
    inverted (m.present p) e = absurd (cc)

    by_parts : x ≡ b ∷ [] → IsPrefixedText prefix r y → IsPrefixedText (b ∷ prefix) r z
    by_parts same p = record { rest = p.rest; matches = p.matches; is = e ∙ ap (λ w. w ++ y) same ∙ ap (λ w. b ∷ w) p.is }
back (b ∷ prefix) r all (m.byte h f) is = absurd (cc)
back (b ∷ prefix) r all (m.left p) is = absurd (cc)
back (b ∷ prefix) r all (m.right p) is = absurd (cc)
back (b ∷ prefix) r all (m.none f) is = absurd (cc)
back (b ∷ prefix) r all (m.more p q f) is = absurd (cc)
back (b ∷ prefix) r all (m.once p q f) is = absurd (cc)
back (b ∷ prefix) r all (m.absent f) is = absurd (cc)
back (b ∷ prefix) r all (m.present p) is = absurd (cc)

pub is_prefixed : (prefix : List ℕ) (r : Tree) → All (λ b. b < 256) prefix → IsPrefixed prefix r (after_bytes prefix r)
is_prefixed prefix r all x = (
  λ (matches : Matches (after_bytes prefix r) x). back prefix r all matches refl,
  λ (p : IsPrefixedText prefix r x). subst (Matches (after_bytes prefix r)) (sym p.is) (there prefix r all p.rest p.matches),
)

pub prefixed_some : (prefix : List ℕ) (r : Tree) → All (λ b. b < 256) prefix → MatchesSome r → MatchesSome (after_bytes prefix r)
prefixed_some prefix r all (text, matches) = (prefix ++ text, there prefix r all text matches)
