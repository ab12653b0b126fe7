-- Bytes that two sets have in common, by the bits of their words.
use Rattle.std.proofs.Common.{◌≡◌, ℕ, zero, suc, ◌+◌, ◌/◌, ◌%◌, ◌<◌, ◌≤◌, List, [], ◌∷◌, refl, sym, ◌∙◌, ap, arith, length, get_or, subst, take, inl, inr}
use Rattle.std.specs.Prelude.{bit_or, bit_and, max, min}
use Rattle.std.specs.Int.{bit_at}
use Rattle.std.proofs.lemmas.List.{take_all}
use Rattle.std.proofs.lemmas.Nat.Bits.{bit_at_or, bit_at_and, bit_at-lt}
use Rattle.wb_regex.specs.Matches.{HoldsByte}
use Rattle.wb_automata_positions.specs.declared.places.Place.{Place}
use Rattle.wb_automata_positions.specs.Places.{ReadsTo}
use Rattle.wb_automata_positions.proofs.MachineLemmas.{taken}
use Rattle.wb_automata.specs.Inner.Pairs.{HasCommonBytes, left_of, place_at, right_of}

-- a word with the bits that two others have in common
abbrev pub with_both : List ℕ → List ℕ → List ℕ → ℕ → ℕ
with_both words lefts rights k = bit_or (get_or words k 0) (bit_and (get_or lefts k 0) (get_or rights k 0))

abbrev pub all_both : List ℕ → List ℕ → List ℕ → List ℕ
all_both words lefts rights = with_both words lefts rights 0 ∷ with_both words lefts rights 1 ∷ with_both words lefts rights 2
    ∷ with_both words lefts rights 3 ∷ []

both_at : (words lefts rights : List ℕ) (k : ℕ) → k < 4 → get_or (all_both words lefts rights) k 0 ≡ with_both words lefts rights k
both_at words lefts rights zero lt = refl
both_at words lefts rights (suc zero) lt = refl
both_at words lefts rights (suc (suc zero)) lt = refl
both_at words lefts rights (suc (suc (suc zero))) lt = refl
both_at words lefts rights (suc (suc (suc (suc k)))) lt = absurd (omega arith)

bits : (words lefts rights : List ℕ) (b : ℕ) → b < 256 → bit_at (get_or (all_both words lefts rights) (b / 64) 0) (b % 64) ≡
    max (bit_at (get_or words (b / 64) 0) (b % 64)) (min (bit_at (get_or lefts (b / 64) 0) (b % 64)) (bit_at (get_or rights (b / 64) 0) (b % 64)))
bits words lefts rights b lt = ap (λ z. bit_at z (b % 64)) (both_at words lefts rights (b / 64) (omega arith))
    ∙ bit_at_or (get_or words (b / 64) 0) (bit_and (get_or lefts (b / 64) 0) (get_or rights (b / 64) 0)) (b % 64)
    ∙ ap (λ z. max (bit_at (get_or words (b / 64) 0) (b % 64)) z) (bit_at_and (get_or lefts (b / 64) 0) (get_or rights (b / 64) 0) (b % 64))

at_most_one : (a b : ℕ) → a ≡ 1 → b < 2 → max a b ≡ 1
at_most_one a b e lt = grind arith

one_at_most : (a b c : ℕ) → a < 2 → b ≡ 1 → c ≡ 1 → max a (min b c) ≡ 1
one_at_most a b c lt e f = grind arith

min_small : (a b : ℕ) → a < 2 → min a b < 2
min_small a b lt = grind arith

pub kept_both : (words lefts rights : List ℕ) (b : ℕ) → HoldsByte words b → HoldsByte (all_both words lefts rights) b
kept_both words lefts rights b (lt, h) = (lt, bits words lefts rights b lt ∙ at_most_one _ _ h (min_small _ _ (bit_at-lt _ _)))

pub has_both : (words lefts rights : List ℕ) (b : ℕ) → HoldsByte lefts b → HoldsByte rights b → HoldsByte (all_both words lefts rights) b
has_both words lefts rights b (lt, h) (_, k) = (lt, bits words lefts rights b lt ∙ one_at_most _ _ _ (bit_at-lt _ _) h k)

-- the bytes of one pair more
pub common_more : (places : List Place) (pairs words new : List ℕ) (i : ℕ) → i < length pairs →
    ((b : ℕ) → HoldsByte words b → HoldsByte new b) →
    ((b q r : ℕ) → ReadsTo (place_at places (left_of places (get_or pairs i 0))) b q
    → ReadsTo (place_at places (right_of places (get_or pairs i 0))) b r → HoldsByte new b)
    → HasCommonBytes places (take i pairs) words → HasCommonBytes places (take (i + 1) pairs) new
common_more places pairs words new i lt kept both h b c d has a = elim ((taken pairs i c lt).0 has) [
  | inl old ↦ kept b (h b c d old a)
  | inr e ↦
      let f = sym e in
      both b a.left a.right (subst (λ z. ReadsTo (place_at places (left_of places z)) b a.left) f a.left_reads)
      (subst (λ z. ReadsTo (place_at places (right_of places z)) b a.right) f a.right_reads)
]

pub common_all : (places : List Place) (pairs words : List ℕ) (i : ℕ) → length pairs ≤ i → HasCommonBytes places (take i pairs) words
    → HasCommonBytes places pairs words
common_all places pairs words i le h = subst (λ z. HasCommonBytes places z words) (take_all i pairs le) h
