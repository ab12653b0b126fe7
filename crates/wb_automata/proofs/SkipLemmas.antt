-- The bits of a word from a place on.
use Rattle.std.proofs.Common.{w64, ◌≡◌, ℕ, ◌+◌, ◌-◌, ◌*◌, ◌/◌, ◌%◌, ◌^◌, ◌≤◌, ◌<◌, Bool, true, false, List, refl, sym, ◌∙◌, ap, subst, arith, inl, inr, get_or}
use Rattle.std.specs.Prelude.{◌==◌, ◌&&◌}
use Rattle.std.specs.Int.{bit_at, trailing_zeros}
use Rattle.std.proofs.Math.Nat.{div-div-eq-div-mul, div-le_self}
use Rattle.std.proofs.lemmas.Nat.{pow-add}
use Rattle.std.proofs.lemmas.Nat.Bits.{bit_at-zero, bit_at-trailing_zeros, bit_at_above}
use Rattle.std.proofs.lemmas.Bool.{cases_lt}
use Rattle.wb_automata_positions.specs.Leaves.{has_byte}

-- the bits of a word that was shifted
shifted : (n s i : ℕ) → bit_at (n / 2 ^ s) i ≡ bit_at n (s + i)
shifted n s i = ap (λ z. z % 2) (div-div-eq-div-mul n (2 ^ s) (2 ^ i) ∙ ap (λ z. n / z) (sym (pow-add 2 s i)))

and_false : (x : Bool) → (x && false) ≡ false
and_false true = refl
and_false false = refl

-- a byte whose bit is not set isn't held
off : (words : List ℕ) (b : ℕ) → bit_at (get_or words (b / 64) 0) (b % 64) ≡ 0 → has_byte words b ≡ false
off words b e = ap (λ z. (b / 256 == 0) && (z == 1)) e ∙ and_false (b / 256 == 0)

-- a bit of the word of another byte
in_word : (words : List ℕ) (byte b : ℕ) → byte ≤ b → b - byte + byte % 64 < 64
    → bit_at (get_or words (b / 64) 0) (b % 64) ≡ bit_at (get_or words (byte / 64) 0 / 2 ^ (byte % 64)) (b - byte)
in_word words byte b le lt =
    let word : b / 64 ≡ byte / 64 = omega arith in
    let bit : b % 64 ≡ byte % 64 + (b - byte) = omega arith in
    ap (λ z. bit_at (get_or words z 0) (b % 64)) word ∙ ap (λ z. bit_at (get_or words (byte / 64) 0) z) bit
    ∙ sym (shifted (get_or words (byte / 64) 0) (byte % 64) (b - byte))

-- where no bit of the word is set from the byte's on, none is up to its end
pub skip_word : (words : List ℕ) (byte b : ℕ) → get_or words (byte / 64) 0 / 2 ^ (byte % 64) ≡ 0 → byte ≤ b → b < (byte / 64 + 1) * 64
    → has_byte words b ≡ false
skip_word words byte b none le lt = off words b (in_word words byte b le (omega arith) ∙ ap (λ z. bit_at z (b - byte)) none
    ∙ bit_at-zero (b - byte))

-- else none is before the first
pub skip_bits : (words : List ℕ) (byte b : ℕ) → get_or words (byte / 64) 0 < 2 ^ 64 → 0 < get_or words (byte / 64) 0 / 2 ^ (byte % 64)
    → byte ≤ b → b < byte + trailing_zeros w64 (get_or words (byte / 64) 0 / 2 ^ (byte % 64)) → has_byte words b ≡ false
skip_bits words byte b small some le lt =
    let word : ℕ = get_or words (byte / 64) 0 in
    let rest : ℕ = word / 2 ^ (byte % 64) in
    let first : ℕ = trailing_zeros w64 rest in
    let less : rest ≤ word = div-le_self word (2 ^ (byte % 64)) in
    let (fits, set, before) = bit_at-trailing_zeros w64 rest some (let f : rest < 2 ^ 64 = omega arith in f) in
    let within : byte % 64 + first < 64 = elim (cases_lt (byte % 64 + first) 64) [
      | inl lt' ↦ lt'
      | inr past ↦ (let e = sym set ∙ shifted word (byte % 64) first ∙ bit_at_above word 64 (byte % 64 + first) small past in absurd (omega arith))
    ] in
    off words b (in_word words byte b le (omega arith) ∙ before (b - byte) (omega arith))
