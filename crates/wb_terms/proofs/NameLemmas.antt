-- Short names of productions, and bytes of which the last are cut off.
use Rattle.std.proofs.Common.{◌≡◌, ◌+◌, ◌-◌, ◌<◌, ◌≤◌, ℕ, List, [], ◌∷◌, ◌++◌, Some, length, take, drop, sym, ap, ◌∙◌, subst, arith, inl, inr}
use Rattle.std.proofs.Common.{length-append, get_or, replicate}
use Rattle.std.proofs.lemmas.List.{take-replicate, drop-replicate}
use Rattle.std.proofs.lemmas.Option.{slice_get-get_or}
use Rattle.std.proofs.Math.Seq.{take-append-add}
use Rattle.wb_lemmas.proofs.Places.{at_push}
use Rattle.wb_values.specs.Signature.{Signature}
use Rattle.wb_terms.specs.declared.name.Short.{Short}
use Rattle.wb_terms.specs.Printed.{name_of}
use Rattle.wb_terms.specs.Inner.ShortNames.{AreShort, IsShort}

-- of sixteen bytes that are appended the first so many are left
pub first_left : (old bytes mid new : List ℕ) (n count : ℕ) → length bytes ≡ 16 → count ≤ 16 → mid ≡ old ++ bytes
    → n ≡ length mid - (16 - count) → new ≡ take n mid → new ≡ old ++ take count bytes
first_left old bytes mid new n count sixteen le appended len cut =
    let m : length mid ≡ length old + 16 = ap length appended ∙ length-append old bytes ∙ ap (λ (k : ℕ). length old + k) sixteen in
    let e : n ≡ length old + count = omega (arith, le, len, m) in
    cut ∙ ap (λ (k : ℕ). take k mid) e ∙ ap (take (length old + count)) appended ∙ take-append-add old bytes count

-- a name before parentheses
pub short_bytes : (name : List ℕ) → length name ≤ 15
    → take (length name + 1) (name ++ drop (length name) (replicate 16 40)) ≡ name ++ 40 ∷ []
short_bytes name le =
    let one : 1 ≤ 16 - length name = omega (arith, le) in
    take-append-add name (drop (length name) (replicate 16 40)) 1
    ∙ ap (λ (l : List ℕ). name ++ take 1 l) (drop-replicate (length name) 16 40)
    ∙ ap (λ (l : List ℕ). name ++ l) (take-replicate 1 (16 - length name) 40 one)

-- one more of them
pub short_more : (ss : List Signature) (xs : List Short) (s : Short) → AreShort ss xs → IsShort (name_of ss (length xs)) s
    → AreShort ss (xs ++ s ∷ [])
short_more ss xs s are is k t at = elim (at_push xs s t k at) [
  | inl before ↦ are k t before
  | inr (last, same) ↦ subst (λ (n : ℕ). IsShort (name_of ss n) t) (sym last) (subst (IsShort (name_of ss (length xs))) same is)
]

-- the one at a place
pub short_at : (ss : List Signature) (xs : List Short) (i : ℕ) (s : Short) → AreShort ss xs → i < length xs → s ≡ get_or xs i s
    → 0 < s.length → (s.length ≤ 16) × (take s.length s.bytes ≡ name_of ss i ++ 40 ∷ [])
short_at ss xs i s are within is some = are i s (slice_get-get_or xs i s within ∙ ap (λ (x : Short). Some x) (sym is)) some
