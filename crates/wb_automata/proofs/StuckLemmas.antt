-- Where texts go on from both places of a pair, it isn't stuck, so that steps to it are kept.
use Rattle.std.proofs.Common.{◌≡◌, ℕ, zero, suc, ◌/◌, ◌%◌, ◌<◌, ◌⊎◌, Bool, true, false, not, List, [], ◌∷◌, refl, sym, ◌∙◌, ap, subst}
use Rattle.std.proofs.Common.{arith}
use Rattle.std.proofs.Common.{inl, inr, get_or, Some}
use Rattle.std.specs.Prelude.{◌||◌, ◌==◌, bit_and, min, slice_get}
use Rattle.std.specs.Int.{bit_at}
use Rattle.std.proofs.lemmas.Bool.{cases_Bool, true≢false}
use Rattle.std.proofs.lemmas.Nat.Bits.{bit_at_and}
use Rattle.std.proofs.Common.{eqb-true}
use Rattle.wb_regex.specs.Matches.{HoldsByte}
use Rattle.wb_automata_positions.specs.declared.places.Place.{Place}
use Rattle.wb_automata_positions.specs.declared.places.Place.TheVariants as p
use Rattle.wb_automata_positions.proofs.RunLemmas.{RunsIn, on_end, on_read}
use Rattle.wb_automata.specs.declared.steps.Steps.{Steps}
use Rattle.wb_automata.specs.declared.steps.Steps.TheVariants.{Still, One, Two}
use Rattle.wb_automata.specs.Inner.Pairs.{LeadTo, is_stuck, step_to, steps_to, unstuck}
use Rattle.wb_automata.specs.Inner.Stuck.{are_stuck, is_read, share_byte, share_word, waits_without}

or_left : (a b : Bool) → a ≡ true → (a || b) ≡ true
or_left true b e = refl
or_left false b e = absurd (true≢false (sym e))

or_right : (a b : Bool) → b ≡ true → (a || b) ≡ true
or_right true b e = refl
or_right false b e = e

-- a bit that two words have in common
shared_word : (l r k : ℕ) → bit_at l k ≡ 1 → bit_at r k ≡ 1 → not (bit_and l r == 0) ≡ true
shared_word l r k f g = elim (cases_Bool (bit_and l r == 0)) [
  | inl none ↦
      let e : bit_at (bit_and l r) k ≡ 1 = bit_at_and l r k ∙ ones (bit_at l k) (bit_at r k) f g in
      absurd (no_bit k (ap (λ z. bit_at z k) (sym (eqb-true (bit_and l r) 0 none)) ∙ e))
  | inr some ↦ ap not some
]
  where
    ones : (a b : ℕ) → a ≡ 1 → b ≡ 1 → min a b ≡ 1
    ones a b e f = grind arith

    no_bit : (k : ℕ) → bit_at 0 k ≡ 1 → ⊥
    no_bit k e = absurd (omega arith)

share_at : (lefts rights : List ℕ) (k : ℕ) → k < 4 → share_word lefts rights k ≡ true → share_byte lefts rights ≡ true
share_at lefts rights zero lt e = or_left _ _ (or_left _ _ (or_left _ _ e))
share_at lefts rights (suc zero) lt e = or_left _ _ (or_left _ _ (or_right (share_word lefts rights 0) _ e))
share_at lefts rights (suc (suc zero)) lt e = or_left _ _ (or_right (share_word lefts rights 0 || share_word lefts rights 1) _ e)
share_at lefts rights (suc (suc (suc zero))) lt e =
    or_right ((share_word lefts rights 0 || share_word lefts rights 1) || share_word lefts rights 2) _ e
share_at lefts rights (suc (suc (suc (suc k)))) lt e = absurd (omega arith)

pub shared_byte : (lefts rights : List ℕ) (b : ℕ) → HoldsByte lefts b → HoldsByte rights b → share_byte lefts rights ≡ true
shared_byte lefts rights b (lt, f) (_, g) =
    share_at lefts rights (b / 64) (omega arith) (shared_word (get_or lefts (b / 64) 0) (get_or rights (b / 64) 0) (b % 64) f g)

-- what a place says of the texts that go on from it
abbrev pub Opens : Place → List ℕ → Type 0
Opens (p.Read words next) x = (b : ℕ) × (rest : List ℕ) × HoldsByte words b × (x ≡ b ∷ rest)
Opens (p.Go next) x = Unit {0}
Opens (p.Fork next other) x = Unit {0}
Opens (p.End number) x = x ≡ []

pub opens : {places : List Place} {count at number : ℕ} {x : List ℕ} (place : Place) → slice_get places at ≡ Some place
    → RunsIn places count at number x → Opens place x
opens (p.Read words next) is run = (let r = on_read is run in (r.byte, r.rest, r.holds, r.joins))
opens (p.Go next) is run = tt
opens (p.Fork next other) is run = tt
opens (p.End number) is run = (on_end is run).1

same_first : (b c : ℕ) (x y z : List ℕ) → x ≡ b ∷ y → x ≡ c ∷ z → b ≡ c
same_first b c x y z e f = (let g = sym e ∙ f in cc)

not_both : (b : ℕ) (x y : List ℕ) → x ≡ [] → x ≡ b ∷ y → ⊥
not_both b x y e f = cc

pub open_both : (left right : Place) (x : List ℕ) → Opens left x → Opens right x → are_stuck left right ≡ false
open_both (p.Read words next) (p.Read others other) x (b, y, h, e) (c, z, k, f) =
    ap not (shared_byte words others b h (subst (HoldsByte others) (same_first c b x z y f e) k))
open_both (p.Read words next) (p.Go other) x o q = refl
open_both (p.Read words next) (p.Fork other third) x o q = refl
open_both (p.Read words next) (p.End number) x (b, y, h, e) f = absurd (not_both b x y f e)
open_both (p.Go next) right x o q = refl
open_both (p.Fork next other) right x o q = refl
open_both (p.End number) (p.Read words next) x f (b, y, h, e) = absurd (not_both b x y f e)
open_both (p.End number) (p.Go next) x o q = refl
open_both (p.End number) (p.Fork next other) x o q = refl
open_both (p.End number) (p.End other) x o q = refl

-- a step that is kept was there
one_back : (stuck : Bool) (q d : ℕ) → LeadTo (step_to stuck q) d → d ≡ q
one_back true q d h = absurd h
one_back false q d h = h

two_back : (stuck other : Bool) (q r d : ℕ) → LeadTo (steps_to stuck other q r) d → (d ≡ q) ⊎ (d ≡ r)
two_back true other q r d h = inr (one_back other r d h)
two_back false true q r d h = inl h
two_back false false q r d h = h

pub unstuck_back : (places : List Place) (steps : Steps) (d : ℕ) → LeadTo (unstuck places steps) d → LeadTo steps d
unstuck_back places Still d h = h
unstuck_back places (One q) d h = one_back (is_stuck places q) q d h
unstuck_back places (Two q r) d h = two_back (is_stuck places q) (is_stuck places r) q r d h

-- a step to what isn't stuck is kept
one_on : (stuck : Bool) (q d : ℕ) → d ≡ q → stuck ≡ false → LeadTo (step_to stuck q) d
one_on true q d e f = absurd (true≢false f)
one_on false q d e f = e

two_on : (stuck other : Bool) (q r d : ℕ) → ((d ≡ q) × (stuck ≡ false)) ⊎ ((d ≡ r) × (other ≡ false))
    → LeadTo (steps_to stuck other q r) d
two_on true other q r d (inl (e, f)) = absurd (true≢false f)
two_on true other q r d (inr (e, f)) = one_on other r d e f
two_on false true q r d (inl (e, f)) = e
two_on false true q r d (inr (e, f)) = absurd (true≢false f)
two_on false false q r d (inl (e, f)) = inl e
two_on false false q r d (inr (e, f)) = inr e

pub unstuck_on : (places : List Place) (steps : Steps) (d : ℕ) → is_stuck places d ≡ false → LeadTo steps d
    → LeadTo (unstuck places steps) d
unstuck_on places Still d f h = h
unstuck_on places (One q) d f h = one_on (is_stuck places q) q d h (subst (λ z. is_stuck places z ≡ false) h f)
unstuck_on places (Two q r) d f (inl h) =
    two_on (is_stuck places q) (is_stuck places r) q r d (inl (h, subst (λ z. is_stuck places z ≡ false) h f))
unstuck_on places (Two q r) d f (inr h) =
    two_on (is_stuck places q) (is_stuck places r) q r d (inr (h, subst (λ z. is_stuck places z ≡ false) h f))
