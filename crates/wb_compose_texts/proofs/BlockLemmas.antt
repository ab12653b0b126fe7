-- What lists have that come one after another, and what sets by flags have.
use Rattle.std.proofs.Common.{◌≡◌, ◌<◌, ◌+◌, ◌∙◌, ◌∷◌, ◌++◌, [], ℕ, zero, suc, Bool, true, false, List, Some, inl, inr, length, map}
use Rattle.std.proofs.Common.{slice_get, ap, refl, take, arith}
use Rattle.std.proofs.lemmas.Grind.{common_steps}
use Rattle.std.proofs.lemmas.Option.{gets}
use Rattle.wb_termset.specs.Sets.{IsMember}
use Rattle.wb_termset.proofs.CallerLemmas.{has_below}
use Rattle.wb_lemmas.proofs.Places.{append_after, append_keeps, at_append, at_default, default_at, nothing_at}
use Rattle.wb_compose_theory_grammar.specs.Places.{count_before}
use Rattle.wb_reading.specs.OrderedNames.{all_of}

-- an element before a cut
pub take_keeps : {X : Type 0} (xs : List X) (n i : ℕ) (x : X) → i < n → slice_get xs i ≡ Some x → slice_get (take n xs) i ≡ Some x
take_keeps xs n i x before at = grind (arith, gets, common_steps)

-- a member is where the flag is true
pub flag_at : (xs : List Bool) (n : ℕ) → IsMember xs n → slice_get xs n ≡ Some true
flag_at xs n has = at_default xs n false (has_below xs n has) ∙ ap Some has

pub at_flag : (xs : List Bool) (n : ℕ) → slice_get xs n ≡ Some true → IsMember xs n
at_flag xs n at = default_at xs n false true at

-- what a block has is in all of them
pub block_at : {X : Type 0} (blocks : List (List X)) (k i : ℕ) (block : List X) (x : X) → slice_get blocks k ≡ Some block →
    slice_get block i ≡ Some x → slice_get (all_of blocks) (count_before (map length blocks) k + i) ≡ Some x
block_at [] k i block x at here = absurd (nothing_at block k at)
block_at (first ∷ blocks) zero i block x at here =
    let same : first ≡ block = cc in
    let i_is : 0 + i ≡ i = omega arith in
    append_keeps first (all_of blocks) (0 + i) x (ap (slice_get first) i_is ∙ (ap (λ z. slice_get z i) same ∙ here))
block_at (first ∷ blocks) (suc k) i block x at here =
    let is : (length first + count_before (map length blocks) k) + i ≡ length first + (count_before (map length blocks) k + i)
    = omega arith in
    ap (slice_get (first ++ all_of blocks)) is ∙
    (append_after first (all_of blocks) (count_before (map length blocks) k + i) ∙ block_at blocks k i block x at here)

-- what all of them have, one block has
pub record InBlock {X : Type 0} (blocks : List (List X)) (n : ℕ) (x : X) : Type 0 where
  pub k : ℕ
  pub i : ℕ
  pub block : List X
  pub listed : slice_get blocks k ≡ Some block
  pub here : slice_get block i ≡ Some x
  pub place : n ≡ count_before (map length blocks) k + i

pub in_block : {X : Type 0} (blocks : List (List X)) (n : ℕ) (x : X) → slice_get (all_of blocks) n ≡ Some x → InBlock blocks n x
in_block [] n x at = absurd (nothing_at x n at)
in_block (first ∷ blocks) n x at = elim (at_append first (all_of blocks) x n at) [
  | inl here ↦ record { k = 0; i = n; block = first; listed = refl; here = here; place = omega arith }
  | inr (j, is, there) ↦
      let rest = in_block blocks j x there in
      record {
        k = suc rest.k;
        i = rest.i;
        block = rest.block;
        listed = rest.listed;
        here = rest.here;
        place = let place = rest.place in omega (arith, is, place);
      }
]
