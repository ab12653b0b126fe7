-- A clash is found where the two of some pair share a text, and where none do, there is none.
use Rattle.std.proofs.Common.{◌≡◌, ℕ, ◌+◌, ◌<◌, ◌≤◌, Bool, List, Option, Some, None, Result, Ok, Err, length, inl, inr, arith}
use Rattle.std.specs.Prelude.{slice_get, IfOk, IfSome, IsNone, ◌↔◌}
use Rattle.std.proofs.lemmas.Bool.{cases_lt}
use Rattle.wb_lemmas.proofs.Elements.{all_from_contained}
use Rattle.wb_lemmas.proofs.Refusals.{none_from}
use Rattle.wb_termset.specs.Sets.{IsMember}
use Rattle.wb_regex.specs.Tree.{Tree}
use Rattle.wb_lexical.specs.declared.clash.Clash.{Clash}
use Rattle.wb_lexical.specs.Clash.{AreOrdered, IsClash, HasNoClash}
use Rattle.wb_lexical.specs.Inner.Candidates.{AreCandidates}
use Rattle.wb_lexical.specs.Inner.Rows.{AreTogether, AreTogetherBelow}
use Rattle.wb_lexical.proofs.RowLemmas.{together_all, together_more}
use Rattle.wb_automata.specs.Sharing.{ArePairsBelow, IsShared}
use Rattle.wb_lexical.specs.Inner.Shared.{IsSharedIn, SharesNone}

-- no set at first
pub apart_first : (sets : List (List Bool)) (t u : ℕ) → ¬ AreTogetherBelow sets 0 t u
apart_first sets t u (k, lt, left, right) = omega (arith, lt)

-- one set more that hasn't both
pub apart_more : (sets : List (List Bool)) (i t u : ℕ) (flags : List Bool) → slice_get sets i ≡ Some flags
    → ¬ (IsMember flags t × IsMember flags u) → ¬ AreTogetherBelow sets i t u → ¬ AreTogetherBelow sets (i + 1) t u
apart_more sets i t u flags at never before is = elim ((together_more sets i flags at t u).0 is) [
  | inl early ↦ before early
  | inr here ↦ never here
]

-- no set
pub apart_all : (sets : List (List Bool)) (i t u : ℕ) → length sets ≤ i → ¬ AreTogetherBelow sets i t u → ¬ AreTogether sets t u
apart_all sets i t u past never is = never ((together_all sets i past t u).1 is)

-- what is said of each clash that is found
pub found_some : {E : Type 0} (P Q : Clash → Type 0) → ((clash : Clash) → P clash → Q clash) → (r : Result (Option Clash) E)
    → IfOk r (λ found. IfSome found P) → IfOk r (λ found. IfSome found Q)
found_some P Q f (Ok None) is = tt
found_some P Q f (Ok (Some clash)) is = f clash is
found_some P Q f (Err e) is = tt

-- none is found exactly where there is none
pub found_none : {E : Type 0} (P : Clash → Type 0) (N M : Type 0) → (N → M) → ((clash : Clash) → P clash → M → ⊥)
    → (r : Result (Option Clash) E) → IfOk r (λ found. IfSome found P) → IfOk r (λ found. IsNone found → N)
    → IfOk r (λ found. IsNone found ↔ M)
found_none P N M f g (Ok found) some none = (λ e. f (none e), λ m. none_from found P some (λ x p. g x p m))
found_none P N M f g (Err e) some none = tt

-- no pair's two share a text
pub shares_none : (terminals : List Tree) (pairs : List (ℕ × ℕ)) → ((text : List ℕ) → ¬ IsShared terminals pairs text)
    → SharesNone terminals pairs
shares_none terminals pairs never t u text listed left right =
    never text (record { pair = (t, u); listed = listed; both = (left, right) })

module _ (terminals : List Tree) (sets : List (List Bool)) (preferences pairs : List (ℕ × ℕ))
    (are : AreCandidates terminals (AreTogether sets) (AreOrdered preferences) pairs) where
  -- what is shared is a clash
  pub shared_clash : (clash : Clash) → IsSharedIn terminals sets pairs clash
      → IsClash terminals sets preferences clash.set clash.left clash.right clash.text
  shared_clash clash is = record {
    different = (let lt = are.less clash.left clash.right is.pair in λ same. omega (arith, lt, same));
    left_in = is.left_in;
    right_in = is.right_in;
    left_matches = is.left_matches;
    right_matches = is.right_matches;
    unordered = are.unordered clash.left clash.right is.pair;
  }

  -- whose lesser terminal is first
  pub shared_order : (clash : Clash) → IsSharedIn terminals sets pairs clash → clash.left < clash.right
  shared_order clash is = are.less clash.left clash.right is.pair

  -- without one there is no clash
  pub none_shared : SharesNone terminals pairs → HasNoClash terminals sets preferences
  none_shared never set left right text c = elim (cases_lt left right) [
    | inl less ↦ never left right text
        (are.complete left right text less (set, c.left_in, c.right_in) c.unordered c.left_matches c.right_matches)
        c.left_matches c.right_matches
    | inr past ↦ never right left text
        (are.complete right left text (let d = c.different in omega (arith, past, d)) (set, c.right_in, c.left_in)
        (λ o. c.unordered (elim o [ inl a ↦ inr a | inr b ↦ inl b ])) c.right_matches c.left_matches)
        c.right_matches c.left_matches
  ]

  -- the pairs are below the terminals
  pub pairs_within : ArePairsBelow (length terminals) pairs
  pairs_within = all_from_contained (λ (pair : ℕ × ℕ). (pair.0 < length terminals) × (pair.1 < length terminals)) pairs
      (λ (t, u) has. ((let a = are.less t u has in let b = are.within t u has in omega (arith, a, b)), are.within t u has))
