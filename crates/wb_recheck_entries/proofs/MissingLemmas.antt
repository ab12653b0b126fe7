-- What follows from the entries before a place is listed, or something isn't.
use Rattle.std.proofs.Common.{◌≡◌, ℕ, ◌<◌, ◌≤◌, ◌+◌, List, [], ◌∷◌, length, map, Some, Contains, refl, sym, ap, ◌∙◌, subst}
use Rattle.std.proofs.Common.{inl, inr, arith}
use Rattle.std.specs.Prelude.{MatchOption, Option, None, slice_get}
use Rattle.std.proofs.lemmas.Bool.{cases_lt}
use Rattle.std.proofs.lemmas.Option.{slice_get_within}
use Rattle.wb_lemmas.proofs.Places.{at_once}
use Rattle.wb_base.specs.Grammar.{GrammarView}
use Rattle.wb_recheck_theory.specs.declared.line.Line.{Line}
use Rattle.wb_recheck_theory.specs.declared.entry.Entry.{Entry}
use Rattle.wb_recheck_theory.specs.Entries.{first_entry, AreEntriesListed}
use Rattle.wb_recheck_entries.specs.Faults.{AreRightEntries, AreWholeEntries, LacksEntry, unlisted}
use Rattle.wb_recheck_entries.specs.Keys.{Key, key_at, key_of}
use Rattle.wb_recheck_entries.specs.Inner.Steps.{AreFollowersIn, IsFollowerOut}
use Rattle.wb_recheck_entries.proofs.KeyLemmas.{listed_back, listed_there}

module _ (g : GrammarView) (lines : List Line) (entries : List Entry) (keys : List Key) where
  pub followers_more : (place : ℕ) (f : Entry) →
      ((n : ℕ) (e : Entry) → n < place → slice_get entries n ≡ Some e → AreFollowersIn g lines keys e.kernel e.item e.terminal) →
      slice_get entries place ≡ Some f → AreFollowersIn g lines keys f.kernel f.item f.terminal → (n : ℕ) (e : Entry) → n < place + 1 →
      slice_get entries n ≡ Some e → AreFollowersIn g lines keys e.kernel e.item e.terminal
  followers_more place f before at all n e lt there = elim (cases_lt n place) [
    | inl less ↦ before n e less there
    | inr past ↦ (
        let same : place ≡ n = omega (arith, lt, past) in
        let one : f ≡ e = at_once entries n f e (ap (slice_get entries) (sym same) ∙ at) there in
        subst (λ (z : Entry). AreFollowersIn g lines keys z.kernel z.item z.terminal) one all
        )
  ]

  module _ (are : keys ≡ map key_of entries) where
    -- all are
    pub followers_done : (place : ℕ) →
        ((n : ℕ) (e : Entry) → n < place → slice_get entries n ≡ Some e → AreFollowersIn g lines keys e.kernel e.item e.terminal) →
        length entries ≤ place → AreEntriesListed g lines entries
    followers_done place all past k item t (n, origin, at) k' item' t' follows =
        let within = slice_get_within entries n (record { kernel = k; item = item; terminal = t; origin = origin }) at in
        listed_there entries k' item' t' (subst (λ z. Contains z (key_at k' item' t')) are
        (all n (record { kernel = k; item = item; terminal = t; origin = origin }) (omega (arith, within, past)) at k' item' t' follows))

    -- one isn't
    pub lacks_entry : (place : ℕ) (e : Entry) → slice_get entries place ≡ Some e → IsFollowerOut g lines keys e.kernel e.item e.terminal →
        LacksEntry g lines entries e.kernel
    lacks_entry place e at out =
        unlisted e.item e.terminal out.kernel out.follower out.terminal (place, e.origin, at) out.follows
        (λ listed. out.unlisted (subst (λ z. Contains z (key_at out.kernel out.follower out.terminal)) (sym are)
        (listed_back entries out.kernel out.follower out.terminal listed)))

-- together with the first entry, which is there where some entry is
pub whole : (g : GrammarView) (lines : List Line) (entries : List Entry) → AreRightEntries g lines entries → (entries ≡ [] → ⊥) →
    (found : Option ℕ) → MatchOption found (AreEntriesListed g lines entries) (LacksEntry g lines entries) →
    MatchOption found (AreWholeEntries g lines entries) (LacksEntry g lines entries)
whole g lines entries right some None all = record { first = there (slice_first entries some); listed = all }
  where
    slice_first : (es : List Entry) → (es ≡ [] → ⊥) → (e : Entry) × (slice_get es 0 ≡ Some e)
    slice_first [] none = absurd (none refl)
    slice_first (e ∷ es) none = (e, refl)

    there : (e : Entry) × (slice_get entries 0 ≡ Some e) → slice_get entries 0 ≡ Some (first_entry g)
    there (e, at) = at ∙ ap Some (right 0 e at)
whole g lines entries right some (Some k) lacks = lacks

pub empty_list : {X : Type 0} (xs : List X) → length xs ≡ 0 → xs ≡ []
empty_list [] none = refl
empty_list (x ∷ xs) none = absurd (omega (arith, none))
