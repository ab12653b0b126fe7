-- Preferences that an extension adds, one after another.
use Rattle.std.proofs.Common.{◌≡◌, ◌<◌, ◌+◌, ◌⊎◌, ◌++◌, ◌∷◌, [], ℕ, List, Contains, length, take, get_or, subst, sym, inl, inr}
use Rattle.std.proofs.lemmas.List.{take_more}
use Rattle.wb_lemmas.proofs.Members.{contains_push, nothing_in, push_contains, push_contains_last}
use Rattle.wb_syntax_resolved.specs.declared.terminal.Preference.{Preference}
use Rattle.wb_compose_language.specs.declared.row.Blocks.{Blocks}
use Rattle.wb_compose_language.specs.Inner.Rows.{AreOwnAdded, IsAddedIfOwn, IsOwnPair, pair_in}

-- of no preferences none is added
pub own_none : (blocks : Blocks) (old : List (ℕ × ℕ)) → AreOwnAdded blocks [] old old
own_none blocks old = record { kept = λ q has. has; added = λ p has. absurd (nothing_in p has); only = λ q has. inl has }

-- one preference more
module _ (blocks : Blocks) (ps : List Preference) (p : Preference) (old pairs new : List (ℕ × ℕ)) (were : AreOwnAdded blocks ps old pairs)
    (is : IsAddedIfOwn blocks p pairs new) where
  stays : (q : ℕ × ℕ) → Contains pairs q → Contains new q
  stays q has = elim is [
    | inl pushed ↦ subst (λ zs. Contains zs q) (sym pushed) (push_contains pairs (pair_in blocks p) q has)
    | inr (not, same) ↦ subst (λ zs. Contains zs q) (sym same) has
  ]

  last : IsOwnPair blocks p → Contains new (pair_in blocks p)
  last own = elim is [
    | inl pushed ↦ subst (λ zs. Contains zs (pair_in blocks p)) (sym pushed) (push_contains_last pairs (pair_in blocks p))
    | inr (not, same) ↦ absurd (not own)
  ]

  more : (r : Preference) → Contains (ps ++ p ∷ []) r → IsOwnPair blocks r → Contains new (pair_in blocks r)
  more r has own = elim (contains_push ps p r has) [
    | inl early ↦ stays (pair_in blocks r) (were.added r early own)
    | inr e ↦ subst (λ (z : Preference). Contains new (pair_in blocks z)) e (last (subst (IsOwnPair blocks) (sym e) own))
  ]

  abbrev Is : ℕ × ℕ → Type 0
  Is q = (r : Preference) × Contains (ps ++ p ∷ []) r × (q ≡ pair_in blocks r)

  before : (q : ℕ × ℕ) → Contains pairs q → Contains old q ⊎ Is q
  before q early = elim (were.only q early) [
    | inl first ↦ inl first
    | inr (r, listed, same) ↦ inr (r, push_contains ps p r listed, same)
  ]

  nothing_else : (q : ℕ × ℕ) → Contains new q → Contains old q ⊎ Is q
  nothing_else q has = elim is [
    | inl pushed ↦ elim (contains_push pairs (pair_in blocks p) q (subst (λ zs. Contains zs q) pushed has)) [
      | inl early ↦ before q early
      | inr e ↦ inr (p, push_contains_last ps p, sym e)
    ]
    | inr (not, same) ↦ before q (subst (λ zs. Contains zs q) same has)
  ]

  pub own_next : AreOwnAdded blocks (ps ++ p ∷ []) old new
  own_next = record { kept = λ q has. stays q (were.kept q has); added = more; only = nothing_else }

-- one preference more of a list
pub own_more : (blocks : Blocks) (ps : List Preference) (i : ℕ) (d : Preference) (old pairs new : List (ℕ × ℕ)) → i < length ps →
    AreOwnAdded blocks (take i ps) old pairs → IsAddedIfOwn blocks (get_or ps i d) pairs new → AreOwnAdded blocks (take (i + 1) ps) old new
own_more blocks ps i d old pairs new less were is =
    subst (λ zs. AreOwnAdded blocks zs old new) (sym (take_more ps i d less)) (own_next blocks (take i ps) (get_or ps i d) old pairs new were is)
