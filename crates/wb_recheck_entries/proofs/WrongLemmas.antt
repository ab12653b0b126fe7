-- Which entry is right, by the entries before it and their keys.
use Rattle.std.proofs.Common.{◌≡◌, ℕ, zero, suc, ◌<◌, ◌≤◌, ◌+◌, List, [], ◌∷◌, ◌++◌, length, map, take, Bool, true, false}
use Rattle.std.proofs.Common.{Some, None, Contains, refl, sym, ap, ◌∙◌, subst, inl, inr, arith}
use Rattle.std.specs.Prelude.{◌↔◌, slice_get}
use Rattle.std.proofs.lemmas.Bool.{cases_lt}
use Rattle.std.proofs.lemmas.List.{take_all, take_more}
use Rattle.std.proofs.lemmas.Option.{slice_get_within, get_or_from_slice_get, same_Some}
use Rattle.wb_lemmas.proofs.Members.{nothing_in}
use Rattle.wb_lemmas.proofs.Places.{at_once, at_take}
use Rattle.wb_base.specs.Grammar.{GrammarView, IsGrammar}
use Rattle.wb_recheck_theory.specs.declared.line.Line.{Line}
use Rattle.wb_recheck_theory.specs.declared.entry.Entry.{Entry}
use Rattle.wb_recheck_theory.specs.Entries.{first_entry, IsEntryInRange, IsFollowed}
use Rattle.wb_recheck_theory.proofs.RangeLemmas.{followed_in_range}
use Rattle.wb_recheck_entries.specs.Faults.{IsRightEntry, AreRightEntries, IsFirstWrongEntry}
use Rattle.wb_recheck_entries.specs.Keys.{Key, key_of}
use Rattle.wb_recheck_entries.specs.Inner.Inserted.{IsInserted}
use Rattle.wb_recheck_entries.specs.Inner.Walks.{AreKeysUpTo}
use Rattle.wb_recheck_entries.proofs.KeyLemmas.{listed_back, listed_there}

module _ (g : GrammarView) (lines : List Line) (entries : List Entry) where
  -- an entry that is right has its numbers in range
  pub right_in_range : (n : ℕ) (e : Entry) → IsRightEntry g lines entries n e → IsEntryInRange g lines e
  right_in_range zero e is = subst (IsEntryInRange g lines) (sym is) (record {
    kernel = omega arith;
    production = omega arith;
    dot = omega arith;
    terminal = omega arith;
  })
  right_in_range (suc n) e good = good.in_range

  -- at the first place the first entry alone is right
  pub first_right : (n : ℕ) (e : Entry) (r : Bool) → n ≡ 0 → (r ≡ true) ↔ (e ≡ first_entry g) →
      (r ≡ true) ↔ IsRightEntry g lines entries n e
  first_right zero e r is same = same
  first_right (suc n) e r is same = absurd (omega (arith, is))

  -- it has no origin after the first place
  pub wrong_none : (n : ℕ) (e : Entry) → 0 < n → e.origin ≡ None → ¬ IsRightEntry g lines entries n e
  wrong_none zero e some none is = absurd (omega (arith, some))
  wrong_none (suc n) e some none good = (let bad : None ≡ Some good.place = sym none ∙ good.origin in cc)

  -- its origin isn't earlier
  pub wrong_later : (n o : ℕ) (e : Entry) → 0 < n → e.origin ≡ Some o → n ≤ o → ¬ IsRightEntry g lines entries n e
  wrong_later zero o e some is le right = absurd (omega (arith, some))
  wrong_later (suc n) o e some is le good =
      let same : o ≡ good.place = same_Some o good.place (sym is ∙ good.origin) in
      let before = good.earlier in
      omega (arith, same, before, le)

  module _ (keys : List Key) (n : ℕ) (up : AreKeysUpTo g lines entries keys n) (e : Entry) where
    -- what is right has a key that is new
    pub right_new : IsRightEntry g lines entries n e → ¬ Contains keys (key_of e)
    right_new right has = go n up.keys_are right
      where
        go : (m : ℕ) → keys ≡ map key_of (take m entries) → IsRightEntry g lines entries m e → ⊥
        go zero is r = nothing_in (key_of e) (subst (λ z. Contains z (key_of e)) is has)
        go (suc m) is good =
            let (i, origin, at) = listed_there (take (suc m) entries) e.kernel e.item e.terminal
            (subst (λ z. Contains z (key_of e)) is has) in
            let (lt, there) = at_take entries (suc m) i (record {
              kernel = e.kernel;
              item = e.item;
              terminal = e.terminal;
              origin =
                  origin;
            }) at in
            good.different i origin lt there

    -- so an entry whose key isn't new isn't
    pub wrong_again : Contains keys (key_of e) → ¬ IsRightEntry g lines entries n e
    wrong_again has right = right_new right has

    -- one with a new key is right where it follows from its origin
    pub right_follows : IsGrammar g → (o : ℕ) (source : Entry) → 0 < n → e.origin ≡ Some o → o < n → slice_get entries o ≡ Some source →
        ¬ Contains keys (key_of e) →
        IsFollowed g lines source.kernel source.item source.terminal e.kernel e.item e.terminal ↔ IsRightEntry g lines entries n e
    right_follows ok o source some is lt at new = (
      λ f. there n some lt up.keys_are f,
      λ r. back n some r,
    )
      where
        there : (m : ℕ) → 0 < m → o < m → keys ≡ map key_of (take m entries) →
            IsFollowed g lines source.kernel source.item source.terminal e.kernel e.item e.terminal → IsRightEntry g lines entries m e
        there zero pos less are f = absurd (omega (arith, pos))
        there (suc m) pos less are f = record {
          in_range = followed_in_range ok source e (right_in_range o source (up.right o source lt at)) f;
          different = λ i origin before there_is. new (subst (λ z. Contains z (key_of e)) (sym are)
              (listed_back (take (suc m) entries) e.kernel e.item e.terminal (i, origin, into_take entries (suc m) i before there_is)));
          place = o;
          origin = is;
          earlier = less;
          source = source;
          at = at;
          follows = f;
        }
          where
            into_take : {X : Type 0} (xs : List X) (b i : ℕ) {x : X} → i < b → slice_get xs i ≡ Some x → slice_get (take b xs) i ≡ Some x
            into_take [] b i before there_is = cc
            into_take (y ∷ ys) zero i before there_is = absurd (omega (arith, before))
            into_take (y ∷ ys) (suc b) zero before there_is = there_is
            into_take (y ∷ ys) (suc b) (suc i) before there_is = into_take ys b i (omega (arith, before)) there_is

        back : (m : ℕ) → 0 < m → IsRightEntry g lines entries m e →
            IsFollowed g lines source.kernel source.item source.terminal e.kernel e.item e.terminal
        back zero pos r = absurd (omega (arith, pos))
        back (suc m) pos good =
            let same : o ≡ good.place = same_Some o good.place (sym is ∙ good.origin) in
            let one : good.source ≡ source = at_once entries o good.source source
            (ap (slice_get entries) same ∙ good.at) at in
            subst (λ (z : Entry). IsFollowed g lines z.kernel z.item z.terminal e.kernel e.item e.terminal) one good.follows

    -- and then one more is
    pub keys_more : (new : List Key) (r : Bool) → slice_get entries n ≡ Some e → IsRightEntry g lines entries n e →
        IsInserted keys (key_of e) new r → AreKeysUpTo g lines entries new (n + 1)
    keys_more new true at right (fresh, is) = record {
      right = λ m other lt there. elim (cases_lt m n) [
        | inl less ↦ up.right m other less there
        | inr past ↦ (
            let same : n ≡ m = omega (arith, lt, past) in
            let one : e ≡ other = at_once entries n e other at (ap (slice_get entries) same ∙ there) in
            subst (λ z. IsRightEntry g lines entries z other) same (subst (IsRightEntry g lines entries n) one right)
            )
      ];
      keys_are = is ∙ (ap (λ z. z ++ key_of e ∷ []) up.keys_are
          ∙ (sym (map_push (take n entries)) ∙ ap (map key_of) (sym (take_at entries n e at))));
    }
      where
        map_push : (xs : List Entry) → map key_of (xs ++ e ∷ []) ≡ map key_of xs ++ key_of e ∷ []
        map_push [] = refl
        map_push (x ∷ xs) = ap (λ z. key_of x ∷ z) (map_push xs)

        take_at : (xs : List Entry) (i : ℕ) (x : Entry) → slice_get xs i ≡ Some x → take (i + 1) xs ≡ take i xs ++ x ∷ []
        take_at xs i x there =
            take_more xs i x (slice_get_within xs i x there) ∙ ap (λ z. take i xs ++ z ∷ []) (get_or_from_slice_get xs i x x there)
    keys_more new false at right (has, is) = absurd (right_new right has)

  -- before all entries
  pub keys_start : (keys : List Key) → keys ≡ [] → AreKeysUpTo g lines entries keys 0
  keys_start keys none = record { right = λ m e lt. absurd (omega (arith, lt)); keys_are = none }

  -- after all of them
  pub keys_whole : (keys : List Key) (n : ℕ) → AreKeysUpTo g lines entries keys n → length entries ≤ n → AreRightEntries g lines entries
  keys_whole keys n up past m e at = up.right m e (let within = slice_get_within entries m e at in omega (arith, within, past)) at

  pub keys_all : (keys : List Key) (n : ℕ) → AreKeysUpTo g lines entries keys n → length entries ≤ n → keys ≡ map key_of entries
  keys_all keys n up past = up.keys_are ∙ ap (map key_of) (take_all n entries past)

  -- the first that isn't right
  pub first_wrong : (keys : List Key) (n : ℕ) (e : Entry) → AreKeysUpTo g lines entries keys n → slice_get entries n ≡ Some e →
      ¬ IsRightEntry g lines entries n e → IsFirstWrongEntry g lines entries n
  first_wrong keys n e up at wrong = record { before = up.right; entry = e; at = at; wrong = wrong }
