-- Lookaheads as they are listed: a worklist, which begins with the first entry and ends in a certificate.
use Rattle.std.proofs.Common.{◌≡◌, ℕ, ◌<◌, ◌≤◌, ◌⊎◌, suc, List, [], ◌∷◌, ◌++◌, length, length-append, Some, refl, sym, ◌∙◌, ap, subst}
use Rattle.std.proofs.Common.{inl, inr, arith}
use Rattle.std.specs.Prelude.{◌≢◌, slice_get, Option}
use Rattle.std.proofs.lemmas.Bool.{cases_lt}
use Rattle.std.proofs.lemmas.Option.{slice_get_within}
use Rattle.wb_lemmas.proofs.Places.{at_once, at_one, at_push, append_keeps, append_before}
use Rattle.wb_base.specs.Grammar.{GrammarView}
use Rattle.wb_grammar_theory.specs.declared.item.Item.{Item}
use Rattle.wb_recheck_theory.specs.declared.line.Line.{Line}
use Rattle.wb_recheck_theory.specs.declared.entry.Entry.{Entry}
use Rattle.wb_recheck_theory.specs.Lines.{AreGoodLines, AreMovesListed}
use Rattle.wb_recheck_theory.specs.Entries.{IsListed, first_entry, IsGoodEntry, AreGoodEntries, AreFollowersListed}
use Rattle.wb_recheck_theory.specs.Certificates.{IsCertificate}
use Rattle.wb_recheck_theory.specs.Listed.{AreEntries}

-- what is listed stays listed when entries are added
pub listed_grown : (entries more : List Entry) (k : ℕ) (item : Item) (t : ℕ) → IsListed entries k item t →
    IsListed (entries ++ more) k item t
listed_grown entries more k item t (n, origin, at) =
    (n, origin, append_keeps entries more n (record { kernel = k; item = item; terminal = t; origin = origin }) at)

-- a good entry stays good
pub entry_grown : {g : GrammarView} {lines : List Line} (entries more : List Entry) (n : ℕ) (e : Entry) → n ≤ length entries →
    IsGoodEntry g lines entries n e → IsGoodEntry g lines (entries ++ more) n e
entry_grown entries more n e lt h = record {
  in_range = h.in_range;
  different = λ m o less at. h.different m o less (sym (append_before entries more m (omega (arith, less, lt))) ∙ at);
  place = h.place;
  origin = h.origin;
  earlier = h.earlier;
  source = h.source;
  at = append_keeps entries more h.place h.source h.at;
  follows = h.follows;
}

-- and was good before more were added: the first that isn't is known when it is read
pub entry_shrunk : {g : GrammarView} {lines : List Line} (entries more : List Entry) (n : ℕ) (e : Entry) → n ≤ length entries →
    IsGoodEntry g lines (entries ++ more) n e → IsGoodEntry g lines entries n e
entry_shrunk entries more n e lt h = record {
  in_range = h.in_range;
  different = λ m o less at. h.different m o less
      (append_keeps entries more m (record { kernel = e.kernel; item = e.item; terminal = e.terminal; origin = o }) at);
  place = h.place;
  origin = h.origin;
  earlier = h.earlier;
  source = h.source;
  at = sym (append_before entries more h.place (let f = h.earlier in omega (arith, f, lt))) ∙ h.at;
  follows = h.follows;
}

-- where entries are good and begin with the first, none has been passed yet
pub entries_whole : (g : GrammarView) (lines : List Line) (entries : List Entry) → slice_get entries 0 ≡ Some (first_entry g) →
    AreGoodEntries g lines entries → AreEntries g lines entries 0
entries_whole g lines entries first good = record {
  within = omega arith;
  entry_first = first;
  entries_good = good;
  closed = λ n e lt. absurd (omega (arith, lt));
}

-- the first entry alone
pub entries_start : (g : GrammarView) (lines : List Line) → AreEntries g lines (first_entry g ∷ []) 0
entries_start g lines = entries_whole g lines (first_entry g ∷ []) refl
    (λ n e at. absurd (let one = at_one (first_entry g) e (suc n) at in omega (arith, one.0)))

-- one more entry, which is good after the others
pub entries_pushed : (g : GrammarView) (lines : List Line) (entries : List Entry) (reached : ℕ) (e : Entry) →
    AreEntries g lines entries reached → IsGoodEntry g lines entries (length entries) e → AreEntries g lines (entries ++ e ∷ []) reached
entries_pushed g lines entries reached e h new = record {
  within = (let w = h.within in let f = length-append entries (e ∷ []) in omega (arith, f, w));
  entry_first = append_keeps entries (e ∷ []) 0 (first_entry g) h.entry_first;
  entries_good = λ n f at. good n f (at_push entries e f (suc n) at);
  closed = λ n f lt at. near n f lt (at_push entries e f n at);
}
  where
    good : (n : ℕ) (f : Entry) → (slice_get entries (suc n) ≡ Some f) ⊎ ((suc n ≡ length entries) × (e ≡ f)) →
        IsGoodEntry g lines (entries ++ e ∷ []) (suc n) f
    good n f (inl old) =
        entry_grown entries (e ∷ []) (suc n) f (let w = slice_get_within entries (suc n) f old in omega (arith, w)) (h.entries_good n f old)
    good n f (inr (is, same)) = subst (λ z. IsGoodEntry g lines (entries ++ e ∷ []) z f) (sym is)
        (subst (λ z. IsGoodEntry g lines (entries ++ e ∷ []) (length entries) z) same
        (entry_grown entries (e ∷ []) (length entries) e (omega arith) new))

    near : (n : ℕ) (f : Entry) → n < reached → (slice_get entries n ≡ Some f) ⊎ ((n ≡ length entries) × (e ≡ f)) →
        AreFollowersListed g lines (entries ++ e ∷ []) f.kernel f.item f.terminal
    near n f lt (inl old) k' item' t' follow = listed_grown entries (e ∷ []) k' item' t' (h.closed n f lt old k' item' t' follow)
    near n f lt (inr (is, same)) k' item' t' follow = absurd (let w = h.within in omega (arith, w, is, lt))

-- what is not listed differs from each entry
pub unlisted_different : (entries : List Entry) (e : Entry) → ¬ IsListed entries e.kernel e.item e.terminal → (m : ℕ) (origin : Option ℕ) →
    m < length entries →
    slice_get entries m ≢ Some (record { kernel = e.kernel; item = e.item; terminal = e.terminal; origin = origin })
unlisted_different entries e new m origin less at = new (m, origin, at)

-- on to the next entry, once all that follows from this one is listed
pub entries_next : (g : GrammarView) (lines : List Line) (entries : List Entry) (reached : ℕ) (e : Entry) →
    AreEntries g lines entries reached → slice_get entries reached ≡ Some e →
    AreFollowersListed g lines entries e.kernel e.item e.terminal → AreEntries g lines entries (suc reached)
entries_next g lines entries reached e h at all = record {
  within = (let f = slice_get_within entries reached e at in omega (arith, f));
  entry_first = h.entry_first;
  entries_good = h.entries_good;
  closed = λ n f lt there. elim (cases_lt n reached) [
    | inl less ↦ h.closed n f less there
    | inr past ↦ (
        let z : n ≡ reached = omega (arith, lt, past) in
        let same : e ≡ f = at_once entries reached e f at (ap (slice_get entries) (sym z) ∙ there) in
        subst (λ y. AreFollowersListed g lines entries y.kernel y.item y.terminal) same all
        )
  ];
}

-- at the end there is a certificate
pub entries_end : (g : GrammarView) (lines : List Line) (entries : List Entry) (reached : ℕ) → AreGoodLines g lines →
    AreMovesListed g lines → AreEntries g lines entries reached → length entries ≤ reached → IsCertificate g lines entries
entries_end g lines entries reached good listed h past = record {
  lines_good = good;
  entry_first = h.entry_first;
  entries_good = h.entries_good;
  moves_listed = listed;
  entries_listed = λ k item t (n, o, at).
      let e : Entry = record { kernel = k; item = item; terminal = t; origin = o } in
      let w = slice_get_within entries n e at in
      h.closed n e (omega (arith, w, past)) at;
}
