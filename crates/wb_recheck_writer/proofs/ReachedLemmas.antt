-- Entries as they are reached: one more, and on to the next.
use Rattle.std.proofs.Common.{◌≡◌, ℕ, ◌<◌, ◌+◌, ◌^◌, zero, suc, List, [], ◌∷◌, ◌++◌, length, Some, None, refl, sym, ◌∙◌, ap}
use Rattle.std.proofs.Common.{subst, inl, inr, arith}
use Rattle.std.specs.Prelude.{◌⊎◌, slice_get}
use Rattle.std.proofs.lemmas.Option.{same_Some, slice_get_within}
use Rattle.wb_lemmas.proofs.Places.{append_keeps, nothing_at, at_one, at_once, at_push, push_last}
use Rattle.wb_base.specs.Grammar.{GrammarView, IsGrammar}
use Rattle.wb_grammar_theory.specs.declared.item.Item.{Item}
use Rattle.wb_grammar_theory.specs.Items.{after_dot}
use Rattle.wb_grammar_theory.specs.Productions.{end_of, top_of}
use Rattle.wb_recheck_theory.specs.declared.line.Line.{Line}
use Rattle.wb_recheck_theory.specs.declared.entry.Entry.{Entry}
use Rattle.wb_recheck_theory.specs.Lines.{IsItemAt, at_first, at_opened}
use Rattle.wb_recheck_theory.specs.Entries.{AreFollowersListed, AreGoodEntries, IsEntryInRange, IsFollowed, IsGoodEntry, IsListed}
use Rattle.wb_recheck_theory.specs.Entries.{first_entry, opens, moves_on}
use Rattle.wb_recheck_theory.proofs.ClosureLemmas.{closure_there}
use Rattle.wb_recheck_theory.proofs.EntriesLemmas.{entries_next, entries_pushed, entries_start, unlisted_different}
use Rattle.wb_recheck_theory.proofs.RangeLemmas.{followed_in_range}
use Rattle.wb_recheck_writer.specs.Order.{FollowerPrecedes, IsListedBefore, IsReachedBefore}
use Rattle.wb_recheck_writer.specs.declared.source.Source.{Source}
use Rattle.wb_recheck_writer.specs.Inner.Reached.{Adds, AreReached, IsSource}

-- what follows from an item at a kernel is an item at its own
pub followed_there : {g : GrammarView} {lines : List Line} (k : ℕ) (item : Item) (t n : ℕ) (other : Item) (u : ℕ) → IsItemAt g lines k
    item →
    IsFollowed g lines k item t n other u → IsItemAt g lines n other
followed_there {g} {lines} k item t n other u i (opens b rest q right is rule first same is_item) =
    subst (λ z. IsItemAt g lines z other) (sym same) (at_opened item b rest q right i is rule is_item)
followed_there k item t n other u i (moves_on x rest is lt is_move is_item same) =
    ((is_move other).1 (record { item = item; rest = rest; within = closure_there i; before_dot = is; is = is_item })).0

-- an origin is an earlier place
pub origin_before : (g : GrammarView) (lines : List Line) (entries : List Entry) → slice_get entries 0 ≡ Some (first_entry g) →
    AreGoodEntries g lines entries → (n : ℕ) (e : Entry) → slice_get entries n ≡ Some e → (place : ℕ) → e.origin ≡ Some place → place < n
origin_before g lines entries first good zero e at place is =
    let same : first_entry g ≡ e = same_Some (first_entry g) e (sym first ∙ at) in
    absurd (no_origin (ap (λ (z : Entry). z.origin) same ∙ is))
  where
    no_origin : None ≡ Some place → ⊥
    no_origin e = cc
origin_before g lines entries first good (suc n) e at place is =
    let h = good n e at in
    let same : h.place ≡ place = same_Some h.place place (sym h.origin ∙ is) in
    let lt = h.earlier in
    omega (arith, same, lt)

-- entries are where they were, and what was listed is listed
pub record Keeps (old new : List Entry) : Type 0 where
  pub places : (n : ℕ) (e : Entry) → slice_get old n ≡ Some e → slice_get new n ≡ Some e
  pub listed : (k : ℕ) (item : Item) (t : ℕ) → IsListed old k item t → IsListed new k item t

pub keeps_itself : (entries : List Entry) → Keeps entries entries
keeps_itself entries = record { places = λ n e at. at; listed = λ k item t l. l }

pub keeps_push : (entries : List Entry) (e : Entry) → Keeps entries (entries ++ e ∷ [])
keeps_push entries e = record {
  places = λ n f at. append_keeps entries (e ∷ []) n f at;
  listed = λ k item t (i, origin, at).
      (i, origin, append_keeps entries (e ∷ []) i (record { kernel = k; item = item; terminal = t; origin = origin }) at);
}

module _ {g : GrammarView} {lines : List Line} (entries : List Entry) (source : Source)
    (reached : AreReached g lines entries source.place) (at : IsSource entries source) where
  module _ (e : Entry) (origin : e.origin ≡ Some source.place) (small : e.item.dot < 2 ^ 64)
      (follows : IsFollowed g lines source.entry.kernel source.entry.item source.entry.terminal e.kernel e.item e.terminal)
      (earlier : (k : ℕ) (item : Item) (t : ℕ) →
      IsFollowed g lines source.entry.kernel source.entry.item source.entry.terminal k item t →
      FollowerPrecedes item t e.item e.terminal → IsListed entries k item t) where
    -- a follower that isn't listed goes to the end
    reached_pushed : ¬ IsListed entries e.kernel e.item e.terminal → AreReached g lines (entries ++ e ∷ []) source.place
    reached_pushed new = record {
      ok = reached.ok;
      worklist = entries_pushed g lines entries source.place e reached.worklist good;
      in_range = λ n f there. range n f (at_push entries e f n there);
      there = λ n f there. item_at n f (at_push entries e f n there);
      in_order = λ n f there m other k item t from followed first. order n f m other k item t (at_push entries e f n there)
          (at_push entries e other m from) followed first;
      dots = λ n f there. dot n f (at_push entries e f n there);
    }
      where
        within : source.place < length entries
        within = slice_get_within entries source.place source.entry at

        e_range : IsEntryInRange g lines e
        e_range = followed_in_range reached.ok source.entry e (reached.in_range source.place source.entry at) follows

        good : IsGoodEntry g lines entries (length entries) e
        good = record {
          in_range = e_range;
          different = λ m o less. unlisted_different entries e new m o less;
          place = source.place;
          origin = origin;
          earlier = within;
          source = source.entry;
          at = at;
          follows = follows;
        }

        range : (n : ℕ) (f : Entry) → (slice_get entries n ≡ Some f) ⊎ ((n ≡ length entries) × (e ≡ f)) → IsEntryInRange g lines f
        range n f (inl old) = reached.in_range n f old
        range n f (inr (last, same)) = subst (λ z. IsEntryInRange g lines z) same e_range

        dot : (n : ℕ) (f : Entry) → (slice_get entries n ≡ Some f) ⊎ ((n ≡ length entries) × (e ≡ f)) → f.item.dot < 2 ^ 64
        dot n f (inl old) = reached.dots n f old
        dot n f (inr (last, same)) = subst (λ (z : Entry). z.item.dot < 2 ^ 64) same small

        item_at : (n : ℕ) (f : Entry) → (slice_get entries n ≡ Some f) ⊎ ((n ≡ length entries) × (e ≡ f)) → IsItemAt g lines f.kernel f.item
        item_at n f (inl old) = reached.there n f old
        item_at n f (inr (last, same)) = subst (λ (z : Entry). IsItemAt g lines z.kernel z.item) same
            (followed_there source.entry.kernel source.entry.item source.entry.terminal e.kernel e.item e.terminal
            (reached.there source.place source.entry at) follows)

        longer : {n k : ℕ} {item : Item} {t : ℕ} → IsListedBefore entries n k item t → IsListedBefore (entries ++ e ∷ []) n k item t
        longer {n} {k} {item} {t} (i, o, lt, there) =
            (i, o, lt, append_keeps entries (e ∷ []) i (record { kernel = k; item = item; terminal = t; origin = o }) there)

        before_end : (k : ℕ) (item : Item) (t : ℕ) → IsListed entries k item t → IsListedBefore entries (length entries) k item t
        before_end k item t (i, o, there) =
            (i, o, slice_get_within entries i (record { kernel = k; item = item; terminal = t; origin = o }) there, there)

        old_place : (n : ℕ) (f : Entry) (m : ℕ) (other : Entry) (item : Item) (t : ℕ) → slice_get entries n ≡ Some f →
            (slice_get entries m ≡ Some other) ⊎ ((m ≡ length entries) × (e ≡ other)) → IsReachedBefore m item t f →
            slice_get entries m ≡ Some other
        old_place n f m other item t there (inl from) first = from
        old_place n f m other item t there (inr (last, same)) (place, is, less) =
            let earlier_place = origin_before g lines entries reached.worklist.entry_first reached.worklist.entries_good n f there place
            is in
            let inside = slice_get_within entries n f there in
            absurd (elim less [
              | inl lt ↦ (omega (arith, lt, last, earlier_place, inside))
              | inr (eq, _) ↦ (omega (arith, eq, last, earlier_place, inside))
            ])

        of_last : (m : ℕ) (other : Entry) (k : ℕ) (item : Item) (t : ℕ) →
            (slice_get entries m ≡ Some other) ⊎ ((m ≡ length entries) × (e ≡ other)) →
            IsFollowed g lines other.kernel other.item other.terminal k item t →
            ((m < source.place) ⊎ ((m ≡ source.place) × FollowerPrecedes item t e.item e.terminal)) → IsListed entries k item t
        of_last m other k item t (inl from) followed (inl less) = reached.worklist.closed m other less from k item t followed
        of_last m other k item t (inl from) followed (inr (is, first)) =
            let same : other ≡ source.entry = at_once entries source.place other source.entry (ap (slice_get entries) (sym is) ∙ from) at in
            earlier k item t (subst (λ (z : Entry). IsFollowed g lines z.kernel z.item z.terminal k item t) same followed) first
        of_last m other k item t (inr (last, same)) followed (inl less) = absurd (let w = within in omega (arith, w, last, less))
        of_last m other k item t (inr (last, same)) followed (inr (is, first)) = absurd (let w = within in omega (arith, w, last, is))

        order : (n : ℕ) (f : Entry) (m : ℕ) (other : Entry) (k : ℕ) (item : Item) (t : ℕ) →
            (slice_get entries n ≡ Some f) ⊎ ((n ≡ length entries) × (e ≡ f)) →
            (slice_get entries m ≡ Some other) ⊎ ((m ≡ length entries) × (e ≡ other)) →
            IsFollowed g lines other.kernel other.item other.terminal k item t → IsReachedBefore m item t f →
            IsListedBefore (entries ++ e ∷ []) n k item t
        order n f m other k item t (inl there) from followed first =
            longer (reached.in_order n f there m other k item t (old_place n f m other item t there from first) followed first)
        order n f m other k item t (inr (last, same)) from followed (place, is, less) =
            let e_is : e.origin ≡ Some place = ap (λ (z : Entry). z.origin) same ∙ is in
            let here : source.place ≡ place = same_Some source.place place (sym origin ∙ e_is) in
            let first = subst (λ p. (m < p) ⊎ ((m ≡ p) × FollowerPrecedes item t e.item e.terminal)) (sym here)
            (subst (λ (z : Entry). (m < place) ⊎ ((m ≡ place) × FollowerPrecedes item t z.item z.terminal)) (sym same) less) in
            subst (λ z. IsListedBefore (entries ++ e ∷ []) z k item t) (sym last)
            (longer (before_end k item t (of_last m other k item t from followed first)))

    -- so whether it was listed or not, it is listed now
    pub record Added (new : List Entry) : Type 0 where
      pub reached_now : AreReached g lines new source.place
      pub here : IsListed new e.kernel e.item e.terminal
      pub keeps : Keeps entries new

    pub reached_added : (new : List Entry) → Adds entries e new → Added new
    reached_added new (inl (listed, same)) = subst Added (sym same) (record {
      reached_now = reached;
      here = listed;
      keeps = keeps_itself entries;
    })
    reached_added new (inr (unlisted, same)) = subst Added (sym same) (record {
      reached_now = reached_pushed unlisted;
      here = (length entries, e.origin, push_last entries e);
      keeps = keeps_push entries e;
    })

  -- on to the next, once all that follows from this one is listed
  pub reached_next : AreFollowersListed g lines entries source.entry.kernel source.entry.item source.entry.terminal →
      AreReached g lines entries (source.place + 1)
  reached_next all =
      let after : suc source.place ≡ source.place + 1 = omega arith in
      subst (AreReached g lines entries) after (record {
        ok = reached.ok;
        worklist = entries_next g lines entries source.place source.entry reached.worklist at all;
        in_range = reached.in_range;
        there = reached.there;
        in_order = reached.in_order;
        dots = reached.dots;
      })

  -- nothing follows from a complete item
  pub reached_complete : after_dot g source.entry.item ≡ [] → AreReached g lines entries (source.place + 1)
  reached_complete none = reached_next (λ k item t followed. absurd (nothing k item t followed)) where
    nothing : (k : ℕ) (item : Item) (t : ℕ) →
        IsFollowed g lines source.entry.kernel source.entry.item source.entry.terminal k item t → ⊥
    nothing k item t (opens b rest q right is rule first same is_item) = let e = sym none ∙ is in cc
    nothing k item t (moves_on x rest is lt is_move is_item same) = let e = sym none ∙ is in cc

-- the first entry alone
pub reached_first : (g : GrammarView) (lines : List Line) → IsGrammar g → AreReached g lines (first_entry g ∷ []) 0
reached_first g lines ok = record {
  ok = ok;
  worklist = entries_start g lines;
  in_range = λ n e at. (let one = at_one (first_entry g) e n at in subst (λ z. IsEntryInRange g lines z) one.1 range);
  there = λ n e at. (
      let one = at_one (first_entry g) e n at in subst (λ (z : Entry). IsItemAt g lines z.kernel z.item) one.1 (at_first refl refl)
      );
  in_order = λ n e at m source k item t from followed (place, is, less). (
      let one = at_one (first_entry g) e n at in absurd (no_origin place (ap (λ (z : Entry). z.origin) one.1 ∙ is))
      );
  dots = λ n e at. (
      let one = at_one (first_entry g) e n at in subst (λ (z : Entry). z.item.dot < 2 ^ 64) one.1
      (let zero_small : 0 < 2 ^ 64 = omega arith in zero_small)
      );
}
  where
    no_origin : (place : ℕ) → None ≡ Some place → ⊥
    no_origin place e = cc

    range : IsEntryInRange g lines (first_entry g)
    range = record { kernel = omega arith; production = omega arith; dot = omega arith; terminal = omega arith }

-- what is added to none is there alone
pub added_first : (e : Entry) (new : List Entry) → Adds [] e new → new ≡ e ∷ []
added_first e new (inl ((i, origin, at), same)) =
    absurd (nothing_at (record { kernel = e.kernel; item = e.item; terminal = e.terminal; origin = origin }) i at)
added_first e new (inr (unlisted, same)) = same

-- so the first entry is reached
pub first_reached : (g : GrammarView) (lines : List Line) → IsGrammar g → (old : List Entry) → old ≡ [] → (top end : ℕ) → top ≡ top_of g →
    end ≡ end_of g → (new : List Entry) →
    Adds old (record { kernel = 0; item = record { production = top; dot = 0 }; terminal = end; origin = None }) new → AreReached g
    lines new 0
first_reached g lines ok old none top end top_is end_is new adds =
    subst (λ z. AreReached g lines z 0) (sym is) (reached_first g lines ok)
  where
    is : new ≡ first_entry g ∷ []
    is =
        added_first (first_entry g) new
        (subst (λ t. Adds [] (record { kernel = 0; item = record { production = top_of g; dot = 0 }; terminal = t; origin = None }) new)
        end_is
        (subst (λ p. Adds [] (record { kernel = 0; item = record { production = p; dot = 0 }; terminal = end; origin = None }) new) top_is
        (subst (λ z. Adds z (record { kernel = 0; item = record { production = top; dot = 0 }; terminal = end; origin = None }) new)
        none adds)))
