-- Lookaheads that are gathered from the entries of a certificate.
use Rattle.std.proofs.Common.{◌≡◌, ℕ, zero, suc, ◌<◌, ◌≤◌, ◌+◌, Bool, true, false, List, length, length-set, replicate, set, Some, Contains}
use Rattle.std.proofs.Common.{refl, sym, ap, ◌∙◌, subst, inl, inr, arith}
use Rattle.std.specs.Prelude.{◌↔◌, slice_get}
use Rattle.std.proofs.lemmas.Bool.{cases_lt}
use Rattle.std.proofs.lemmas.Option.{slice_get_within}
use Rattle.wb_lemmas.proofs.Places.{at_once, at_within}
use Rattle.wb_termset.specs.Sets.{IsMember, IsUnion}
use Rattle.wb_termset.proofs.CallerLemmas.{IsEmpty-replicate, IsMember-insert, IsMember-insert_same, IsSubset-insert}
use Rattle.wb_grammar_theory.specs.declared.item.Item.{Item}
use Rattle.wb_grammar_theory.specs.Lookaheads.{IsLookahead}
use Rattle.wb_grammar_theory.specs.States.{Flows}
use Rattle.wb_grammar_theory.proofs.FlowLemmas.{flows_exact, flows_has, same_back, same_then}
use Rattle.wb_items.specs.Apart.{AreApart}
use Rattle.wb_items.specs.Kernels.{AreKernels, KernelsView, LeadsTo, count_of, prefix_of}
use Rattle.wb_items.specs.Lookaheads.{AreEmpty, AreLookaheadsOf, Inserts, IsSetOf, Lists, LookaheadsView, Unites, items_in, row_of, set_of}
use Rattle.wb_items.specs.LookaheadSets.{AreLookaheads}
use Rattle.wb_items.proofs.CallerLemmas.{apart_kept, empty_lists, lists_added, lists_kept, row_has, rows_within, set_once, set_wide}
use Rattle.wb_items.proofs.CallerLemmas.{shape_kept}
use Rattle.wb_items.proofs.RowLemmas.{number_set}
use Rattle.wb_lookahead.proofs.SpreadLemmas.{union_sound}
use Rattle.wb_recheck_lines.specs.States.{AreStatesOf}
use Rattle.wb_recheck_theory.specs.declared.line.Line.{Line}
use Rattle.wb_recheck_theory.specs.declared.entry.Entry.{Entry}
use Rattle.wb_recheck_theory.specs.Certificates.{IsCertificate}
use Rattle.wb_recheck_theory.specs.Entries.{IsEntryInRange}
use Rattle.wb_recheck_theory.proofs.CertificateLemmas.{entries_exact, states}
use Rattle.wb_recheck_entries.specs.Faults.{IsRightEntry}
use Rattle.wb_recheck_entries.specs.Inner.Gathering.{AreGathered}
use Rattle.wb_recheck_entries.proofs.WrongLemmas.{right_in_range}

-- the terminal alone, as a set of so many
abbrev alone : ℕ → ℕ → List Bool
alone width t = set (replicate width false) t true

-- an insertion is a union with the terminal alone
inserted_union : (old : List Bool) (width t : ℕ) → length old ≡ width → t < width → IsUnion old (alone width t) (set old t true)
inserted_union old width t long lt = record {
  len = length-set old t true;
  each = λ m. (
    λ has. elim (IsMember-insert old t m has) [
      | inl before ↦ inl before
      | inr same ↦ inr (subst (IsMember (alone width t)) (sym same) (IsMember-insert_same (replicate width false) t (omega (
        arith,
        lt,
        replicate_long width,
      ))))
    ],
    λ p. elim p [
      | inl before ↦ IsSubset-insert old t m before
      | inr there ↦ elim (IsMember-insert (replicate width false) t m there) [
        | inl none ↦ absurd (IsEmpty-replicate width m none)
        | inr same ↦ subst (IsMember (set old t true)) (sym same) (IsMember-insert_same old t (omega (arith, long, lt)))
      ]
    ],
  );
}
  where
    replicate_long : (n : ℕ) → length (replicate n false) ≡ n
    replicate_long zero = refl
    replicate_long (suc n) = ap suc (replicate_long n)

module _ (kernels : KernelsView) (are : AreKernels kernels) (lines : List Line) (numbers : List ℕ)
    (numbered : AreStatesOf kernels lines numbers) (entries : List Entry) (c : IsCertificate kernels.grammar lines entries) where
  -- an entry flows to its item at the number of its kernel
  entry_flows : (n s : ℕ) (e : Entry) → slice_get entries n ≡ Some e → slice_get numbers e.kernel ≡ Some s →
      Flows kernels.grammar (LeadsTo kernels) s e.item e.terminal
  entry_flows n s e at here =
      let (lt, (other, same, valid)) = (entries_exact are.live lines entries c e.kernel e.item e.terminal).0 (n, e.origin, at) in
      (flows_exact kernels.grammar (count_of kernels) (prefix_of kernels) (LeadsTo kernels) are.live are.states s
      (numbered.below e.kernel s here) e.item e.terminal).1
      (other, same_then (same_back (numbered.same e.kernel s here)) same, valid)

  -- its numbers are in range
  entry_in_range : (n : ℕ) (e : Entry) → slice_get entries n ≡ Some e → IsEntryInRange kernels.grammar lines e
  entry_in_range n e at = right_in_range kernels.grammar lines entries n e (right n at)
    where
      right : (m : ℕ) → slice_get entries m ≡ Some e → IsRightEntry kernels.grammar lines entries m e
      right zero there = sym (at_once entries 0 _ e c.entry_first there)
      right (suc m) there = c.entries_good m e there

  -- so its kernel has a number
  pub entry_within : (n : ℕ) (e : Entry) → slice_get entries n ≡ Some e → e.kernel < length numbers
  entry_within n e at = (let lt = (entry_in_range n e at).kernel in let long = numbered.len in omega (arith, lt, long))

  module _ (lookaheads : LookaheadsView) (n s : ℕ) (e : Entry) (before : AreGathered kernels numbers entries lookaheads n)
      (at : slice_get entries n ≡ Some e) (here : slice_get numbers e.kernel ≡ Some s) where
    pub state_within : s < length lookaheads.items
    state_within = (let lt = numbered.below e.kernel s here in let long = rows_within are lookaheads before.shape in omega (
      arith,
      lt,
      long,
    ))

    pub item_within : Contains (items_in (row_of lookaheads s)) e.item
    item_within = row_has are lookaheads before.shape s e.item (numbered.below e.kernel s here)
        (flows_has (prefix_of kernels) are.live are.states (entry_flows n s e at here))

    pub terminal_within : (a : List Bool) → IsSetOf lookaheads s e.item a → e.terminal < length a
    terminal_within a there =
        let wide = set_wide are lookaheads before.shape s e.item a there in
        let le = (entry_in_range n e at).terminal in
        omega (arith, wide, le)

    -- one entry more
    pub gathered_more : (new : LookaheadsView) (answer : Bool) → Inserts lookaheads s e.item e.terminal new answer →
        AreGathered kernels numbers entries new (n + 1)
    gathered_more new answer put = record {
      shape = shape_kept united before.shape;
      apart = apart_kept united kernels.grammar before.apart;
      sound = union_sound kernels united before.apart before.sound
          (λ t has. elim (IsMember-insert (replicate width false) e.terminal t has) [
            | inl none ↦ absurd (IsEmpty-replicate width t none)
            | inr same ↦ subst (λ z. Flows kernels.grammar (LeadsTo kernels) s e.item z) (sym same) (entry_flows n s e at here)
          ]);
      complete = λ m u f lt there number. elim (cases_lt m n) [
        | inl less ↦ lists_kept united u f.item f.terminal (before.complete m u f less there number)
        | inr past ↦ (
            let same : n ≡ m = omega (arith, lt, past) in
            let one : e ≡ f = at_once entries n e f at (ap (slice_get entries) same ∙ there) in
            let state : s ≡ u = at_once numbers f.kernel s u
            (subst (λ (z : Entry). slice_get numbers z.kernel ≡ Some s) one here) number in
            subst (λ z. Lists new z f.item f.terminal) state
            (subst (λ (z : Entry). Lists new s z.item z.terminal) one
            (lists_added united e.terminal
            (IsMember-insert_same (replicate width false) e.terminal (omega (arith, width_long, terminal_lt)))))
            )
      ];
    }
      where
        width : ℕ
        width = length (set_of lookaheads put.number)

        width_long : length (replicate width false) ≡ width
        width_long = go width
          where
            go : (k : ℕ) → length (replicate k false) ≡ k
            go zero = refl
            go (suc k) = ap suc (go k)

        terminal_lt : e.terminal < width
        terminal_lt = terminal_within (set_of lookaheads put.number) (number_set lookaheads s e.item put.number put.has)

        united : Unites lookaheads s e.item (alone width e.terminal) new
        united = record {
          number = put.number;
          union = set (set_of lookaheads put.number) e.terminal true;
          has = put.has;
          below = before.shape.numbered.below s put.has.0 put.number put.has.2;
          joined = inserted_union (set_of lookaheads put.number) width e.terminal refl terminal_lt;
          is = put.after;
        }

  -- before all entries
  pub gathered_start : (lookaheads : LookaheadsView) → AreLookaheadsOf kernels lookaheads → AreEmpty lookaheads →
      AreApart kernels.grammar lookaheads → AreGathered kernels numbers entries lookaheads 0
  gathered_start lookaheads shape empty apart = record {
    shape = shape;
    apart = apart;
    sound = λ s item t lists. absurd (empty_lists lookaheads empty s item t lists);
    complete = λ m s e lt. absurd (omega (arith, lt));
  }

  -- after all of them
  pub gathered_all : (lookaheads : LookaheadsView) (n : ℕ) → AreGathered kernels numbers entries lookaheads n → length entries ≤ n →
      AreLookaheads kernels lookaheads
  gathered_all lookaheads n all past = record {
    shape = all.shape;
    exact = λ s item a t lt is_set. (
      λ member. (exact s lt item t).0 (all.sound s item t (a, is_set, member)),
      λ looks. there s item a t lt is_set looks,
    );
  }
    where
      exact : (s : ℕ) → s < count_of kernels → (item : Item) (t : ℕ) →
          Flows kernels.grammar (LeadsTo kernels) s item t ↔ IsLookahead kernels.grammar (prefix_of kernels s) item t
      exact s lt item t =
          flows_exact kernels.grammar (count_of kernels) (prefix_of kernels) (LeadsTo kernels) are.live are.states s lt item t

      there : (s : ℕ) (item : Item) (a : List Bool) (t : ℕ) → s < count_of kernels → IsSetOf lookaheads s item a →
          IsLookahead kernels.grammar (prefix_of kernels s) item t → IsMember a t
      there s item a t lt is_set (other, same, valid) =
          let (k, lt_k, same_k) = (states are.live lines entries c).all (prefix_of kernels s) (are.states.prefixes s lt) in
          let (u, number) = at_within numbers k (let long = numbered.len in omega (arith, long, lt_k)) in
          let one : u ≡ s = are.states.each_once u s (numbered.below k u number) lt
          (same_then (same_back (numbered.same k u number)) same_k) in
          let (m, origin, at) = (entries_exact are.live lines entries c k item t).1 (lt_k, (other, same_then same_k same, valid)) in
          let (b, there_b, member) = all.complete m u (record { kernel = k; item = item; terminal = t; origin = origin })
          (let within = slice_get_within entries m (record { kernel = k; item = item; terminal = t; origin = origin }) at in
          omega (arith, within, past)) at number in
          subst (λ z. IsMember z t)
          (set_once are lookaheads all.shape s item b a (subst (λ z. IsSetOf lookaheads z item b) one there_b) is_set) member
