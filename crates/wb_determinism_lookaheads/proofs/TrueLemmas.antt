-- What spreads is true.
use Rattle.std.proofs.Common.{◌≡◌, ◌+◌, ◌<◌, ◌∙◌, ◌∷◌, ◌++◌, [], Bool, List, ℕ, Some, get_or-set_other, get_or-set_same, length, refl, sym}
use Rattle.std.proofs.Common.{ap}
use Rattle.std.proofs.Common.{subst, inl, inr, arith}
use Rattle.std.specs.Prelude.{slice_get, slice_index_or, slice_set}
use Rattle.std.proofs.lemmas.Bool.{cases_eq}
use Rattle.wb_lemmas.proofs.Places.{at_once}
use Rattle.wb_base.specs.declared.symbol.Symbol.{Symbol}
use Rattle.wb_base.specs.declared.symbol.Symbol.TheVariants.{Terminal, Nonterminal}
use Rattle.wb_termset.specs.Sets.{IsMember}
use Rattle.wb_grammar_theory.specs.declared.item.Item.{Item}
use Rattle.wb_grammar_theory.specs.Derives.{Derives}
use Rattle.wb_grammar_theory.specs.Items.{advance, after_dot, initial_item}
use Rattle.wb_grammar_theory.specs.Items as valid
use Rattle.wb_grammar_theory.specs.Lookaheads.{IsLookahead}
use Rattle.wb_grammar_theory.proofs.DerivesLemmas.{Derives-same, First-append}
use Rattle.wb_grammar_theory.proofs.FlowLemmas.{same_then}
use Rattle.wb_grammar_theory.proofs.KernelLemmas.{same_move}
use Rattle.wb_items.specs.Apart.{BelongTogether}
use Rattle.wb_determinism_lookaheads.specs.declared.context.Context.{Context}
use Rattle.wb_determinism_lookaheads.specs.declared.rests.Rest.{Rest}
use Rattle.wb_determinism_lookaheads.specs.Inner.Rests.{IsRest}
use Rattle.wb_determinism_lookaheads.specs.Inner.Spreading.{AddsTo, AreTrue, AreTrueFor, AreTrueOf, IsContext, IsProductionOf, IsSlot}
use Rattle.wb_determinism_lookaheads.specs.Inner.Spreading.{LeadsIn, both_of, own_of, prefix_in}
use Rattle.wb_determinism_lookaheads.proofs.TogetherLemmas.{alone_moved, opened_with}

-- nothing is listed in empty sets
pub true_empty : (c : Context) (sets : List (List (List Bool))) →
    ((i j t : ℕ) → ¬ IsMember (slice_index_or (slice_index_or sets i []) j []) t) → AreTrue c sets
true_empty c sets none = λ i lt item t (j, one, slot, belong, has). absurd (none i j t has)

module _ (c : Context) (sets : List (List (List Bool))) (true : AreTrue c sets) where
  -- what is listed at a place is true of each item that has the set
  pub true_slot : (i j : ℕ) (one : Item) (set : List Bool) → i < length c.new.now.index.steps → IsSlot c i j one →
      set ≡ slice_index_or (slice_index_or sets i []) j [] → AreTrueFor c i one set
  true_slot i j one set lt slot is = λ item belong t has. true i lt item t (j, one, slot, belong, subst (λ z. IsMember z t) is has)

  -- and stays so where true members are added to one set
  pub true_united : (i j : ℕ) (one : Item) (set : List Bool) (row : List (List Bool)) (new : List (List (List Bool))) → i < length sets →
      new ≡ slice_set sets i row → AddsTo (slice_index_or sets i []) j set row → IsSlot c i j one → AreTrueFor c i one set → AreTrue c new
  true_united i j one set row new within is adds slot added = λ n lt item t (at, other, there, belong, has).
      let has' : IsMember (slice_index_or (slice_index_or (slice_set sets i row) n []) at []) t =
      subst (λ z. IsMember (slice_index_or (slice_index_or z n []) at []) t) is has in
      elim (cases_eq n i) [
        | inl same ↦
            let here : IsMember (slice_index_or row at []) t =
            subst (λ z. IsMember (slice_index_or z at []) t)
            (ap (λ z. slice_index_or (slice_set sets i row) z []) same ∙ get_or-set_same sets i row [] within) has' in
            elim (adds at t here) [
              | inl old ↦ true n lt item t (
                at,
                other,
                there,
                belong,
                subst (λ z. IsMember (slice_index_or (slice_index_or sets z []) at []) t) (sym same) old,
              )
              | inr (at_is, fresh) ↦
                  let e : one ≡ other = at_once (slice_index_or c.slots.now i []) j one other slot
                  (subst (λ z. slice_get (slice_index_or c.slots.now i []) z ≡ Some other) at_is
                  (subst (λ z. slice_get (slice_index_or c.slots.now z []) at ≡ Some other) same there)) in
                  subst (λ z. IsLookahead (both_of c) (prefix_in c (own_of c + z)) item t) (sym same)
                  (added item (subst (λ z. BelongTogether (both_of c) z item) (sym e) belong) t fresh)
            ]
        | inr apart ↦ true n lt item t (
          at,
          other,
          there,
          belong,
          subst (λ z. IsMember (slice_index_or z at []) t) (get_or-set_other sets i n row [] apart) has',
        )
      ]

module _ {c : Context} (ok : IsContext c) (i : ℕ) (item : Item) (set : List Bool) (true : AreTrueOf c i item set) where
  -- over a symbol
  pub true_moved : (to next : ℕ) (x : Symbol) (rest : List Symbol) → after_dot (both_of c) item ≡ x ∷ rest →
      LeadsIn c (own_of c + i) x next → next ≡ own_of c + to → AreTrueFor c to (advance item) set
  true_moved to next x rest is leads next_is = λ other belong t has.
      let (o, same, v) = true t has in
      let e : advance item ≡ other = alone_moved (both_of c) (advance item) other belong
      (λ z. (let d : item.dot + 1 ≡ 0 = z in omega (arith, d))) in
      subst (λ z. IsLookahead (both_of c) (prefix_in c z) other t) next_is
      (subst (λ z. IsLookahead (both_of c) (prefix_in c next) z t) e (
        o ++ x ∷ [],
        same_then leads.3 (same_move ok.given.live (prefix_in c (own_of c + i)) o x same),
        valid.move item x rest o v is refl refl,
      ))

  -- what begins the symbols after a nonterminal
  pub true_begun : (b p : ℕ) (rest : List Symbol) (r : Rest) → after_dot (both_of c) item ≡ Nonterminal b ∷ rest →
      IsProductionOf (both_of c) b p → (t : ℕ) × IsMember set t → IsRest (both_of c) rest r → AreTrueFor c i (initial_item p) r.set
  true_begun b p rest r is of (t, member) begins = λ other belong u has.
      let y = opened_with (both_of c) b p of other belong in
      let (o, same, v) = true t member in
      subst (λ z. IsLookahead (both_of c) (prefix_in c (own_of c + i)) z u) (sym y.is) (
        o,
        same,
        valid.close item t b rest y.q u (y.of.0) v is (y.of.1)
            ((First-append (both_of c) rest (Terminal t ∷ []) u).1 (inl ((begins.first u).0 has))),
      )

  -- and where they may be empty, what comes after them
  pub true_passed : (b p : ℕ) (rest : List Symbol) → after_dot (both_of c) item ≡ Nonterminal b ∷ rest → IsProductionOf (both_of c) b p →
      Derives (both_of c) rest [] → AreTrueFor c i (initial_item p) set
  true_passed b p rest is of empty = λ other belong t has.
      let y = opened_with (both_of c) b p of other belong in
      let (o, same, v) = true t has in
      subst (λ z. IsLookahead (both_of c) (prefix_in c (own_of c + i)) z t) (sym y.is) (
        o,
        same,
        valid.close item t b rest y.q t (y.of.0) v is (y.of.1)
            ((First-append (both_of c) rest (Terminal t ∷ []) t).1 (inr (empty, ([], Derives-same (both_of c) (Terminal t ∷ []))))),
      )
