-- Items in order, in the union's numbers, and lists of the same items in order.
use Rattle.std.proofs.Common.{◌+◌, ◌-◌, ◌<◌, ◌≤◌, ◌∙◌, ◌∷◌, ◌≡◌, ◌⊎◌, List, [], ap, arith, cond, inl, inr, length, map, refl, subst, sym, ℕ}
use Rattle.std.proofs.Common.{suc, Some}
use Rattle.std.specs.Option.{option_map}
use Rattle.std.specs.Prelude.{Contains, ltb, slice_get}
use Rattle.std.proofs.lemmas.Bool.{cases_lt, le-ltb, lt-ltb}
use Rattle.std.proofs.lemmas.List.{length-map}
use Rattle.std.proofs.lemmas.Option.{same_Some, slice_get-map, slice_get_within}
use Rattle.wb_lemmas.proofs.Members.{contains_at, contains_cases, contains_first, contains_later, nothing_in, place_of}
use Rattle.wb_lemmas.proofs.Places.{at_within}
use Rattle.wb_grammar_theory.specs.declared.item.Item.{Item}
use Rattle.wb_items.specs.Kernels.{AreInOrder, Precedes}
use Rattle.wb_items.specs.Table.{SameItems}
use Rattle.wb_items.proofs.OrderLemmas.{not_itself, precedes_then}
use Rattle.wb_compose_theory.specs.Renamings.{renamed_item}
use Rattle.wb_compose_theory_kernels.proofs.NameLemmas.{beside}
use Rattle.wb_compose_kernels.specs.declared.blocks.Block.{Block}
use Rattle.wb_compose_kernels.specs.declared.blocks.Blocks.{Blocks}
use Rattle.wb_compose_kernels.specs.Inner.Blocks.{IsHoleBy, names_by, number_by}

module _ (b : Block) where
  below_is : (t : ℕ) → t < b.own → number_by b t ≡ t
  below_is t below =
      ap (λ c. cond c t (cond (ltb t (b.own + b.size)) (t + b.before) ((t - (b.size + b.holes)) + b.total))) (lt-ltb t b.own below)

  stretch_is : (t : ℕ) → b.own ≤ t → t < b.own + b.size → number_by b t ≡ t + b.before
  stretch_is t far less =
      ap (λ c. cond c t (cond (ltb t (b.own + b.size)) (t + b.before) ((t - (b.size + b.holes)) + b.total))) (le-ltb t b.own far) ∙
      ap (λ c. cond c (t + b.before) ((t - (b.size + b.holes)) + b.total)) (lt-ltb t (b.own + b.size) less)

  past_is : (t : ℕ) → b.own + b.size ≤ t → number_by b t ≡ (t - (b.size + b.holes)) + b.total
  past_is t far =
      ap (λ c. cond c t (cond (ltb t (b.own + b.size)) (t + b.before) ((t - (b.size + b.holes)) + b.total)))
      (le-ltb t b.own (omega (arith, far))) ∙
      ap (λ c. cond c (t + b.before) ((t - (b.size + b.holes)) + b.total)) (le-ltb t (b.own + b.size) far)

  -- numbers that are no holes' keep their order
  pub number_rises : b.before + b.size ≤ b.total → (p q : ℕ) → p < q → ¬ IsHoleBy b p → ¬ IsHoleBy b q → number_by b p < number_by b q
  number_rises fits p q lt free more = by (cases_lt p b.own) (cases_lt q b.own) (beside (b.own + b.size) b.holes p free)
      (beside (b.own + b.size) b.holes q more)
    where
      by : (p < b.own) ⊎ (b.own ≤ p) → (q < b.own) ⊎ (b.own ≤ q) → (p < b.own + b.size) ⊎ ((b.own + b.size) + b.holes ≤ p) →
          (q < b.own + b.size) ⊎ ((b.own + b.size) + b.holes ≤ q) → number_by b p < number_by b q
      by (inl low) (inl low') x y = let e = below_is p low in let f = below_is q low' in omega (arith, e, f, lt)
      by (inl low) (inr far) x (inl less) = let e = below_is p low in let f = stretch_is q far less in omega (arith, e, f, lt)
      by (inl low) (inr far) x (inr over) =
          let e = below_is p low in let f = past_is q (omega (arith, over)) in omega (arith, e, f, low, over)
      by (inr far) (inl low) x y = absurd (omega (arith, far, low, lt))
      by (inr far) (inr far') (inl less) (inl less') =
          let e = stretch_is p far less in let f = stretch_is q far' less' in omega (arith, e, f, lt)
      by (inr far) (inr far') (inl less) (inr over) =
          let e = stretch_is p far less in let f = past_is q (omega (arith, over)) in omega (arith, e, f, less, over, fits)
      by (inr far) (inr far') (inr over) (inl less) = absurd (omega (arith, over, less, lt))
      by (inr far) (inr far') (inr over) (inr over') =
          let e = past_is p (omega (arith, over)) in let f = past_is q (omega (arith, over')) in omega (arith, e, f, over, over', lt)

-- so do items
pub items_rise : (b : Blocks) → b.productions.before + b.productions.size ≤ b.productions.total → (items : List Item) →
    ((item : Item) → Contains items item → ¬ IsHoleBy b.productions item.production) → AreInOrder items →
    AreInOrder (map (renamed_item (names_by b)) items)
items_rise b fits items free order i j x y lt one two = go (place_in i x one) (place_in j y two)
  where
    place_in : (k : ℕ) (z : Item) → slice_get (map (renamed_item (names_by b)) items) k ≡ Some z →
        (a : Item) × (slice_get items k ≡ Some a) × (renamed_item (names_by b) a ≡ z)
    place_in k z at =
        let w : k < length items = (let v = slice_get_within (map (renamed_item (names_by b)) items) k z at in
        omega (arith, v, length-map items (renamed_item (names_by b)))) in
        let (a, there) = at_within items k w in (
          a,
          there,
          same_Some (renamed_item (names_by b) a) z
              (sym (slice_get-map (renamed_item (names_by b)) items k ∙ ap (option_map (renamed_item (names_by b))) there) ∙ at),
        )

    rises : (a c : Item) → Contains items a → Contains items c → Precedes a c →
        Precedes (renamed_item (names_by b) a) (renamed_item (names_by b) c)
    rises a c has has' (inl less) = inl (number_rises b.productions fits a.production c.production less (free a has) (free c has'))
    rises a c has has' (inr (same, less)) = inr (ap (number_by b.productions) same, less)

    go : (a : Item) × (slice_get items i ≡ Some a) × (renamed_item (names_by b) a ≡ x) →
        (c : Item) × (slice_get items j ≡ Some c) × (renamed_item (names_by b) c ≡ y) → Precedes x y
    go (a, at, a_is) (c, at', c_is) =
        subst (λ z. Precedes z y) a_is (subst (Precedes (renamed_item (names_by b) a)) c_is
        (rises a c (contains_at items a i at) (contains_at items c j at') (order i j a c lt at at')))

-- the first precedes each of the others
first_precedes : (x : Item) (xs : List Item) → AreInOrder (x ∷ xs) → (z : Item) → Contains xs z → Precedes x z
first_precedes x xs order z has = let (j, at) = place_of xs z has in order 0 (suc j) x z (omega arith) refl at

rest_in_order : (x : Item) (xs : List Item) → AreInOrder (x ∷ xs) → AreInOrder xs
rest_in_order x xs order i j a b lt one two = order (suc i) (suc j) a b (omega (arith, lt)) one two

-- lists in order with the same items are the same
pub same_in_order : (one other : List Item) → AreInOrder one → AreInOrder other → SameItems one other → one ≡ other
same_in_order [] [] p q same = refl
same_in_order [] (y ∷ ys) p q same = absurd (nothing_in y ((same y).1 (contains_first y ys)))
same_in_order (x ∷ xs) [] p q same = absurd (nothing_in x ((same x).0 (contains_first x xs)))
same_in_order (x ∷ xs) (y ∷ ys) p q same =
    λ i. first i ∷ same_in_order xs ys (rest_in_order x xs p) (rest_in_order y ys q) rest i
  where
    first : x ≡ y
    first = elim (contains_cases y x ys ((same x).0 (contains_first x xs))) [
      | inl is ↦ sym is
      | inr later ↦ elim (contains_cases x y xs ((same y).1 (contains_first y ys))) [
        | inl is ↦ is
        | inr later' ↦ absurd (not_itself x (precedes_then x y x (first_precedes x xs p y later') (first_precedes y ys q x later)))
      ]
    ]

    rest : SameItems xs ys
    rest z = (
      λ has. elim (contains_cases y z ys ((same z).0 (contains_later x z xs has))) [
        | inl is ↦ absurd (not_itself x (subst (Precedes x) (sym (first ∙ is)) (first_precedes x xs p z has)))
        | inr later ↦ later
      ],
      λ has. elim (contains_cases x z xs ((same z).1 (contains_later y z ys has))) [
        | inl is ↦ absurd (not_itself y (subst (Precedes y) (sym (sym first ∙ is)) (first_precedes y ys q z has)))
        | inr later ↦ later
      ],
    )
