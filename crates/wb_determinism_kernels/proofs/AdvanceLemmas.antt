-- The list of the items that move over symbols: how it is made, and what a run of it has.
use Rattle.std.proofs.Common.{◌≡◌, ℕ, ◌+◌, ◌-◌, ◌<◌, ◌≤◌, ◌⊎◌, Bool, true, false, List, [], ◌∷◌, ◌++◌, length, get_or, Some, refl, sym, ◌∙◌}
use Rattle.std.proofs.Common.{ap, subst, inl, inr, arith}
use Rattle.std.proofs.lemmas.List.{length-map}
use Rattle.std.specs.Prelude.{slice_get, slice_index_or, Contains, ◌↔◌}
use Rattle.std.specs.List.{between}
use Rattle.std.specs.Option.{option_map}
use Rattle.std.specs.Ordering.{is_lt, ordering_then, nat_cmp, bool_cmp}
use Rattle.std.specs.declared.cmp.Ordering.TheVariants.{Less, Equal}
use Rattle.std.specs.Cmp.{nat_cmp_is}
use Rattle.std.proofs.lemmas.Bool.{cases_eq, cases_lt, true≢false}
use Rattle.std.proofs.lemmas.Option.{slice_get_within, slice_get-get_or, slice_get-map}
use Rattle.std.proofs.lemmas.List.Edits.{length-between, get_or-between}
use Rattle.wb_lemmas.proofs.Places.{at_once, at_within, default_at}
use Rattle.wb_lemmas.proofs.Members.{contains_at, place_of, contains_push, push_contains, push_contains_last}
use Rattle.wb_base.specs.declared.symbol.Symbol.{Symbol}
use Rattle.wb_base.specs.Grammar.{GrammarView}
use Rattle.wb_grammar_theory.specs.declared.item.Item.{Item}
use Rattle.wb_grammar_theory.specs.Items.{after_dot, advance}
use Rattle.wb_determinism_kernels.specs.declared.advance.Advance.{Advance}
use Rattle.wb_determinism_kernels.specs.Inner.Advances.{AdvancesUpTo, AreAdvancesRising, AdvancePrecedes, HasAdvance, IsRun, items_of}
use Rattle.wb_determinism_kernels.specs.Inner.Advances.{symbol_by}
use Rattle.wb_determinism_kernels.specs.Inner.Advances.{symbol_of}
use Rattle.wb_items.specs.Kernels.{Precedes}
use Rattle.wb_items.specs.Order.{SymbolPrecedes}
use Rattle.wb_items.specs.Sorted.{AreRising}
use Rattle.wb_items.specs.Moved.{IsMoved}
use Rattle.wb_items.proofs.OrderLemmas.{less_by}
use Rattle.wb_items.proofs.SymbolOrder.{symbol_not_itself}

pub advances_start : (g : GrammarView) (closure : List Item) → AdvancesUpTo g closure [] 0
advances_start g closure = record {
  sound = λ a k. absurd (omega (arith, k.1));
  complete = λ j item x rest lt at is. absurd (omega arith);
}

no_symbol : (x : Symbol) (rest : List Symbol) → [] ≡ x ∷ rest → ⊥
no_symbol x rest e = cc

first_same : (x y : Symbol) (rest more : List Symbol) → x ∷ rest ≡ y ∷ more → x ≡ y
first_same x y rest more e = cc

-- an item with nothing after its dot
pub advances_pass : (g : GrammarView) (closure : List Item) (list : List Advance) (n : ℕ) (item : Item) → slice_get closure n ≡ Some item →
    after_dot g item ≡ [] → AdvancesUpTo g closure list n → AdvancesUpTo g closure list (n + 1)
advances_pass g closure list n item here nothing h = record {
  sound = λ a k. (let (j, i, r, lt, at, stands, e) = h.sound a k in (j, i, r, omega (arith, lt), at, stands, e));
  complete = λ j other x rest lt at is. elim (cases_eq j n) [
    | inl same ↦ absurd (no_symbol x rest
        (sym nothing ∙ subst (λ z. after_dot g z ≡ x ∷ rest)
        (at_once closure n other item (subst (λ k. slice_get closure k ≡ Some other) same at) here) is))
    | inr ne ↦ h.complete j other x rest (omega arith) at is
  ];
}

-- an item with a symbol after its dot
pub advances_take : (g : GrammarView) (closure : List Item) (list : List Advance) (n : ℕ) (item : Item) (x : Symbol) (rest : List Symbol)
    (a : Advance) → slice_get closure n ≡ Some item → after_dot g item ≡ x ∷ rest → symbol_of a ≡ x → a.item ≡ advance item →
    AdvancesUpTo g closure list n → AdvancesUpTo g closure (list ++ a ∷ []) (n + 1)
advances_take g closure list n item x rest a here is over e h = record {
  sound = λ b k. elim (contains_push list a b k) [
    | inl old ↦ (let (j, i, r, lt, at, stands, f) = h.sound b old in (j, i, r, omega (arith, lt), at, stands, f))
    | inr same ↦ (
      n,
      item,
      rest,
      omega arith,
      here,
      is ∙ ap (λ z. z ∷ rest) (sym over ∙ ap (λ (z : Advance). symbol_of z) same),
      ap (λ (z : Advance). z.item) (sym same) ∙ e,
    )
  ];
  complete = λ j other y more lt at before. elim (cases_eq j n) [
    | inl same ↦
        let f : other ≡ item = at_once closure n other item (subst (λ k. slice_get closure k ≡ Some other) same at) here in
        record {
          advance = a;
          listed = push_contains_last list a;
          over = over ∙ first_same x y rest more (sym is ∙ subst (λ z. after_dot g z ≡ y ∷ more) f before);
          is = e ∙ ap advance (sym f);
        }
    | inr ne ↦ (let old = h.complete j other y more (omega arith) at before in record {
      advance = old.advance;
      listed =
          push_contains list a old.advance old.listed;
      over = old.over;
      is = old.is;
    })
  ];
}

-- all items of the closure are there, in any order
pub advances_done : (g : GrammarView) (closure : List Item) (list moved : List Advance) (n : ℕ) → length closure ≤ n →
    AdvancesUpTo g closure list n → ((a : Advance) → Contains list a → Contains moved a) →
    ((a : Advance) → Contains moved a → Contains list a) → (x : Symbol) (item : Item) → HasAdvance moved x item ↔ IsMoved g closure x item
advances_done g closure list moved n past h there back x item = (
  λ k. (let (j, i, r, lt, at, stands, e) = h.sound k.advance (back k.advance k.listed) in
      record { item = i; rest = r; listed = contains_at closure i j at; before_dot = stands ∙ ap (λ z. z ∷ r) k.over; is = sym k.is ∙ e }),
  λ m. (let (j, at) = place_of closure m.item m.listed in
      let old = h.complete j m.item x m.rest (let lt = slice_get_within closure j m.item at in omega (arith, lt)) at m.before_dot in
      record { advance = old.advance; listed = there old.advance old.listed; over = old.over; is = old.is ∙ sym m.is }),
)

less_kind : (k l : Bool) (n m : ℕ) (i j : Item) →
    (SymbolPrecedes (symbol_by k n) (symbol_by l m)) ⊎ ((symbol_by k n ≡ symbol_by l m) × Precedes i j) →
    is_lt (ordering_then (bool_cmp k l)
    (ordering_then (nat_cmp n m) (ordering_then (nat_cmp i.production j.production) (nat_cmp i.dot j.dot)))) ≡ true
less_kind false false n m i j (inl p) = ap
    (λ o. is_lt (ordering_then o (ordering_then (nat_cmp i.production j.production) (nat_cmp i.dot j.dot)))) (sym (nat_cmp_is n m Less p))
less_kind false false n m i j (inr (e, p)) = ap
    (λ o. is_lt (ordering_then o (ordering_then (nat_cmp i.production j.production) (nat_cmp i.dot j.dot))))
    (sym (nat_cmp_is n m Equal (let f : n ≡ m = cc in f))) ∙ less_by i j p
less_kind false true n m i j h = refl
less_kind true false n m i j (inl p) = absurd p
less_kind true false n m i j (inr (e, p)) = cc
less_kind true true n m i j (inl p) = ap
    (λ o. is_lt (ordering_then o (ordering_then (nat_cmp i.production j.production) (nat_cmp i.dot j.dot)))) (sym (nat_cmp_is n m Less p))
less_kind true true n m i j (inr (e, p)) = ap
    (λ o. is_lt (ordering_then o (ordering_then (nat_cmp i.production j.production) (nat_cmp i.dot j.dot))))
    (sym (nat_cmp_is n m Equal (let f : n ≡ m = cc in f))) ∙ less_by i j p

abbrev advance_lt : Advance → Advance → Bool
advance_lt a b = is_lt
    (ordering_then (bool_cmp a.nonterminal b.nonterminal)
    (ordering_then (nat_cmp a.number b.number)
    (ordering_then (nat_cmp a.item.production b.item.production) (nat_cmp a.item.dot b.item.dot))))

-- a sorted list rises
pub sorted_advances : (list : List Advance) →
    ((k : ℕ) (d : Advance) → 0 ≤ k → k + 1 < length list → advance_lt (slice_index_or list (k + 1) d) (slice_index_or list k d) ≡ false) →
    AreAdvancesRising list
sorted_advances list sorted k a b at at' less =
    let here : slice_index_or list k a ≡ a = default_at list k a a at in
    let there : slice_index_or list (k + 1) a ≡ b = default_at list (k + 1) a b at' in
    let before : AdvancePrecedes (slice_index_or list (k + 1) a) (slice_index_or list k a) = subst
    (λ z. AdvancePrecedes z (slice_index_or list k a)) (sym there) (subst (AdvancePrecedes b) (sym here) less) in
    true≢false (sym (by_parts (slice_index_or list (k + 1) a) (slice_index_or list k a) before) ∙
    sorted k a (omega arith) (slice_get_within list (k + 1) b at'))
  where
    by_parts : (c d : Advance) → AdvancePrecedes c d → advance_lt c d ≡ true
    by_parts c d h = less_kind c.nonterminal d.nonterminal c.number d.number c.item d.item h

-- an element of a part is one of the list
part_at : (list : List Advance) (place end j : ℕ) (a : Advance) → end ≤ length list → slice_get (between place end list) j ≡ Some a →
    (place + j < end) × (slice_get list (place + j) ≡ Some a)
part_at list place end j a le at =
    let lt = slice_get_within (between place end list) j a at in
    let len = length-between list place end le in
    let inside : place + j < end = omega (arith, lt, len) in
    let is : get_or (between place end list) j a ≡ a = default_at (between place end list) j a a at in
    (inside, slice_get-get_or list (place + j) a (omega (arith, inside)) ∙ ap Some (sym (get_or-between list place end j a inside) ∙ is))

at_part : (list : List Advance) (place end j : ℕ) (a : Advance) → end ≤ length list → place ≤ j → j < end → slice_get list j ≡ Some a →
    Contains (between place end list) a
at_part list place end j a le from lt at =
    let k = j - place in
    let e : place + k ≡ j = omega arith in
    let len = length-between list place end le in
    contains_at (between place end list) a k (slice_get-get_or (between place end list) k a (omega (arith, len)) ∙
    ap Some (get_or-between list place end k a (omega arith) ∙ ap (λ m. get_or list m a) e ∙ default_at list j a a at))

item_at : (list : List Advance) (j : ℕ) (a : Advance) → slice_get list j ≡ Some a → slice_get (items_of list) j ≡ Some a.item
item_at list j a at = slice_get-map (λ (z : Advance). z.item) list j ∙ ap (option_map (λ (z : Advance). z.item)) at

-- an item is there with a symbol
pub item_from : (list : List Advance) (j : ℕ) (item : Item) → slice_get (items_of list) j ≡ Some item →
    (a : Advance) × (slice_get list j ≡ Some a) × (a.item ≡ item)
item_from list j item at =
    let lt : j < length list = (let w =
    slice_get_within (items_of list) j item at in omega (arith, w, length-map list (λ (z : Advance). z.item))) in
    let (a, here) = at_within list j lt in
    (a, here, at_once (items_of list) j a.item item (item_at list j a here) at)

module _ (list : List Advance) (x : Symbol) (place end : ℕ) (rising : AreAdvancesRising list) (run : IsRun list x place end) where
  -- the items of a run rise
  pub run_rises : AreRising (items_of (between place end list))
  run_rises k one two at at' less =
      let (a, a_at, a_is) = item_from (between place end list) k one at in
      let (b, b_at, b_is) = item_from (between place end list) (k + 1) two at' in
      let (lt, there) = part_at list place end k a run.within a_at in
      let (lt', there') = part_at list place end (k + 1) b run.within b_at in
      let e : place + (k + 1) ≡ place + k + 1 = omega arith in
      rising (place + k) a b there (subst (λ n. slice_get list n ≡ Some b) e there')
      (inr (
        run.same (place + (k + 1)) b (omega arith) lt' there' ∙ sym (run.same (place + k) a (omega arith) lt there),
        subst (Precedes b.item) (sym a_is) (subst (λ z. Precedes z one) (sym b_is) less),
      ))

  -- where no earlier place has the symbol, the run has all its items
  pub run_exact : ((j : ℕ) (a : Advance) → j < place → slice_get list j ≡ Some a → symbol_of a ≡ x → ⊥) → (item : Item) →
      Contains (items_of (between place end list)) item ↔ HasAdvance list x item
  run_exact apart item = (
    λ k.
        let (j, at) = place_of (items_of (between place end list)) item k in
        let (a, a_at, is) = item_from (between place end list) j item at in
        let (lt, there) = part_at list place end j a run.within a_at in
        record {
          advance = a;
          listed = contains_at list a (place + j) there;
          over = run.same (place + j) a (omega arith) lt there;
          is = is;
        },
    λ h.
        let (j, at) = place_of list h.advance h.listed in
        elim (cases_lt j place) [
          | inl lt ↦ absurd (apart j h.advance lt at h.over)
          | inr ge ↦ elim (cases_lt j end) [
            | inl lt ↦
                let (i, i_at) = place_of (between place end list) h.advance (at_part list place end j h.advance run.within ge lt at) in
                subst (Contains (items_of (between place end list))) h.is
                (contains_at (items_of (between place end list)) h.advance.item i (item_at (between place end list) i h.advance i_at))
            | inr past ↦ absurd (symbol_not_itself x (subst (SymbolPrecedes x) h.over (run.beyond j h.advance past at)))
          ]
        ],
  )
