-- The lookaheads of an item at a new kernel, by the items that have a set there.
use Rattle.std.proofs.Common.{◌≡◌, ◌≢◌, ◌<◌, ◌≤◌, ◌+◌, ◌++◌, ◌∷◌, ◌∙◌, ◌⊎◌, [], ℕ, Bool, false, List, All, Some, length, take}
use Rattle.std.proofs.Common.{replicate}
use Rattle.std.proofs.Common.{get_or, refl, sym, ap, subst, inl, inr, arith}
use Rattle.std.specs.Prelude.{◌↔◌, Contains, IfSome, IsTrue, slice_get}
use Rattle.std.proofs.lemmas.Bool.{cases_eq, true≢false}
use Rattle.std.proofs.lemmas.List.{length-replicate, map-append, take_all, take_more}
use Rattle.std.proofs.lemmas.List.Elements.{All-push}
use Rattle.std.proofs.lemmas.Option.{slice_get-get_or, slice_get_within}
use Rattle.wb_lemmas.proofs.Places.{at_once, default_at}
use Rattle.wb_base.specs.declared.symbol.Symbol.{Symbol}
use Rattle.wb_base.specs.Grammar.{GrammarView}
use Rattle.wb_compose_theory.specs.Renamings.{renamed_item}
use Rattle.wb_determinism_lookaheads.specs.NewLookaheads.{Lists, NewLookaheadsView, set_at, slots_of}
use Rattle.wb_determinism_lookaheads.proofs.TogetherLemmas.{rule_of}
use Rattle.wb_grammar_theory.specs.declared.item.Item.{Item}
use Rattle.wb_grammar_theory.specs.Items.{after_dot}
use Rattle.wb_grammar_theory.proofs.ProductionLemmas.{production_once, production_within}
use Rattle.wb_items.specs.Apart.{BelongTogether, Opens}
use Rattle.wb_items.specs.declared.item_lookahead.ItemLookahead.{ItemLookahead}
use Rattle.wb_items.specs.Kernels.{ListsItems}
use Rattle.wb_items.specs.Lookaheads.{items_in}
use Rattle.wb_termset.specs.Sets.{IsMember, IsUnion}
use Rattle.wb_termset.proofs.CallerLemmas.{IsEmpty-replicate}
use Rattle.wb_determinism_beside.specs.declared.found.Found.{Found}
use Rattle.wb_determinism_beside.specs.Inner.Found.{HasForeign, IsFound, both_in, new_in, prefix_at, up_in}
use Rattle.wb_determinism_beside.specs.Inner.Rows.{AddsLooks, HasLooks, IsListedUpTo, IsRow, ListsBefore}

module _ (g : GrammarView) (item : Item) where
  -- an item with its dot past the left end is opened by none
  pub past_left : (dot : ℕ) → 0 < item.dot → (b : ℕ) → Opens g b item → ⊥
  past_left dot past b (zero, right, rule) = omega (arith, past, zero)

  -- nor is one of no production
  pub past_rules : length g.productions ≤ item.production → (b : ℕ) → Opens g b item → ⊥
  past_rules past b (zero, right, rule) =
      let within = production_within g item.production b right rule in omega (arith, past, within)

  -- an initial item is opened by the left side of its production
  pub opened_by : (left : ℕ) → item.dot ≤ 0 → item.production < length g.productions
      → IfSome (slice_get g.productions item.production) (λ r. left ≡ r.0) → Opens g left item
  opened_by left dot within is =
      let (right, rule) = rule_of g item.production left within is in (omega (arith, dot), right, rule)

-- one nonterminal opens both items
abbrev pub AreOpened : GrammarView → Item → Item → Type 0
AreOpened g one other = (b : ℕ) × Opens g b one × Opens g b other

module _ (g : GrammarView) (one other : Item) where
  no_left : ((b : ℕ) → ¬ Opens g b one) → AreOpened g one other → ⊥
  no_left none (b, left, right) = none b left

  no_right : ((b : ℕ) → ¬ Opens g b other) → AreOpened g one other → ⊥
  no_right none (b, left, right) = none b right

  -- none opens both where none opens the one, or the other
  pub opened_not_left : ((b : ℕ) → ¬ Opens g b one) → IsTrue false ↔ AreOpened g one other
  opened_not_left none = (λ yes. absurd (true≢false (sym yes)), λ both. absurd (no_left none both))

  pub opened_not_right : ((b : ℕ) → ¬ Opens g b other) → IsTrue false ↔ AreOpened g one other
  opened_not_right none = (λ yes. absurd (true≢false (sym yes)), λ both. absurd (no_right none both))

  -- and else where it is the same
  same_opener : (a b : ℕ) → Opens g a one → Opens g b other → AreOpened g one other → a ≡ b
  same_opener a b (zero, right, rule) (zero', right', rule') (d, (dot, rest, left), (dot', more, also)) =
      (production_once g one.production a d right rest rule left).0
      ∙ sym (production_once g other.production b d right' more rule' also).0

  pub opened_same : (a b : ℕ) (r : Bool) → IsTrue r ↔ (a ≡ b) → Opens g a one → Opens g b other → IsTrue r ↔ AreOpened g one other
  opened_same a b r is left right = (
    λ yes. (b, subst (λ c. Opens g c one) (is.0 yes) left, right),
    λ both. is.1 (same_opener a b left right both),
  )

-- what is in no set
pub in_none : (t : ℕ) → IsMember [] t → ⊥
in_none t has = true≢false (sym has)

module _ (k : GrammarView) (sets : NewLookaheadsView) (i : ℕ) (item : Item) where
  -- before the first there is nothing
  pub listed_none : (set : List Bool) (count : ℕ) → count ≡ k.terminals + 1 → set ≡ replicate count false → IsListedUpTo k sets i item 0 set
  listed_none set count count_is is = record {
    len = ap (λ (z : List Bool). length z) is ∙ length-replicate count false ∙ count_is;
    each = λ t. (
      λ has. absurd (IsEmpty-replicate count t (subst (λ (z : List Bool). IsMember z t) is has)),
      λ (j, one, below, at, joined, member). absurd (omega (arith, below)),
    );
  }

  -- one more, whose set was added where it belongs with the item
  listed_more : (n : ℕ) (one : Item) (old new : List Bool) → slice_get (slots_of sets i) n ≡ Some one → IsListedUpTo k sets i item n old
      → length new ≡ length old
      → ((t : ℕ) → IsMember new t ↔ (IsMember old t ⊎ (BelongTogether k one item × IsMember (set_at sets i n) t)))
      → IsListedUpTo k sets i item (n + 1) new
  listed_more n one old new at are len each = record {
    len = len ∙ are.len;
    each = λ t. (λ has. out t ((each t).0 has), λ lists. (each t).1 (back t lists));
  }
    where
      out : (t : ℕ) → IsMember old t ⊎ (BelongTogether k one item × IsMember (set_at sets i n) t) → ListsBefore k sets i item (n + 1) t
      out t (inl has) =
          let (j, other, below, there, joined, member) = (are.each t).0 has in
          (j, other, omega (arith, below), there, joined, member)
      out t (inr (joined, member)) = (n, one, omega arith, at, joined, member)

      back : (t : ℕ) → ListsBefore k sets i item (n + 1) t → IsMember old t ⊎ (BelongTogether k one item × IsMember (set_at sets i n) t)
      back t (j, other, below, there, joined, member) = elim (cases_eq j n) [
        | inl same ↦
            inr (
              subst (λ (o : Item). BelongTogether k o item)
                  (at_once (slots_of sets i) n other one (subst (λ m. slice_get (slots_of sets i) m ≡ Some other) same there) at) joined,
              subst (λ m. IsMember (set_at sets i m) t) same member,
            )
        | inr differ ↦ inl ((are.each t).1 (j, other, omega (arith, below, differ), there, joined, member))
      ]

  module _ (n : ℕ) (one : Item) (old : List Bool) (at : slice_get (slots_of sets i) n ≡ Some one)
      (are : IsListedUpTo k sets i item n old) where
    -- one that doesn't belong with it
    pub listed_skip : (BelongTogether k one item → ⊥) → IsListedUpTo k sets i item (n + 1) old
    listed_skip apart = listed_more n one old old at are refl (λ t. (
      λ has. inl has,
      λ either. elim either [ inl has ↦ has | inr (joined, member) ↦ absurd (apart joined) ],
    ))

    -- one without a set
    pub listed_empty : set_at sets i n ≡ [] → IsListedUpTo k sets i item (n + 1) old
    listed_empty none = listed_more n one old old at are refl (λ t. (
      λ has. inl has,
      λ either. elim either [
        | inl has ↦ has
        | inr (joined, member) ↦ absurd (in_none t (subst (λ (z : List Bool). IsMember z t) none member))
      ],
    ))

    -- one with it
    pub listed_union : (set new : List Bool) → BelongTogether k one item → set ≡ set_at sets i n → IsUnion old set new
        → IsListedUpTo k sets i item (n + 1) new
    listed_union set new joined is union = listed_more n one old new at are union.len (λ t. (
      λ has. elim ((union.each t).0 has) [
        | inl was ↦ inl was
        | inr member ↦ inr (joined, subst (λ (z : List Bool). IsMember z t) is member)
      ],
      λ either. elim either [
        | inl was ↦ (union.each t).1 (inl was)
        | inr (also, member) ↦ (union.each t).1 (inr (subst (λ (z : List Bool). IsMember z t) (sym is) member))
      ],
    ))

  -- all
  pub listed_all : (n : ℕ) (set : List Bool) → length (slots_of sets i) ≤ n → IsListedUpTo k sets i item n set → (t : ℕ)
      → IsMember set t ↔ Lists k sets i item t
  listed_all n set past are t = (
    λ has. let (j, one, below, there, joined, member) = (are.each t).0 has in (j, one, there, joined, member),
    λ (j, one, there, joined, member).
        let within = slice_get_within (slots_of sets i) j one there in
        (are.each t).1 (j, one, omega (arith, within, past), there, joined, member),
  )

-- an item that has a set, as it was read
pub slot_at : (sets : NewLookaheadsView) (i : ℕ) (slots : List Item) (n : ℕ) (d : Item) → slice_get sets.slots i ≡ Some slots
    → n < length (slots_of sets i) → slice_get (slots_of sets i) n ≡ Some (get_or slots n d)
slot_at sets i slots n d at within =
    let same : slots_of sets i ≡ slots = default_at sets.slots i [] slots at in
    slice_get-get_or (slots_of sets i) n d within ∙ ap (λ (z : List Item). Some (get_or z n d)) same

pub slots_len : (sets : NewLookaheadsView) (i : ℕ) (slots : List Item) → slice_get sets.slots i ≡ Some slots
    → length slots ≡ length (slots_of sets i)
slots_len sets i slots at = ap (λ (z : List Item). length z) (sym (default_at sets.slots i [] slots at))

module _ (x : Found) (is : IsFound x) (i : ℕ) (below : i < new_in x) where
  within_steps : i < length x.new.now.index.steps
  within_steps = let len = is.new.kernels_len in omega (arith, below, len)

  -- an item of the kernel that isn't the host's
  pub foreign_at : (kernel : List Item) → slice_get x.new.now.index.kernels i ≡ Some kernel → (item : Item) → Contains kernel item
      → ((own : Item) → item ≢ renamed_item (up_in x) own) → HasForeign x i
  foreign_at kernel at item has foreign = record { item = item; has = (is.new.kernels i kernel at item).0 has; foreign = foreign }

  -- the set of a complete item has its lookaheads
  pub listed_looks : (item : Item) (set : List Bool)
      → (length set ≡ (both_in x).terminals + 1) × ((t : ℕ) → IsMember set t ↔ Lists (both_in x) x.sets.now i item t)
      → HasLooks (both_in x) (prefix_at x i) (record { item = item; set = set })
  listed_looks item set (len, each) = record {
    len = len;
    each = λ complete t. (
      λ has. (is.sets.exact i within_steps item t).0 ((each t).0 has),
      λ look. (each t).1 ((is.sets.exact i within_steps item t).1 look),
    );
  }

  -- there are slots and a closure
  pub slots_there : i < length x.sets.now.slots
  slots_there = let len = is.sets.len in omega (arith, below, len)

  pub closure_there : i < length x.new.now.closures
  closure_there = let a = is.new.closures_len in let b = within_steps in omega (arith, a, b)

module _ (k : GrammarView) (prefix : List Symbol) where
  -- the set of an item that isn't complete may be empty
  pub no_looks : (item : Item) (symbol : Symbol) (rest : List Symbol) (set : List Bool) (count : ℕ) → after_dot k item ≡ symbol ∷ rest
      → count ≡ k.terminals + 1 → set ≡ replicate count false → HasLooks k prefix (record { item = item; set = set })
  no_looks item symbol rest set count at count_is is = record {
    len = ap (λ (z : List Bool). length z) is ∙ length-replicate count false ∙ count_is;
    each = λ complete t. (let bad : symbol ∷ rest ≡ [] = sym at ∙ complete in absurd (cc));
  }

  -- one item more
  pub looks_added : (closure : List Item) (n : ℕ) (d : Item) (row more : List ItemLookahead) → n < length closure
      → AddsLooks k prefix (get_or closure n d) row more → (items_in row ≡ take n closure) × All (HasLooks k prefix) row
      → (items_in more ≡ take (n + 1) closure) × All (HasLooks k prefix) more
  looks_added closure n d row more within adds (items, sets) = (
    ap items_in adds.after ∙ map-append (λ (l : ItemLookahead). l.item) row (adds.looks ∷ [])
        ∙ ap (λ (z : List Item). z ++ adds.looks.item ∷ []) items ∙ ap (λ (z : Item). take n closure ++ z ∷ []) adds.of_item
        ∙ sym (take_more closure n d within),
    subst (All (HasLooks k prefix)) (sym adds.after) (All-push (HasLooks k prefix) row adds.looks sets adds.has),
  )

  -- all items
  pub looks_all : (closure : List Item) (n : ℕ) (row : List ItemLookahead) → length closure ≤ n → ListsItems k prefix closure
      → (items_in row ≡ take n closure) × All (HasLooks k prefix) row → IsRow k prefix row
  looks_all closure n row past exact (items, sets) = record {
    items = subst (ListsItems k prefix) (sym (items ∙ take_all n closure past)) exact;
    sets = sets;
  }
