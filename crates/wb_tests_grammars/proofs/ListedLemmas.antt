-- Kernels and moves as they are listed.
use Rattle.std.proofs.Common.{◌+◌, ◌<◌, ◌∙◌, ◌∷◌, ◌++◌, ◌≡◌, ◌⊎◌, List, [], ap}
use Rattle.std.proofs.Common.{arith, inl, inr, length, length-append, refl, subst, suc, sym, ℕ, Some}
use Rattle.std.specs.Prelude.{◌↔◌, Contains, slice_get}
use Rattle.std.proofs.lemmas.Bool.{cases_lt}
use Rattle.wb_lemmas.proofs.Members.{contains_at, contains_push, nothing_in, place_of, push_contains, push_contains_last}
use Rattle.wb_lemmas.proofs.Places.{at_once, at_push, nothing_at}
use Rattle.std.proofs.lemmas.Option.{slice_get_within}
use Rattle.wb_base.specs.declared.symbol.Symbol.{Symbol}
use Rattle.wb_grammar_theory.specs.declared.item.Item.{Item}
use Rattle.wb_items.specs.declared.transitions.Move.{Move}
use Rattle.wb_items.specs.Kernels.{AreInOrder, IsLedTo, KernelsView, LeadsTo, ListsKernel, count_of, prefix_of}
use Rattle.wb_items.specs.Parts.{AreListed, IsReached}
use Rattle.wb_tests_grammars.specs.Listed.{AddsRow, AreListsUpTo, AreMovesUpTo, IsOfRow}

pub no_lists : (kernels : KernelsView) → AreListsUpTo kernels [] 0
no_lists kernels = record {
  len = refl;
  each = λ s list at. absurd (nothing_at list s at);
  in_order = λ s list at. absurd (nothing_at list s at);
}

pub one_more : (kernels : KernelsView) (lists more : List (List Item)) (n : ℕ) (list : List Item) → more ≡ lists ++ list ∷ [] →
    ListsKernel kernels.grammar (prefix_of kernels n) list → AreInOrder list → AreListsUpTo kernels lists n → AreListsUpTo kernels more
    (n + 1)
one_more kernels lists more n list is exact order h = subst (λ z. AreListsUpTo kernels z (n + 1)) (sym is) (record {
  len = (let l = h.len in omega (arith, l, length-append {A = List Item} lists (list ∷ [])));
  each = λ s z at. elim (at_push lists list z s at) [
    | inl before ↦ h.each s z before
    | inr (s_is, z_is) ↦ subst (ListsKernel kernels.grammar (prefix_of kernels s)) z_is
        (subst (λ k. ListsKernel kernels.grammar (prefix_of kernels k) list) (sym (s_is ∙ h.len)) exact)
  ];
  in_order = λ s z at. elim (at_push lists list z s at) [ inl before ↦ h.in_order s z before | inr last ↦ subst AreInOrder last.1 order ];
})

pub no_moves : (kernels : KernelsView) → AreMovesUpTo kernels [] 0
no_moves kernels s x next = (
  λ has. absurd (nothing_in {X = ℕ × Symbol × ℕ} (s, x, next) has),
  λ (lt, leads). absurd (omega (arith, lt)),
)

pub row_start : (s : ℕ) (row : List Move) (old : List (ℕ × Symbol × ℕ)) → AddsRow s row 0 old old
row_start s row old = record {
  sound = λ m has. inl has;
  keeps = λ m has. has;
  complete = λ m z. (let lt = z.below in absurd (omega (arith, lt)));
}

pub row_more : (s : ℕ) (row : List Move) (n : ℕ) (old middle new : List (ℕ × Symbol × ℕ)) (move : Move) → slice_get row n ≡ Some move →
    new ≡ middle ++ (s, move.symbol, move.state) ∷ [] → AddsRow s row n old middle → AddsRow s row (n + 1) old new
row_more s row n old middle new move at is h = subst (AddsRow s row (n + 1) old) (sym is) (record {
  sound = λ m has. elim (contains_push middle one m has) [
    | inl before ↦ elim (h.sound m before) [
      | inl first ↦ inl first
      | inr z ↦ (let lt = z.below in inr (record { place = z.place; below = omega (arith, lt); move = z.move; at = z.at; is = z.is }))
    ]
    | inr last ↦ inr (record { place = n; below = omega arith; move = move; at = at; is = sym last })
  ];
  keeps = λ m has. push_contains middle one m (h.keeps m has);
  complete = λ m z. elim (cases_lt z.place n) [
    | inl before ↦ push_contains middle one m
        (h.complete m (record { place = z.place; below = before; move = z.move; at = z.at; is = z.is }))
    | inr past ↦ (let lt = z.below in let e : z.place ≡ n = omega (arith, lt, past) in
        let same : z.move ≡ move = at_once row n z.move move (subst (λ k. slice_get row k ≡ Some z.move) e z.at) at in
        subst (Contains (middle ++ one ∷ [])) (sym (z.is ∙ ap (λ (w : Move). (s, w.symbol, w.state)) same))
        (push_contains_last middle one))
  ];
})
  where
    one : ℕ × Symbol × ℕ
    one = (s, move.symbol, move.state)

pub moves_more : (kernels : KernelsView) (n : ℕ) (row : List Move) (old new : List (ℕ × Symbol × ℕ)) →
    ((x : Symbol) (next : ℕ) → Contains row (record { symbol = x; state = next }) ↔ LeadsTo kernels n x next) →
    AddsRow n row (length row) old new → AreMovesUpTo kernels old n → AreMovesUpTo kernels new (n + 1)
moves_more kernels n row old new exact h all s x next = (there, back)
  where
    there : Contains new (s, x, next) → (s < n + 1) × LeadsTo kernels s x next
    there has = elim (h.sound (s, x, next) has) [
      | inl before ↦ (let (lt, leads) = (all s x next).0 before in (omega (arith, lt), leads))
      | inr z ↦
          let s_is : s ≡ n = ap (λ (m : ℕ × Symbol × ℕ). m.0) z.is in
          let x_is : x ≡ z.move.symbol = ap (λ (m : ℕ × Symbol × ℕ). m.1) z.is in
          let next_is : next ≡ z.move.state = ap (λ (m : ℕ × Symbol × ℕ). m.2) z.is in
          let listed : Contains row (record { symbol = x; state = next }) = subst (Contains row)
          (sym (λ i. record { symbol = x_is i; state = next_is i })) (contains_at row z.move z.place z.at) in
          (omega (arith, s_is), subst (λ k. LeadsTo kernels k x next) (sym s_is) ((exact x next).0 listed))
    ]

    back : (s < n + 1) × LeadsTo kernels s x next → Contains new (s, x, next)
    back (lt, leads) = elim (cases_lt s n) [
      | inl before ↦ h.keeps (s, x, next) ((all s x next).1 (before, leads))
      | inr past ↦
          let e : s ≡ n = omega (arith, lt, past) in
          let (j, at) = place_of row (record { symbol = x; state = next })
          ((exact x next).1 (subst (λ k. LeadsTo kernels k x next) e leads)) in
          h.complete (s, x, next) (record {
            place = j;
            below = slice_get_within row j (record { symbol = x; state = next }) at;
            move = record { symbol = x; state = next };
            at = at;
            is = ap (λ k. (k, x, next)) e;
          })
    ]

-- all moves are where symbols lead
pub all_moves : (kernels : KernelsView) (moves : List (ℕ × Symbol × ℕ)) → AreMovesUpTo kernels moves (count_of kernels) → (s : ℕ)
    (x : Symbol) (next : ℕ) → Contains moves (s, x, next) ↔ LeadsTo kernels s x next
all_moves kernels moves h s x next = (λ has. ((h s x next).0 has).1, λ leads. (h s x next).1 (leads.0, leads))

-- all kernels are listed
pub all_lists : (kernels : KernelsView) (lists : List (List Item)) → AreListsUpTo kernels lists (count_of kernels) → AreListed kernels lists
all_lists kernels lists h = record { len = sym h.len; each = h.each }

-- and each after the first is reached from one before it
pub all_reached : (kernels : KernelsView) (lists : List (List Item)) (moves : List (ℕ × Symbol × ℕ)) →
    AreListsUpTo kernels lists (count_of kernels) → AreMovesUpTo kernels moves (count_of kernels) →
    ((s : ℕ) → suc s < count_of kernels → IsLedTo kernels (suc s)) → (s : ℕ) → suc s < length lists → IsReached moves (suc s)
all_reached kernels lists moves h m reached s lt =
    let r = reached s (let l = h.len in omega (arith, l, lt)) in
    record {
      from = r.from;
      symbol = r.symbol;
      before = r.before;
      listed = (all_moves kernels moves m r.from r.symbol (suc s)).1 r.leads;
    }
