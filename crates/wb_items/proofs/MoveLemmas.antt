-- A row of moves, as a loop over the runs of a list makes it.
use Rattle.std.proofs.Common.{◌≡◌, ℕ, ◌<◌, ◌≤◌, List, [], ◌∷◌, ◌++◌, length, Some, refl, sym, subst, arith, inl, inr}
use Rattle.std.specs.Prelude.{slice_get, Contains, ◌↔◌}
use Rattle.std.proofs.lemmas.Option.{slice_get_within}
use Rattle.std.proofs.lemmas.Bool.{cases_lt}
use Rattle.wb_lemmas.proofs.Places.{at_push, at_once}
use Rattle.wb_lemmas.proofs.Members.{place_of, contains_at, contains_push, push_contains, push_contains_last}
use Rattle.wb_base.specs.declared.symbol.Symbol.{Symbol}
use Rattle.wb_base.specs.Grammar.{GrammarView}
use Rattle.wb_grammar_theory.specs.declared.item.Item.{Item}
use Rattle.wb_grammar_theory.specs.Items.{advance}
use Rattle.wb_grammar_theory.specs.Shape.{IsLive}
use Rattle.std.specs.List.{between}
use Rattle.wb_items.specs.declared.advance.Advance.{Advance}
use Rattle.wb_items.specs.declared.transitions.Move.{Move}
use Rattle.wb_items.specs.Inner.Advances.{AreAdvancesRising, HasAdvance, IsRun, ListsAdvances, items_of, symbol_of}
use Rattle.wb_items.specs.Kernels.{AreInOrder}
use Rattle.wb_items.specs.Index.{IndexView}
use Rattle.wb_items.specs.Order.{SymbolPrecedes}
use Rattle.wb_items.specs.Inner.Passes.{MovesUpTo}
use Rattle.wb_items.specs.Table.{AreKernelsOf, AreMoves, AreMovesInOrder, IsRow, Leads}
use Rattle.wb_items.specs.Inner.Growing.{Grows}
use Rattle.wb_items.specs.Moved.{IsKernelFor, IsMoved}
use Rattle.wb_items.proofs.AdvanceLemmas.{run_exact}
use Rattle.wb_items.proofs.TableLemmas.{prefix_at, moved_kernel, grows_then, grows_none, moves_grow}
use Rattle.wb_items.proofs.SymbolOrder.{symbol_not_itself}

pub moves_start : (g : GrammarView) (old : IndexView) (list : List Advance) (s : ℕ) → AreKernelsOf g old.prefixes old.kernels →
    s < length old.kernels → ((prefix : List Symbol) → slice_get old.prefixes s ≡ Some prefix → ListsAdvances g prefix list) →
    MovesUpTo g old old list s [] 0
moves_start g old list s kernels within lists = record {
  kernels = kernels;
  grows = grows_none old;
  within = within;
  lists = lists;
  sound = λ step k. absurd (omega (arith, k.1));
  ordered = λ i j a b lt p q. cc;
  complete = λ j a lt at. absurd (omega arith);
  apart = λ step j a k le at. absurd (omega (arith, k.1));
}

-- no earlier place has the symbol of a place
pub moves_apart : (g : GrammarView) (old now : IndexView) (list : List Advance) (s : ℕ) (row : List Move) (n : ℕ) (x : Symbol)
    (b : Advance) → MovesUpTo g old now list s row n → slice_get list n ≡ Some b → symbol_of b ≡ x → (j : ℕ) (a : Advance) → j < n →
    slice_get list j ≡ Some a → symbol_of a ≡ x → ⊥
moves_apart g old now list s row n x b h here is j a lt at over =
    let (next, k) = h.complete j a lt at in
    symbol_not_itself x (subst (λ z. SymbolPrecedes z x) over (subst (SymbolPrecedes (symbol_of a)) is (h.apart (record {
      symbol =
          symbol_of a;
      state = next;
    }) n b k (omega arith) here)))

-- the items of a run are the kernel that its symbol leads to
pub run_kernel : (g : GrammarView) → IsLive g →
    (old now : IndexView) (list : List Advance) (s : ℕ) (row : List Move) (n end : ℕ) (x : Symbol) (b : Advance) (prefix : List Symbol)
    (kernel : List Item) → slice_get list n ≡ Some b → symbol_of b ≡ x → AreAdvancesRising list → IsRun list x n end →
    MovesUpTo g old now list s row n → slice_get now.prefixes s ≡ Some prefix →
    ((item : Item) → Contains kernel item ↔ Contains (items_of (between n end list)) item) → AreInOrder kernel →
    IsKernelFor g (prefix ++ x ∷ []) kernel
run_kernel g live old now list s row n end x b prefix kernel here is rising run h at same in_order =
    moved_kernel g live prefix x kernel b.item (λ item.
    let lists = h.lists prefix at x item in
    let part = exact item in
    (λ k. lists.0 (part.0 ((same item).0 k)), λ m. (same item).1 (part.1 (lists.1 m)))) in_order
    ((same b.item).1 ((exact b.item).1 (record { advance = b; listed = contains_at list b n here; over = is; is = refl })))
  where
    exact : (item : Item) → Contains (items_of (between n end list)) item ↔ HasAdvance list x item
    exact = run_exact list x n end rising run (moves_apart g old now list s row n x b h here is)

-- a move by the symbol of a run goes after the others
pub moves_more : (g : GrammarView) (old now new : IndexView) (list : List Advance) (s : ℕ) (row more : List Move) (n end : ℕ) (x : Symbol)
    (b : Advance) (next : ℕ) → slice_get list n ≡ Some b → symbol_of b ≡ x → IsRun list x n end → MovesUpTo g old now list s row n →
    AreKernelsOf g new.prefixes new.kernels → Grows now new → Leads g new.prefixes s x next →
    more ≡ row ++ record { symbol = x; state = next } ∷ [] → MovesUpTo g old new list s more end
moves_more g old now new list s row more n end x b next here is run h kernels grows leads e =
    let (prefix, there) = prefix_at h.kernels s h.within in
    let there' = grows.prefixes s prefix there in
    let step : Move = record { symbol = x; state = next } in
    let earlier : (move : Move) → Contains row move →
    SymbolPrecedes move.symbol x = λ (move : Move) (k : Contains row move). subst (SymbolPrecedes move.symbol) is
    (h.apart move n b k (omega arith) here) in
    subst (λ r. MovesUpTo g old new list s r end) (sym e) (record {
      kernels = kernels;
      grows = grows_then h.grows grows;
      within = (let w = slice_get_within new.prefixes s prefix there' in omega (arith, w, kernels.len));
      lists = λ p at. subst (λ z. ListsAdvances g z list) (at_once new.prefixes s prefix p there' at) (h.lists prefix there);
      sound = row_more g new.prefixes s row x next (moves_grow now new s row grows h.sound) leads;
      ordered = row_ordered row step h.ordered earlier;
      complete = λ j a lt at. elim (cases_lt j n) [
        | inl less ↦ let (to, k) = h.complete j a less at in (to, push_contains row step (record { symbol = symbol_of a; state = to }) k)
        | inr ge ↦ (
          next,
          subst (λ z. Contains (row ++ step ∷ []) (record {
            symbol = z;
            state =
                next;
          })) (sym (run.same j a ge lt at)) (push_contains_last row step),
        )
      ];
      apart = λ move j a k le at. elim (contains_push row step move k) [
        | inl old' ↦ h.apart move j a old' (let after = run.after in omega (arith, after)) at
        | inr same ↦ subst (λ (z : Move). SymbolPrecedes z.symbol (symbol_of a)) same (run.beyond j a le at)
      ];
    })
  where
    -- a row with one move more
    row_more : (g : GrammarView) (prefixes : List (List Symbol)) (s : ℕ) (row : List Move) (x : Symbol) (next : ℕ) →
        AreMoves g prefixes s row → Leads g prefixes s x next → AreMoves g prefixes s (row ++ record { symbol = x; state = next } ∷ [])
    row_more g prefixes s row x next h leads step k = elim (contains_push row (record { symbol = x; state = next }) step k) [
      | inl old ↦ h step old
      | inr is ↦ subst (λ (z : Move). Leads g prefixes s z.symbol z.state) is leads
    ]

    row_ordered : (row : List Move) (step : Move) → AreMovesInOrder row →
        ((move : Move) → Contains row move → SymbolPrecedes move.symbol step.symbol) → AreMovesInOrder (row ++ step ∷ [])
    row_ordered row step h all i j a b lt one two = elim (at_push row step a i one) [
      | inl old ↦ elim (at_push row step b j two) [
        | inl old' ↦ h i j a b lt old old'
        | inr last ↦ subst (λ (z : Move). SymbolPrecedes a.symbol z.symbol) last.1 (all a (contains_at row a i old))
      ]
      | inr last ↦ elim (at_push row step b j two) [
        | inl old' ↦ absurd (let w = slice_get_within row j b old' in omega (arith, last.0, w))
        | inr last' ↦ absurd (omega (arith, last.0, last'.0))
      ]
    ]

-- each place has its move
pub moves_done : (g : GrammarView) (old now : IndexView) (closure : List Item) (list : List Advance) (s : ℕ) (row : List Move) (n : ℕ) →
    length list ≤ n → ((x : Symbol) (item : Item) → HasAdvance list x item ↔ IsMoved g closure x item) → MovesUpTo g old now list s row n →
    IsRow g now.prefixes closure s row
moves_done g old now closure list s row n past exact h = record {
  sound = h.sound;
  ordered = h.ordered;
  complete = λ item x rest k is.
      let has = (exact x (advance item)).1 (record { item = item; rest = rest; listed = k; before_dot = is; is = refl }) in
      let (j, at) = place_of list has.advance has.listed in
      let (next, there) = h.complete j has.advance (let w = slice_get_within list j has.advance at in omega (arith, w, past)) at in
      (next, subst (λ z. Contains row (record { symbol = z; state = next })) has.over there);
}

-- a pass goes on from what is there
pub moves_now : (g : GrammarView) (old now : IndexView) (list : List Advance) (s : ℕ) (row : List Move) (n : ℕ) →
    MovesUpTo g old now list s row n → MovesUpTo g now now list s row n
moves_now g old now list s row n h = record {
  kernels = h.kernels;
  grows = grows_none now;
  within = h.within;
  lists = h.lists;
  sound = h.sound;
  ordered = h.ordered;
  complete = h.complete;
  apart = h.apart;
}

pub moves_then : (g : GrammarView) (old now new : IndexView) (list : List Advance) (s : ℕ) (row : List Move) (n : ℕ) → Grows old now →
    MovesUpTo g now new list s row n → MovesUpTo g old new list s row n
moves_then g old now new list s row n first h = record {
  kernels = h.kernels;
  grows = grows_then first h.grows;
  within = h.within;
  lists = h.lists;
  sound = h.sound;
  ordered = h.ordered;
  complete = h.complete;
  apart = h.apart;
}
