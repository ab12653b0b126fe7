-- The moves of one kernel, in the order of their symbols.
use Rattle.std.proofs.Common.{◌≡◌, ℕ, ◌<◌, ◌≤◌, ◌+◌, List, length, Some, Contains, sym, ◌∙◌, ap, subst, inl, inr, arith}
use Rattle.std.specs.Prelude.{◌↔◌, slice_get}
use Rattle.std.proofs.lemmas.Bool.{cases_lt}
use Rattle.std.proofs.lemmas.Option.{same_Some, slice_get_within}
use Rattle.wb_lemmas.proofs.Members.{contains_at, place_of}
use Rattle.wb_lemmas.proofs.Places.{at_once}
use Rattle.wb_base.specs.declared.symbol.Symbol.{Symbol}
use Rattle.wb_base.specs.declared.symbol.Symbol.TheVariants.{Terminal, Nonterminal}
use Rattle.wb_items.specs.Kernels.{KernelsView, LeadsTo}
use Rattle.wb_items.specs.Order.{SymbolPrecedes}
use Rattle.wb_items.specs.Table.{AreMovesInOrder}
use Rattle.wb_items.specs.declared.transitions.Move.{Move}
use Rattle.wb_recheck_theory.specs.declared.line.Line.{Line}
use Rattle.wb_recheck_writer.specs.Inner.Lines.{AreLinesUpTo, IsNextMove}

-- of two symbols one at most comes before the other, and none before itself
pub symbol_once : (x y : Symbol) → SymbolPrecedes x y → SymbolPrecedes y x → ⊥
symbol_once (Terminal t) (Terminal u) a b = omega (arith, a, b)
symbol_once (Terminal t) (Nonterminal u) a b = b
symbol_once (Nonterminal t) (Terminal u) a b = a
symbol_once (Nonterminal t) (Nonterminal u) a b = omega (arith, a, b)

pub symbol_other : (x y : Symbol) → SymbolPrecedes x y → x ≡ y → ⊥
symbol_other x y before same = symbol_once x x (subst (λ z. SymbolPrecedes x z) (sym same) before)
    (subst (λ z. SymbolPrecedes x z) (sym same) before)

abbrev pub move_of : Symbol → ℕ → Move
move_of x next = record { symbol = x; state = next }

-- the moves before a place of the list lead to numbers that are there
abbrev pub AreInBelow : List Move → List ℕ → ℕ → Type 0
AreInBelow moves states place = (n : ℕ) (move : Move) → n < place → slice_get moves n ≡ Some move → Contains states move.state

module _ (kernels : KernelsView) (states : List ℕ) (from s : ℕ) (at : slice_get states from ≡ Some s) (moves : List Move)
    (exact : (x : Symbol) (next : ℕ) → Contains moves (move_of x next) ↔ LeadsTo kernels s x next) (ordered : AreMovesInOrder moves) where
  -- the move at a place is next where those before it lead to numbers that are there
  pub next_move : (place : ℕ) (move : Move) → slice_get moves place ≡ Some move → AreInBelow moves states place →
      IsNextMove kernels states from move
  next_move place move at_place before = record {
    state = s;
    at = at;
    leads = (exact move.symbol move.state).0 (contains_at moves move place at_place);
    earlier = λ x next leads first. (
        let (n, there) = place_of moves (move_of x next) ((exact x next).1 leads) in
        earlier x next first n there
        );
  }
    where
      earlier : (x : Symbol) (next : ℕ) → SymbolPrecedes x move.symbol → (n : ℕ) → slice_get moves n ≡ Some (move_of x next) →
          Contains states next
      earlier x next first n there = elim (cases_lt n place) [
        | inl less ↦ before n (move_of x next) less there
        | inr past ↦ elim (cases_lt place n) [
          | inl more ↦ absurd (symbol_once x move.symbol first (ordered place n move (move_of x next) more at_place there))
          | inr still ↦ (
              let same : n ≡ place = omega (arith, past, still) in
              let is : move_of x next ≡ move = at_once moves place (move_of x next) move (ap (slice_get moves) (sym same) ∙ there)
              at_place in
              absurd (symbol_other x move.symbol first (ap (λ (z : Move). z.symbol) is))
              )
        ]
      ]

  -- at the end the kernel is done
  pub moves_done : (lines : List Line) (count place : ℕ) → AreLinesUpTo kernels lines (record { states = states; count = count }) from →
      AreInBelow moves states place → length moves ≤ place →
      AreLinesUpTo kernels lines (record { states = states; count = count }) (from + 1)
  moves_done lines count place up before past = record {
    count = up.count;
    within = (let w = slice_get_within states from s at in omega (arith, w));
    good = up.good;
    in_order = up.in_order;
    numbers = up.numbers;
    closed = λ k u x next lt there leads. elim (cases_lt k from) [
      | inl less ↦ up.closed k u x next less there leads
      | inr more ↦ (
          let same : k ≡ from = omega (arith, lt, more) in
          let is : u ≡ s = same_Some u s (sym there ∙ (ap (slice_get states) same ∙ at)) in
          last x next (subst (λ z. LeadsTo kernels z x next) is leads)
          )
    ];
  }
    where
      last : (x : Symbol) (next : ℕ) → LeadsTo kernels s x next → Contains states next
      last x next leads =
          let (n, there) = place_of moves (move_of x next) ((exact x next).1 leads) in
          before n (move_of x next) (let lt = slice_get_within moves n (move_of x next) there in omega (arith, lt, past)) there

-- one move more
pub below_more : (moves : List Move) (states new : List ℕ) (place : ℕ) (move : Move) → AreInBelow moves states place →
    slice_get moves place ≡ Some move → ((n : ℕ) → Contains states n → Contains new n) → Contains new move.state →
    AreInBelow moves new (place + 1)
below_more moves states new place move before at keeps here n other lt there = elim (cases_lt n place) [
  | inl less ↦ keeps other.state (before n other less there)
  | inr past ↦ (
      let same : n ≡ place = omega (arith, lt, past) in
      let is : move ≡ other = at_once moves place move other at (ap (slice_get moves) (sym same) ∙ there) in
      subst (λ (z : Move). Contains new z.state) is here
      )
]
