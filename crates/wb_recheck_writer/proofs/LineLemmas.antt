-- Lines by the numbers of their kernels: which kernel is a move, and what is listed in order.
use Rattle.std.proofs.Common.{◌≡◌, ℕ, ◌<◌, ◌≤◌, suc, List, [], ◌∷◌, ◌++◌, length, length-append, Some, Contains, refl, sym, ◌∙◌, ap}
use Rattle.std.proofs.Common.{subst, inl, inr, arith}
use Rattle.std.specs.Prelude.{◌⊎◌, slice_get}
use Rattle.std.proofs.lemmas.Option.{slice_get_within}
use Rattle.wb_lemmas.proofs.Members.{place_of, push_contains}
use Rattle.wb_lemmas.proofs.Places.{at_push, at_within, nothing_at}
use Rattle.wb_base.specs.declared.symbol.Symbol.{Symbol}
use Rattle.wb_base.specs.Grammar.{GrammarView}
use Rattle.wb_grammar_theory.proofs.KernelLemmas.{same_move}
use Rattle.wb_grammar_theory.proofs.FlowLemmas.{same_then, same_back}
use Rattle.wb_items.specs.Kernels.{AreKernels, KernelsView, LeadsTo, count_of, prefix_of}
use Rattle.wb_items.specs.declared.transitions.Move.{Move}
use Rattle.wb_recheck_lines.specs.States.{StatesView}
use Rattle.wb_recheck_theory.specs.declared.line.Line.{Line}
use Rattle.wb_recheck_theory.specs.Lines.{kernel_count, prefix_at, HasMove, IsMoveOf, IsMoveListed, AreGoodLines, AreMovesListed}
use Rattle.wb_recheck_theory.specs.Listed.{AreNumbered}
use Rattle.wb_recheck_theory.proofs.CertificateLemmas.{move_back}
use Rattle.wb_recheck_theory.proofs.GrowLemmas.{item_shrunk, move_grown}
use Rattle.wb_recheck_theory.proofs.KernelListLemmas.{viable_carried}
use Rattle.wb_recheck_theory.proofs.LinesLemmas.{lines_pushed, lines_whole}
use Rattle.wb_recheck_theory.proofs.ListsLemmas.{move_viable}
use Rattle.wb_recheck_theory.proofs.NumberedLemmas.{good_by_number, numbered_pushed, numbered_start}
use Rattle.wb_recheck_writer.specs.Order.{AreLinesInOrder, MovePrecedes}
use Rattle.wb_recheck_writer.specs.Inner.Lines.{AreLinesUpTo, IsNextMove}

module _ (kernels : KernelsView) (are : AreKernels kernels) (lines : List Line) (states : List ℕ)
    (good : AreGoodLines kernels.grammar lines)
    (numbers : AreNumbered kernels.grammar (count_of kernels) (prefix_of kernels) lines states) where
  pub place_within : (n u : ℕ) → slice_get states n ≡ Some u → n < kernel_count lines
  place_within n u there = let long = numbers.len in let lt = slice_get_within states n u there in omega (arith, long, lt)

  -- a listed kernel to which a symbol leads is the move
  pub moved_by_number : (k s : ℕ) → slice_get states k ≡ Some s → (x : Symbol) (next : ℕ) → LeadsTo kernels s x next → (m : ℕ) →
      slice_get states m ≡ Some next → IsMoveOf kernels.grammar lines k x m
  moved_by_number k s at x next leads m there =
      let (lt, lt', viable, same) = leads in
      let stepped = same_then (same_move are.live (prefix_at lines k) (prefix_of kernels s) x (numbers.same k s at)) (same_back same) in
      let arrives = same_then (numbers.same m next there) (same_back stepped) in
      move_back are.live lines good k x m (place_within k s at) (place_within m next there) arrives

  -- where a kernel has a move, the symbol leads from its number
  pub leads_by_number : (k s : ℕ) → slice_get states k ≡ Some s → (x : Symbol) → HasMove kernels.grammar lines k x →
      (next : ℕ) × LeadsTo kernels s x next
  leads_by_number k s at x moves =
      let viable = move_viable are.live lines good k x moves in
      let viable_s = viable_carried are.live (prefix_at lines k) (prefix_of kernels s) x (numbers.same k s at) viable in
      let (next, lt, same) = are.states.all (prefix_of kernels s ++ x ∷ []) viable_s in
      (next, (are.states.next s x next).1 (numbers.below k s at, lt, viable_s, same))

  -- and where that number is listed, so is the move
  pub listed_one : (k s : ℕ) → slice_get states k ≡ Some s → (x : Symbol) →
      ((next : ℕ) → LeadsTo kernels s x next → Contains states next) → HasMove kernels.grammar lines k x →
      IsMoveListed kernels.grammar lines k x
  listed_one k s at x all moves =
      let (next, leads) = leads_by_number k s at x moves in
      let (m, there) = place_of states next (all next leads) in
      (m, place_within m next there, moved_by_number k s at x next leads m there)

-- a move that comes before a line's is of no later kernel
pub precedes_from : (k : ℕ) (x : Symbol) (line : Line) → MovePrecedes k x line → k ≤ line.from
precedes_from k x line (inl less) = omega (arith, less)
precedes_from k x line (inr (same, _)) = omega (arith, same)

-- one more line, where each move that comes before its own is listed
pub order_pushed : (g : GrammarView) (lines : List Line) (line : Line) → AreGoodLines g lines → AreLinesInOrder g lines →
    line.from < kernel_count lines →
    ((k : ℕ) (x : Symbol) → MovePrecedes k x line → HasMove g lines k x → IsMoveListed g lines k x) →
    AreLinesInOrder g (lines ++ line ∷ [])
order_pushed g lines line good order from listed n l at k x first moves = cases (at_push lines line l n at)
  where
    froms : (m : ℕ) (other : Line) → slice_get lines m ≡ Some other → other.from < suc m
    froms m other there = (good m other there).from

    shrunk : k < kernel_count lines → HasMove g lines k x
    shrunk lt = let (item, rest, i, is) = moves in (item, rest, item_shrunk lines (line ∷ []) froms i lt, is)

    cases : (slice_get lines n ≡ Some l) ⊎ ((n ≡ length lines) × (line ≡ l)) →
        (m : ℕ) × (m < suc n) × IsMoveOf g (lines ++ line ∷ []) k x m
    cases (inl old) =
        let within = slice_get_within lines n l old in
        let before = froms n l old in
        let le = precedes_from k x l first in
        let lt : k < kernel_count lines = omega (arith, within, before, le) in
        let (m, m_lt, is) = order n l old k x first (shrunk lt) in
        (m, m_lt, (move_grown lines (line ∷ []) froms k x m lt (omega (arith, m_lt, within))).0 is)
    cases (inr (last, same)) =
        let first_line : MovePrecedes k x line = subst (λ z. MovePrecedes k x z) (sym same) first in
        let le = precedes_from k x line first_line in
        let lt : k < kernel_count lines = omega (arith, le, from) in
        let (m, m_lt, is) = listed k x first_line (shrunk lt) in
        (m, omega (arith, m_lt, last), (move_grown lines (line ∷ []) froms k x m lt m_lt).0 is)

-- before all lines
pub lines_none : (kernels : KernelsView) → AreKernels kernels → AreLinesUpTo kernels []
    (record { states = 0 ∷ []; count = count_of kernels }) 0
lines_none kernels are = record {
  count = refl;
  within = omega arith;
  good = λ n line at. absurd (nothing_at line n at);
  in_order = λ n line at. absurd (nothing_at line n at);
  numbers = numbered_start (prefix_of kernels) are.live are.states;
  closed = λ k s x next lt. absurd (omega (arith, lt));
}

-- one more line, by a move to a kernel that isn't listed
pub line_added : (kernels : KernelsView) (lines : List Line) (found : StatesView) (from : ℕ) (move : Move) → AreKernels kernels →
    AreLinesUpTo kernels lines found from → IsNextMove kernels found.states from move → ¬ Contains found.states move.state →
    AreLinesUpTo kernels (lines ++ record { from = from; symbol = move.symbol } ∷ [])
    (record { states = found.states ++ move.state ∷ []; count = found.count }) from
line_added kernels lines found from move are up next new = record {
  count = up.count;
  within = (let w = up.within in let more = length-append found.states (move.state ∷ []) in omega (arith, w, more));
  good = (lines_pushed kernels.grammar lines 0 line (lines_whole kernels.grammar lines up.good)
      (good_by_number (prefix_of kernels) are.live are.states lines found.states up.good up.numbers from next.state next.at move.symbol
      move.state next.leads new)).good;
  in_order = order_pushed kernels.grammar lines line up.good up.in_order (place_within kernels are lines found.states up.good up.numbers
      from next.state next.at) listed;
  numbers = numbered_pushed (prefix_of kernels) are.live are.states lines found.states up.good up.numbers from next.state next.at
      move.symbol
      move.state next.leads;
  closed = λ k s x n lt at leads. closed k s x n lt (at_push found.states move.state s k at) leads;
}
  where
    line : Line
    line = record { from = from; symbol = move.symbol }

    listed : (k : ℕ) (x : Symbol) → MovePrecedes k x line → HasMove kernels.grammar lines k x → IsMoveListed kernels.grammar lines k x
    listed k x (inl less) moves =
        let before = slice_get_within found.states from next.state next.at in
        let (s, at) = at_within found.states k (omega (arith, less, before)) in
        listed_one kernels are lines found.states up.good up.numbers k s at x (λ n leads. up.closed k s x n less at leads) moves
    listed k x (inr (same, first)) moves =
        listed_one kernels are lines found.states up.good up.numbers k next.state (ap (slice_get found.states) same ∙ next.at) x
        (λ n leads. next.earlier x n leads first) moves

    closed : (k s : ℕ) (x : Symbol) (n : ℕ) → k < from → (slice_get found.states k ≡ Some s) ⊎
        ((k ≡ length found.states) × (move.state ≡ s)) →
        LeadsTo kernels s x n → Contains (found.states ++ move.state ∷ []) n
    closed k s x n lt (inl old) leads = push_contains found.states move.state n (up.closed k s x n lt old leads)
    closed k s x n lt (inr (last, same)) leads =
        absurd (let before = slice_get_within found.states from next.state next.at in omega (arith, lt, last, before))

-- at the end each move is listed
pub all_moves_listed : (kernels : KernelsView) (lines : List Line) (found : StatesView) → AreKernels kernels →
    AreLinesUpTo kernels lines found (length found.states) → AreMovesListed kernels.grammar lines
all_moves_listed kernels lines found are up k x lt moves =
    let (s, at) = at_within found.states k (let long = up.numbers.len in omega (arith, long, lt)) in
    listed_one kernels are lines found.states up.good up.numbers k s at x
    (λ next leads. up.closed k s x next (slice_get_within found.states k s at) at leads) moves
