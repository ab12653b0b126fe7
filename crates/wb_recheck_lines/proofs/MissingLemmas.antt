-- Moves to kernels that are listed, and to others.
use Rattle.std.proofs.Common.{◌≡◌, ℕ, ◌<◌, ◌≤◌, ◌+◌, List, length, Some, Contains, sym, ap, ◌∙◌, subst, inl, inr, arith}
use Rattle.std.specs.Prelude.{◌↔◌, slice_get}
use Rattle.std.proofs.lemmas.Option.{slice_get_within, same_Some}
use Rattle.std.proofs.lemmas.Bool.{cases_lt}
use Rattle.wb_lemmas.proofs.Places.{at_within}
use Rattle.wb_lemmas.proofs.Members.{place_of}
use Rattle.wb_base.specs.declared.symbol.Symbol.{Symbol}
use Rattle.wb_items.specs.Kernels.{AreKernels, KernelsView, LeadsTo, count_of, prefix_of}
use Rattle.wb_items.specs.declared.transitions.Move.{Move}
use Rattle.wb_recheck_theory.specs.declared.line.Line.{Line}
use Rattle.wb_recheck_theory.specs.Lines.{AreGoodLines, AreMovesListed}
use Rattle.wb_recheck_theory.specs.Listed.{AreNumbered}
use Rattle.wb_recheck_theory.proofs.NumberedLemmas.{good_by_number, listed_by_number}
use Rattle.wb_recheck_lines.specs.Faults.{LacksMove}
use Rattle.wb_recheck_lines.specs.Inner.Walks.{AreListedUpTo, AreMovesIn, HasMoveOut}

abbrev pub move_of : Symbol → ℕ → Move
move_of x next = record { symbol = x; state = next }

-- the moves of a kernel, as a list
abbrev pub AreMovesOf : KernelsView → ℕ → List Move → Type 0
AreMovesOf kernels s moves = (x : Symbol) (next : ℕ) → Contains moves (move_of x next) ↔ LeadsTo kernels s x next

-- a move to a kernel that isn't listed
pub lacks : (kernels : KernelsView) (states : List ℕ) (k s : ℕ) (moves : List Move) → AreKernels kernels → slice_get states k ≡ Some s →
    AreMovesOf kernels s moves → HasMoveOut moves states → (lines : List Line) → AreGoodLines kernels.grammar lines →
    AreNumbered kernels.grammar (count_of kernels) (prefix_of kernels) lines states → LacksMove kernels.grammar lines k
lacks kernels states k s moves are at exact h lines good numbered =
    let leads = (exact h.move.symbol h.move.state).0 h.listed in
    let line = good_by_number (prefix_of kernels) are.live are.states lines states good numbered k s at h.move.symbol h.move.state leads h.out in
    record {
      within = (let long = numbered.len in let lt = slice_get_within states k s at in omega (arith, long, lt));
      symbol = h.move.symbol;
      moves = line.moves;
      unlisted = λ (m, lt, is). line.new m lt is;
    }

-- one kernel more, all of whose moves are listed
pub listed_more : (kernels : KernelsView) (states : List ℕ) (place s : ℕ) (moves : List Move) → AreListedUpTo kernels states place →
    slice_get states place ≡ Some s → AreMovesOf kernels s moves → AreMovesIn moves states → AreListedUpTo kernels states (place + 1)
listed_more kernels states place s moves before at exact all k u x next lt there leads =
    elim (cases_lt k place) [
      | inl less ↦ before k u x next less there leads
      | inr past ↦ last (let e : k ≡ place = omega (arith, lt, past) in e)
    ]
  where
    last : k ≡ place → Contains states next
    last same =
        let is : u ≡ s = same_Some u s (sym there ∙ (ap (slice_get states) same ∙ at)) in
        let (n, found) = place_of moves (move_of x next) ((exact x next).1 (subst (λ z. LeadsTo kernels z x next) is leads)) in
        all n (move_of x next) found

-- at the end all are
pub all_listed : (kernels : KernelsView) (states : List ℕ) (place : ℕ) → AreKernels kernels → AreListedUpTo kernels states place →
    length states ≤ place → (lines : List Line) → AreGoodLines kernels.grammar lines →
    AreNumbered kernels.grammar (count_of kernels) (prefix_of kernels) lines states → AreMovesListed kernels.grammar lines
all_listed kernels states place are listed past lines good numbered k x lt moves =
    let (s, at) = at_within states k (let long = numbered.len in omega (arith, long, lt)) in
    listed_by_number (prefix_of kernels) are.live are.states lines states good numbered k s at
    (λ y next leads. listed k s y next (let within = slice_get_within states k s at in omega (arith, within, past)) at leads) x moves

-- the places of moves that lead to listed kernels
pub moves_more : (moves : List Move) (states : List ℕ) (place : ℕ) (move : Move) →
    ((n : ℕ) (other : Move) → n < place → slice_get moves n ≡ Some other → Contains states other.state) →
    slice_get moves place ≡ Some move → Contains states move.state → (n : ℕ) (other : Move) → n < place + 1 →
    slice_get moves n ≡ Some other → Contains states other.state
moves_more moves states place move before at has n other lt there =
    elim (cases_lt n place) [
      | inl less ↦ before n other less there
      | inr past ↦ (
          let same : n ≡ place = omega (arith, lt, past) in
          let is : move ≡ other = same_Some move other (sym at ∙ (ap (slice_get moves) (sym same) ∙ there)) in
          subst (λ z. Contains states z.state) is has
          )
    ]
