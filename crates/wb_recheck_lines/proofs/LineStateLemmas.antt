-- Lines by the numbers of their kernels: which is good, and which isn't.
use Rattle.std.proofs.Common.{◌≡◌, ℕ, ◌<◌, ◌≤◌, ◌+◌, zero, suc, List, [], ◌∷◌, ◌++◌, length}
use Rattle.std.proofs.Common.{length-take, take, drop, Some, None, Contains, refl, sym, ap, ◌∙◌, subst, arith}
use Rattle.std.specs.Prelude.{slice_get}
use Rattle.std.proofs.lemmas.List.{take-append-drop, take_all, take_more}
use Rattle.std.proofs.lemmas.Option.{slice_get_within, get_or_from_slice_get}
use Rattle.wb_base.specs.Grammar.{GrammarView}
use Rattle.wb_grammar_theory.proofs.KernelLemmas.{same_move}
use Rattle.wb_grammar_theory.proofs.FlowLemmas.{same_then, same_back}
use Rattle.wb_grammar_theory.proofs.ValidLemmas.{before_last}
use Rattle.wb_items.specs.Kernels.{AreKernels, HasNoneBefore, KernelsView, LeadsTo, count_of, prefix_of}
use Rattle.wb_recheck_theory.specs.declared.line.Line.{Line}
use Rattle.wb_recheck_theory.specs.Lines.{kernel_count, prefix_at, IsGoodLine, AreGoodLines}
use Rattle.wb_recheck_theory.specs.Listed.{AreNumbered}
use Rattle.wb_recheck_theory.proofs.CertificateLemmas.{move_back}
use Rattle.wb_recheck_theory.proofs.GrowLemmas.{line_grown, line_shrunk}
use Rattle.wb_recheck_theory.proofs.KernelListLemmas.{viable_carried}
use Rattle.wb_recheck_theory.proofs.LinesLemmas.{lines_pushed, lines_whole}
use Rattle.wb_recheck_theory.proofs.ListsLemmas.{move_viable}
use Rattle.wb_recheck_theory.proofs.NumberedLemmas.{good_by_number, numbered_pushed, numbered_start}
use Rattle.wb_recheck_lines.specs.Faults.{IsFirstWrongLine}
use Rattle.wb_recheck_lines.specs.States.{AreStatesOf}
use Rattle.wb_recheck_lines.specs.Inner.Walks.{AreStatesUpTo, IsNewState, IsNextLine}

module _ (kernels : KernelsView) (are : AreKernels kernels) (lines : List Line) (states : List ℕ)
    (good : AreGoodLines kernels.grammar lines)
    (numbered : AreNumbered kernels.grammar (count_of kernels) (prefix_of kernels) lines states) (line : Line) where
  within : (n u : ℕ) → slice_get states n ≡ Some u → n < kernel_count lines
  within n u there = let long = numbered.len in let lt = slice_get_within states n u there in omega (arith, long, lt)

  -- a line from no earlier kernel
  pub wrong_from : length states ≤ line.from → ¬ IsGoodLine kernels.grammar lines (length lines) line
  wrong_from past l = let from = l.from in let long = numbered.len in omega (arith, past, from, long)

  module _ (s : ℕ) (at : slice_get states line.from ≡ Some s) where
    -- a line by a symbol before which no item has its dot
    pub wrong_symbol : HasNoneBefore kernels.grammar (prefix_of kernels s) line.symbol →
        ¬ IsGoodLine kernels.grammar lines (length lines) line
    wrong_symbol none l =
        let viable = move_viable are.live lines good line.from line.symbol l.moves in
        let (item, t, v) = viable_carried are.live (prefix_at lines line.from) (prefix_of kernels s) line.symbol
        (numbered.same line.from s at) viable in
        let (one, rest, has, is) = before_last v (prefix_of kernels s) line.symbol refl in
        none one rest has is

    module _ (next : ℕ) (leads : LeadsTo kernels s line.symbol next) where
      -- a line to a kernel that is listed
      pub wrong_listed : (m : ℕ) → slice_get states m ≡ Some next → ¬ IsGoodLine kernels.grammar lines (length lines) line
      wrong_listed m there l =
          let (lt, lt', viable, same) = leads in
          let arrives = same_then (numbered.same m next there) (same_then same (same_back
          (same_move are.live (prefix_at lines line.from) (prefix_of kernels s) line.symbol (numbered.same line.from s at)))) in
          l.new m (within m next there)
          (move_back are.live lines good line.from line.symbol m (within line.from s at) (within m next there) arrives)

      -- and one to a kernel that isn't
      pub new_state : ¬ Contains states next → IsNewState kernels lines states line next
      new_state unlisted = record {
        below = leads.1;
        good = good_by_number (prefix_of kernels) are.live are.states lines states good numbered line.from s at line.symbol next leads unlisted;
        numbered = numbered_pushed (prefix_of kernels) are.live are.states lines states good numbered line.from s at line.symbol next leads;
      }

-- before all lines
pub states_start : (kernels : KernelsView) → AreKernels kernels → (lines : List Line) → AreStatesUpTo kernels lines (0 ∷ []) 0
states_start kernels are lines = record {
  good = λ n line at. (let none : slice_get [] n ≡ Some line = at in cc);
  numbered = numbered_start (prefix_of kernels) are.live are.states;
}

-- one line more
pub states_more : (kernels : KernelsView) (lines : List Line) (states : List ℕ) (place next : ℕ) (line : Line) →
    AreStatesUpTo kernels lines states place → take (place + 1) lines ≡ take place lines ++ line ∷ [] →
    IsNewState kernels (take place lines) states line next → AreStatesUpTo kernels lines (states ++ next ∷ []) (place + 1)
states_more kernels lines states place next line up is new = record {
  good = subst (AreGoodLines kernels.grammar) (sym is)
      (lines_pushed kernels.grammar (take place lines) 0 line (lines_whole kernels.grammar (take place lines) up.good) new.good).good;
  numbered = subst (λ l. AreNumbered kernels.grammar (count_of kernels) (prefix_of kernels) l (states ++ next ∷ [])) (sym is) new.numbered;
}

-- what is before a place is among the first
in_take : {X : Type 0} (xs : List X) (n m : ℕ) (x : X) → m < n → slice_get xs m ≡ Some x → slice_get (take n xs) m ≡ Some x
in_take [] n m x lt at = cc
in_take (y ∷ xs) zero m x lt at = absurd (omega (arith, lt))
in_take (y ∷ xs) (suc n) zero x lt at = at
in_take (y ∷ xs) (suc n) (suc m) x lt at = in_take xs n m x (omega (arith, lt)) at

-- a line that isn't good after those before it is the first wrong one
pub first_wrong : (g : GrammarView) (lines : List Line) (n : ℕ) (line : Line) → slice_get lines n ≡ Some line →
    AreGoodLines g (take n lines) →
    ¬ IsGoodLine g (take n lines) (length (take n lines)) line → IsFirstWrongLine g lines n
first_wrong g lines n line at good wrong = record {
  before = λ m other lt there. before m other lt (there_in m other lt there);
  line = line;
  at = at;
  wrong = λ l. wrong (subst (λ z. IsGoodLine g (take n lines) z line) (sym long)
      (line_shrunk (take n lines) (drop n lines) froms n line (let e = long in omega (arith, e))
      (subst (λ z. IsGoodLine g z n line) (sym (take-append-drop n lines)) l)));
}
  where
    froms : (m : ℕ) (l : Line) → slice_get (take n lines) m ≡ Some l → l.from < suc m
    froms m l there = (good m l there).from

    long : length (take n lines) ≡ n
    long = let inside = slice_get_within lines n line at in let e = length-take n lines in omega (arith, inside, e)

    there_in : (m : ℕ) (other : Line) → m < n → slice_get lines m ≡ Some other → slice_get (take n lines) m ≡ Some other
    there_in m other lt there = in_take lines n m other lt there

    before : (m : ℕ) (other : Line) → m < n → slice_get (take n lines) m ≡ Some other → IsGoodLine g lines m other
    before m other lt there =
        subst (λ z. IsGoodLine g z m other) (take-append-drop n lines)
        (line_grown (take n lines) (drop n lines) froms m other (let e = long in omega (arith, e, lt)) (good m other there))

-- what the code finds of a line
module _ (kernels : KernelsView) (are : AreKernels kernels) (states : List ℕ) (line : Line) where
  pub next_none_from : length states ≤ line.from → IsNextLine kernels states line None
  next_none_from past lines good numbered = wrong_from kernels are lines states good numbered line past

  pub next_none_symbol : (s : ℕ) → slice_get states line.from ≡ Some s → HasNoneBefore kernels.grammar (prefix_of kernels s) line.symbol →
      IsNextLine kernels states line None
  next_none_symbol s at none lines good numbered = wrong_symbol kernels are lines states good numbered line s at none

  pub next_none_listed : (s next m : ℕ) → slice_get states line.from ≡ Some s → LeadsTo kernels s line.symbol next →
      slice_get states m ≡ Some next → IsNextLine kernels states line None
  next_none_listed s next m at leads there lines good numbered =
      wrong_listed kernels are lines states good numbered line s at next leads m there

  pub next_some : (s next : ℕ) → slice_get states line.from ≡ Some s → LeadsTo kernels s line.symbol next → ¬ Contains states next →
      IsNextLine kernels states line (Some next)
  next_some s next at leads unlisted =
      (unlisted, λ lines good numbered. new_state kernels are lines states good numbered line s at next leads unlisted)

-- the first ones and the next
pub take_at : {X : Type 0} (xs : List X) (n : ℕ) (x : X) → slice_get xs n ≡ Some x → take (n + 1) xs ≡ take n xs ++ x ∷ []
take_at xs n x at =
    take_more xs n x (slice_get_within xs n x at) ∙ ap (λ z. take n xs ++ z ∷ []) (get_or_from_slice_get xs n x x at)

-- the numbers of lines, in the words of the clauses and in those of the lemmas
pub states_there : (kernels : KernelsView) (lines : List Line) (states : List ℕ) →
    AreNumbered kernels.grammar (count_of kernels) (prefix_of kernels) lines states → AreStatesOf kernels lines states
states_there kernels lines states h = record { len = h.len; below = h.below; same = h.same }

pub states_back : (kernels : KernelsView) (lines : List Line) (states : List ℕ) → AreStatesOf kernels lines states →
    AreNumbered kernels.grammar (count_of kernels) (prefix_of kernels) lines states
states_back kernels lines states h = record { len = h.len; below = h.below; same = h.same }

-- at the end of the lines
pub states_whole : (kernels : KernelsView) (lines : List Line) (states : List ℕ) (place : ℕ) → AreStatesUpTo kernels lines states place →
    length lines ≤ place → AreGoodLines kernels.grammar lines × AreStatesOf kernels lines states
states_whole kernels lines states place up past =
    let whole : take place lines ≡ lines = take_all place lines past in (
      subst (AreGoodLines kernels.grammar) whole up.good,
      states_there kernels lines states
          (subst (λ l. AreNumbered kernels.grammar (count_of kernels) (prefix_of kernels) l states) whole up.numbered),
    )
