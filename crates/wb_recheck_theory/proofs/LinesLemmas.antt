-- Kernels as they are listed: a worklist, which begins with kernel 0 and ends where each move is listed.
use Rattle.std.proofs.Common.{◌≡◌, ℕ, ◌<◌, ◌≤◌, ◌⊎◌, zero, suc, List, [], ◌∷◌, ◌++◌, length, length-append, Some}
use Rattle.std.proofs.Common.{sym, subst, inl, inr, arith}
use Rattle.std.specs.Prelude.{◌↔◌, slice_get}
use Rattle.std.proofs.lemmas.Bool.{cases_lt}
use Rattle.std.proofs.lemmas.Option.{slice_get_within}
use Rattle.wb_lemmas.proofs.Places.{at_push, nothing_at}
use Rattle.wb_base.specs.declared.symbol.Symbol.{Symbol}
use Rattle.wb_base.specs.Grammar.{GrammarView}
use Rattle.wb_grammar_theory.specs.declared.item.Item.{Item}
use Rattle.wb_recheck_theory.specs.declared.line.Line.{Line}
use Rattle.wb_recheck_theory.specs.Lines.{kernel_count, IsMoveOf, HasMove, IsGoodLine, AreGoodLines, IsMoveListed, AreMovesListed}
use Rattle.wb_recheck_theory.specs.Lines.{IsKernelItemAt}
use Rattle.wb_recheck_theory.specs.Inner.Worklists.{AreLines}
use Rattle.wb_recheck_theory.proofs.ClosureLemmas.{line_of, kernel_moved}
use Rattle.wb_recheck_theory.proofs.GrowLemmas.{item_shrunk, move_grown, line_grown}

-- where lines are good, none has been passed yet
pub lines_whole : (g : GrammarView) (lines : List Line) → AreGoodLines g lines → AreLines g lines 0
lines_whole g lines good = record { within = omega arith; good = good; closed = λ k x lt. absurd (omega (arith, lt)) }

-- kernel 0 is there without a line
pub lines_start : (g : GrammarView) → AreLines g [] 0
lines_start g = lines_whole g [] (λ n line at. absurd (nothing_at line n at))

-- one more kernel, by a line that is good after the others
pub lines_pushed : (g : GrammarView) (lines : List Line) (reached : ℕ) (line : Line) → AreLines g lines reached →
    IsGoodLine g lines (length lines) line → AreLines g (lines ++ line ∷ []) reached
lines_pushed g lines reached line h new = record {
  within = (let w = h.within in let f = length-append lines (line ∷ []) in omega (arith, f, w));
  good = λ n l at. good n l (at_push lines line l n at);
  closed = λ k x lt m.
      let (item, rest, i, is) = m in
      let w = h.within in
      let k_lt : k < kernel_count lines = omega (arith, w, lt) in
      let (to, to_lt, is_move) = h.closed k x lt (item, rest, item_shrunk lines (line ∷ []) froms i k_lt, is) in (
        to,
        (let f = length-append lines (line ∷ []) in omega (arith, f, to_lt)),
        (move_grown lines (line ∷ []) froms k x to k_lt to_lt).0 is_move,
      );
}
  where
    froms : (n : ℕ) (l : Line) → slice_get lines n ≡ Some l → l.from < suc n
    froms n l at = (h.good n l at).from

    good : (n : ℕ) (l : Line) → (slice_get lines n ≡ Some l) ⊎ ((n ≡ length lines) × (line ≡ l)) → IsGoodLine g (lines ++ line ∷ []) n l
    good n l (inl old) =
        line_grown lines (line ∷ []) froms n l (let f = slice_get_within lines n l old in omega (arith, f)) (h.good n l old)
    good n l (inr (is, same)) = subst (λ z. IsGoodLine g (lines ++ line ∷ []) z l) (sym is)
        (subst (λ z. IsGoodLine g (lines ++ line ∷ []) (length lines) z) same
        (line_grown lines (line ∷ []) froms (length lines) line (omega arith) new))

-- on to the next kernel, once each move of this one is listed
pub lines_next : (g : GrammarView) (lines : List Line) (reached : ℕ) → AreLines g lines reached → reached < kernel_count lines →
    ((x : Symbol) → HasMove g lines reached x → IsMoveListed g lines reached x) → AreLines g lines (suc reached)
lines_next g lines reached h lt all = record {
  within = omega (arith, lt);
  good = h.good;
  closed = λ k x less m. elim (cases_lt k reached) [
    | inl before ↦ h.closed k x before m
    | inr past ↦ (
        let z : k ≡ reached = omega (arith, less, past) in
        let (to, to_lt, is_move) = all x (subst (λ y. HasMove g lines y x) z m) in
        (to, to_lt, subst (λ y. IsMoveOf g lines y x to) (sym z) is_move)
        )
  ];
}

-- at the end each move is listed
pub lines_end : (g : GrammarView) (lines : List Line) (reached : ℕ) → AreLines g lines reached → kernel_count lines ≤ reached →
    AreMovesListed g lines
lines_end g lines reached h past k x lt m = h.closed k x (omega (arith, past, lt)) m

-- no two kernels of good lines have the same items
pub kernels_differ : (g : GrammarView) (lines : List Line) → AreGoodLines g lines → (s other : ℕ) → s < kernel_count lines →
    other < kernel_count lines → ((item : Item) → IsKernelItemAt g lines s item ↔ IsKernelItemAt g lines other item) → s ≡ other
kernels_differ g lines good s other lt lt' same = elim (cases_lt s other) [
  | inl less ↦ absurd (earlier s other less lt' same)
  | inr more ↦ elim (cases_lt other s) [
    | inl less ↦ absurd (earlier other s less lt (λ item. ((same item).1, (same item).0)))
    | inr more' ↦ (let e : s ≡ other = omega (arith, more, more') in e)
  ]
]
  where
    earlier : (s other : ℕ) → s < other → other < kernel_count lines →
        ((item : Item) → IsKernelItemAt g lines s item ↔ IsKernelItemAt g lines other item) → ⊥
    earlier s zero less lt same = absurd (omega (arith, less))
    earlier s (suc n) less lt same =
        let (line, at) = line_of lines n lt in
        let step = kernel_moved g lines n line at in
        (good n line at).new s less (λ item. (λ i. (step item).0 ((same item).0 i), λ i. (same item).1 ((step item).1 i)))

-- so a kernel has one move by a symbol at most
pub move_once : (g : GrammarView) (lines : List Line) → AreGoodLines g lines → (k : ℕ) (x : Symbol) (m other : ℕ) →
    m < kernel_count lines → other < kernel_count lines → IsMoveOf g lines k x m → IsMoveOf g lines k x other → m ≡ other
move_once g lines good k x m other lt lt' one two = kernels_differ g lines good m other lt lt'
    (λ item. (λ i. (two item).1 ((one item).0 i), λ i. (one item).1 ((two item).0 i)))
