-- What is at a listed kernel depends on the lines before it alone, and so does whether a line is good.
use Rattle.std.proofs.Common.{◌≡◌, ℕ, ◌<◌, ◌≤◌, suc, List, ◌++◌, length, Some, sym, ◌∙◌, arith}
use Rattle.std.specs.Prelude.{◌↔◌, slice_get}
use Rattle.wb_lemmas.proofs.Places.{append_keeps, append_before}
use Rattle.wb_base.specs.declared.symbol.Symbol.{Symbol}
use Rattle.wb_base.specs.Grammar.{GrammarView}
use Rattle.wb_grammar_theory.specs.declared.item.Item.{Item}
use Rattle.wb_grammar_theory.specs.Closure.{MovesTo}
use Rattle.wb_recheck_theory.specs.declared.line.Line.{Line}
use Rattle.wb_recheck_theory.specs.Lines.{kernel_count, IsItemAt, at_first, at_opened, at_moved, IsKernelItemAt, IsMoveOf, IsGoodLine}
use Rattle.wb_recheck_theory.proofs.ClosureLemmas.{closure_there, closure_back}

-- what is at a kernel stays when lines are added
pub item_grown : {g : GrammarView} {lines : List Line} (more : List Line) {k : ℕ} {item : Item} → IsItemAt g lines k item →
    IsItemAt g (lines ++ more) k item
item_grown more (at_first z is) = at_first z is
item_grown more (at_opened item b rest q right i is rule new_is) = at_opened item b rest q right (item_grown more i) is rule new_is
item_grown {lines = lines} more (at_moved n line item rest at k_is i is new_is) =
    at_moved n line item rest (append_keeps lines more n line at) k_is (item_grown more i) is new_is

module _ {g : GrammarView} (lines more : List Line)
    (froms : (n : ℕ) (line : Line) → slice_get lines n ≡ Some line → line.from < suc n) where
  -- what is at an earlier kernel was there before
  pub item_shrunk : {k : ℕ} {item : Item} → IsItemAt g (lines ++ more) k item → k < kernel_count lines → IsItemAt g lines k item
  item_shrunk (at_first z is) lt = at_first z is
  item_shrunk (at_opened item b rest q right i is rule new_is) lt = at_opened item b rest q right (item_shrunk i lt) is rule new_is
  item_shrunk (at_moved n line item rest at k_is i is new_is) lt =
      let old : slice_get lines n ≡ Some line = sym (append_before lines more n (omega (arith, k_is, lt))) ∙ at in
      let f = froms n line old in
      at_moved n line item rest old k_is (item_shrunk i (omega (arith, f, k_is, lt))) is new_is

  move_up : (k : ℕ) (x : Symbol) (item : Item) → MovesTo g (IsKernelItemAt g lines k) x item →
      MovesTo g (IsKernelItemAt g (lines ++ more) k) x item
  move_up k x item m = record {
    item = m.item;
    rest = m.rest;
    within = closure_there (item_grown more (closure_back m.within));
    before_dot = m.before_dot;
    is = m.is;
  }

  move_down : (k : ℕ) (x : Symbol) (item : Item) → k < kernel_count lines → MovesTo g (IsKernelItemAt g (lines ++ more) k) x item →
      MovesTo g (IsKernelItemAt g lines k) x item
  move_down k x item lt m = record {
    item = m.item;
    rest = m.rest;
    within = closure_there (item_shrunk (closure_back m.within) lt);
    before_dot = m.before_dot;
    is = m.is;
  }

  -- which kernel is the move of one stays when lines are added
  pub move_grown : (k : ℕ) (x : Symbol) (m : ℕ) → k < kernel_count lines → m < kernel_count lines →
      IsMoveOf g lines k x m ↔ IsMoveOf g (lines ++ more) k x m
  move_grown k x m lt lt' = (
    λ h item. (
      λ i. move_up k x item ((h item).0 (item_shrunk i.0 lt', i.1)),
      λ i. (let j = (h item).1 (move_down k x item lt i) in (item_grown more j.0, j.1)),
    ),
    λ h item. (
      λ i. move_down k x item lt ((h item).0 (item_grown more i.0, i.1)),
      λ i. (let j = (h item).1 (move_up k x item i) in (item_shrunk j.0 lt', j.1)),
    ),
  )

  -- so a good line stays good
  pub line_grown : (n : ℕ) (line : Line) → n ≤ length lines → IsGoodLine g lines n line → IsGoodLine g (lines ++ more) n line
  line_grown n line lt good = record {
    from = good.from;
    moves = (let (item, rest, i, is) = good.moves in (item, rest, item_grown more i, is));
    new = λ m less h.
        let f = good.from in
        good.new m less
        ((move_grown line.from line.symbol m (omega (arith, f, lt)) (omega (arith, less, lt))).1 h);
  }

  -- and a line that is good was good before more were added: the first that isn't is known when it is read
  pub line_shrunk : (n : ℕ) (line : Line) → n ≤ length lines → IsGoodLine g (lines ++ more) n line → IsGoodLine g lines n line
  line_shrunk n line lt good = record {
    from = good.from;
    moves = (
        let (item, rest, i, is) = good.moves in
        (item, rest, item_shrunk i (let f = good.from in omega (arith, f, lt)), is)
        );
    new = λ m less h.
        let f = good.from in
        good.new m less
        ((move_grown line.from line.symbol m (omega (arith, f, lt)) (omega (arith, less, lt))).0 h);
  }
