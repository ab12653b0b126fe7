-- A deterministic grammar is one on which the machine runs, and tables decide what it does.
use Rattle.std.proofs.Common.{◌≡◌, ◌<◌, ◌≤◌, ◌+◌, ℕ, zero, suc, List, [], ◌∷◌, ◌++◌, length, refl, sym, ◌∙◌, ap, subst, inl, inr, arith}
use Rattle.std.specs.Prelude.{All, slice_get, Some}
use Rattle.std.proofs.lemmas.List.Elements.{All-head, All-tail, All-same}
use Rattle.wb_base.specs.declared.symbol.Symbol.{Symbol}
use Rattle.wb_base.specs.declared.symbol.Symbol.TheVariants.{Terminal, Nonterminal}
use Rattle.wb_base.specs.Grammar.{GrammarView, Production, IsGrammar, IsSymbolBelow}
use Rattle.wb_grammar_theory.specs.declared.item.Item.{Item}
use Rattle.wb_grammar_theory.specs.Productions.{end_of}
use Rattle.wb_grammar_theory.specs.Trees.{Forest, nothing, leaf, symbols, IsDerived}
use Rattle.wb_grammar_theory.specs.Items.{after_dot, HasItem, IsViablePrefix, SameKernel}
use Rattle.wb_grammar_theory.specs.Shape.{IsProductive, IsLive}
use Rattle.wb_grammar_theory.specs.Lookaheads.{CanShift, CanReduce}
use Rattle.wb_grammar_theory.proofs.TreeLemmas.{derives_grown}
use Rattle.wb_grammar_theory.proofs.LiveLemmas.{after_below, reduced_live}
use Rattle.wb_grammar_theory.proofs.KernelLemmas.{kernel_decides}
use Rattle.wb_grammar_theory.proofs.ProductionLemmas.{production_below}
use Rattle.wb_grammar_theory.proofs.ValidLemmas.{shift_kept, reduction_kept, same_valid}
use Rattle.wb_grammar_theory.proofs.FlowLemmas.{same_back}
use Rattle.wb_items.specs.Kernels.{KernelsView, AreKernels, prefix_of}
use Rattle.wb_lookahead.specs.declared.action.Action.{Action}
use Rattle.wb_lookahead.specs.declared.action.Action.TheVariants as act
use Rattle.wb_lookahead.specs.declared.action.Action.TheVariants.{Shift, Reduce, Accept}
use Rattle.wb_lookahead.specs.Contents.{TablesView, action_of}
use Rattle.wb_lookahead.specs.Tables.{IsAction}
use Rattle.wb_scan_theory.specs.Bounds.{IsSized}
use Rattle.wb_scan_theory.specs.Facts.{IsDeterministic}
use Rattle.wb_scan_theory.specs.Parts.{AreTablesOf, IsPrefixOf}
use Rattle.wb_scan_theory.specs.Inner.Runs.{HasTrees, IsParsable, Decision, shifts, reduces, stuck}
use Rattle.wb_scan_theory.specs.Machine.{joined}
use Rattle.wb_scan_theory.proofs.ForestLemmas.{symbols_joined, derived_joined}
use Rattle.wb_scan_theory.proofs.PartLemmas.{state_of}

trees_for : (g : GrammarView) → ((a : ℕ) → a < g.nonterminals → IsProductive g a) → (w : List Symbol) →
    All (IsSymbolBelow g.terminals g.nonterminals) w → (f : Forest) × IsDerived g f × (symbols f ≡ w)
trees_for g p [] all = (nothing, tt, refl)
trees_for g p (Terminal t ∷ w) all =
    let (f, d, is) = trees_for g p w (All-tail (IsSymbolBelow g.terminals g.nonterminals) (Terminal t) w all) in
    (leaf t [] f, d, ap (λ z. Terminal t ∷ z) is)
trees_for g p (Nonterminal a ∷ w) all =
    let (f, d, is) = trees_for g p w (All-tail (IsSymbolBelow g.terminals g.nonterminals) (Nonterminal a) w all) in
    let (v, derives, text) = p a (All-head (IsSymbolBelow g.terminals g.nonterminals) (Nonterminal a) w all) in
    let one = derives_grown derives text in (
      joined one.forest f,
      derived_joined g one.forest f one.derived d,
      symbols_joined one.forest f ∙ ap (λ z. z ++ symbols f) one.roots ∙ ap (λ z. Nonterminal a ∷ z) is,
    )

-- in a reduced grammar what is after any dot has trees
pub has_trees : (g : GrammarView) → IsDeterministic g → HasTrees g
has_trees g ok item = trees_for g ok.reduced.productive (after_dot g item) (after_below g ok.in_range item)

-- the lengths of all right sides together
abbrev pub widest : List Production → ℕ
widest [] = 0
widest (r ∷ rs) = length r.1 + widest rs

right_within : (rs : List Production) (p a : ℕ) (right : List Symbol) → slice_get rs p ≡ Some (a, right) → length right ≤ widest rs
right_within [] p a right e = cc
right_within (r ∷ rs) zero a right e =
    let same : r ≡ (a, right) = cc in
    let k : length r.1 ≡ length right = ap (λ (z : Production). length z.1) same in omega arith
right_within (r ∷ rs) (suc p) a right e = let i : length right ≤ widest rs = right_within rs p a right e in omega arith

pub sized : (g : GrammarView) → IsGrammar g → IsSized g g.nonterminals (widest g.productions)
sized g ok = record {
  left = λ p a right rule. (production_below g p a right ok rule).left;
  right = λ p a right rule. right_within g.productions p a right rule;
}

pub parsable : (g : GrammarView) → IsDeterministic g → IsParsable g g.nonterminals (widest g.productions)
parsable g ok = record {
  free = ok.no_conflict;
  acyclic = record { unit = ok.no_unit_cycle; hidden = ok.no_hidden_left_recursion };
  live = reduced_live g ok.in_range ok.reduced;
  productive = has_trees g ok;
  sized = sized g ok.in_range;
  no_end = λ prefix can.
      let h : end_of g < g.terminals = All-head (IsSymbolBelow g.terminals g.nonterminals) (Terminal (end_of g)) can.rest
      (All-same (IsSymbolBelow g.terminals g.nonterminals) (Terminal (end_of g) ∷ can.rest) (after_dot g can.item)
      (sym can.before_dot) (after_below g ok.in_range can.item)) in omega arith;
}

-- items are those of every prefix with the kernel
items_at : {g : GrammarView} → IsLive g → (a b : List Symbol) → SameKernel g a b → (item : Item) → HasItem g a item → HasItem g b item
items_at live a b same item has = kernel_decides live has.1 b same

pub shift_at : {g : GrammarView} → IsLive g → (a b : List Symbol) → SameKernel g a b → (t : ℕ) → CanShift g a t → CanShift g b t
shift_at live a b same t can = shift_kept (same_back same) (items_at live a b same) can

pub reduce_at : {g : GrammarView} → IsLive g → (a b : List Symbol) → SameKernel g a b → (p t : ℕ) → CanReduce g a p t → CanReduce g b p t
reduce_at live a b same p t can = reduction_kept (same_back same) (items_at live a b same) can

action_decides : (kernels : KernelsView) → AreKernels kernels → (s : ℕ) (prefix : List Symbol) →
    SameKernel kernels.grammar (prefix_of kernels s) prefix → (t : ℕ) (action : Action) → IsAction kernels s t action →
    Decision kernels.grammar prefix t
action_decides kernels ok s prefix same t (Shift n) is =
    shifts (shift_at ok.live (prefix_of kernels s) prefix same t (is.stands (λ e. cc)).0)
action_decides kernels ok s prefix same t (Reduce p) is =
    reduces p (reduce_at ok.live (prefix_of kernels s) prefix same p t (is.stands (λ e. cc)).1)
action_decides kernels ok s prefix same t Accept is =
    reduces _ (reduce_at ok.live (prefix_of kernels s) prefix same _ t (is.stands (λ e. cc)))
action_decides kernels ok s prefix same t act.None is =
    let moved = same_valid kernels.grammar ok.live (prefix_of kernels s) prefix same t in
    stuck (λ can. is.none.0 refl (moved.1 (inl can))) (λ p can. is.none.0 refl (moved.1 (inr (p, can))))

-- tables decide what the machine does at a prefix before a terminal
pub decision : {g : GrammarView} {tables : TablesView} → AreTablesOf g tables → (prefix : List Symbol) (t : ℕ) → IsViablePrefix g prefix →
    t ≤ end_of g → Decision g prefix t
decision {g} {tables} tables_of prefix t viable le = go (state_of tables_of prefix viable)
  where
    go : (s : ℕ) × IsPrefixOf g tables s prefix → Decision g prefix t
    go (s, at) = subst (λ (h : GrammarView). SameKernel h (prefix_of at.numbered.kernels s) prefix → t ≤ h.terminals → Decision h prefix t)
        at.numbered.same
        (λ same le'. action_decides at.numbered.kernels at.numbered.are_kernels s prefix same t (action_of tables s t)
        (at.numbered.are_tables.actions s t at.within le')) at.kernel le
