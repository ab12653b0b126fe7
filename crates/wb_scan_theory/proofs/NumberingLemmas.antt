-- Two numberings of kernels that have the same tables give each state the same kernel, so a state's prefixes have one.
use Rattle.std.proofs.Common.{◌≡◌, ◌<◌, ℕ, List, [], ◌∷◌, ◌++◌, All, refl, sym, subst, arith}
use Rattle.std.proofs.lemmas.List.Elements.{All-head}
use Rattle.wb_base.specs.declared.symbol.Symbol.{Symbol}
use Rattle.wb_base.specs.declared.symbol.Symbol.TheVariants.{Terminal, Nonterminal}
use Rattle.wb_base.specs.Grammar.{GrammarView, IsGrammar, IsSymbolBelow}
use Rattle.wb_grammar_theory.specs.declared.item.Item.{Item}
use Rattle.wb_grammar_theory.specs.Items.{after_dot, advance, IsValidItem, start, close, move, HasItem, IsViablePrefix, SameKernel}
use Rattle.wb_grammar_theory.proofs.FlowLemmas.{same_itself, same_then, same_back}
use Rattle.wb_grammar_theory.proofs.KernelLemmas.{kernel_decides, same_move}
use Rattle.wb_grammar_theory.proofs.LiveLemmas.{after_below}
use Rattle.wb_items.specs.Kernels.{KernelsView, AreKernels, LeadsTo, count_of, prefix_of}
use Rattle.wb_lookahead.specs.declared.action.Action.TheVariants.{Shift}
use Rattle.wb_lookahead.specs.Contents.{TablesView}
use Rattle.wb_lookahead.specs.Tables.{AreTables, Stands}
use Rattle.wb_scan_theory.specs.Parts.{AreTablesOf, IsPrefixOf}

-- the kernels of a grammar by these prefixes and items
abbrev pub kernels_by : KernelsView → GrammarView → KernelsView
kernels_by k g = record { grammar = g; prefixes = k.prefixes; closures = k.closures }

module _ (g : GrammarView) (ok : IsGrammar g) (tables : TablesView) (k l : KernelsView) where
  abbrev a : KernelsView
  a = kernels_by k g

  abbrev b : KernelsView
  b = kernels_by l g

  module _ (ka : AreKernels a) (kb : AreKernels b) (ta : AreTables a tables) (tb : AreTables b tables) where
    within : (s : ℕ) → s < count_of a → s < count_of b
    within s lt = omega (arith, lt, ta.count, tb.count)

    -- where a symbol after a dot leads by the one numbering, it leads by the other
    leads_both : (s s' : ℕ) (item : Item) (x : Symbol) (rest : List Symbol) → s < count_of a → HasItem g (prefix_of a s) item
        → after_dot g item ≡ x ∷ rest → LeadsTo a s x s' → LeadsTo b s x s'
    leads_both s s' item (Terminal t) rest lt has is leads =
        let all = subst (All (IsSymbolBelow g.terminals g.nonterminals)) is (after_below g ok item) in
        let below : t < g.terminals = All-head (IsSymbolBelow g.terminals g.nonterminals) (Terminal t) rest all in
        let stands : Stands a s t (Shift s') = (record { item = item; rest = rest; has = has; before_dot = is }, leads) in
        let action = (ta.actions s t lt (omega (arith, below))).only (Shift s') stands in
        let there = (tb.actions s t (within s lt) (omega (arith, below))).stands (λ e. absurd (cc (action, e))) in
        (subst (Stands b s t) (sym action) there).1
    leads_both s s' item (Nonterminal n) rest lt has is leads =
        let all = subst (All (IsSymbolBelow g.terminals g.nonterminals)) is (after_below g ok item) in
        let below : n < g.nonterminals = All-head (IsSymbolBelow g.terminals g.nonterminals) (Nonterminal n) rest all in
        ((tb.gotos s n (within s lt) below).some s').0 (((ta.gotos s n lt below).some s').1 leads)

    -- the prefix has by both numberings the kernel of one number
    same_at : {prefix : List Symbol} {item : Item} {t : ℕ} → IsValidItem g prefix item t → (s : ℕ) → s < count_of a
        → SameKernel g (prefix_of a s) prefix → SameKernel g (prefix_of b s) prefix
    same_at start s lt same =
        let empty = subst (λ z. SameKernel g z (prefix_of a 0)) ka.states.first (same_itself g (prefix_of a 0)) in
        let zero_is : s ≡ 0 = ka.states.each_once s 0 lt (omega (arith, lt)) (same_then same empty) in
        subst (λ z. SameKernel g (prefix_of b z) []) (sym zero_is)
        (subst (λ z. SameKernel g z []) (sym kb.states.first) (same_itself g []))
    same_at (close item t n rest q u right v is rule first) s lt same = same_at v s lt same
    same_at (move item x rest prefix {t} v is longer_is moved_is) s lt same =
        let (s0, lt0, same0) = ka.states.all prefix (item, t, v) in
        let before = same_at v s0 lt0 same0 in
        let has = kernel_decides ka.live v (prefix_of a s0) (same_back same0) in
        let viable : IsViablePrefix g (prefix_of a s0 ++ x ∷ []) =
        (advance item, has.0, move item x rest (prefix_of a s0) has.1 is refl refl) in
        let here = subst (SameKernel g (prefix_of a s)) longer_is same in
        let leads : LeadsTo a s0 x s =
        (lt0, lt, viable, same_then here (same_back (same_move ka.live (prefix_of a s0) prefix x same0))) in
        let there = leads_both s0 s item x rest lt0 has is leads in
        subst (SameKernel g (prefix_of b s)) (sym longer_is) (same_then there.3 (same_move ka.live (prefix_of b s0) prefix x before))

    pub same_numbered : (s : ℕ) → s < count_of a → SameKernel g (prefix_of b s) (prefix_of a s)
    same_numbered s lt = same_at ((ka.states.prefixes s lt).2) s lt (same_itself g (prefix_of a s))

-- what holds of kernels holds of those by the grammar that is theirs
pub kernels_of : {g : GrammarView} {tables : TablesView} (n : AreTablesOf g tables) → AreKernels (kernels_by n.kernels g)
kernels_of n = subst (λ (h : GrammarView). AreKernels (kernels_by n.kernels h)) n.same n.are_kernels

pub tables_of : {g : GrammarView} {tables : TablesView} (n : AreTablesOf g tables) → AreTables (kernels_by n.kernels g) tables
tables_of {tables = tables} n = subst (λ (h : GrammarView). AreTables (kernels_by n.kernels h) tables) n.same n.are_tables

-- all prefixes of a state have one kernel
pub same_state : {g : GrammarView} {tables : TablesView} {s : ℕ} {prefix other : List Symbol} → IsGrammar g
    → IsPrefixOf g tables s prefix → IsPrefixOf g tables s other → SameKernel g prefix other
same_state {g} {tables} {s} {prefix} {other} ok one two =
    let same = same_numbered g ok tables one.numbered.kernels two.numbered.kernels (kernels_of one.numbered) (kernels_of two.numbered)
    (tables_of one.numbered) (tables_of two.numbered) s one.within in
    same_then (same_back one.kernel) (same_then (same_back same) two.kernel)
