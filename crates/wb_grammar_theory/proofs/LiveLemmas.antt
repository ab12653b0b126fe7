-- A grammar whose nonterminals are all productive is live.
use Rattle.std.proofs.Common.{ℕ, ◌<◌, zero, suc, List, [], ◌∷◌, ◌++◌, sym}
use Rattle.std.specs.Prelude.{All}
use Rattle.std.proofs.lemmas.List.Elements.{All-head, All-tail, All-drop, All-cons, All-nil, All-same}
use Rattle.wb_base.specs.declared.symbol.Symbol.{Symbol}
use Rattle.wb_base.specs.declared.symbol.Symbol.TheVariants.{Terminal, Nonterminal}
use Rattle.wb_base.specs.Grammar.{GrammarView, Production, IsSymbolBelow, IsProductionBelow, IsGrammar}
use Rattle.wb_grammar_theory.specs.declared.item.Item.{Item}
use Rattle.wb_grammar_theory.specs.Productions.{right_in}
use Rattle.wb_grammar_theory.specs.Derives.{Derives, IsFirst, IsText}
use Rattle.wb_grammar_theory.specs.Items.{after_dot}
use Rattle.wb_grammar_theory.proofs.DerivesLemmas.{Derives-same, First-of_head, First-of_tail}
use Rattle.wb_grammar_theory.specs.Shape.{IsLive, IsReduced, IsProductive}

begins : (g : GrammarView) → ((a : ℕ) → a < g.nonterminals → IsProductive g a) → (w : List Symbol) →
    All (IsSymbolBelow g.terminals g.nonterminals) w → (t : ℕ) → (u : ℕ) × IsFirst g (w ++ Terminal t ∷ []) u
begins g p [] all t = (t, ([], Derives-same g (Terminal t ∷ [])))
begins g p (Terminal u ∷ w) all t = (u, (w ++ Terminal t ∷ [], Derives-same g (Terminal u ∷ (w ++ Terminal t ∷ []))))
begins g p (Nonterminal a ∷ w) all t =
    let (v, d, text) = p a (All-head (IsSymbolBelow g.terminals g.nonterminals) (Nonterminal a) w all) in
    go v d text (begins g p w (All-tail (IsSymbolBelow g.terminals g.nonterminals) (Nonterminal a) w all) t)
  where
    go : (v : List Symbol) → Derives g (Nonterminal a ∷ []) v → IsText v → (u : ℕ) × IsFirst g (w ++ Terminal t ∷ []) u → (u : ℕ) ×
        IsFirst g (Nonterminal a ∷ w ++ Terminal t ∷ []) u
    go [] d text (u, f) = (u, First-of_tail (Nonterminal a) (w ++ Terminal t ∷ []) u d f)
    go (Terminal u ∷ v) d text later = (u, First-of_head (Nonterminal a) (w ++ Terminal t ∷ []) u (v, d))
    go (Nonterminal b ∷ v) d text later = elim text [ ]

right_in_range : (m n : ℕ) (rs : List Production) (s p : ℕ) → s < n → All (IsProductionBelow m n) rs →
    All (IsSymbolBelow m n) (right_in rs s p)
right_in_range m n [] s zero lt all = All-cons (IsSymbolBelow m n) (Nonterminal s) [] lt (All-nil (IsSymbolBelow m n))
right_in_range m n [] s (suc p) lt all = All-nil (IsSymbolBelow m n)
right_in_range m n (r ∷ rs) s zero lt all = (All-head (IsProductionBelow m n) r rs all).right
right_in_range m n (r ∷ rs) s (suc p) lt all = right_in_range m n rs s p lt (All-tail (IsProductionBelow m n) r rs all)

-- the symbols after a dot are in range
pub after_below : (g : GrammarView) → IsGrammar g → (item : Item) → All (IsSymbolBelow g.terminals g.nonterminals) (after_dot g item)
after_below g ok item =
    All-drop (IsSymbolBelow g.terminals g.nonterminals) item.dot _
    (right_in_range g.terminals g.nonterminals g.productions g.start item.production ok.start_below ok.productions_below)

-- where each nonterminal derives a text, some terminal begins what is after any symbol after a dot
pub live : (g : GrammarView) → IsGrammar g → ((a : ℕ) → a < g.nonterminals → IsProductive g a) → IsLive g
live g ok p item x rest e t =
    begins g p rest
    (All-tail (IsSymbolBelow g.terminals g.nonterminals) x rest
    (All-same (IsSymbolBelow g.terminals g.nonterminals) (x ∷ rest) (after_dot g item) (sym e) (after_below g ok item))) t

-- a reduced grammar is live
pub reduced_live : (g : GrammarView) → IsGrammar g → IsReduced g → IsLive g
reduced_live g ok reduced = live g ok reduced.productive
