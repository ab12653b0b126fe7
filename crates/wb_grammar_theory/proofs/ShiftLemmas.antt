-- The leaves of a derivation tree can be shifted at their left contexts, and the start's added production reduced before the end.
use Rattle.std.proofs.Common.{◌≡◌, ℕ, ◌≤◌, ◌<◌, zero, suc, List, [], ◌∷◌, ◌++◌, length, refl, sym, ◌∙◌, ap, subst, append_assoc, inl, inr}
use Rattle.std.proofs.Common.{arith}
use Rattle.std.specs.Prelude.{Contains}
use Rattle.std.proofs.lemmas.List.Elements.{Contains-append_cases}
use Rattle.std.proofs.lemmas.Option.{slice_get_within}
use Rattle.wb_base.specs.declared.symbol.Symbol.{Symbol}
use Rattle.wb_base.specs.declared.symbol.Symbol.TheVariants.{Terminal, Nonterminal}
use Rattle.wb_base.specs.Grammar.{GrammarView}
use Rattle.wb_grammar_theory.specs.declared.item.Item.{Item}
use Rattle.wb_grammar_theory.specs.Productions.{IsProduction, top_of, end_of}
use Rattle.wb_grammar_theory.specs.Derives.{Derives, IsFirst}
use Rattle.wb_grammar_theory.specs.Trees.{Forest, nothing, leaf, node, symbols, IsDerived, IsTree, Leaf, leaves, text_of, end_leaf}
use Rattle.wb_grammar_theory.specs.Trees.{leaves_of}
use Rattle.wb_grammar_theory.specs.Items.{after_dot, advance, initial_item, start_item, IsValidItem, start, close, move}
use Rattle.wb_grammar_theory.specs.Lookaheads.{IsLookahead, CanShift, CanReduce, IsValidTerminal}
use Rattle.wb_grammar_theory.proofs.DerivesLemmas.{Derives-append, Derives-same}
use Rattle.wb_grammar_theory.proofs.DotLemmas.{after_initial, after_start, after_advance, top_no_production}
use Rattle.wb_grammar_theory.proofs.TreeLemmas.{forest_derives}
use Rattle.wb_grammar_theory.proofs.FlowLemmas.{same_itself}

-- some terminal begins what trees and a terminal after them derive
forest_first : (g : GrammarView) (prefix : List Symbol) (f : Forest) (t : ℕ) → IsDerived g f → (u : ℕ) ×
    IsFirst g (symbols f ++ Terminal t ∷ []) u
forest_first g prefix f t d = go (leaves prefix f) (Derives-append (forest_derives g prefix f d) (Derives-same g (Terminal t ∷ [])))
  where
    go : (xs : List Leaf) → Derives g (symbols f ++ Terminal t ∷ []) (text_of xs ++ Terminal t ∷ []) → (u : ℕ) ×
        IsFirst g (symbols f ++ Terminal t ∷ []) u
    go [] r = (t, ([], r))
    go (x ∷ xs) r = (x.terminal, (text_of xs ++ Terminal t ∷ [], r))

contains_cons : (y x : Leaf) (xs : List Leaf) (P : Type 0) → Contains (y ∷ xs) x → (y ≡ x → P) → (Contains xs x → P) → P
contains_cons y x xs P (zero, lt, is) here later = here is
contains_cons y x xs P (suc k, lt, is) here later = later (k, omega arith, is)

-- where a valid item has its dot before the roots of trees, each leaf of these can be shifted at its context
pub leaf_shifts : (g : GrammarView) (f : Forest) (prefix : List Symbol) (item : Item) (u : ℕ) → IsDerived g f →
    IsValidItem g prefix item u →
    after_dot g item ≡ symbols f → (x : Leaf) → Contains (leaves prefix f) x → CanShift g x.context x.terminal
leaf_shifts g nothing prefix item u d v e x (k, lt, is) = absurd (omega arith)
leaf_shifts g (leaf t text rest) prefix item u d v e x h =
    contains_cons (record { context = prefix; terminal = t; text = text }) x (leaves (prefix ++ Terminal t ∷ []) rest)
    (CanShift g x.context x.terminal) h
    (λ is. subst (λ (y : Leaf). CanShift g y.context y.terminal) is
    (record { item = item; rest = symbols rest; has = (u, v); before_dot = e }))
    (leaf_shifts g rest (prefix ++ Terminal t ∷ []) (advance item) u d (move item (Terminal t) (symbols rest) prefix v e refl refl)
    (after_advance g item (Terminal t) (symbols rest) e) x)
leaf_shifts g (node p a children rest) prefix item u (rule, below, d) v e x h =
    let (first, begins) = forest_first g prefix rest u d in
    let opened : IsValidItem g prefix (initial_item p) first = close item u a (symbols rest) p first (symbols children) v e rule begins in
    elim (Contains-append_cases (leaves prefix children) (leaves (prefix ++ Nonterminal a ∷ []) rest) x h) [
      | inl inner ↦ leaf_shifts g children prefix (initial_item p) first below opened (after_initial g p a (symbols children) rule) x inner
      | inr after ↦ leaf_shifts g rest (prefix ++ Nonterminal a ∷ []) (advance item) u d
          (move item (Nonterminal a) (symbols rest) prefix v e refl refl) (after_advance g item (Nonterminal a) (symbols rest) e) x after
    ]

-- the leaves of a tree of the start
pub tree_shifts : (g : GrammarView) (tree : Forest) → IsTree g g.start tree → (x : Leaf) → Contains (leaves [] tree) x →
    CanShift g x.context x.terminal
tree_shifts g tree is x h = leaf_shifts g tree [] (start_item g) (end_of g) is.derived start (after_start g ∙ sym is.root) x h

-- the start's added production can be reduced where the start was read, before the end
pub start_accepts : (g : GrammarView) → CanReduce g (Nonterminal g.start ∷ []) (top_of g) (end_of g)
start_accepts g =
    let v : IsValidItem g (Nonterminal g.start ∷ []) (advance (start_item g)) (end_of g) = move (start_item g)
    (Nonterminal g.start) [] [] start (after_start g) refl refl in
    record {
      item = advance (start_item g);
      production = refl;
      complete = after_advance g (start_item g) (Nonterminal g.start) [] (after_start g);
      has = (end_of g, v);
      lookahead = (Nonterminal g.start ∷ [], same_itself g (Nonterminal g.start ∷ []), v);
    }

-- each leaf's terminal is valid at its context, `end` too
pub leaf_valid : (g : GrammarView) (tree : Forest) → IsTree g g.start tree → (x : Leaf) → Contains (leaves_of g tree) x →
    IsValidTerminal g x.context x.terminal
leaf_valid g tree is x h = elim (Contains-append_cases (leaves [] tree) (end_leaf g ∷ []) x h) [
  | inl inner ↦ inl (tree_shifts g tree is x inner)
  | inr last ↦ contains_cons (end_leaf g) x [] (IsValidTerminal g x.context x.terminal) last
      (λ same. subst (λ (y : Leaf). IsValidTerminal g y.context y.terminal) same (inr (top_of g, start_accepts g)))
      (λ none. absurd (omega (arith, none.1)))
]

-- an item of the added production is valid with the end alone
pub top_end : {g : GrammarView} {prefix : List Symbol} {item : Item} {t : ℕ} → IsValidItem g prefix item t → item.production ≡ top_of g →
    t ≡ end_of g
top_end start e = refl
top_end {g} (close item t b rest q u right v is rule first) e = absurd (top_no_production g q b right rule e)
top_end (move item x rest prefix v is longer_is moved_is) e = top_end v (sym (ap (λ (i : Item). i.production) moved_is) ∙ e)

-- a valid item is one of a production of the grammar, or of the added one
pub valid_production : {g : GrammarView} {prefix : List Symbol} {item : Item} {t : ℕ} → IsValidItem g prefix item t →
    item.production ≤ length g.productions
valid_production start = omega arith
valid_production {g} (close item t b rest q u right v is rule first) =
    (let lt = slice_get_within g.productions q (b, right) rule in omega arith)
valid_production {g} (move item x rest prefix v is longer_is moved_is) =
    subst (λ (z : Item). z.production ≤ length g.productions) (sym moved_is) (valid_production v)
