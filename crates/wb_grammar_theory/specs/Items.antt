-- Items that are valid for a prefix, with their lookaheads, and the kernels of prefixes.
use Rattle.std.specs.Prelude.{◌≡◌, ◌≢◌, ◌<◌, ◌≤◌, ◌↔◌, ◌⊎◌, ℕ, ◌+◌, List, [], ◌∷◌, ◌++◌, drop}
use Rattle.wb_base.specs.declared.symbol.Symbol.{Symbol}
use Rattle.wb_base.specs.declared.symbol.Symbol.TheVariants.{Terminal, Nonterminal}
use Rattle.wb_base.specs.Grammar.{GrammarView}
use Rattle.wb_grammar_theory.specs.declared.item.Item.{Item}
use Rattle.wb_grammar_theory.specs.Productions.{IsProduction, right_of, top_of, end_of}
use Rattle.wb_grammar_theory.specs.Derives.{IsFirst}

-- the symbols after the dot
abbrev pub after_dot : GrammarView → Item → List Symbol
after_dot g item = drop item.dot (right_of g item.production)

-- the item with its dot one symbol further
abbrev pub advance : Item → Item
advance item = record { production = item.production; dot = item.dot + 1 }

-- the item of a production with its dot at the left end
abbrev pub initial_item : ℕ → Item
initial_item p = record { production = p; dot = 0 }

-- the item of `S' -> S` with its dot at the left end
abbrev pub start_item : GrammarView → Item
start_item g = initial_item (top_of g)

-- the item with the lookahead is valid for the prefix: the start item with `end` for the empty prefix; a production's initial item where an
-- item has its dot before the left side, with each terminal that begins what follows; and an item that moves over a symbol, for the prefix
-- with that symbol after it
pub data IsValidItem (g : GrammarView) : List Symbol → Item → ℕ → Type 0 where
  start : IsValidItem g [] (start_item g) (end_of g)
  close : (item : Item) (t b : ℕ) (rest : List Symbol) (q u : ℕ) (right : List Symbol) {prefix : List Symbol} →
      IsValidItem g prefix item t → after_dot g item ≡ Nonterminal b ∷ rest → IsProduction g q b right →
      IsFirst g (rest ++ Terminal t ∷ []) u → IsValidItem g prefix (initial_item q) u
  move : (item : Item) (x : Symbol) (rest prefix : List Symbol) {t : ℕ} {longer : List Symbol} {moved : Item} →
      IsValidItem g prefix item t → after_dot g item ≡ x ∷ rest → longer ≡ prefix ++ x ∷ [] → moved ≡ advance item →
      IsValidItem g longer moved t

-- a list of symbols for which some item is valid
abbrev pub IsViablePrefix : GrammarView → List Symbol → Type 0
IsViablePrefix g prefix = (item : Item) × (t : ℕ) × IsValidItem g prefix item t

-- the item, with some lookahead, is valid for the prefix
abbrev pub HasItem : GrammarView → List Symbol → Item → Type 0
HasItem g prefix item = (t : ℕ) × IsValidItem g prefix item t

-- the item is in the kernel of the prefix: valid, with its dot not at the left end, or the start item where the prefix is empty
abbrev pub IsKernelItem : GrammarView → List Symbol → Item → Type 0
IsKernelItem g prefix item = HasItem g prefix item × ((item.dot ≢ 0) ⊎ ((item ≡ start_item g) × (prefix ≡ [])))

-- two prefixes have the same kernel
abbrev pub SameKernel : GrammarView → List Symbol → List Symbol → Type 0
SameKernel g prefix other = (item : Item) → IsKernelItem g prefix item ↔ IsKernelItem g other item

-- the kernel of the prefix holds an item of a production from the one number to before the other
abbrev pub HoldsFrom : GrammarView → List Symbol → ℕ → ℕ → Type 0
HoldsFrom g prefix from to = (i : Item) × IsKernelItem g prefix i × (from ≤ i.production) × (i.production < to)
