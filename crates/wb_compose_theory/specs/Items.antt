-- Items that are valid for a prefix in a part of a world, and the kernels of prefixes.
use Rattle.std.specs.Prelude.{◌≡◌, ◌≢◌, ◌↔◌, ◌⊎◌, ℕ, List, [], ◌∷◌, ◌++◌, drop}
use Rattle.wb_base.specs.declared.symbol.Symbol.{Symbol}
use Rattle.wb_base.specs.declared.symbol.Symbol.TheVariants.{Terminal, Nonterminal}
use Rattle.wb_grammar_theory.specs.declared.item.Item.{Item}
use Rattle.wb_grammar_theory.specs.Items.{advance, initial_item}
use Rattle.wb_compose_theory.specs.Worlds.{World, Part, IsProductionIn}
use Rattle.wb_compose_theory.specs.Derives.{IsFirstIn}

-- the symbols after the dot
abbrev pub after_dot_in : World → Item → List Symbol
after_dot_in w item = drop item.dot (w.right item.production)

-- the item of `S' -> S` with its dot at the left end
abbrev pub start_item_in : World → Item
start_item_in w = initial_item w.top_production

-- the item with the lookahead is valid for the prefix in the part: the start item with the end for the empty prefix; a production's initial
-- item where an item has its dot before the left side, with each terminal that begins what follows; and an item that moves over a symbol,
-- for the prefix with that symbol after it
pub data IsValidItemIn (w : World) (part : Part) : List Symbol → Item → ℕ → Type 0 where
  start : IsValidItemIn w part [] (start_item_in w) w.end_terminal
  close : (item : Item) (t b : ℕ) (rest : List Symbol) (q u : ℕ) {prefix : List Symbol} → IsValidItemIn w part prefix item t →
      after_dot_in w item ≡ Nonterminal b ∷ rest → IsProductionIn w part q → w.left q ≡ b →
      IsFirstIn w part (rest ++ Terminal t ∷ []) u → IsValidItemIn w part prefix (initial_item q) u
  move : (item : Item) (x : Symbol) (rest prefix : List Symbol) {t : ℕ} {longer : List Symbol} {moved : Item} →
      IsValidItemIn w part prefix item t → after_dot_in w item ≡ x ∷ rest → longer ≡ prefix ++ x ∷ [] → moved ≡ advance item →
      IsValidItemIn w part longer moved t

-- a list of symbols for which some item is valid in the part
abbrev pub IsViablePrefixIn : World → Part → List Symbol → Type 0
IsViablePrefixIn w part prefix = (item : Item) × (t : ℕ) × IsValidItemIn w part prefix item t

-- the item, with some lookahead, is valid for the prefix
abbrev pub HasItemIn : World → Part → List Symbol → Item → Type 0
HasItemIn w part prefix item = (t : ℕ) × IsValidItemIn w part prefix item t

-- the item is in the kernel of the prefix: valid, with its dot not at the left end, or the start item where the prefix is empty
abbrev pub IsKernelItemIn : World → Part → List Symbol → Item → Type 0
IsKernelItemIn w part prefix item = HasItemIn w part prefix item × ((item.dot ≢ 0) ⊎ ((item ≡ start_item_in w) × (prefix ≡ [])))

-- a prefix in one part has the same kernel as another in another part
abbrev pub SameKernelIn : World → Part → List Symbol → Part → List Symbol → Type 0
SameKernelIn w part prefix other_part other = (item : Item) → IsKernelItemIn w part prefix item ↔ IsKernelItemIn w other_part other item

-- the item is in the closure of the set by productions of the part: a member, or the initial item of a production before whose left side
-- an item of the closure has its dot
pub data InClosureIn (w : World) (part : Part) (Kernel : Item → Type 0) : Item → Type 0 where
  kernel : {item : Item} → Kernel item → InClosureIn w part Kernel item
  opened : (item : Item) (b : ℕ) (rest : List Symbol) (q : ℕ) → InClosureIn w part Kernel item →
      after_dot_in w item ≡ Nonterminal b ∷ rest → IsProductionIn w part q → w.left q ≡ b → InClosureIn w part Kernel (initial_item q)
