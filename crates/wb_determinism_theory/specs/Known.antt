-- What is known of a host with holes and an extension from the host with holes alone, at a kernel that both have.
use Rattle.std.specs.Prelude.{◌≡◌, ◌⊎◌, ◌++◌, ◌∷◌, ℕ, List}
use Rattle.wb_base.specs.declared.symbol.Symbol.{Symbol}
use Rattle.wb_base.specs.declared.symbol.Symbol.TheVariants.{Terminal}
use Rattle.wb_grammar_theory.specs.declared.item.Item.{Item}
use Rattle.wb_compose_theory.specs.Worlds.{World, Part, on, plus, both, extension, IsProductionIn, IsSymbolIn}
use Rattle.wb_compose_theory.specs.Marks.{phi}
use Rattle.wb_compose_theory.specs.Items.{HasItemIn, IsKernelItemIn, IsViablePrefixIn}
use Rattle.wb_compose_theory.specs.Lookaheads.{IsLookaheadIn}
use Rattle.wb_compose_theory.specs.Stands.{StandsFor, IsHostLookahead}

-- the symbol is a marker of the extension
pub record IsMarkerOf (w : World) (e : ℕ) (x : Symbol) : Type 0 where
  pub terminal : ℕ
  pub nonterminal : ℕ
  pub is : x ≡ Terminal terminal
  pub mark : w.mark terminal ≡ on nonterminal
  pub owner : w.symbol_owner (Terminal terminal) ≡ extension e

-- the production is the part's, or `S' -> S`
abbrev pub IsSourced : World → Part → ℕ → Type 0
IsSourced w part p = (p ≡ w.top_production) ⊎ IsProductionIn w part p

-- the item is the extended host's, and what it stands for is an item of the host with holes at the prefix
pub record IsKnownItem (w : World) (e : ℕ) (other : List Symbol) (i : Item) : Type 0 where
  pub source : IsSourced w (both e) i.production
  pub item : Item
  pub stands : StandsFor w i item
  pub has : HasItemIn w plus other item

-- the item and the terminal are the extended host's, and what the terminal becomes by phi is a lookahead of what the item stands for, in
-- the host with holes at the prefix
pub record IsKnownLookahead (w : World) (e : ℕ) (other : List Symbol) (i : Item) (t : ℕ) : Type 0 where
  pub named : IsSymbolIn w (both e) (Terminal t)
  pub source : IsSourced w (both e) i.production
  pub host : IsHostLookahead w other i t

-- the lookahead rule at one kernel, which the host with holes has at one prefix and with the extension at another
abbrev pub KeepsAt : World → ℕ → (other prefix : List Symbol) → Type 0
KeepsAt w e other prefix =
    (item : Item) (t : ℕ) → IsKernelItemIn w plus other item → IsLookaheadIn w (both e) prefix item t →
    IsLookaheadIn w plus other item (phi w t)

-- the prefix is one of the host with holes up to a marker of the extension
pub record IsCrossing (w : World) (e : ℕ) (prefix : List Symbol) : Type 0 where
  pub front : List Symbol
  pub marker : Symbol
  pub rest : List Symbol
  pub is : prefix ≡ front ++ marker ∷ rest
  pub of_host : IsViablePrefixIn w plus front
  pub is_marker : IsMarkerOf w e marker
