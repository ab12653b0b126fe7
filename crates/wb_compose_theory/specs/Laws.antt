-- What the laws say of a world.
use Rattle.std.specs.Prelude.{◌≡◌, ◌↔◌, ℕ, List}
use Rattle.wb_base.specs.declared.symbol.Symbol.{Symbol}
use Rattle.wb_base.specs.declared.symbol.Symbol.TheVariants.{Terminal}
use Rattle.wb_grammar_theory.specs.declared.item.Item.{Item}
use Rattle.wb_compose_theory.specs.Worlds.{World, Part, plain, plus, union, bare, extension, IsSymbolIn}
use Rattle.wb_compose_theory.specs.Marks.{phi}
use Rattle.wb_compose_theory.specs.Derives.{AreProductiveIn}
use Rattle.wb_compose_theory.specs.Items.{IsValidItemIn, IsViablePrefixIn, HasItemIn, IsKernelItemIn, SameKernelIn}
use Rattle.wb_compose_theory.specs.Lookaheads.{IsLookaheadIn, IsValidTerminalIn, HasNoConflictIn}
use Rattle.wb_compose_theory.specs.Composable.{IsFitForParsingIn}
use Rattle.wb_compose_theory.specs.Homes.{Home, of, part_of}
use Rattle.wb_compose_theory.specs.Stands.{IsPartLookahead, IsHostLookahead, AreApart}

-- the union is reduced, and has no unit cycle, no hidden left recursion and no conflict
pub record IsDeterministicUnion (w : World) (n : ℕ) : Type 0 where
  pub fit : IsFitForParsingIn w (union n) (union n)
  pub no_conflict : HasNoConflictIn w (union n)

-- at each prefix of the host, a terminal that is no mark is valid in the union exactly if it is in the host
abbrev pub KeepsHostTerminals : World → ℕ → Type 0
KeepsHostTerminals w n =
    (prefix : List Symbol) → IsViablePrefixIn w plain prefix → (t : ℕ) → w.mark t ≡ bare →
    IsValidTerminalIn w (union n) prefix t ↔ IsValidTerminalIn w plain prefix t

-- the lookaheads of an item of the union are the union's terminals that are, up to marks, lookaheads in a certified grammar with the kernel
abbrev pub HasPartLookaheads : World → ℕ → Type 0
HasPartLookaheads w n =
    (prefix : List Symbol) (i : Item) → HasItemIn w (union n) prefix i → (t : ℕ) →
    IsLookaheadIn w (union n) prefix i t ↔ (IsSymbolIn w (union n) (Terminal t) × IsPartLookahead w n prefix i t)

-- where a kernel of the union is one of the host with holes, the lookaheads are those of that grammar
abbrev pub HasHostLookaheads : World → ℕ → Type 0
HasHostLookaheads w n =
    (prefix other : List Symbol) → SameKernelIn w plus other (union n) prefix → (i : Item) (t : ℕ) →
    IsPartLookahead w n prefix i t ↔ IsHostLookahead w other i t

-- where a kernel of the union has an item of an extension, only the grammar with that extension has the kernel
abbrev pub HasOneHome : World → ℕ → Type 0
HasOneHome w n =
    (prefix : List Symbol) (e : ℕ) (i : Item) → IsKernelItemIn w (union n) prefix i → w.production_owner i.production ≡ extension e →
    (home : Home) (other : List Symbol) → SameKernelIn w (union n) prefix (part_of home) other → home ≡ of e

-- what is valid with a terminal is valid with each other one of the part that phi takes to the same
abbrev pub HasTwins : World → Part → Type 0
HasTwins w part =
    AreProductiveIn w part → (prefix : List Symbol) (i : Item) (t u : ℕ) → IsValidItemIn w part prefix i t →
    IsSymbolIn w part (Terminal u) → phi w u ≡ phi w t → IsValidItemIn w part prefix i u

-- where a terminal is valid, so is each other one of the part that phi takes to the same
abbrev pub HasValidTwins : World → Part → Type 0
HasValidTwins w part =
    AreProductiveIn w part → (prefix : List Symbol) (t u : ℕ) → IsValidTerminalIn w part prefix t → IsSymbolIn w part (Terminal u) →
    phi w u ≡ phi w t → IsValidTerminalIn w part prefix u

-- two terminals that are valid at a prefix of the union are valid together, up to marks, in a certified grammar or an envelope
abbrev pub AreTogether : World → ℕ → Type 0
AreTogether w n =
    (prefix : List Symbol) (t u : ℕ) → IsValidTerminalIn w (union n) prefix t → IsValidTerminalIn w (union n) prefix u →
    ¬ AreApart w n prefix t u
