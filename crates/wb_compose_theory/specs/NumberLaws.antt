-- What the laws say of grammars in their own numbers, and of a composition.
use Rattle.std.specs.Prelude.{◌≡◌, ◌↔◌, ℕ, List, map}
use Rattle.wb_base.specs.declared.symbol.Symbol.{Symbol}
use Rattle.wb_base.specs.Grammar.{GrammarView}
use Rattle.wb_grammar_theory.specs.declared.item.Item.{Item}
use Rattle.wb_grammar_theory.specs.Items.{IsValidItem, IsKernelItem, IsViablePrefix}
use Rattle.wb_grammar_theory.specs.Lookaheads.{IsLookahead, IsValidTerminal, HasNoConflict}
use Rattle.wb_compose_theory.specs.Worlds.{World, Part, bare}
use Rattle.wb_compose_theory.specs.Items.{IsValidItemIn, IsKernelItemIn}
use Rattle.wb_compose_theory.specs.Lookaheads.{IsLookaheadIn, IsValidTerminalIn}
use Rattle.wb_compose_theory.specs.Renamings.{Renaming, renamed, renamed_item}
use Rattle.wb_compose_theory.specs.Numbered.{IsFit, IsHostKernel}
use Rattle.wb_compose_theory.specs.Blocks.{name_of, spread, lift}
use Rattle.wb_compose_theory.specs.Composed.{Composition, AreApartIn}

-- valid items, kernels, lookaheads and valid terminals of the grammar are those of the part
pub record IsSameBut (g : GrammarView) (w : World) (part : Part) (r : Renaming) : Type 0 where
  pub valid : (prefix : List Symbol) (item : Item) (t : ℕ) →
      IsValidItem g prefix item t ↔ IsValidItemIn w part (map (renamed r) prefix) (renamed_item r item) (r.terminal t)
  pub kernel : (prefix : List Symbol) (item : Item) →
      IsKernelItem g prefix item ↔ IsKernelItemIn w part (map (renamed r) prefix) (renamed_item r item)
  pub lookahead : (prefix : List Symbol) (item : Item) (t : ℕ) →
      IsLookahead g prefix item t ↔ IsLookaheadIn w part (map (renamed r) prefix) (renamed_item r item) (r.terminal t)
  pub terminal : (prefix : List Symbol) (t : ℕ) →
      IsValidTerminal g prefix t ↔ IsValidTerminalIn w part (map (renamed r) prefix) (r.terminal t)

-- each prefix of g has in k, in the numbers of k, the same kernel
abbrev pub HasHostKernels : (g k : GrammarView) → Renaming → Type 0
HasHostKernels g k up = (prefix : List Symbol) → IsViablePrefix g prefix → IsHostKernel g k up (map (renamed up) prefix) prefix

-- the union's grammar, in its own numbers, is reduced, and has no unit cycle, no hidden left recursion and no conflict
pub record IsDeterministicComposition (c : Composition) : Type 0 where
  pub fit : IsFit c.union_grammar c.union_grammar
  pub no_conflict : HasNoConflict c.union_grammar

-- in numbers: at a prefix of the host, a terminal that is no mark is valid in the union exactly if it is in the host
abbrev pub KeepsHostTerminalsOf : World → Composition → Type 0
KeepsHostTerminalsOf w c =
    (prefix other : List Symbol) (t u : ℕ) → IsViablePrefix c.plain_grammar prefix →
    map (renamed c.union_names) other ≡ map (renamed c.plain_names) prefix → c.union_names.terminal u ≡ c.plain_names.terminal t →
    w.mark (c.plain_names.terminal t) ≡ bare → IsValidTerminal c.union_grammar other u ↔ IsValidTerminal c.plain_grammar prefix t

-- in numbers: two terminals that are valid at a prefix of the union are valid together, up to marks, in a certified grammar or an envelope
abbrev pub AreTogetherIn : World → ℕ → Composition → Type 0
AreTogetherIn w n c =
    (prefix : List Symbol) (t u : ℕ) → IsValidTerminal c.union_grammar prefix t → IsValidTerminal c.union_grammar prefix u →
    ¬ AreApartIn w n c t u

-- numbers in blocks have different names
abbrev pub HasNamesOnce : ℕ → List ℕ → Type 0
HasNamesOnce k sizes = (p q : ℕ) → name_of k sizes p ≡ name_of k sizes q → p ≡ q

-- the numbers of a host with one extension go to different ones among those with all, and the host's go there by way of them
pub record IsSpreadOnce (own before size total : ℕ) : Type 0 where
  pub once : (t u : ℕ) → spread own before size total t ≡ spread own before size total u → t ≡ u
  pub lifted : (t : ℕ) → spread own 0 0 total t ≡ spread own before size total (lift own size t)
