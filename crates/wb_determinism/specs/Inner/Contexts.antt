-- What is compared, and terminals that stand for the host's.
use Rattle.std.specs.Prelude.{◌≡◌, ◌+◌, ℕ, Bool, List, Option, Some, length, slice_get}
use Rattle.wb_base.specs.declared.symbol.Symbol.{Symbol}
use Rattle.wb_base.specs.Grammar.{GrammarView}
use Rattle.wb_grammar_theory.specs.declared.item.Item.{Item}
use Rattle.wb_grammar_theory.specs.Items.{IsKernelItem}
use Rattle.wb_grammar_theory.specs.Lookaheads.{IsLookahead}
use Rattle.wb_items.specs.Kernels.{AreKernels, count_of, prefix_of}
use Rattle.wb_items.specs.LookaheadSets.{AreLookaheads}
use Rattle.wb_termset.specs.Sets.{IsMember}
use Rattle.wb_determinism.specs.declared.context.Context.{Context}
use Rattle.wb_determinism.specs.LookaheadRule.{IsLookaheadFault}
use Rattle.wb_determinism.specs.Inner.Index.{IsIndex}
use Rattle.wb_determinism.specs.Inner.Numbers.{AreInTurn}
use Rattle.wb_determinism.specs.Numbers.{item_up, up_by}
use Rattle.wb_compose_theory.specs.Numbered.{IsHostKernel}

-- the terminal stands for the other
abbrev pub HasImage : List (Option ℕ) → ℕ → ℕ → Type 0
HasImage images t u = slice_get images t ≡ Some (Some u)

-- the terminal stands for a member of the set
abbrev pub Allows : List (Option ℕ) → List Bool → ℕ → Type 0
Allows images allowed t = (u : ℕ) × HasImage images t u × IsMember allowed u

-- the grammars
abbrev pub host_of : Context → GrammarView
host_of c = c.host.now.grammar

abbrev pub both_of : Context → GrammarView
both_of c = c.both.now.grammar

-- kernels and lookaheads are those of the two grammars, which have these numbers
pub record IsContext (c : Context) : Type 0 where
  pub host : AreKernels c.host.now
  pub grammar : c.host.now.grammar ≡ c.grammar.now
  pub host_lookaheads : AreLookaheads c.host.now c.host_lookaheads.now
  pub both : AreKernels c.both.now
  pub both_lookaheads : AreLookaheads c.both.now c.both_lookaheads.now
  pub numbers : AreInTurn c.numbers.now
  pub host_terminals : c.numbers.now.host_terminals ≡ c.host.now.grammar.terminals
  pub host_productions : c.numbers.now.host_productions ≡ length c.host.now.grammar.productions
  pub both_productions : c.numbers.now.both_productions ≡ length c.both.now.grammar.productions
  pub index : IsIndex c.host.now (count_of c.host.now) c.index.now
  pub images : length c.images.now ≡ c.both.now.grammar.terminals + 1

-- at the kernel of this number of the extended host, the terminal is one too many for the item
abbrev pub IsFaultAt : Context → ℕ → Item → ℕ → Type 0
IsFaultAt c s item t =
    IsLookaheadFault (host_of c) (both_of c) c.numbers.now (HasImage c.images.now) (prefix_of c.both.now s) item t

-- where the kernel is a host's, each lookahead of the item stands for one that it has in the host
abbrev pub KeepsItem : Context → ℕ → Item → Type 0
KeepsItem c s item =
    (host : List Symbol) (own : Item) (t : ℕ) → IsHostKernel (host_of c) (both_of c) (up_by c.numbers.now) (prefix_of c.both.now s) host
    → IsKernelItem (host_of c) host own → item ≡ item_up c.numbers.now own → IsLookahead (both_of c) (prefix_of c.both.now s) item t
    → (u : ℕ) × HasImage c.images.now t u × IsLookahead (host_of c) host own u

-- so does each item
abbrev pub KeepsKernel : Context → ℕ → Type 0
KeepsKernel c s = (item : Item) → KeepsItem c s item
