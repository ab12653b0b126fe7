-- Chains of reductions that are kept with their productions.
use Rattle.std.specs.Prelude.{◌≡◌, ◌<◌, ◌≤◌, ◌-◌, ◌++◌, ◌∷◌, ◌^◌, ℕ, List, [], Some, length, take, drop, slice_get}
use Rattle.wb_base.specs.Grammar.{GrammarView}
use Rattle.wb_lookahead.specs.Contents.{TablesView, action_of, size_of}
use Rattle.wb_values.specs.Tree.{Tree, node}
use Rattle.wb_values.specs.ValuesIn.{values_in, last}
use Rattle.wb_values.specs.declared.value.Value.{Value}
use Rattle.wb_values.specs.declared.value.Value.TheVariants.{Tree as Stored}
use Rattle.wb_parser_states.specs.Chains.{IsChain}
use Rattle.wb_parser_states.specs.Rules.{AreRules}
use Rattle.wb_parser.specs.declared.chains.Start.{Start}
use Rattle.wb_parser.specs.declared.chains.Chain.{Chain}
use Rattle.wb_parser.specs.declared.chains.Reductions.{Reductions}

-- states of the tables, and a terminal of the grammar or the end of a text
pub record IsStart (g : GrammarView) (tables : TablesView) (start : Start) : Type 0 where
  pub below : start.below < size_of tables
  pub state : start.state < size_of tables
  pub terminal : start.terminal ≤ g.terminals

-- the productions of a chain, among all that are listed
abbrev pub links_of : List ℕ → Chain → List ℕ
links_of productions chain = take (chain.end - chain.first) (drop chain.first productions)

-- the reductions by its productions lead from the start to the target, and the action there is this one
pub record IsChainOf (g : GrammarView) (tables : TablesView) (productions : List ℕ) (chain : Chain) : Type 0 where
  pub start : IsStart g tables chain.start
  pub order : chain.first ≤ chain.end
  pub within : chain.end ≤ length productions
  pub is : IsChain g tables chain.start.below chain.start.terminal chain.start.state (links_of productions chain) chain.target
  pub target : chain.target < size_of tables
  pub action : chain.action ≡ action_of tables chain.target chain.start.terminal

-- each of these is one
abbrev pub AreChains : GrammarView → TablesView → List ℕ → List Chain → Type 0
AreChains g tables productions chains = (place : ℕ) (chain : Chain) → slice_get chains place ≡ Some chain → IsChainOf g tables productions chain

-- left sides and widths are those of the grammar's productions, and the chains are those of its tables
pub record AreReductions (g : GrammarView) (tables : TablesView) (reductions : Reductions) : Type 0 where
  pub rules : AreRules g reductions.rules.items
  pub chains : AreChains g tables reductions.productions.items reductions.chains.items

-- a chain from the same start, which ends with the last of the productions, of which there are more
pub record IsLonger (g : GrammarView) (tables : TablesView) (before after : List ℕ) (chain longer : Chain) : Type 0 where
  pub start : longer.start ≡ chain.start
  pub is : IsChainOf g tables after longer
  pub end : longer.end ≡ length after
  pub begins : take (length before) after ≡ before

-- what building by productions in a row makes of values and trees: each node takes the place of the last value
abbrev pub AreBuilt : List ℕ → List Value → List Tree → List Value → List Tree → Type 0
AreBuilt [] vs trees vs' trees' = (vs' ≡ vs) × (trees' ≡ trees)
AreBuilt (p ∷ ps) vs trees vs' trees' = (length trees < 2 ^ 64) × AreBuilt ps (take (length vs - 1) vs ++ Stored (record { 0 = length trees }) ∷ [])
    (trees ++ node p (values_in trees (last 1 vs)) ∷ []) vs' trees'
