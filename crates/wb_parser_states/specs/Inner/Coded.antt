-- Codes that are looked up and kept.
use Rattle.std.specs.Prelude.{◌≡◌, ◌<◌, ◌+◌, ◌*◌, ◌⊎◌, ℕ, List, Some, length, slice_get}
use Rattle.wb_base.specs.Grammar.{GrammarView}
use Rattle.wb_lookahead.specs.Contents.{TablesView, action_of, goto_of, size_of}
use Rattle.wb_parser_states.specs.declared.chains.Key.{Key}
use Rattle.wb_parser_states.specs.declared.codes.Codes.{Codes}
use Rattle.wb_parser_states.specs.declared.kept.CodedEnd.{CodedEnd}
use Rattle.wb_parser_states.specs.Chains.{IsChain}
use Rattle.wb_parser_states.specs.Codes.{IsCodeOf}

-- as many rows as before, and each code is one that was there at its place, or this one, which is at the place of the state and the terminal
pub record KeepsCode (old : Codes) (state terminal code : ℕ) (new : Codes) : Type 0 where
  pub width : new.width ≡ old.width
  pub rows : new.rows ≡ old.rows
  pub size : length new.list.items ≡ length old.list.items
  pub each : (place other : ℕ) → slice_get new.list.items place ≡ Some other →
      (slice_get old.list.items place ≡ Some other) ⊎ ((place ≡ state * old.width + terminal) × (other ≡ code))

-- some chain leads there from the state after the left side, where that leads somewhere, and the code is that of the action there
pub record IsCodedEnd (g : GrammarView) (tables : TablesView) (key : Key) (end : CodedEnd) : Type 0 where
  pub is : (next : ℕ) → goto_of tables key.below key.from ≡ Some next →
      (productions : List ℕ) × IsChain g tables key.below key.terminal next productions end.target
  pub target : end.target < size_of tables
  pub code : IsCodeOf g (action_of tables end.target key.terminal) end.code
