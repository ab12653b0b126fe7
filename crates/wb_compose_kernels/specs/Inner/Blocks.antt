-- Where the numbers of a certified grammar are in the union.
use Rattle.std.specs.Prelude.{◌≡◌, ◌+◌, ℕ, List, Some, Contains, length, slice_get}
use Rattle.wb_base.specs.declared.symbol.Symbol.{Symbol}
use Rattle.wb_base.specs.declared.symbol.Symbol.TheVariants.{Terminal, Nonterminal}
use Rattle.wb_grammar_theory.specs.declared.item.Item.{Item}
use Rattle.wb_compose_theory.specs.Homes.{Home, of}
use Rattle.wb_compose_theory.specs.Renamings.{Renaming}
use Rattle.wb_compose_theory_grammar.specs.Cuts.{Stretch}
use Rattle.wb_compose_theory_grammar.specs.Pieces.{Piece}
use Rattle.wb_compose_theory_grammar.specs.Places.{count_before, total_of}
use Rattle.wb_compose_theory_grammar.specs.Unions.{added_nonterminals, added_productions, added_terminals}
use Rattle.wb_compose_theory_grammar.specs.UnitedWorlds.{nonterminal_sizes, production_sizes, terminal_sizes}
use Rattle.wb_compose_theory_kernels.specs.Parts.{IsAmong, cut_at, without_holes}
use Rattle.wb_compose_kernels.specs.declared.blocks.Block.{Block}
use Rattle.wb_compose_kernels.specs.declared.blocks.Blocks.{Blocks}
use Rattle.wb_compose_kernels.specs.declared.part_blocks.Before.{Before}
use Rattle.wb_compose_kernels.specs.declared.splice.Splice.{Splice}
use Rattle.wb_compose_kernels.specs.Lent.{AreSpliceable}

-- the union's number
abbrev pub number_by : Block → ℕ → ℕ
number_by b = without_holes b.own b.before b.size b.total b.holes

-- the union's numbers
abbrev pub names_by : Blocks → Renaming
names_by b = record { terminal = number_by b.terminals; nonterminal = number_by b.nonterminals; production = number_by b.productions }

-- the number is that of a hole, or the extension's own
abbrev pub IsHoleBy : Block → ℕ → Type 0
IsHoleBy b number = IsAmong (b.own + b.size) b.holes number

abbrev pub IsOwnBy : Block → ℕ → Type 0
IsOwnBy b number = IsAmong b.own b.size number

-- the symbol is a hole
abbrev pub IsHoleSymbol : Block → Symbol → Type 0
IsHoleSymbol b (Terminal t) = IsHoleBy b t
IsHoleSymbol b (Nonterminal a) = ⊥

-- the production of some item is so
abbrev pub HasHoleItem : Block → List Item → Type 0
HasHoleItem b items = (item : Item) × Contains items item × IsHoleBy b item.production

abbrev pub HasOwnBy : Block → List Item → Type 0
HasOwnBy b items = (item : Item) × Contains items item × IsOwnBy b item.production

-- a certified grammar's numbers, of which a stretch is an extension's
abbrev pub block_of : (own : ℕ) → Stretch → (total holes : ℕ) → Block
block_of own stretch total holes =
    record { own = own; before = stretch.before; size = stretch.size; total = total; holes = holes }

module _ (s : Splice) (ok : AreSpliceable s) where
  -- those of each certified grammar
  abbrev pub blocks_at : Home → Blocks
  blocks_at home = record {
    terminals = block_of s.host.now.terminals (cut_at s.host.now ok.extensible ok.pieces home).terminals
        (total_of (terminal_sizes s.host.now ok.extensible ok.pieces)) (length ok.extensible);
    nonterminals = block_of s.host.now.nonterminals (cut_at s.host.now ok.extensible ok.pieces home).nonterminals
        (total_of (nonterminal_sizes s.host.now ok.extensible ok.pieces)) 0;
    productions = block_of (length s.host.now.productions) (cut_at s.host.now ok.extensible ok.pieces home).productions
        (total_of (production_sizes s.host.now ok.extensible ok.pieces)) (length ok.extensible);
  }

  -- so many numbers of other extensions come before those of the extension of this number
  pub record AreBefore (e : ℕ) (before : Before) : Type 0 where
    pub terminals_are : before.terminals ≡ count_before (terminal_sizes s.host.now ok.extensible ok.pieces) e
    pub nonterminals_are : before.nonterminals ≡ count_before (nonterminal_sizes s.host.now ok.extensible ok.pieces) e
    pub productions_are : before.productions ≡ count_before (production_sizes s.host.now ok.extensible ok.pieces) e

  -- the blocks of the first extensions
  pub record BlocksUpTo (n : ℕ) (list : List Blocks) : Type 0 where
    pub len : length list ≡ n
    pub each : (e : ℕ) (b : Blocks) → slice_get list e ≡ Some b → b ≡ blocks_at (of e)

-- the same, whatever certifies
abbrev pub IsBlocksOf : Splice → Home → Blocks → Type 0
IsBlocksOf s home b = (ok : AreSpliceable s) → b ≡ blocks_at s ok home

abbrev pub AreBlocksUpTo : Splice → ℕ → List Blocks → Type 0
AreBlocksUpTo s n list = (ok : AreSpliceable s) → BlocksUpTo s ok n list

-- the counts are those of the extension of this number
abbrev pub IsSizeOf : Splice → ℕ → Before → Type 0
IsSizeOf s e size = (ok : AreSpliceable s) (x : Piece) → slice_get ok.pieces e ≡ Some x →
    (size.terminals ≡ added_terminals s.host.now x.grammar) × (size.nonterminals ≡ added_nonterminals s.host.now x.grammar) ×
    (size.productions ≡ added_productions s.host.now x.grammar)

-- the counts are the sums of both
abbrev pub IsSum : (before size sums : Before) → Type 0
IsSum before size sums =
    (sums.terminals ≡ before.terminals + size.terminals) × (sums.nonterminals ≡ before.nonterminals + size.nonterminals) ×
    (sums.productions ≡ before.productions + size.productions)

-- numbers with so many of an extension's own, and so many before it
abbrev pub with_counts : (s : Splice) → AreSpliceable s → (before size : Before) → Blocks
with_counts s ok before size = record {
  terminals = block_of s.host.now.terminals (record { before = before.terminals; size = size.terminals })
      (total_of (terminal_sizes s.host.now ok.extensible ok.pieces)) (length ok.extensible);
  nonterminals = block_of s.host.now.nonterminals (record { before = before.nonterminals; size = size.nonterminals })
      (total_of (nonterminal_sizes s.host.now ok.extensible ok.pieces)) 0;
  productions = block_of (length s.host.now.productions) (record { before = before.productions; size = size.productions })
      (total_of (production_sizes s.host.now ok.extensible ok.pieces)) (length ok.extensible);
}

abbrev pub IsWith : Splice → (before size : Before) → Blocks → Type 0
IsWith s before size b = (ok : AreSpliceable s) → b ≡ with_counts s ok before size

abbrev pub AreBeforeIn : Splice → ℕ → Before → Type 0
AreBeforeIn s e before = (ok : AreSpliceable s) → AreBefore s ok e before
