-- New numbers by counts of rows.
use Rattle.std.specs.Prelude.{◌+◌, ℕ, suc, List, length, map, take}
use Rattle.wb_compose_attributes.specs.declared.numbers.Block.{Block}
use Rattle.wb_compose_attributes.specs.declared.numbers.Numbers.{Numbers}
use Rattle.wb_compose_theory_grammar.specs.Places.{total_of}
use Rattle.wb_compose_attributes.specs.declared.addition.Addition.{Addition}
use Rattle.wb_compose_attributes.specs.declared.addition.Rows.{Rows}
use Rattle.wb_compose_attributes.specs.declared.placed.Counts.{Counts}
use Rattle.wb_compose_attributes.specs.declared.placed.Placed.{Placed}

-- how many rows there are of each sort
abbrev pub counts_in : Rows → Counts
counts_in rows = record {
  terminals = rows.terminals;
  nonterminals = length rows.nonterminals.now;
  abstract_nonterminals = length rows.abstract_nonterminals.now;
  attributes = length rows.attributes.now;
  productions = length rows.productions.now;
  abstract_productions = length rows.abstract_productions.now;
}

-- no rows
abbrev pub no_counts : Counts
no_counts = record {
  terminals = 0;
  nonterminals = 0;
  abstract_nonterminals = 0;
  attributes = 0;
  productions = 0;
  abstract_productions = 0;
}

-- of both
abbrev pub sums_in : Counts → Counts → Counts
sums_in c d = record {
  terminals = c.terminals + d.terminals;
  nonterminals = c.nonterminals + d.nonterminals;
  abstract_nonterminals = c.abstract_nonterminals + d.abstract_nonterminals;
  attributes = c.attributes + d.attributes;
  productions = c.productions + d.productions;
  abstract_productions = c.abstract_productions + d.abstract_productions;
}

-- a sort of rows
pub data Sort : Type 0 where
  Terminals : Sort
  Nonterminals : Sort
  AbstractNonterminals : Sort
  Attributes : Sort
  Productions : Sort
  AbstractProductions : Sort

-- how many of this sort
abbrev pub pick_in : Counts → Sort → ℕ
pick_in c Terminals = c.terminals
pick_in c Nonterminals = c.nonterminals
pick_in c AbstractNonterminals = c.abstract_nonterminals
pick_in c Attributes = c.attributes
pick_in c Productions = c.productions
pick_in c AbstractProductions = c.abstract_productions

-- how many an extension has of a sort
abbrev pub size_by : Sort → Addition → ℕ
size_by sort x = pick_in (counts_in x.rows) sort

-- how many rows extensions have together
abbrev pub total_by : Sort → List Addition → ℕ
total_by sort xs = total_of (map (size_by sort) xs)

abbrev pub totals_in : List Addition → Counts
totals_in xs = record {
  terminals = total_by Terminals xs;
  nonterminals = total_by Nonterminals xs;
  abstract_nonterminals = total_by AbstractNonterminals xs;
  attributes = total_by Attributes xs;
  productions = total_by Productions xs;
  abstract_productions = total_by AbstractProductions xs;
}

-- the block of a sort, where the host has so many, the extensions before have so many rows, and so many all
abbrev pub block_by : ℕ → (size before all : Counts) → Sort → Block
block_by own size before all sort = record { own = own; before = pick_in before sort; size = pick_in size sort; total = pick_in all sort }

-- all new numbers of what becomes this owner's, where no locals move, and so much is before what follows
abbrev pub blocks_at : (host : Counts) → (owner : ℕ) → (size before all : Counts) → (nonterminals productions : ℕ) → Numbers
blocks_at host owner size before all nonterminals productions = record {
  terminal = block_by host.terminals size before all Terminals;
  nonterminal = record {
    lead = block_by host.nonterminals size before all Nonterminals;
    follow = block_by nonterminals size before all AbstractNonterminals;
  };
  attribute = block_by host.attributes size before all Attributes;
  production = record {
    lead = block_by host.productions size before all Productions;
    follow = block_by productions size before all AbstractProductions;
  };
  local = record { own = 0; before = 0; size = 0; total = 0 };
  owner = owner;
}

abbrev pub numbers_by : (host : Counts) → (owner : ℕ) → (size before all : Counts) → Numbers
numbers_by host owner size before all = blocks_at host owner size before all
    (host.nonterminals + all.nonterminals + host.abstract_nonterminals) (host.productions + all.productions + host.abstract_productions)

-- the same, where these extensions come before, and these are there
abbrev pub numbers_at : (host : Counts) → (owner : ℕ) → (size : Counts) → (before all : List Addition) → Numbers
numbers_at host owner size before all = numbers_by host owner size (totals_in before) (totals_in all)

-- a block beside this one of the host, with so many of its own, and so many of others before them
abbrev pub block_after : Block → (size before : ℕ) → Block
block_after b size before = record { own = b.own; before = before; size = size; total = b.total }

-- those of an owner beside these of the host, with so many rows of its own, and so many of others before them
abbrev pub numbers_after : Numbers → (owner : ℕ) → (size before : Counts) → Numbers
numbers_after n owner size before = record {
  terminal = block_after n.terminal size.terminals before.terminals;
  nonterminal = record {
    lead = block_after n.nonterminal.lead size.nonterminals before.nonterminals;
    follow = block_after n.nonterminal.follow size.abstract_nonterminals before.abstract_nonterminals;
  };
  attribute = block_after n.attribute size.attributes before.attributes;
  production = record {
    lead = block_after n.production.lead size.productions before.productions;
    follow = block_after n.production.follow size.abstract_productions before.abstract_productions;
  };
  local = n.local;
  owner = owner;
}

-- the extension of a number
abbrev pub placed_at : Counts → List Addition → ℕ → Addition → Placed
placed_at host all k x =
    record { numbers = numbers_at host (suc k) (counts_in x.rows) (take k all) all; addition = x }

-- the same, where the host has these numbers
abbrev pub placed_by : Numbers → List Addition → ℕ → Addition → Placed
placed_by n all k x =
    record { numbers = numbers_after n (suc k) (counts_in x.rows) (totals_in (take k all)); addition = x }
