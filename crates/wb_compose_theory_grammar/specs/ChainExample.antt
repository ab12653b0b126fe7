-- A host of chains, `S -> A S`, `S -> c y` and `A -> c`, in which S is extensible, and an extension `S -> m A S`, where m is a marker. After m
-- and c the extension has a new kernel of the host's items, and m is a lookahead of `A -> c`.
use Rattle.std.specs.Prelude.{ℕ, zero, suc, List, [], ◌∷◌, ◌++◌}
use Rattle.wb_base.specs.declared.symbol.Symbol.{Symbol}
use Rattle.wb_base.specs.declared.symbol.Symbol.TheVariants.{Terminal, Nonterminal}
use Rattle.wb_base.specs.Grammar.{GrammarView, Production}
use Rattle.wb_grammar_theory.specs.declared.item.Item.{Item}
use Rattle.wb_grammar_theory.specs.Items.{IsViablePrefix}
use Rattle.wb_grammar_theory.specs.Lookaheads.{IsLookahead}
use Rattle.wb_marking_holes.specs.Holes.{with_holes_of}
use Rattle.wb_compose_theory.specs.Numbered.{IsHostKernel, IsNewHostKernel}
use Rattle.wb_compose_theory.specs.Renamings.{Renaming}
use Rattle.wb_compose_theory.specs.Worlds.{Mark, bare, on}
use Rattle.wb_compose_theory_grammar.specs.Numberings.{up_of}
use Rattle.wb_compose_theory_grammar.specs.Pieces.{Piece}

-- the host's productions
abbrev pub chain_productions : List Production
chain_productions =
    (0, Nonterminal 1 ∷ Nonterminal 0 ∷ []) ∷ (0, Terminal 0 ∷ Terminal 1 ∷ []) ∷ (1, Terminal 0 ∷ []) ∷ []

-- the third terminal is a marker
abbrev pub chain_mark : ℕ → Mark
chain_mark zero = bare
chain_mark (suc zero) = bare
chain_mark (suc (suc zero)) = on 0
chain_mark (suc (suc (suc t))) = bare

-- the host, and the extension
abbrev pub chain_host : GrammarView
chain_host = record { terminals = 2; nonterminals = 2; start = 0; productions = chain_productions }

abbrev pub chain_both : GrammarView
chain_both = record {
  terminals = 3;
  nonterminals = 2;
  start = 0;
  productions = chain_productions ++ (0, Terminal 2 ∷ Nonterminal 1 ∷ Nonterminal 0 ∷ []) ∷ [];
}

abbrev pub chain_piece : Piece
chain_piece = record { grammar = chain_both; mark = chain_mark; bridge = λ t. 3 }

-- the host with its hole, the host with its hole and the extension, and where the host's numbers go
abbrev pub chain_holes : GrammarView
chain_holes = with_holes_of chain_host (0 ∷ [])

abbrev pub chain_both_holes : GrammarView
chain_both_holes = with_holes_of chain_both (0 ∷ [])

abbrev pub chain_up : Renaming
chain_up = up_of chain_host chain_both

-- some prefix has a new kernel of the host's items
pub record HasNewKernel : Type 0 where
  pub prefix : List Symbol
  pub viable : IsViablePrefix chain_both_holes prefix
  pub new : IsNewHostKernel chain_holes chain_both_holes chain_up prefix

-- the marker is a lookahead of an item of a kernel that is the host's
pub record HasMarkerAhead : Type 0 where
  pub prefix : List Symbol
  pub other : List Symbol
  pub kernel : IsHostKernel chain_holes chain_both_holes chain_up prefix other
  pub item : Item
  pub lookahead : IsLookahead chain_both_holes prefix item 2
