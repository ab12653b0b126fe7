-- A small host `S -> x`, in which S is extensible, and a small extension `S -> m`, where m is a marker.
use Rattle.std.specs.Prelude.{ℕ, zero, suc, List, [], ◌∷◌}
use Rattle.wb_base.specs.declared.symbol.Symbol.TheVariants.{Terminal}
use Rattle.wb_base.specs.Grammar.{GrammarView, Production}
use Rattle.wb_compose_theory.specs.Worlds.{Mark, bare, on}
use Rattle.wb_compose_theory_grammar.specs.Pieces.{Piece}

-- so many productions of the nonterminal 0, each with a terminal alone, numbered in order from this one on
abbrev pub single_productions : ℕ → ℕ → List Production
single_productions first zero = []
single_productions first (suc n) = (0, Terminal first ∷ []) ∷ single_productions (suc first) n

-- the grammar of so many
abbrev pub single_grammar : ℕ → GrammarView
single_grammar n = record { terminals = n; nonterminals = 1; start = 0; productions = single_productions 0 n }

-- the second terminal is a marker
abbrev pub example_mark : ℕ → Mark
example_mark zero = bare
example_mark (suc zero) = on 0
example_mark (suc (suc t)) = bare

-- the host, and the extension
abbrev pub example_host : GrammarView
example_host = single_grammar 1

abbrev pub example_piece : Piece
example_piece = record { grammar = single_grammar 2; mark = example_mark; bridge = λ t. 1 }
