-- Small grammars with certificates: `S -> x`, and one in which a nonterminal derives no text.
use Rattle.std.specs.Prelude.{ℕ, List, [], ◌∷◌, Some, None}
use Rattle.wb_base.specs.declared.symbol.Symbol.TheVariants.{Terminal, Nonterminal}
use Rattle.wb_base.specs.Grammar.{GrammarView}
use Rattle.wb_recheck_theory.specs.declared.line.Line.{Line}
use Rattle.wb_recheck_theory.specs.declared.entry.Entry.{Entry}

-- `S -> x`
abbrev pub one : GrammarView
one = record { terminals = 1; nonterminals = 1; start = 0; productions = (0, Terminal 0 ∷ []) ∷ [] }

-- kernel 1 is reached by x, and kernel 2 by S
abbrev pub one_lines : List Line
one_lines = record { from = 0; symbol = Terminal 0 } ∷ record { from = 0; symbol = Nonterminal 0 } ∷ []

-- `end`, which is the terminal 1, at three of the four items, and further entries
abbrev pub one_entries_with : List Entry → List Entry
one_entries_with further =
    record { kernel = 0; item = record { production = 1; dot = 0 }; terminal = 1; origin = None }
    ∷ record { kernel = 0; item = record { production = 0; dot = 0 }; terminal = 1; origin = Some 0 }
    ∷ record { kernel = 2; item = record { production = 1; dot = 1 }; terminal = 1; origin = Some 0 }
    ∷ further

-- `end` at the fourth, `S -> x .`, as it follows from the entry at this place
abbrev pub one_last : ℕ → Entry
one_last place = record { kernel = 1; item = record { production = 0; dot = 1 }; terminal = 1; origin = Some place }

-- `end` at each of the four
abbrev pub one_entries : List Entry
one_entries = one_entries_with (one_last 1 ∷ [])

-- `S -> C B` and `C -> c`, where B has no production
abbrev pub dead : GrammarView
dead = record {
  terminals = 1;
  nonterminals = 3;
  start = 0;
  productions = (0, Nonterminal 1 ∷ Nonterminal 2 ∷ []) ∷ (1, Terminal 0 ∷ []) ∷ [];
}

-- from kernel 0 kernel 1 is reached by c, kernel 2 by S and kernel 3 by C, and from that kernel 4 by B
abbrev pub dead_lines : List Line
dead_lines =
    record { from = 0; symbol = Terminal 0 }
    ∷ record { from = 0; symbol = Nonterminal 0 }
    ∷ record { from = 0; symbol = Nonterminal 1 }
    ∷ record { from = 3; symbol = Nonterminal 2 }
    ∷ []

-- `end`, which is the terminal 1, at each item but those of `C -> c`
abbrev pub dead_entries : List Entry
dead_entries =
    record { kernel = 0; item = record { production = 2; dot = 0 }; terminal = 1; origin = None }
    ∷ record { kernel = 0; item = record { production = 0; dot = 0 }; terminal = 1; origin = Some 0 }
    ∷ record { kernel = 2; item = record { production = 2; dot = 1 }; terminal = 1; origin = Some 0 }
    ∷ record { kernel = 3; item = record { production = 0; dot = 1 }; terminal = 1; origin = Some 1 }
    ∷ record { kernel = 4; item = record { production = 0; dot = 2 }; terminal = 1; origin = Some 3 }
    ∷ []
