-- The numbers of a host, with holes, in those of the host with an extension, with holes.
use Rattle.std.specs.Prelude.{◌+◌, ◌-◌, ℕ, nat_lt, if◌then◌else◌}
use Rattle.wb_grammar_theory.specs.declared.item.Item.{Item}
use Rattle.wb_compose_theory.specs.Renamings.{Renaming}
use Rattle.wb_determinism.specs.declared.numbers.Numbers.{Numbers}

-- the number, moved up by so many where it isn't among the first
abbrev pub lifted : ℕ → ℕ → ℕ → ℕ
lifted own more n = if nat_lt n own then n else (n + more)

-- the number of a host's terminal, of a hole or of the end of a text: the host's own keep theirs, and the others come after the extension's
abbrev pub terminal_up : Numbers → ℕ → ℕ
terminal_up m t = lifted m.own_terminals (m.both_terminals - m.host_terminals) t

-- the number of a host's production, of a hole's or of `S' -> S`
abbrev pub production_up : Numbers → ℕ → ℕ
production_up m p = lifted m.own_productions (m.both_productions - m.host_productions) p

-- a host's item
abbrev pub item_up : Numbers → Item → Item
item_up m item = record { production = production_up m item.production; dot = item.dot }

-- these numbers, with these of nonterminals, of which no item speaks
abbrev pub renaming_by : Numbers → (ℕ → ℕ) → Renaming
renaming_by m nonterminal = record { terminal = terminal_up m; nonterminal = nonterminal; production = production_up m }

-- these numbers, where nonterminals keep theirs
abbrev pub up_by : Numbers → Renaming
up_by m = renaming_by m (λ a. a)
