-- The certified grammars of a host and its extensions, each with holes, and where their numbers are in the union, which has no holes.
use Rattle.std.specs.Prelude.{◌<◌, ◌≤◌, ◌+◌, ◌-◌, ℕ, Option, Some, None, List, length, slice_get, ltb, cond}
use Rattle.wb_base.specs.declared.symbol.Symbol.{Symbol}
use Rattle.wb_base.specs.declared.symbol.Symbol.TheVariants.{Terminal, Nonterminal}
use Rattle.wb_base.specs.Grammar.{GrammarView}
use Rattle.wb_marking_holes.specs.Holes.{with_holes_of}
use Rattle.wb_compose_theory.specs.Homes.{Home, of, of_host}
use Rattle.wb_compose_theory.specs.Renamings.{Renaming}
use Rattle.wb_compose_theory_grammar.specs.Cuts.{Cut, no_cut}
use Rattle.wb_compose_theory_grammar.specs.Numberings.{cut_of}
use Rattle.wb_compose_theory_grammar.specs.Pieces.{Piece}
use Rattle.wb_compose_theory_grammar.specs.Places.{total_of}
use Rattle.wb_compose_theory_grammar.specs.UnitedWorlds.{index_of, nonterminal_sizes, production_sizes, terminal_sizes}

-- the host's first `own` numbers stay; those of an extension move up by what the extensions before it have; and what comes after so many
-- holes comes after the `total` of all extensions
abbrev pub without_holes : (own before size total holes : ℕ) → ℕ → ℕ
without_holes own before size total holes t = cond (ltb t own) t (cond (ltb t (own + size)) (t + before) ((t - (size + holes)) + total))

-- the number is one of so many from the first on
abbrev pub IsAmong : (first many : ℕ) → ℕ → Type 0
IsAmong first many number = (first ≤ number) × (number < first + many)

module _ (host : GrammarView) (extensible : List ℕ) (pieces : List Piece) where
  -- the stretch of what may be the extension of this number, and its grammar or the host's, with holes
  abbrev pub cut_in : ℕ → Option Piece → Cut
  cut_in e None = no_cut
  cut_in e (Some x) = cut_of host extensible pieces e x

  abbrev pub grammar_in : Option Piece → GrammarView
  grammar_in None = with_holes_of host extensible
  grammar_in (Some x) = with_holes_of x.grammar extensible

  -- the stretch of the extensions' numbers that a certified grammar has, and the grammar
  abbrev pub cut_at : Home → Cut
  cut_at of_host = no_cut
  cut_at (of e) = cut_in e (slice_get pieces e)

  abbrev pub grammar_at : Home → GrammarView
  grammar_at of_host = with_holes_of host extensible
  grammar_at (of e) = grammar_in (slice_get pieces e)

  -- its numbers in those of the union
  abbrev pub into_union : Home → Renaming
  into_union home = record {
    terminal = without_holes host.terminals (cut_at home).terminals.before (cut_at home).terminals.size
        (total_of (terminal_sizes host extensible pieces)) (length extensible);
    nonterminal = without_holes host.nonterminals (cut_at home).nonterminals.before (cut_at home).nonterminals.size
        (total_of (nonterminal_sizes host extensible pieces)) 0;
    production = without_holes (length host.productions) (cut_at home).productions.before (cut_at home).productions.size
        (total_of (production_sizes host extensible pieces)) (length extensible);
  }

  -- its number of the hole of an extensible nonterminal, and of that hole's production
  abbrev pub hole_at : Home → ℕ → ℕ
  hole_at home a = (host.terminals + (cut_at home).terminals.size) + index_of extensible a

  abbrev pub hole_production_at : Home → ℕ → ℕ
  hole_production_at home a = (length host.productions + (cut_at home).productions.size) + index_of extensible a

  -- the symbol is a hole of it, and the production is that of one
  abbrev pub IsHole : Home → Symbol → Type 0
  IsHole home (Terminal t) = IsAmong (host.terminals + (cut_at home).terminals.size) (length extensible) t
  IsHole home (Nonterminal a) = ⊥

  abbrev pub IsHoleProduction : Home → ℕ → Type 0
  IsHoleProduction home p = IsAmong (length host.productions + (cut_at home).productions.size) (length extensible) p

  -- the production is an extension's own
  abbrev pub IsOwnProduction : Home → ℕ → Type 0
  IsOwnProduction home p = IsAmong (length host.productions) (cut_at home).productions.size p
