-- The numbers of the host's grammar, of an extension's and of the union's among those of the union with holes.
use Rattle.std.specs.Prelude.{◌+◌, ℕ, Option, Some, None, List, length, slice_get}
use Rattle.wb_base.specs.Grammar.{GrammarView}
use Rattle.wb_marking_holes.specs.Holes.{with_holes_of}
use Rattle.wb_compose_theory.specs.Blocks.{spread, lift}
use Rattle.wb_compose_theory.specs.Composed.{Composition, Extended}
use Rattle.wb_compose_theory.specs.Renamings.{Renaming}
use Rattle.wb_compose_theory.specs.Worlds.{Mark, bare, on}
use Rattle.wb_compose_theory_grammar.specs.Cuts.{Cut, no_cut}
use Rattle.wb_compose_theory_grammar.specs.Pieces.{Piece}
use Rattle.wb_compose_theory_grammar.specs.Places.{count_before, total_of}
use Rattle.wb_compose_theory_grammar.specs.Unions.{added_terminals, added_nonterminals, added_productions}
use Rattle.wb_compose_theory_grammar.specs.UnitedWorlds.{index_of, nonterminal_sizes, production_sizes, terminal_sizes, united}

-- what the host's numbers become in those of the host with an extension
abbrev pub up_of : (g x : GrammarView) → Renaming
up_of g x = record {
  terminal = lift g.terminals (added_terminals g x);
  nonterminal = lift g.nonterminals (added_nonterminals g x);
  production = lift (length g.productions) (added_productions g x);
}

-- what a terminal with this mark becomes, among the terminals of the host with an extension and of the holes
abbrev pub image_of : List ℕ → Piece → Mark → ℕ → ℕ
image_of extensible x bare t = t
image_of extensible x (on a) t = x.grammar.terminals + index_of extensible a

-- each marker becomes the hole of its nonterminal, and every other terminal stays
abbrev pub phi_of : List ℕ → Piece → ℕ → ℕ
phi_of extensible x t = image_of extensible x (x.mark t) t

module _ (g : GrammarView) (extensible : List ℕ) (pieces : List Piece) where
  -- one extension
  abbrev pub cut_of : ℕ → Piece → Cut
  cut_of k x = record {
    terminals = record { before = count_before (terminal_sizes g extensible pieces) k; size = added_terminals g x.grammar };
    nonterminals = record { before = count_before (nonterminal_sizes g extensible pieces) k; size = added_nonterminals g x.grammar };
    productions = record { before = count_before (production_sizes g extensible pieces) k; size = added_productions g x.grammar };
  }

  -- all extensions
  abbrev pub whole_cut : Cut
  whole_cut = record {
    terminals = record { before = 0; size = total_of (terminal_sizes g extensible pieces) };
    nonterminals = record { before = 0; size = total_of (nonterminal_sizes g extensible pieces) };
    productions = record { before = 0; size = total_of (production_sizes g extensible pieces) };
  }

  -- the names of the host's numbers and of those of a cut, where what comes after moves up by so many more
  abbrev pub names_in : Cut → ℕ → Renaming
  names_in c more = record {
    terminal = spread g.terminals c.terminals.before c.terminals.size (total_of (terminal_sizes g extensible pieces) + more);
    nonterminal = spread g.nonterminals c.nonterminals.before c.nonterminals.size (total_of (nonterminal_sizes g extensible pieces));
    production = spread (length g.productions) c.productions.before c.productions.size
        (total_of (production_sizes g extensible pieces) + more);
  }

  -- the grammars of what may be an extension, with their names
  abbrev pub extended_in : ℕ → Option Piece → Extended
  extended_in k None = record {
    plain_grammar = g;
    plain_names = names_in no_cut (length extensible);
    grammar = with_holes_of g extensible;
    names = names_in no_cut 0;
    up = up_of g g;
    phi_of = λ t. t;
  }
  extended_in k (Some x) = record {
    plain_grammar = x.grammar;
    plain_names = names_in (cut_of k x) (length extensible);
    grammar = with_holes_of x.grammar extensible;
    names = names_in (cut_of k x) 0;
    up = up_of g x.grammar;
    phi_of = phi_of extensible x;
  }

  -- all grammars, with their names
  abbrev pub composition_of : Composition
  composition_of = record {
    plain_grammar = g;
    plain_names = names_in no_cut (length extensible);
    host_grammar = with_holes_of g extensible;
    host_names = names_in no_cut 0;
    union_grammar = united g extensible pieces;
    union_names = names_in whole_cut (length extensible);
    extended = λ k. extended_in k (slice_get pieces k);
  }
