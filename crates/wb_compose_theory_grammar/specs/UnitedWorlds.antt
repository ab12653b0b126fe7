-- The world of a host and its extensions: its names are the numbers of the union with holes.
use Rattle.std.specs.Prelude.{◌+◌, ℕ, suc, Option, Some, None, List, [], ◌∷◌, length, map, slice_get, eqb, cond}
use Rattle.wb_base.specs.declared.symbol.Symbol.{Symbol}
use Rattle.wb_base.specs.declared.symbol.Symbol.TheVariants.{Terminal, Nonterminal}
use Rattle.wb_base.specs.Grammar.{GrammarView, Production}
use Rattle.wb_grammar_theory.specs.Productions.{right_of, top_of, end_of}
use Rattle.wb_marking_holes.specs.Holes.{with_holes_of}
use Rattle.wb_compose_theory.specs.Blocks.{lift}
use Rattle.wb_compose_theory.specs.Worlds.{Owner, top, Mark, bare, World}
use Rattle.wb_compose_theory_grammar.specs.Owners.{owner_at, past_mark, past_production_owner, past_terminal_owner}
use Rattle.wb_compose_theory_grammar.specs.Pieces.{Piece}
use Rattle.wb_compose_theory_grammar.specs.Places.{Place, of_host, of_extension, past, place_of, count_before}
use Rattle.wb_compose_theory_grammar.specs.Unions.{union_of, added_terminals, added_nonterminals, added_productions}

-- the mark and the bridge of a terminal of what may be an extension
abbrev pub mark_in : Option Piece → ℕ → Mark
mark_in None t = bare
mark_in (Some x) t = x.mark t

abbrev pub bridge_in : Option Piece → ℕ → ℕ
bridge_in None t = 0
bridge_in (Some x) t = x.bridge t

-- the left side of what may be a production
abbrev pub left_in : Option Production → ℕ
left_in None = 0
left_in (Some rule) = rule.0

-- the place of a nonterminal among the extensible ones
abbrev pub index_of : List ℕ → ℕ → ℕ
index_of [] a = 0
index_of (b ∷ extensible) a = cond (eqb b a) 0 (suc (index_of extensible a))

module _ (g : GrammarView) (extensible : List ℕ) (pieces : List Piece) where
  -- the grammars, and their union
  abbrev pub grammars_of : List GrammarView
  grammars_of = map (λ x. x.grammar) pieces

  abbrev pub united : GrammarView
  united = union_of g grammars_of

  -- how many terminals, nonterminals and productions each extension has
  abbrev pub terminal_sizes : List ℕ
  terminal_sizes = map (added_terminals g) grammars_of

  abbrev pub nonterminal_sizes : List ℕ
  nonterminal_sizes = map (added_nonterminals g) grammars_of

  abbrev pub production_sizes : List ℕ
  production_sizes = map (added_productions g) grammars_of

  abbrev pub owner_of : Symbol → Owner
  owner_of (Terminal t) = owner_at (past_terminal_owner extensible) (place_of g.terminals terminal_sizes t)
  owner_of (Nonterminal a) = owner_at (λ j. top) (place_of g.nonterminals nonterminal_sizes a)

  -- the mark of the terminal at a place, and the production that it begins
  abbrev pub mark_at : Place → Mark
  mark_at (of_host i) = bare
  mark_at (of_extension k i) = mark_in (slice_get pieces k) (g.terminals + i)
  mark_at (past j) = past_mark extensible j

  abbrev pub production_at : Place → ℕ
  production_at (of_host i) = 0
  production_at (of_extension k i) =
      lift (length g.productions) (count_before production_sizes k) (bridge_in (slice_get pieces k) (g.terminals + i))
  production_at (past j) = length united.productions + j

  -- the world
  abbrev pub world_of : World
  world_of = record {
    start_symbol = g.start;
    end_terminal = end_of (with_holes_of united extensible);
    top_production = top_of (with_holes_of united extensible);
    left = λ p. left_in (slice_get (with_holes_of united extensible).productions p);
    right = right_of (with_holes_of united extensible);
    production_owner = λ p. owner_at (past_production_owner extensible) (place_of (length g.productions) production_sizes p);
    symbol_owner = owner_of;
    mark = λ t. mark_at (place_of g.terminals terminal_sizes t);
    hole_on = λ a. united.terminals + index_of extensible a;
    production_of = λ t. production_at (place_of g.terminals terminal_sizes t);
  }
