-- A small world: `S -> x` of the host, `S -> m` of the extension 0 and `S -> n` of the extension 1, where m and n are markers.
use Rattle.std.specs.Prelude.{ℕ, zero, suc, List, [], ◌∷◌}
use Rattle.wb_base.specs.declared.symbol.Symbol.{Symbol}
use Rattle.wb_base.specs.declared.symbol.Symbol.TheVariants.{Terminal, Nonterminal}
use Rattle.wb_compose_theory.specs.Worlds.{World, Owner, host, hole, extension, top, Mark, bare, on}

-- the right sides: x, m, n, the hole, and S for the added production
abbrev pub example_right : ℕ → List Symbol
example_right zero = Terminal 0 ∷ []
example_right (suc zero) = Terminal 1 ∷ []
example_right (suc (suc zero)) = Terminal 2 ∷ []
example_right (suc (suc (suc zero))) = Terminal 3 ∷ []
example_right (suc (suc (suc (suc zero)))) = Nonterminal 0 ∷ []
example_right (suc (suc (suc (suc (suc p))))) = []

-- who owns a production
abbrev pub example_production_owner : ℕ → Owner
example_production_owner zero = host
example_production_owner (suc zero) = extension 0
example_production_owner (suc (suc zero)) = extension 1
example_production_owner (suc (suc (suc zero))) = hole
example_production_owner (suc (suc (suc (suc p)))) = top

-- who owns a symbol
abbrev pub example_symbol_owner : Symbol → Owner
example_symbol_owner (Terminal zero) = host
example_symbol_owner (Terminal (suc zero)) = extension 0
example_symbol_owner (Terminal (suc (suc zero))) = extension 1
example_symbol_owner (Terminal (suc (suc (suc zero)))) = hole
example_symbol_owner (Terminal (suc (suc (suc (suc t))))) = host
example_symbol_owner (Nonterminal zero) = host
example_symbol_owner (Nonterminal (suc a)) = top

-- m, n and the hole are on S
abbrev pub example_mark : ℕ → Mark
example_mark zero = bare
example_mark (suc zero) = on 0
example_mark (suc (suc zero)) = on 0
example_mark (suc (suc (suc zero))) = on 0
example_mark (suc (suc (suc (suc t)))) = bare

-- the world of these
abbrev pub example : World
example = record {
  start_symbol = 0;
  end_terminal = 4;
  top_production = 4;
  left = λ p. 0;
  right = example_right;
  production_owner = example_production_owner;
  symbol_owner = example_symbol_owner;
  mark = example_mark;
  hole_on = λ a. 3;
  production_of = λ m. m;
}
