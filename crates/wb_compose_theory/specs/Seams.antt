-- Grammars in their own numbers, as parts of a world.
use Rattle.std.specs.Prelude.{◌≡◌, ◌<◌, ℕ, List, [], ◌∷◌, map}
use Rattle.wb_base.specs.declared.symbol.Symbol.{Symbol}
use Rattle.wb_base.specs.declared.symbol.Symbol.TheVariants.{Nonterminal}
use Rattle.wb_base.specs.Grammar.{GrammarView}
use Rattle.wb_grammar_theory.specs.Productions.{IsProduction, top_of, end_of}
use Rattle.wb_compose_theory.specs.Worlds.{World, Part, plus, both, IsProductionIn, IsSymbolIn}
use Rattle.wb_compose_theory.specs.Marks.{phi}
use Rattle.wb_compose_theory.specs.Renamings.{Renaming, renamed}

-- different numbers become different names
pub record IsInjective (r : Renaming) : Type 0 where
  pub terminal : (t u : ℕ) → r.terminal t ≡ r.terminal u → t ≡ u
  pub nonterminal : (a b : ℕ) → r.nonterminal a ≡ r.nonterminal b → a ≡ b
  pub production : (p q : ℕ) → r.production p ≡ r.production q → p ≡ q

-- the end of a text, the start and the added production of the grammar become those of the world
pub record KeepsEnds (g : GrammarView) (w : World) (r : Renaming) : Type 0 where
  pub end_is : r.terminal (end_of g) ≡ w.end_terminal
  pub start_is : r.nonterminal g.start ≡ w.start_symbol
  pub top_is : r.production (top_of g) ≡ w.top_production
  pub top_right : w.right w.top_production ≡ Nonterminal w.start_symbol ∷ []

-- the productions of the grammar become those of the part, all of them
pub record KeepsProductions (g : GrammarView) (w : World) (part : Part) (r : Renaming) : Type 0 where
  pub production : (p a : ℕ) (right : List Symbol) → IsProduction g p a right → IsProductionIn w part (r.production p)
  pub left_is : (p a : ℕ) (right : List Symbol) → IsProduction g p a right → w.left (r.production p) ≡ r.nonterminal a
  pub right_is : (p a : ℕ) (right : List Symbol) → IsProduction g p a right → w.right (r.production p) ≡ map (renamed r) right
  pub onto : (q : ℕ) → IsProductionIn w part q → (p a : ℕ) × (right : List Symbol) × IsProduction g p a right × (q ≡ r.production p)

-- the nonterminals of the grammar become those of the part, all of them
pub record KeepsNonterminals (g : GrammarView) (w : World) (part : Part) (r : Renaming) : Type 0 where
  pub within : (a : ℕ) → a < g.nonterminals → IsSymbolIn w part (Nonterminal (r.nonterminal a))
  pub onto : (b : ℕ) → IsSymbolIn w part (Nonterminal b) → (a : ℕ) × (a < g.nonterminals) × (b ≡ r.nonterminal a)

-- the grammar is the part of the world, in numbers of its own
pub record IsNumbering (g : GrammarView) (w : World) (part : Part) (r : Renaming) : Type 0 where
  pub once : IsInjective r
  pub ends : KeepsEnds g w r
  pub nonterminals : KeepsNonterminals g w part r
  pub productions : KeepsProductions g w part r

-- g is the host with holes and k the host with holes and the extension; `up` leads from the numbers of g to those of k, and `phi` in the
-- numbers of k is that of the world
pub record AreNumberings (g k : GrammarView) (up : Renaming) (phi_of : ℕ → ℕ) (w : World) (e : ℕ) (r s : Renaming) : Type 0 where
  pub of_host : IsNumbering g w plus r
  pub of_both : IsNumbering k w (both e) s
  pub terminals : (t : ℕ) → r.terminal t ≡ s.terminal (up.terminal t)
  pub nonterminals : (a : ℕ) → r.nonterminal a ≡ s.nonterminal (up.nonterminal a)
  pub productions : (p : ℕ) → r.production p ≡ s.production (up.production p)
  pub phis : (t : ℕ) → s.terminal (phi_of t) ≡ phi w (s.terminal t)
