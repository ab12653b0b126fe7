-- A host with extensible nonterminals, and extensions as they were tested: each with the host alone.
use Rattle.std.specs.Prelude.{◌≡◌, ◌<◌, ◌≤◌, ℕ, List, ◌∷◌, ◌++◌, All, Contains, length}
use Rattle.wb_base.specs.declared.symbol.Symbol.{Symbol}
use Rattle.wb_base.specs.declared.symbol.Symbol.TheVariants.{Terminal, Nonterminal}
use Rattle.wb_base.specs.Different.{Differ}
use Rattle.wb_base.specs.Grammar.{GrammarView, Production, IsGrammar}
use Rattle.wb_grammar_theory.specs.Productions.{IsProduction}
use Rattle.wb_compose_theory.specs.Marks.{Each}
use Rattle.wb_compose_theory.specs.Worlds.{Mark, bare, on}

-- an extension: its grammar with the host's, the nonterminal that each marker is on, and the production that it begins
pub record Piece : Type 0 where
  pub grammar : GrammarView
  pub mark : (terminal : ℕ) → Mark
  pub bridge : (terminal : ℕ) → ℕ

-- the grammar is the host's with more symbols and productions, each numbered after those of the host
pub record Extends (host g : GrammarView) : Type 0 where
  pub terminals : host.terminals ≤ g.terminals
  pub nonterminals : host.nonterminals ≤ g.nonterminals
  pub start : g.start ≡ host.start
  pub productions : (own : List Production) × (g.productions ≡ host.productions ++ own)

-- the symbol is no marker
abbrev pub IsUnmarked : Piece → Symbol → Type 0
IsUnmarked x (Terminal t) = x.mark t ≡ bare
IsUnmarked x (Nonterminal a) = Unit {0}

-- a production of an extension: of one of its own nonterminals, without a marker; or a bridge, which its marker begins, with no other after
-- it
pub data IsOwnProduction (host : GrammarView) (x : Piece) (p a : ℕ) (right : List Symbol) : Type 0 where
  unmarked : host.nonterminals ≤ a → Each (IsUnmarked x) right → IsOwnProduction host x p a right
  bridge : (m b : ℕ) (rest : List Symbol) → x.mark m ≡ on b → p ≡ x.bridge m → right ≡ Terminal m ∷ rest → Each (IsUnmarked x) rest →
      IsOwnProduction host x p a right

-- a marker is a terminal of the extension and is on an extensible nonterminal, and its bridge is a production of the extension on that
-- nonterminal, which it begins
pub record IsMarker (host : GrammarView) (extensible : List ℕ) (x : Piece) (m a : ℕ) : Type 0 where
  pub own : host.terminals ≤ m
  pub within : m < x.grammar.terminals
  pub extensible_left : Contains extensible a
  pub own_bridge : length host.productions ≤ x.bridge m
  pub bridge_is : (rest : List Symbol) × IsProduction x.grammar (x.bridge m) a (Terminal m ∷ rest)

-- an extension of the host: markers and bridges are as they should be
pub record IsPiece (host : GrammarView) (extensible : List ℕ) (x : Piece) : Type 0 where
  pub is_grammar : IsGrammar x.grammar
  pub extends : Extends host x.grammar
  pub markers : (m a : ℕ) → x.mark m ≡ on a → IsMarker host extensible x m a
  pub own_productions : (p a : ℕ) (right : List Symbol) → length host.productions ≤ p → IsProduction x.grammar p a right →
      IsOwnProduction host x p a right

-- a host with different extensible nonterminals, and extensions of it
pub record ArePieces (host : GrammarView) (extensible : List ℕ) (pieces : List Piece) : Type 0 where
  pub is_grammar : IsGrammar host
  pub within : All (λ a. a < host.nonterminals) extensible
  pub differ : Differ extensible
  pub each : All (IsPiece host extensible) pieces
