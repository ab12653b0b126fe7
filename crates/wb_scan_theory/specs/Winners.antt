-- The forms that are considered at a prefix, and which of those that match at a place of a text wins.
use Rattle.std.specs.Prelude.{◌≡◌, ◌≢◌, ◌≤◌, ℕ, List, [], ◌++◌, Contains, drop, length, slice_get, Option, Some, None}
use Rattle.wb_base.specs.declared.symbol.Symbol.{Symbol}
use Rattle.wb_base.specs.Grammar.{GrammarView}
use Rattle.wb_grammar_theory.specs.Items.{HoldsFrom}
use Rattle.wb_grammar_theory.specs.Lookaheads.{IsValidTerminal}
use Rattle.wb_automata.specs.Automata.{IsMatch}
use Rattle.wb_scan_theory.specs.declared.form.Form.{Form}
use Rattle.wb_scan_theory.specs.Languages.{LanguageView, forms_of, IsLayout, span_at}

-- the kernel of the prefix holds an item of one of these productions; where none are given, it may hold what it will
abbrev pub HoldsOne : GrammarView → List Symbol → Option (ℕ × ℕ) → Type 0
HoldsOne g prefix None = Unit {0}
HoldsOne g prefix (Some span) = HoldsFrom g prefix span.0 span.1

-- the form is considered at the prefix: it is one of a terminal that is valid there, or of layout by whose productions the kernel holds an
-- item
pub data IsConsideredForm (l : LanguageView) (prefix : List Symbol) (place : ℕ) : Type 0 where
  valid : (form : Form) → slice_get l.forms place ≡ Some form → IsValidTerminal l.grammar prefix form.terminal →
      IsConsideredForm l prefix place
  layout : IsLayout l place → HoldsOne l.grammar prefix (span_at l place) → IsConsideredForm l prefix place

-- the form is considered at the prefix, and matches this piece of the text from the place `at` on
pub record MatchesAt (l : LanguageView) (prefix : List Symbol) (text : List ℕ) (at place : ℕ) (piece : List ℕ) : Type 0 where
  pub considered : IsConsideredForm l prefix place
  pub is : IsMatch l.expressions place piece
  pub rest : List ℕ
  pub here : drop at text ≡ piece ++ rest

-- the one form beats the other: a prefixed form beats every bare one, and of two bare or two prefixed forms the one whose terminal is
-- preferred to the other's
pub data Beats (l : LanguageView) (f g : Form) : Type 0 where
  by_prefix : f.prefix ≢ [] → g.prefix ≡ [] → Beats l f g
  both_bare : f.prefix ≡ [] → g.prefix ≡ [] → Contains l.preferences (f.terminal, g.terminal) → Beats l f g
  both_prefixed : f.prefix ≢ [] → g.prefix ≢ [] → Contains l.preferences (f.terminal, g.terminal) → Beats l f g

-- the form at the one place beats that at the other
pub record BeatsAt (l : LanguageView) (place other : ℕ) : Type 0 where
  pub one : Form
  pub two : Form
  pub at : slice_get (forms_of l) place ≡ Some one
  pub to : slice_get (forms_of l) other ≡ Some two
  pub beats : Beats l one two

-- the form wins with this piece of the text: it is considered and matches, none that is considered matches a longer piece, and it beats
-- each other one that matches a piece of this length
pub record Wins (l : LanguageView) (prefix : List Symbol) (text : List ℕ) (at place : ℕ) (piece : List ℕ) : Type 0 where
  pub matches : MatchesAt l prefix text at place piece
  pub longest : (other : ℕ) (longer : List ℕ) → MatchesAt l prefix text at other longer → length longer ≤ length piece
  pub beats : (other : ℕ) (same : List ℕ) → MatchesAt l prefix text at other same → length same ≡ length piece → other ≢ place →
      BeatsAt l place other
