-- What is of a host's grammar keeps its numbers with an extension, and what is added is the extension's own.
use Rattle.std.specs.Prelude.{◌≡◌, ◌<◌, ◌≤◌, ◌+◌, ℕ, List, Some, length, slice_get}
use Rattle.wb_base.specs.Grammar.{GrammarView}
use Rattle.wb_determinism.specs.Extensions.{both_numbers}
use Rattle.wb_determinism.specs.Numbers.{production_up, terminal_up}
use Rattle.wb_marking_holes.specs.Holes.{with_holes_of}
use Rattle.wb_names_numbers_theory.specs.Numbering.{numbering_of}
use Rattle.wb_syntax_resolved.specs.declared.resolved.ResolvedParts.{ResolvedParts}
use Rattle.wb_syntax_resolved.specs.Once.{Entry}

-- both lists have the same name of the same owner at this number
pub record IsSameEntry (before names : List Entry) (number : ℕ) : Type 0 where
  pub entry : Entry
  pub was : slice_get before number ≡ Some entry
  pub is : slice_get names number ≡ Some entry

-- the name of this number is the extension's own
pub record IsAdded (names : List Entry) (number : ℕ) : Type 0 where
  pub name : List ℕ
  pub is : slice_get names number ≡ Some (1, name)

-- the first `own` numbers name what they named before, and of the first `bound` each other one is the extension's own
pub record StaysFirst (before names : List Entry) (own bound : ℕ) : Type 0 where
  pub no_fewer : own ≤ bound
  pub stays : (number : ℕ) → number < own → IsSameEntry before names number
  pub added : (number : ℕ) → own ≤ number → number < bound → IsAdded names number

-- the terminals, nonterminals and productions of the host's grammar keep their numbers, and each other one of the grammar with the
-- extension is the extension's own
pub record KeepsNumbers (host r : ResolvedParts) (host_grammar grammar : GrammarView) : Type 0 where
  pub terminals : StaysFirst (numbering_of host).terminals (numbering_of r).terminals host_grammar.terminals grammar.terminals
  pub nonterminals : StaysFirst (numbering_of host).nonterminals (numbering_of r).nonterminals host_grammar.nonterminals
      grammar.nonterminals
  pub productions : StaysFirst (numbering_of host).productions (numbering_of r).productions (length host_grammar.productions)
      (length grammar.productions)

-- each of the first `own` numbers stays, and those that come after them go, in order, to those that come after the first `both`
pub record KeepsPlaces (up : ℕ → ℕ) (own both : ℕ) : Type 0 where
  pub stays : (number : ℕ) → number < own → up number ≡ number
  pub moves : (place : ℕ) → up (own + place) ≡ both + place

-- in the numbers by which lookaheads and envelopes are tested, terminals and productions of the host keep theirs; its holes and the end of
-- a text, their productions and `S' -> S` have those that they have with the extension
pub record HasTestedNumbers (host r : ResolvedParts) (host_grammar grammar : GrammarView) : Type 0 where
  pub terminals : KeepsPlaces (terminal_up (both_numbers r grammar (with_holes_of host_grammar host.extensible)))
      host_grammar.terminals grammar.terminals
  pub productions : KeepsPlaces (production_up (both_numbers r grammar (with_holes_of host_grammar host.extensible)))
      (length host_grammar.productions) (length grammar.productions)
