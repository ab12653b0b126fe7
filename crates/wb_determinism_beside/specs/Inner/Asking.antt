-- What is asked, as references to it, and what is known before new kernels are looked for.
use Rattle.std.specs.Prelude.{◌≡◌, ◌+◌, ◌-◌, length}
use Rattle.wb_determinism.specs.declared.numbers.Numbers.{Numbers}
use Rattle.wb_determinism.specs.Extensions.{IsDeterministicExtension, numbers_of}
use Rattle.wb_determinism.specs.Images.{stands_for, AreImages}
use Rattle.wb_determinism_host.specs.HostGrammar.{HasGrammar}
use Rattle.wb_determinism_kernels.specs.declared.beside.Beside.{Beside}
use Rattle.wb_grammar.specs.Facts.{AreFacts}
use Rattle.wb_grammar_theory.specs.Shape.{IsReduced}
use Rattle.wb_marking_holes.specs.Holes.{with_holes_of}
use Rattle.wb_determinism_beside.specs.declared.asked.Asked.{Asked}
use Rattle.wb_determinism_beside.specs.declared.asked.Fit.{Fit}
use Rattle.wb_determinism_beside.specs.Asked.{IsAskedBeside}
use Rattle.wb_determinism_beside.specs.declared.found.Found.{Found}
use Rattle.wb_determinism_beside.specs.Given.{moved_by}
use Rattle.wb_determinism_beside.specs.Inner.Found.{IsFound}

-- the specification has the grammar, and it may be asked of the host
pub record IsAsked (x : Asked) : Type 0 where
  pub has : HasGrammar x.resolved.now x.grammar.now
  pub beside : IsAskedBeside x.resolved.now x.grammar.now x.host.now

-- what is asked
abbrev pub Answer : Asked → Type 0
Answer x = IsDeterministicExtension x.resolved.now x.grammar.now x.host.now.grammar

abbrev pub asked_in : Fit → Asked
asked_in x = x.asked.now

-- besides, the grammar is reduced, and the facts are those of the grammar with holes
pub record IsFit (x : Fit) : Type 0 where
  pub asked : IsAsked (asked_in x)
  pub reduced : IsReduced (asked_in x).grammar.now
  pub holes_are : x.holes.now ≡ with_holes_of (asked_in x).grammar.now (asked_in x).resolved.now.extensible
  pub facts_are : AreFacts x.holes.now x.facts.now

-- the numbers of both grammars with holes
abbrev pub numbers_in : Fit → Numbers
numbers_in x = numbers_of (asked_in x).host.now.grammar x.holes.now (length (asked_in x).resolved.now.extensible)

-- the grammars are those of the host and of the host with the extension, both with holes, in their numbers, and the images of terminals
-- are what they stand for
pub record IsBesideOf (x : Fit) (b : Beside) : Type 0 where
  pub host : b.host.now ≡ (asked_in x).host.now.kernels
  pub own : b.own.now ≡ (asked_in x).host.now.grammar
  pub grammar : b.grammar.now ≡ x.holes.now
  pub numbers : b.numbers.now ≡ moved_by (numbers_in x) (asked_in x).host.now.grammar.nonterminals
      (x.holes.now.nonterminals - (asked_in x).host.now.grammar.nonterminals)
  pub images : AreImages (numbers_in x) (stands_for (asked_in x).resolved.now (asked_in x).grammar.now) (x.holes.now.terminals + 1)
      b.images.now

-- and these are the new kernels, with their lookaheads
pub record IsFoundOf (x : Fit) (y : Found) : Type 0 where
  pub beside : IsBesideOf x y.beside.now
  pub found : IsFound y
