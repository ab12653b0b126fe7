-- What is lent of certified extensions to their union.
use Rattle.std.specs.Prelude.{◌≡◌, ℕ, List, Option, Some, None, [], map}
use Rattle.wb_base.specs.Grammar.{GrammarView}
use Rattle.wb_certify.specs.Kept.{ExtensionView}
use Rattle.wb_compose_kernels.specs.declared.splice.Part.{Part}
use Rattle.wb_compose_language.specs.declared.addition.Addition.{Addition}
use Rattle.wb_compose_theory_grammar.specs.Unions.{union_of}
use Rattle.wb_determinism_kernels.specs.Given.{IsGiven}
use Rattle.wb_determinism_kernels.specs.NewKernels.{AreNewKernels}
use Rattle.wb_determinism_kernels.specs.Numbers.{phi_by, up_by}
use Rattle.wb_determinism_lookaheads.specs.NewLookaheads.{AreHolesAlone, AreNewLookaheads, NewLookaheadsView}
use Rattle.wb_tests_unions.specs.declared.found.Found.{Found}
use Rattle.wb_tests_unions.specs.declared.found.Own.{Own}
use Rattle.wb_tests_unions.specs.declared.lent.Lent.{Lent}
use Rattle.wb_tests_unions.specs.Inner.Found.{IsFoundBy, kernels_in}

-- this is lent of what was found
pub record IsLentFrom (own : Own) (found : Found) (lent : Lent) : Type 0 where
  pub host : lent.beside.host.now ≡ kernels_in own
  pub grammar : lent.beside.grammar.now ≡ found.grammar
  pub numbers : lent.beside.numbers.now ≡ found.numbers
  pub images : lent.beside.images.now ≡ found.images.items
  pub new : lent.new.now ≡ found.new

-- this is taken of what is lent
pub record IsPartFrom (lent : Lent) (part : Part) : Type 0 where
  pub beside : part.beside.now ≡ lent.beside
  pub new : part.new.now ≡ lent.new.now

-- this is lent of the extension
pub record IsLentBeside (own : Own) (e : ExtensionView) (lent : Lent) : Type 0 where
  pub grammar : GrammarView
  pub start : e.resolved.grammar ≡ Some grammar
  pub host : lent.beside.host.now ≡ kernels_in own
  pub found : IsFoundBy own e.resolved grammar lent.beside.grammar.now lent.beside.numbers.now lent.beside.images.now lent.new.now

-- this is taken of the extension
pub record IsPartBeside (own : Own) (e : ExtensionView) (part : Part) : Type 0 where
  pub grammar : GrammarView
  pub start : e.resolved.grammar ≡ Some grammar
  pub host : part.beside.now.host.now ≡ kernels_in own
  pub found : IsFoundBy own e.resolved grammar part.beside.now.grammar.now part.beside.now.numbers.now part.beside.now.images.now
      part.new.now

-- lookaheads at its new kernels can be found
pub record IsReady (own : Own) (part : Part) : Type 0 where
  pub host : part.beside.now.host.now ≡ kernels_in own
  pub given : IsGiven part.beside.now.host.now part.beside.now.grammar.now part.beside.now.numbers.now part.beside.now.images.now
  pub alone : AreHolesAlone part.beside.now.host.now.grammar (up_by part.beside.now.numbers.now)
      (phi_by part.beside.now.numbers.now part.beside.now.images.now)
  pub are_new : AreNewKernels part.beside.now.host.now part.beside.now.grammar.now part.beside.now.numbers.now part.beside.now.images.now
      part.new.now

-- these are the lookaheads at its new kernels
abbrev pub AreSetsFor : Part → NewLookaheadsView → Type 0
AreSetsFor part sets =
    AreNewLookaheads part.beside.now.host.now part.beside.now.grammar.now part.beside.now.numbers.now part.beside.now.images.now
    part.new.now sets

-- the extension adds to the union what it has by this grammar
abbrev pub IsAdded : ExtensionView → Addition → Type 0
IsAdded e x = e.resolved.grammar ≡ Some x.grammar.now

-- the grammar, where there is one
abbrev pub grammar_or : Option GrammarView → GrammarView
grammar_or None = record { terminals = 0; nonterminals = 0; start = 0; productions = [] }
grammar_or (Some g) = g

abbrev pub grammar_of : ExtensionView → GrammarView
grammar_of e = grammar_or e.resolved.grammar

-- the grammar is that of the union of the host with these extensions
abbrev pub IsUnion : Own → List ExtensionView → GrammarView → Type 0
IsUnion own extensions g = g ≡ union_of own.grammar.now (map grammar_of extensions)
