-- When kernels that were found apart are numbered as the laws ask: the host's first, and after them those that each extension adds.
use Rattle.std.specs.Prelude.{◌≡◌, ℕ, List, Some, slice_get}
use Rattle.wb_base.specs.Grammar.{GrammarView}
use Rattle.wb_grammar_theory.specs.States.{AreStates, IsNext}
use Rattle.wb_marking_holes.specs.Holes.{with_holes_of}
use Rattle.wb_compose_theory.specs.Homes.{of, of_host}
use Rattle.wb_compose_theory.specs.NumberLaws.{HasHostKernels}
use Rattle.wb_compose_theory.specs.Renamings.{Renaming}
use Rattle.wb_compose_theory_grammar.specs.Numberings.{up_of}
use Rattle.wb_compose_theory_grammar.specs.Pieces.{Piece}
use Rattle.wb_determinism_theory.specs.Beside.{AreHostFirst}
use Rattle.wb_compose_theory_kernels.specs.Kernels.{KernelNumbers}

module _ (host : GrammarView) (extensible : List ℕ) (pieces : List Piece) (numbers : KernelNumbers) where
  -- the extension's kernels have numbers, of which the first are those of the host with holes at its prefixes, in any words for where
  -- numbers go in which productions go where they should
  pub record IsNumberedBeside (e : ℕ) (x : Piece) : Type 0 where
    pub up : Renaming
    pub phi : ℕ → ℕ
    pub production_is : (p : ℕ) → up.production p ≡ (up_of host x.grammar).production p
    pub kernels : HasHostKernels (with_holes_of host extensible) (with_holes_of x.grammar extensible) up
    pub first : AreHostFirst (with_holes_of host extensible) (with_holes_of x.grammar extensible) up phi (numbers.count of_host)
        (numbers.count (of e)) (numbers.prefix_of (of e)) (numbers.prefix_of of_host)
    pub states : AreStates (with_holes_of x.grammar extensible) (numbers.count (of e)) (numbers.prefix_of (of e))
        (IsNext (with_holes_of x.grammar extensible) (numbers.count (of e)) (numbers.prefix_of (of e)))

  -- the kernels of the host with holes have numbers, and so have those of each extension
  pub record AreNumberedBeside : Type 0 where
    pub host_states : AreStates (with_holes_of host extensible) (numbers.count of_host) (numbers.prefix_of of_host)
        (IsNext (with_holes_of host extensible) (numbers.count of_host) (numbers.prefix_of of_host))
    pub each : (e : ℕ) (x : Piece) → slice_get pieces e ≡ Some x → IsNumberedBeside e x
