-- A host with extensions as they are lent, from whose kernels and lookaheads those of the union are taken.
use Rattle.std.specs.Prelude.{◌≡◌, ℕ, List, Some, length, slice_get}
use Rattle.wb_base.specs.Grammar.{GrammarView}
use Rattle.wb_items.specs.Kernels.{KernelsView}
use Rattle.wb_items.specs.LookaheadSets.{AreLookaheads}
use Rattle.wb_marking_holes.specs.Holes.{with_holes_of}
use Rattle.wb_compose_theory.specs.Homes.{of_host}
use Rattle.wb_compose_theory.specs.NumberLaws.{HasHostKernels}
use Rattle.wb_compose_theory_grammar.specs.Certificates.{AreCertified}
use Rattle.wb_compose_theory_grammar.specs.Numberings.{phi_of}
use Rattle.wb_compose_theory_grammar.specs.Pieces.{Piece}
use Rattle.wb_compose_theory_grammar.specs.Unions.{added_nonterminals, added_productions, added_terminals}
use Rattle.wb_compose_theory_grammar.specs.UnitedWorlds.{united}
use Rattle.wb_determinism_kernels.specs.declared.numbers.Numbers.{Numbers}
use Rattle.wb_determinism_kernels.specs.NewKernels.{AreNewKernels}
use Rattle.wb_determinism_kernels.specs.Numbers.{phi_by, up_by}
use Rattle.wb_determinism_lookaheads.specs.NewLookaheads.{AreNewLookaheads, NewLookaheadsView}
use Rattle.wb_compose_kernels.specs.declared.sets.Sets.{Sets}
use Rattle.wb_compose_kernels.specs.declared.splice.Part.{Part}
use Rattle.wb_compose_kernels.specs.declared.splice.Splice.{Splice}

-- how many numbers the host has of its own, and how many the extension adds after these
abbrev pub numbers_of : (host g : GrammarView) → Numbers
numbers_of host g = record {
  terminals = record { own = host.terminals; more = added_terminals host g };
  nonterminals = record { own = host.nonterminals; more = added_nonterminals host g };
  productions = record { own = length host.productions; more = added_productions host g };
}

-- the part is what the extension adds to the host with these kernels: they are new kernels beside the host, in the numbers that both have,
-- where each marker stands for the hole of its nonterminal
pub record IsPartOf (host : GrammarView) (extensible : List ℕ) (kernels : KernelsView) (x : Piece) (part : Part) : Type 0 where
  pub host_kernels : part.beside.now.host.now ≡ kernels
  pub grammar : part.beside.now.grammar.now ≡ with_holes_of x.grammar extensible
  pub numbers : part.beside.now.numbers.now ≡ numbers_of host x.grammar
  pub images : (t : ℕ) → phi_by part.beside.now.numbers.now part.beside.now.images.now t ≡ phi_of extensible x t
  pub new : AreNewKernels part.beside.now.host.now part.beside.now.grammar.now part.beside.now.numbers.now part.beside.now.images.now
      part.new.now
  pub same : HasHostKernels part.beside.now.host.now.grammar part.beside.now.grammar.now (up_by part.beside.now.numbers.now)

-- the host and the extensions are certified, the kernels are those of the host with holes, each part is what its extension adds, and the
-- union is theirs
pub record AreSpliceable (s : Splice) : Type 0 where
  pub extensible : List ℕ
  pub pieces : List Piece
  pub certified : AreCertified s.host.now extensible pieces
  pub holes : s.holes ≡ length extensible
  pub of_host : s.kernels.now.grammar ≡ with_holes_of s.host.now extensible
  pub union_is : s.union.now ≡ united s.host.now extensible pieces
  pub len : length s.parts.now ≡ length pieces
  pub parts : (e : ℕ) (x : Piece) (part : Part) → slice_get pieces e ≡ Some x → slice_get s.parts.now e ≡ Some part →
      IsPartOf s.host.now extensible s.kernels.now x part

-- the sets are the lookaheads at the kernels of the host, and those at the new kernels of each extension
pub record AreSetsOf (s : Splice) (sets : Sets) : Type 0 where
  pub of_host : AreLookaheads s.kernels.now sets.host.now
  pub len : length sets.new.now ≡ length s.parts.now
  pub each : (e : ℕ) (part : Part) (found : NewLookaheadsView) → slice_get s.parts.now e ≡ Some part →
      slice_get sets.new.now e ≡ Some found →
      AreNewLookaheads part.beside.now.host.now part.beside.now.grammar.now part.beside.now.numbers.now part.beside.now.images.now
      part.new.now found
