-- What is found of a certified extension beside its certified host, by numbers.
use Rattle.std.specs.Prelude.{◌≡◌, ◌+◌, ℕ, List, Option, Some}
use Rattle.wb_base.specs.Grammar.{GrammarView}
use Rattle.wb_certify.specs.Hosts.{IsCertified}
use Rattle.wb_certify.specs.Kept.{AreCertifiedBoth, ExtensionView}
use Rattle.wb_certify.specs.Pieces.{piece_in}
use Rattle.wb_compose_kernels.specs.Lent.{numbers_of}
use Rattle.wb_compose_theory.specs.NumberLaws.{HasHostKernels}
use Rattle.wb_compose_theory_grammar.specs.Numberings.{phi_of}
use Rattle.wb_determinism.specs.Images.{stands_for}
use Rattle.wb_determinism_beside.specs.Inner.Images.{AreImagesBy}
use Rattle.wb_determinism_kernels.specs.declared.numbers.Numbers.{Numbers}
use Rattle.wb_determinism_kernels.specs.Given.{IsGiven}
use Rattle.wb_determinism_kernels.specs.NewKernels.{AreNewKernels, NewKernelsView}
use Rattle.wb_determinism_kernels.specs.Numbers.{phi_by, up_by}
use Rattle.wb_determinism_lookaheads.specs.NewLookaheads.{AreHolesAlone}
use Rattle.wb_items.specs.Kernels.{KernelsView}
use Rattle.wb_marking_holes.specs.Holes.{with_holes_of}
use Rattle.wb_syntax_resolved.specs.declared.resolved.ResolvedParts.{ResolvedParts}
use Rattle.wb_tests_unions.specs.declared.found.Both.{Both}
use Rattle.wb_tests_unions.specs.declared.found.Found.{Found}
use Rattle.wb_tests_unions.specs.declared.found.Own.{Own}

-- the kernels of the host with holes, and what is extensible of it
abbrev pub kernels_in : Own → KernelsView
kernels_in own = own.host.now.parts.kernels

abbrev pub extensible_in : Own → List ℕ
extensible_in own = own.host.now.resolved.extensible

-- the host is certified, and has the grammar
pub record IsOwn (own : Own) : Type 0 where
  pub certified : IsCertified own.host.now
  pub start : own.host.now.resolved.grammar ≡ Some own.grammar.now

-- besides, an extension is certified with it, and both have the other grammar
pub record AreBoth (x : Both) : Type 0 where
  pub own : IsOwn x.own.now
  pub both : AreCertifiedBoth x.own.now.host.now.resolved x.resolved.now x.own.now.grammar.now x.grammar.now x.own.now.host.now.operations

-- k is that grammar with holes, these are the numbers of both, and the images of terminals are what they stand for
pub record AreFor (x : Both) (k : GrammarView) (m : Numbers) (images : List (Option ℕ)) : Type 0 where
  pub holes_are : k ≡ with_holes_of x.grammar.now x.resolved.now.extensible
  pub numbers_are : m ≡ numbers_of x.own.now.grammar.now x.grammar.now
  pub images_are : AreImagesBy m.terminals.own m.terminals.more (stands_for x.resolved.now x.grammar.now) (k.terminals + 1) images

-- k is the grammar g of the host with an extension, with holes, in these numbers; and all holds that new kernels and lookaheads ask for
pub record FitsBeside (own : Own) (r : ResolvedParts) (g k : GrammarView) (m : Numbers) (images : List (Option ℕ)) : Type 0 where
  pub both : AreCertifiedBoth own.host.now.resolved r own.grammar.now g own.host.now.operations
  pub holes_are : k ≡ with_holes_of g (extensible_in own)
  pub numbers_are : m ≡ numbers_of own.grammar.now g
  pub images_are : (t : ℕ) → phi_by m images t ≡ phi_of (extensible_in own) (piece_in r g) t
  pub same : HasHostKernels (kernels_in own).grammar k (up_by m)
  pub given : IsGiven (kernels_in own) k m images
  pub alone : AreHolesAlone (kernels_in own).grammar (up_by m) (phi_by m images)

-- besides, these are the new kernels
pub record IsFoundBy (own : Own) (r : ResolvedParts) (g k : GrammarView) (m : Numbers) (images : List (Option ℕ)) (new : NewKernelsView) :
    Type 0 where
  pub fits : FitsBeside own r g k m images
  pub are_new : AreNewKernels (kernels_in own) k m images new

-- this is found of the host with an extension
abbrev pub IsFoundIn : Own → ResolvedParts → GrammarView → Found → Type 0
IsFoundIn own r g x = IsFoundBy own r g x.grammar x.numbers x.images.items x.new

-- this is found of the extension
pub record IsFoundBeside (own : Own) (e : ExtensionView) (x : Found) : Type 0 where
  pub grammar : GrammarView
  pub start : e.resolved.grammar ≡ Some grammar
  pub found : IsFoundIn own e.resolved grammar x
