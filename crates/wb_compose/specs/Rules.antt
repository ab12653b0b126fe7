-- The lookahead rule of an extension by numbers, at kernels, as it is tested, and at prefixes; and an example of where it fails.
use Rattle.std.specs.Prelude.{◌↔◌, ℕ, List, map}
use Rattle.wb_base.specs.declared.symbol.Symbol.{Symbol}
use Rattle.wb_base.specs.Grammar.{GrammarView}
use Rattle.wb_compose_theory.specs.Numbered.{KeepsKernelLookaheads, KeepsLookaheads}
use Rattle.wb_compose_theory.specs.Renamings.{renamed}
use Rattle.wb_compose_theory_grammar.specs.Numberings.{up_of}
use Rattle.wb_certify.specs.DeterministicExtensions.{both_numbers, extended_grammar}
use Rattle.wb_certify.specs.DeterminismImages.{StandsFor, stands_for}
use Rattle.wb_certify.specs.LookaheadRule.{IsLookaheadFault}
use Rattle.wb_certify.specs.DeterminismNumbers.{up_by}
use Rattle.wb_grammar_theory.specs.declared.item.Item.{Item}
use Rattle.wb_marking_holes.specs.Holes.{with_holes_of}
use Rattle.wb_syntax_resolved.specs.declared.resolved.ResolvedParts.{ResolvedParts}

-- r is the host with an extension, h the grammar of the host and g that of both
module _ (host r : ResolvedParts) (h g : GrammarView) where
  -- the host's grammar with holes
  abbrev pub host_holes : GrammarView
  host_holes = with_holes_of h host.extensible

  -- the lookahead rule as it is tested: at each kernel that is the host's
  abbrev pub KeepsAtKernels : Type 0
  KeepsAtKernels =
      KeepsKernelLookaheads host_holes (extended_grammar r g host_holes) (up_by (both_numbers r g host_holes)) (stands_for r g)

  -- the lookahead rule at each prefix of the host
  abbrev pub KeepsAtPrefixes : Type 0
  KeepsAtPrefixes = KeepsLookaheads host_holes (extended_grammar r g host_holes) (up_of h g) (stands_for r g)

  -- at the prefix the extension adds this lookahead to the item, which is one of the host's kernel there
  abbrev pub AddsLookahead : List Symbol → Item → ℕ → Type 0
  AddsLookahead prefix item t =
      IsLookaheadFault host_holes (extended_grammar r g host_holes) (both_numbers r g host_holes)
      (StandsFor r g (both_numbers r g host_holes)) prefix item t

  -- at kernels the rule says what it says at prefixes; and where at some prefix a lookahead is added to an item of a kernel of the host,
  -- it is added to it at a prefix of the host, in the numbers with the extension
  pub record HasRuleAtPrefixes : Type 0 where
    pub same : KeepsAtKernels ↔ KeepsAtPrefixes
    pub shown : (prefix : List Symbol) (item : Item) (t : ℕ) (fault : AddsLookahead prefix item t) →
        AddsLookahead (map (renamed (up_of h g)) fault.host) item t
