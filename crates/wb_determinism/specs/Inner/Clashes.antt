-- Clashes of what is considered at new kernels of host's items.
use Rattle.std.specs.Prelude.{◌<◌, Bool, List}
use Rattle.wb_base.specs.declared.symbol.Symbol.{Symbol}
use Rattle.wb_determinism_contexts.specs.Considered.{LexiconView}
use Rattle.wb_determinism_host.specs.declared.refusal.DeterminismRefusal.{DeterminismRefusal}
use Rattle.wb_determinism_host.specs.declared.refusal.DeterminismRefusal.TheVariants as d
use Rattle.wb_determinism_host.specs.declared.refusal.EnvelopeFault.{EnvelopeFault}
use Rattle.wb_determinism_host.specs.declared.refusal.EnvelopeFault.TheVariants as f
use Rattle.wb_items.specs.Kernels.{count_of}
use Rattle.wb_determinism.specs.declared.context.Context.{Context}
use Rattle.wb_determinism.specs.declared.regions.Region.{Region}
use Rattle.wb_determinism.specs.EnvelopeClash.{IsEnvelopeClashFault}
use Rattle.wb_determinism.specs.Regions.{AreRegions}
use Rattle.wb_determinism.specs.Inner.Considered.{AreConsidered}
use Rattle.wb_determinism.specs.Inner.Contexts.{both_of, host_of}

-- the sets are those of what is considered, by the kernels' regions
pub record HasSets (c : Context) (layout : List Bool) (sets : List (List Bool)) : Type 0 where
  pub regions : List Region
  pub are_regions : AreRegions c.host.now c.both.now c.numbers.now (count_of c.both.now) regions
  pub considered : AreConsidered c layout regions (count_of c.both.now) sets

-- what is shown is a clash
abbrev pub IsClashFault : Context → LexiconView → List Symbol → EnvelopeFault → Type 0
IsClashFault c lexicon prefix (f.Lookahead item t) = ⊥
IsClashFault c lexicon prefix (f.Conflict t first second) = ⊥
IsClashFault c lexicon prefix (f.Clash left right text) =
    IsEnvelopeClashFault (host_of c) (both_of c) c.numbers.now lexicon prefix left right text × (left < right)

-- so of a refusal
abbrev pub IsClashRefusal : Context → LexiconView → DeterminismRefusal → Type 0
IsClashRefusal c lexicon (d.Markers _) = ⊥
IsClashRefusal c lexicon (d.PreferenceCycle _) = ⊥
IsClashRefusal c lexicon (d.NotReduced _) = ⊥
IsClashRefusal c lexicon (d.UnitCycle _) = ⊥
IsClashRefusal c lexicon (d.HiddenLeftRecursion _) = ⊥
IsClashRefusal c lexicon (d.Conflict _ _ _ _) = ⊥
IsClashRefusal c lexicon (d.Clash _ _ _ _) = ⊥
IsClashRefusal c lexicon (d.Lookahead _ _ _) = ⊥
IsClashRefusal c lexicon (d.Envelope prefix fault) = IsClashFault c lexicon prefix fault
IsClashRefusal c lexicon (d.NoMemory _) = Unit {0}
