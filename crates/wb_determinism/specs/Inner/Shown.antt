-- What is shown of a new kernel by the envelope's test.
use Rattle.std.specs.Prelude.{◌≡◌, ◌<◌, ◌⊎◌, ℕ, List}
use Rattle.wb_base.specs.declared.symbol.Symbol.{Symbol}
use Rattle.wb_lookahead.specs.declared.action.Action.{Action}
use Rattle.wb_lookahead.specs.declared.action.Action.TheVariants.{Reduce, Accept}
use Rattle.wb_determinism_host.specs.declared.refusal.DeterminismRefusal.{DeterminismRefusal}
use Rattle.wb_determinism_host.specs.declared.refusal.DeterminismRefusal.TheVariants as d
use Rattle.wb_determinism_host.specs.declared.refusal.EnvelopeFault.{EnvelopeFault}
use Rattle.wb_determinism_host.specs.declared.refusal.EnvelopeFault.TheVariants as f
use Rattle.wb_determinism.specs.declared.context.Context.{Context}
use Rattle.wb_determinism.specs.declared.numbers.Numbers.{Numbers}
use Rattle.wb_determinism.specs.EnvelopeRule.{IsEnvelopeLookaheadFault, IsEnvelopeConflictFault}
use Rattle.wb_determinism.specs.Numbers.{production_up}
use Rattle.wb_determinism.specs.Inner.Contexts.{HasImage, both_of, host_of}

-- the reduction by a production of the host, in the extended host's numbers
abbrev pub IsShownReduction : Numbers → ℕ → Action → Type 0
IsShownReduction m p action =
    ((p < m.host_productions) × (action ≡ Reduce (production_up m p))) ⊎ ((p ≡ m.host_productions) × (action ≡ Accept))

-- what is shown is a lookahead beyond the envelope, or a conflict
abbrev pub IsInnerFault : Context → List Symbol → EnvelopeFault → Type 0
IsInnerFault c prefix (f.Lookahead item t) =
    IsEnvelopeLookaheadFault (host_of c) (both_of c) c.numbers.now (HasImage c.images.now) prefix item t
IsInnerFault c prefix (f.Conflict t first second) =
    IsEnvelopeConflictFault (host_of c) (both_of c) c.numbers.now (HasImage c.images.now) prefix t first second
IsInnerFault c prefix (f.Clash left right text) = ⊥

-- so of a refusal
abbrev pub IsInnerRefusal : Context → DeterminismRefusal → Type 0
IsInnerRefusal c (d.Markers _) = ⊥
IsInnerRefusal c (d.PreferenceCycle _) = ⊥
IsInnerRefusal c (d.NotReduced _) = ⊥
IsInnerRefusal c (d.UnitCycle _) = ⊥
IsInnerRefusal c (d.HiddenLeftRecursion _) = ⊥
IsInnerRefusal c (d.Conflict _ _ _ _) = ⊥
IsInnerRefusal c (d.Clash _ _ _ _) = ⊥
IsInnerRefusal c (d.Lookahead _ _ _) = ⊥
IsInnerRefusal c (d.Envelope prefix fault) = IsInnerFault c prefix fault
IsInnerRefusal c (d.NoMemory _) = Unit {0}
