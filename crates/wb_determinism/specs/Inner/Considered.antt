-- What is considered at each new kernel of host's items.
use Rattle.std.specs.Prelude.{◌≡◌, ◌≢◌, ◌≤◌, ◌<◌, ◌↔◌, ◌⊎◌, ℕ, Bool, List, Option, Some, None, Contains, length, slice_get}
use Rattle.wb_grammar_theory.specs.declared.item.Item.{Item}
use Rattle.wb_grammar_theory.specs.Closure.{InClosure}
use Rattle.wb_grammar_theory.specs.Lookaheads.{IsLookahead}
use Rattle.wb_items.specs.Kernels.{prefix_of}
use Rattle.wb_termset.specs.Sets.{IsMember, IsEmpty}
use Rattle.wb_compose_theory.specs.Numbered.{HostKernel, IsNewHostKernel, IsEnvelopeLookahead, IsValidInEnvelope, HasEnvelopeConflict}
use Rattle.wb_compose_theory.specs.Numbered.{CanShiftInEnvelope, CanReduceInEnvelope}
use Rattle.wb_determinism.specs.declared.conflict.ActionPair.{ActionPair}
use Rattle.wb_determinism.specs.declared.context.Context.{Context}
use Rattle.wb_determinism.specs.declared.context.ItemFault.{ItemFault}
use Rattle.wb_determinism.specs.declared.regions.Region.{Region}
use Rattle.wb_determinism.specs.declared.regions.Region.TheVariants.{Host, Extension, NewHost}
use Rattle.wb_determinism.specs.EnvelopeRule.{IsEnvelopeLookaheadFault}
use Rattle.wb_determinism.specs.Numbers.{item_up, up_by}
use Rattle.wb_determinism.specs.Inner.Contexts.{HasImage, both_of, host_of}

-- the items that are, in the host's numbers, in the extended host's kernel of this number
abbrev pub KernelAt : Context → ℕ → Item → Type 0
KernelAt c s item = HostKernel (both_of c) (up_by c.numbers.now) (prefix_of c.both.now s) item

-- the kernel of this number is a new one of host's items, which are listed
pub record IsOwnList (c : Context) (s : ℕ) (own : List Item) : Type 0 where
  pub new : IsNewHostKernel (host_of c) (both_of c) (up_by c.numbers.now) (prefix_of c.both.now s)
  pub lists : (i : Item) → Contains own i ↔ KernelAt c s i

-- the kernel's lookaheads stay in the envelope, which has no conflict; and the set has the host's own terminals that are valid, and layout
pub record IsClearSet (c : Context) (layout : List Bool) (s : ℕ) (set : List Bool) : Type 0 where
  pub keeps : (own : Item) (t : ℕ) → InClosure (host_of c) (KernelAt c s) own
      → IsLookahead (both_of c) (prefix_of c.both.now s) (item_up c.numbers.now own) t
      → (u : ℕ) × HasImage c.images.now t u × IsEnvelopeLookahead (host_of c) (KernelAt c s) own u
  pub no_conflict : (t : ℕ) → ¬ HasEnvelopeConflict (host_of c) (KernelAt c s) t
  pub each : (t : ℕ)
      → IsMember set t ↔ (((t < c.numbers.now.own_terminals) × IsValidInEnvelope (host_of c) (KernelAt c s) t) ⊎ IsMember layout t)

-- the set is that of a new kernel, or of another, which has no member
abbrev pub IsConsideredFor : Context → List Bool → ℕ → Region → List Bool → Type 0
IsConsideredFor c layout s (Host other) set = IsEmpty set
IsConsideredFor c layout s Extension set = IsEmpty set
IsConsideredFor c layout s NewHost set = IsClearSet c layout s set

-- a set for each of the first kernels
pub record AreConsidered (c : Context) (layout : List Bool) (regions : List Region) (n : ℕ) (sets : List (List Bool)) : Type 0 where
  pub len : length sets ≡ n
  pub each : (s : ℕ) (region : Region) (set : List Bool) → slice_get regions s ≡ Some region → slice_get sets s ≡ Some set
      → IsConsideredFor c layout s region set

-- a lookahead beyond the envelope, at the kernel of this number
abbrev pub IsLookaheadAt : Context → ℕ → ItemFault → Type 0
IsLookaheadAt c s fault =
    IsEnvelopeLookaheadFault (host_of c) (both_of c) c.numbers.now (HasImage c.images.now)
    (prefix_of c.both.now s) fault.item fault.terminal

-- the pair's actions can be taken with the envelope
abbrev pub CanBoth : Context → ℕ → ℕ → Option ℕ → ℕ → Type 0
CanBoth c s t None second = CanShiftInEnvelope (host_of c) (KernelAt c s) t × CanReduceInEnvelope (host_of c) (KernelAt c s) second t
CanBoth c s t (Some first) second =
    (first ≢ second) × (first ≤ c.numbers.now.host_productions) × CanReduceInEnvelope (host_of c) (KernelAt c s) first t
    × CanReduceInEnvelope (host_of c) (KernelAt c s) second t

-- a conflict with the envelope, at the kernel of this number
pub record IsPairAt (c : Context) (s : ℕ) (pair : ActionPair) : Type 0 where
  pub new : IsNewHostKernel (host_of c) (both_of c) (up_by c.numbers.now) (prefix_of c.both.now s)
  pub terminal : pair.terminal ≤ c.numbers.now.host_terminals
  pub second : pair.second ≤ c.numbers.now.host_productions
  pub can : CanBoth c s pair.terminal pair.first pair.second
