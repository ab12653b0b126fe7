-- Lookaheads at new kernels on their way from item to item.
use Rattle.std.specs.Prelude.{◌≡◌, ◌⊎◌, ◌+◌, ◌<◌, ◌≤◌, ◌++◌, ◌∷◌, [], ℕ, Bool, List, Some, Contains, length, slice_get, slice_index_or}
use Rattle.wb_base.specs.declared.symbol.Symbol.{Symbol}
use Rattle.wb_base.specs.declared.symbol.Symbol.TheVariants.{Terminal, Nonterminal}
use Rattle.wb_base.specs.Grammar.{GrammarView}
use Rattle.wb_termset.specs.Sets.{IsMember}
use Rattle.wb_grammar_theory.specs.declared.item.Item.{Item}
use Rattle.wb_grammar_theory.specs.Derives.{IsFirst}
use Rattle.wb_grammar_theory.specs.Items.{advance, after_dot, initial_item}
use Rattle.wb_grammar_theory.specs.Lookaheads.{IsLookahead}
use Rattle.wb_grammar_theory.specs.Productions.{IsProduction, end_of}
use Rattle.wb_grammar_theory.specs.States.{IsNext}
use Rattle.wb_items.specs.Apart.{BelongTogether}
use Rattle.wb_items.specs.Kernels.{KernelsView, count_of, prefix_of}
use Rattle.wb_items.specs.Lookaheads.{set_of}
use Rattle.wb_items.specs.LookaheadSets.{AreLookaheads}
use Rattle.wb_items.specs.Table.{AreProductions}
use Rattle.wb_compose_theory.specs.Renamings.{Renaming}
use Rattle.wb_determinism_theory.specs.Beside.{IsKnown}
use Rattle.wb_determinism_kernels.specs.declared.starts.Start.{Start}
use Rattle.wb_determinism_kernels.specs.Given.{IsGiven}
use Rattle.wb_determinism_kernels.specs.NewKernels.{AreNewKernels, count_with, prefix_with}
use Rattle.wb_determinism_kernels.specs.Numbers.{phi_by, up_by}
use Rattle.wb_determinism_lookaheads.specs.declared.context.Context.{Context}
use Rattle.wb_determinism_lookaheads.specs.declared.lifts.Lift.{Lift}
use Rattle.wb_determinism_lookaheads.specs.Inner.Rests.{AreRests}
use Rattle.wb_determinism_lookaheads.specs.NewLookaheads.{AreHolesAlone, Lists, NewLookaheadsView}

-- the kernels of the host, the grammar of the host with the extension, and how their numbers and terminals correspond
abbrev pub host_of : Context → KernelsView
host_of c = c.beside.now.host.now

abbrev pub both_of : Context → GrammarView
both_of c = c.beside.now.grammar.now

abbrev pub up_of : Context → Renaming
up_of c = up_by c.beside.now.numbers.now

abbrev pub image_of : Context → ℕ → ℕ
image_of c = phi_by c.beside.now.numbers.now c.beside.now.images.now

-- how many kernels the host has
abbrev pub own_of : Context → ℕ
own_of c = count_of (host_of c)

-- the prefix of a number, and how many numbers there are
abbrev pub prefix_in : Context → ℕ → List Symbol
prefix_in c = prefix_with (host_of c) (both_of c) c.beside.now.numbers.now c.beside.now.images.now c.new.now

abbrev pub count_in : Context → ℕ
count_in c = count_with (host_of c) (both_of c) c.beside.now.numbers.now c.beside.now.images.now c.new.now

-- what stays while lookaheads spread
pub record IsContext (c : Context) : Type 0 where
  pub given : IsGiven (host_of c) (both_of c) c.beside.now.numbers.now c.beside.now.images.now
  pub alone : AreHolesAlone (host_of c).grammar (up_of c) (image_of c)
  pub rules : AreProductions (both_of c) c.rules.now
  pub rests : AreRests (both_of c) c.rests.now
  pub known : AreLookaheads (host_of c) c.known.now
  pub new : AreNewKernels (host_of c) (both_of c) c.beside.now.numbers.now c.beside.now.images.now c.new.now

-- sets of the slots
abbrev pub with_sets : Context → List (List (List Bool)) → NewLookaheadsView
with_sets c sets = record { slots = c.slots.now; sets = sets }

-- the item is at this place among the slots of the new kernel
abbrev pub IsSlot : Context → ℕ → ℕ → Item → Type 0
IsSlot c i j one = slice_get (slice_index_or c.slots.now i []) j ≡ Some one

-- the symbol leads from the one number to the other
abbrev pub LeadsIn : Context → ℕ → Symbol → ℕ → Type 0
LeadsIn c s x next = IsNext (both_of c) (count_in c) (prefix_in c) s x next

-- the members are lookaheads of the item at the new kernel
abbrev pub AreTrueOf : Context → ℕ → Item → List Bool → Type 0
AreTrueOf c i item set = (t : ℕ) → IsMember set t → IsLookahead (both_of c) (prefix_in c (own_of c + i)) item t

-- the members are lookaheads of each item that belongs with the one
abbrev pub AreTrueFor : Context → ℕ → Item → List Bool → Type 0
AreTrueFor c i one set = (item : Item) → BelongTogether (both_of c) one item → AreTrueOf c i item set

-- what the sets list at each new kernel are lookaheads
abbrev pub AreTrue : Context → List (List (List Bool)) → Type 0
AreTrue c sets =
    (i : ℕ) → i < length c.new.now.index.steps → (item : Item) (t : ℕ) → Lists (both_of c) (with_sets c sets) i item t →
    IsLookahead (both_of c) (prefix_in c (own_of c + i)) item t

-- a row of sets has what it had, and in one set what was added, at most
abbrev pub AddsTo : List (List Bool) → ℕ → List Bool → List (List Bool) → Type 0
AddsTo old at set new =
    (j t : ℕ) → IsMember (slice_index_or new j []) t → IsMember (slice_index_or old j []) t ⊎ ((j ≡ at) × IsMember set t)

-- a production of the nonterminal
abbrev pub IsProductionOf : GrammarView → ℕ → ℕ → Type 0
IsProductionOf g b p = (right : List Symbol) × IsProduction g p b right

-- by phi, the terminal becomes one of the set
abbrev pub Becomes : Context → List Bool → ℕ → Type 0
Becomes c set t = (u : ℕ) × ((up_of c).terminal u ≡ image_of c t) × IsMember set u

-- the set has the terminals that become one of the other
pub record IsLifted (c : Context) (set lifted : List Bool) : Type 0 where
  pub len : length lifted ≡ (both_of c).terminals + 1
  pub each : (t : ℕ) → t ≤ end_of (both_of c) → Becomes c set t → IsMember lifted t
  pub only : (t : ℕ) → IsMember lifted t → Becomes c set t

-- the same of terminals below a number
pub record LiftedUpTo (c : Context) (set lifted : List Bool) (n : ℕ) : Type 0 where
  pub len : length lifted ≡ (both_of c).terminals + 1
  pub each : (t : ℕ) → t < n → Becomes c set t → IsMember lifted t
  pub only : (t : ℕ) → IsMember lifted t → Becomes c set t

-- each has the terminals that become those of the host's set of its number
abbrev pub AreLifts : Context → List Lift → Type 0
AreLifts c lifts = (i : ℕ) (lift : Lift) → slice_get lifts i ≡ Some lift → IsLifted c (set_of c.known.now lift.number) lift.set

-- by phi, the terminal becomes a lookahead that the item after the hole has behind the hole
abbrev pub ComesBy : Context → Start → ℕ → Type 0
ComesBy c start t =
    (u : ℕ) × ((up_of c).terminal u ≡ image_of c t) ×
    IsLookahead (host_of c).grammar (prefix_of (host_of c) start.before ++ Terminal start.hole ∷ [])
    (advance (initial_item start.production)) u

-- the set has what comes over a marker
pub record IsBrought (c : Context) (start : Start) (set : List Bool) : Type 0 where
  pub len : length set ≡ (both_of c).terminals + 1
  pub each : (t : ℕ) → t ≤ end_of (both_of c) → ComesBy c start t → IsMember set t
  pub only : (t : ℕ) → IsMember set t → ComesBy c start t

-- at the number the terminal is known, or listed
abbrev pub Arrives : Context → List (List (List Bool)) → ℕ → Item → ℕ → Type 0
Arrives c sets s item t =
    ((i : ℕ) × (s ≡ own_of c + i) × Lists (both_of c) (with_sets c sets) i item t) ⊎
    ((s < own_of c) × IsKnown (host_of c).grammar (both_of c) (up_of c) (image_of c) (prefix_of (host_of c) s) item t)

-- where a nonterminal is after the dot, what begins the symbols after it with a member last is listed at its initial items
abbrev pub IsOpened : Context → List (List (List Bool)) → ℕ → Item → List Bool → Type 0
IsOpened c sets i item set =
    (b q t u : ℕ) (rest right : List Symbol) → after_dot (both_of c) item ≡ Nonterminal b ∷ rest → IsProduction (both_of c) q b right →
    IsMember set t → IsFirst (both_of c) (rest ++ Terminal t ∷ []) u → Lists (both_of c) (with_sets c sets) i (initial_item q) u

-- members arrive at the item after the symbol
abbrev pub IsMovedOn : Context → List (List (List Bool)) → ℕ → Item → List Bool → Type 0
IsMovedOn c sets i item set =
    (x : Symbol) (rest : List Symbol) (next t : ℕ) → after_dot (both_of c) item ≡ x ∷ rest → LeadsIn c (own_of c + i) x next →
    IsMember set t → Arrives c sets next (advance item) t

-- members are passed on so from the item
pub record IsPassedOn (c : Context) (sets : List (List (List Bool))) (i : ℕ) (item : Item) (set : List Bool) : Type 0 where
  pub opens : IsOpened c sets i item set
  pub moves : IsMovedOn c sets i item set

-- and from each item that belongs with one
abbrev pub IsTogetherPassed : Context → List (List (List Bool)) → ℕ → Item → List Bool → Type 0
IsTogetherPassed c sets i one set = (item : Item) → BelongTogether (both_of c) one item → IsPassedOn c sets i item set

-- the set at a place is passed on from each item that has it
abbrev pub IsSlotPassed : Context → List (List (List Bool)) → ℕ → ℕ → Type 0
IsSlotPassed c sets i j =
    (one : Item) → IsSlot c i j one → IsTogetherPassed c sets i one (slice_index_or (slice_index_or sets i []) j [])

-- what comes over the marker of a start is listed at each item of its new kernel
pub record IsStarted (c : Context) (sets : List (List (List Bool))) (start : Start) : Type 0 where
  pub i : ℕ
  pub is : start.number ≡ own_of c + i
  pub kernel : List Item
  pub there : slice_get c.new.now.index.kernels i ≡ Some kernel
  pub brought : (item : Item) (t : ℕ) → Contains kernel item → t ≤ end_of (both_of c) → ComesBy c start t →
      Lists (both_of c) (with_sets c sets) i item t

-- all that
pub record IsAllPassed (c : Context) (sets : List (List (List Bool))) : Type 0 where
  pub starts : (start : Start) → Contains c.new.now.starts start → IsStarted c sets start
  pub slots : (i j : ℕ) → i < length c.new.now.index.kernels → IsSlotPassed c sets i j
