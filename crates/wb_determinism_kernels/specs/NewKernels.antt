-- The kernels of a host with an extension that are none of the host's, numbered after these.
use Rattle.std.specs.Prelude.{◌≡◌, ◌≢◌, ◌↔◌, ◌+◌, ◌<◌, ◌++◌, ◌∷◌, [], ℕ, List, Option, Some, Contains, length, map, slice_get}
use Rattle.std.specs.Prelude.{slice_index_or}
use Rattle.wb_base.specs.declared.symbol.Symbol.{Symbol}
use Rattle.wb_base.specs.declared.symbol.Symbol.TheVariants.{Terminal}
use Rattle.wb_base.specs.Grammar.{GrammarView}
use Rattle.wb_grammar_theory.specs.declared.item.Item.{Item}
use Rattle.wb_grammar_theory.specs.Items.{HasItem, IsViablePrefix, initial_item}
use Rattle.wb_grammar_theory.specs.Productions.{IsProduction}
use Rattle.wb_grammar_theory.specs.States.{AreStates, IsNext}
use Rattle.wb_items.specs.declared.transitions.Move.{Move}
use Rattle.wb_items.specs.Kernels.{AreInOrder, KernelsView, ListsItems, ListsKernel, count_of, prefix_of}
use Rattle.wb_items.specs.Table.{Leads}
use Rattle.wb_compose_theory.specs.Renamings.{Renaming, renamed}
use Rattle.wb_determinism_theory.specs.Beside.{AreFound}
use Rattle.wb_determinism_kernels.specs.declared.index.Step.{Step}
use Rattle.wb_determinism_kernels.specs.declared.numbers.Numbers.{Numbers}
use Rattle.wb_determinism_kernels.specs.declared.starts.Start.{Start}
use Rattle.wb_determinism_kernels.specs.Numbers.{phi_by, up_by}

-- for each new kernel the number and the symbol from which it was found, and its items
pub record IndexView : Type 0 where
  pub steps : List Step
  pub kernels : List (List Item)

-- besides, where new kernels start, the items of each prefix, and its moves
pub record NewKernelsView : Type 0 where
  pub starts : List Start
  pub index : IndexView
  pub closures : List (List Item)
  pub moves : List (List Move)

-- the prefixes that the steps lead to, after those that are known: each goes on from a known one by a symbol
abbrev pub prefixes_after : List (List Symbol) → List Step → List (List Symbol)
prefixes_after known [] = known
prefixes_after known (step ∷ steps) = prefixes_after (known ++ (slice_index_or known step.from [] ++ step.symbol ∷ []) ∷ []) steps

-- the host's prefixes in the numbers of the host with the extension, and after them those of the new kernels
abbrev pub prefixes_beside : Renaming → KernelsView → List Step → List (List Symbol)
prefixes_beside up host steps = prefixes_after (map (map (renamed up)) host.prefixes) steps

-- the prefix of a number
abbrev pub prefix_beside : Renaming → KernelsView → List Step → ℕ → List Symbol
prefix_beside up host steps s = slice_index_or (prefixes_beside up host steps) s []

-- the item is the initial one of a production that the terminal begins
abbrev pub BeginsWith : GrammarView → ℕ → Item → Type 0
BeginsWith g t item =
    (b : ℕ) × (right : List Symbol) × IsProduction g item.production b (Terminal t ∷ right) × (item ≡ initial_item item.production)

-- the marker stands for the hole, which begins the production, whose initial item is at the host's kernel; and from there the marker leads
-- to the number
pub record IsStart (host : KernelsView) (k : GrammarView) (m : Numbers) (images : List (Option ℕ)) (prefixes : List (List Symbol))
    (start : Start) : Type 0 where
  pub marker : phi_by m images start.marker ≢ start.marker
  pub hole : (up_by m).terminal start.hole ≡ phi_by m images start.marker
  pub before : start.before < count_of host
  pub has : HasItem host.grammar (prefix_of host start.before) (initial_item start.production)
  pub begins : BeginsWith host.grammar start.hole (initial_item start.production)
  pub leads : Leads k prefixes start.before (Terminal start.marker) start.number

module _ (host : KernelsView) (k : GrammarView) (m : Numbers) (images : List (Option ℕ)) (new : NewKernelsView) where
  -- the prefix of a number, and how many numbers there are
  abbrev pub prefix_with : ℕ → List Symbol
  prefix_with = prefix_beside (up_by m) host new.index.steps

  abbrev pub count_with : ℕ
  count_with = count_of host + length new.index.steps

  -- some symbol leads to the number from a lower one
  pub record IsLedToBeside (n : ℕ) : Type 0 where
    pub from : ℕ
    pub symbol : Symbol
    pub before : from < n
    pub leads : IsNext k count_with prefix_with from symbol n

  -- the numbers are those of the kernels of the host with the extension, the host's first; each new number has its kernel, in order, its
  -- items and its moves, and is reached from a lower one; and there is a start for each marker that is somewhere after a prefix of the host
  pub record AreNewKernels : Type 0 where
    pub found : AreFound host.grammar k (up_by m) (phi_by m images) (count_of host) count_with prefix_with (prefix_of host)
    pub states : AreStates k count_with prefix_with (IsNext k count_with prefix_with)
    pub kernels_len : length new.index.kernels ≡ length new.index.steps
    pub closures_len : length new.closures ≡ length new.index.steps
    pub moves_len : length new.moves ≡ length new.index.steps
    pub kernels : (i : ℕ) (kernel : List Item) → slice_get new.index.kernels i ≡ Some kernel →
        ListsKernel k (prefix_with (count_of host + i)) kernel
    pub in_order : (i : ℕ) (kernel : List Item) → slice_get new.index.kernels i ≡ Some kernel → AreInOrder kernel
    pub closures : (i : ℕ) (closure : List Item) → slice_get new.closures i ≡ Some closure →
        ListsItems k (prefix_with (count_of host + i)) closure
    pub moves : (i : ℕ) (row : List Move) → slice_get new.moves i ≡ Some row → (x : Symbol) (next : ℕ) →
        Contains row (record { symbol = x; state = next }) ↔ IsNext k count_with prefix_with (count_of host + i) x next
    pub reached : (i : ℕ) → i < length new.index.steps → IsLedToBeside (count_of host + i)
    pub starts : (i : ℕ) (start : Start) → slice_get new.starts i ≡ Some start →
        IsStart host k m images (prefixes_beside (up_by m) host new.index.steps) start
    pub started : (marker s : ℕ) → s < count_of host → phi_by m images marker ≢ marker →
        IsViablePrefix k (prefix_with s ++ Terminal marker ∷ []) → (start : Start) × Contains new.starts start × (start.marker ≡ marker)
