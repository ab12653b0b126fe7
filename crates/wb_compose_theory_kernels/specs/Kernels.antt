-- The kernels of a union, from those of the certified grammars.
use Rattle.std.specs.Prelude.{◌≡◌, ◌↔◌, ◌<◌, ◌≤◌, ℕ, List, Some, Contains, length, slice_get}
use Rattle.wb_base.specs.declared.symbol.Symbol.{Symbol}
use Rattle.wb_base.specs.declared.symbol.Symbol.TheVariants.{Terminal}
use Rattle.wb_base.specs.Grammar.{GrammarView}
use Rattle.wb_grammar_theory.specs.declared.item.Item.{Item}
use Rattle.wb_grammar_theory.specs.Items.{IsKernelItem, advance, initial_item}
use Rattle.wb_grammar_theory.specs.States.{AreStates, IsNext}
use Rattle.wb_marking_holes.specs.Holes.{with_holes_of}
use Rattle.wb_compose_theory.specs.Homes.{Home, IsListed, of, of_host}
use Rattle.wb_compose_theory.specs.Numbered.{IsHostKernel}
use Rattle.wb_compose_theory.specs.Renamings.{renamed, renamed_item}
use Rattle.wb_compose_theory.specs.Worlds.{on}
use Rattle.wb_compose_theory_grammar.specs.Numberings.{up_of}
use Rattle.wb_compose_theory_grammar.specs.Pieces.{Piece}
use Rattle.wb_compose_theory_kernels.specs.Parts.{IsHole, IsHoleProduction, IsOwnProduction, grammar_at, hole_at, into_union}

module _ (host : GrammarView) (extensible : List ℕ) (pieces : List Piece) where
  -- the kernel of a prefix of a certified grammar has no item of a hole's production
  abbrev pub HasNoHole : Home → List Symbol → Type 0
  HasNoHole home prefix =
      (item : Item) → IsKernelItem (grammar_at host extensible pieces home) prefix item →
      ¬ IsHoleProduction host extensible pieces home item.production

  -- the item is, in the union's numbers, one of that kernel
  abbrev pub IsItemFrom : Home → List Symbol → Item → Type 0
  IsItemFrom home prefix item =
      (own : Item) × IsKernelItem (grammar_at host extensible pieces home) prefix own ×
      (item ≡ renamed_item (into_union host extensible pieces home) own)

  -- two kernels of certified grammars are one, in the union's numbers
  abbrev pub AreOneKernel : Home → List Symbol → Home → List Symbol → Type 0
  AreOneKernel home prefix other_home other =
      (item : Item) → IsItemFrom home prefix item ↔ IsItemFrom other_home other item

  -- the kernel has an item of an extension's own
  abbrev pub HasOwnItem : Home → List Symbol → Type 0
  HasOwnItem home prefix =
      (item : Item) × IsKernelItem (grammar_at host extensible pieces home) prefix item ×
      IsOwnProduction host extensible pieces home item.production

-- how many kernels each certified grammar has, and for the number of each a prefix that has it
pub record KernelNumbers : Type 0 where
  pub count : Home → ℕ
  pub prefix_of : Home → ℕ → List Symbol

module _ (host : GrammarView) (extensible : List ℕ) (pieces : List Piece) (numbers : KernelNumbers) where
  -- the symbol leads from the one number of the grammar to the other
  abbrev pub LeadsAt : Home → ℕ → Symbol → ℕ → Type 0
  LeadsAt home = IsNext (grammar_at host extensible pieces home) (numbers.count home) (numbers.prefix_of home)

  -- each certified grammar's kernels have numbers, and the first of an extension's are those of the host with holes, with their numbers
  pub record AreKernelNumbers : Type 0 where
    pub states : (home : Home) → IsListed (length pieces) home →
        AreStates (grammar_at host extensible pieces home) (numbers.count home) (numbers.prefix_of home) (LeadsAt home)
    pub no_fewer : (e : ℕ) → e < length pieces → numbers.count of_host ≤ numbers.count (of e)
    pub host_first : (e : ℕ) (x : Piece) (s : ℕ) → slice_get pieces e ≡ Some x → s < numbers.count of_host →
        IsHostKernel (with_holes_of host extensible) (with_holes_of x.grammar extensible) (up_of host x.grammar)
        (numbers.prefix_of (of e) s) (numbers.prefix_of of_host s)

  -- the union takes its kernels from these: from each of the host but those after holes, and from each that an extension adds
  abbrev pub IsTaken : Home → ℕ → Type 0
  IsTaken of_host s = (s < numbers.count of_host) × HasNoHole host extensible pieces of_host (numbers.prefix_of of_host s)
  IsTaken (of e) s = (e < length pieces) × (numbers.count of_host ≤ s) × (s < numbers.count (of e))

  -- the list of this number has, in the union's numbers, exactly the items of the kernel
  pub record IsFrom (kernels : List (List Item)) (u : ℕ) (home : Home) (s : ℕ) : Type 0 where
    pub kernel : List Item
    pub at : slice_get kernels u ≡ Some kernel
    pub exact : (item : Item) → Contains kernel item ↔ IsItemFrom host extensible pieces home (numbers.prefix_of home s) item

  -- the lists are the kernels that the union takes, each once, that of the empty prefix first
  pub record AreSplicedKernels (kernels : List (List Item)) : Type 0 where
    pub first : IsFrom kernels 0 of_host 0
    pub sound : (u : ℕ) → u < length kernels → (home : Home) × (s : ℕ) × IsTaken home s × IsFrom kernels u home s
    pub all : (home : Home) (s : ℕ) → IsTaken home s → (u : ℕ) × IsFrom kernels u home s
    pub once : (u v : ℕ) (home : Home) (s : ℕ) → IsFrom kernels u home s → IsFrom kernels v home s → u ≡ v

  -- the list of this number has one item, that of the extension's production with its dot after its first symbol
  pub record IsAfterMarker (kernels : List (List Item)) (v e production : ℕ) : Type 0 where
    pub kernel : List Item
    pub at : slice_get kernels v ≡ Some kernel
    pub exact : (item : Item) → Contains kernel item ↔
        (item ≡ renamed_item (into_union host extensible pieces (of e)) (advance (initial_item production)))

  -- the move of the union from a kernel that is taken: one of the certified grammar's over a symbol that is no hole; or where that has a
  -- move over a hole, one over each marker on the nonterminal, of each extension, to the kernel of the marker's bridge
  pub data IsSplicedMove (kernels : List (List Item)) (home : Home) (s : ℕ) (x : Symbol) (v : ℕ) : Type 0 where
    by_symbol : (y : Symbol) (next : ℕ) → LeadsAt home s y next → ¬ IsHole host extensible pieces home y →
        x ≡ renamed (into_union host extensible pieces home) y → IsFrom kernels v home next → IsSplicedMove kernels home s x v
    by_marker : (a next e m : ℕ) (piece : Piece) → LeadsAt home s (Terminal (hole_at host extensible pieces home a)) next →
        slice_get pieces e ≡ Some piece → piece.mark m ≡ on a →
        x ≡ Terminal ((into_union host extensible pieces (of e)).terminal m) → IsAfterMarker kernels v e (piece.bridge m) →
        IsSplicedMove kernels home s x v

  -- the moves from the list of this number are exactly those of the union from one kernel of which it is the list
  pub record HasMovesOf (kernels : List (List Item)) (moves : List (ℕ × Symbol × ℕ)) (u : ℕ) : Type 0 where
    pub home : Home
    pub number : ℕ
    pub taken : IsTaken home number
    pub source : IsFrom kernels u home number
    pub exact : (x : Symbol) (v : ℕ) → Contains moves (u, x, v) ↔ IsSplicedMove kernels home number x v

  -- each move is from one of the lists, and each list has its moves
  pub record AreSplicedMoves (kernels : List (List Item)) (moves : List (ℕ × Symbol × ℕ)) : Type 0 where
    pub within : (u : ℕ) (x : Symbol) (v : ℕ) → Contains moves (u, x, v) → u < length kernels
    pub each : (u : ℕ) → u < length kernels → HasMovesOf kernels moves u
