-- What is known of the kernels that a union takes before they are listed: which can be one, and where they lead.
use Rattle.std.specs.Prelude.{◌≡◌, ◌⊎◌, ◌↔◌, ◌<◌, ℕ, List, Some, length, slice_get}
use Rattle.wb_base.specs.declared.symbol.Symbol.{Symbol}
use Rattle.wb_base.specs.declared.symbol.Symbol.TheVariants.{Terminal}
use Rattle.wb_base.specs.Grammar.{GrammarView}
use Rattle.wb_grammar_theory.specs.declared.item.Item.{Item}
use Rattle.wb_grammar_theory.specs.Items.{advance, initial_item}
use Rattle.wb_compose_theory.specs.Homes.{Home, of, of_host}
use Rattle.wb_compose_theory.specs.Renamings.{renamed_item}
use Rattle.wb_compose_theory.specs.Worlds.{on}
use Rattle.wb_compose_theory_grammar.specs.Pieces.{Piece}
use Rattle.wb_compose_theory_kernels.specs.Kernels.{AreOneKernel, HasOwnItem, IsItemFrom, IsTaken, KernelNumbers, LeadsAt}
use Rattle.wb_compose_theory_kernels.specs.Parts.{IsHole, into_union}

module _ (host : GrammarView) (extensible : List ℕ) (pieces : List Piece) (numbers : KernelNumbers) where
  -- the kernels of two numbers are one
  abbrev pub AreOneAt : Home → ℕ → Home → ℕ → Type 0
  AreOneAt home s other_home other =
      AreOneKernel host extensible pieces home (numbers.prefix_of home s) other_home (numbers.prefix_of other_home other)

  -- two kernels that are taken are one only where they have one number, or are of two extensions and have no item of either's own
  pub record AreTakenOnce : Type 0 where
    pub same_number : (home : Home) (s other : ℕ) → IsTaken host extensible pieces numbers home s →
        IsTaken host extensible pieces numbers home other → AreOneAt home s home other → s ≡ other
    pub not_host : (s e other : ℕ) → IsTaken host extensible pieces numbers of_host s →
        IsTaken host extensible pieces numbers (of e) other → ¬ AreOneAt of_host s (of e) other
    pub same_extension : (e s f other : ℕ) → IsTaken host extensible pieces numbers (of e) s →
        IsTaken host extensible pieces numbers (of f) other → HasOwnItem host extensible pieces (of e) (numbers.prefix_of (of e) s) →
        AreOneAt (of e) s (of f) other → e ≡ f

  -- the number is taken, or it is that of a kernel of the host, which is taken there
  abbrev pub IsTakenSomewhere : Home → ℕ → Type 0
  IsTakenSomewhere home s =
      IsTaken host extensible pieces numbers home s ⊎
      (IsTaken host extensible pieces numbers of_host s × AreOneAt home s of_host s)

  -- a symbol that is no hole leads from a kernel that is taken to one that is taken
  abbrev pub AreMovesTaken : Type 0
  AreMovesTaken =
      (home : Home) (s next : ℕ) (x : Symbol) → IsTaken host extensible pieces numbers home s →
      LeadsAt host extensible pieces numbers home s x next → ¬ IsHole host extensible pieces home x → IsTakenSomewhere home next

  -- a marker leads to the kernel of its bridge, from wherever it leads
  abbrev pub LeadToBridges : Type 0
  LeadToBridges =
      (e m a s next : ℕ) (piece : Piece) → slice_get pieces e ≡ Some piece → piece.mark m ≡ on a → e < length pieces →
      LeadsAt host extensible pieces numbers (of e) s (Terminal m) next → (item : Item) →
      IsItemFrom host extensible pieces (of e) (numbers.prefix_of (of e) next) item ↔
      (item ≡ renamed_item (into_union host extensible pieces (of e)) (advance (initial_item (piece.bridge m))))

  -- each marker leads somewhere from a kernel of the host
  abbrev pub AreMarkersReached : Type 0
  AreMarkersReached =
      (e m a : ℕ) (piece : Piece) → slice_get pieces e ≡ Some piece → piece.mark m ≡ on a →
      (s next : ℕ) × (s < numbers.count of_host) × LeadsAt host extensible pieces numbers (of e) s (Terminal m) next
