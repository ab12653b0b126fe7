-- The kernels of a union as they are listed, with the number of the list of each.
use Rattle.std.specs.Prelude.{◌≡◌, ◌<◌, ◌+◌, ◌∷◌, ◌++◌, [], ◌⊎◌, ℕ, suc, List, Some, length, slice_get}
use Rattle.wb_base.specs.declared.symbol.Symbol.{Symbol}
use Rattle.wb_grammar_theory.specs.declared.item.Item.{Item}
use Rattle.wb_items.specs.Kernels.{AreInOrder, count_of}
use Rattle.wb_items.specs.Table.{SameItems}
use Rattle.wb_recheck_theory.specs.KernelLists.{IsMoveBetween}
use Rattle.wb_compose_theory.specs.Homes.{Home, of, of_host}
use Rattle.wb_compose_theory_grammar.specs.UnitedWorlds.{united}
use Rattle.wb_compose_theory_kernels.specs.Kernels.{HasNoHole, IsFrom, IsItemFrom, IsTaken}
use Rattle.wb_compose_kernels.specs.declared.splice.Splice.{Splice}
use Rattle.wb_compose_kernels.specs.Lent.{AreSpliceable}
use Rattle.wb_compose_kernels.specs.Inner.Counts.{new_count_at, numbers_in, prefix_at}

-- what was listed stays where it is
abbrev pub Keeps : List (List Item) → List (List Item) → Type 0
Keeps old new = (u : ℕ) (list : List Item) → slice_get old u ≡ Some list → slice_get new u ≡ Some list

-- none of the lists is this one
abbrev pub HasNoneLike : List (List Item) → List Item → Type 0
HasNoneLike kernels items = (u : ℕ) (list : List Item) → slice_get kernels u ≡ Some list → ¬ (list ≡ items)

-- the list has this number: it was there, or none was like it and it was added
pub data IsPut (old : List (List Item)) (list : List Item) (new : List (List Item)) (number : ℕ) : Type 0 where
  there : slice_get old number ≡ Some list → new ≡ old → IsPut old list new number
  added : HasNoneLike old list → number ≡ length old → new ≡ old ++ list ∷ [] → IsPut old list new number

module _ (s : Splice) (ok : AreSpliceable s) where
  abbrev pub IsFromAt : List (List Item) → ℕ → Home → ℕ → Type 0
  IsFromAt = IsFrom s.host.now ok.extensible ok.pieces (numbers_in s)

  abbrev pub HasNoHoleAt : Home → ℕ → Type 0
  HasNoHoleAt home k = HasNoHole s.host.now ok.extensible ok.pieces home (prefix_at s home k)

  abbrev pub IsTakenAt : Home → ℕ → Type 0
  IsTakenAt = IsTaken s.host.now ok.extensible ok.pieces (numbers_in s)

  abbrev pub IsItemAt : Home → ℕ → Item → Type 0
  IsItemAt home k = IsItemFrom s.host.now ok.extensible ok.pieces home (prefix_at s home k)

  -- a list before it leads to the list of this number
  pub record IsLedTo (kernels : List (List Item)) (v : ℕ) : Type 0 where
    pub from : ℕ
    pub symbol : Symbol
    pub before : from < v
    pub between : IsMoveBetween (united s.host.now ok.extensible ok.pieces) kernels from symbol v

  -- the lists are of kernels that are taken and were gone through, and all that were are listed, that of the empty prefix first; they
  -- are in order, no two have the same items, and each after the first is led to
  pub record AreSoFar (Done : Home → ℕ → Type 0) (kernels : List (List Item)) : Type 0 where
    pub first : 0 < length kernels → IsFromAt kernels 0 of_host 0
    pub sound : (u : ℕ) → u < length kernels → (home : Home) × (k : ℕ) × IsTakenAt home k × Done home k × IsFromAt kernels u home k
    pub all : (home : Home) (k : ℕ) → IsTakenAt home k → Done home k → (u : ℕ) × IsFromAt kernels u home k
    pub apart : (u v : ℕ) (one other : List Item) → slice_get kernels u ≡ Some one → slice_get kernels v ≡ Some other →
        SameItems one other → u ≡ v
    pub in_order : (u : ℕ) (list : List Item) → slice_get kernels u ≡ Some list → AreInOrder list
    pub reached : (v : ℕ) → suc v < length kernels → IsLedTo kernels (suc v)

  -- the first of the host, or all of it, those of the first extensions, and the first of the next
  abbrev pub IsHostDone : ℕ → Home → ℕ → Type 0
  IsHostDone n of_host k = k < n
  IsHostDone n (of f) k = ⊥

  abbrev pub IsDone : ℕ → ℕ → Home → ℕ → Type 0
  IsDone e n of_host k = Unit {0}
  IsDone e n (of f) k = (f < e) ⊎ ((f ≡ e) × (k < count_of s.kernels.now + n))

  -- the next kernel of the host has this list, which was added; or it is one after a hole
  pub record HostNext (old kernels : List (List Item)) (n u : ℕ) : Type 0 where
    pub keeps : Keeps old kernels
    pub so_far : AreSoFar (IsHostDone (n + 1)) kernels
    pub from : HasNoHoleAt of_host n → IsFromAt kernels u of_host n

  -- for the first kernels of the host the numbers of their lists
  pub record HostListed (kernels : List (List Item)) (numbers : List ℕ) (n : ℕ) : Type 0 where
    pub len : length numbers ≡ n
    pub each : (k u : ℕ) → HasNoHoleAt of_host k → slice_get numbers k ≡ Some u → IsFromAt kernels u of_host k

  pub record HostUpTo (kernels : List (List Item)) (numbers : List ℕ) (n : ℕ) : Type 0 where
    pub so_far : AreSoFar (IsHostDone n) kernels
    pub listed : HostListed kernels numbers n

  -- the next new kernel of the extension has this list, which was there or was added
  pub record NewNext (old kernels : List (List Item)) (e n u : ℕ) : Type 0 where
    pub keeps : Keeps old kernels
    pub so_far : AreSoFar (IsDone e (n + 1)) kernels
    pub from : IsFromAt kernels u (of e) (count_of s.kernels.now + n)

  -- for the first new kernels of the extension the numbers of their lists
  pub record NewListed (kernels : List (List Item)) (e n : ℕ) (numbers : List ℕ) : Type 0 where
    pub len : length numbers ≡ n
    pub each : (i u : ℕ) → slice_get numbers i ≡ Some u → IsFromAt kernels u (of e) (count_of s.kernels.now + i)

  pub record NewUpTo (old kernels : List (List Item)) (e n : ℕ) (numbers : List ℕ) : Type 0 where
    pub keeps : Keeps old kernels
    pub so_far : AreSoFar (IsDone e n) kernels
    pub listed : NewListed kernels e n numbers

  -- for all new kernels of the first extensions
  pub record PartsListed (kernels : List (List Item)) (new : List (List ℕ)) (e : ℕ) : Type 0 where
    pub len : length new ≡ e
    pub each : (f : ℕ) (numbers : List ℕ) → slice_get new f ≡ Some numbers → NewListed kernels f (new_count_at s f) numbers

  pub record PartsUpTo (old kernels : List (List Item)) (new : List (List ℕ)) (e : ℕ) : Type 0 where
    pub keeps : Keeps old kernels
    pub so_far : AreSoFar (IsDone e 0) kernels
    pub listed : PartsListed kernels new e

  -- all kernels are listed, and each has its number
  pub record AreListed (kernels : List (List Item)) (host : List ℕ) (new : List (List ℕ)) : Type 0 where
    pub so_far : AreSoFar (IsDone (length s.parts.now) 0) kernels
    pub of_host : HostListed kernels host (count_of s.kernels.now)
    pub of_parts : PartsListed kernels new (length s.parts.now)

-- the same, whatever certifies
abbrev pub AreHostSoFar : Splice → ℕ → List (List Item) → Type 0
AreHostSoFar s n kernels = (ok : AreSpliceable s) → AreSoFar s ok (IsHostDone s ok n) kernels

abbrev pub AreNewSoFar : Splice → ℕ → ℕ → List (List Item) → Type 0
AreNewSoFar s e n kernels = (ok : AreSpliceable s) → AreSoFar s ok (IsDone s ok e n) kernels

abbrev pub IsHostNext : Splice → List (List Item) → List (List Item) → ℕ → ℕ → Type 0
IsHostNext s old kernels n u = (ok : AreSpliceable s) → HostNext s ok old kernels n u

abbrev pub IsHostUpTo : Splice → List (List Item) → List ℕ → ℕ → Type 0
IsHostUpTo s kernels numbers n = (ok : AreSpliceable s) → HostUpTo s ok kernels numbers n

abbrev pub IsNewNext : Splice → List (List Item) → List (List Item) → ℕ → ℕ → ℕ → Type 0
IsNewNext s old kernels e n u = (ok : AreSpliceable s) → NewNext s ok old kernels e n u

abbrev pub IsNewUpTo : Splice → List (List Item) → List (List Item) → ℕ → ℕ → List ℕ → Type 0
IsNewUpTo s old kernels e n numbers = (ok : AreSpliceable s) → NewUpTo s ok old kernels e n numbers

abbrev pub ArePartsUpTo : Splice → List (List Item) → List (List Item) → List (List ℕ) → ℕ → Type 0
ArePartsUpTo s old kernels new e = (ok : AreSpliceable s) → PartsUpTo s ok old kernels new e

abbrev pub IsListing : Splice → List (List Item) → List ℕ → List (List ℕ) → Type 0
IsListing s kernels host new = (ok : AreSpliceable s) → AreListed s ok kernels host new
