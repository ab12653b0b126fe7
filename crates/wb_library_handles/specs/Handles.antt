-- Which value a handle names, and what becomes of the others.
use Rattle.std.specs.Prelude.{◌≡◌, ◌≢◌, ◌<◌, ◌⊎◌, ℕ, true, false, List, Option, Some, slice_get}
use Rattle.wb_library_handles.specs.declared.handle.Handle.{Handle}
use Rattle.wb_library_handles.specs.declared.slot.Slot.{Slot}

module _ {T : Type 0} where
  -- the place of the handle has its generation, and this value or none
  abbrev pub IsAt : List (Slot T) → Handle → Option T → Type 0
  IsAt slots handle value =
      slice_get slots handle.place ≡ Some (record { generation = handle.generation; is_spent = false; value = value })

  -- the handle names this value
  abbrev pub IsNamed : List (Slot T) → Handle → T → Type 0
  IsNamed slots handle value = IsAt slots handle (Some value)

  -- the handle names no value
  abbrev pub NamesNone : List (Slot T) → Handle → Type 0
  NamesNone slots handle = (value : T) → ¬ IsNamed slots handle value

  -- the value of the handle was let go: its place has a later generation, or had its last
  abbrev pub IsSpent : List (Slot T) → Handle → Type 0
  IsSpent slots handle =
      (slot : Slot T) → slice_get slots handle.place ≡ Some slot → (handle.generation < slot.generation) ⊎ (slot.is_spent ≡ true)

  -- what was let go stays so
  abbrev pub AreSpentKept : (old new : List (Slot T)) → Type 0
  AreSpentKept old new = (handle : Handle) (slot : Slot T) → slice_get old handle.place ≡ Some slot → IsSpent old handle → IsSpent new handle

  -- what is at other places than the handle's is the same in both
  abbrev pub AreOthersKept : (old new : List (Slot T)) → Handle → Type 0
  AreOthersKept old new handle = (place : ℕ) → place ≢ handle.place → slice_get new place ≡ slice_get old place
