-- Places that a new handle can take.
use Rattle.std.specs.Prelude.{◌≡◌, ℕ, false, List, None, Some, slice_get}
use Rattle.wb_library_handles.specs.declared.slot.Slot.{Slot}

-- the place can be taken, where there is one
abbrev pub IsFree : {T : Type 0} → List (Slot T) → ℕ → Type 0
IsFree {T} slots place = (slot : Slot T) → slice_get slots place ≡ Some slot → (slot.is_spent ≡ false) × (slot.value ≡ None)
