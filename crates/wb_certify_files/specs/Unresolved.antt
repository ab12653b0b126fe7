-- Contents that stand for no value.
use Rattle.std.specs.Prelude.{◌⊎◌, List, ℕ}
use Rattle.wb_certify_files.specs.HostContents.{IsBadText, HasBadNames}
use Rattle.wb_certify_files.specs.declared.host_refusal.HostRefusal.{HostRefusal}
use Rattle.wb_certify_files.specs.declared.host_refusal.HostRefusal.TheVariants as h

-- the contents aren't a specification, or their names aren't right, and that is shown so
abbrev pub IsUnresolved : List ℕ → HostRefusal → Type 0
IsUnresolved contents (h.Specification shown) = IsBadText contents shown ⊎ HasBadNames contents shown
IsUnresolved contents (h.Certification shown) = ⊥
IsUnresolved contents (h.NoMemory error) = Unit {0}
