-- A prefix of bytes that were to be written.
use Rattle.std.specs.Prelude.{◌≡◌, ◌<◌, ℕ, Option, List, length, take}
use Rattle.std.specs.Io.KnownBytes.{append_known}

-- the first of the bytes were written, and not all
pub record WrotePart (before now : Option (List ℕ)) (bytes : List ℕ) : Type 0 where
  pub count : ℕ
  pub cut : count < length bytes
  pub written : now ≡ append_known before (take count bytes)
