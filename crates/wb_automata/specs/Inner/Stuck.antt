-- Two places that wait for different things, so that no text goes on from both.
use Rattle.std.specs.Prelude.{◌==◌, ◌||◌, ℕ, Bool, true, false, not, List, bit_and, slice_index}
use Rattle.wb_automata_positions.specs.declared.places.Place.{Place}
use Rattle.wb_automata_positions.specs.declared.places.Place.TheVariants as p

-- whether word k of the one set has a bit in common with that of the other
abbrev pub share_word : List ℕ → List ℕ → ℕ → Bool
share_word lefts rights k = not (bit_and (slice_index lefts k) (slice_index rights k) == 0)

-- whether two sets of bytes have one in common
abbrev pub share_byte : List ℕ → List ℕ → Bool
share_byte lefts rights = ((share_word lefts rights 0 || share_word lefts rights 1) || share_word lefts rights 2)
    || share_word lefts rights 3

-- whether the place waits, but not for a byte of the set
abbrev pub waits_without : List ℕ → Place → Bool
waits_without lefts (p.Read rights next) = not (share_byte lefts rights)
waits_without lefts (p.Go next) = false
waits_without lefts (p.Fork next other) = false
waits_without lefts (p.End number) = true

-- whether the place waits for a byte
abbrev pub is_read : Place → Bool
is_read (p.Read words next) = true
is_read (p.Go next) = false
is_read (p.Fork next other) = false
is_read (p.End number) = false

-- whether both places wait, and not for the same: no byte is in both sets, or one is an end and the other isn't
abbrev pub are_stuck : Place → Place → Bool
are_stuck (p.Read words next) right = waits_without words right
are_stuck (p.Go next) right = false
are_stuck (p.Fork next other) right = false
are_stuck (p.End number) right = is_read right
