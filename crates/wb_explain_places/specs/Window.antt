-- What is shown of a line on both sides of a place: some 64 bytes at most, and each byte so that what comes after it stays at its place.
use Rattle.std.specs.Prelude.{ℕ, ◌+◌, ◌-◌, ◌==◌, ◌||◌, nat_lt, nat_le, List, ◌++◌, length, take, drop, map, if◌then◌else◌}
use Rattle.std.specs.List.{prefix_len}
use lib.Chars.{codes}
use Rattle.wb_explain_places.specs.Characters.{continues_character}

-- a tab is shown as a space, and another control character as a question mark
abbrev pub shown_byte : ℕ → ℕ
shown_byte b = if b == 9 then 32 else if nat_lt b 32 || b == 127 then 63 else b

-- bytes as they are shown
abbrev pub shown : List ℕ → List ℕ
shown bytes = map shown_byte bytes

-- how many bytes at the beginning are of a character that began before them; a character has three such bytes at most
abbrev pub broken : List ℕ → ℕ
broken bytes = prefix_len continues_character (take 3 bytes)

-- what is shown before a place: the last 64 bytes where there are more, without a part of a character
abbrev pub left_of : List ℕ → List ℕ
left_of before =
    let rest = drop (length before - 64) before in
    if nat_le (length before) 64 then shown before else codes "..." ++ shown (drop (broken rest) rest)

-- what is shown from a place on: the first 64 bytes where there are more, and the rest of their last character
abbrev pub right_of : List ℕ → List ℕ
right_of after =
    if nat_le (length after) 64 then shown after else shown (take (64 + broken (drop 64 after)) after) ++ codes "..."
