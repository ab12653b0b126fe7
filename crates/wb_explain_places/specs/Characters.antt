-- Line feeds and characters.
use Rattle.std.specs.Prelude.{ℕ, Bool, not, ◌==◌, ◌||◌, nat_lt, nat_le}

abbrev pub is_line_feed : ℕ → Bool
is_line_feed b = b == 10

-- the byte begins a character of UTF-8: 128 to 191 alone are in one that an earlier byte began
abbrev pub begins_character : ℕ → Bool
begins_character b = nat_lt b 128 || nat_le 192 b

-- the byte is in a character that an earlier byte began
abbrev pub continues_character : ℕ → Bool
continues_character b = not (begins_character b)
