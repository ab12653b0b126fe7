-- What is written for words that ask for no command.
use Rattle.std.specs.Prelude.{ℕ, List}
use lib.Chars.{codes}

-- the line for them
abbrev pub usage_line : List ℕ
usage_line = codes "usage: workbench value|show|check|certify|compose|tree|run|generate|certificate|recheck|edit|reading ARGUMENTS\n"
