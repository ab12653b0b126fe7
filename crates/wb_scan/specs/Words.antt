-- What is kept of a state of an automaton in one word.
use Rattle.std.specs.Prelude.{◌==◌, ◌/◌, ◌%◌, ℕ, zero, suc, Bool, Option, None, Some}
use Rattle.wb_scan.specs.declared.won.Won.{Won}
use Rattle.wb_scan.specs.declared.won.Won.TheVariants.{Nothing, Layout, Token}

-- what wins by a kind and a number: no form; layout; or a form with a terminal below 2^32, and the length of its prefix above it. No
-- other kind tells it
abbrev pub of_kind : ℕ → ℕ → Option Won
of_kind zero number = Some Nothing
of_kind (suc zero) number = Some Layout
of_kind (suc (suc zero)) number = Some (Token (number % 4294967296) (number / 4294967296))
of_kind (suc (suc (suc _))) number = None

-- what wins by a code: four times a number, and a kind
abbrev pub won_coded : ℕ → Option Won
won_coded code = of_kind (code % 4) (code / 4)

-- whether a form is accepted, by the last binary digit of a word
abbrev pub accepts_in : ℕ → Bool
accepts_in word = word % 2 == 1

-- whether no match goes on, by the digit before it
abbrev pub ends_in : ℕ → Bool
ends_in word = word / 2 % 2 == 1

-- what wins, by the digits before these two
abbrev pub won_in : ℕ → Option Won
won_in word = won_coded (word / 2 / 2)
