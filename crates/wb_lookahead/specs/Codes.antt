-- Numbers that stand for actions and for kernels after nonterminals.
use Rattle.std.specs.Prelude.{ℕ, zero, suc, ◌/◌, ◌%◌, Option, Some, None}
use Rattle.wb_lookahead.specs.declared.action.Action.{Action}
use Rattle.wb_lookahead.specs.declared.action.Action.TheVariants as act
use Rattle.wb_lookahead.specs.declared.action.Action.TheVariants.{Shift, Reduce, Accept}

-- the action of a kind with a number
abbrev pub of_kind : ℕ → ℕ → Action
of_kind zero n = act.None
of_kind (suc zero) n = Shift n
of_kind (suc (suc zero)) n = Reduce n
of_kind (suc (suc (suc _))) n = Accept

-- the action that a code stands for: four times a number, and a kind
abbrev pub action_at : ℕ → Action
action_at code = of_kind (code % 4) (code / 4)

-- the kernel that a code stands for: none, or one less
abbrev pub goto_at : ℕ → Option ℕ
goto_at zero = None
goto_at (suc n) = Some n
