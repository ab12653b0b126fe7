-- Expressions that wait, and how the values of all of them lie in one list.
use Rattle.std.specs.Prelude.{◌≡◌, ℕ, List, [], ◌∷◌, ◌++◌, Option, Some, None, drop}
use Rattle.wb_values.specs.declared.value.Value.{Value}
use Rattle.wb_eval_rules.specs.Code.{Instruction, instructions}
use Rattle.wb_eval.specs.declared.frame.Frame.{Frame}

-- an expression at a site: its code from the read on for which it waits, and the values below
pub record Wait : Type 0 where
  pub site : ℕ
  pub code : List Instruction
  pub values : List Value

abbrev pub wait : ℕ → List Instruction → List Value → Wait
wait site code values = record { site = site; code = code; values = values }

-- the values of all that wait, those of the first below
abbrev pub piled : List (Option Wait) → List Value
piled [] = []
piled (None ∷ waits) = piled waits
piled (Some w ∷ waits) = w.values ++ piled waits

-- the code of a frame, from its place on
abbrev pub code_left : Frame → List Instruction
code_left f = drop f.at (instructions f.code.now)

-- what waits is the frame's
abbrev pub IsWaitOf : Option Frame → Option Wait → Type 0
IsWaitOf None None = Unit {0}
IsWaitOf (Some f) (Some w) = (w.site ≡ f.site) × (w.code ≡ code_left f)
IsWaitOf f w = ⊥

-- so it is with each
abbrev pub AreWaits : List (Option Frame) → List (Option Wait) → Type 0
AreWaits [] [] = Unit {0}
AreWaits (f ∷ frames) (w ∷ waits) = IsWaitOf f w × AreWaits frames waits
AreWaits frames waits = ⊥
