-- Expressions as code: an instruction for each node, in the order of nodes, on a stack of values.
use Rattle.std.specs.Prelude.{◌≡◌, ℕ, zero, suc, List, [], ◌∷◌, ◌++◌, Option, Some, None, map}
use Rattle.wb_syntax_expressions.specs.Expression as x
use Rattle.wb_syntax_expressions.specs.Expression.{size, nodes_of}
use Rattle.wb_operations.specs.Operations.{OperationSignature}
use Rattle.wb_syntax_resolved.specs.Expression.{Expression, Expressions, Node}
use Rattle.wb_eval_theory.specs.Walks.{number_of}
use Rattle.wb_eval_rules.specs.declared.code.After.{After}
use Rattle.wb_eval_rules.specs.declared.code.After.TheVariants as after
use Rattle.wb_eval_rules.specs.declared.code.Op.{Op}
use Rattle.wb_eval_rules.specs.declared.code.Task.{Task}
use Rattle.wb_eval_rules.specs.declared.code.Task.TheVariants as task

-- what an instruction does
pub data Job : Type 0 where
  -- it evaluates an expression without parts
  visit : Expression → Job
  -- it makes a tree of a production of so many values, or calls an operation on so many
  build : (production count : ℕ) → Job
  call : (operation count : ℕ) → Job
  -- the value is on top already
  stay : Job

-- where it goes on with the value: at the next instruction, after so many that are left out, or as the value says, which isn't kept: at the
-- next where it is true, and else after so many
pub data Way : Type 0 where
  next : Way
  skip : ℕ → Way
  unless : ℕ → Way

pub data Instruction : Type 0 where
  does : Job → Way → Instruction

-- how many expressions these are
abbrev pub count : Expressions → ℕ
count x.none = zero
count (x.more e es) = suc (count es)

abbrev pub or_zero : Option ℕ → ℕ
or_zero None = zero
or_zero (Some n) = n

-- the number of the first operation of this name, or 0
abbrev pub number_in : List OperationSignature → List ℕ → ℕ
number_in signatures name = or_zero (number_of signatures name)

module _ (signatures : List OperationSignature) where
  -- what the last instruction of an expression does
  abbrev pub last_job : Expression → Job
  last_job (x.Int z) = visit (x.Int z)
  last_job (x.Text s) = visit (x.Text s)
  last_job (x.Truth b) = visit (x.Truth b)
  last_job (x.Label l) = visit (x.Label l)
  last_job (x.Read l y) = visit (x.Read l y)
  last_job (x.Lexeme l) = visit (x.Lexeme l)
  last_job (x.Top y) = visit (x.Top y)
  last_job (x.Forward y) = visit (x.Forward y)
  last_job (x.Build p es) = build p (count es)
  last_job (x.Call name es) = call (number_in signatures name) (count es)
  last_job (x.If c h f) = stay

  unfoldable mutual
    -- the instructions before it
    pub before_last : Expression → List Instruction
    before_last (x.Int z) = []
    before_last (x.Text s) = []
    before_last (x.Truth b) = []
    before_last (x.Label l) = []
    before_last (x.Read l y) = []
    before_last (x.Lexeme l) = []
    before_last (x.Top y) = []
    before_last (x.Forward y) = []
    before_last (x.Build p es) = codes_of es
    before_last (x.Call name es) = codes_of es
    before_last (x.If c h f) =
        (before_last c ++ does (last_job c) (unless (size h)) ∷ [])
        ++ (before_last h ++ does (last_job h) (skip (size f)) ∷ [])
        ++ (before_last f ++ does (last_job f) next ∷ [])

    -- those of expressions, one after the other
    pub codes_of : Expressions → List Instruction
    codes_of x.none = []
    codes_of (x.more e es) = (before_last e ++ does (last_job e) next ∷ []) ++ codes_of es

  -- the code of an expression, which goes on so with its value
  abbrev pub code_of : Expression → Way → List Instruction
  code_of e way = before_last e ++ does (last_job e) way ∷ []

-- the instruction that a stored one is
abbrev pub job_of : Task → Job
job_of (task.Int z) = visit (x.Int z)
job_of (task.Text s) = visit (x.Text s)
job_of (task.Bool b) = visit (x.Truth b)
job_of (task.Label l) = visit (x.Label l)
job_of (task.Read l y) = visit (x.Read l y)
job_of (task.Lexeme l) = visit (x.Lexeme l)
job_of (task.Top y) = visit (x.Top y)
job_of (task.Forward y) = visit (x.Forward y)
job_of (task.Build p n) = build p n
job_of (task.Call i n) = call i n
job_of task.Stay = stay

abbrev pub way_of : After → Way
way_of after.Next = next
way_of (after.Skip n) = skip n
way_of (after.Unless n) = unless n

abbrev pub instruction_of : Op → Instruction
instruction_of o = does (job_of o.task) (way_of o.after)

abbrev pub instructions : List Op → List Instruction
instructions ops = map instruction_of ops

-- the code is that of the expression that the nodes are
abbrev pub IsCodeOf : List OperationSignature → List Node → List Op → Type 0
IsCodeOf signatures nodes ops = (e : Expression) → nodes ≡ nodes_of e → instructions ops ≡ code_of signatures e next
