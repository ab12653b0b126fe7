-- Code as it comes about, node by node.
use Rattle.std.specs.Prelude.{◌-◌, ℕ, zero, suc, List, [], ◌∷◌, ◌++◌, length}
use Rattle.wb_syntax_expressions.specs.declared.node.Node.TheVariants as n
use Rattle.wb_syntax_expressions.specs.Expression as x
use Rattle.wb_operations.specs.Operations.{OperationSignature}
use Rattle.wb_syntax_resolved.specs.Expression.{Node}
use Rattle.wb_eval_rules.specs.Code.{Job, visit, build, call, stay, Way, next, skip, unless, Instruction, does, number_in}

-- what the instruction of a node does
abbrev pub job_at : List OperationSignature → Node → Job
job_at signatures (n.Int z) = visit (x.Int z)
job_at signatures (n.Text s) = visit (x.Text s)
job_at signatures (n.Bool b) = visit (x.Truth b)
job_at signatures (n.Label l) = visit (x.Label l)
job_at signatures (n.Read l y) = visit (x.Read l y)
job_at signatures (n.Lexeme l) = visit (x.Lexeme l)
job_at signatures (n.Top y) = visit (x.Top y)
job_at signatures (n.Forward y) = visit (x.Forward y)
job_at signatures (n.Build p places) = build p (length places)
job_at signatures (n.Call name places) = call (number_in signatures name) (length places)
job_at signatures (n.If c h f) = stay

-- the code with another way after the instruction at this place
abbrev pub set_way : List Instruction → ℕ → Way → List Instruction
set_way [] at way = []
set_way (does job old ∷ code) zero way = does job way ∷ code
set_way (i ∷ code) (suc at) way = i ∷ set_way code at way

-- the code after a node, of which the instruction is there
abbrev pub after_node : Node → List Instruction → List Instruction
after_node (n.If c h f) code = set_way (set_way code c (unless (h - c))) h (skip (f - h))
after_node other code = code

-- the code of nodes after that of others
abbrev pub emitted : List OperationSignature → List Instruction → List Node → List Instruction
emitted signatures code [] = code
emitted signatures code (node ∷ nodes) =
    emitted signatures (after_node node (code ++ does (job_at signatures node) next ∷ [])) nodes
