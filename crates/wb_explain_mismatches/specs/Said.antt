-- What is said of an expression that isn't of the kind that is wanted, or of a call with another number of arguments than it takes.
use Rattle.std.specs.Prelude.{◌≡◌, ◌⊎◌, ◌+◌, ◌++◌, ℕ, zero, suc, List, [], ◌∷◌, Option, Some, None, length, slice_get}
use Rattle.std.specs.List.{flat_map}
use Rattle.std.specs.Fmt.{decimal}
use lib.Chars.{codes}
use Rattle.wb_base.specs.declared.symbol.Kind.{Kind}
use Rattle.wb_base.specs.declared.symbol.Kind.TheVariants as kind
use Rattle.wb_syntax_expressions.specs.declared.node.Node.TheVariants as n
use Rattle.wb_syntax_expressions.specs.Places.{parts_of}
use Rattle.wb_operations.specs.Operations.{OperationSignature}
use Rattle.wb_syntax_resolved.specs.declared.attribution.AttributionParts.{AttributionParts}
use Rattle.wb_syntax_resolved.specs.declared.attributes.Nonterminal.{Nonterminal}
use Rattle.wb_syntax_resolved.specs.Expression.{Node}
use Rattle.wb_syntax_resolved.specs.Owners.{printed_name}
use Rattle.wb_values.specs.Signature.{Signature}
use Rattle.wb_types.specs.Refusals.{ExpressionAt, HasWrongArity, HasWrongKind}
use Rattle.wb_explain_mismatches.specs.declared.step.Maker.{Maker}
use Rattle.wb_explain_mismatches.specs.declared.step.Maker.TheVariants as m
use Rattle.wb_explain_mismatches.specs.declared.step.Step.{Step}
use Rattle.wb_explain_mismatches.specs.Steps.{Leads}
use Rattle.wb_explain_mismatches.specs.Wrong.{IsWrongCount, IsWrongPart, IsWrongWhole}

-- the name of a nonterminal, a production or an operation that is there
abbrev pub nonterminal_said : List (List ℕ) → Option Nonterminal → List ℕ
nonterminal_said extensions None = []
nonterminal_said extensions (Some it) = printed_name extensions it.owner it.name

abbrev pub production_said : Option Signature → List ℕ
production_said None = []
production_said (Some it) = it.name

abbrev pub operation_said : Option OperationSignature → List ℕ
operation_said None = []
operation_said (Some it) = codes "@" ++ it.name

-- a kind in words
abbrev pub kind_said : AttributionParts → Kind → List ℕ
kind_said a kind.Int = codes "an int"
kind_said a kind.Bool = codes "a bool"
kind_said a kind.Text = codes "a text"
kind_said a (kind.Tree number) = codes "a tree of " ++ nonterminal_said a.extensions (slice_get a.nonterminals number)

-- what a node calls, by name
abbrev pub caller_said : AttributionParts → Node → List ℕ
caller_said a (n.Build number children) = production_said (slice_get a.signatures number)
caller_said a (n.Call name arguments) = codes "@" ++ name
caller_said a node = codes "if"

-- which part of an if it is
abbrev pub choice_said : ℕ → List ℕ
choice_said zero = codes "the condition of an if"
choice_said (suc number) = codes "what is after else, since what is after then is one"

-- which argument of a node it is, counted from 1
abbrev pub argument_said : AttributionParts → Node → ℕ → List ℕ
argument_said a node number = codes "argument " ++ decimal (number + 1) ++ codes " of " ++ caller_said a node

-- which part of a node it is
abbrev pub part_said : AttributionParts → Node → ℕ → List ℕ
part_said a (n.If condition holds fails) number = choice_said number
part_said a node number = argument_said a node number

-- what the whole is
abbrev pub whole_said : List ℕ
whole_said = codes "the value of this equation"

-- as what a kind is wanted
abbrev pub role_said : List ℕ → List ℕ
role_said role = codes ", as " ++ (role ++ codes "\n")

-- that a kind is wanted
abbrev pub wanted_kind_said : AttributionParts → Kind → List ℕ
wanted_kind_said a wanted = codes "    wanted: " ++ kind_said a wanted

-- that a kind is wanted, and as what
abbrev pub wanted_said : AttributionParts → List ℕ → Kind → List ℕ
wanted_said a role wanted = wanted_kind_said a wanted ++ role_said role

-- that a kind is there
abbrev pub found_said : AttributionParts → Kind → List ℕ
found_said a found = codes "    found:  " ++ kind_said a found ++ codes "\n"

-- that one kind is wanted, and that another is there
abbrev pub mismatch_said : AttributionParts → List ℕ → Kind → Kind → List ℕ
mismatch_said a role wanted found = wanted_said a role wanted ++ found_said a found

-- how many arguments a node takes, and how many are there
abbrev pub count_said : AttributionParts → Node → ℕ → List ℕ
count_said a node takes =
    codes "    " ++ caller_said a node ++ codes " takes " ++ decimal takes ++ codes ", and here are " ++ decimal (length (parts_of node))
    ++ codes "\n"

-- what makes one kind of another, by name
abbrev pub maker_said : List Signature → List OperationSignature → Maker → List ℕ
maker_said signatures operations (m.Production number) = production_said (slice_get signatures number)
maker_said signatures operations (m.Operation number) = operation_said (slice_get operations number)

-- a step, on a line
abbrev pub step_said : AttributionParts → List OperationSignature → Step → List ℕ
step_said a operations step =
    codes "    " ++ maker_said a.signatures operations step.maker ++ codes " makes " ++ kind_said a step.to ++ codes " of " ++ kind_said a step.from
    ++ codes "\n"

-- the steps, where there are some
abbrev pub steps_said : AttributionParts → List OperationSignature → List Step → List ℕ
steps_said a operations [] = []
steps_said a operations (step ∷ steps) =
    codes "\nWritten around it, from the outside in, this makes what is wanted:\n\n" ++ step_said a operations step
    ++ flat_map (step_said a operations) steps

-- after what was there come lines that say which kind is wanted and which is there, and, where there are steps, that they lead from the one
-- to the other
pub record IsSaid (a : AttributionParts) (operations : List OperationSignature) (role : List ℕ) (wanted found : Kind) (old new : List ℕ)
    : Type 0 where
  pub steps : List Step
  pub lead : (steps ≡ []) ⊎ Leads a.signatures operations steps found wanted
  pub before : List ℕ
  pub after : List ℕ
  pub lines : new ≡ old ++ before ++ mismatch_said a role wanted found ++ steps_said a operations steps ++ after

-- so it is of a part of an expression whose equation begins at this offset
pub record SaysPart (a : AttributionParts) (operations : List OperationSignature) (offset : ℕ) (old new : List ℕ) : Type 0 where
  pub expression : ExpressionAt a offset
  pub node : Node
  pub number : ℕ
  pub wanted : Kind
  pub found : Kind
  pub wrong : IsWrongPart a operations expression.production expression.nodes node number wanted found
  pub is_said : IsSaid a operations (part_said a node number) wanted found old new

-- so it is of the whole of one
pub record SaysWhole (a : AttributionParts) (operations : List OperationSignature) (offset : ℕ) (old new : List ℕ) : Type 0 where
  pub expression : ExpressionAt a offset
  pub found : Kind
  pub wrong : IsWrongWhole a operations expression.production expression.nodes expression.expected found
  pub is_said : IsSaid a operations whole_said expression.expected found old new

-- after what was there come lines that say how many arguments a call takes and how many it has, in an expression whose equation begins at
-- this offset
pub record SaysCount (a : AttributionParts) (operations : List OperationSignature) (offset : ℕ) (old new : List ℕ) : Type 0 where
  pub expression : ExpressionAt a offset
  pub node : Node
  pub takes : ℕ
  pub wrong : IsWrongCount a operations expression.nodes node takes
  pub before : List ℕ
  pub after : List ℕ
  pub lines : new ≡ old ++ before ++ count_said a node takes ++ after

-- an expression is refused for its kind, and one whose equation begins there is spoken of
pub record SaysKind (a : AttributionParts) (operations : List OperationSignature) (old new : List ℕ) : Type 0 where
  pub offset : ℕ
  pub refused : HasWrongKind a operations offset
  pub says : SaysPart a operations offset old new ⊎ SaysWhole a operations offset old new

-- an expression is refused for a number of arguments, and one whose equation begins there is spoken of
pub record SaysArity (a : AttributionParts) (operations : List OperationSignature) (old new : List ℕ) : Type 0 where
  pub offset : ℕ
  pub refused : HasWrongArity a operations offset
  pub says : SaysCount a operations offset old new

-- nothing is said, or one of these two
abbrev pub Says : AttributionParts → List OperationSignature → List ℕ → List ℕ → Type 0
Says a operations old new = (new ≡ old) ⊎ (SaysKind a operations old new ⊎ SaysArity a operations old new)
