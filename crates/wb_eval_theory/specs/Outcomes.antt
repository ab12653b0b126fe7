-- What an expression comes to at a node, and what it reads, by the answers of the instances that it reads.
use Rattle.std.specs.Prelude.{◌≡◌, ℕ, ℤ, Bool, true, false, List, Some}
use Rattle.wb_flow_theory.specs.Vertices.{local, forward, made, step_to}
use Rattle.wb_syntax_expressions.specs.Expression as x
use Rattle.wb_operations.specs.Given.{gives, fails}
use Rattle.wb_operations.specs.Operations.{Operations}
use Rattle.wb_values.specs.Tree.{Plain, int, bool, text, Tree, node, Value, plain, tree, Values, empty, more, value_at}
use Rattle.wb_eval_theory.specs.Answers.{HasAnswer}
use Rattle.wb_eval_theory.specs.Instances.{Path, down, Instance, synthesized_at, inherited_at, tree_at}
use Rattle.wb_eval_theory.specs.Walks.{Outcome, value, fault, plains, number_of}
use Rattle.wb_syntax_resolved.specs.declared.attribution.AttributionParts.{AttributionParts}
use Rattle.wb_syntax_resolved.specs.declared.equation.Place.{Place}
use Rattle.wb_syntax_resolved.specs.declared.equation.Place.TheVariants as place
use Rattle.wb_syntax_resolved.specs.Expression.{Expression, Expressions}

module _ (a : AttributionParts) (operations : Operations) (top : Tree) (q : Path) (vs : Values) where
  mutual
    -- the expression has the outcome at the node of path q, whose children are vs
    pub data HasOutcome : Expression → Outcome → Type 0 where
      number : {z : ℤ} → HasOutcome (x.Int z) (value (plain (int z)))
      bytes : {t : List ℕ} → HasOutcome (x.Text t) (value (plain (text t)))
      truth : {b : Bool} → HasOutcome (x.Truth b) (value (plain (bool b)))
      -- a child as a value, and the text of one
      child_value : {k : ℕ} {v : Value} → value_at vs k ≡ Some v → HasOutcome (x.Label (place.Child k)) (value v)
      lexeme : {k : ℕ} {v : Value} → value_at vs k ≡ Some v → HasOutcome (x.Lexeme (place.Child k)) (value v)
      -- a local as a value, and attributes: what the instance answers
      local_value : {k : ℕ} {o : Outcome} → HasAnswer a operations top (tree_at q (local k)) o → HasOutcome (x.Label (place.Local k)) o
      attribute : {at : Place} {y : ℕ} {o : Outcome} → HasAnswer a operations top (synthesized_at (down q (step_to at)) y) o
          → HasOutcome (x.Read at y) o
      top_attribute : {y : ℕ} {o : Outcome} → HasAnswer a operations top (inherited_at q y) o → HasOutcome (x.Top y) o
      forward_attribute : {y : ℕ} {o : Outcome} → HasAnswer a operations top (synthesized_at (down q (made forward)) y) o
          → HasOutcome (x.Forward y) o
      -- a tree of the values of the parts, and what the operation of the name gives on them; or the first fault
      build : {p : ℕ} {es : Expressions} {us : Values} → HaveValues es us → HasOutcome (x.Build p es) (value (tree (node p us)))
      build_fault : {p operation code : ℕ} {es : Expressions} → HaveFault es operation code → HasOutcome (x.Build p es) (fault operation code)
      call : {name : List ℕ} {operation : ℕ} {es : Expressions} {us : Values} {c : Plain} → HaveValues es us
          → number_of operations.signatures name ≡ Some operation → operations.meaning operation (plains us) ≡ gives c
          → HasOutcome (x.Call name es) (value (plain c))
      call_fails : {name : List ℕ} {operation code : ℕ} {es : Expressions} {us : Values} → HaveValues es us
          → number_of operations.signatures name ≡ Some operation → operations.meaning operation (plains us) ≡ fails code
          → HasOutcome (x.Call name es) (fault operation code)
      call_fault : {name : List ℕ} {operation code : ℕ} {es : Expressions} → HaveFault es operation code
          → HasOutcome (x.Call name es) (fault operation code)
      -- the one branch or the other; or the fault of the condition
      if_holds : {condition holds fails : Expression} {o : Outcome} → HasOutcome condition (value (plain (bool true))) → HasOutcome holds o
          → HasOutcome (x.If condition holds fails) o
      if_fails : {condition holds fails : Expression} {o : Outcome} → HasOutcome condition (value (plain (bool false)))
          → HasOutcome fails o → HasOutcome (x.If condition holds fails) o
      if_fault : {condition holds fails : Expression} {operation code : ℕ} → HasOutcome condition (fault operation code)
          → HasOutcome (x.If condition holds fails) (fault operation code)

    -- the expressions have these values
    pub data HaveValues : Expressions → Values → Type 0 where
      nothing : HaveValues x.none empty
      one_more : {e : Expression} {es : Expressions} {v : Value} {us : Values} → HasOutcome e (value v) → HaveValues es us
          → HaveValues (x.more e es) (more v us)

    -- the first of the expressions that has no value, from left to right, has the fault
    pub data HaveFault : Expressions → ℕ → ℕ → Type 0 where
      at_first : {e : Expression} {es : Expressions} {operation code : ℕ} → HasOutcome e (fault operation code)
          → HaveFault (x.more e es) operation code
      at_later : {e : Expression} {es : Expressions} {v : Value} {operation code : ℕ} → HasOutcome e (value v)
          → HaveFault es operation code → HaveFault (x.more e es) operation code

  mutual
    -- the expression reads the instance, after reads that all have values; parts are read from left to right, and of two branches the one
    -- that the condition says
    pub data Reads : Expression → Instance → Type 0 where
      reads_local : {k : ℕ} → Reads (x.Label (place.Local k)) (tree_at q (local k))
      reads_attribute : {at : Place} {y : ℕ} → Reads (x.Read at y) (synthesized_at (down q (step_to at)) y)
      reads_top : {y : ℕ} → Reads (x.Top y) (inherited_at q y)
      reads_forward : {y : ℕ} → Reads (x.Forward y) (synthesized_at (down q (made forward)) y)
      in_build : {p : ℕ} {es : Expressions} {r : Instance} → OneReads es r → Reads (x.Build p es) r
      in_call : {name : List ℕ} {es : Expressions} {r : Instance} → OneReads es r → Reads (x.Call name es) r
      in_condition : {condition holds fails : Expression} {r : Instance} → Reads condition r → Reads (x.If condition holds fails) r
      in_holds : {condition holds fails : Expression} {r : Instance} → HasOutcome condition (value (plain (bool true))) → Reads holds r
          → Reads (x.If condition holds fails) r
      in_fails : {condition holds fails : Expression} {r : Instance} → HasOutcome condition (value (plain (bool false))) → Reads fails r
          → Reads (x.If condition holds fails) r

    -- so does one of the expressions, and those before it have values
    pub data OneReads : Expressions → Instance → Type 0 where
      in_first : {e : Expression} {es : Expressions} {r : Instance} → Reads e r → OneReads (x.more e es) r
      in_later : {e : Expression} {es : Expressions} {v : Value} {r : Instance} → HasOutcome e (value v) → OneReads es r
          → OneReads (x.more e es) r
