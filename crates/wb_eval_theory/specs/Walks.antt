-- What an instance reads and does with it, step by step: by its equation, or through the forwarded tree.
use Rattle.std.specs.Prelude.{ℕ, true, false, List, [], ◌∷◌, Option, Some, None, position, slice_get}
use Rattle.std.specs.Str.{bytes_eq}
use Rattle.wb_syntax_expressions.specs.Expression as x
use Rattle.wb_operations.specs.Given.{Given}
use Rattle.wb_operations.specs.Given as given
use Rattle.wb_operations.specs.Operations.{OperationSignature, Operations}
use Rattle.wb_values.specs.Tree.{Plain, int, bool, text, Tree, node, Value, plain, tree, Values, empty, more}
use Rattle.wb_values.specs.Tree.{production_of, children_of, value_at}
use Rattle.wb_flow_theory.specs.Vertices.{local, forward, Step, child, made, Vertex, top_synthesized, inherited, tree_of, step_to}
use Rattle.wb_eval_theory.specs.Instances.{Path, root, down, Instance, synthesized_at, inherited_at, tree_at}
use Rattle.wb_eval_theory.specs.Rules.{rule_of}
use Rattle.wb_syntax_resolved.specs.declared.attribution.AttributionParts.{AttributionParts}
use Rattle.wb_syntax_resolved.specs.declared.equation.Place.{Place}
use Rattle.wb_syntax_resolved.specs.declared.equation.Place.TheVariants as place
use Rattle.wb_syntax_resolved.specs.declared.production.Production.{Production}
use Rattle.wb_syntax_resolved.specs.Expression.{Expression, Expressions}

-- what an instance comes to: a value, or the fault of an operation
pub data Outcome : Type 0 where
  value : Value → Outcome
  fault : (operation code : ℕ) → Outcome

-- what an instance does next: it has an outcome, reads an instance and goes on with its value, or finds nothing that defines it
pub data Walk : Type 0 where
  done : Outcome → Walk
  read : Instance → (Value → Walk) → Walk
  missing : Walk

-- the plain ones of some values
abbrev pub plains : Values → List Plain
plains empty = []
plains (more (plain c) vs) = c ∷ plains vs
plains (more (tree t) vs) = plains vs

abbrev pub with_value : Option Value → (Value → Walk) → Walk
with_value None next = missing
with_value (Some v) next = next v

abbrev pub with_tree : Option Value → (Tree → Walk) → Walk
with_tree (Some (tree t)) next = next t
with_tree other next = missing

-- one branch, as the condition says
abbrev pub branch : Value → Walk → Walk → Walk
branch (plain (bool true)) holds fails = holds
branch (plain (bool false)) holds fails = fails
branch other holds fails = missing

-- on with what an operation gives, or its fault
abbrev pub with_given : ℕ → Given → (Value → Walk) → Walk
with_given operation (given.gives c) next = next (plain c)
with_given operation (given.fails code) next = done (fault operation code)

-- the number of the first operation of this name
abbrev pub number_of : List OperationSignature → List ℕ → Option ℕ
number_of signatures name = position (λ s. bytes_eq s.name name) signatures

module _ (operations : Operations) where
  -- on with what the operation of this name gives on the plain ones of some values
  abbrev pub with_call : Option ℕ → Values → (Value → Walk) → Walk
  with_call None vs next = missing
  with_call (Some number) vs next = with_given number (operations.meaning number (plains vs)) next

  -- on with what a label names as a value: a child is there, a local's tree is read
  abbrev pub with_label : Path → Values → Place → (Value → Walk) → Walk
  with_label q vs (place.Child k) next = with_value (value_at vs k) next
  with_label q vs (place.Local k) next = read (tree_at q (local k)) next

  -- on with the text of a child
  abbrev pub with_lexeme : Values → Place → (Value → Walk) → Walk
  with_lexeme vs (place.Child k) next = with_value (value_at vs k) next
  with_lexeme vs (place.Local k) next = missing

  unfoldable mutual
    -- on with the value of an expression at the node of a path, whose children are these; parts are evaluated from left to right
    pub walk_expression : Path → Values → Expression → (Value → Walk) → Walk
    walk_expression q vs (x.Int z) next = next (plain (int z))
    walk_expression q vs (x.Text s) next = next (plain (text s))
    walk_expression q vs (x.Truth b) next = next (plain (bool b))
    walk_expression q vs (x.Label at) next = with_label q vs at next
    walk_expression q vs (x.Read at attribute) next = read (synthesized_at (down q (step_to at)) attribute) next
    walk_expression q vs (x.Lexeme at) next = with_lexeme vs at next
    walk_expression q vs (x.Top attribute) next = read (inherited_at q attribute) next
    walk_expression q vs (x.Forward attribute) next = read (synthesized_at (down q (made forward)) attribute) next
    walk_expression q vs (x.Build production parts) next = walk_expressions q vs parts (λ us. next (tree (node production us)))
    walk_expression q vs (x.Call name parts) next =
        walk_expressions q vs parts (λ us. with_call (number_of operations.signatures name) us next)
    walk_expression q vs (x.If condition holds fails) next =
        walk_expression q vs condition (λ v. branch v (walk_expression q vs holds next) (walk_expression q vs fails next))

    pub walk_expressions : Path → Values → Expressions → (Values → Walk) → Walk
    walk_expressions q vs x.none next = next empty
    walk_expressions q vs (x.more e es) next = walk_expression q vs e (λ v. walk_expressions q vs es (λ us. next (more v us)))

  abbrev pub finish : Value → Walk
  finish v = done (value v)

  -- a synthesized attribute of a node: by its equation, or that of the forwarded tree
  abbrev pub walk_top : Path → Values → ℕ → Option Expression → Option Expression → Walk
  walk_top q vs attribute (Some e) forwards = walk_expression q vs e finish
  walk_top q vs attribute None (Some f) = read (tree_at q forward) (λ t. read (synthesized_at (down q (made forward)) attribute) finish)
  walk_top q vs attribute None None = missing

  -- an inherited attribute one step down from a node: by its equation, or for the forwarded tree that of the node
  abbrev pub walk_below : Path → Values → Step → ℕ → Option Expression → Walk
  walk_below q vs s attribute (Some e) = walk_expression q vs e finish
  walk_below q vs (made forward) attribute None = read (inherited_at q attribute) finish
  walk_below q vs other attribute None = missing

  -- the tree of a local or of the forward
  abbrev pub walk_made : Path → Values → Option Expression → Walk
  walk_made q vs (Some e) = walk_expression q vs e finish
  walk_made q vs None = missing

  module _ (a : AttributionParts) where
    -- the expression by which the production of a tree defines a vertex; one that isn't there defines nothing
    abbrev pub rule_at : Option Production → Vertex → Option Expression
    rule_at None v = None
    rule_at (Some production) v = rule_of production v

    abbrev pub tree_rule : Tree → Vertex → Option Expression
    tree_rule t v = rule_at (slice_get a.productions (production_of t)) v

    abbrev pub walk_synthesized : Path → ℕ → Tree → Walk
    walk_synthesized q attribute t =
        walk_top q (children_of t) attribute (tree_rule t (top_synthesized attribute)) (tree_rule t (tree_of forward))

    -- what an instance reads and does, where this is the tree at its home; a synthesized attribute of a tree that an expression makes
    -- reads that tree first
    unfoldable pub walk_of : Instance → Tree → Walk
    walk_of (synthesized_at root attribute) t = walk_synthesized root attribute t
    walk_of (synthesized_at (down q (child k)) attribute) t =
        with_tree (value_at (children_of t) k) (walk_synthesized (down q (child k)) attribute)
    walk_of (synthesized_at (down q (made k)) attribute) t =
        read (tree_at q k) (λ v. with_tree (Some v) (walk_synthesized (down q (made k)) attribute))
    walk_of (inherited_at root attribute) t = missing
    walk_of (inherited_at (down q s) attribute) t = walk_below q (children_of t) s attribute (tree_rule t (inherited s attribute))
    walk_of (tree_at q k) t = walk_made q (children_of t) (tree_rule t (tree_of k))
