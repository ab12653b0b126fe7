-- What an instance answers and reads, case by case.
use Rattle.std.specs.Prelude.{◌≡◌, ◌≢◌, ◌↔◌, ◌⊎◌, ℕ, Some, None}
use Rattle.wb_flow_theory.specs.Vertices.{Made, forward, Step, child, made, top_synthesized, inherited, tree_of}
use Rattle.wb_operations.specs.Operations.{Operations}
use Rattle.wb_values.specs.Tree.{Tree, Value, children_of, value_at}
use Rattle.wb_values.specs.Tree as values
use Rattle.wb_eval_theory.specs.Answers.{IsNodeAt, HasAnswer}
use Rattle.wb_eval_theory.specs.Instances.{Path, root, down, Instance, synthesized_at, inherited_at, tree_at, home}
use Rattle.wb_eval_theory.specs.Needed.{ReadsNext}
use Rattle.wb_eval_theory.specs.Outcomes.{HasOutcome, Reads}
use Rattle.wb_eval_theory.specs.Walks.{Outcome, value, fault, tree_rule}
use Rattle.wb_syntax_resolved.specs.declared.attribution.AttributionParts.{AttributionParts}
use Rattle.wb_syntax_resolved.specs.Expression.{Expression}

module _ (a : AttributionParts) (operations : Operations) (top : Tree) where
  -- the tree that is read before a synthesized attribute of the node of a path: where the path ends in a local or forward, its tree
  abbrev pub ReadsTree : Path → Instance → Type 0
  ReadsTree (down q (made k)) r = r ≡ tree_at q k
  ReadsTree other r = ⊥

  -- an answer by an expression at the node of a path: the outcome of the expression
  abbrev pub IsByExpression : Instance → Path → Tree → Expression → Type 0
  IsByExpression i q t e = (o : Outcome) → HasAnswer a operations top i o ↔ HasOutcome a operations top q (children_of t) e o

  -- it reads what the expression reads
  abbrev pub ReadsByExpression : Instance → Path → Tree → Expression → Type 0
  ReadsByExpression i q t e = (r : Instance) → ReadsNext a operations top i r ↔ Reads a operations top q (children_of t) e r

  -- a synthesized attribute of a node whose production has an equation for it
  pub record IsByEquation (q : Path) (y : ℕ) : Type 0 where
    pub answer : (t : Tree) (e : Expression) → IsNodeAt a operations top q t → tree_rule operations a t (top_synthesized y) ≡ Some e
        → IsByExpression (synthesized_at q y) q t e
    pub reads : (t : Tree) (e : Expression) (r : Instance) → IsNodeAt a operations top q t
        → tree_rule operations a t (top_synthesized y) ≡ Some e
        → ReadsNext a operations top (synthesized_at q y) r ↔ (ReadsTree q r ⊎ Reads a operations top q (children_of t) e r)

  -- one whose production has none and forwards: that of the forwarded tree, which is read first
  pub record IsByForward (q : Path) (y : ℕ) : Type 0 where
    pub answer : (t : Tree) (f : Expression) (o : Outcome) → IsNodeAt a operations top q t
        → tree_rule operations a t (top_synthesized y) ≡ None → tree_rule operations a t (tree_of forward) ≡ Some f
        → HasAnswer a operations top (synthesized_at q y) o ↔ HasAnswer a operations top (synthesized_at (down q (made forward)) y) o
    pub reads : (t : Tree) (f : Expression) (r : Instance) → IsNodeAt a operations top q t
        → tree_rule operations a t (top_synthesized y) ≡ None → tree_rule operations a t (tree_of forward) ≡ Some f
        → ReadsNext a operations top (synthesized_at q y) r ↔ (ReadsTree q r ⊎ ((r ≡ tree_at q forward)
        ⊎ ((v : Value) × HasAnswer a operations top (tree_at q forward) (value v) × (r ≡ synthesized_at (down q (made forward)) y))))

  -- one at a path that ends in a local or forward: its tree is read before all else, and a fault of it is the answer
  pub record IsAfterTree (q : Path) (k : Made) (y : ℕ) : Type 0 where
    pub reads : (t : Tree) → IsNodeAt a operations top q t → ReadsNext a operations top (synthesized_at (down q (made k)) y) (tree_at q k)
    pub answer : (operation code : ℕ) → HasAnswer a operations top (tree_at q k) (fault operation code)
        → HasAnswer a operations top (synthesized_at (down q (made k)) y) (fault operation code)
    pub node : (o : Outcome) → HasAnswer a operations top (synthesized_at (down q (made k)) y) o
        → HasAnswer a operations top (tree_at q k) o ⊎ ((u : Tree) × IsNodeAt a operations top (down q (made k)) u)

  -- an inherited attribute: by the equation of the production one step up; of a forwarded tree without one, that of the node above
  pub record IsInherited (q : Path) (b : Step) (y : ℕ) : Type 0 where
    pub answer : (t : Tree) (e : Expression) → IsNodeAt a operations top q t → tree_rule operations a t (inherited b y) ≡ Some e
        → IsByExpression (inherited_at (down q b) y) q t e
    pub reads : (t : Tree) (e : Expression) → IsNodeAt a operations top q t → tree_rule operations a t (inherited b y) ≡ Some e
        → ReadsByExpression (inherited_at (down q b) y) q t e
    pub copied : (t : Tree) (o : Outcome) → IsNodeAt a operations top q t → tree_rule operations a t (inherited b y) ≡ None
        → b ≡ made forward → HasAnswer a operations top (inherited_at (down q b) y) o ↔ HasAnswer a operations top (inherited_at q y) o
    pub copy_reads : (t : Tree) (r : Instance) → IsNodeAt a operations top q t → tree_rule operations a t (inherited b y) ≡ None
        → b ≡ made forward → ReadsNext a operations top (inherited_at (down q b) y) r ↔ (r ≡ inherited_at q y)

  -- the tree of a local or forward: by its expression
  pub record IsTree (q : Path) (k : Made) : Type 0 where
    pub answer : (t : Tree) (e : Expression) → IsNodeAt a operations top q t → tree_rule operations a t (tree_of k) ≡ Some e
        → IsByExpression (tree_at q k) q t e
    pub reads : (t : Tree) (e : Expression) → IsNodeAt a operations top q t → tree_rule operations a t (tree_of k) ≡ Some e
        → ReadsByExpression (tree_at q k) q t e

  -- what nothing defines has no answer
  pub record AreUndefined : Type 0 where
    -- a synthesized attribute of a node whose production neither has an equation for it nor forwards, and one of a child that is no tree
    pub synthesized : (q : Path) (y : ℕ) (t : Tree) (o : Outcome) → IsNodeAt a operations top q t
        → tree_rule operations a t (top_synthesized y) ≡ None → tree_rule operations a t (tree_of forward) ≡ None
        → ¬ HasAnswer a operations top (synthesized_at q y) o
    pub of_plain_child : (q : Path) (k y : ℕ) (t : Tree) (o : Outcome) → IsNodeAt a operations top q t
        → ((u : Tree) → value_at (children_of t) k ≢ Some (values.tree u)) → ¬ HasAnswer a operations top (synthesized_at (down q (child k)) y) o
    -- an inherited attribute of the root, and one of a child or local for which the production one step up has no equation
    pub of_root : (y : ℕ) (o : Outcome) → ¬ HasAnswer a operations top (inherited_at root y) o
    pub inherited_one : (q : Path) (b : Step) (y : ℕ) (t : Tree) (o : Outcome) → IsNodeAt a operations top q t
        → tree_rule operations a t (inherited b y) ≡ None → b ≢ made forward → ¬ HasAnswer a operations top (inherited_at (down q b) y) o
    -- the tree of a local or forward that the production doesn't have
    pub made_tree : (q : Path) (k : Made) (t : Tree) (o : Outcome) → IsNodeAt a operations top q t → tree_rule operations a t (tree_of k) ≡ None
        → ¬ HasAnswer a operations top (tree_at q k) o
    -- whatever has no node at its home
    pub nowhere : (i : Instance) (o : Outcome) → ((t : Tree) → ¬ IsNodeAt a operations top (home i) t) → ¬ HasAnswer a operations top i o

  -- the cases of an answer
  pub record HasCases : Type 0 where
    pub by_equation : (q : Path) (y : ℕ) → IsByEquation q y
    pub by_forward : (q : Path) (y : ℕ) → IsByForward q y
    pub after_tree : (q : Path) (k : Made) (y : ℕ) → IsAfterTree q k y
    pub inherits : (q : Path) (b : Step) (y : ℕ) → IsInherited q b y
    pub tree : (q : Path) (k : Made) → IsTree q k
    pub undefined_ones : AreUndefined
