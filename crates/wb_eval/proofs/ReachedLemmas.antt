-- Children of the tree of a site.
use Rattle.std.proofs.Common.{◌≡◌, ◌≢◌, ◌∙◌, ◌<◌, ℕ, List, Option, Some, None, length, slice_get, refl, ap, subst, arith}
use Rattle.std.specs.Prelude.{IfSome, IfNone}
use Rattle.std.proofs.lemmas.Option.{slice_get_within}
use Rattle.wb_flow_theory.specs.Modular.{IsProduction}
use Rattle.wb_syntax_resolved.specs.declared.attribution.AttributionParts.{AttributionParts}
use Rattle.wb_syntax_resolved.specs.declared.production.Production.{Production}
use Rattle.wb_values.specs.declared.value.TreeId.{TreeId}
use Rattle.wb_values.specs.Tree.{Tree, tree, production_of, children_of, value_at}
use Rattle.wb_values.specs.declared.value.Value.{Value}
use Rattle.wb_values.specs.ValuesIn.{tree_in, value_in, IsIn}
use Rattle.wb_eval.specs.Inner.Machines.{HasTree, known}
use Rattle.wb_eval.specs.Inner.Reached.{HasChild, IsTreeChild, IsReady, IsGivenTree}
use Rattle.wb_eval.specs.Inner.Starts.{HasProduction}
use Rattle.wb_eval.specs.Inner.Works.{HasChildAt, IsChildPushed, IsPushed, IsReading}
use Rattle.wb_eval.specs.declared.machine.Key.{Key}
use Rattle.wb_eval.specs.declared.machine.Machine.{Machine}
use Rattle.wb_eval_memo.specs.declared.memo.Memo.{Memo}
use Rattle.wb_eval_memo.specs.declared.sites.Step.TheVariants as step

-- a site has one tree
pub one_tree : (m : Memo) (site : ℕ) (id other : TreeId) → HasTree m site id → HasTree m site other → id ≡ other
one_tree m site id other first second = cc (first, second)

-- the tree that was found has the child
pub child_here : (trees : List Tree) (m : Machine) (site k : ℕ) → HasChildAt trees m site k → (found : TreeId) → HasTree m.memo site found
    → (found.0 < length trees) × HasChild trees found k
child_here trees m site k (id, has, inside, child) found has_found =
    let same = one_tree m.memo site id found has has_found in
    (subst (λ (i : TreeId). i.0 < length trees) same inside, subst (λ (i : TreeId). HasChild trees i k) same child)

-- it has the tree to which a step is
pub ready_child : (trees : List Tree) (m : Memo) (site k : ℕ) → IsReady trees m site (step.Child k) → (found : TreeId)
    → HasTree m site found
    → (found.0 < length trees) × IsTreeChild trees found k
ready_child trees m site k (id, has, inside, child) found has_found =
    let same = one_tree m site id found has has_found in
    (subst (λ (i : TreeId). i.0 < length trees) same inside, subst (λ (i : TreeId). IsTreeChild trees i k) same child)

-- which is given to the site
pub child_given : (trees : List Tree) (m : Memo) (site k : ℕ) (id : TreeId) → HasTree m site id → id.0 < length trees
    → IsTreeChild trees id k → (r : Option TreeId)
    → IfSome r (λ (child : TreeId). value_at (children_of (tree_in trees id.0)) k ≡ Some (tree (tree_in trees child.0)))
    → IfSome r (λ (child : TreeId). child.0 < id.0)
    → IfNone r ((u : Tree) → value_at (children_of (tree_in trees id.0)) k ≢ Some (tree u))
    → IsGivenTree trees m site (step.Child k) r
child_given trees m site k id has inside child (Some found) is below none =
    (id, found, has, record { inside = omega (arith, inside, below); is = is }, refl)
child_given trees m site k id has inside (u, is) None some below none = absurd (none u is)

-- it is of a production
pub production_here : (a : AttributionParts) (trees : List Tree) (m : Machine) (site : ℕ) → HasProduction a trees m site
    → (found : TreeId) → HasTree m.memo site found
    → (found.0 < length trees) × ((p : Production) × IsProduction a (production_of (tree_in trees found.0)) p)
production_here a trees m site (id, has, inside, (p, is)) found has_found =
    let same = one_tree m.memo site id found has has_found in (
      subst (λ (i : TreeId). i.0 < length trees) same inside,
      (p, subst (λ (i : TreeId). IsProduction a (production_of (tree_in trees i.0)) p) same is),
    )

-- whose number is within
pub number_within : (a : AttributionParts) (trees : List Tree) (m : Machine) (site : ℕ) → HasProduction a trees m site
    → (found : TreeId) → HasTree m.memo site found → (n : ℕ) → n ≡ production_of (tree_in trees found.0) → n < length a.productions
number_within a trees m site has found has_found n is =
    let (p, at) = (production_here a trees m site has found has_found).1 in
    slice_get_within a.productions n p (ap (slice_get a.productions) is ∙ at)

-- a value that was pushed is what was read, or that of a child
pub read_pushed : (m : Machine) (old new : List Value) (k : Key) (w : Value) → known m.memo k ≡ Some w → (r : Option Key)
    → IsPushed old new w r → IsReading m old new k r
read_pushed m old new k w is None it = (w, is, it)
read_pushed m old new k w is (Some other) pushed = absurd pushed

pub child_pushed : (trees : List Tree) (m : Machine) (old new : List Value) (site k : ℕ) (id : TreeId) (w : Value) → HasTree m.memo site id
    → value_at (children_of (tree_in trees id.0)) k ≡ Some (value_in trees w) → IsIn (length trees) w → (r : Option Key)
    → IsPushed old new w r → IsChildPushed trees m old new site k r
child_pushed trees m old new site k id w has is inside None it = (id, w, has, is, inside, it)
child_pushed trees m old new site k id w has is inside (Some other) pushed = absurd pushed
