-- What visits come to: a value that was pushed, or an instance that is read.
use Rattle.std.proofs.Common.{◌≡◌, ◌∙◌, ◌++◌, inl, inr, ℕ, ℤ, Bool, List, [], ◌∷◌, Option, Some, None, length, refl, sym, ap, subst, ◌⊎◌}
use Rattle.wb_flow_theory.specs.Vertices.{local, step_to}
use Rattle.wb_syntax_expressions.specs.Expression as x
use Rattle.wb_operations.specs.Operations.{Operations}
use Rattle.wb_syntax_resolved.specs.declared.attribution.AttributionParts.{AttributionParts}
use Rattle.wb_syntax_resolved.specs.declared.equation.Place.{Place}
use Rattle.wb_syntax_resolved.specs.declared.equation.Place.TheVariants as place
use Rattle.wb_syntax_resolved.specs.Expression.{Expression}
use Rattle.wb_values.specs.declared.value.TreeId.{TreeId}
use Rattle.wb_values.specs.declared.value.Value.{Value}
use Rattle.wb_values.specs.declared.value.Value.TheVariants as stored
use Rattle.wb_values.specs.Tree.{Tree, children_of, value_at}
use Rattle.wb_values.specs.Tree as t
use Rattle.wb_values.specs.ValuesIn.{tree_in, value_in, IsIn}
use Rattle.wb_eval_rules.specs.Code.{visit, Way, Instruction, does, job_of}
use Rattle.wb_eval_rules.specs.declared.code.Task.{Task}
use Rattle.wb_eval_rules.specs.declared.code.Task.TheVariants as task
use Rattle.wb_eval_theory.specs.Instances.{Path, down, synthesized_at}
use Rattle.wb_eval_theory.specs.Walks.{Walk, read, with_value, walk_expression}
use Rattle.wb_eval.proofs.BelowLemmas.{ready, grown}
use Rattle.wb_eval.proofs.MachineLemmas.{never_missed}
use Rattle.wb_eval.proofs.SteadyLemmas.{same_memo, same_machine}
use Rattle.wb_eval.proofs.VisitLemmas.{IsVisiting, visiting_of, at_once, read_known, read_new}
use Rattle.wb_eval.specs.Inner.Fits.{stack_of}
use Rattle.wb_eval.specs.Inner.Going.{go, resume}
use Rattle.wb_eval.specs.Inner.Machines.{tree_named, named, IsKey, Runs, IsSteady}
use Rattle.wb_eval.specs.Inner.Reached.{HasChild, IsReady}
use Rattle.wb_eval.specs.Inner.Works.{IsEvaluating, IsGoing, Parks, HasVisited, IsPushed, IsReading, IsReadBelow, HasChildAt, IsChildPushed}
use Rattle.wb_eval.specs.Inner.Works.{HasLabel, IsLabelVisited, way_to}
use Rattle.wb_eval.specs.declared.machine.Key.{Key}
use Rattle.wb_eval.specs.declared.machine.Key.TheVariants as key
use Rattle.wb_eval.specs.declared.machine.Machine.{Machine}
use Rattle.wb_eval_memo.specs.Memos.{path_in}
use Rattle.wb_eval_memo.specs.Sites.{step_of}
use Rattle.wb_eval_memo.specs.declared.sites.Step.{Step}
use Rattle.wb_eval_memo.specs.declared.sites.Step.TheVariants as step

way_is : (at : Place) → step_of (way_to at) ≡ step_to at
way_is (place.Child k) = refl
way_is (place.Local y) = refl

module _ (a : AttributionParts) (operations : Operations) (trees : List Tree) (m : Machine) (site : ℕ) (way : Way)
    (code : List Instruction) (old new : List Value) where
  -- a visit of an expression is next
  abbrev pub Next : Expression → Type 0
  Next e = IsEvaluating a operations trees m site (does (visit e) way ∷ code) old

  -- what it has come to
  abbrev pub Visited : Expression → Machine → Option Key → Type 0
  Visited e after r = HasVisited a operations trees m after site (does (visit e) way) way code new r

  abbrev View : Expression → Machine → Type 0
  View e after = IsVisiting a operations trees after site way code old e

  abbrev q : Path
  q = path_in m.memo site

  view : (e : Expression) → Next e → View e m
  view e ev = visiting_of a operations trees m site way code old e ev

  -- a value was pushed
  pushed : (after : Machine) (w : Value) → IsGoing a operations trees after site way code (old ++ w ∷ []) → new ≡ old ++ w ∷ []
      → IsSteady m after → IsSteady m after × IsGoing a operations trees after site way code new
  pushed after w it is same = (same, subst (IsGoing a operations trees after site way code) (sym is) it)

  -- of an expression that has its value at once
  once : (e : Expression) (w : Value) (v : View e m)
      → ((rest : t.Value → Walk) → walk_expression operations q (children_of (tree_in trees v.id.0)) e rest ≡ rest (value_in trees w))
      → IsIn (length trees) w → (r : Option Key) → IsPushed old new w r → Visited e m r
  once e w v is inside None it =
      pushed m w (at_once a operations trees m site way code old e v w is inside) it (same_machine m)
  once e w v is inside (Some k) never = absurd never

  pub int_visited : (z : ℤ) → Next (x.Int z) → (r : Option Key) → IsPushed old new (stored.Int z) r → Visited (x.Int z) m r
  unfolding walk_expression
  int_visited z ev r it = once (x.Int z) (stored.Int z) (view (x.Int z) ev) (λ rest. refl) tt r it

  pub text_visited : (z : List ℕ) → Next (x.Text z) → (r : Option Key) → IsPushed old new (stored.Text z) r → Visited (x.Text z) m r
  unfolding walk_expression
  text_visited z ev r it = once (x.Text z) (stored.Text z) (view (x.Text z) ev) (λ rest. refl) tt r it

  pub truth_visited : (z : Bool) → Next (x.Truth z) → (r : Option Key) → IsPushed old new (stored.Bool z) r → Visited (x.Truth z) m r
  unfolding walk_expression
  truth_visited z ev r it = once (x.Truth z) (stored.Bool z) (view (x.Truth z) ev) (λ rest. refl) tt r it

  -- an instance is read, at a machine whose memo may have grown
  read_done : (after : Machine) (e : Expression) (v : View e after) (k : Key) → IsKey after.memo k
      → ((rest : t.Value → Walk) → walk_expression operations (path_in after.memo site) (children_of (tree_in trees v.id.0)) e rest ≡ read
      (named after.memo k) rest)
      → (r : Option Key) → IsReading after old new k r → IsSteady m after → Visited e after r
  read_done after e v k is_key is None (w, has, it) same =
      pushed after w (read_known a operations trees after site way code old e v k is_key is w has) it same
  read_done after e v k is_key is (Some other) (key_is, none, it) same = (
    same,
    subst (Parks a operations trees after site (does (visit e) way ∷ code) new) (sym key_is)
        (subst (λ vs. Parks a operations trees after site (does (visit e) way ∷ code) vs k) (sym it)
        (read_new a operations trees after site way code old e v k is_key is none)),
  )

  pub top_visited : (y : ℕ) → Next (x.Top y) → (r : Option Key) → IsReading m old new (key.Inherited site y) r → Visited (x.Top y) m r
  unfolding walk_expression
  top_visited y ev r reading =
      read_done m (x.Top y) (view (x.Top y) ev) (key.Inherited site y) ev.there (λ rest. refl) r reading (same_machine m)

  -- one step down
  module _ (e : Expression) (ev : Next e) (after : Machine) (down_by : Step) (r : Option Key) (key_at : ℕ → Key)
      (it : IsReadBelow trees m after site down_by key_at old new r) where
    pub view_after : View e after
    view_after = subst (View e) (sym it.machine)
        (grown a operations trees m site way code old e (view e ev) after.memo down_by it.below it.whole it.grown it.reached)

    pub path_below : path_in after.memo it.below ≡ down (path_in after.memo site) (step_of down_by)
    path_below = it.reached.2.path ∙ ap (λ (p : Path). down p (step_of down_by)) (sym (it.grown.paths site ev.there))

  pub read_ready : (at : Place) (y : ℕ) → Next (x.Read at y) → IsReady trees m.memo site (way_to at)
  unfolding walk_expression
  read_ready at y ev =
      ready a operations trees m site way code old (x.Read at y) (view (x.Read at y) ev) (way_to at) y
      (λ rest. ap (λ s. read (synthesized_at (down q s) y) rest) (sym (way_is at)))

  pub below_visited : (at : Place) (y : ℕ) → Next (x.Read at y) → (after : Machine) (r : Option Key)
      → IsReadBelow trees m after site (way_to at) (λ below. key.Synthesized below y) old new r → Visited (x.Read at y) after r
  unfolding walk_expression
  below_visited at y ev after r it =
      read_done after (x.Read at y) (view_after (x.Read at y) ev after (way_to at) r _ it) (key.Synthesized it.below y)
      it.reached.2.there
      (λ rest. ap (λ s. read (synthesized_at (down (path_in after.memo site) s) y) rest) (sym (way_is at))
      ∙ ap (λ (p : Path). read (synthesized_at p y) rest) (sym (path_below (x.Read at y) ev after (way_to at) r _ it)))
      r it.reading (same_memo m after it.machine)

  pub forward_visited : (y : ℕ) → Next (x.Forward y) → (after : Machine) (r : Option Key)
      → IsReadBelow trees m after site step.Forward (λ below. key.Synthesized below y) old new r → Visited (x.Forward y) after r
  unfolding walk_expression
  forward_visited y ev after r it =
      read_done after (x.Forward y) (view_after (x.Forward y) ev after step.Forward r _ it) (key.Synthesized it.below y)
      it.reached.2.there
      (λ rest. ap (λ (p : Path). read (synthesized_at p y) rest) (sym (path_below (x.Forward y) ev after step.Forward r _ it)))
      r it.reading (same_memo m after it.machine)

  local_visited : (c : ℕ) → Next (x.Label (place.Local c)) → (after : Machine) (r : Option Key)
      → IsReadBelow trees m after site (step.Local c) (λ below. key.Tree below) old new r → Visited (x.Label (place.Local c)) after r
  unfolding walk_expression
  local_visited c ev after r it =
      let path = path_below (x.Label (place.Local c)) ev after (step.Local c) r _ it in
      read_done after (x.Label (place.Local c)) (view_after (x.Label (place.Local c)) ev after (step.Local c) r _ it) (key.Tree it.below)
      (it.reached.2.there, (path_in after.memo site, local c, path))
      (λ rest. ap (λ (p : Path). read (tree_named p) rest) (sym path))
      r it.reading (same_memo m after it.machine)

  -- a child as a value
  child_there : (k : ℕ) (e : Expression) (v : View e m)
      → ((rest : t.Value → Walk) → walk_expression operations q (children_of (tree_in trees v.id.0)) e rest ≡ with_value
      (value_at (children_of (tree_in trees v.id.0)) k) rest)
      → HasChildAt trees m site k
  child_there k e v is =
      (v.id, v.has, (v.runs.machine.memo.nodes site v.id v.has).inside, by_value (value_at (children_of (tree_in trees v.id.0)) k) refl)
    where
      by_value : (o : Option t.Value) → value_at (children_of (tree_in trees v.id.0)) k ≡ o → HasChild trees v.id k
      by_value (Some w) there = (w, there)
      by_value None there =
          let rest : t.Value → Walk =
          λ w. go (resume operations q (children_of (tree_in trees v.id.0)) code) way w (stack_of trees v.own) in
          let runs = subst (Runs a operations trees v.under m) (is rest ∙ ap (λ (o : Option t.Value). with_value o rest) there) v.runs in
          absurd (never_missed a operations runs.machine.top m.attribute runs.machine.evaluable runs.machine.asked runs.machine.state
          runs.come)

  child_done : (k : ℕ) (e : Expression) (v : View e m)
      → ((rest : t.Value → Walk) → walk_expression operations q (children_of (tree_in trees v.id.0)) e rest ≡ with_value
      (value_at (children_of (tree_in trees v.id.0)) k) rest)
      → (r : Option Key) → IsChildPushed trees m old new site k r → Visited e m r
  child_done k e v is None (id, w, has, value, inside, it) =
      let same_id : v.id ≡ id = cc (v.has, has) in
      let there = subst (λ (i : TreeId). value_at (children_of (tree_in trees i.0)) k ≡ Some (value_in trees w)) (sym same_id) value in
      once e w v (λ rest. is rest ∙ ap (λ (o : Option t.Value). with_value o rest) there) inside None it
  child_done k e v is (Some other) never = absurd never

  pub label_there : (p : Place) → Next (x.Label p) → HasLabel trees m site p
  unfolding walk_expression
  label_there (place.Child k) ev = child_there k (x.Label (place.Child k)) (view (x.Label (place.Child k)) ev) (λ rest. refl)
  label_there (place.Local y) ev = tt

  pub lexeme_there : (p : Place) → Next (x.Lexeme p) → HasLabel trees m site p
  unfolding walk_expression
  lexeme_there (place.Child k) ev = child_there k (x.Lexeme (place.Child k)) (view (x.Lexeme (place.Child k)) ev) (λ rest. refl)
  lexeme_there (place.Local y) ev = tt

  pub label_visited : (p : Place) → Next (x.Label p) → (after : Machine) (r : Option Key)
      → IsLabelVisited trees m after site p old new r → Visited (x.Label p) after r
  unfolding walk_expression
  label_visited (place.Child k) ev after r (same, it) =
      subst (λ (z : Machine). Visited (x.Label (place.Child k)) z r) (sym same)
      (child_done k (x.Label (place.Child k)) (view (x.Label (place.Child k)) ev) (λ rest. refl) r it)
  label_visited (place.Local y) ev after r it = local_visited y ev after r it

  pub lexeme_visited : (p : Place) → Next (x.Lexeme p) → (after : Machine) (r : Option Key)
      → IsLabelVisited trees m after site p old new r → Visited (x.Lexeme p) after r
  unfolding walk_expression
  lexeme_visited (place.Child k) ev after r (same, it) =
      subst (λ (z : Machine). Visited (x.Lexeme (place.Child k)) z r) (sym same)
      (child_done k (x.Lexeme (place.Child k)) (view (x.Lexeme (place.Child k)) ev) (λ rest. refl) r it)
  lexeme_visited (place.Local y) ev after r it =
      let v = view (x.Lexeme (place.Local y)) ev in
      absurd (never_missed a operations v.runs.machine.top m.attribute v.runs.machine.evaluable v.runs.machine.asked v.runs.machine.state
      v.runs.come)

-- an instruction in the form that was matched
module _ (a : AttributionParts) (operations : Operations) (trees : List Tree) (m : Machine) (site : ℕ) (way : Way)
    (code : List Instruction) (old : List Value) (t u : Task) (is : t ≡ u) where
  pub in_form : IsEvaluating a operations trees m site (does (job_of t) way ∷ code) old
      → IsEvaluating a operations trees m site (does (job_of u) way ∷ code) old
  in_form ev = subst (λ (z : Task). IsEvaluating a operations trees m site (does (job_of z) way ∷ code) old) is ev

  pub from_form : (new : List Value) (after : Machine) (r : Option Key)
      → HasVisited a operations trees m after site (does (job_of u) way) way code new r
      → HasVisited a operations trees m after site (does (job_of t) way) way code new r
  from_form new after r it = subst (λ (z : Task). HasVisited a operations trees m after site (does (job_of z) way) way code new r)
      (sym is) it

-- a label of a child or local, or the text of a child
module _ (a : AttributionParts) (operations : Operations) (trees : List Tree) (m : Machine) (site : ℕ) (way : Way)
    (code : List Instruction) (old : List Value) (t : Task) (p : Place) where
  pub place_there : (t ≡ task.Label p) ⊎ (t ≡ task.Lexeme p) → IsEvaluating a operations trees m site (does (job_of t) way ∷ code) old
      → HasLabel trees m site p
  place_there (inl is) ev = label_there a operations trees m site way code old old p
      (in_form a operations trees m site way code old t (task.Label p) is ev)
  place_there (inr is) ev = lexeme_there a operations trees m site way code old old p
      (in_form a operations trees m site way code old t (task.Lexeme p) is ev)

  pub place_visited : (t ≡ task.Label p) ⊎ (t ≡ task.Lexeme p) → IsEvaluating a operations trees m site (does (job_of t) way ∷ code) old
      → (new : List Value) (after : Machine) (r : Option Key) → IsLabelVisited trees m after site p old new r
      → HasVisited a operations trees m after site (does (job_of t) way) way code new r
  place_visited (inl is) ev new after r it =
      from_form a operations trees m site way code old t (task.Label p) is new after r
      (label_visited a operations trees m site way code old new p
      (in_form a operations trees m site way code old t (task.Label p) is ev) after r it)
  place_visited (inr is) ev new after r it =
      from_form a operations trees m site way code old t (task.Lexeme p) is new after r
      (lexeme_visited a operations trees m site way code old new p
      (in_form a operations trees m site way code old t (task.Lexeme p) is ev) after r it)
