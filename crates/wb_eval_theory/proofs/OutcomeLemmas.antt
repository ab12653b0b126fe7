-- The walk of an expression ends with its outcome, and comes to what it reads.
use Rattle.std.proofs.Common.{◌≡◌, ◌⊎◌, inl, inr, ℕ, List, Option, Some, None, refl, sym, subst}
use Rattle.std.specs.Prelude.{true, false}
use Rattle.wb_flow_theory.specs.Vertices.{local, forward, made, step_to}
use Rattle.wb_syntax_expressions.specs.Expression as x
use Rattle.wb_operations.specs.Given.{Given}
use Rattle.wb_operations.specs.Given as given
use Rattle.wb_operations.specs.Operations.{Operations}
use Rattle.wb_syntax_resolved.specs.declared.attribution.AttributionParts.{AttributionParts}
use Rattle.wb_syntax_resolved.specs.declared.equation.Place.TheVariants as place
use Rattle.wb_syntax_resolved.specs.Expression.{Expression, Expressions}
use Rattle.wb_values.specs.Tree.{int, bool, text, Tree, node, Value, plain, tree, Values, empty, more, value_at}
use Rattle.wb_eval_theory.specs.Answers.{HasAnswer, Ends, at_done, at_value, at_fault}
use Rattle.wb_eval_theory.specs.Instances.{Path, down, Instance, synthesized_at, inherited_at, tree_at}
use Rattle.wb_eval_theory.specs.Needed.{Comes, here, after}
use Rattle.wb_eval_theory.specs.Outcomes.{HasOutcome, HaveValues, HaveFault, Reads, OneReads}
use Rattle.wb_eval_theory.specs.Outcomes as out
use Rattle.wb_eval_theory.specs.Walks.{Outcome, value, fault, Walk, done, read, missing, plains, with_value, branch, with_given, with_call}
use Rattle.wb_eval_theory.specs.Walks.{number_of, walk_expression, walk_expressions, finish}

module _ (a : AttributionParts) (operations : Operations) (top : Tree) where
  abbrev pub EndsAt : Walk → Outcome → Type 0
  EndsAt = Ends a operations top

  abbrev pub ComesAt : Walk → Walk → Type 0
  ComesAt = Comes a operations top

  abbrev pub Is : Instance → Outcome → Type 0
  Is = HasAnswer a operations top

  -- the outcome is a fault that something has
  abbrev pub Stops : (Outcome → Type 0) → Outcome → Type 0
  Stops Has o = (operation : ℕ) × (code : ℕ) × Has (fault operation code) × (o ≡ fault operation code)

  -- a walk from a read ends by its value, or by its fault
  pub read_ends : {r : Instance} {next : Value → Walk} {o : Outcome} → EndsAt (read r next) o
      → ((v : Value) × Is r (value v) × EndsAt (next v) o) ⊎ Stops (Is r) o
  read_ends (at_value {v = v} has e) = inl (v, has, e)
  read_ends (at_fault {operation = operation} {code = code} has) = inr (operation, code, has, refl)

  pub done_ends : {o p : Outcome} → EndsAt (done o) p → o ≡ p
  done_ends at_done = refl

  pub missing_ends : {o : Outcome} → EndsAt missing o → ⊥
  missing_ends e = elim e [ ]

  -- a walk comes to a read at once, or after a value
  pub read_comes : {r i : Instance} {next rest : Value → Walk} → ComesAt (read r next) (read i rest)
      → (i ≡ r) ⊎ ((v : Value) × Is r (value v) × ComesAt (next v) (read i rest))
  read_comes here = inl refl
  read_comes (after {v = v} has c) = inr (v, has, c)

  pub done_comes : {o : Outcome} {i : Instance} {rest : Value → Walk} → ComesAt (done o) (read i rest) → ⊥
  done_comes c = elim c [ ]

  pub missing_comes : {i : Instance} {rest : Value → Walk} → ComesAt missing (read i rest) → ⊥
  missing_comes c = elim c [ ]

  module _ (q : Path) (vs : Values) where
    abbrev walk : Expression → (Value → Walk) → Walk
    walk e next = walk_expression operations q vs e next

    abbrev walks : Expressions → (Values → Walk) → Walk
    walks es next = walk_expressions operations q vs es next

    abbrev Out : Expression → Outcome → Type 0
    Out = HasOutcome a operations top q vs

    abbrev Outs : Expressions → Values → Type 0
    Outs = HaveValues a operations top q vs

    abbrev ReadsAt : Expression → Instance → Type 0
    ReadsAt = Reads a operations top q vs

    abbrev OneReadsAt : Expressions → Instance → Type 0
    OneReadsAt = OneReads a operations top q vs

    abbrev EndsBy : Expression → (Value → Walk) → Outcome → Type 0
    EndsBy e next o = ((v : Value) × Out e (value v) × EndsAt (next v) o) ⊎ Stops (Out e) o

    abbrev EndsByAll : Expressions → (Values → Walk) → Outcome → Type 0
    EndsByAll es next o =
        ((us : Values) × Outs es us × EndsAt (next us) o)
        ⊎ ((operation : ℕ) × (code : ℕ) × HaveFault a operations top q vs es operation code × (o ≡ fault operation code))

    -- what is there has an outcome
    with_value_ends : (e : Expression) (w : Option Value) (next : Value → Walk) (o : Outcome)
        → ((v : Value) → w ≡ Some v → Out e (value v)) → EndsAt (with_value w next) o → EndsBy e next o
    with_value_ends e None next o has d = absurd (missing_ends d)
    with_value_ends e (Some v) next o has d = inl (v, has v refl, d)

    by_read : (e : Expression) (r : Instance) (next : Value → Walk) (o : Outcome) → ((p : Outcome) → Is r p → Out e p)
        → EndsAt (read r next) o → EndsBy e next o
    by_read e r next o has d = elim (read_ends d) [
      | inl z ↦ inl (z.0, has (value z.0) z.1, z.2)
      | inr z ↦ inr (z.0, z.1, has (fault z.0 z.1) z.2, z.3)
    ]

    given_ends : (name : List ℕ) (es : Expressions) (us : Values) (number : ℕ) (next : Value → Walk) (o : Outcome) → Outs es us
        → number_of operations.signatures name ≡ Some number → (g : Given) → operations.meaning number (plains us) ≡ g
        → EndsAt (with_given number g next) o → EndsBy (x.Call name es) next o
    given_ends name es us number next o have found (given.gives c) means d = inl (plain c, out.call have found means, d)
    given_ends name es us number next o have found (given.fails code) means d =
        inr (number, code, out.call_fails have found means, sym (done_ends d))

    call_ends : (name : List ℕ) (es : Expressions) (us : Values) (next : Value → Walk) (o : Outcome) → Outs es us → (n : Option ℕ)
        → number_of operations.signatures name ≡ n → EndsAt (with_call operations n us next) o → EndsBy (x.Call name es) next o
    call_ends name es us next o have None found d = absurd (missing_ends d)
    call_ends name es us next o have (Some number) found d =
        given_ends name es us number next o have found (operations.meaning number (plains us)) refl d

    if_ends : (c h f : Expression) (next : Value → Walk) (o : Outcome) (v : Value) → Out c (value v)
        → (EndsAt (walk h next) o → EndsBy h next o) → (EndsAt (walk f next) o → EndsBy f next o)
        → EndsAt (branch v (walk h next) (walk f next)) o → EndsBy (x.If c h f) next o
    if_ends c h f next o (plain (bool true)) has holds fails d = elim (holds d) [
      | inl z ↦ inl (z.0, out.if_holds has z.1, z.2)
      | inr z ↦ inr (z.0, z.1, out.if_holds has z.2, z.3)
    ]
    if_ends c h f next o (plain (bool false)) has holds fails d = elim (fails d) [
      | inl z ↦ inl (z.0, out.if_fails has z.1, z.2)
      | inr z ↦ inr (z.0, z.1, out.if_fails has z.2, z.3)
    ]
    if_ends c h f next o (plain (int z)) has holds fails d = absurd (missing_ends d)
    if_ends c h f next o (plain (text z)) has holds fails d = absurd (missing_ends d)
    if_ends c h f next o (tree t) has holds fails d = absurd (missing_ends d)

    mutual
      unfolding walk_expression walk_expressions

      pub ends_by : (e : Expression) (next : Value → Walk) (o : Outcome) → EndsAt (walk e next) o → EndsBy e next o
      ends_by (x.Int z) next o d = inl (plain (int z), out.number, d)
      ends_by (x.Text z) next o d = inl (plain (text z), out.bytes, d)
      ends_by (x.Truth z) next o d = inl (plain (bool z), out.truth, d)
      ends_by (x.Label (place.Child k)) next o d =
          with_value_ends (x.Label (place.Child k)) (value_at vs k) next o (λ v at. out.child_value at) d
      ends_by (x.Label (place.Local k)) next o d =
          by_read (x.Label (place.Local k)) (tree_at q (local k)) next o (λ p has. out.local_value has) d
      ends_by (x.Read at y) next o d = by_read (x.Read at y) (synthesized_at (down q (step_to at)) y) next o (λ p has. out.attribute has) d
      ends_by (x.Lexeme (place.Child k)) next o d =
          with_value_ends (x.Lexeme (place.Child k)) (value_at vs k) next o (λ v at. out.lexeme at) d
      ends_by (x.Lexeme (place.Local k)) next o d = absurd (missing_ends d)
      ends_by (x.Top y) next o d = by_read (x.Top y) (inherited_at q y) next o (λ p has. out.top_attribute has) d
      ends_by (x.Forward y) next o d =
          by_read (x.Forward y) (synthesized_at (down q (made forward)) y) next o (λ p has. out.forward_attribute has) d
      ends_by (x.Build p es) next o d = elim (ends_by_all es _ o d) [
        | inl z ↦ inl (tree (node p z.0), out.build z.1, z.2)
        | inr z ↦ inr (z.0, z.1, out.build_fault z.2, z.3)
      ]
      ends_by (x.Call name es) next o d = elim (ends_by_all es _ o d) [
        | inl z ↦ call_ends name es z.0 next o z.1 (number_of operations.signatures name) refl z.2
        | inr z ↦ inr (z.0, z.1, out.call_fault z.2, z.3)
      ]
      ends_by (x.If c h f) next o d = elim (ends_by c _ o d) [
        | inl z ↦ if_ends c h f next o z.0 z.1 (ends_by h next o) (ends_by f next o) z.2
        | inr z ↦ inr (z.0, z.1, out.if_fault z.2, z.3)
      ]

      pub ends_by_all : (es : Expressions) (next : Values → Walk) (o : Outcome) → EndsAt (walks es next) o → EndsByAll es next o
      ends_by_all x.none next o d = inl (empty, out.nothing, d)
      ends_by_all (x.more e es) next o d = elim (ends_by e _ o d) [
        | inl z ↦ elim (ends_by_all es _ o z.2) [
          | inl y ↦ inl (more z.0 y.0, out.one_more z.1 y.1, y.2)
          | inr y ↦ inr (y.0, y.1, out.at_later z.1 y.2, y.3)
        ]
        | inr z ↦ inr (z.0, z.1, out.at_first z.2, z.3)
      ]

    -- a fact of walks that a read keeps after its value, as `Ends` to an outcome and `Comes` to a read
    abbrev IsKept : (Walk → Type 0) → Type 0
    IsKept P = (r : Instance) (next : Value → Walk) (v : Value) → Is r (value v) → P (next v) → P (read r next)

    module _ (P : Walk → Type 0) (kept : IsKept P) where
      mutual
        unfolding walk_expression walk_expressions

        pub on_value : {e : Expression} {v : Value} (next : Value → Walk) → Out e (value v) → P (next v) → P (walk e next)
        on_value next out.number d = d
        on_value next out.bytes d = d
        on_value next out.truth d = d
        on_value next (out.child_value {k = k} at) d = subst (λ (w : Option Value). P (with_value w next)) (sym at) d
        on_value next (out.lexeme {k = k} at) d = subst (λ (w : Option Value). P (with_value w next)) (sym at) d
        on_value {v = v} next (out.local_value {k = k} has) d = kept (tree_at q (local k)) next v has d
        on_value {v = v} next (out.attribute {at = at} {y = y} has) d = kept (synthesized_at (down q (step_to at)) y) next v has d
        on_value {v = v} next (out.top_attribute {y = y} has) d = kept (inherited_at q y) next v has d
        on_value {v = v} next (out.forward_attribute {y = y} has) d = kept (synthesized_at (down q (made forward)) y) next v has d
        on_value next (out.build {p = p} have) d = on_values (λ us. next (tree (node p us))) have d
        on_value next (out.call {name = name} {operation = operation} {us = us} {c = c} have found means) d =
            on_values (λ ws. with_call operations (number_of operations.signatures name) ws next) have
            (subst (λ (n : Option ℕ). P (with_call operations n us next)) (sym found)
            (subst (λ (g : Given). P (with_given operation g next)) (sym means) d))
        on_value next (out.if_holds {condition = c} {holds = h} {fails = f} has hold) d =
            on_value (λ v. branch v (walk h next) (walk f next)) has (on_value next hold d)
        on_value next (out.if_fails {condition = c} {holds = h} {fails = f} has fail) d =
            on_value (λ v. branch v (walk h next) (walk f next)) has (on_value next fail d)

        pub on_values : {es : Expressions} {us : Values} (next : Values → Walk) → Outs es us → P (next us) → P (walks es next)
        on_values next out.nothing d = d
        on_values next (out.one_more {e = e} {es = es} {v = v} {us = us} has have) d =
            on_value (λ w. walks es (λ ws. next (more w ws))) has (on_values (λ ws. next (more v ws)) have d)

    kept_end : (o : Outcome) → IsKept (λ w. EndsAt w o)
    kept_end o r next v has e = at_value has e

    kept_come : (u : Walk) → IsKept (λ w. ComesAt w u)
    kept_come u r next v has c = after has c

    mutual
      unfolding walk_expression walk_expressions

      -- a fault ends the walk
      pub on_fault : {e : Expression} {operation code : ℕ} (next : Value → Walk) → Out e (fault operation code)
          → EndsAt (walk e next) (fault operation code)
      on_fault next (out.local_value has) = at_fault has
      on_fault next (out.attribute has) = at_fault has
      on_fault next (out.top_attribute has) = at_fault has
      on_fault next (out.forward_attribute has) = at_fault has
      on_fault next (out.build_fault has) = on_faults _ has
      on_fault next (out.call_fails {name = name} {operation = operation} {code = code} {us = us} have found means) =
          on_values (λ w. EndsAt w (fault operation code)) (kept_end (fault operation code))
          (λ ws. with_call operations (number_of operations.signatures name) ws next) have
          (subst (λ (n : Option ℕ). EndsAt (with_call operations n us next) (fault operation code)) (sym found)
          (subst (λ (g : Given). EndsAt (with_given operation g next) (fault operation code)) (sym means) at_done))
      on_fault next (out.call_fault has) = on_faults _ has
      on_fault {operation = operation} {code = code} next (out.if_holds {holds = h} {fails = f} has hold) =
          on_value (λ w. EndsAt w (fault operation code)) (kept_end (fault operation code)) (λ v. branch v (walk h next) (walk f next)) has
          (on_fault next hold)
      on_fault {operation = operation} {code = code} next (out.if_fails {holds = h} {fails = f} has fail) =
          on_value (λ w. EndsAt w (fault operation code)) (kept_end (fault operation code)) (λ v. branch v (walk h next) (walk f next)) has
          (on_fault next fail)
      on_fault next (out.if_fault has) = on_fault _ has

      pub on_faults : {es : Expressions} {operation code : ℕ} (next : Values → Walk) → HaveFault a operations top q vs es operation code
          → EndsAt (walks es next) (fault operation code)
      on_faults next (out.at_first has) = on_fault _ has
      on_faults {operation = operation} {code = code} next (out.at_later {e = e} {es = es} {v = v} has later) =
          on_value (λ w. EndsAt w (fault operation code)) (kept_end (fault operation code)) (λ w. walks es (λ ws. next (more w ws))) has
          (on_faults (λ ws. next (more v ws)) later)

    -- the walk of an expression alone ends with its outcome
    pub outcome_ends : (e : Expression) (o : Outcome) → Out e o → EndsAt (walk e (finish operations)) o
    outcome_ends e (value v) has = on_value (λ w. EndsAt w (value v)) (kept_end (value v)) (finish operations) has at_done
    outcome_ends e (fault operation code) has = on_fault (finish operations) has

    pub ends_outcome : (e : Expression) (o : Outcome) → EndsAt (walk e (finish operations)) o → Out e o
    ends_outcome e o d = elim (ends_by e (finish operations) o d) [
      | inl z ↦ subst (Out e) (done_ends z.2) z.1
      | inr z ↦ subst (Out e) (sym z.3) z.2
    ]

    -- reads
    abbrev ComesBy : Expression → (Value → Walk) → Instance → (Value → Walk) → Type 0
    ComesBy e next r rest = ReadsAt e r ⊎ ((v : Value) × Out e (value v) × ComesAt (next v) (read r rest))

    with_value_comes : (e : Expression) (w : Option Value) (next : Value → Walk) (r : Instance) (rest : Value → Walk)
        → ((v : Value) → w ≡ Some v → Out e (value v)) → ComesAt (with_value w next) (read r rest) → ComesBy e next r rest
    with_value_comes e None next r rest has d = absurd (missing_comes d)
    with_value_comes e (Some v) next r rest has d = inr (v, has v refl, d)

    comes_read : (e : Expression) (i : Instance) (next : Value → Walk) (r : Instance) (rest : Value → Walk) → ReadsAt e i
        → ((p : Outcome) → Is i p → Out e p) → ComesAt (read i next) (read r rest) → ComesBy e next r rest
    comes_read e i next r rest reads has d = elim (read_comes d) [
      | inl same ↦ inl (subst (ReadsAt e) (sym same) reads)
      | inr z ↦ inr (z.0, has (value z.0) z.1, z.2)
    ]

    given_comes : (name : List ℕ) (es : Expressions) (us : Values) (number : ℕ) (next : Value → Walk) (r : Instance) (rest : Value → Walk)
        → Outs es us → number_of operations.signatures name ≡ Some number → (g : Given) → operations.meaning number (plains us) ≡ g
        → ComesAt (with_given number g next) (read r rest) → ComesBy (x.Call name es) next r rest
    given_comes name es us number next r rest have found (given.gives c) means d = inr (plain c, out.call have found means, d)
    given_comes name es us number next r rest have found (given.fails code) means d = absurd (done_comes d)

    call_comes : (name : List ℕ) (es : Expressions) (us : Values) (next : Value → Walk) (r : Instance) (rest : Value → Walk) → Outs es us
        → (n : Option ℕ) → number_of operations.signatures name ≡ n → ComesAt (with_call operations n us next) (read r rest)
        → ComesBy (x.Call name es) next r rest
    call_comes name es us next r rest have None found d = absurd (missing_comes d)
    call_comes name es us next r rest have (Some number) found d =
        given_comes name es us number next r rest have found (operations.meaning number (plains us)) refl d

    if_comes : (c h f : Expression) (next : Value → Walk) (r : Instance) (rest : Value → Walk) (v : Value) → Out c (value v)
        → (ComesAt (walk h next) (read r rest) → ComesBy h next r rest) → (ComesAt (walk f next) (read r rest) → ComesBy f next r rest)
        → ComesAt (branch v (walk h next) (walk f next)) (read r rest) → ComesBy (x.If c h f) next r rest
    if_comes c h f next r rest (plain (bool true)) has holds fails d = elim (holds d) [
      | inl z ↦ inl (out.in_holds has z)
      | inr z ↦ inr (z.0, out.if_holds has z.1, z.2)
    ]
    if_comes c h f next r rest (plain (bool false)) has holds fails d = elim (fails d) [
      | inl z ↦ inl (out.in_fails has z)
      | inr z ↦ inr (z.0, out.if_fails has z.1, z.2)
    ]
    if_comes c h f next r rest (plain (int z)) has holds fails d = absurd (missing_comes d)
    if_comes c h f next r rest (plain (text z)) has holds fails d = absurd (missing_comes d)
    if_comes c h f next r rest (tree t) has holds fails d = absurd (missing_comes d)

    mutual
      unfolding walk_expression walk_expressions

      pub comes_by : (e : Expression) (next : Value → Walk) (r : Instance) (rest : Value → Walk) → ComesAt (walk e next) (read r rest)
          → ComesBy e next r rest
      comes_by (x.Int z) next r rest d = inr (plain (int z), out.number, d)
      comes_by (x.Text z) next r rest d = inr (plain (text z), out.bytes, d)
      comes_by (x.Truth z) next r rest d = inr (plain (bool z), out.truth, d)
      comes_by (x.Label (place.Child k)) next r rest d =
          with_value_comes (x.Label (place.Child k)) (value_at vs k) next r rest (λ v at. out.child_value at) d
      comes_by (x.Label (place.Local k)) next r rest d =
          comes_read (x.Label (place.Local k)) (tree_at q (local k)) next r rest out.reads_local (λ p has. out.local_value has) d
      comes_by (x.Read at y) next r rest d =
          comes_read (x.Read at y) (synthesized_at (down q (step_to at)) y) next r rest out.reads_attribute (λ p has. out.attribute has) d
      comes_by (x.Lexeme (place.Child k)) next r rest d =
          with_value_comes (x.Lexeme (place.Child k)) (value_at vs k) next r rest (λ v at. out.lexeme at) d
      comes_by (x.Lexeme (place.Local k)) next r rest d = absurd (missing_comes d)
      comes_by (x.Top y) next r rest d = comes_read (x.Top y) (inherited_at q y) next r rest out.reads_top (λ p has. out.top_attribute has) d
      comes_by (x.Forward y) next r rest d =
          comes_read (x.Forward y) (synthesized_at (down q (made forward)) y) next r rest out.reads_forward (λ p has. out.forward_attribute has) d
      comes_by (x.Build p es) next r rest d = elim (comes_by_all es _ r rest d) [
        | inl z ↦ inl (out.in_build z)
        | inr z ↦ inr (tree (node p z.0), out.build z.1, z.2)
      ]
      comes_by (x.Call name es) next r rest d = elim (comes_by_all es _ r rest d) [
        | inl z ↦ inl (out.in_call z)
        | inr z ↦ call_comes name es z.0 next r rest z.1 (number_of operations.signatures name) refl z.2
      ]
      comes_by (x.If c h f) next r rest d = elim (comes_by c _ r rest d) [
        | inl z ↦ inl (out.in_condition z)
        | inr z ↦ if_comes c h f next r rest z.0 z.1 (comes_by h next r rest) (comes_by f next r rest) z.2
      ]

      pub comes_by_all : (es : Expressions) (next : Values → Walk) (r : Instance) (rest : Value → Walk) → ComesAt (walks es next) (read r rest)
          → OneReadsAt es r ⊎ ((us : Values) × Outs es us × ComesAt (next us) (read r rest))
      comes_by_all x.none next r rest d = inr (empty, out.nothing, d)
      comes_by_all (x.more e es) next r rest d = elim (comes_by e _ r rest d) [
        | inl z ↦ inl (out.in_first z)
        | inr z ↦ elim (comes_by_all es _ r rest z.2) [
          | inl y ↦ inl (out.in_later z.1 y)
          | inr y ↦ inr (more z.0 y.0, out.one_more z.1 y.1, y.2)
        ]
      ]

    -- what is read is come to
    abbrev IsComeTo : Walk → Instance → Type 0
    IsComeTo w r = (rest : Value → Walk) × ComesAt w (read r rest)

    kept_read : (r : Instance) → IsKept (λ w. IsComeTo w r)
    kept_read r i next v has c = (c.0, after has c.1)

    mutual
      unfolding walk_expression walk_expressions

      pub on_read : {e : Expression} {r : Instance} (next : Value → Walk) → ReadsAt e r → IsComeTo (walk e next) r
      on_read next out.reads_local = (next, here)
      on_read next out.reads_attribute = (next, here)
      on_read next out.reads_top = (next, here)
      on_read next out.reads_forward = (next, here)
      on_read next (out.in_build reads) = on_reads _ reads
      on_read next (out.in_call reads) = on_reads _ reads
      on_read next (out.in_condition reads) = on_read _ reads
      on_read {r = r} next (out.in_holds {holds = h} {fails = f} has reads) =
          on_value (λ w. IsComeTo w r) (kept_read r) (λ v. branch v (walk h next) (walk f next)) has (on_read next reads)
      on_read {r = r} next (out.in_fails {holds = h} {fails = f} has reads) =
          on_value (λ w. IsComeTo w r) (kept_read r) (λ v. branch v (walk h next) (walk f next)) has (on_read next reads)

      pub on_reads : {es : Expressions} {r : Instance} (next : Values → Walk) → OneReadsAt es r → IsComeTo (walks es next) r
      on_reads next (out.in_first reads) = on_read _ reads
      on_reads {r = r} next (out.in_later {e = e} {es = es} {v = v} has reads) =
          on_value (λ w. IsComeTo w r) (kept_read r) (λ w. walks es (λ ws. next (more w ws))) has (on_reads (λ ws. next (more v ws)) reads)

    -- the walk of an expression alone comes to what it reads
    pub reads_come : (e : Expression) (r : Instance) → ReadsAt e r → IsComeTo (walk e (finish operations)) r
    reads_come e r reads = on_read (finish operations) reads

    pub come_reads : (e : Expression) (r : Instance) → IsComeTo (walk e (finish operations)) r → ReadsAt e r
    come_reads e r c = elim (comes_by e (finish operations) r c.0 c.1) [ inl z ↦ z | inr z ↦ absurd (done_comes z.2) ]
