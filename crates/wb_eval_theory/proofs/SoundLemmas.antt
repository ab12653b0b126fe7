-- What an expression reads comes in its order, and with values of their kinds its value has its kind.
use Rattle.std.proofs.Common.{◌≡◌, ◌∙◌, ◌⊎◌, inl, inr, ℕ, zero, suc, List, ◌∷◌, Option, Some, None, refl, sym, subst, ap, slice_get}
use Rattle.std.proofs.Common.{length, get_or, arith, ◌<◌}
use Rattle.std.specs.Prelude.{true, false, Bool, option_map, map, position, All}
use Rattle.std.specs.List.{position_or_len}
use Rattle.std.proofs.lemmas.Bool.{cases_lt}
use Rattle.std.proofs.lemmas.Grind.{common_steps}
use Rattle.std.proofs.lemmas.List.Elements.{All-head, All-tail}
use Rattle.std.proofs.lemmas.List.Sums.{passes_at_first, fails_before_first}
use Rattle.std.specs.Str.{bytes_eq}
use Rattle.std.proofs.lemmas.Option.{same_Some, slice_get-map, slice_get_within, slice_get-get_or, get_or_from_slice_get}
use Rattle.wb_flow_theory.proofs.EdgeLemmas.{local_tree}
use Rattle.wb_syntax_resolved.specs.Visible.{kind_at}
use Rattle.std.proofs.lemmas.Slice.Eq.{bytes_eq-Decides}
use Rattle.wb_lemmas.proofs.Elements.{all_at}
use Rattle.wb_flow_theory.specs.Rules.{IsBelow, node_read}
use Rattle.wb_flow_theory.specs.Vertices.{Made, local, forward, made, Vertex, top_inherited, synthesized, tree_of, step_to}
use Rattle.wb_base.specs.declared.symbol.Kind.{Kind}
use Rattle.wb_base.specs.declared.symbol.Kind.TheVariants as kd
use Rattle.wb_syntax_expressions.specs.declared.node.Node.TheVariants as n
use Rattle.wb_syntax_expressions.specs.Expression as x
use Rattle.wb_operations.specs.Given.{Given, IsPlainKind, GivesKind}
use Rattle.wb_operations.specs.Given as given
use Rattle.wb_operations.specs.Operations.{OperationSignature, IsPlainSignature}
use Rattle.wb_types.proofs.OperationLemmas.{one_operation}
use Rattle.wb_syntax_resolved.specs.declared.equation.Place.{Place}
use Rattle.wb_syntax_resolved.specs.declared.equation.Place.TheVariants as place
use Rattle.wb_syntax_resolved.specs.declared.production.Child.{Child}
use Rattle.wb_syntax_resolved.specs.declared.production.ChildKind.{ChildKind}
use Rattle.wb_syntax_resolved.specs.declared.production.ChildKind.TheVariants as child_kind
use Rattle.wb_syntax_resolved.specs.declared.production.Production.{Production}
use Rattle.wb_syntax_resolved.specs.Expression.{Expression, Expressions, Node}
use Rattle.wb_syntax_resolved.specs.Numbered.{value_kind}
use Rattle.wb_types.specs.Kinds.{HasKind, HaveKinds, IsAttributeKind}
use Rattle.wb_types.specs.Kinds as k
use Rattle.wb_values.specs.Kinds.{kind_of, AreOfKinds}
use Rattle.wb_values.specs.Tree.{Plain, int, bool, text, Tree, node, Value, plain, tree, Values, empty, more, production_of, value_at}
use Rattle.wb_eval_theory.proofs.AnswerLemmas.{one_node}
use Rattle.wb_eval_theory.proofs.ExpressionLemmas.{IsIn, IsInOne}
use Rattle.wb_eval_theory.proofs.ProductionLemmas.{one_below, IsNode}
use Rattle.wb_eval_theory.proofs.Settings.{Setting, NodeAt, Answers, TreeFits, ValueFits, AllFit, IsOf}
use Rattle.wb_eval_theory.specs.Instances.{Path, Instance, synthesized_at, inherited_at, tree_at, instance_of}
use Rattle.wb_eval_theory.specs.Walks.{Outcome, value, fault, Walk, done, read, missing, plains, with_value, branch, with_given, with_call}
use Rattle.wb_eval_theory.specs.Walks.{with_label, with_lexeme, number_of, walk_expression, walk_expressions}

-- a walk comes to another after reads whose values meet a fact
pub data Goes (S : Instance → Value → Type 0) : Walk → Walk → Type 0 where
  stay : {w : Walk} → Goes S w w
  go : {r : Instance} {next : Value → Walk} {v : Value} {w : Walk} → S r v → Goes S (next v) w → Goes S (read r next) w

pub goes_read : {S : Instance → Value → Type 0} {r : Instance} {next : Value → Walk} {w : Walk} → Goes S (read r next) w
    → (w ≡ read r next) ⊎ ((v : Value) × S r v × Goes S (next v) w)
goes_read stay = inl refl
goes_read (go {v = v} s c) = inr (v, s, c)

pub goes_done : {S : Instance → Value → Type 0} {o : Outcome} {w : Walk} → Goes S (done o) w → w ≡ done o
goes_done stay = refl

pub goes_missing : {S : Instance → Value → Type 0} {w : Walk} → Goes S missing w → w ≡ missing
goes_missing stay = refl

-- the walk has stopped within an expression, or within one of several: at a read, or at a fault
pub data Inside (Has : Node → Type 0) (q : Path) (w : Walk) : Type 0 where
  at_read : (part : Node) (v : Vertex) (next : Value → Walk) → Has part → node_read part ≡ Some v → w ≡ read (instance_of q v) next
      → Inside Has q w
  at_fault : (operation code : ℕ) → w ≡ done (fault operation code) → Inside Has q w

widen : {H K : Node → Type 0} {q : Path} {w : Walk} → ((part : Node) → H part → K part) → Inside H q w → Inside K q w
widen f (at_read part v next has is to) = at_read part v next (f part has) is to
widen f (at_fault operation code to) = at_fault operation code to

pick : {S : Instance → Value → Type 0} (b : Bool) (v u w : Walk) → Goes S (branch (plain (bool b)) v u) w → Goes S v w ⊎ Goes S u w
pick true v u w r = inl r
pick false v u w r = inr r

-- the kinds of the children of a production
abbrev pub kinds_of : Production → List Kind
kinds_of production = map (λ (c : Child). value_kind c.kind) production.children

-- what is at a place of a production's children
child_at : (production : Production) (j : ℕ) (c : ChildKind) → option_map (λ (z : Child). z.kind) (slice_get production.children j) ≡ Some c
    → slice_get (kinds_of production) j ≡ Some (value_kind c)
child_at production j c at = slice_get-map (λ (z : Child). value_kind z.kind) production.children j ∙ by_child (slice_get production.children j) at
  where
    by_child : (o : Option Child) → option_map (λ (z : Child). z.kind) o ≡ Some c
        → option_map (λ (z : Child). value_kind z.kind) o ≡ Some (value_kind c)
    by_child None none = absurd (cc none)
    by_child (Some z) some = ap Some (ap value_kind (same_Some z.kind c some))

-- the operation of a name is found
pub found_number : (signatures : List OperationSignature) (name : List ℕ) (i : ℕ) (s : OperationSignature) → slice_get signatures i ≡ Some s
    → s.name ≡ name
    → (j : ℕ) × (t : OperationSignature) × (number_of signatures name ≡ Some j) × (slice_get signatures j ≡ Some t) × (t.name ≡ name)
found_number signatures name i s at named =
    let p : OperationSignature → Bool = λ z. bytes_eq z.name name in
    let within : i < length signatures = slice_get_within signatures i s at in
    let yes : p (get_or signatures i s) ≡ true =
    (bytes_eq-Decides (get_or signatures i s).name name).1
    (ap (λ (z : OperationSignature). z.name) (get_or_from_slice_get signatures i s s at) ∙ named) in
    elim (cases_lt i (position_or_len p signatures)) [
      | inl before ↦ let no = fails_before_first p signatures i s before in absurd (cc (yes, no))
      | inr not_before ↦
          let inside : position_or_len p signatures < length signatures = omega arith in
          let is : position p signatures ≡ Some (position_or_len p signatures) = grind (arith, common_steps) in
          let holds = passes_at_first p signatures s inside in
          let j = position_or_len p signatures in
          (j, get_or signatures j s, is, slice_get-get_or signatures j s inside, (bytes_eq-Decides (get_or signatures j s).name name).0 holds)
    ]

-- a plain value of the kind that an operation gives
pub gives_kind : (k : Kind) (c : Plain) → GivesKind k (given.gives c) → k ≡ kind_of c
gives_kind kd.Int (int z) has = refl
gives_kind kd.Bool (bool b) has = refl
gives_kind kd.Text (text t) has = refl
gives_kind kd.Int (bool b) has = absurd has
gives_kind kd.Int (text t) has = absurd has
gives_kind kd.Bool (int z) has = absurd has
gives_kind kd.Bool (text t) has = absurd has
gives_kind kd.Text (int z) has = absurd has
gives_kind kd.Text (bool b) has = absurd has
gives_kind (kd.Tree m) c has = absurd has

-- the value of a truth kind
truth_value : (s : Setting) (v : Value) → ValueFits s v kd.Bool → (b : Bool) × (v ≡ plain (bool b))
truth_value s (plain (int z)) is = absurd (cc is)
truth_value s (plain (bool b)) is = (b, refl)
truth_value s (plain (text t)) is = absurd (cc is)
truth_value s (tree t) is = let e = is.1 in absurd (cc e)

-- a value of a tree kind is a tree
pub tree_value : (s : Setting) (v : Value) (m : ℕ) → ValueFits s v (kd.Tree m) → (t : Tree) × (v ≡ tree t) × TreeFits s t m
tree_value s (plain (int z)) m is = absurd (cc is)
tree_value s (plain (bool b)) m is = absurd (cc is)
tree_value s (plain (text t)) m is = absurd (cc is)
tree_value s (tree t) m is =
    let e = is.1 in
    let same : is.0 ≡ m = cc e in
    (t, refl, subst (TreeFits s t) same is.2)

-- values at a place are of the kind there
pub fits_child : (s : Setting) (vs : Values) (ks : List Kind) (j : ℕ) (k : Kind) → AllFit s vs ks → slice_get ks j ≡ Some k
    → (v : Value) × (value_at vs j ≡ Some v) × ValueFits s v k
fits_child s empty ks j k f h = let h' = subst (λ (l : List Kind). slice_get l j ≡ Some k) f h in absurd (cc h')
fits_child s (more v vs) ks zero k f h =
    let h' = subst (λ (l : List Kind). slice_get l 0 ≡ Some k) f.2 h in
    let same : f.0 ≡ k = cc h' in
    (v, refl, subst (ValueFits s v) same f.3)
fits_child s (more v vs) ks (suc j) k f h =
    fits_child s vs f.1 j k f.4 (subst (λ (l : List Kind). slice_get l (suc j) ≡ Some k) f.2 h)

pub fits_at : (s : Setting) (vs : Values) (ks : List Kind) (j : ℕ) (v : Value) → AllFit s vs ks → value_at vs j ≡ Some v
    → (k : Kind) × (slice_get ks j ≡ Some k) × ValueFits s v k
fits_at s empty ks j v f h = absurd (cc h)
fits_at s (more u vs) ks zero v f h =
    let same : u ≡ v = cc h in
    (f.0, subst (λ (l : List Kind). slice_get l 0 ≡ Some f.0) (sym f.2) refl, subst (λ (z : Value). ValueFits s z f.0) same f.3)
fits_at s (more u vs) ks (suc j) v f h =
    let r = fits_at s vs f.1 j v f.4 h in
    (r.0, subst (λ (l : List Kind). slice_get l (suc j) ≡ Some r.0) (sym f.2) r.1, r.2)

-- values of plain kinds are plain
pub plains_kinds : (s : Setting) (us : Values) (ks : List Kind) → AllFit s us ks → All IsPlainKind ks → AreOfKinds ks (plains us)
plains_kinds s empty ks f plain_ones = sym f
plains_kinds s (more (plain c) us) ks f plain_ones =
    let ones = subst (λ (l : List Kind). All IsPlainKind l) f.2 plain_ones in
    let rest = plains_kinds s us f.1 f.4 (All-tail IsPlainKind f.0 f.1 ones) in
    ap (λ (l : List Kind). kind_of c ∷ l) rest ∙ (ap (λ (z : Kind). z ∷ f.1) (sym f.3) ∙ sym f.2)
plains_kinds s (more (tree t) us) ks f plain_ones =
    let ones = subst (λ (l : List Kind). All IsPlainKind l) f.2 plain_ones in
    absurd (subst IsPlainKind f.3.1 (All-head IsPlainKind f.0 f.1 ones))

-- the tree of a local or forward is one of its nonterminal
pub record IsMade (s : Setting) (q : Path) (m : Made) (v : Value) : Type 0 where
  pub above : Tree
  pub production : Production
  pub nonterminal : ℕ
  pub there : NodeAt s q above
  pub is : IsOf s (production_of above) production
  pub below : IsBelow production (made m) nonterminal
  pub fits : ValueFits s v (kd.Tree nonterminal)

-- a value has the kind of the instance
abbrev pub Kinded : Setting → Instance → Value → Type 0
Kinded s (synthesized_at q y) v = (is : Kind) → IsAttributeKind s.attribution y is → ValueFits s v is
Kinded s (inherited_at q y) v = (is : Kind) → IsAttributeKind s.attribution y is → ValueFits s v is
Kinded s (tree_at q m) v = IsMade s q m v

abbrev pub Sound : Setting → Instance → Value → Type 0
Sound s i v = Answers s i (value v) × Kinded s i v

module _ (s : Setting) (q : Path) (t : Tree) (p : Production) (here : NodeAt s q t) (is : IsOf s (production_of t) p) (vs : Values)
    (fits : AllFit s vs (kinds_of p)) where
  abbrev Has : Expression → Kind → Type 0
  Has e kind = HasKind s.attribution s.operations.signatures p e kind

  abbrev HaveAll : Expressions → List Kind → Type 0
  HaveAll es ks = HaveKinds s.attribution s.operations.signatures p es ks

  abbrev walk : Expression → (Value → Walk) → Walk
  walk e next = walk_expression s.operations q vs e next

  -- where a walk comes to, through an expression
  abbrev Passes : (Node → Type 0) → Kind → (Value → Walk) → Walk → Type 0
  Passes H is next w = Inside H q w ⊎ ((v : Value) × ValueFits s v is × Goes (Sound s) (next v) w)

  local_fits : (c m : ℕ) (v : Value) → IsBelow p (made (local c)) m → IsMade s q (local c) v → ValueFits s v (kd.Tree m)
  local_fits c m v at has =
      let same : t ≡ has.above = one_node s.attribution s.operations s.top here has.there in
      let is' = subst (λ (u : Tree). IsOf s (production_of u) p) same is in
      let p_same : p ≡ has.production = same_Some p has.production (sym is' ∙ has.is) in
      let at' = subst (λ (r : Production). IsBelow r (made (local c)) m) p_same at in
      let m_same = one_below has.production (made (local c)) has.nonterminal m has.below at' in
      subst (λ (z : ℕ). ValueFits s v (kd.Tree z)) m_same has.fits

  through_label : (at : Place) (kind : Kind) (next : Value → Walk) (w : Walk) → kind_at p at ≡ Some (child_kind.Value kind)
      → Goes (Sound s) (with_label s.operations q vs at next) w → Passes (λ part. part ≡ n.Label at) kind next w
  through_label (place.Child j) kind next w at r =
      let (v, there, has) = fits_child s vs (kinds_of p) j kind fits (child_at p j (child_kind.Value kind) at) in
      inr (v, has, subst (λ (o : Option Value). Goes (Sound s) (with_value o next) w) there r)
  through_label (place.Local c) kind next w at r =
      elim (goes_read r) [
        | inl e ↦ inl (at_read (n.Label (place.Local c)) (tree_of (local c)) next refl refl e)
        | inr z ↦
            let (m, below) = local_tree p c (child_kind.Value kind) at in
            let kind_is : kd.Tree m ≡ kind = let h : Some (child_kind.Value (kd.Tree m)) ≡ Some (child_kind.Value kind) = sym below ∙ at in cc h in
            inr (z.0, subst (ValueFits s z.0) kind_is (local_fits c m z.0 below z.1.1), z.2)
      ]

  through_lexeme : (at : Place) (number : ℕ) (next : Value → Walk) (w : Walk) → kind_at p at ≡ Some (child_kind.Terminal number)
      → Goes (Sound s) (with_lexeme s.operations vs at next) w → (v : Value) × ValueFits s v kd.Text × Goes (Sound s) (next v) w
  through_lexeme (place.Child j) number next w at r =
      let (v, there, has) = fits_child s vs (kinds_of p) j kd.Text fits (child_at p j (child_kind.Terminal number) at) in
      (v, has, subst (λ (o : Option Value). Goes (Sound s) (with_value o next) w) there r)
  through_lexeme (place.Local c) number next w at r =
      let (m, below) = local_tree p c (child_kind.Terminal number) at in
      let h : Some (child_kind.Value (kd.Tree m)) ≡ Some (child_kind.Terminal number) = sym below ∙ at in absurd (cc h)

  through_attribute : (part : Node) (v : Vertex) (kind : Kind) (next : Value → Walk) (w : Walk) → node_read part ≡ Some v
      → ((u : Value) → Sound s (instance_of q v) u → ValueFits s u kind) → Goes (Sound s) (read (instance_of q v) next) w
      → Passes (λ m. m ≡ part) kind next w
  through_attribute part v kind next w reads fit r =
      elim (goes_read r) [ inl e ↦ inl (at_read part v next refl reads e) | inr z ↦ inr (z.0, fit z.0 z.1, z.2) ]

  through_given : (H : Node → Type 0) (number : ℕ) (o : OperationSignature) (us : Values) (next : Value → Walk) (w : Walk)
      → slice_get s.operations.signatures number ≡ Some o → AllFit s us o.takes → (g : Given)
      → s.operations.meaning number (plains us) ≡ g → Goes (Sound s) (with_given number g next) w → Passes H o.gives next w
  through_given H number o us next w at fit (given.gives c) means r =
      let plain_one = all_at IsPlainSignature s.operations.signatures number o s.evaluable.with_operations.plain at in
      let kept = s.evaluable.with_operations.kinds number o at (plains us) (plains_kinds s us o.takes fit plain_one.takes_plain) in
      inr (plain c, gives_kind o.gives c (subst (GivesKind o.gives) means kept), r)
  through_given H number o us next w at fit (given.fails code) means r = inl (at_fault number code (goes_done r))

  through_call : (H : Node → Type 0) (name : List ℕ) (number : ℕ) (o : OperationSignature) (us : Values) (next : Value → Walk) (w : Walk)
      → slice_get s.operations.signatures number ≡ Some o → o.name ≡ name → AllFit s us o.takes
      → Goes (Sound s) (with_call s.operations (number_of s.operations.signatures name) us next) w → Passes H o.gives next w
  through_call H name number o us next w at named fit r =
      let (j, f, found, there, same) = found_number s.operations.signatures name number o at named in
      let one : o ≡ f = one_operation s.operations.signatures name number j o f s.evaluable.with_operations.names at named there same in
      let r' = subst (λ (z : Option ℕ). Goes (Sound s) (with_call s.operations z us next) w) found r in
      let fit' = subst (λ (z : OperationSignature). AllFit s us z.takes) one fit in
      subst (λ (z : OperationSignature). Passes H z.gives next w) (sym one)
      (through_given H j f us next w there fit' (s.operations.meaning j (plains us)) refl r')

  abbrev AllNamed : (Node → Type 0) → Type 0
  AllNamed H = (part : Node) → H part → IsNode s p part

  mutual
    unfolding walk_expression walk_expressions

    pub through : (e : Expression) (kind : Kind) (next : Value → Walk) (w : Walk) → Has e kind → AllNamed (IsIn e)
        → Goes (Sound s) (walk e next) w → Passes (IsIn e) kind next w
    through (x.Int z) kind next w k.int named r = inr (plain (int z), refl, r)
    through (x.Text z) kind next w k.text named r = inr (plain (text z), refl, r)
    through (x.Truth z) kind next w k.truth named r = inr (plain (bool z), refl, r)
    through (x.Label at) kind next w (k.label is_at) named r = through_label at kind next w is_at r
    through (x.Read at y) kind next w (k.read of_kind) named r =
        through_attribute (n.Read at y) (synthesized (step_to at) y) kind next w refl (λ u f. f.1 kind of_kind) r
    through (x.Lexeme at) kind next w k.lexeme named r =
        let (owner, (number, there)) = named (n.Lexeme at) refl in
        inr (through_lexeme at number next w there.is r)
    through (x.Top y) kind next w (k.top of_kind) named r =
        through_attribute (n.Top y) (top_inherited y) kind next w refl (λ u f. f.1 kind of_kind) r
    through (x.Forward y) kind next w (k.forward of_kind) named r =
        through_attribute (n.Forward y) (synthesized (made forward) y) kind next w refl (λ u f. f.1 kind of_kind) r
    through (x.Build number es) kind next w (k.build o at have kind_is) named r =
        elim (through_all es o.children _ w have named r) [
          | inl i ↦ inl i
          | inr z ↦ inr (tree (node number z.0), (o.left, kind_is, (o, at, refl, z.1)), z.2)
        ]
    through (x.Call name es) kind next w (k.call number o at is_named have kind_is) named r =
        elim (through_all es o.takes _ w have named r) [
          | inl i ↦ inl i
          | inr z ↦ subst (λ (g : Kind). Passes (IsInOne es) g next w) (sym kind_is) (through_call (IsInOne es) name number o z.0 next w at is_named z.1 z.2)
        ]
    through (x.If c h f) kind next w (k.if_then has_c has_h has_f) named r =
        elim (through c kd.Bool _ w has_c (λ part i. named part (inl i)) r) [
          | inl i ↦ inl (widen (λ part y. inl y) i)
          | inr z ↦
              let (b, is_b) = truth_value s z.0 z.1 in
              elim (pick b _ _ w (subst (λ (v : Value). Goes (Sound s) (branch v (walk h next) (walk f next)) w) is_b z.2)) [
                | inl m ↦ elim (through h kind next w has_h (λ part i. named part (inr (inl i))) m) [
                  | inl i ↦ inl (widen (λ part y. inr (inl y)) i)
                  | inr y ↦ inr y
                ]
                | inr m ↦ elim (through f kind next w has_f (λ part i. named part (inr (inr i))) m) [
                  | inl i ↦ inl (widen (λ part y. inr (inr y)) i)
                  | inr y ↦ inr y
                ]
              ]
        ]

    pub through_all : (es : Expressions) (ks : List Kind) (next : Values → Walk) (w : Walk) → HaveAll es ks → AllNamed (IsInOne es)
        → Goes (Sound s) (walk_expressions s.operations q vs es next) w
        → Inside (IsInOne es) q w ⊎ ((us : Values) × AllFit s us ks × Goes (Sound s) (next us) w)
    through_all x.none ks next w k.nothing named r = inr (empty, refl, r)
    through_all (x.more e es) ks next w (k.next {k = first} {ks = rest} has have) named r =
        elim (through e first _ w has (λ part i. named part (inl i)) r) [
          | inl i ↦ inl (widen (λ part y. inl y) i)
          | inr z ↦ elim (through_all es rest _ w have (λ part i. named part (inr i)) z.2) [
            | inl i ↦ inl (widen (λ part y. inr y) i)
            | inr y ↦ inr (more z.0 y.0, (first, rest, refl, z.1, y.1), y.2)
          ]
        ]
