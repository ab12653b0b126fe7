-- An answer has the kind of its instance, and each node is a tree that fits.
use Rattle.std.proofs.Common.{◌≡◌, ◌∙◌, ◌⊎◌, inl, inr, ℕ, List, Option, Some, None, refl, sym, subst, ap, slice_get}
use Rattle.std.specs.Prelude.{option_map, map}
use Rattle.std.proofs.lemmas.Option.{same_Some, slice_get-map}
use Rattle.wb_flow_theory.specs.Vertices.{Made, local, forward, Step, child, made, Vertex, top_synthesized, inherited, tree_of}
use Rattle.wb_base.specs.declared.symbol.Kind.{Kind}
use Rattle.wb_syntax_resolved.specs.declared.production.Production.{Production}
use Rattle.wb_syntax_resolved.specs.Expression.{Expression}
use Rattle.wb_syntax_resolved.specs.Numbered.{signature_of}
use Rattle.wb_types.specs.Kinds.{IsAttributeKind}
use Rattle.wb_values.specs.Signature.{Signature}
use Rattle.wb_values.specs.Tree.{Tree, node, Value, plain, tree, Values, production_of, children_of, value_at}
use Rattle.wb_eval_theory.proofs.ExpressionLemmas.{IsIn}
use Rattle.wb_eval_theory.proofs.ProductionLemmas.{IsExpression, expression_at}
use Rattle.wb_eval_theory.proofs.Settings.{Setting, NodeAt, Answers, EndsWith, TreeFits, ValueFits, AllFit, IsOf}
use Rattle.wb_eval_theory.proofs.SoundLemmas.{Goes, stay, go, goes_read, goes_done, goes_missing, Inside, at_read, at_fault, kinds_of}
use Rattle.wb_eval_theory.proofs.SoundLemmas.{fits_at}
use Rattle.wb_eval_theory.proofs.SoundLemmas.{IsMade, Kinded, Sound, through}
use Rattle.wb_eval_theory.specs.Answers as answers
use Rattle.wb_eval_theory.specs.Answers.{at_root, at_child, at_made, by_walk}
use Rattle.wb_eval_theory.specs.Instances.{Path, root, down, Instance, synthesized_at, inherited_at, tree_at, home}
use Rattle.wb_eval_theory.specs.Rules.{rule_of}
use Rattle.wb_eval_theory.specs.Walks.{Outcome, value, fault, Walk, done, read, with_tree, walk_expression, finish, walk_top}
use Rattle.wb_eval_theory.specs.Walks.{walk_below, walk_made, rule_at, walk_synthesized, walk_of}

-- the tree has a production, and what is below it fits that
pub record IsFit (s : Setting) (t : Tree) (nonterminal : ℕ) : Type 0 where
  pub production : Production
  pub is : IsOf s (production_of t) production
  pub left : production.left ≡ nonterminal
  pub below : AllFit s (children_of t) (kinds_of production)

-- a signature is that of a production
signed : (extensions : List (List ℕ)) (productions : List Production) (number : ℕ) (g : Signature)
    → slice_get (map (signature_of extensions) productions) number ≡ Some g
    → (p : Production) × (slice_get productions number ≡ Some p) × (signature_of extensions p ≡ g)
signed extensions productions number g at =
    by_case (slice_get productions number) refl (sym (slice_get-map (signature_of extensions) productions number) ∙ at) where
      by_case : (o : Option Production) → slice_get productions number ≡ o → option_map (signature_of extensions) o ≡ Some g
          → (p : Production) × (slice_get productions number ≡ Some p) × (signature_of extensions p ≡ g)
      by_case None is h = absurd (cc h)
      by_case (Some p) is h = (p, is, same_Some (signature_of extensions p) g h)

pub fit_of : (s : Setting) (t : Tree) (n : ℕ) → TreeFits s t n → IsFit s t n
fit_of s (node number vs) n f =
    let at = subst (λ (l : List Signature). slice_get l number ≡ Some f.0) s.evaluable.attribution.numbered.signatures f.1 in
    let (p, is, same) = signed s.attribution.extensions s.attribution.productions number f.0 at in
    record {
      production = p;
      is = is;
      left = ap (λ (g : Signature). g.left) same ∙ f.2;
      below = subst (λ (g : Signature). AllFit s vs g.children) (sym same) f.3;
    }

-- the tree fits some nonterminal
abbrev pub Fits : Setting → Tree → Type 0
Fits s t = (n : ℕ) × TreeFits s t n

-- a walk from a read to a value
ends_read : (s : Setting) (i : Instance) (v : Value) → Goes (Sound s) (read i (finish s.operations)) (done (value v)) → Sound s i v
ends_read s i v r = elim (goes_read r) [
  | inl h ↦ absurd (cc h)
  | inr z ↦ let h = goes_done z.2 in let same : z.0 ≡ v = cc h in subst (Sound s i) same z.1
]

module _ (s : Setting) (q : Path) (t : Tree) (p : Production) (here : NodeAt s q t) (is : IsOf s (production_of t) p) (vs : Values)
    (fits : AllFit s vs (kinds_of p)) where
  -- the end of an expression
  ends_expression : (v : Vertex) (e : Expression) (x : Value) (i : IsExpression s p v e)
      → Goes (Sound s) (walk_expression s.operations q vs e (finish s.operations)) (done (value x)) → ValueFits s x i.kind
  ends_expression v e x i r =
      by_case (through s q t p here is vs fits e i.kind (finish s.operations) (done (value x)) i.has_kind i.named r) where
        by_case : (Inside (IsIn e) q (done (value x)) ⊎ ((u : Value) × ValueFits s u i.kind × Goes (Sound s) (finish s.operations u) (done (value x))))
            → ValueFits s x i.kind
        by_case (inl (at_read part w next has reads h)) = absurd (cc h)
        by_case (inl (at_fault operation code h)) = absurd (cc h)
        by_case (inr z) = let h = goes_done z.2 in let same : z.0 ≡ x = cc h in subst (λ (u : Value). ValueFits s u i.kind) same z.1

  -- an attribute's value has the attribute's kind
  one_kind : (y : ℕ) (first second : Kind) → IsAttributeKind s.attribution y first → IsAttributeKind s.attribution y second → first ≡ second
  one_kind y first second h k = same_Some first second (sym h ∙ k)

  ends_top : (y : ℕ) (x : Value) (o f : Option Expression) → rule_of p (top_synthesized y) ≡ o
      → Goes (Sound s) (walk_top s.operations q vs y o f) (done (value x)) → Kinded s (synthesized_at q y) x
  ends_top y x (Some e) f rule r kind of_kind =
      let i = expression_at s (production_of t) p is (top_synthesized y) e rule in
      subst (ValueFits s x) (one_kind y i.kind kind i.asked of_kind) (ends_expression (top_synthesized y) e x i r)
  ends_top y x None (Some f) rule r kind of_kind = elim (goes_read r) [
    | inl h ↦ absurd (cc h)
    | inr z ↦ (ends_read s (synthesized_at (down q (made forward)) y) x z.2).1 kind of_kind
  ]
  ends_top y x None None rule r kind of_kind = let h = goes_missing r in absurd (cc h)

  ends_below : (b : Step) (y : ℕ) (x : Value) (o : Option Expression) → rule_of p (inherited b y) ≡ o
      → Goes (Sound s) (walk_below s.operations q vs b y o) (done (value x)) → Kinded s (inherited_at (down q b) y) x
  ends_below b y x (Some e) rule r kind of_kind =
      let i = expression_at s (production_of t) p is (inherited b y) e rule in
      subst (ValueFits s x) (one_kind y i.kind kind i.asked of_kind) (ends_expression (inherited b y) e x i r)
  ends_below (made forward) y x None rule r kind of_kind = (ends_read s (inherited_at q y) x r).1 kind of_kind
  ends_below (child c) y x None rule r kind of_kind = let h = goes_missing r in absurd (cc h)
  ends_below (made (local c)) y x None rule r kind of_kind = let h = goes_missing r in absurd (cc h)

  ends_made : (m : Made) (x : Value) (o : Option Expression) → rule_of p (tree_of m) ≡ o
      → Goes (Sound s) (walk_made s.operations q vs o) (done (value x)) → Kinded s (tree_at q m) x
  ends_made m x (Some e) rule r =
      let i = expression_at s (production_of t) p is (tree_of m) e rule in
      let (n, below, kind_is) = i.asked in
      record {
        above = t;
        production = p;
        nonterminal = n;
        there = here;
        is = is;
        below = below;
        fits = subst (ValueFits s x) kind_is (ends_expression (tree_of m) e x i r);
      }
  ends_made m x None rule r = let h = goes_missing r in absurd (cc h)

module _ (s : Setting) where
  ends_synthesized : (q : Path) (y : ℕ) (u : Tree) (x : Value) → NodeAt s q u → Fits s u
      → Goes (Sound s) (walk_synthesized s.operations s.attribution q y u) (done (value x)) → Kinded s (synthesized_at q y) x
  ends_synthesized q y u x here f r =
      let i = fit_of s u f.0 f.1 in
      let rule = ap (λ (o : Option Production). rule_at s.operations s.attribution o (top_synthesized y)) i.is in
      ends_top s q u i.production here i.is (children_of u) i.below y x _ _ (sym rule) r

  conclude : (i : Instance) (t : Tree) (x : Value) → NodeAt s (home i) t → Fits s t
      → Goes (Sound s) (walk_of s.operations s.attribution i t) (done (value x)) → Kinded s i x
  unfolding walk_of
  conclude (synthesized_at root y) t x here f r = ends_synthesized root y t x here f r
  conclude (synthesized_at (down q (child c)) y) t x here f r = at_kid (value_at (children_of t) c) refl r where
    at_kid : (o : Option Value) → value_at (children_of t) c ≡ o
        → Goes (Sound s) (with_tree o (walk_synthesized s.operations s.attribution (down q (child c)) y)) (done (value x))
        → Kinded s (synthesized_at (down q (child c)) y) x
    at_kid (Some (tree u)) e r =
        let i = fit_of s t f.0 f.1 in
        let v = fits_at s (children_of t) (kinds_of i.production) c (tree u) i.below e in
        ends_synthesized (down q (child c)) y u x (at_child here e) (v.2.0, v.2.2) r
    at_kid (Some (plain z)) e r = let h = goes_missing r in absurd (cc h)
    at_kid None e r = let h = goes_missing r in absurd (cc h)
  conclude (synthesized_at (down q (made m)) y) t x here f r =
      elim (goes_read r) [ inl h ↦ absurd (cc h) | inr z ↦ at_tree z.0 z.1.0 z.1.1 z.2 ] where
        at_tree : (v : Value) → Answers s (tree_at q m) (value v) → IsMade s q m v
            → Goes (Sound s) (with_tree (Some v) (walk_synthesized s.operations s.attribution (down q (made m)) y)) (done (value x))
            → Kinded s (synthesized_at (down q (made m)) y) x
        at_tree (tree u) has is r = ends_synthesized (down q (made m)) y u x (at_made has) (is.fits.0, is.fits.2) r
        at_tree (plain z) has is r = let h = goes_missing r in absurd (cc h)
  conclude (inherited_at root y) t x here f r = let h = goes_missing r in absurd (cc h)
  conclude (inherited_at (down q b) y) t x here f r =
      let i = fit_of s t f.0 f.1 in
      let rule = ap (λ (o : Option Production). rule_at s.operations s.attribution o (inherited b y)) i.is in
      ends_below s q t i.production here i.is (children_of t) i.below b y x _ (sym rule) r
  conclude (tree_at q m) t x here f r =
      let i = fit_of s t f.0 f.1 in
      let rule = ap (λ (o : Option Production). rule_at s.operations s.attribution o (tree_of m)) i.is in
      ends_made s q t i.production here i.is (children_of t) i.below m x _ (sym rule) r

  -- what an outcome says of an instance
  abbrev pub KindedOutcome : Instance → Outcome → Type 0
  KindedOutcome i (value v) = Kinded s i v
  KindedOutcome i (fault operation code) = Unit {0}

  abbrev GoesTo : Walk → Outcome → Type 0
  GoesTo w (value v) = Goes (Sound s) w (done (value v))
  GoesTo w (fault operation code) = Unit {0}

  goes_to_done : (o : Outcome) → GoesTo (done o) o
  goes_to_done (value v) = stay
  goes_to_done (fault operation code) = tt

  goes_to_read : (o : Outcome) (r : Instance) (next : Value → Walk) (v : Value) → Sound s r v → GoesTo (next v) o → GoesTo (read r next) o
  goes_to_read (value x) r next v sound w = go sound w
  goes_to_read (fault operation code) r next v sound w = tt

  conclude_all : (i : Instance) (t : Tree) (o : Outcome) → NodeAt s (home i) t → Fits s t
      → GoesTo (walk_of s.operations s.attribution i t) o → KindedOutcome i o
  conclude_all i t (value x) here f r = conclude i t x here f r
  conclude_all i t (fault operation code) here f r = tt

  pub fits_kid : (t u : Tree) (c : ℕ) → Fits s t → value_at (children_of t) c ≡ Some (tree u) → Fits s u
  fits_kid t u c f e =
      let i = fit_of s t f.0 f.1 in
      let v = fits_at s (children_of t) (kinds_of i.production) c (tree u) i.below e in
      (v.2.0, v.2.2)

  mutual
    pub node_fits : {q : Path} {t : Tree} → NodeAt s q t → Fits s t
    node_fits at_root = (s.nonterminal, s.fits)
    node_fits (at_child {k = c} {t = t} {u = u} n e) = fits_kid t u c (node_fits n) e
    node_fits (at_made {u = u} has) = let k = kinded has in (k.fits.0, k.fits.2)

    pub kinded : {i : Instance} {o : Outcome} → Answers s i o → KindedOutcome i o
    kinded {i} {o} (by_walk {t = t} n e) = conclude_all i t o n (node_fits n) (goes_to e)

    goes_to : {w : Walk} {o : Outcome} → EndsWith s w o → GoesTo w o
    goes_to (answers.at_done {o = o}) = goes_to_done o
    goes_to (answers.at_value {r = r} {next = next} {v = v} {o = o} has e) = goes_to_read o r next v (has, kinded has) (goes_to e)
    goes_to (answers.at_fault has) = tt
