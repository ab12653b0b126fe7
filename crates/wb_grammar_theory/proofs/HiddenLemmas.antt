-- Hidden left recursion is a cycle of left corners with one that hides something.
use Rattle.std.proofs.Common.{◌≡◌, ◌≢◌, ℕ, ◌⊎◌, List, [], ◌∷◌, ◌++◌, refl, sym, ◌∙◌, subst, append_assoc, inl, inr}
use Rattle.std.specs.Prelude.{◌↔◌}
use Rattle.wb_base.specs.declared.symbol.Symbol.{Symbol}
use Rattle.wb_base.specs.declared.symbol.Symbol.TheVariants.{Nonterminal}
use Rattle.wb_base.specs.Grammar.{GrammarView}
use Rattle.wb_grammar_theory.specs.Productions.{IsProduction}
use Rattle.wb_grammar_theory.specs.Derives.{Derives, done, keep, expand}
use Rattle.wb_grammar_theory.specs.Cycles.{IsHiddenLeftRecursive, IsLeftCorner}
use Rattle.wb_grammar_theory.specs.Walks.{Walk, one, more, HiddenWalk, last, here, later}
use Rattle.wb_grammar_theory.proofs.DerivesLemmas.{Derives-append, Derives-then, Derives-same, Derives-split, nil_parts}

hides_walk : {g : GrammarView} {a b : ℕ} → HiddenWalk g a b → Walk (IsLeftCorner g) a b
hides_walk (last c) = one c.corner
hides_walk (here c w) = more c.corner w
hides_walk (later c h) = more c (hides_walk h)

-- where symbols derive u ++ z, what derives u and what derives z: the place of z's first symbol
pub record Place (g : GrammarView) (a b p : ℕ) (before : List Symbol) (front : List Symbol) : Type 0 where
  pub walk : Walk (IsLeftCorner g) a b
  pub hides : (before ≢ []) ⊎ (front ≢ []) → HiddenWalk g a b

-- the case of a symbol that is kept or expanded: either z begins after what it derives, or within
cut : (u v front back : List Symbol) (z : Symbol) (P : Type 0) → u ++ v ≡ front ++ z ∷ back
    → ((front' : List Symbol) → front ≡ u ++ front' → v ≡ front' ++ z ∷ back → P)
    → ((back' : List Symbol) → u ≡ front ++ z ∷ back' → P) → P
cut [] v front back z P e behind within = behind front refl e
cut (x ∷ u) v [] back z P e behind within = within u (cc)
cut (x ∷ u) v (y ∷ front) back z P e behind within =
    let h : x ≡ y = cc in
    cut u v front back z P (cc) (λ f p q. behind f (cc) q) (λ b p. within b (cc))

not_nil : (w : List Symbol) (x : Symbol) → (w ++ x ∷ [] ≡ []) → ⊥
not_nil [] x e = cc
not_nil (y ∷ w) x e = cc

pub corner_place : {g : GrammarView} (a b p : ℕ) (before : List Symbol) {w x : List Symbol} → Derives g w x → (front back : List Symbol) →
    x ≡ front ++ Nonterminal b ∷ back → Derives g front [] → IsProduction g p a (before ++ w) → Derives g before [] →
    Place g a b p before front
corner_place a b p before done [] back e empty rule none = cc
corner_place a b p before done (y ∷ front) back e empty rule none = cc
corner_place {g} a b p before (keep y {w} {v} r) [] back e empty rule none =
    let f : y ≡ Nonterminal b = cc in
    let c : IsLeftCorner g a b = record {
      p = p;
      before = before;
      after = w;
      rule = subst
          (λ z. IsProduction g p a (before ++ z ∷ w)) f rule;
      before_empty = none;
    } in
    record { walk = one c; hides = λ which. elim which [ inl ne ↦ last (record { corner = c; hides = ne }) | inr ne ↦ absurd (ne refl) ] }
corner_place {g} a b p before (keep y {w} {v} r) (z ∷ front) back e empty rule none =
    let same : z ≡ y = cc in
    let parts = Derives-split {g = g} (z ∷ []) empty in
    let nils = nil_parts parts.left parts.right parts.is in
    let y_empty : Derives g (y ∷ []) [] = subst (λ s. Derives g (s ∷ []) []) same (subst (Derives g (z ∷ [])) nils.0 parts.of_left) in
    let front_empty : Derives g front [] = subst (Derives g front) nils.1 parts.of_right in
    let rest = corner_place a b p (before ++ y ∷ []) r front back (cc) front_empty
    (subst (IsProduction g p a) (sym (append_assoc before (y ∷ []) w)) rule) (Derives-append none y_empty) in
    record { walk = rest.walk; hides = λ _. rest.hides (inl (not_nil before y)) }
corner_place {g} a b p before (expand q c right u v {w} {x} rule' r s is) front back e empty rule none =
    cut u v front back (Nonterminal b) (Place g a b p before front) (sym is ∙ e)
    (λ front' f h.
    let parts = Derives-split {g = g} u (subst (λ z. Derives g z []) f empty) in
    let nils = nil_parts parts.left parts.right parts.is in
    let u_empty : Derives g u [] = subst (Derives g u) nils.0 parts.of_left in
    let rest = corner_place a b p (before ++ Nonterminal c ∷ []) s front' back h (subst (Derives g front') nils.1 parts.of_right)
    (subst (IsProduction g p a) (sym (append_assoc before (Nonterminal c ∷ []) w)) rule)
    (Derives-append none (expand q c right [] [] rule' (Derives-then r u_empty) done refl)) in
    record { walk = rest.walk; hides = λ _. rest.hides (inl (not_nil before (Nonterminal c))) })
    (λ back' h.
    let corner : IsLeftCorner g a c = record { p = p; before = before; after = w; rule = rule; before_empty = none } in
    let rest = corner_place c b q [] r front back' h empty rule' done in
    record {
      walk = more corner rest.walk;
      hides = λ which. elim which [
        | inl ne ↦ here (record { corner = corner; hides = ne }) rest.walk
        | inr ne ↦ later corner
            (rest.hides (inr ne))
      ];
    })

pub hidden_hides : (g : GrammarView) (a : ℕ) → IsHiddenLeftRecursive g a → HiddenWalk g a a
hidden_hides g a (p, right, b, c, rule, r, ne, empty) = (corner_place a a p [] r b c refl empty rule done).hides (inr ne)

-- back: what a walk of corners derives
pub record Leads (g : GrammarView) (a b : ℕ) (front : List Symbol) : Type 0 where
  pub p : ℕ
  pub right : List Symbol
  pub back : List Symbol
  pub rule : IsProduction g p a right
  pub derives : Derives g right (front ++ Nonterminal b ∷ back)
  pub front_empty : Derives g front []

corner_leads : {g : GrammarView} {a b : ℕ} (c : IsLeftCorner g a b) → Leads g a b c.before
corner_leads {g} {b = b} c = record {
  p = c.p;
  right = c.before ++ Nonterminal b ∷ c.after;
  back = c.after;
  rule = c.rule;
  derives = Derives-same g (c.before ++ Nonterminal b ∷ c.after);
  front_empty = c.before_empty;
}

leads_then : {g : GrammarView} {a b d : ℕ} {u v : List Symbol} → Leads g a b u → Leads g b d v → Leads g a d (u ++ v)
leads_then {g} {a} {b} {d} {u} {v} x y = record {
  p = x.p;
  right = x.right;
  back = y.back ++ x.back;
  rule = x.rule;
  derives =
      let m : Derives g (u ++ Nonterminal b ∷ x.back) (u ++ ((v ++ Nonterminal d ∷ y.back) ++ x.back)) =
      Derives-append (Derives-same g u) (expand y.p b y.right (v ++ Nonterminal d ∷ y.back) x.back y.rule y.derives
      (Derives-same g x.back) refl) in
      let e : u ++ ((v ++ Nonterminal d ∷ y.back) ++ x.back) ≡ (u ++ v) ++ Nonterminal d ∷ (y.back ++ x.back) = simp append_assoc in
      subst (Derives g x.right) e (Derives-then x.derives m);
  front_empty = Derives-append x.front_empty y.front_empty;
}

walk_leads : {g : GrammarView} {a b : ℕ} → Walk (IsLeftCorner g) a b → (front : List Symbol) × Leads g a b front
walk_leads (one c) = (c.before, corner_leads c)
walk_leads (more c w) = let (front, l) = walk_leads w in (c.before ++ front, leads_then (corner_leads c) l)

append_not_nil : (u v : List Symbol) → (u ≡ [] → ⊥) ⊎ (v ≡ [] → ⊥) → u ++ v ≡ [] → ⊥
append_not_nil [] v (inl ne) e = ne refl
append_not_nil [] v (inr ne) e = ne e
append_not_nil (x ∷ u) v which e = cc

hides_leads : {g : GrammarView} {a b : ℕ} → HiddenWalk g a b → (front : List Symbol) × Leads g a b front × (front ≢ [])
hides_leads (last c) = (c.corner.before, corner_leads c.corner, c.hides)
hides_leads (here c w) = let (front, l) = walk_leads w in
    (c.corner.before ++ front, leads_then (corner_leads c.corner) l, append_not_nil c.corner.before front (inl c.hides))
hides_leads (later c h) = let (front, l, ne) = hides_leads h in
    (c.before ++ front, leads_then (corner_leads c) l, append_not_nil c.before front (inr ne))

pub hidden_is : (g : GrammarView) (a : ℕ) → IsHiddenLeftRecursive g a ↔ HiddenWalk g a a
hidden_is g a = (
  hidden_hides g a,
  λ h. let (front, l, ne) = hides_leads h in
      (l.p, l.right, front, l.back, l.rule, l.derives, ne, l.front_empty),
)
