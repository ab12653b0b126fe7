-- Laws of derivations.
use Rattle.std.proofs.Common.{◌≡◌, ℕ, List, [], ◌∷◌, ◌++◌, refl, sym, ◌∙◌, ap, subst, append_assoc, inl, inr, ◌⊎◌}
use Rattle.std.specs.Prelude.{◌↔◌}
use Rattle.wb_base.specs.declared.symbol.Symbol.{Symbol}
use Rattle.wb_base.specs.declared.symbol.Symbol.TheVariants.{Terminal, Nonterminal}
use Rattle.wb_base.specs.Grammar.{GrammarView}
use Rattle.wb_grammar_theory.specs.Derives.{Derives, done, keep, expand, IsFirst, Steps, stop, step}

pub Derives-same : (g : GrammarView) (w : List Symbol) → Derives g w w
Derives-same g [] = done
Derives-same g (x ∷ w) = keep x (Derives-same g w)

pub Derives-append : {g : GrammarView} {a b c d : List Symbol} → Derives g a b → Derives g c d → Derives g (a ++ c) (b ++ d)
Derives-append done e = e
Derives-append (keep x r) e = keep x (Derives-append r e)
Derives-append {d = d} (expand p a right u v rule r s is) e =
    expand p a right u (v ++ d) rule r (Derives-append s e) (ap (λ z. z ++ d) is ∙ append_assoc u v d)

-- what a joined list derives is joined of what its parts derive
pub record Split (g : GrammarView) (a b x : List Symbol) : Type 0 where
  pub left : List Symbol
  pub right : List Symbol
  pub is : x ≡ left ++ right
  pub of_left : Derives g a left
  pub of_right : Derives g b right

pub Derives-split : {g : GrammarView} (a : List Symbol) {b x : List Symbol} → Derives g (a ++ b) x → Split g a b x
Derives-split [] {x = x} r = record { left = []; right = x; is = refl; of_left = done; of_right = r }
Derives-split (y ∷ a) (keep x r) =
    let s = Derives-split a r in
    record { left = y ∷ s.left; right = s.right; is = ap (λ z. y ∷ z) s.is; of_left = keep y s.of_left; of_right = s.of_right }
Derives-split (y ∷ a) (expand p b right u v rule r s is) =
    let t = Derives-split a s in
    record {
      left = u ++ t.left;
      right = t.right;
      is = is ∙ (ap (λ z. u ++ z) t.is ∙ sym (append_assoc u t.left t.right));
      of_left = expand p b right u t.left rule r t.of_left refl;
      of_right = t.of_right;
    }

-- a derivation goes on
pub Derives-then : {g : GrammarView} {a b c : List Symbol} → Derives g a b → Derives g b c → Derives g a c
Derives-then done e = e
Derives-then (keep x r) (keep y e) = keep y (Derives-then r e)
Derives-then (keep x r) (expand p b right u v rule e f is) = expand p b right u v rule e (Derives-then r f) is
Derives-then {g} {c = c} (expand p a right u v rule r s is) e =
    let t = Derives-split u (subst (λ z. Derives g z c) is e) in
    expand p a right t.left t.right rule (Derives-then r t.of_left) (Derives-then s t.of_right) t.is

-- joined lists that are empty are empty
pub nil_parts : (u v : List Symbol) → [] ≡ u ++ v → (u ≡ []) × (v ≡ [])
nil_parts [] v e = (refl, sym e)
nil_parts (x ∷ u) v e = cc

-- the empty list derives only itself
pub Derives-nil : {g : GrammarView} {x : List Symbol} → Derives g [] x → x ≡ []
Derives-nil done = refl

-- a list derives the empty text exactly where its symbols do
pub record NullableCons (g : GrammarView) (x : Symbol) (w : List Symbol) : Type 0 where
  pub head : Derives g (x ∷ []) []
  pub tail : Derives g w []

pub Nullable-parts : {g : GrammarView} (x : Symbol) (w : List Symbol) → Derives g (x ∷ w) [] → NullableCons g x w
Nullable-parts {g} x w r =
    let s = Derives-split (x ∷ []) r in
    let p = nil_parts s.left s.right s.is in
    record { head = subst (λ z. Derives g (x ∷ []) z) (p.0) s.of_left; tail = subst (λ z. Derives g w z) (p.1) s.of_right }

-- a terminal doesn't derive the empty text
pub Terminal-not_nullable : {g : GrammarView} {t : ℕ} {w : List Symbol} → Derives g (Terminal t ∷ w) [] → ⊥
Terminal-not_nullable r = elim r [ ]

-- what begins with t is of the head, or the head is empty and it is of the tail
pub First-cons : {g : GrammarView} (x : Symbol) (w : List Symbol) (t : ℕ) → IsFirst g (x ∷ w) t → IsFirst g (x ∷ []) t ⊎
    (Derives g (x ∷ []) [] × IsFirst g w t)
First-cons {g} x w t (v, r) =
    let s = Derives-split (x ∷ []) r in go s.left s.right s.is s.of_left s.of_right
  where
    go : (left right : List Symbol) → Terminal t ∷ v ≡ left ++ right → Derives g (x ∷ []) left → Derives g w right → IsFirst g (x ∷ []) t ⊎
        (Derives g (x ∷ []) [] × IsFirst g w t)
    go [] right is l r = inr (l, (v, subst (λ z. Derives g w z) (sym is) r))
    go (y ∷ left) right is l r =
        let e : y ≡ Terminal t = cc in inl (left, subst (λ z. Derives g (x ∷ []) (z ∷ left)) e l)

pub First-of_head : {g : GrammarView} (x : Symbol) (w : List Symbol) (t : ℕ) → IsFirst g (x ∷ []) t → IsFirst g (x ∷ w) t
First-of_head {g} x w t (v, r) = (v ++ w, Derives-append r (Derives-same g w))

pub First-of_tail : {g : GrammarView} (x : Symbol) (w : List Symbol) (t : ℕ) → Derives g (x ∷ []) [] → IsFirst g w t → IsFirst g (x ∷ w) t
First-of_tail x w t n (v, r) = (v, Derives-append n r)

-- the textbook's form is the same relation
Steps-inside : {g : GrammarView} (before after : List Symbol) {w v : List Symbol} → Steps g w v →
    Steps g (before ++ w ++ after) (before ++ v ++ after)
Steps-inside before after stop = stop
Steps-inside {g} before after {w} {v} (step b a p n right rule is r) =
    step (before ++ b) (a ++ after) p n right rule (rw is (simp append_assoc))
    (let e : before ++ b ++ right ++ (a ++ after) ≡ before ++ (b ++ right ++ a) ++ after = simp append_assoc in
    subst (λ z. Steps g z (before ++ v ++ after)) (sym e) (Steps-inside before after r))

Steps-then : {g : GrammarView} {a b c : List Symbol} → Steps g a b → Steps g b c → Steps g a c
Steps-then stop e = e
Steps-then (step b a p n right rule is r) e = step b a p n right rule is (Steps-then r e)

pub Derives-from_steps : {g : GrammarView} {w v : List Symbol} → Steps g w v → Derives g w v
Derives-from_steps {g} {w} stop = Derives-same g w
Derives-from_steps {g} {w} {v} (step before after p a right rule is r) =
    subst (λ z. Derives g z v) (sym is)
    (Derives-then
    (let m = Derives-append (Derives-same g before)
    (expand p a right right after rule (Derives-same g right) (Derives-same g after) refl) in
    let e : before ++ right ++ after ≡ before ++ (right ++ after) = simp append_assoc in
    subst (λ z. Derives g (before ++ Nonterminal a ∷ after) z) (sym e) m)
    (Derives-from_steps r))

pub append_nil : (w : List Symbol) → w ++ [] ≡ w
append_nil [] = refl
append_nil (x ∷ w) = ap (λ z. x ∷ z) (append_nil w)

pub Steps-from_derives : {g : GrammarView} {w v : List Symbol} → Derives g w v → Steps g w v
Steps-from_derives done = stop
Steps-from_derives {g} (keep x {w} {v} r) =
    let s = Steps-inside (x ∷ []) [] (Steps-from_derives r) in
    subst (λ z. Steps g (x ∷ w) z) (append_nil (x ∷ v)) (subst (λ z. Steps g z (x ∷ v ++ [])) (append_nil (x ∷ w)) s)
Steps-from_derives {g} (expand p a right u v {w} {x} rule r s is) =
    step [] w p a right rule refl
    (subst (λ z. Steps g (right ++ w) z) (sym is)
    (Steps-then (Steps-inside [] w (Steps-from_derives r))
    (let t = Steps-inside u [] (Steps-from_derives s) in
    subst (λ z. Steps g (u ++ w) z) (append_nil (u ++ v)) (subst (λ z. Steps g z (u ++ v ++ [])) (append_nil (u ++ w)) t))))

-- what begins what a joined list derives is of the first part, or the first part is empty and it is of the second
pub First-append : (g : GrammarView) (u v : List Symbol) (t : ℕ) →
    IsFirst g (u ++ v) t ↔ (IsFirst g u t ⊎ (Derives g u [] × IsFirst g v t))
First-append g u v t = (there, back)
  where
    go : (x left right : List Symbol) → Terminal t ∷ x ≡ left ++ right → Derives g u left → Derives g v right → IsFirst g u t ⊎
        (Derives g u [] × IsFirst g v t)
    go x [] right is l r = inr (l, (x, subst (λ z. Derives g v z) (sym is) r))
    go x (y ∷ left) right is l r = let e : y ≡ Terminal t = cc in inl (left, subst (λ z. Derives g u (z ∷ left)) e l)

    there : IsFirst g (u ++ v) t → IsFirst g u t ⊎ (Derives g u [] × IsFirst g v t)
    there (x, r) = let s = Derives-split u r in go x s.left s.right s.is s.of_left s.of_right

    back : IsFirst g u t ⊎ (Derives g u [] × IsFirst g v t) → IsFirst g (u ++ v) t
    back (inl (x, r)) = (x ++ v, Derives-append r (Derives-same g v))
    back (inr (n, (x, r))) = (x, Derives-append n r)
