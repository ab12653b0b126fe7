-- What a grammar derives depends on the kinds of the tokens alone. So where kinds are changed, and each right side with changed kinds is one
-- of the grammar too, the changed tokens are derived.
use Rattle.std.proofs.Common.{◌≡◌, ℕ, List, [], ◌∷◌, ◌++◌, Some, refl, sym, ap, ◌∙◌, subst, slice_get}
use Rattle.wb_text_predictive.specs.declared.symbol.Symbol.{Symbol}
use Rattle.wb_text_predictive.specs.declared.symbol.Symbol.TheVariants.{Token, Nonterminal, Act}
use Rattle.wb_text_predictive.specs.declared.table.Placed.{Placed}
use Rattle.wb_text_predictive.specs.Grammar.{Grammar, Derives, done, token, expand, act}

-- the second tokens are of the kinds of the first, each changed so
pub data ChangedKinds {K X : Type 0} (kind_of : X → K) (change : K → K) : List (Placed X) → List (Placed X) → Type 0 where
  none : ChangedKinds kind_of change [] []
  more : {x y : Placed X} {xs ys : List (Placed X)} → kind_of y.token ≡ change (kind_of x.token) → ChangedKinds kind_of change xs ys
      → ChangedKinds kind_of change (x ∷ xs) (y ∷ ys)

-- a first token of the changed kind, and others
record Headed {K X : Type 0} (kind_of : X → K) (change : K → K) (x : Placed X) (xs ys : List (Placed X)) : Type 0 where
  head : Placed X
  tail : List (Placed X)
  same : kind_of head.token ≡ change (kind_of x.token)
  others : ChangedKinds kind_of change xs tail
  whole : ys ≡ head ∷ tail

-- tokens of changed kinds have them
headed : {K X : Type 0} (kind_of : X → K) (change : K → K) (x : Placed X) (xs ys : List (Placed X))
    → ChangedKinds kind_of change (x ∷ xs) ys → Headed kind_of change x xs ys
headed kind_of change x xs ys (more {y = y} {ys = rest} e s) = record { head = y; tail = rest; same = e; others = s; whole = refl }

-- no tokens are of the kinds of none
nothing : {K X : Type 0} (kind_of : X → K) (change : K → K) (ys : List (Placed X)) → ChangedKinds kind_of change [] ys → ys ≡ []
nothing kind_of change ys none = refl

-- the kinds of these tokens stay
abbrev pub Stay : {K X : Type 0} → (X → K) → (K → K) → List (Placed X) → Type 0
Stay kind_of change [] = Unit {0}
Stay kind_of change (x ∷ xs) = (change (kind_of x.token) ≡ kind_of x.token) × Stay kind_of change xs

-- tokens before them whose kinds stay are of their own kinds
pub changed_before : {K X : Type 0} (kind_of : X → K) (change : K → K) (front xs ys : List (Placed X))
    → Stay kind_of change front → ChangedKinds kind_of change xs ys → ChangedKinds kind_of change (front ++ xs) (front ++ ys)
changed_before kind_of change [] xs ys stay s = s
changed_before kind_of change (x ∷ front) xs ys stay s = more (sym stay.0) (changed_before kind_of change front xs ys stay.1 s)

-- the second symbols are the first with changed kinds, and with any actions
pub data AreChanged {K N A : Type 0} (change : K → K) : List (Symbol K N A) → List (Symbol K N A) → Type 0 where
  no_symbol : AreChanged change [] []
  token_too : {k l : K} {f h : List (Symbol K N A)} → l ≡ change k → AreChanged change f h → AreChanged change (Token k ∷ f) (Token l ∷ h)
  nonterminal_too : {n m : N} {f h : List (Symbol K N A)} → m ≡ n → AreChanged change f h
      → AreChanged change (Nonterminal n ∷ f) (Nonterminal m ∷ h)
  act_too : {c d : A} {f h : List (Symbol K N A)} → AreChanged change f h → AreChanged change (Act c ∷ f) (Act d ∷ h)

-- the same of symbols before them
changed_row : {K N A : Type 0} (change : K → K) {e g f h : List (Symbol K N A)} → AreChanged change e g → AreChanged change f h
    → AreChanged change (e ++ f) (g ++ h)
changed_row change no_symbol s = s
changed_row change (token_too is r) s = token_too is (changed_row change r s)
changed_row change (nonterminal_too is r) s = nonterminal_too is (changed_row change r s)
changed_row change (act_too r) s = act_too (changed_row change r s)

-- a right side among these that is this one with changed kinds
pub record HasChanged {K N A : Type 0} (change : K → K) (rights : List (List (Symbol K N A))) (right : List (Symbol K N A)) : Type 0 where
  pub place : ℕ
  pub other : List (Symbol K N A)
  pub there : slice_get rights place ≡ Some other
  pub changed : AreChanged change right other

module _ {K N A X V : Type 0} (g : Grammar K N A X V) (change : K → K)
    (allowed : (n : N) (p : ℕ) (right : List (Symbol K N A)) → slice_get (g.rights n) p ≡ Some right → HasChanged change (g.rights n) right) where
  -- tokens of changed kinds are derived, from any values
  pub derives_changed : {f h : List (Symbol K N A)} {v : List (Placed X)} {a b : V} → Derives g f v a b → AreChanged change f h
      → (w : List (Placed X)) (c : V) → ChangedKinds g.kind_of change v w → (d : V) × Derives g h w c d
  derives_changed (done e i) no_symbol w c s =
      (c, done (nothing g.kind_of change w (subst (λ v. ChangedKinds g.kind_of change v w) e s)) refl)
  derives_changed (token {x = x} {v = v} q d e) (token_too is r) w c s =
      let h = headed g.kind_of change x v w (subst (λ u. ChangedKinds g.kind_of change u w) e s) in
      let i = derives_changed d r h.tail (g.shift h.head.token h.head.at h.head.end c) h.others in
      (i.0, token (h.same ∙ (ap change q ∙ sym is)) i.1 h.whole)
  derives_changed (expand {n = n} {right = right} p there d) (nonterminal_too {h = rest} is r) w c s =
      let q = allowed n p right there in
      let i = derives_changed d (changed_row change q.changed r) w c s in
      (i.0, subst (λ m. Derives g (Nonterminal m ∷ rest) w c i.0) (sym is) (expand q.place q.there i.1))
  derives_changed (act d) (act_too {d = action} r) w c s = let i = derives_changed d r w (g.act action c) s in (i.0, act i.1)
