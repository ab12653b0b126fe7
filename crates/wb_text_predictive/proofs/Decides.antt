-- Where the entries pass the test, one token of lookahead decides which right side comes next.
use Rattle.std.proofs.Common.{◌≡◌, ℕ, List, [], ◌∷◌, ◌++◌, Bool, true, false, not, cond, Some, ◌⊎◌, inl, inr, ⊎_elim, refl, sym, ap, ◌∙◌}
use Rattle.std.proofs.Common.{subst}
use Rattle.std.specs.Prelude.{slice_get, ◌↔◌}
use Rattle.wb_text_predictive.specs.declared.symbol.Symbol.{Symbol}
use Rattle.wb_text_predictive.specs.declared.symbol.Symbol.TheVariants.{Token, Nonterminal, Act}
use Rattle.wb_text_predictive.specs.declared.table.Placed.{Placed}
use Rattle.wb_text_predictive.specs.Grammar.{Grammar, Derives, done, token, expand, act}
use Rattle.wb_text_predictive.specs.Entries.{Entry, all_nullable, firsts, is_foreseen, is_followed, is_decided}
use Rattle.wb_text_predictive.specs.Kinds.{implies, is_member, is_subset}
use Rattle.wb_text_predictive.specs.Choice.{choose}
use Rattle.wb_text_predictive.specs.Stack.{lookahead, Foresees, IsFollowed}
use Rattle.wb_text_predictive.proofs.Booleans.{implied}
use Rattle.wb_text_predictive.proofs.Derivations.{act_in, token_in, nil_same}
use Rattle.wb_text_predictive.proofs.Members.{member_left, member_right, joined_cases, subset_member, chosen}
use Rattle.wb_text_predictive.proofs.Rights.{right_facts, apart}
use Rattle.wb_lemmas.proofs.Booleans.{and_left, and_right, and_both, or_left, not_true}

module _ {K N A : Type 0} (entries : N → Entry K) where
  -- a row that can be nothing is made of two that can
  pub nullable_append : (f g : List (Symbol K N A)) → all_nullable entries (f ++ g) ≡ true
      → (all_nullable entries f ≡ true) × (all_nullable entries g ≡ true)
  nullable_append [] g h = (refl, h)
  nullable_append (Token k ∷ f) g h = absurd (cc)
  nullable_append (Act c ∷ f) g h = nullable_append f g h
  nullable_append (Nonterminal n ∷ f) g h =
      let i = nullable_append f g (and_right (entries n).nullable (all_nullable entries (f ++ g)) h) in
      (and_both (entries n).nullable (all_nullable entries f) (and_left (entries n).nullable (all_nullable entries (f ++ g)) h) i.0, i.1)

module _ {K N A : Type 0} (same : K → K → Bool) (entries : N → Entry K) where
  -- a kind with which a row can begin comes from its first part, or from the second where the first can be nothing
  pub firsts_cases : (k : K) (f g : List (Symbol K N A)) → is_member same k (firsts entries (f ++ g)) ≡ true
      → (is_member same k (firsts entries f) ≡ true) ⊎ ((all_nullable entries f ≡ true) × (is_member same k (firsts entries g) ≡ true))
  firsts_cases k [] g h = inr (refl, h)
  firsts_cases k (Token j ∷ f) g h = inl h
  firsts_cases k (Act c ∷ f) g h = firsts_cases k f g h
  firsts_cases k (Nonterminal n ∷ f) g h = joined_cases same k (entries n).nullable (all_nullable entries f)
      (entries n).first (firsts entries f) (firsts entries (f ++ g)) (firsts entries g) (firsts_cases k f g) h

module _ {K N A : Type 0} (same : K → K → Bool) (exact : (a b : K) → (same a b ≡ true) ↔ (a ≡ b)) (end : K) (entries : N → Entry K) where
  -- what the test of a row foresees, with what follows it
  pub foresees_append : (f g : List (Symbol K N A)) (follow ks : List K) → is_foreseen same entries f follow ks ≡ true
      → Foresees same end entries g follow → Foresees same end entries (f ++ g) ks
  foresees_append f g follow ks h s =
      let near = and_left (is_subset same (firsts entries f) ks) (implies (all_nullable entries f) (is_subset same follow ks)) h in
      let far = implied (all_nullable entries f) (is_subset same follow ks)
      (and_right (is_subset same (firsts entries f) ks) (implies (all_nullable entries f) (is_subset same follow ks)) h) in (
        (λ k m. ⊎_elim (subset_member same exact k (firsts entries f) ks near)
            (λ c. subset_member same exact k follow ks (far c.0) (s.0 k c.1)) (firsts_cases same entries k f g m)),
        (λ m. let i = nullable_append entries f g m in subset_member same exact end follow ks (far i.0) (s.1 i.1)),
      )

  -- a right side on top of a row whose nonterminals are followed as their entries say
  pub followed_append : (follow : List K) (f g : List (Symbol K N A)) → is_followed same end entries follow f ≡ true
      → Foresees same end entries g follow → IsFollowed same end entries g → IsFollowed same end entries (f ++ g)
  followed_append follow [] g h s l = l
  followed_append follow (Token k ∷ f) g h s l = (
    not_true (same k end) (and_left (not (same k end)) (is_followed same end entries follow f) h),
    followed_append follow f g (and_right (not (same k end)) (is_followed same end entries follow f) h) s l,
  )
  followed_append follow (Act c ∷ f) g h s l = followed_append follow f g h s l
  followed_append follow (Nonterminal n ∷ f) g h s l = (
    foresees_append f g follow (entries n).follow (and_left (is_foreseen same entries f follow (entries n).follow)
        (is_followed same end entries follow f) h) s,
    followed_append follow f g (and_right (is_foreseen same entries f follow (entries n).follow)
        (is_followed same end entries follow f) h) s l,
  )

-- the start on the empty stack
pub start_followed : {K N : Type 0} (A : Type 0) (same : K → K → Bool) (end : K) (entries : N → Entry K) (start : N)
    → is_member same end (entries start).follow ≡ true → IsFollowed {A = A} same end entries (Nonterminal start ∷ [])
start_followed A same end entries start e = (((λ k h. let z : false ≡ true = h in cc), (λ h. e)), tt)

module _ {K N A X V : Type 0} (same : K → K → Bool) (exact : (a b : K) → (same a b ≡ true) ↔ (a ≡ b))
    (end : K) (entries : N → Entry K) (g : Grammar K N A X V) (decided : (n : N) → is_decided same end entries g.rights n ≡ true) where
  -- what derives a text can begin with its first token
  begins : {f : List (Symbol K N A)} {w : List (Placed X)} {a b : V} (x : Placed X) (v : List (Placed X))
      → Derives g f w a b → w ≡ x ∷ v → is_member same (g.kind_of x.token) (firsts entries f) ≡ true
  begins x v (done e h) i = let j = sym e ∙ i in absurd (cc)
  begins x v (token {k} {x = y} {v = u} q d e) i = let z : y ≡ x = (let j = sym e ∙ i in cc) in
      or_left (same k (g.kind_of x.token)) false ((exact k (g.kind_of x.token)).1 (sym q ∙ ap (λ y. g.kind_of y.token) z))
  begins x v (act d) i = begins x v d i
  begins x v (expand {n} {f} {right = r} p h d) i =
      let k = g.kind_of x.token in
      let facts = right_facts same end entries g.rights n (decided n) p r h in
      ⊎_elim
      (λ q. member_left same k (entries n).first _ (subset_member same exact k (firsts entries r) (entries n).first facts.first q))
      (λ q. let e : (entries n).nullable ≡ true = implied (all_nullable entries r) (entries n).nullable facts.nullable q.0 in
      member_right same k (entries n).first _ (subst (λ b. is_member same k (cond b (firsts entries f) []) ≡ true) (sym e) q.1))
      (firsts_cases same entries k r f (begins x v d i))

  -- what derives nothing can be nothing
  empties : {f : List (Symbol K N A)} {w : List (Placed X)} {a b : V} → Derives g f w a b → w ≡ [] → all_nullable entries f ≡ true
  empties (done e h) i = refl
  empties (token q d e) i = let j = sym e ∙ i in absurd (cc)
  empties (act d) i = empties d i
  empties (expand {n} {f} {right = r} p h d) i =
      let facts = right_facts same end entries g.rights n (decided n) p r h in
      let j = nullable_append entries r f (empties d i) in
      and_both (entries n).nullable (all_nullable entries f) (implied (all_nullable entries r) (entries n).nullable facts.nullable j.0) j.1

  -- the kind ahead of a text that a row derives is foreseen
  looks : (f : List (Symbol K N A)) (w : List (Placed X)) (a b : V) (ks : List K) → Foresees same end entries f ks
      → Derives g f w a b → is_member same (lookahead g.kind_of end w) ks ≡ true
  looks f [] a b ks s d = s.1 (empties d refl)
  looks f (x ∷ w) a b ks s d = s.0 (g.kind_of x.token) (begins x w d refl)

  -- a right side that derives a text in this place is chosen at the kind ahead
  chosen_by : (n : N) (f : List (Symbol K N A)) (w : List (Placed X)) (a b : V) (p : ℕ) (r : List (Symbol K N A))
      → Foresees same end entries f (entries n).follow → slice_get (g.rights n) p ≡ Some r
      → Derives g (r ++ f) w a b → choose same (g.rights n) (entries n).kinds (lookahead g.kind_of end w) ≡ Some r
  chosen_by n f w a b p r s h d =
      let facts = right_facts same end entries g.rights n (decided n) p r h in
      let m = looks (r ++ f) w a b facts.kinds (foresees_append same exact end entries r f
      (entries n).follow facts.kinds facts.foreseen s) d in
      chosen same exact (g.rights n) (entries n).kinds (lookahead g.kind_of end w) p r facts.kinds
      (apart same end entries g.rights n (decided n)) h facts.beside m

  -- one token of lookahead decides the right side
  pub decides : (n : N) (f : List (Symbol K N A)) (w : List (Placed X)) (a b : V) → Foresees same end entries f (entries n).follow
      → Derives g (Nonterminal n ∷ f) w a b
      → (r : List (Symbol K N A)) × (choose same (g.rights n) (entries n).kinds (lookahead g.kind_of end w) ≡ Some r)
      × Derives g (r ++ f) w a b
  decides n f w a b s (expand {right = r} p h d) = (r, chosen_by n f w a b p r s h d, d)

  -- the values that a row makes of a text are the only ones
  pub one_value : {f : List (Symbol K N A)} {w : List (Placed X)} {a b : V} (c : V) → IsFollowed same end entries f
      → Derives g f w a b → Derives g f w a c → b ≡ c
  one_value {w = w} c l (done e h) t = sym h ∙ nil_same g w _ c t
  one_value {a = a} c l (token {k = k} {f = f} {x = x} {v = v} q d e) t =
      one_value c l.1 d (token_in g k x v f a c (subst (λ w. Derives g (Token k ∷ f) w a c) e t))
  one_value {w = w} {a = a} c l (act {c = k} {f = f} d) t = one_value c l d (act_in g k f w a c t)
  one_value {w = w} {a = a} {b = b} c l (expand {n = n} {f = f} {right = r} p h d) t =
      let facts = right_facts same end entries g.rights n (decided n) p r h in
      let m = decides n f w a c l.0 t in
      let i : m.0 ≡ r = (let j = sym m.1 ∙ chosen_by n f w a b p r l.0 h d in cc) in
      one_value c (followed_append same exact end entries (entries n).follow r f facts.followed l.0 l.1) d
      (subst (λ z. Derives g (z ++ f) w a c) i m.2)
