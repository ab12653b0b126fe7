-- A row on the stack stands for the texts that may follow the tokens that were read, at each step.
use Rattle.std.proofs.Common.{◌≡◌, ℕ, zero, suc, ◌+◌, ◌≤◌, List, [], ◌∷◌, ◌++◌, Bool, true, false, not, Some, None, refl, sym, ap, ◌∙◌}
use Rattle.std.proofs.Common.{subst, arith, append_assoc}
use Rattle.std.specs.Prelude.{nat_lt, ◌↔◌}
use Rattle.std.proofs.lemmas.List.{append-nil}
use Rattle.wb_text_predictive.specs.declared.symbol.Symbol.{Symbol}
use Rattle.wb_text_predictive.specs.declared.symbol.Symbol.TheVariants.{Token, Nonterminal, Act}
use Rattle.wb_text_predictive.specs.declared.table.Placed.{Placed}
use Rattle.wb_text_predictive.specs.Grammar.{Grammar, Derives, done, token, expand, act, IsText, CanStart}
use Rattle.wb_text_predictive.specs.Entries.{Entry, is_below, is_decided, is_foreseen, is_followed}
use Rattle.wb_text_predictive.specs.Kinds.{is_member}
use Rattle.wb_text_predictive.specs.Choice.{choose}
use Rattle.wb_text_predictive.specs.Stack.{IsFollowed, Stands, Any, Begins, NoneFits}
use Rattle.wb_text_predictive.proofs.Members.{chosen_is}
use Rattle.wb_text_predictive.proofs.Rights.{right_facts, some_below}
use Rattle.wb_text_predictive.proofs.Derivations.{derives_append, act_in, token_in, token_kind, token_not_nil, nil_only_nil}
use Rattle.wb_text_predictive.proofs.Decides.{followed_append, decides, start_followed}
use Rattle.wb_lemmas.proofs.Booleans.{and_left, and_right, and_both, not_true}

module _ {K N A : Type 0} (entries : N → Entry K) where
  -- a row that is below a rank is below a higher one
  below_more : (m n : ℕ) (f : List (Symbol K N A)) → is_below entries m f ≡ true → m ≤ n → is_below entries n f ≡ true
  below_more m n [] h k = refl
  below_more m n (Token j ∷ f) h k = below_more m n f h k
  below_more m n (Act c ∷ f) h k = below_more m n f h k
  below_more m n (Nonterminal b ∷ f) h k =
      let l = and_left (nat_lt (entries b).rank m) (is_below entries m f) h in
      and_both (nat_lt (entries b).rank n) (is_below entries n f) (grind (arith, l))
      (below_more m n f (and_right (nat_lt (entries b).rank m) (is_below entries m f) h) k)

  -- every row is below some rank
  some_rank : (f : List (Symbol K N A)) → (n : ℕ) × (is_below entries n f ≡ true)
  some_rank [] = (0, refl)
  some_rank (Token k ∷ f) = some_rank f
  some_rank (Act c ∷ f) = some_rank f
  some_rank (Nonterminal b ∷ f) =
      let h = some_rank f in
      let le : h.0 ≤ h.0 + suc (entries b).rank = omega arith in
      let lt : nat_lt (entries b).rank (h.0 + suc (entries b).rank) ≡ true = grind arith in (
        h.0 + suc (entries b).rank,
        and_both (nat_lt (entries b).rank (h.0 + suc (entries b).rank))
            (is_below entries (h.0 + suc (entries b).rank) f) lt (below_more h.0 (h.0 + suc (entries b).rank) f h.1 le),
      )

module _ {K N A : Type 0} (same : K → K → Bool) (end : K) where
  -- no token of the row is the end
  abbrev NamesNoEnd : List (Symbol K N A) → Type 0
  NamesNoEnd [] = Unit {0}
  NamesNoEnd (Token k ∷ f) = (same k end ≡ false) × NamesNoEnd f
  NamesNoEnd (Act c ∷ f) = NamesNoEnd f
  NamesNoEnd (Nonterminal n ∷ f) = NamesNoEnd f

module _ {K N A : Type 0} (same : K → K → Bool) (end : K) (entries : N → Entry K) where
  -- by the test
  no_end_test : (follow : List K) (f : List (Symbol K N A)) → is_followed same end entries follow f ≡ true → NamesNoEnd same end f
  no_end_test follow [] h = tt
  no_end_test follow (Token k ∷ f) h = (
    not_true (same k end) (and_left (not (same k end)) (is_followed same end entries follow f) h),
    no_end_test follow f (and_right (not (same k end)) (is_followed same end entries follow f) h),
  )
  no_end_test follow (Act c ∷ f) h = no_end_test follow f h
  no_end_test follow (Nonterminal n ∷ f) h =
      no_end_test follow f (and_right (is_foreseen same entries f follow (entries n).follow) (is_followed same end entries follow f) h)

  -- by what is known of the stack
  no_end_row : (f : List (Symbol K N A)) → IsFollowed same end entries f → NamesNoEnd same end f
  no_end_row [] h = tt
  no_end_row (Token k ∷ f) h = (h.0, no_end_row f h.1)
  no_end_row (Act c ∷ f) h = no_end_row f h
  no_end_row (Nonterminal n ∷ f) h = no_end_row f h.1

module _ {K N A X V : Type 0} (same : K → K → Bool) (exact : (a b : K) → (same a b ≡ true) ↔ (a ≡ b))
    (end : K) (entries : N → Entry K) (g : Grammar K N A X V) (decided : (n : N) → is_decided same end entries g.rights n ≡ true) where
  module _ (sampled : (k : K) → same k end ≡ false → (x : X) × (g.kind_of x ≡ k)) where
    -- rows of less rank derive some text
    ends_below : (n : ℕ) (f : List (Symbol K N A)) (a : V) → is_below entries n f ≡ true
        → NamesNoEnd same end f → (w : List (Placed X)) × (b : V) × Derives g f w a b
    ends_below n [] a h e = ([], a, done refl refl)
    ends_below n (Token k ∷ f) a h e =
        let s = sampled k e.0 in
        let x : Placed X = record { token = s.0; at = 0; end = 0 } in
        let i = ends_below n f (g.shift x.token x.at x.end a) h e.1 in
        (x ∷ i.0, i.1, token s.1 i.2 refl)
    ends_below n (Act c ∷ f) a h e = let i = ends_below n f (g.act c a) h e in (i.0, i.1, act i.2)
    ends_below zero (Nonterminal b ∷ f) a h e = let z = and_left (nat_lt (entries b).rank 0) (is_below entries 0 f) h in
        absurd (grind (arith, z))
    ends_below (suc n) (Nonterminal b ∷ f) a h e =
        let k = some_below same end entries g.rights b (decided b) in
        let facts = right_facts same end entries g.rights b (decided b) k.0 k.1 k.2 in
        let lt = and_left (nat_lt (entries b).rank (suc n)) (is_below entries (suc n) f) h in
        let le : (entries b).rank ≤ n = grind (arith, lt) in
        let inner = ends_below n k.1 a (below_more entries (entries b).rank n k.1 k.3 le)
        (no_end_test same end entries (entries b).follow k.1 facts.followed) in
        let i = ends_below (suc n) f inner.1 (and_right (nat_lt (entries b).rank (suc n)) (is_below entries (suc n) f) h) e in
        (inner.0 ++ i.0, i.1, expand k.0 k.2 (derives_append g f i.0 i.1 inner.2 i.2))

    -- what was read can go on
    pub can_go_on : (first : V) (read : List (Placed X)) (row : List (Symbol K N A)) (now : V) (F : List (Placed X) → Type 0)
        → Stands same end entries g first read row now F → CanStart g first read
    can_go_on first read row now F s =
        let n = some_rank entries row in
        let e = ends_below n.0 row now n.1 (no_end_row same end entries row s.followed) in
        record { rest = e.0; last = e.1; text = s.sound e.0 e.1 e.2 }

  -- at the start
  pub stands_first : is_member same end (entries g.start).follow ≡ true → (first : V)
      → Stands same end entries g first [] (Nonterminal g.start ∷ []) first Any
  stands_first e first = record {
    sound = λ v last d. d;
    complete = λ v last f d. d;
    followed = start_followed A same end entries g.start e;
  }

  -- with a token ahead
  pub going : (first : V) (read : List (Placed X)) (row : List (Symbol K N A)) (now : V) (k : K)
      → Stands same end entries g first read row now Any → Stands same end entries g first read row now (Begins g.kind_of end k)
  going first read row now k s = record { sound = s.sound; complete = λ v last h d. s.complete v last tt d; followed = s.followed }

  -- an action on top
  pub acts : (first : V) (read : List (Placed X)) (c : A) (f : List (Symbol K N A)) (now : V) (F : List (Placed X) → Type 0)
      → Stands same end entries g first read (Act c ∷ f) now F → Stands same end entries g first read f (g.act c now) F
  acts first read c f now F s = record {
    sound = λ v last d. s.sound v last (act d);
    complete = λ v last fits d. act_in g c f v now last (s.complete v last fits d);
    followed = s.followed;
  }

  -- a nonterminal on top, and the right side that is chosen at the kind ahead
  pub expands : (first : V) (read : List (Placed X)) (n : N) (f : List (Symbol K N A)) (now : V) (k : K) (right : List (Symbol K N A))
      → choose same (g.rights n) (entries n).kinds k ≡ Some right
      → Stands same end entries g first read (Nonterminal n ∷ f) now (Begins g.kind_of end k)
      → Stands same end entries g first read (right ++ f) now (Begins g.kind_of end k)
  expands first read n f now k right c s =
      let h = chosen_is same (g.rights n) (entries n).kinds k right c in
      let facts = right_facts same end entries g.rights n (decided n) h.0 right h.1 in
      record {
        sound = λ v last d. s.sound v last (expand h.0 h.1 d);
        complete = λ v last b d.
            (let m = decides same exact end entries g decided n f v now last s.followed.0 (s.complete v last b d) in
            let e : m.0 ≡ right = (let i = sym m.1 ∙ ap (choose same (g.rights n) (entries n).kinds) b ∙ c in cc) in
            subst (λ r. Derives g (r ++ f) v now last) e m.2);
        followed = followed_append same exact end entries (entries n).follow right f facts.followed s.followed.0 s.followed.1;
      }

  -- where none is chosen, no text goes on at that kind
  pub stuck_nonterminal : (first : V) (read : List (Placed X)) (n : N) (f : List (Symbol K N A)) (now : V) (k : K)
      → choose same (g.rights n) (entries n).kinds k ≡ None
      → Stands same end entries g first read (Nonterminal n ∷ f) now (Begins g.kind_of end k) → NoneFits g end k first read
  stuck_nonterminal first read n f now k c s = λ v last b d.
      let m = decides same exact end entries g decided n f v now last s.followed.0 (s.complete v last b d) in
      let i = sym c ∙ ap (choose same (g.rights n) (entries n).kinds) (sym b) ∙ m.1 in
      absurd (cc)

  -- the token on top, and a token of its kind ahead
  pub takes : (first : V) (read : List (Placed X)) (x : Placed X) (f : List (Symbol K N A)) (now : V) (k : K)
      → k ≡ g.kind_of x.token → Stands same end entries g first read (Token k ∷ f) now (Begins g.kind_of end (g.kind_of x.token))
      → Stands same end entries g first (read ++ x ∷ []) f (g.shift x.token x.at x.end now) Any
  takes first read x f now k e s = record {
    sound = λ v last d. subst (λ w. IsText g first w last) (sym (append_assoc read (x ∷ []) v))
        (s.sound (x ∷ v) last (token (sym e) d refl));
    complete = λ v last fits d. token_in g k x v f now last (s.complete (x ∷ v) last refl
        (subst (λ w. IsText g first w last) (append_assoc read (x ∷ []) v) d));
    followed = s.followed.1;
  }

  -- where none fits, a token of that kind can't follow
  pub none_starts : (first : V) (read : List (Placed X)) (x : Placed X) → NoneFits g end (g.kind_of x.token) first read
      → CanStart g first (read ++ x ∷ []) → ⊥
  none_starts first read x h c =
      h (x ∷ c.rest) c.last refl (subst (λ w. IsText g first w c.last) (append_assoc read (x ∷ []) c.rest) c.text)

  -- where none fits at the end, the tokens are no text
  pub none_ends : (first : V) (read : List (Placed X)) → NoneFits g end end first read → (last : V) → IsText g first read last → ⊥
  none_ends first read h last d = h [] last refl (subst (λ w. IsText g first w last) (sym (append-nil read)) d)

  -- another token on top
  pub other_token : (first : V) (read : List (Placed X)) (j : K) (f : List (Symbol K N A)) (now : V) (k : K)
      → (j ≡ k → ⊥) → Stands same end entries g first read (Token j ∷ f) now (Begins g.kind_of end k) → NoneFits g end k first read
  other_token first read j f now k differ s = λ v last b d. differ (sym (token_kind g j end v f now last (s.complete v last b d)) ∙ b)

  -- a token on top at the end
  pub token_at_end : (first : V) (read : List (Placed X)) (j : K) (f : List (Symbol K N A)) (now : V)
      → Stands same end entries g first read (Token j ∷ f) now (Begins g.kind_of end end) → (last : V) → IsText g first read last → ⊥
  token_at_end first read j f now s last d =
      token_not_nil g j f now last (s.complete [] last refl (subst (λ w. IsText g first w last) (sym (append-nil read)) d))

  -- nothing on the stack, and a token ahead
  pub nothing_follows : (first : V) (read : List (Placed X)) (x : Placed X) (now : V)
      → Stands same end entries g first read [] now (Begins g.kind_of end (g.kind_of x.token)) → CanStart g first (read ++ x ∷ []) → ⊥
  nothing_follows first read x now s c =
      nil_only_nil g x c.rest now c.last (s.complete (x ∷ c.rest) c.last refl
      (subst (λ w. IsText g first w c.last) (append_assoc read (x ∷ []) c.rest) c.text))

  -- nothing on the stack at the end: the tokens are a text with these values
  pub finished : (first : V) (read : List (Placed X)) (now : V) → Stands same end entries g first read [] now (Begins g.kind_of end end)
      → IsText g first read now
  finished first read now s = subst (λ w. IsText g first w now) (append-nil read) (s.sound [] now (done refl refl))
