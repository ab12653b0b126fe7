-- Which tokens can come, by what is on top of the stack.
use Rattle.std.proofs.Common.{◌≡◌, ◌≢◌, List, [], ◌∷◌, ◌++◌, Bool, true, false, sym, ◌∙◌, subst}
use Rattle.std.specs.Prelude.{◌↔◌, MatchBool}
use Rattle.wb_text_predictive.specs.declared.symbol.Symbol.{Symbol}
use Rattle.wb_text_predictive.specs.declared.symbol.Symbol.TheVariants.{Token}
use Rattle.wb_text_predictive.specs.declared.table.Placed.{Placed}
use Rattle.wb_text_predictive.specs.Grammar.{Grammar}
use Rattle.wb_text_predictive.specs.Entries.{Entry, is_decided}
use Rattle.wb_text_predictive.specs.Stack.{Any, Begins, NoneFits}
use Rattle.wb_text_predictive.proofs.Stacks.{can_go_on, none_starts, nothing_follows, other_token, takes}
use Rattle.wb_text_expected.specs.Expected.{ComesAfter}
use Rattle.wb_text_expected.specs.Inner.Bare.{StandsBare, bare}
use Rattle.wb_text_expected.proofs.BareLemmas.{start_erased, start_valued}

apart : false ≡ true → ⊥
apart e = absurd (cc)

module _ {K N A X V : Type 0} (same : K → K → Bool) (exact : (a b : K) → (same a b ≡ true) ↔ (a ≡ b))
    (end : K) (entries : N → Entry K) (g : Grammar K N A X V) (decided : (n : N) → is_decided same end entries g.rights n ≡ true) where
  -- where no text goes on at the kind, no token of it can come
  pub none_comes : (first : V) (read : List (Placed X)) (k : K) → NoneFits (bare g) end k tt read → ComesAfter g first read k → ⊥
  none_comes first read k fits c =
      none_starts same exact end entries (bare g) decided tt read c.0 (subst (λ j. NoneFits (bare g) end j tt read) c.1 fits)
      (start_erased g (read ++ c.0 ∷ []) first c.2)

  -- another token is on top
  pub other_comes : (first : V) (read : List (Placed X)) (j k : K) (row : List (Symbol K N A)) → (j ≡ k → ⊥)
      → StandsBare same end entries g read (Token j ∷ row) (Begins g.kind_of end k) → ComesAfter g first read k → ⊥
  other_comes first read j k row differ s =
      none_comes first read k (other_token same exact end entries (bare g) decided tt read j row tt k differ s)

  -- nothing is on the stack
  pub bottom_comes : (first : V) (read : List (Placed X)) (k : K) → StandsBare same end entries g read [] (Begins g.kind_of end k)
      → ComesAfter g first read k → ⊥
  bottom_comes first read k s c =
      nothing_follows same exact end entries (bare g) decided tt read c.0 tt
      (subst (λ j. StandsBare same end entries g read [] (Begins g.kind_of end j)) c.1 s) (start_erased g (read ++ c.0 ∷ []) first c.2)

  -- a token of the kind is on top: it is taken
  pub taken_by : (read : List (Placed X)) (x : Placed X) (k : K) (row : List (Symbol K N A)) → k ≡ g.kind_of x.token
      → StandsBare same end entries g read (Token k ∷ row) (Begins g.kind_of end k) → StandsBare same end entries g (read ++ x ∷ []) row Any
  taken_by read x k row e s =
      takes same exact end entries (bare g) decided tt read x row tt k e
      (subst (λ j. StandsBare same end entries g read (Token k ∷ row) (Begins g.kind_of end j)) e s)

  -- and some token of it can come
  pub token_comes : (sampled : (k : K) → same k end ≡ false → (x : X) × (g.kind_of x ≡ k)) (first : V) (read : List (Placed X)) (k : K)
      (row : List (Symbol K N A)) → StandsBare same end entries g read (Token k ∷ row) (Begins g.kind_of end k) → ComesAfter g first read k
  token_comes sampled first read k row s =
      let one = sampled k s.followed.0 in
      let x : Placed X = record { token = one.0; at = 0; end = 0 } in (
        x,
        sym one.1,
        start_valued g (read ++ x ∷ [])
            (can_go_on same exact end entries (bare g) decided sampled tt (read ++ x ∷ []) row tt Any (taken_by read x k row (sym one.1) s)) first,
      )

  -- so by the test whether the token on top is of the kind
  pub either_comes : (sampled : (k : K) → same k end ≡ false → (x : X) × (g.kind_of x ≡ k)) (first : V) (read : List (Placed X)) (j k : K)
      (row : List (Symbol K N A)) (b : Bool) → same j k ≡ b → StandsBare same end entries g read (Token j ∷ row) (Begins g.kind_of end k)
      → MatchBool b (ComesAfter g first read k) (ComesAfter g first read k → ⊥)
  either_comes sampled first read j k row true e s =
      token_comes sampled first read k row
      (subst (λ i. StandsBare same end entries g read (Token i ∷ row) (Begins g.kind_of end k)) ((exact j k).0 e) s)
  either_comes sampled first read j k row false e s = other_comes first read j k row (λ i. apart (sym e ∙ (exact j k).1 i)) s
