-- How derivations are put together and taken apart.
use Rattle.std.proofs.Common.{◌≡◌, List, [], ◌∷◌, ◌++◌, Some, refl, sym, ap, ◌∙◌, subst, append_assoc}
use Rattle.std.specs.Prelude.{slice_get}
use Rattle.wb_text_predictive.specs.declared.symbol.Symbol.{Symbol}
use Rattle.wb_text_predictive.specs.declared.symbol.Symbol.TheVariants.{Token, Nonterminal, Act}
use Rattle.wb_text_predictive.specs.declared.table.Placed.{Placed}
use Rattle.wb_text_predictive.specs.Grammar.{Grammar, Derives, done, token, expand, act}
use Rattle.wb_text_predictive.specs.Stack.{lookahead}

module _ {K N A X V : Type 0} (g : Grammar K N A X V) where
  -- texts of two rows, one after the other
  pub derives_append : {f : List (Symbol K N A)} {u : List (Placed X)} {a b : V} (h : List (Symbol K N A)) (v : List (Placed X)) (c : V)
      → Derives g f u a b → Derives g h v b c → Derives g (f ++ h) (u ++ v) a c
  derives_append {u = u} {a = a} h v c (done e i) d =
      subst (λ w. Derives g h (w ++ v) a c) (sym e) (subst (λ x. Derives g h v x c) (sym i) d)
  derives_append h v c (token q d e) i = token q (derives_append h v c d i) (ap (λ w. w ++ v) e)
  derives_append {u = u} {a = a} h v c (expand {f = f} {right = r} p s d) i =
      expand p s (subst (λ w. Derives g w (u ++ v) a c) (append_assoc r f h) (derives_append h v c d i))
  derives_append h v c (act d) i = act (derives_append h v c d i)

  -- what derives a text after an action derives it from the changed values
  pub act_in : (c : A) (f : List (Symbol K N A)) (w : List (Placed X)) (a b : V) → Derives g (Act c ∷ f) w a b → Derives g f w (g.act c a) b
  act_in c f w a b (act d) = d

  -- and after a token, from the values that it changed
  pub token_in : (k : K) (x : Placed X) (v : List (Placed X)) (f : List (Symbol K N A)) (a b : V)
      → Derives g (Token k ∷ f) (x ∷ v) a b → Derives g f v (g.shift x.token x.at x.end a) b
  token_in k x v f a b (token {x = y} {v = u} q d e) = let i : u ≡ v = cc in let j : y ≡ x = cc in
      subst (λ w. Derives g f w (g.shift x.token x.at x.end a) b) i (subst (λ w. Derives g f u (g.shift w.token w.at w.end a) b) j d)

  -- a row with a token on top derives only texts that begin with one of its kind
  pub token_kind : (k end : K) (v : List (Placed X)) (f : List (Symbol K N A)) (a b : V)
      → Derives g (Token k ∷ f) v a b → lookahead g.kind_of end v ≡ k
  token_kind k end v f a b (token q d e) = ap (lookahead g.kind_of end) e ∙ q

  -- and so no empty text
  pub token_not_nil : (k : K) (f : List (Symbol K N A)) (a b : V) → Derives g (Token k ∷ f) [] a b → ⊥
  token_not_nil k f a b (token q d e) = cc

  -- the empty row derives only the empty text
  pub nil_only_nil : (x : Placed X) (v : List (Placed X)) (a b : V) → Derives g [] (x ∷ v) a b → ⊥
  nil_only_nil x v a b (done e h) = cc

  -- and changes nothing
  pub nil_same : (w : List (Placed X)) (a b : V) → Derives g [] w a b → a ≡ b
  nil_same w a b (done e h) = h

  -- a text of two rows: a text of each, and the values between them
  pub record Split (f h : List (Symbol K N A)) (w : List (Placed X)) (a c : V) : Type 0 where
    pub front : List (Placed X)
    pub back : List (Placed X)
    pub middle : V
    pub joins : w ≡ front ++ back
    pub left : Derives g f front a middle
    pub right : Derives g h back middle c

  -- nothing before
  at_front : (h r : List (Symbol K N A)) (w : List (Placed X)) (a c : V) → r ≡ h → Derives g r w a c → Split [] h w a c
  at_front h r w a c e d = record {
    front = [];
    back = w;
    middle = a;
    joins = refl;
    left = done refl refl;
    right = subst (λ r. Derives g r w a c) e d;
  }

  -- by the derivation
  split_row : {r : List (Symbol K N A)} {w : List (Placed X)} {a c : V} → Derives g r w a c
      → (f h : List (Symbol K N A)) → r ≡ f ++ h → Split f h w a c
  split_row {w = w} {a = a} {c = c} (done i j) [] h e = at_front h _ w a c e (done i j)
  split_row (done i j) (s ∷ f) h e = absurd (cc)
  split_row {w = w} {a = a} {c = c} (token q d i) [] h e = at_front h _ w a c e (token q d i)
  split_row (token {k = k} {x = x} q d i) (Token j ∷ f) h e =
      let same : k ≡ j = cc in
      let s = split_row d f h (cc) in
      record {
        front = x ∷ s.front;
        back = s.back;
        middle = s.middle;
        joins = i ∙ ap (λ v. x ∷ v) s.joins;
        left = token (q ∙ same) s.left refl;
        right = s.right;
      }
  split_row (token q d i) (Nonterminal n ∷ f) h e = absurd (cc)
  split_row (token q d i) (Act c ∷ f) h e = absurd (cc)
  split_row {w = w} {a = a} {c = c} (expand p i d) [] h e = at_front h _ w a c e (expand p i d)
  split_row (expand p i d) (Token j ∷ f) h e = absurd (cc)
  split_row (expand {n = n} {f = r} {right = right} p i d) (Nonterminal m ∷ f) h e =
      let same : n ≡ m = cc in
      let rest : r ≡ f ++ h = cc in
      let s = split_row d (right ++ f) h (ap (λ v. right ++ v) rest ∙ sym (append_assoc right f h)) in
      record {
        front = s.front;
        back = s.back;
        middle = s.middle;
        joins = s.joins;
        left = expand p (subst (λ z. slice_get (g.rights z) p ≡ Some right) same i) s.left;
        right = s.right;
      }
  split_row (expand p i d) (Act c ∷ f) h e = absurd (cc)
  split_row {w = w} {a = a} {c = c} (act d) [] h e = at_front h _ w a c e (act d)
  split_row (act d) (Token j ∷ f) h e = absurd (cc)
  split_row (act d) (Nonterminal n ∷ f) h e = absurd (cc)
  split_row (act {c = k} {f = r} {a = a} d) (Act c ∷ f) h e =
      let same : k ≡ c = cc in
      let s = split_row d f h (cc) in
      record {
        front = s.front;
        back = s.back;
        middle = s.middle;
        joins = s.joins;
        left = act (subst (λ z. Derives g f s.front (g.act z a) s.middle) same s.left);
        right = s.right;
      }

  -- and so it is split
  pub derives_split : (f h : List (Symbol K N A)) (w : List (Placed X)) (a c : V) → Derives g (f ++ h) w a c → Split f h w a c
  derives_split f h w a c d = split_row d f h refl
