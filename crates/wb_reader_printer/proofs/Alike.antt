-- Lexemes with the same tokens at other places: their heads, and their parts.
use Rattle.std.proofs.Common.{◌≡◌, List, [], ◌∷◌, ◌++◌, refl, ap, ◌∙◌, subst}
use Rattle.wb_syntax.specs.Tokens.{Lexeme}
use Rattle.wb_reader_printer.proofs.GrammarTokens.{tokens}

-- the second have the same tokens as the first
pub data Alike : List Lexeme → List Lexeme → Type 0 where
  done : Alike [] []
  step : {x y : Lexeme} {xs ys : List Lexeme} → y.token ≡ x.token → Alike xs ys → Alike (x ∷ xs) (y ∷ ys)

-- lexemes with the same tokens are alike
pub alike : (xs ys : List Lexeme) → tokens ys ≡ tokens xs → Alike xs ys
alike [] [] e = done
alike [] (y ∷ ys) e = absurd (cc)
alike (x ∷ xs) [] e = absurd (cc)
alike (x ∷ xs) (y ∷ ys) e =
    let first : y.token ≡ x.token = cc in
    let others : tokens ys ≡ tokens xs = cc in
    step first (alike xs ys others)

-- the first of them, and the others
pub record Headed (x : Lexeme) (xs ys : List Lexeme) : Type 0 where
  pub head : Lexeme
  pub tail : List Lexeme
  pub same : head.token ≡ x.token
  pub others : Alike xs tail
  pub whole : ys ≡ head ∷ tail

-- what is like a list with a first one has it
pub headed : (x : Lexeme) (xs ys : List Lexeme) → Alike (x ∷ xs) ys → Headed x xs ys
headed x xs ys (step {y = y} {ys = rest} q r) = record { head = y; tail = rest; same = q; others = r; whole = refl }

-- some of them, and those after
pub record Halves (u v ys : List Lexeme) : Type 0 where
  pub left : List Lexeme
  pub right : List Lexeme
  pub first : Alike u left
  pub second : Alike v right
  pub whole : ys ≡ left ++ right

-- what is like two lists is two lists
pub halves : (u v ys : List Lexeme) → Alike (u ++ v) ys → Halves u v ys
halves [] v ys a = record { left = []; right = ys; first = done; second = a; whole = refl }
halves (x ∷ u) v ys (step {y = y} {ys = rest} q r) =
    let h = halves u v rest r in
    record { left = y ∷ h.left; right = h.right; first = step q h.first; second = h.second; whole = ap (λ l. y ∷ l) h.whole }

-- some of them, one, and those after
pub record Parted (u : List Lexeme) (c : Lexeme) (v ys : List Lexeme) : Type 0 where
  pub left : List Lexeme
  pub middle : Lexeme
  pub right : List Lexeme
  pub first : Alike u left
  pub same : middle.token ≡ c.token
  pub second : Alike v right
  pub whole : ys ≡ left ++ middle ∷ right

-- what is like two lists with one between them is so
pub parted : (u : List Lexeme) (c : Lexeme) (v ys : List Lexeme) → Alike (u ++ c ∷ v) ys → Parted u c v ys
parted u c v ys a =
    let h = halves u (c ∷ v) ys a in
    let m = headed c v h.right h.second in
    record {
      left = h.left;
      middle = m.head;
      right = m.tail;
      first = h.first;
      same = m.same;
      second = m.others;
      whole =
          h.whole ∙ ap (λ l. h.left ++ l) m.whole;
    }

-- nothing is like nothing alone
alike_nothing : (ys : List Lexeme) → Alike [] ys → ys ≡ []
alike_nothing ys done = refl

-- some of them, and the last
pub record Closed (u : List Lexeme) (c : Lexeme) (ys : List Lexeme) : Type 0 where
  pub inner : List Lexeme
  pub last : Lexeme
  pub first : Alike u inner
  pub same : last.token ≡ c.token
  pub whole : ys ≡ inner ++ last ∷ []

-- what is like a list with a last one is so
pub closed : (u : List Lexeme) (c : Lexeme) (ys : List Lexeme) → Alike (u ++ c ∷ []) ys → Closed u c ys
closed u c ys a =
    let h = parted u c [] ys a in
    record {
      inner = h.left;
      last = h.middle;
      first = h.first;
      same = h.same;
      whole = h.whole
          ∙ ap (λ l. h.left ++ h.middle ∷ l) (alike_nothing h.right h.second);
    }

-- what is equal to something is like the same
pub alike_as : (xs zs ys : List Lexeme) → xs ≡ zs → Alike xs ys → Alike zs ys
alike_as xs zs ys e a = subst (λ l. Alike l ys) e a
