-- The nodes of an expression are read back as it.
use Rattle.std.proofs.Common.{◌≡◌, ◌∙◌, ◌+◌, ◌-◌, ◌++◌, ◌∷◌, [], ℕ, suc, List, Some, length, refl, sym, ap, arith, append_assoc, append-nil}
use Rattle.wb_syntax_expressions.specs.declared.node.Node.TheVariants as n
use Rattle.wb_syntax_expressions.specs.Expression as x
use Rattle.wb_syntax_expressions.specs.Expression.{nodes_from, all_nodes_from, places_from, size}
use Rattle.wb_eval_theory.specs.Laws.{IsReadBack}
use Rattle.wb_eval_theory.specs.Rules.{last_of, read_more, only_one, expression_of, with_parts}
use Rattle.wb_syntax_resolved.specs.Expression.{Expression, Expressions, Node}

-- how many expressions there are
abbrev count_of : Expressions → ℕ
count_of x.none = 0
count_of (x.more e es) = suc (count_of es)

-- expressions and more after them
abbrev joined : Expressions → Expressions → Expressions
joined x.none parts = parts
joined (x.more e es) parts = x.more e (joined es parts)

-- what was read after expressions
abbrev pushed : Expressions → List Expression → List Expression
pushed x.none read = read
pushed (x.more e es) read = pushed es (e ∷ read)

joined_none : (es : Expressions) → joined es x.none ≡ es
joined_none x.none = refl
joined_none (x.more e es) = ap (x.more e) (joined_none es)

places_count : (at : ℕ) (es : Expressions) → length (places_from at es) ≡ count_of es
places_count at x.none = refl
places_count at (x.more e es) = ap suc (places_count (at + size e) es)

-- the last ones that were read, and the others
last_more : (es : Expressions) (m : ℕ) (read : List Expression) (parts : Expressions)
    → last_of (count_of es + m) (pushed es read) parts ≡ last_of m read (joined es parts)
last_more x.none m read parts = let e : 0 + m ≡ m = omega arith in ap (λ k. last_of k read parts) e
last_more (x.more e es) m read parts =
    let moved : suc (count_of es) + m ≡ count_of es + suc m = omega arith in
    ap (λ k. last_of k (pushed es (e ∷ read)) parts) moved ∙ last_more es (suc m) (e ∷ read) parts

last_read : (es : Expressions) (read : List Expression) (k : ℕ) → k ≡ count_of es → last_of k (pushed es read) x.none ≡ Some (es, read)
last_read es read k same =
    let all : k ≡ count_of es + 0 = omega (arith, same) in
    ap (λ z. last_of z (pushed es read) x.none) all ∙ last_more es 0 read x.none ∙ ap (λ z. Some (z, read)) (joined_none es)

mutual
  read_back : (at : ℕ) (e : Expression) (rest : List Node) (read : List Expression)
      → read_more (nodes_from at e ++ rest) (Some read) ≡ read_more rest (Some (e ∷ read))
  read_back at (x.Int z) rest read = refl
  read_back at (x.Text s) rest read = refl
  read_back at (x.Truth b) rest read = refl
  read_back at (x.Label l) rest read = refl
  read_back at (x.Read l y) rest read = refl
  read_back at (x.Lexeme l) rest read = refl
  read_back at (x.Top y) rest read = refl
  read_back at (x.Forward y) rest read = refl
  read_back at (x.Build p es) rest read =
      ap (λ z. read_more z (Some read)) (append_assoc (all_nodes_from at es) (n.Build p (places_from at es) ∷ []) rest)
      ∙ read_all at es (n.Build p (places_from at es) ∷ rest) read
      ∙ ap (λ z. read_more rest (with_parts (x.Build p) z)) (last_read es read (length (places_from at es)) (places_count at es))
  read_back at (x.Call f es) rest read =
      ap (λ z. read_more z (Some read)) (append_assoc (all_nodes_from at es) (n.Call f (places_from at es) ∷ []) rest)
      ∙ read_all at es (n.Call f (places_from at es) ∷ rest) read
      ∙ ap (λ z. read_more rest (with_parts (x.Call f) z)) (last_read es read (length (places_from at es)) (places_count at es))
  read_back at (x.If c h f) rest read =
      let a = nodes_from at c in
      let b = nodes_from (at + size c) h in
      let d = nodes_from (at + size c + size h) f in
      let i = n.If (at + size c - 1) (at + size c + size h - 1) (at + size c + size h + size f - 1) in
      ap (λ z. read_more z (Some read))
      (append_assoc ((a ++ b) ++ d) (i ∷ []) rest ∙ append_assoc (a ++ b) d (i ∷ rest) ∙ append_assoc a b (d ++ i ∷ rest))
      ∙ read_back at c (b ++ (d ++ i ∷ rest)) read
      ∙ read_back (at + size c) h (d ++ i ∷ rest) (c ∷ read)
      ∙ read_back (at + size c + size h) f (i ∷ rest) (h ∷ c ∷ read)

  read_all : (at : ℕ) (es : Expressions) (rest : List Node) (read : List Expression)
      → read_more (all_nodes_from at es ++ rest) (Some read) ≡ read_more rest (Some (pushed es read))
  read_all at x.none rest read = refl
  read_all at (x.more e es) rest read =
      ap (λ z. read_more z (Some read)) (append_assoc (nodes_from at e) (all_nodes_from (at + size e) es) rest)
      ∙ read_back at e (all_nodes_from (at + size e) es ++ rest) read
      ∙ read_all (at + size e) es rest (e ∷ read)

pub is_read_back : (e : Expression) → IsReadBack e
unfolding expression_of
is_read_back e = ap only_one (ap (λ z. read_more z (Some [])) (sym (append-nil (nodes_from 0 e))) ∙ read_back 0 e [] [])
