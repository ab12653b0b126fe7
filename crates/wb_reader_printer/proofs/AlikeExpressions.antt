-- The same tokens at other places are the same expression.
use Rattle.std.proofs.Common.{List, [], ◌∷◌, ◌++◌, ap, ◌∙◌}
use Rattle.wb_syntax.specs.Tokens.{Lexeme}
use Rattle.wb_syntax.specs.Expression.{Expression, Expressions}
use Rattle.wb_syntax.specs.ExpressionGrammar as e
use Rattle.wb_syntax.specs.ExpressionGrammar.{IsExpression, AreArguments, AreFurther}
use Rattle.wb_reader_printer.proofs.Alike.{Alike, done, step, headed, halves, parted, closed, alike_as}

mutual
  -- an expression
  pub expression_alike : (xs : List Lexeme) (z : Expression) → IsExpression xs z → (ys : List Lexeme) → Alike xs ys → IsExpression ys z
  expression_alike xs z (e.number h) ys (step q done) = e.number (q ∙ h)
  expression_alike xs z (e.text h) ys (step q done) = e.text (q ∙ h)
  expression_alike xs z (e.holds h) ys (step q done) = e.holds (q ∙ h)
  expression_alike xs z (e.fails h) ys (step q done) = e.fails (q ∙ h)
  expression_alike xs z (e.label h) ys (step q done) = e.label (q ∙ h)
  expression_alike xs z (e.read h i j) ys (step q (step r (step s done))) = e.read (q ∙ h) (r ∙ i) (s ∙ j)
  expression_alike xs z (e.lexeme h i j) ys (step q (step r (step s done))) = e.lexeme (q ∙ h) (r ∙ i) (s ∙ j)
  expression_alike xs z (e.top h i j) ys (step q (step r (step s done))) = e.top (q ∙ h) (r ∙ i) (s ∙ j)
  expression_alike xs z (e.forward h i j) ys (step q (step r (step s done))) = e.forward (q ∙ h) (r ∙ i) (s ∙ j)
  expression_alike xs z (e.build {x = x} {o = o} c {u = u} {es = es} h i s j k) ys a =
      let b = headed x (o ∷ (u ++ c ∷ [])) ys (alike_as xs _ ys k a) in
      let d = headed o (u ++ c ∷ []) b.tail b.others in
      let f = closed u c d.tail d.others in
      e.build f.last (b.same ∙ h) (d.same ∙ i) (arguments_alike u es s f.inner f.first) (f.same ∙ j)
      (b.whole ∙ ap (λ l. b.head ∷ l) (d.whole ∙ ap (λ l. d.head ∷ l) f.whole))
  expression_alike xs z (e.call {a = m} {x = x} {o = o} c {u = u} {es = es} g h i s j k) ys a =
      let n = headed m (x ∷ o ∷ (u ++ c ∷ [])) ys (alike_as xs _ ys k a) in
      let b = headed x (o ∷ (u ++ c ∷ [])) n.tail n.others in
      let d = headed o (u ++ c ∷ []) b.tail b.others in
      let f = closed u c d.tail d.others in
      e.call f.last (n.same ∙ g) (b.same ∙ h) (d.same ∙ i) (arguments_alike u es s f.inner f.first) (f.same ∙ j)
      (n.whole ∙ ap (λ l. n.head ∷ l) (b.whole ∙ ap (λ l. b.head ∷ l) (d.whole ∙ ap (λ l. d.head ∷ l) f.whole)))
  expression_alike xs z (e.if_then {i = f} q w {u = u} {v = v} {x = x} {condition = c} {one = m} {other = o} h s j k l n g) ys a =
      let b = headed f (u ++ q ∷ (v ++ w ∷ x)) ys (alike_as xs _ ys g a) in
      let d = parted u q (v ++ w ∷ x) b.tail b.others in
      let p = parted v w x d.right d.second in
      e.if_then d.middle p.middle (b.same ∙ h) (expression_alike u c s d.left d.first) (d.same ∙ j) (expression_alike v m k p.left p.first)
      (p.same ∙ l)
      (expression_alike x o n p.right p.second) (b.whole ∙ ap (λ y. b.head ∷ y) (d.whole ∙ ap (λ y. d.left ++ d.middle ∷ y) p.whole))

  -- expressions with commas between them
  arguments_alike : (xs : List Lexeme) (es : Expressions) → AreArguments xs es → (ys : List Lexeme) → Alike xs ys → AreArguments ys es
  arguments_alike xs es e.nothing ys done = e.nothing
  arguments_alike xs es (e.some {u = u} {v = v} {e = z} {es = zs} h s k) ys a =
      let d = halves u v ys (alike_as xs _ ys k a) in
      e.some (expression_alike u z h d.left d.first) (further_alike v zs s d.right d.second) d.whole

  -- expressions with a comma before each
  further_alike : (xs : List Lexeme) (es : Expressions) → AreFurther xs es → (ys : List Lexeme) → Alike xs ys → AreFurther ys es
  further_alike xs es e.no_more ys done = e.no_more
  further_alike xs es (e.next {c = c} {u = u} {v = v} {e = z} {es = zs} j h s k) ys a =
      let b = headed c (u ++ v) ys (alike_as xs _ ys k a) in
      let d = halves u v b.tail b.others in
      e.next (b.same ∙ j) (expression_alike u z h d.left d.first) (further_alike v zs s d.right d.second)
      (b.whole ∙ ap (λ l. b.head ∷ l) d.whole)
