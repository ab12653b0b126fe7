-- The same tokens at other places are the same kinds, needs, children and targets, and the same equations but for places.
use Rattle.std.proofs.Common.{◌≡◌, ℕ, List, [], ◌∷◌, ◌++◌, map, refl, ap, ◌∙◌, Option}
use Rattle.wb_syntax.specs.declared.production.NamedKind.{NamedKind}
use Rattle.wb_syntax.specs.declared.production.Child.{Child}
use Rattle.wb_syntax.specs.declared.expression.Equation.{Equation}
use Rattle.wb_syntax.specs.declared.expression.Target.{Target}
use Rattle.wb_syntax.specs.Tokens.{Lexeme}
use Rattle.wb_syntax_expressions.specs.Expression.{nodes_of}
use Rattle.wb_syntax.specs.Offsets.{unplaced_equation}
use Rattle.wb_syntax.specs.PartGrammar as part
use Rattle.wb_syntax.specs.PartGrammar.{IsKind, AreFurtherNames, AreNames, AreNeeds, AreOptionalNeeds, AreChildren, IsTarget, AreEquations}
use Rattle.wb_syntax.specs.PartGrammar.{IsBlock}
use Rattle.wb_reader_printer.proofs.Alike.{Alike, done, step, headed, halves, parted, closed, alike_as}
use Rattle.wb_reader_printer.proofs.AlikeExpressions.{expression_alike}

-- a kind
pub kind_alike : (xs : List Lexeme) (kind : NamedKind) → IsKind xs kind → (ys : List Lexeme) → Alike xs ys → IsKind ys kind
kind_alike xs kind (part.int h) ys (step q done) = part.int (q ∙ h)
kind_alike xs kind (part.bool h) ys (step q done) = part.bool (q ∙ h)
kind_alike xs kind (part.text h) ys (step q done) = part.text (q ∙ h)
kind_alike xs kind (part.name h) ys (step q done) = part.name (q ∙ h)

-- names with a comma before each
further_names_alike : (xs : List Lexeme) (ns : List (List ℕ)) → AreFurtherNames xs ns → (ys : List Lexeme) → Alike xs ys
    → AreFurtherNames ys ns
further_names_alike xs ns part.nothing ys done = part.nothing
further_names_alike xs ns (part.next {v = v} {ns = rest} h j s) ys (step q (step {ys = zs} r a)) =
    part.next (q ∙ h) (r ∙ j) (further_names_alike v rest s zs a)

-- names with commas between them
names_alike : (xs : List Lexeme) (ns : List (List ℕ)) → AreNames xs ns → (ys : List Lexeme) → Alike xs ys → AreNames ys ns
names_alike xs ns part.nothing ys done = part.nothing
names_alike xs ns (part.some {v = v} {ns = rest} h s) ys (step {ys = zs} q a) = part.some (q ∙ h) (further_names_alike v rest s zs a)

-- needs
pub needs_alike : (xs : List Lexeme) (ns : List (List ℕ)) → AreNeeds xs ns → (ys : List Lexeme) → Alike xs ys → AreNeeds ys ns
needs_alike xs ns s ys a =
    let b = headed s.needs (s.open_brace ∷ (s.listed ++ s.close_brace ∷ [])) ys (alike_as xs _ ys s.whole a) in
    let d = headed s.open_brace (s.listed ++ s.close_brace ∷ []) b.tail b.others in
    let f = closed s.listed s.close_brace d.tail d.others in
    record {
      needs = b.head;
      open_brace = d.head;
      listed = f.inner;
      close_brace = f.last;
      is_needs = b.same ∙ s.is_needs;
      is_open = d.same ∙ s.is_open;
      are_names = names_alike s.listed ns s.are_names f.inner f.first;
      is_close = f.same ∙ s.is_close;
      whole = b.whole ∙ ap (λ l. b.head ∷ l) (d.whole ∙ ap (λ l. d.head ∷ l) f.whole);
    }

-- needs, or nothing
pub optional_alike : (xs : List Lexeme) (o : Option (List (List ℕ))) → AreOptionalNeeds xs o → (ys : List Lexeme) → Alike xs ys
    → AreOptionalNeeds ys o
optional_alike xs o part.absent ys done = part.absent
optional_alike xs o (part.written {names = ns} s) ys a = part.written (needs_alike xs ns s ys a)

-- children
pub children_alike : (xs : List Lexeme) (cs : List Child) → AreChildren xs cs → (ys : List Lexeme) → Alike xs ys → AreChildren ys cs
children_alike xs cs part.nothing ys done = part.nothing
children_alike xs cs (part.next {x = x} {c = c} {u = u} {v = v} {kind = kind} {rest = rest} h j k s g) ys a =
    let b = headed x (c ∷ (u ++ v)) ys (alike_as xs _ ys g a) in
    let d = headed c (u ++ v) b.tail b.others in
    let f = halves u v d.tail d.others in
    part.next (b.same ∙ h) (d.same ∙ j) (kind_alike u kind k f.left f.first) (children_alike v rest s f.right f.second)
    (b.whole ∙ ap (λ l. b.head ∷ l) (d.whole ∙ ap (λ l. d.head ∷ l) f.whole))

-- what comes before the expression of an equation
target_alike : (xs : List Lexeme) (target : Target) → IsTarget xs target → (ys : List Lexeme) → Alike xs ys → IsTarget ys target
target_alike xs target (part.top h j k l) ys (step q (step r (step s (step u done)))) = part.top (q ∙ h) (r ∙ j) (s ∙ k) (u ∙ l)
target_alike xs target (part.label h j k l) ys (step q (step r (step s (step u done)))) = part.label (q ∙ h) (r ∙ j) (s ∙ k) (u ∙ l)
target_alike xs target (part.forward h j k l) ys (step q (step r (step s (step u done)))) = part.forward (q ∙ h) (r ∙ j) (s ∙ k) (u ∙ l)
target_alike xs target (part.local h j k l m) ys (step q (step r (step s (step u (step v done))))) =
    part.local (q ∙ h) (r ∙ j) (s ∙ k) (u ∙ l) (v ∙ m)
target_alike xs target (part.forwards_to h j) ys (step q (step r done)) = part.forwards_to (q ∙ h) (r ∙ j)

-- the lexemes are equations that are these but for places
pub record HaveEquations (ys : List Lexeme) (es : List Equation) : Type 0 where
  pub others : List Equation
  pub are : AreEquations ys others
  pub same : map unplaced_equation others ≡ map unplaced_equation es

-- equations
equations_alike : (xs : List Lexeme) (es : List Equation) → AreEquations xs es → (ys : List Lexeme) → Alike xs ys → HaveEquations ys es
equations_alike xs es part.nothing ys done = record { others = []; are = part.nothing; same = refl }
equations_alike xs es (part.next {x = x} s {u = u} {v = v} {r = q} {target = target} {e = z} {rest = rest} h j k l g) ys a =
    let b = headed x (u ++ v ++ s ∷ q) ys (alike_as xs _ ys g a) in
    let d = parted (u ++ v) s q b.tail b.others in
    let f = halves u v d.left d.first in
    let i = equations_alike q rest l d.right d.second in
    record {
      others = record { offset = b.head.at; target = target; nodes = nodes_of z } ∷ i.others;
      are = part.next d.middle (target_alike (x ∷ u) target h (b.head ∷ f.left) (step b.same f.first))
          (expression_alike v z j f.right f.second) (d.same ∙ k) i.are
          (b.whole ∙ ap (λ y. b.head ∷ y) (d.whole ∙ ap (λ y. y ++ d.middle ∷ d.right) f.whole));
      same = ap (λ y. record { offset = 0; target = target; nodes = nodes_of z } ∷ y) i.same;
    }

-- the lexemes are a block of equations that are these but for places
pub record HasBlock (ys : List Lexeme) (es : List Equation) : Type 0 where
  pub others : List Equation
  pub is : IsBlock ys others
  pub same : map unplaced_equation others ≡ map unplaced_equation es

-- a block
pub block_alike : (xs : List Lexeme) (es : List Equation) → IsBlock xs es → (ys : List Lexeme) → Alike xs ys → HasBlock ys es
block_alike xs es s ys a =
    let b = headed s.open_brace (s.inner ++ s.close_brace ∷ []) ys (alike_as xs _ ys s.whole a) in
    let f = closed s.inner s.close_brace b.tail b.others in
    let i = equations_alike s.inner es s.are_equations f.inner f.first in
    record {
      others = i.others;
      is = record {
        open_brace = b.head;
        inner = f.inner;
        close_brace = f.last;
        is_open = b.same ∙ s.is_open;
        are_equations = i.are;
        is_close = f.same ∙ s.is_close;
        whole = b.whole ∙ ap (λ l. b.head ∷ l) f.whole;
      };
      same = i.same;
    }
