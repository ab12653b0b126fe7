-- What is known of a specification that some text has: its names are names, and its equations whole expressions.
use Rattle.std.proofs.Common.{◌≡◌, List, [], ◌∷◌, All, refl, sym, ap, subst}
use Rattle.std.specs.List.{AllZip}
use Rattle.std.proofs.lemmas.List.Elements.{All-nil, All-cons, All-head, All-tail}
use Rattle.wb_base.specs.Identifiers.{IsName as IsNamed}
use Rattle.wb_syntax_expressions.specs.Expression.{IsWhole, nodes_of}
use Rattle.wb_syntax.specs.PartGrammar as part
use Rattle.wb_syntax.specs.PartGrammar.{AreEquations}
use Rattle.wb_syntax.specs.ItemGrammar as item
use Rattle.wb_syntax.specs.ItemGrammar.{IsProduction, IsItem, AreItems, IsSpecification}
use Rattle.wb_syntax.specs.Tokens.{Lexeme}
use Rattle.wb_syntax.specs.declared.expression.Equation.{Equation}
use Rattle.wb_syntax.specs.declared.item.Item.{Item}
use Rattle.wb_syntax.specs.declared.item.ItemForm.{ItemForm}
use Rattle.wb_syntax.specs.declared.item.ItemForm.TheVariants as f
use Rattle.wb_syntax.specs.declared.pattern.Pattern.{Pattern}
use Rattle.wb_syntax.specs.declared.pattern.WrittenPattern.{WrittenPattern}
use Rattle.wb_syntax.specs.declared.production.Production.{Production}
use Rattle.wb_syntax.specs.declared.written.WrittenSpec.{WrittenSpec}
use Rattle.wb_syntax.specs.Equations.{equations_of, HasWholeEquations}
use Rattle.wb_syntax.specs.Names.{HasNames, FormHasNames, header_names}
use Rattle.wb_syntax.specs.SpecText.{SpecView, dialect_of, IsReadForm, IsReadAs, HasText}
use Rattle.wb_syntax.proofs.NameLemmas.{spelled, written_names}

-- the equations of the grammar are whole expressions
abbrev IsWholeEquation : Equation → Type 0
IsWholeEquation equation = IsWhole equation.nodes

equations_whole : (xs : List Lexeme) (es : List Equation) → AreEquations xs es → All IsWholeEquation es
equations_whole xs es part.nothing = All-nil IsWholeEquation
equations_whole xs es (part.next {x = x} s {r = r} {target = target} {e = z} {rest = rest} h i j q k) =
    All-cons IsWholeEquation (record { offset = x.at; target = target; nodes = nodes_of z }) rest (z, refl) (equations_whole r rest q)

production_whole : (xs : List Lexeme) (q : Production) → IsProduction xs q → All IsWholeEquation q.equations
production_whole xs q (item.whole {v = v} {equations = es} h i j k s o g) = equations_whole o.inner es o.are_equations

item_whole : (xs : List Lexeme) (one : Item WrittenPattern) → IsItem xs one → HasWholeEquations one
item_whole xs one (item.lexical h i j k) = All-nil IsWholeEquation
item_whole xs one (item.plain h) = All-nil IsWholeEquation
item_whole xs one (item.production {u = u} {production = q} h s) = production_whole u q s
item_whole xs one (item.aspect {u = u} {equations = es} h i s) = equations_whole s.inner es s.are_equations

items_whole : (xs : List Lexeme) (items : List (Item WrittenPattern)) → AreItems xs items → All HasWholeEquations items
items_whole xs items item.nothing = All-nil HasWholeEquations
items_whole xs items (item.next {u = u} {v = v} {item = one} {rest = rest} h s k) =
    All-cons HasWholeEquations one rest (item_whole u one h) (items_whole v rest s)

spec_whole : (xs : List Lexeme) (written : WrittenSpec) → IsSpecification xs written → All HasWholeEquations written.items
spec_whole xs written (item.whole {v = v} {items = items} h i j k r q g) = items_whole v items q

-- a form that is read has the equations and the names of the one that is written
pub read_equations : (written : ItemForm WrittenPattern) (form : ItemForm Pattern) → IsReadForm written form
    → equations_of form ≡ equations_of written
read_equations (f.Lexical role name pattern) form e = ap equations_of e.2
read_equations (f.Plain plain) form e = ap equations_of e
read_equations (f.Production role production) form e = ap equations_of e
read_equations (f.Aspect name equations) form e = ap equations_of e

read_names : (written : ItemForm WrittenPattern) (form : ItemForm Pattern) → IsReadForm written form → FormHasNames written
    → FormHasNames form
read_names (f.Lexical role name pattern) form e h = subst FormHasNames (sym e.2) h
read_names (f.Plain plain) form e h = subst FormHasNames (sym e) h
read_names (f.Production role production) form e h = subst FormHasNames (sym e) h
read_names (f.Aspect name equations) form e h = subst FormHasNames (sym e) h

-- a fact of each element of the first list holds of each of the second, where the relation carries it over
carried : {A B : Type 0} (R : A → B → Type 0) (P : A → Type 0) (Q : B → Type 0) → ((x : A) (y : B) → R x y → P x → Q y)
    → (xs : List A) (ys : List B) → AllZip R xs ys → All P xs → All Q ys
carried R P Q gives [] [] all each = All-nil Q
carried R P Q gives [] (y ∷ ys) all each = absurd all
carried R P Q gives (x ∷ xs) [] all each = absurd all
carried R P Q gives (x ∷ xs) (y ∷ ys) all each =
    All-cons Q y ys (gives x y all.0 (All-head P x xs each)) (carried R P Q gives xs ys all.1 (All-tail P x xs each))

-- each name in a specification that some text has is a name
pub text_names : (spec : SpecView) → HasText spec → HasNames spec
text_names spec text =
    let r = text.2 in
    let w = written_names r.text.tokens r.written r.text.specification
    (spelled (dialect_of r.written.format) text.0 0 r.text.tokens r.text.to r.text.spelled) in
    record {
      name = subst IsNamed (sym r.read.name) w.name;
      header = subst (λ h. All IsNamed (header_names h)) (sym r.read.header) w.header;
      items = carried IsReadAs (λ one. FormHasNames one.form) (λ one. FormHasNames one.form) (λ x y e h. read_names x.form y.form e.form h)
          r.written.items spec.items r.read.items w.items;
    }

-- the nodes of each equation in it are one whole expression
pub text_whole : (spec : SpecView) → HasText spec → All HasWholeEquations spec.items
text_whole spec text =
    let r = text.2 in
    carried IsReadAs HasWholeEquations HasWholeEquations
    (λ x y e h. subst (All IsWholeEquation) (sym (read_equations x.form y.form e.form)) h)
    r.written.items spec.items r.read.items (spec_whole r.text.tokens r.written r.text.specification)
