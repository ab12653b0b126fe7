-- What a file writes on one production forwards once at most, where nothing is declared twice.
use Rattle.std.proofs.Common.{◌≡◌, ◌≤◌, ◌+◌, ◌++◌, ◌∷◌, [], ℕ, Bool, true, false, List, Some, map, length, cond, ap, sym, refl, subst, ◌∙◌}
use Rattle.std.proofs.Common.{arith, length-append}
use Rattle.std.specs.Prelude.{filter}
use Rattle.std.specs.Str.{bytes_eq}
use Rattle.std.proofs.lemmas.Bool.{false≢true}
use Rattle.std.proofs.lemmas.List.Elements.{filter-append}
use Rattle.wb_syntax_resolved.specs.declared.resolved.ResolvedParts.{ResolvedParts}
use Rattle.wb_syntax.specs.declared.expression.Equation.{Equation}
use Rattle.wb_syntax.specs.declared.expression.Target.{Target}
use Rattle.wb_syntax.specs.declared.expression.Target.TheVariants as g
use Rattle.wb_syntax.specs.declared.item.ItemForm.{ItemForm}
use Rattle.wb_syntax.specs.declared.item.ItemForm.TheVariants as f
use Rattle.wb_syntax.specs.declared.pattern.Pattern.{Pattern}
use Rattle.wb_names_theory.specs.declared.declaration.Declaration.{Declaration}
use Rattle.wb_names_theory.specs.declared.declaration.Declaration.TheVariants as d
use Rattle.wb_names_theory.specs.Declarations.{Items}
use Rattle.wb_names_theory.specs.Declares.{base_declarations, item_declarations, declarations, form_declarations, child_declaration}
use Rattle.wb_names_theory.specs.Declares.{target_declaration, equation_declarations}
use Rattle.wb_names_theory.specs.Duplicate.{AreSame}
use Rattle.wb_names_theory.specs.Duplicate as same
use Rattle.wb_names_theory.specs.Hold.{AreOnce}
use Rattle.wb_names_numbers_theory.specs.Files.{Block, block_of, equations_on}
use Rattle.wb_names_numbers_theory.specs.Written.{forward_equations, makes_forward}
use Rattle.wb_names_numbers_theory.proofs.Selected.{same_bytes, bytes_same}
use Rattle.wb_names_numbers_theory.proofs.Times.{once_where}
use Rattle.wb_names.proofs.OnceLemmas.{once_right, one_kept}
use Rattle.wb_names_symbols.proofs.WrittenLemmas.{on_append, on_one, block_on, block_where}

-- how many pass a test
count_first : {X : Type 0} (test : X → Bool) (x : X) (xs : List X)
    → length (filter test (x ∷ xs)) ≡ once_where (test x) + length (filter test xs)
count_first test x xs = from (test x) where
  from : (b : Bool) → length (cond b (x ∷ filter test xs) (filter test xs)) ≡ once_where b + length (filter test xs)
  from true = omega arith
  from false = omega arith

count_append : {X : Type 0} (test : X → Bool) (xs ys : List X)
    → length (filter test (xs ++ ys)) ≡ length (filter test xs) + length (filter test ys)
count_append test xs ys = ap length (filter-append test xs ys) ∙ length-append (filter test xs) (filter test ys)

module _ (name : List ℕ) where
  -- it declares that this production forwards
  abbrev forwards_on : Declaration → Bool
  forwards_on (d.Forward p) = bytes_eq p name
  forwards_on other = false

  abbrev makes : Equation → Bool
  makes e = makes_forward e.target

  forward_is : (x : Declaration) → forwards_on x ≡ true → x ≡ d.Forward name
  forward_is (d.Forward p) e = ap d.Forward (same_bytes p name e)
  forward_is (d.Symbol y0 y1) e = absurd (false≢true e)
  forward_is (d.Attribute y0 y1) e = absurd (false≢true e)
  forward_is (d.Occurrence y0 y1) e = absurd (false≢true e)
  forward_is (d.Left y0 y1) e = absurd (false≢true e)
  forward_is (d.Label y0 y1 y2) e = absurd (false≢true e)
  forward_is (d.Equation y0 y1 y2) e = absurd (false≢true e)
  forward_is (d.Start y0) e = absurd (false≢true e)
  forward_is (d.Extensible y0) e = absurd (false≢true e)
  forward_is (d.Closed y0) e = absurd (false≢true e)
  forward_is (d.ForwardNeeds y0) e = absurd (false≢true e)
  forward_is (d.Preference y0 y1) e = absurd (false≢true e)

  forwards_same : (x y : Declaration) → forwards_on x ≡ true → forwards_on y ≡ true → AreSame x y
  forwards_same x y e h =
      subst (λ k. AreSame k y) (sym (forward_is x e)) (subst (AreSame (d.Forward name)) (sym (forward_is y h)) same.forward)

  -- equations on this production
  one_equation : (to : Target) → once_where (makes_forward to) ≡ once_where (forwards_on (target_declaration name to))
  one_equation g.ForwardsTo = ap once_where (sym (bytes_same name name refl))
  one_equation (g.Top a) = refl
  one_equation (g.Label l a) = refl
  one_equation (g.Forward a) = refl
  one_equation (g.Local l m) = refl

  equations_count : (es : List Equation) → length (filter makes es) ≡ length (filter forwards_on (equation_declarations name es))
  equations_count [] = refl
  equations_count (e ∷ es) =
      let a = count_first makes e es in
      let b = count_first forwards_on (target_declaration name e.target) (equation_declarations name es) in
      let first = one_equation e.target in
      let rest = equations_count es in
      omega (arith, a, b, first, rest)

  -- a block, on this production or on another
  block_count : (b : Block) (front : List Declaration)
      → length (filter makes (block_on name (Some b))) ≤ length (filter forwards_on (front ++ equation_declarations b.name b.equations))
  block_count b front = from (bytes_eq b.name name) refl where
    from : (is : Bool) → bytes_eq b.name name ≡ is
        → length (filter makes (block_on name (Some b))) ≤ length (filter forwards_on (front ++ equation_declarations b.name b.equations))
    from true e =
        let here : length (filter makes (block_on name (Some b))) ≡ length (filter makes (b.equations ++ [])) =
        ap (λ z. length (filter makes z)) (block_where name b true e) in
        let split = count_append makes b.equations [] in
        let count = equations_count b.equations in
        let named : length (filter forwards_on (equation_declarations b.name b.equations))
        ≡ length (filter forwards_on (equation_declarations name b.equations)) =
        ap (λ z. length (filter forwards_on (equation_declarations z b.equations))) (same_bytes b.name name e) in
        let whole = count_append forwards_on front (equation_declarations b.name b.equations) in
        omega (arith, here, split, count, named, whole)
    from false e =
        let here : length (filter makes (block_on name (Some b))) ≡ 0 =
        ap (λ z. length (filter makes z)) (block_where name b false e) in
        omega (arith, here)

  form_count : (form : ItemForm Pattern)
      → length (filter makes (block_on name (block_of form))) ≤ length (filter forwards_on (form_declarations form))
  form_count (f.Lexical role own pattern) = omega arith
  form_count (f.Plain plain) = omega arith
  form_count (f.Production role p) =
      block_count (record { name = p.name; equations = p.equations }) (map (child_declaration p.name) p.children)
  form_count (f.Aspect own es) = block_count (record { name = own; equations = es }) []

  items_count : (items : Items) → length (filter makes (equations_on name items)) ≤ length (filter forwards_on (item_declarations items))
  items_count [] = omega arith
  items_count (item ∷ items) =
      let here : equations_on name (item ∷ items) ≡ block_on name (block_of item.form) ++ equations_on name items =
      on_append name (item ∷ []) items ∙ ap (λ z. z ++ equations_on name items) (on_one name item) in
      let a : length (filter makes (equations_on name (item ∷ items)))
      ≡ length (filter makes (block_on name (block_of item.form) ++ equations_on name items)) = ap (λ z. length (filter makes z)) here in
      let b = count_append makes (block_on name (block_of item.form)) (equations_on name items) in
      let c = count_append forwards_on (form_declarations item.form) (item_declarations items) in
      let first = form_count item.form in
      let rest = items_count items in
      omega (arith, a, b, c, first, rest)

  -- one at most
  pub one_forward : (base : ResolvedParts) (items : Items) → AreOnce (declarations base items)
      → length (forward_equations (equations_on name items)) ≤ 1
  one_forward base items once =
      let count = items_count items in
      let few = one_kept forwards_on forwards_same (item_declarations items)
      (once_right (base_declarations base) (item_declarations items) once) in
      omega (arith, count, few)
