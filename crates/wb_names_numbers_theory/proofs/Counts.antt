-- How often the parts of a file and of its base are declared: no more often than all declarations say.
use Rattle.std.proofs.Common.{◌≡◌, ◌≤◌, ◌+◌, ◌++◌, ◌∷◌, ◌⊎◌, inl, inr, [], ℕ, Bool, true, false, List, Option, Some, None}
use Rattle.std.proofs.Common.{map, cond, ap, refl, ◌∙◌, arith}
use Rattle.std.specs.Prelude.{flat_map, filter, filter_map, option_to_list}
use Rattle.std.specs.List.{AllZip, cons_option}
use Rattle.wb_syntax_resolved.specs.declared.attributes.Attribute.{Attribute}
use Rattle.wb_syntax_resolved.specs.declared.attributes.Nonterminal.{Nonterminal}
use Rattle.wb_syntax_resolved.specs.declared.attributes.Occurrence.{Occurrence}
use Rattle.wb_syntax_resolved.specs.declared.equation.Equation.{Equation}
use Rattle.wb_syntax_resolved.specs.declared.production.Child.{Child}
use Rattle.wb_syntax_resolved.specs.declared.production.Local.{Local}
use Rattle.wb_syntax_resolved.specs.declared.production.Production.{Production}
use Rattle.wb_syntax_resolved.specs.declared.resolved.ResolvedParts.{ResolvedParts}
use Rattle.wb_syntax_resolved.specs.declared.terminal.Terminal.{Terminal}
use Rattle.wb_syntax.specs.declared.item.Item.{Item}
use Rattle.wb_syntax.specs.declared.item.ItemForm.{ItemForm}
use Rattle.wb_syntax.specs.declared.pattern.Pattern.{Pattern}
use Rattle.wb_names_theory.specs.declared.declaration.Declaration.{Declaration}
use Rattle.wb_names_theory.specs.declared.declaration.Declaration.TheVariants as d
use Rattle.wb_names_theory.specs.declared.declaration.Labelled.TheVariants as label
use Rattle.wb_names_theory.specs.declared.declaration.Sort.TheVariants as sort
use Rattle.wb_names_theory.specs.Declarations.{Items}
use Rattle.wb_names_theory.specs.Declares.{base_declarations, item_declarations, form_declarations, terminal_sort, attribute_name}
use Rattle.wb_names_theory.specs.Declares.{nonterminal_name}
use Rattle.wb_names_theory.specs.Declares.{production_declarations, base_labelled, forward_declarations, target_attribute, target_site}
use Rattle.wb_names_numbers_theory.specs.Sources.{sources, Splits, nothing, leads, follows, AreGrouped}
use Rattle.wb_names_numbers_theory.proofs.Times.{is_same, once_where, times, times_append}

module _ (x : Declaration) where
  -- in what order doesn't matter
  times_middle : {X : Type 0} (f : X → Declaration) (a : List X) (y : X) (b : List X) → times x (map f (a ++ y ∷ b))
      ≡ once_where (is_same x (f y)) + times x (map f (a ++ b))
  times_middle f [] y b = refl
  times_middle f (z ∷ a) y b = let r = times_middle f a y b in omega (arith, r)

  times_split : {X : Type 0} (P : X → Type 0) (f : X → Declaration) (xs a b : List X) → Splits P xs a b
      → times x (map f (a ++ b)) ≡ times x (map f xs)
  times_split P f xs a b nothing = refl
  times_split P f xs a b (leads {xs = ys} {leading = c} p s) = let r = times_split P f ys c b s in omega (arith, r)
  times_split P f xs a b (follows {x = y} {xs = ys} {following = e} p s) =
      let r = times_split P f ys a e s in let m = times_middle f a y e in omega (arith, r, m)

  pub times_zip : {X Y : Type 0} (R : X → Y → Type 0) (f : X → Declaration) (g : Y → Declaration)
      → ((u : X) (v : Y) → R u v → is_same x (g v) ≡ is_same x (f u)) → (xs : List X) (ys : List Y) → AllZip R xs ys
      → times x (map g ys) ≡ times x (map f xs)
  times_zip R f g each [] [] all = refl
  times_zip R f g each [] (v ∷ ys) all = absurd all
  times_zip R f g each (u ∷ xs) [] all = absurd all
  times_zip R f g each (u ∷ xs) (v ∷ ys) all =
      let first : once_where (is_same x (g v)) ≡ once_where (is_same x (f u)) = ap once_where (each u v all.0) in
      let r = times_zip R f g each xs ys all.1 in
      omega (arith, first, r)

  pub times_grouped : {X Y : Type 0} (P : X → Type 0) (R : X → Y → Type 0) (f : X → Declaration) (g : Y → Declaration)
      → ((u : X) (v : Y) → R u v → is_same x (g v) ≡ is_same x (f u)) → (xs : List X) (ys : List Y) → AreGrouped P R xs ys
      → times x (map g ys) ≡ times x (map f xs)
  times_grouped P R f g each xs ys all =
      times_zip R f g each (all.leading ++ all.following) ys all.are_rows ∙ times_split P f xs all.leading all.following all.splits

  pub times_map_append : {X : Type 0} (f : X → Declaration) (a b : List X) → times x (map f (a ++ b))
      ≡ times x (map f a) + times x (map f b)
  times_map_append f [] b = omega arith
  times_map_append f (y ∷ a) b = let r = times_map_append f a b in omega (arith, r)

  pub times_map_map : {X Y : Type 0} (f : Y → Declaration) (g : X → Y) (ys : List X)
      → times x (map f (map g ys)) ≡ times x (map (λ y. f (g y)) ys)
  times_map_map f g [] = refl
  times_map_map f g (y ∷ ys) = let r = times_map_map f g ys in omega (arith, r)

  pub times_sources : {A B : Type 0} (f : A ⊎ B → Declaration) (a : List A) (b : List B) → times x (map f (sources a b))
      ≡ times x (map (λ y. f (inl y)) a) + times x (map (λ y. f (inr y)) b)
  times_sources {A} {B} f a b =
      let left : A → A ⊎ B = inl in
      let right : B → A ⊎ B = inr in
      let both = times_map_append f (map left a) (map right b) in
      let one = times_map_map f left a in
      let other = times_map_map f right b in
      omega (arith, both, one, other)

  -- what is kept of a list
  pub times_kept : {Y : Type 0} (f : Y → Declaration) (o : Option Y) (ys : List Y) → times x (map f (cons_option o ys))
      ≡ times x (map f (option_to_list o)) + times x (map f ys)
  times_kept f None ys = omega arith
  times_kept f (Some y) ys = omega arith

  pub times_nested : {X Y : Type 0} (f : Y → Declaration) (g : X → Option Y) (o : Option X) (ys : List X)
      → times x (map f (filter_map g (cons_option o ys)))
      ≡ times x (map f (filter_map g (option_to_list o))) + times x (map f (filter_map g ys))
  times_nested f g None ys = omega arith
  times_nested f g (Some y) ys =
      let one = times_kept f (g y) (filter_map g ys) in let other = times_kept f (g y) [] in omega (arith, one, other)

  -- a count over items is at most that of their declarations, where that of each item is
  pub count_items : (c : ItemForm Pattern → ℕ) (total : Items → ℕ) → total [] ≡ 0
      → ((item : Item Pattern) (items : Items) → total (item ∷ items) ≡ c item.form + total items)
      → ((form : ItemForm Pattern) → c form ≤ times x (form_declarations form)) → (items : Items)
      → total items ≤ times x (item_declarations items)
  count_items c total start step each [] = omega (arith, start)
  count_items c total start step each (item ∷ items) =
      let r = count_items c total start step each items in
      let s = step item items in
      let e = each item.form in
      let both = times_append x (form_declarations item.form) (item_declarations items) in
      omega (arith, r, s, e, both)

  -- the parts of a base
  pub count_rules : (base : ResolvedParts) (ps : List Production)
      → times x (map (λ (p : Production). d.Symbol p.name sort.Production) ps) ≤ times x (flat_map (production_declarations base) ps)
  count_rules base [] = omega arith
  count_rules base (p ∷ ps) =
      let r = count_rules base ps in
      let both = times_append x (production_declarations base p) (flat_map (production_declarations base) ps) in
      omega (arith, r, both)

  pub count_base : (base : ResolvedParts) → times x (base_declarations base)
      ≡ times x (map (λ (y : Terminal). d.Symbol y.name (terminal_sort y.kind)) base.terminals)
      + times x (map (λ (y : Nonterminal). d.Symbol y.name sort.Nonterminal) base.attributes.nonterminals)
      + times x (map (λ (y : Attribute). d.Attribute y.name y.direction) base.attributes.attributes)
      + times x (map (λ (y : Occurrence). d.Occurrence (attribute_name base y.attribute) (nonterminal_name base y.nonterminal))
      base.attributes.occurrences)
      + times x (flat_map (production_declarations base) base.attributes.productions)
  count_base base =
      let t = map (λ (y : Terminal). d.Symbol y.name (terminal_sort y.kind)) base.terminals in
      let n = map (λ (y : Nonterminal). d.Symbol y.name sort.Nonterminal) base.attributes.nonterminals in
      let a = map (λ (y : Attribute). d.Attribute y.name y.direction) base.attributes.attributes in
      let o = map (λ (y : Occurrence). d.Occurrence (attribute_name base y.attribute) (nonterminal_name base y.nonterminal))
      base.attributes.occurrences in
      let r = flat_map (production_declarations base) base.attributes.productions in
      let one = times_append x (t ++ n ++ a ++ o) r in
      let two = times_append x (t ++ n ++ a) o in
      let three = times_append x (t ++ n) a in
      let four = times_append x t n in
      omega (arith, one, two, three, four)

  pub count_production : (base : ResolvedParts) (p : Production) → times x (production_declarations base p)
      ≡ once_where (is_same x (d.Symbol p.name sort.Production)) + (once_where (is_same x (d.Left p.name (nonterminal_name base p.left)))
      + (times x (map (λ (c : Child). d.Label p.name c.label (base_labelled base c.kind)) p.children)
      + times x (map (λ (l : Local). d.Label p.name l.label (label.Local (nonterminal_name base l.nonterminal))) p.locals)
      + times x (forward_declarations p.name p.forward)
      + times x (map (λ (e : Equation). d.Equation p.name (target_attribute base e.target) (target_site p e.target)) p.equations)))
  count_production base p =
      let c = map (λ (c : Child). d.Label p.name c.label (base_labelled base c.kind)) p.children in
      let l = map (λ (l : Local). d.Label p.name l.label (label.Local (nonterminal_name base l.nonterminal))) p.locals in
      let f = forward_declarations p.name p.forward in
      let e = map (λ (e : Equation). d.Equation p.name (target_attribute base e.target) (target_site p e.target)) p.equations in
      let one = times_append x (c ++ l ++ f) e in
      let two = times_append x (c ++ l) f in
      let three = times_append x c l in
      omega (arith, one, two, three)

  -- the equations on a production that pass a test
  module _ {E : Type 0} where
    times_filter_append : (f : E → Declaration) (test : E → Bool) (a b : List E) → times x (map f (filter test (a ++ b)))
        ≡ times x (map f (filter test a)) + times x (map f (filter test b))
    times_filter_append f test [] b = omega arith
    times_filter_append f test (y ∷ a) b = first (test y) (times_filter_append f test a b) where
      first : (t : Bool) → times x (map f (filter test (a ++ b))) ≡ times x (map f (filter test a)) + times x (map f (filter test b))
          → times x (map f (cond t (y ∷ filter test (a ++ b)) (filter test (a ++ b))))
          ≡ times x (map f (cond t (y ∷ filter test a) (filter test a))) + times x (map f (filter test b))
      first true r = omega (arith, r)
      first false r = r

    pub times_blocks : {B : Type 0} (f : E → Declaration) (test : E → Bool) (es : B → List E) (on : B → Bool) (o : Option B) (bs : List B)
        → times x (map f (filter test (flat_map es (filter on (cons_option o bs)))))
        ≡ times x (map f (filter test (flat_map es (filter on (option_to_list o)))))
        + times x (map f (filter test (flat_map es (filter on bs))))
    times_blocks f test es on None bs = omega arith
    times_blocks f test es on (Some b) bs = first (on b) where
      first : (t : Bool) → times x (map f (filter test (flat_map es (cond t (b ∷ filter on bs) (filter on bs)))))
          ≡ times x (map f (filter test (flat_map es (cond t (b ∷ []) []))))
          + times x (map f (filter test (flat_map es (filter on bs))))
      first true =
          let r = times_filter_append f test (es b) (flat_map es (filter on bs)) in
          let s = times_filter_append f test (es b) [] in
          omega (arith, r, s)
      first false = omega arith
