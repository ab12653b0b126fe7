-- The labels that are declared on a production are those of its children, of its locals and of the locals that a file makes on it.
use Rattle.std.proofs.Common.{◌≡◌, ◌++◌, ℕ, Bool, true, false, List, [], Contains, map, ap, sym, refl, subst, ◌∙◌}
use Rattle.std.specs.List.{AllZip}
use Rattle.std.proofs.lemmas.Bool.{false≢true}
use Rattle.wb_lemmas.proofs.Members.{append_contains_left, append_contains_right}
use Rattle.wb_lemmas.proofs.Zips.{zip_map}
use Rattle.wb_syntax_resolved.specs.declared.production.Child.{Child}
use Rattle.wb_syntax_resolved.specs.declared.production.Local.{Local}
use Rattle.wb_syntax_resolved.specs.declared.production.Production.{Production}
use Rattle.wb_syntax.specs.declared.expression.Equation as written
use Rattle.wb_syntax.specs.declared.expression.Target.{Target}
use Rattle.wb_syntax.specs.declared.expression.Target.TheVariants as g
use Rattle.wb_syntax.specs.declared.item.PlainForm.{PlainForm}
use Rattle.wb_syntax.specs.declared.item.PlainForm.TheVariants as i
use Rattle.wb_syntax.specs.declared.production.Child as named
use Rattle.wb_names_theory.specs.declared.declaration.Declaration.{Declaration}
use Rattle.wb_names_theory.specs.declared.declaration.Declaration.TheVariants as d
use Rattle.wb_names_theory.specs.declared.declaration.Labelled.{Labelled}
use Rattle.wb_names_theory.specs.Declarations.{ProductionDeclaration, productions}
use Rattle.wb_names_theory.specs.Declares.{declarations, plain_declaration, target_declaration}
use Rattle.wb_names_theory.specs.Hold.{AreOnce}
use Rattle.wb_names_numbers_theory.specs.Files.{File, equations_on}
use Rattle.wb_names_numbers_theory.specs.Written.{local_equations, makes_local}
use Rattle.wb_names_numbers_theory.proofs.DeclaredBy.{IsDeclaredBy, declared_by}
use Rattle.wb_names_numbers_theory.proofs.DeclaredBy as by
use Rattle.wb_names_numbers_theory.proofs.OneProduction.{local_label}
use Rattle.wb_names_numbers_theory.proofs.RowLemmas.{map_contains}
use Rattle.wb_names_numbers_theory.proofs.Selected.{filter_contains, equations_of_block}
use Rattle.wb_names_rows.specs.declared.moves.Moves.{Moves}
use Rattle.wb_names_rows.specs.Moves.{IsChildNow, IsLocalNow}
use Rattle.wb_names.specs.Inner.Bodies.{KnowsLabels, labels_with}
use Rattle.wb_names.proofs.OnceLemmas.{one_base, one_own, not_both}

abbrev is_label : Declaration → Bool
is_label (d.Label p l is) = true
is_label other = false

no_label : (x : PlainForm) → is_label (plain_declaration x) ≡ false
no_label (i.Prefer first second) = refl
no_label (i.Nonterminal one) = refl
no_label (i.Start one) = refl
no_label (i.Extensible one) = refl
no_label (i.Closed one) = refl
no_label (i.Synthesized one its) = refl
no_label (i.Inherited one its) = refl
no_label (i.Occurs a m needs) = refl
no_label (i.ForwardOn m needs) = refl

-- a declaration of a label is on its block's production
named_block : (p name : List ℕ) (to : Target) (l : List ℕ) (is : Labelled) → target_declaration p to ≡ d.Label name l is → p ≡ name
named_block p name (g.Local own nonterminal) l is same = cc
named_block p name (g.Label m a) l is same = absurd (false≢true (ap is_label same))
named_block p name (g.Top a) l is same = absurd (false≢true (ap is_label same))
named_block p name (g.Forward a) l is same = absurd (false≢true (ap is_label same))
named_block p name g.ForwardsTo l is same = absurd (false≢true (ap is_label same))

-- labels that have each of these
pub record HasEach (file : File) (name : List ℕ) (labels : List (List ℕ)) : Type 0 where
  pub children : (q : Production) → Contains file.base.attributes.productions q → q.name ≡ name → (c : Child) → Contains q.children c
      → Contains labels c.label
  pub locals : (q : Production) → Contains file.base.attributes.productions q → q.name ≡ name → (l : Local) → Contains q.locals l
      → Contains labels l.label
  pub own : (x : ProductionDeclaration) → Contains (productions file.items) x → x.production.name ≡ name → (c : named.Child)
      → Contains x.production.children c → Contains labels c.label
  pub made : (q : written.Equation) → Contains (local_equations (equations_on name file.items)) q → Contains labels (local_label q.target)

module _ (file : File) (name : List ℕ) (labels : List (List ℕ)) (each : HasEach file name labels) where
  -- the local that an equation makes
  from_target : (q : written.Equation) → Contains (equations_on name file.items) q → (to : Target) → q.target ≡ to → (l : List ℕ)
      (is : Labelled) (p : List ℕ) → target_declaration p to ≡ d.Label name l is → Contains labels l
  from_target q has (g.Local own nonterminal) e l is p same =
      let called : own ≡ l = cc in
      subst (Contains labels) (ap local_label e ∙ called)
      (each.made q (filter_contains (λ (e : written.Equation). makes_local e.target) (equations_on name file.items) q has
      (ap makes_local e)))
  from_target q has (g.Top a) e l is p same = absurd (false≢true (ap is_label same))
  from_target q has (g.Label m a) e l is p same = absurd (false≢true (ap is_label same))
  from_target q has (g.Forward a) e l is p same = absurd (false≢true (ap is_label same))
  from_target q has g.ForwardsTo e l is p same = absurd (false≢true (ap is_label same))

  known_by : (l : List ℕ) (is : Labelled) → IsDeclaredBy file.base file.items (d.Label name l is) → Contains labels l
  known_by l is (by.base_child q has c more e) =
      let same : q.name ≡ name = cc in
      let called : c.label ≡ l = cc in
      subst (Contains labels) called (each.children q has same c more)
  known_by l is (by.base_local q has y more e) =
      let same : q.name ≡ name = cc in
      let called : y.label ≡ l = cc in
      subst (Contains labels) called (each.locals q has same y more)
  known_by l is (by.child x has c more e) =
      let same : x.production.name ≡ name = cc in
      let called : c.label ≡ l = cc in
      subst (Contains labels) called (each.own x has same c more)
  known_by l is (by.equation b has q more e) =
      from_target q (equations_of_block name file.items b has (named_block b.name name q.target l is e) q more) q.target refl l is b.name e
  known_by l is (by.base_terminal x has e) = absurd (false≢true (ap is_label e))
  known_by l is (by.base_nonterminal x has e) = absurd (false≢true (ap is_label e))
  known_by l is (by.base_attribute x has e) = absurd (false≢true (ap is_label e))
  known_by l is (by.base_occurrence x has e) = absurd (false≢true (ap is_label e))
  known_by l is (by.base_symbol p has e) = absurd (false≢true (ap is_label e))
  known_by l is (by.base_left p has e) = absurd (false≢true (ap is_label e))
  known_by l is (by.base_forward p has f some e) = absurd (false≢true (ap is_label e))
  known_by l is (by.base_equation p has q more e) = absurd (false≢true (ap is_label e))
  known_by l is (by.lexical x has e) = absurd (false≢true (ap is_label e))
  known_by l is (by.plain x has e) = absurd (false≢true (sym (no_label x) ∙ ap is_label e))
  known_by l is (by.production x has e) = absurd (false≢true (ap is_label e))
  known_by l is (by.left x has e) = absurd (false≢true (ap is_label e))

  known_labels : KnowsLabels file name labels
  known_labels l is has = known_by l is (declared_by file.base file.items (d.Label name l is) has)

-- the parts of labels
module _ (children : List Child) (locals : List Local) (equations : List written.Equation) where
  abbrev of_children : List (List ℕ)
  of_children = map (λ (c : Child). c.label) children

  abbrev of_locals : List (List ℕ)
  of_locals = map (λ (l : Local). l.label) locals

  abbrev of_equations : List (List ℕ)
  of_equations = map (λ (q : written.Equation). local_label q.target) (local_equations equations)

  in_children : (l : List ℕ) → Contains of_children l → Contains (labels_with children locals equations) l
  in_children l has = append_contains_left of_children (of_locals ++ of_equations) l has

  in_locals : (l : List ℕ) → Contains of_locals l → Contains (labels_with children locals equations) l
  in_locals l has = append_contains_right of_children (of_locals ++ of_equations) l (append_contains_left of_locals of_equations l has)

  in_equations : (q : written.Equation) → Contains (local_equations equations) q
      → Contains (labels_with children locals equations) (local_label q.target)
  in_equations q has =
      append_contains_right of_children (of_locals ++ of_equations) (local_label q.target)
      (append_contains_right of_locals of_equations (local_label q.target)
      (map_contains (λ (q : written.Equation). local_label q.target) (local_equations equations) q has))

module _ (file : File) (once : AreOnce (declarations file.base file.items)) where
  -- on a production of the base
  pub base_known : (m : Moves) (p : Production) (children : List Child) (locals : List Local)
      → Contains file.base.attributes.productions p → AllZip (IsChildNow m) p.children children → AllZip (IsLocalNow m) p.locals locals
      → KnowsLabels file p.name (labels_with children locals (equations_on p.name file.items))
  base_known m p children locals has are_children are_locals =
      let equations = equations_on p.name file.items in
      let same_children : map (λ (c : Child). c.label) children ≡ map (λ (c : Child). c.label) p.children =
      zip_map (IsChildNow m) (λ (c : Child). c.label) (λ (c : Child). c.label) (λ x y e. e.label) p.children children are_children in
      let same_locals : map (λ (l : Local). l.label) locals ≡ map (λ (l : Local). l.label) p.locals =
      zip_map (IsLocalNow m) (λ (l : Local). l.label) (λ (l : Local). l.label) (λ x y e. e.label) p.locals locals are_locals in
      known_labels file p.name (labels_with children locals equations) (record {
        children = λ q more same c in_q.
            let is : q ≡ p = one_base file.base file.items once q p more has same in
            in_children children locals equations c.label (subst (λ z. Contains z c.label) (sym same_children)
            (map_contains (λ (c : Child). c.label) p.children c (subst (λ (z : Production). Contains z.children c) is in_q)));
        locals = λ q more same l in_q.
            let is : q ≡ p = one_base file.base file.items once q p more has same in
            in_locals children locals equations l.label (subst (λ z. Contains z l.label) (sym same_locals)
            (map_contains (λ (l : Local). l.label) p.locals l (subst (λ (z : Production). Contains z.locals l) is in_q)));
        own = λ x more same c in_x. absurd (not_both file.base file.items once p x has more (sym same));
        made = λ q made. in_equations children locals equations q made;
      })

  -- on a production of the file
  pub own_known : (x : ProductionDeclaration) (children : List Child) → Contains (productions file.items) x
      → map (λ (c : Child). c.label) children ≡ map (λ (c : named.Child). c.label) x.production.children
      → KnowsLabels file x.production.name (labels_with children [] (equations_on x.production.name file.items))
  own_known x children has same_children =
      let name = x.production.name in
      let equations = equations_on name file.items in
      known_labels file name (labels_with children [] equations) (record {
        children = λ q more same c in_q. absurd (not_both file.base file.items once q x more has same);
        locals = λ q more same l in_q. absurd (not_both file.base file.items once q x more has same);
        own = λ y more same c in_y.
            let is : y ≡ x = one_own file.base file.items once y x more has same in
            in_children children [] equations c.label (subst (λ z. Contains z c.label) (sym same_children)
            (map_contains (λ (c : named.Child). c.label) x.production.children c
            (subst (λ (z : ProductionDeclaration). Contains z.production.children c) is in_y)));
        made = λ q made. in_equations children [] equations q made;
      })
