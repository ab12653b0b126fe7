-- The left side that is declared of a production, and that it forwards, are in its row.
use Rattle.std.proofs.Common.{◌≡◌, ◌∷◌, [], ℕ, Bool, true, false, List, Option, Some, None, Contains, slice_get, ap}
use Rattle.std.proofs.Common.{sym, refl, subst, ◌∙◌}
use Rattle.std.specs.Prelude.{option_to_list, IsSome}
use Rattle.std.specs.List.{AllZip}
use Rattle.std.proofs.lemmas.Bool.{false≢true}
use Rattle.wb_lemmas.proofs.Members.{nothing_in, contains_first}
use Rattle.wb_syntax_resolved.specs.declared.production.Production.{Production}
use Rattle.wb_syntax_resolved.specs.declared.resolved.ResolvedParts.{ResolvedParts}
use Rattle.wb_syntax.specs.declared.expression.Equation as written
use Rattle.wb_syntax.specs.declared.expression.Target.{Target}
use Rattle.wb_syntax.specs.declared.expression.Target.TheVariants as g
use Rattle.wb_syntax.specs.declared.item.Item.{Item}
use Rattle.wb_syntax.specs.declared.item.ItemForm.{ItemForm}
use Rattle.wb_syntax.specs.declared.item.ItemForm.TheVariants as f
use Rattle.wb_syntax.specs.declared.item.PlainForm.{PlainForm}
use Rattle.wb_syntax.specs.declared.item.PlainForm.TheVariants as i
use Rattle.wb_syntax.specs.declared.pattern.Pattern.{Pattern}
use Rattle.wb_names_theory.specs.declared.declaration.Declaration.{Declaration}
use Rattle.wb_names_theory.specs.declared.declaration.Declaration.TheVariants as d
use Rattle.wb_names_theory.specs.Declarations.{production_of}
use Rattle.wb_names_theory.specs.Declares.{declarations, nonterminal_name, plain_declaration, target_declaration}
use Rattle.wb_names_theory.specs.Meaning.{HasLeft, Forwards}
use Rattle.wb_names_theory.specs.WrongKind.{misplaced, form_misplaced, misplaced_forward}
use Rattle.wb_names_numbers_theory.specs.Files.{File, Block, blocks, block_of, equations_on}
use Rattle.wb_names_numbers_theory.specs.Numbering.{Numbering, numbering_of, IsNumber, labels_in}
use Rattle.wb_names_numbers_theory.specs.Moved.{IsMovedForward}
use Rattle.wb_names_numbers_theory.specs.Resolves.{move_of}
use Rattle.wb_names_numbers_theory.specs.Written.{IsWrittenForward, forward_equations, makes_forward}
use Rattle.wb_names_numbers_theory.proofs.CarryingNamed.{something}
use Rattle.wb_names_numbers_theory.proofs.DeclaredBy.{IsDeclaredBy, declared_by}
use Rattle.wb_names_numbers_theory.proofs.OwnDeclared.{kept, flat_map_contains}
use Rattle.wb_names_numbers_theory.proofs.DeclaredBy as by
use Rattle.wb_names_numbers_theory.proofs.Found.{moved_nonterminal}
use Rattle.wb_names_numbers_theory.proofs.Ground.{Ground, base_row, own_row}
use Rattle.wb_names_numbers_theory.proofs.Selected.{kept_from, filter_contains, equations_of_block}

abbrev is_left : Declaration → Bool
is_left (d.Left p m) = true
is_left other = false

abbrev is_forward : Declaration → Bool
is_forward (d.Forward p) = true
is_forward other = false

target_no_left : (p : List ℕ) (t : Target) → is_left (target_declaration p t) ≡ false
target_no_left p (g.Top a) = refl
target_no_left p (g.Label l a) = refl
target_no_left p (g.Forward a) = refl
target_no_left p (g.Local l m) = refl
target_no_left p g.ForwardsTo = refl

plain_no_left : (x : PlainForm) → is_left (plain_declaration x) ≡ false
plain_no_left (i.Prefer first second) = refl
plain_no_left (i.Nonterminal one) = refl
plain_no_left (i.Start one) = refl
plain_no_left (i.Extensible one) = refl
plain_no_left (i.Closed one) = refl
plain_no_left (i.Synthesized one its) = refl
plain_no_left (i.Inherited one its) = refl
plain_no_left (i.Occurs a m needs) = refl
plain_no_left (i.ForwardOn m needs) = refl

plain_no_forward : (x : PlainForm) → is_forward (plain_declaration x) ≡ false
plain_no_forward (i.Prefer first second) = refl
plain_no_forward (i.Nonterminal one) = refl
plain_no_forward (i.Start one) = refl
plain_no_forward (i.Extensible one) = refl
plain_no_forward (i.Closed one) = refl
plain_no_forward (i.Synthesized one its) = refl
plain_no_forward (i.Inherited one its) = refl
plain_no_forward (i.Occurs a m needs) = refl
plain_no_forward (i.ForwardOn m needs) = refl

-- where something is beside an element, there is something
beside_one : {A B : Type 0} (R : A → B → Type 0) (xs : List A) (x : A) (o : Option B) → Contains xs x → AllZip R xs (option_to_list o)
    → IsSome o
beside_one R [] x o has all = absurd (nothing_in x has)
beside_one R (y ∷ ys) x None has all = absurd all
beside_one R (y ∷ ys) x (Some z) has all = refl

module _ (file : File) (r : ResolvedParts) (ground : Ground file r) (placed : misplaced file.owner file.items ≡ []) (at_row : ℕ)
    (row : Production) (is_there : slice_get r.attributes.productions at_row ≡ Some row) where
  abbrev n : Numbering
  n = numbering_of r

  left_by : (m : List ℕ) → IsDeclaredBy file.base file.items (d.Left row.name m) → IsNumber n.nonterminals file.owner m row.left
  left_by m (by.base_left p has e) =
      let same : p.name ≡ row.name = cc in
      let what : nonterminal_name file.base p.left ≡ m = cc in
      subst (λ z. IsNumber n.nonterminals file.owner z row.left) what
      (moved_nonterminal file r ground p.left row.left (base_row file r ground p has at_row row is_there same).left)
  left_by m (by.left x has e) =
      let same : x.production.name ≡ row.name = cc in
      let what : x.production.left ≡ m = cc in
      subst (λ z. IsNumber n.nonterminals file.owner z row.left) what (own_row file r ground x has at_row row is_there same).left
  left_by m (by.base_terminal x has e) = absurd (false≢true (ap is_left e))
  left_by m (by.base_nonterminal x has e) = absurd (false≢true (ap is_left e))
  left_by m (by.base_attribute x has e) = absurd (false≢true (ap is_left e))
  left_by m (by.base_occurrence x has e) = absurd (false≢true (ap is_left e))
  left_by m (by.base_symbol p has e) = absurd (false≢true (ap is_left e))
  left_by m (by.base_child p has c more e) = absurd (false≢true (ap is_left e))
  left_by m (by.base_local p has l more e) = absurd (false≢true (ap is_left e))
  left_by m (by.base_forward p has f some e) = absurd (false≢true (ap is_left e))
  left_by m (by.base_equation p has q more e) = absurd (false≢true (ap is_left e))
  left_by m (by.lexical x has e) = absurd (false≢true (ap is_left e))
  left_by m (by.plain x has e) = absurd (false≢true (sym (plain_no_left x) ∙ ap is_left e))
  left_by m (by.production x has e) = absurd (false≢true (ap is_left e))
  left_by m (by.child x has c more e) = absurd (false≢true (ap is_left e))
  left_by m (by.equation b has q more e) = absurd (false≢true (sym (target_no_left b.name q.target) ∙ ap is_left e))

  pub left_found : (m : List ℕ) → HasLeft (declarations file.base file.items) row.name m → IsNumber n.nonterminals file.owner m row.left
  left_found m has = left_by m (declared_by file.base file.items (d.Left row.name m) has)

  -- an aspect has no forward
  no_forward : (item : Item Pattern) → Contains file.items item → (name : List ℕ) (es : List written.Equation)
      → item.form ≡ f.Aspect name es
      → (q : written.Equation) → Contains es q → q.target ≡ g.ForwardsTo → ⊥
  no_forward item has name es e q more is =
      let one : Contains (misplaced_forward name q.target) name =
      subst (λ z. Contains (misplaced_forward name z) name) (sym is) (contains_first name []) in
      let two : Contains (form_misplaced file.owner (f.Aspect name es)) name =
      flat_map_contains (λ (e : written.Equation). misplaced_forward name e.target) es q name more one in
      let three : Contains (misplaced file.owner file.items) name =
      flat_map_contains (λ (x : Item Pattern). form_misplaced file.owner x.form) file.items item name has
      (subst (λ z. Contains (form_misplaced file.owner z) name) (sym e) two) in
      nothing_in name (subst (λ z. Contains z name) placed three)

  forward_of_block : (b : Block) → Contains (blocks file.items) b → b.name ≡ row.name → (q : written.Equation) → Contains b.equations q
      → q.target ≡ g.ForwardsTo → IsSome row.forward
  forward_of_block b has same q more is =
      let x = kept_from (λ (x : Item Pattern). block_of x.form) file.items b has in
      from x.0 x.1 x.0.form refl x.2 where
        from : (item : Item Pattern) → Contains file.items item → (form : ItemForm Pattern) → item.form ≡ form → block_of form ≡ Some b
            → IsSome row.forward
        from item there (f.Lexical role name pattern) e o = absurd (cc o)
        from item there (f.Plain plain) e o = absurd (cc o)
        from item there (f.Production role p) e o =
            let declared = kept (λ (x : Item Pattern). production_of x.form) file.items item (record { role = role; production = p }) there
            (ap production_of e) in
            let block : record { name = p.name; equations = p.equations } ≡ b = cc in
            let named : p.name ≡ row.name = ap (λ (z : Block). z.name) block ∙ same in
            let own = own_row file r ground (record { role = role; production = p }) declared at_row row is_there named in
            beside_one (IsWrittenForward n file.owner (labels_in row)) (forward_equations (equations_on p.name file.items)) q row.forward
            (filter_contains (λ (z : written.Equation). makes_forward z.target) (equations_on p.name file.items) q
            (equations_of_block p.name file.items b has (ap (λ (z : Block). z.name) (sym block)) q more) (ap makes_forward is)) own.forward
        from item there (f.Aspect name es) e o =
            let block : record { name = name; equations = es } ≡ b = cc in
            absurd (no_forward item there name es e q (subst (λ (z : Block). Contains z.equations q) (sym block) more) is)

  forward_target : (b : Block) → Contains (blocks file.items) b → (q : written.Equation) → Contains b.equations q → (to : Target)
      → q.target ≡ to → target_declaration b.name to ≡ d.Forward row.name → IsSome row.forward
  forward_target b has q more g.ForwardsTo is e = let same : b.name ≡ row.name = cc in forward_of_block b has same q more is
  forward_target b has q more (g.Top a) is e = absurd (false≢true (ap is_forward e))
  forward_target b has q more (g.Label l a) is e = absurd (false≢true (ap is_forward e))
  forward_target b has q more (g.Forward a) is e = absurd (false≢true (ap is_forward e))
  forward_target b has q more (g.Local l m) is e = absurd (false≢true (ap is_forward e))

  forward_by : IsDeclaredBy file.base file.items (d.Forward row.name) → IsSome row.forward
  forward_by (by.base_forward p has x some e) =
      let same : p.name ≡ row.name = cc in
      something (IsMovedForward (move_of file n) (labels_in p) (labels_in row)) p.forward row.forward
      (base_row file r ground p has at_row row is_there same).forward (subst IsSome (sym some) refl)
  forward_by (by.equation b has q more e) = forward_target b has q more q.target refl e
  forward_by (by.base_terminal x has e) = absurd (false≢true (ap is_forward e))
  forward_by (by.base_nonterminal x has e) = absurd (false≢true (ap is_forward e))
  forward_by (by.base_attribute x has e) = absurd (false≢true (ap is_forward e))
  forward_by (by.base_occurrence x has e) = absurd (false≢true (ap is_forward e))
  forward_by (by.base_symbol p has e) = absurd (false≢true (ap is_forward e))
  forward_by (by.base_left p has e) = absurd (false≢true (ap is_forward e))
  forward_by (by.base_child p has c more e) = absurd (false≢true (ap is_forward e))
  forward_by (by.base_local p has l more e) = absurd (false≢true (ap is_forward e))
  forward_by (by.base_equation p has q more e) = absurd (false≢true (ap is_forward e))
  forward_by (by.lexical x has e) = absurd (false≢true (ap is_forward e))
  forward_by (by.plain x has e) = absurd (false≢true (sym (plain_no_forward x) ∙ ap is_forward e))
  forward_by (by.production x has e) = absurd (false≢true (ap is_forward e))
  forward_by (by.left x has e) = absurd (false≢true (ap is_forward e))
  forward_by (by.child x has c more e) = absurd (false≢true (ap is_forward e))

  pub forward_found : Forwards (declarations file.base file.items) row.name → IsSome row.forward
  forward_found has = forward_by (declared_by file.base file.items (d.Forward row.name) has)
