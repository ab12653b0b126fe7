-- The same tokens at other places are the same item but for places.
use Rattle.std.proofs.Common.{◌≡◌, List, ◌∷◌, ◌++◌, refl, sym, ap, ◌∙◌, subst}
use Rattle.wb_syntax.specs.declared.production.Production.{Production}
use Rattle.wb_syntax.specs.declared.production.ProductionRole.{ProductionRole}
use Rattle.wb_syntax.specs.declared.production.ProductionRole.TheVariants as kinds
use Rattle.wb_syntax.specs.declared.item.Item.{Item}
use Rattle.wb_syntax.specs.declared.item.ItemForm.{ItemForm}
use Rattle.wb_syntax.specs.declared.item.ItemForm.TheVariants as forms
use Rattle.wb_syntax.specs.declared.pattern.Pattern.{Pattern}
use Rattle.wb_syntax.specs.declared.pattern.Role.{Role}
use Rattle.wb_syntax.specs.declared.pattern.Role.TheVariants as r
use Rattle.wb_syntax.specs.declared.pattern.WrittenPattern.{WrittenPattern}
use Rattle.wb_syntax.specs.Tokens.{Lexeme}
use Rattle.wb_syntax.specs.Fields.{Field, AreFields, no_field, then_word, then_mark, then_name, then_kind, then_needs, then_optional_needs}
use Rattle.wb_syntax.specs.ItemGrammar as item
use Rattle.wb_syntax.specs.ItemGrammar.{IsProduction, IsProductionRole, IsPlain, IsItem, IsRole}
use Rattle.wb_syntax.specs.SpecText.{IsReadForm, IsReadAs}
use Rattle.wb_syntax.specs.Offsets.{unplaced, unplaced_form, unplaced_production}
use Rattle.wb_reader_printer.proofs.Alike.{Alike, done, step, headed, halves, alike_as}
use Rattle.wb_reader_printer.proofs.AlikeParts.{kind_alike, needs_alike, optional_alike, children_alike, block_alike}

-- the lexemes are a production that is this one but for places
record HasProduction (ys : List Lexeme) (q : Production) : Type 0 where
  other : Production
  is : IsProduction ys other
  same : unplaced_production other ≡ unplaced_production q

-- a production
production_alike : (xs : List Lexeme) (q : Production) → IsProduction xs q → (ys : List Lexeme) → Alike xs ys → HasProduction ys q
production_alike xs q (item.whole {n = n} {c = c} {l = l} {b = m} {u = u} {v = v} {name = name} {left = left} {children = cs}
    {equations = es} h j k o s f g) ys a =
    let b = headed n (c ∷ l ∷ m ∷ (u ++ v)) ys (alike_as xs _ ys g a) in
    let d = headed c (l ∷ m ∷ (u ++ v)) b.tail b.others in
    let e = headed l (m ∷ (u ++ v)) d.tail d.others in
    let w = headed m (u ++ v) e.tail e.others in
    let z = halves u v w.tail w.others in
    let block = block_alike v es f z.right z.second in
    record {
      other = record { name = name; left = left; children = cs; equations = block.others };
      is = item.whole (b.same ∙ h) (d.same ∙ j) (e.same ∙ k) (w.same ∙ o) (children_alike u cs s z.left z.first) block.is
          (b.whole ∙ ap (λ y. b.head ∷ y) (d.whole ∙ ap (λ y. d.head ∷ y) (e.whole ∙ ap (λ y. e.head ∷ y)
          (w.whole ∙ ap (λ y. w.head ∷ y) z.whole))));
      same = ap (λ y. record { name = name; left = left; children = cs; equations = y }) block.same;
    }

-- fields
fields_alike : (xs : List Lexeme) (fields : List Field) → AreFields xs fields → (ys : List Lexeme) → Alike xs ys → AreFields ys fields
fields_alike xs fields no_field ys done = no_field
fields_alike xs fields (then_word {v = v} {rest = rest} h s) ys (step {ys = zs} q a) = then_word (q ∙ h) (fields_alike v rest s zs a)
fields_alike xs fields (then_mark {v = v} {rest = rest} h s) ys (step {ys = zs} q a) = then_mark (q ∙ h) (fields_alike v rest s zs a)
fields_alike xs fields (then_name {v = v} {rest = rest} h s) ys (step {ys = zs} q a) = then_name (q ∙ h) (fields_alike v rest s zs a)
fields_alike xs fields (then_kind {u = u} {v = v} {value = its} {rest = rest} h s g) ys a =
    let f = halves u v ys (alike_as xs _ ys g a) in
    then_kind (kind_alike u its h f.left f.first) (fields_alike v rest s f.right f.second) f.whole
fields_alike xs fields (then_needs {u = u} {v = v} {value = its} {rest = rest} h s g) ys a =
    let f = halves u v ys (alike_as xs _ ys g a) in
    then_needs (needs_alike u its h f.left f.first) (fields_alike v rest s f.right f.second) f.whole
fields_alike xs fields (then_optional_needs {u = u} {v = v} {value = its} {rest = rest} h s g) ys a =
    let f = halves u v ys (alike_as xs _ ys g a) in
    then_optional_needs (optional_alike u its h f.left f.first) (fields_alike v rest s f.right f.second) f.whole

-- the words of roles
role_alike : (role : Role) (x y : Lexeme) → y.token ≡ x.token → IsRole role x → IsRole role y
role_alike r.Terminal x y e h = e ∙ h
role_alike r.Ignore x y e h = e ∙ h
role_alike r.Marking x y e h = e ∙ h

production_role_alike : (role : ProductionRole) (x y : Lexeme) → y.token ≡ x.token → IsProductionRole role x → IsProductionRole role y
production_role_alike kinds.Concrete x y e h = e ∙ h
production_role_alike kinds.Abstract x y e h = e ∙ h

-- the lexemes are an item, and once it is read it is of this form but for places
record HasForm (ys : List Lexeme) (form : ItemForm Pattern) : Type 0 where
  written : Item WrittenPattern
  other : ItemForm Pattern
  grammar : IsItem ys written
  read : IsReadForm written.form other
  same : unplaced_form other ≡ unplaced_form form

form_alike : (xs : List Lexeme) (written : Item WrittenPattern) (form : ItemForm Pattern) → IsItem xs written → IsReadForm written.form form
    → (ys : List Lexeme) → Alike xs ys → HasForm ys form
form_alike xs written form (item.lexical {x = x} {role = role} {name = name} {bytes = bytes} h j k l) read ys
    (step {y = a} q (step v (step {y = c} u (step o done)))) = record {
      written = record { offset = a.at; form = forms.Lexical role name (record { bytes = bytes; at = c.at }) };
      other = forms.Lexical role name (record { bytes = bytes; regex = read.0 });
      grammar = item.lexical (role_alike role x a q h) (v ∙ j) (u ∙ k) (o ∙ l);
      read = (read.0, read.1, refl);
      same = ap unplaced_form (sym read.2);
    }
form_alike xs written form (item.plain {x = x} {u = u} {form = one} h) read ys a =
    let b = headed x u ys a in record {
      written = record { offset = b.head.at; form = forms.Plain one };
      other = forms.Plain one;
      grammar = subst (λ z. IsItem z (record { offset = b.head.at; form = forms.Plain one })) (sym b.whole)
          (item.plain (subst (λ z. IsPlain z one) b.whole (fields_alike (x ∷ u) (item.plain_fields one) h ys a)));
      read = refl;
      same = ap unplaced_form (sym read);
    }
form_alike xs written form (item.production {x = w} {u = u} {role = role} {production = production} h s) read ys
    (step {y = x} {ys = zs} q a) =
    let m = production_alike u production s zs a in record {
      written = record { offset = x.at; form = forms.Production role m.other };
      other = forms.Production role m.other;
      grammar = item.production (production_role_alike role w x q h) m.is;
      read = refl;
      same = ap (λ y. forms.Production role y) m.same ∙ ap unplaced_form (sym read);
    }
form_alike xs written form (item.aspect {u = u} {name = name} {equations = es} h j s) read ys (step {y = x} q (step {ys = zs} k a)) =
    let m = block_alike u es s zs a in record {
      written = record { offset = x.at; form = forms.Aspect name m.others };
      other = forms.Aspect name m.others;
      grammar = item.aspect (q ∙ h) (k ∙ j) m.is;
      read = refl;
      same = ap (λ y. forms.Aspect name y) m.same ∙ ap unplaced_form (sym read);
    }

-- the lexemes are an item, and once it is read it is this one but for places
pub record HasItem (ys : List Lexeme) (one : Item Pattern) : Type 0 where
  pub written : Item WrittenPattern
  pub other : Item Pattern
  pub grammar : IsItem ys written
  pub read : IsReadAs written other
  pub same : unplaced other ≡ unplaced one

-- the same tokens are the same item but for places
pub item_alike : (xs : List Lexeme) (written : Item WrittenPattern) (one : Item Pattern) → IsItem xs written → IsReadAs written one
    → (ys : List Lexeme) → Alike xs ys → HasItem ys one
item_alike xs written one h read ys a =
    let m = form_alike xs written one.form h read.form ys a in record {
      written = m.written;
      other = record { offset = m.written.offset; form = m.other };
      grammar = m.grammar;
      read = record { offset = refl; form = m.read };
      same = ap (λ form. record { offset = 0; form = form }) m.same;
    }
