-- The tokens of expressions, items and headers that are in the grammar.
use Rattle.std.proofs.Common.{◌≡◌, ℕ, List, [], ◌∷◌, ◌++◌, map, refl, sym, ap, ◌∙◌, subst, Option}
use Rattle.std.proofs.lemmas.List.{map-append, append_assoc}
use Rattle.wb_text_tokens.specs.declared.token.Token.{Token}
use Rattle.wb_text_tokens.specs.declared.token.Token.TheVariants as t
use Rattle.wb_syntax.specs.declared.expression.Equation.{Equation}
use Rattle.wb_syntax.specs.declared.expression.Target.{Target}
use Rattle.wb_syntax.specs.declared.header.Header.{Header}
use Rattle.wb_syntax.specs.declared.item.Item.{Item}
use Rattle.wb_syntax.specs.declared.item.ItemForm.{ItemForm}
use Rattle.wb_syntax.specs.declared.item.ItemForm.TheVariants as f
use Rattle.wb_syntax.specs.declared.pattern.Pattern.{Pattern}
use Rattle.wb_syntax.specs.declared.pattern.Role.{Role}
use Rattle.wb_syntax.specs.declared.pattern.Role.TheVariants as r
use Rattle.wb_syntax.specs.declared.pattern.WrittenPattern.{WrittenPattern}
use Rattle.wb_syntax.specs.declared.production.NamedKind.{NamedKind}
use Rattle.wb_syntax.specs.declared.production.Child.{Child}
use Rattle.wb_syntax.specs.declared.production.Production.{Production}
use Rattle.wb_syntax.specs.declared.production.ProductionRole.{ProductionRole}
use Rattle.wb_syntax.specs.declared.production.ProductionRole.TheVariants as kinds
use Rattle.wb_syntax.specs.Tokens.{Lexeme}
use Rattle.wb_syntax.specs.Expression.{Expression, Expressions}
use Rattle.wb_syntax.specs.ExpressionGrammar as e
use Rattle.wb_syntax.specs.ExpressionGrammar.{IsExpression, AreArguments, AreFurther}
use Rattle.wb_syntax.specs.PartGrammar as part
use Rattle.wb_syntax.specs.PartGrammar.{IsKind, AreFurtherNames, AreNames, AreNeeds, AreOptionalNeeds, AreChildren, IsTarget, AreEquations}
use Rattle.wb_syntax.specs.PartGrammar.{IsBlock}
use Rattle.wb_syntax.specs.Fields.{Field, AreFields, no_field, then_word, then_mark, then_name, then_kind, then_needs, then_optional_needs}
use Rattle.wb_syntax.specs.ItemGrammar as item
use Rattle.wb_syntax.specs.ItemGrammar.{IsProduction, IsProductionRole, IsItem, IsHeader, IsRole}
use Rattle.wb_syntax.specs.Equations.{equations_of}
use Rattle.wb_syntax.proofs.CallerLemmas.{read_equations}
use Rattle.wb_syntax.specs.SpecText.{IsReadForm, IsReadAs}
use Rattle.wb_reader_printer.specs.Inner.ExpressionTokens.{expression_tokens, arguments_tokens, further_tokens}
use Rattle.wb_reader_printer.specs.Inner.PartTokens as tokens_of
use Rattle.wb_reader_printer.specs.Inner.ItemTokens.{role_word, production_word, fields_tokens, production_tokens, form_tokens}
use Rattle.wb_reader_printer.specs.Inner.ItemTokens.{AreItemTokens}
use Rattle.wb_reader_printer.specs.Inner.ItemTokens.{header_tokens}
use Rattle.wb_reader_printer.specs.Inner.PartTokens.{kind_token, further_names, names_tokens, needs_tokens, optional_needs_tokens}
use Rattle.wb_reader_printer.specs.Inner.PartTokens.{children_tokens}
use Rattle.wb_reader_printer.specs.Inner.PartTokens.{target_tokens, AreEquationTokens, block_tokens}

-- the tokens of lexemes
abbrev pub tokens : List Lexeme → List Token
tokens xs = map (λ x. x.token) xs

pub tokens_append : (u v : List Lexeme) → tokens (u ++ v) ≡ tokens u ++ tokens v
tokens_append u v = map-append (λ x. x.token) u v

mutual
  pub of_expression : (xs : List Lexeme) (z : Expression) → IsExpression xs z → tokens xs ≡ expression_tokens z
  of_expression xs z (e.number h) = cc
  of_expression xs z (e.text h) = cc
  of_expression xs z (e.holds h) = cc
  of_expression xs z (e.fails h) = cc
  of_expression xs z (e.label h) = cc
  of_expression xs z (e.read h i j) = cc
  of_expression xs z (e.lexeme h i j) = cc
  of_expression xs z (e.top h i j) = cc
  of_expression xs z (e.forward h i j) = cc
  of_expression xs z (e.build {x = x} {o = o} c {u = u} {es = es} h i s j k) =
      let a = of_arguments u es s in
      let b : tokens xs ≡ x.token ∷ o.token ∷ (tokens u ++ c.token ∷ []) =
      ap tokens k ∙ ap (λ y. x.token ∷ o.token ∷ y) (tokens_append u (c ∷ [])) in
      cc
  of_expression xs z (e.call {a = m} {x = x} {o = o} c {u = u} {es = es} q h i s j k) =
      let a = of_arguments u es s in
      let b : tokens xs ≡ m.token ∷ x.token ∷ o.token ∷ (tokens u ++ c.token ∷ []) =
      ap tokens k ∙ ap (λ y. m.token ∷ x.token ∷ o.token ∷ y) (tokens_append u (c ∷ [])) in
      cc
  of_expression xs z (e.if_then {i = f} q w {u = x} {v = y} {x = v} {condition = c} {one = m} {other = o} h s j k l n g) =
      let a = of_expression x c s in
      let b = of_expression y m k in
      let d = of_expression v o n in
      let whole : tokens xs ≡ f.token ∷ (tokens x ++ q.token ∷ (tokens y ++ w.token ∷ tokens v)) =
      ap tokens g ∙ ap (λ k. f.token ∷ k)
      (tokens_append x (q ∷ (y ++ w ∷ v)) ∙ ap (λ k. tokens x ++ q.token ∷ k) (tokens_append y (w ∷ v))) in
      cc

  of_arguments : (xs : List Lexeme) (es : Expressions) → AreArguments xs es → tokens xs ≡ arguments_tokens es
  of_arguments xs es e.nothing = refl
  of_arguments xs es (e.some {u = u} {v = v} {e = z} {es = zs} h s k) =
      let a = of_expression u z h in
      let b = of_further v zs s in
      let whole : tokens xs ≡ tokens u ++ tokens v = ap tokens k ∙ tokens_append u v in
      cc

  of_further : (xs : List Lexeme) (es : Expressions) → AreFurther xs es → tokens xs ≡ further_tokens es
  of_further xs es e.no_more = refl
  of_further xs es (e.next {c = c} {u = u} {v = v} {e = z} {es = zs} j h s k) =
      let a = of_expression u z h in
      let b = of_further v zs s in
      let whole : tokens xs ≡ c.token ∷ (tokens u ++ tokens v) = ap tokens k ∙ ap (λ y. c.token ∷ y) (tokens_append u v) in
      cc

of_kind : (xs : List Lexeme) (kind : NamedKind) → IsKind xs kind → tokens xs ≡ kind_token kind ∷ []
of_kind xs kind (part.int h) = cc
of_kind xs kind (part.bool h) = cc
of_kind xs kind (part.text h) = cc
of_kind xs kind (part.name h) = cc

of_further_names : (xs : List Lexeme) (ns : List (List ℕ)) → AreFurtherNames xs ns → tokens xs ≡ further_names ns
of_further_names xs ns part.nothing = refl
of_further_names xs ns (part.next {v = v} {ns = rest} h j s) = let a = of_further_names v rest s in cc

of_names : (xs : List Lexeme) (ns : List (List ℕ)) → AreNames xs ns → tokens xs ≡ names_tokens ns
of_names xs ns part.nothing = refl
of_names xs ns (part.some {v = v} {ns = rest} h s) = let a = of_further_names v rest s in cc

of_needs : (xs : List Lexeme) (ns : List (List ℕ)) → AreNeeds xs ns → tokens xs ≡ needs_tokens ns
of_needs xs ns s =
    let a = of_names s.listed ns s.are_names in
    let h = s.is_needs in
    let j = s.is_open in
    let k = s.is_close in
    let whole : tokens xs ≡ s.needs.token ∷ s.open_brace.token ∷ (tokens s.listed ++ s.close_brace.token ∷ []) =
    ap tokens s.whole ∙ ap (λ y. s.needs.token ∷ s.open_brace.token ∷ y) (tokens_append s.listed (s.close_brace ∷ [])) in
    cc

of_optional : (xs : List Lexeme) (o : Option (List (List ℕ))) → AreOptionalNeeds xs o → tokens xs ≡ optional_needs_tokens o
of_optional xs o part.absent = refl
of_optional xs o (part.written {names = ns} s) = of_needs xs ns s

of_children : (xs : List Lexeme) (cs : List Child) → AreChildren xs cs → tokens xs ≡ children_tokens cs
of_children xs cs part.nothing = refl
of_children xs cs (part.next {x = x} {c = c} {u = u} {v = v} {kind = kind} {rest = rest} h j k s g) =
    let a = of_kind u kind k in
    let b = of_children v rest s in
    let whole : tokens xs ≡ x.token ∷ c.token ∷ (tokens u ++ tokens v) =
    ap tokens g ∙ ap (λ y. x.token ∷ c.token ∷ y) (tokens_append u v) in
    cc

of_target : (xs : List Lexeme) (target : Target) → IsTarget xs target → tokens xs ≡ target_tokens target
of_target xs target (part.top h j k l) = cc
of_target xs target (part.label h j k l) = cc
of_target xs target (part.forward h j k l) = cc
of_target xs target (part.local h j k l m) = cc
of_target xs target (part.forwards_to h j) = cc

of_equations : (xs : List Lexeme) (es : List Equation) → AreEquations xs es → AreEquationTokens es (tokens xs)
of_equations xs es part.nothing = tokens_of.nothing
of_equations xs es (part.next {x = x} s {u = u} {v = v} {r = q} {target = target} {e = z} {rest = rest} h j k l g) =
    let a = of_target (x ∷ u) target h in
    let b = of_expression v z j in
    let c = of_equations q rest l in
    let whole : tokens xs ≡ tokens (x ∷ u) ++ (tokens v ++ s.token ∷ tokens q) =
    ap tokens g ∙ ap (λ y. x.token ∷ y)
    (tokens_append (u ++ v) (s ∷ q) ∙
    (ap (λ y. y ++ s.token ∷ tokens q) (tokens_append u v) ∙ append_assoc (tokens u) (tokens v) (s.token ∷ tokens q))) in
    tokens_of.next z refl c (cc)

of_block : (xs : List Lexeme) (es : List Equation) → IsBlock xs es → (inner : List Token) × AreEquationTokens es inner
    × (tokens xs ≡ block_tokens inner)
of_block xs es s =
    let h = s.is_open in
    let k = s.is_close in
    let whole : tokens xs ≡ s.open_brace.token ∷ (tokens s.inner ++ s.close_brace.token ∷ []) =
    ap tokens s.whole ∙ ap (λ y. s.open_brace.token ∷ y) (tokens_append s.inner (s.close_brace ∷ [])) in
    (tokens s.inner, of_equations s.inner es s.are_equations, cc)

of_production : (xs : List Lexeme) (q : Production) → IsProduction xs q
    → (inner : List Token) × AreEquationTokens q.equations inner × (tokens xs ≡ production_tokens q inner)
of_production xs q (item.whole {n = n} {c = c} {l = l} {b = b} {u = u} {v = v} {children = cs} {equations = es} h j k m s o g) =
    let a = of_children u cs s in
    let d = of_block v es o in
    let f = d.2 in
    let whole : tokens xs ≡ n.token ∷ c.token ∷ l.token ∷ b.token ∷ (tokens u ++ tokens v) =
    ap tokens g ∙ ap (λ y. n.token ∷ c.token ∷ l.token ∷ b.token ∷ y) (tokens_append u v) in
    (d.0, d.1, cc)

-- fields
of_fields : (xs : List Lexeme) (fields : List Field) → AreFields xs fields → tokens xs ≡ fields_tokens fields
of_fields xs fields no_field = refl
of_fields xs fields (then_word {v = v} {rest = rest} h s) = let a = of_fields v rest s in cc
of_fields xs fields (then_mark {v = v} {rest = rest} h s) = let a = of_fields v rest s in cc
of_fields xs fields (then_name {v = v} {rest = rest} h s) = let a = of_fields v rest s in cc
of_fields xs fields (then_kind {u = u} {v = v} {value = its} {rest = rest} h s g) =
    let a = of_kind u its h in
    let b = of_fields v rest s in
    let whole : tokens xs ≡ tokens u ++ tokens v = ap tokens g ∙ tokens_append u v in
    cc
of_fields xs fields (then_needs {u = u} {v = v} {value = its} {rest = rest} h s g) =
    let a = of_needs u its h in
    let b = of_fields v rest s in
    let whole : tokens xs ≡ tokens u ++ tokens v = ap tokens g ∙ tokens_append u v in
    cc
of_fields xs fields (then_optional_needs {u = u} {v = v} {value = its} {rest = rest} h s g) =
    let a = of_optional u its h in
    let b = of_fields v rest s in
    let whole : tokens xs ≡ tokens u ++ tokens v = ap tokens g ∙ tokens_append u v in
    cc

-- the words of roles
role_of : (role : Role) (x : Lexeme) → IsRole role x → x.token ≡ t.Word (role_word role)
role_of r.Terminal x h = h
role_of r.Ignore x h = h
role_of r.Marking x h = h

production_role_of : (role : ProductionRole) (x : Lexeme) → IsProductionRole role x → x.token ≡ t.Word (production_word role)
production_role_of kinds.Concrete x h = h
production_role_of kinds.Abstract x h = h

-- the tokens of a form, once it is read: its equations' and its own
record HaveTokens (written : ItemForm WrittenPattern) (ts : List Token) : Type 0 where
  inner : List Token
  equations : AreEquationTokens (equations_of written) inner
  whole : (form : ItemForm Pattern) → IsReadForm written form → ts ≡ form_tokens form inner

form_of : (xs : List Lexeme) (written : Item WrittenPattern) → IsItem xs written → HaveTokens written.form (tokens xs)
form_of xs written (item.lexical {x = x} {n = n} {y = y} {s = s} {role = role} {name = name} {bytes = bytes} h j k l) = record {
  inner = [];
  equations = tokens_of.nothing;
  whole = λ form e. let word =
      role_of role x h in let is = e.2 in let own : tokens xs ≡ form_tokens
      (f.Lexical role name (record { bytes = bytes; regex = e.0 })) [] = cc in own ∙ ap (λ z. form_tokens z []) (sym is);
}
form_of xs written (item.plain {form = one} h) = record {
  inner = [];
  equations = tokens_of.nothing;
  whole = λ form e. of_fields xs (item.plain_fields one) h ∙ ap (λ z. form_tokens z []) (sym e);
}
form_of xs written (item.production {x = x} {u = u} {role = role} {production = q} h s) =
    let d = of_production u q s in
    let word = production_role_of role x h in
    let rest = d.2 in
    let own : tokens xs ≡ form_tokens (f.Production role q) d.0 = cc in
    record { inner = d.0; equations = d.1; whole = λ form e. own ∙ ap (λ z. form_tokens z d.0) (sym e) }
form_of xs written (item.aspect {u = u} {name = name} {equations = es} h j s) =
    let d = of_block u es s in
    let rest = d.2 in
    let own : tokens xs ≡ form_tokens (f.Aspect name es) d.0 = cc in
    record { inner = d.0; equations = d.1; whole = λ form e. own ∙ ap (λ z. form_tokens z d.0) (sym e) }

-- the lexemes of an item, once it is read, have its tokens
pub of_item : (xs : List Lexeme) (written : Item WrittenPattern) (one : Item Pattern) → IsItem xs written → IsReadAs written one
    → AreItemTokens one (tokens xs)
of_item xs written one s e =
    let r = form_of xs written s in
    record {
      inner = r.inner;
      equations = subst (λ es. AreEquationTokens es r.inner) (sym (read_equations written.form one.form e.form)) r.equations;
      whole = r.whole one.form e.form;
    }

-- the tokens of a header
pub of_header : (xs : List Lexeme) (name : List ℕ) (header : Header) → IsHeader xs name header → tokens xs ≡ header_tokens name header
of_header xs name header (item.host h j k) = cc
of_header xs name header (item.extension h j k l m) = cc
