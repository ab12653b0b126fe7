-- Items of names alone: each has a right side of its fields, whose action makes it of what the fields hold.
use Rattle.std.proofs.Common.{◌≡◌, ℕ, List, [], ◌∷◌, ◌++◌, inl, inr, refl, sym, ap, ◌∙◌, subst, length, arith, Some, None, slice_get}
use Rattle.wb_text_predictive.specs.declared.symbol.Symbol.TheVariants.{Nonterminal, Act}
use Rattle.wb_text_predictive.specs.Grammar.{expand, act as acts}
use Rattle.wb_syntax.specs.declared.item.Item.{Item}
use Rattle.wb_syntax.specs.declared.item.ItemForm.TheVariants as form
use Rattle.wb_syntax.specs.declared.item.PlainForm.{PlainForm}
use Rattle.wb_syntax.specs.declared.item.PlainForm.TheVariants as i
use Rattle.wb_syntax.specs.declared.pattern.WrittenPattern.{WrittenPattern}
use Rattle.wb_syntax.specs.declared.production.NamedKind.TheVariants as k
use Rattle.wb_syntax.specs.Tokens.{Lexeme}
use Rattle.wb_syntax.specs.Fields.{AreFields}
use Rattle.wb_syntax.specs.ItemGrammar.{IsItem, IsPlain, plain_fields, plain as is_plain}
use Rattle.wb_reader_builder.specs.declared.actions.Action.{Action}
use Rattle.wb_reader_builder.specs.declared.items.ItemAction.{ItemAction}
use Rattle.wb_reader_builder.specs.declared.builder.SpecBuilder.{SpecBuilder}
use Rattle.wb_reader_builder.specs.Items.{item_act}
use Rattle.wb_reader.specs.declared.part.Part.{Part}
use Rattle.wb_reader.specs.Inner.RightSides.{right_sides}
use Rattle.wb_reader.specs.Inner.ItemRules.{plain_right_sides}
use Rattle.wb_reader.proofs.Taking.{Row, Makes, OneOf, acted}
use Rattle.wb_reader.proofs.Many.{Element}
use Rattle.wb_reader.proofs.Fields.{row_of, row_append, first_place, with_fields, places_of, BeginsAt, Begins, begins, Values, fields_with}
use Rattle.wb_reader.proofs.Fields.{fields_taken, fields_given}

-- the parts with these items
abbrev pub itemized : SpecBuilder → List (Item WrittenPattern) → SpecBuilder
itemized a items = record a { items = items }

-- the parts with one item more
abbrev pub with_more : SpecBuilder → Item WrittenPattern → SpecBuilder
with_more a item = record a { items = a.items ++ item ∷ [] }

-- an item of names alone
abbrev plain : ℕ → PlainForm → Item WrittenPattern
plain offset one = record { offset = offset; form = form.Plain one }

-- a form by a sample of it: what other values make of the sample's fields
record Rule : Type 0 where
  sample : PlainForm
  action : ItemAction
  made : Values (plain_fields sample) → PlainForm
  fields : (values : Values (plain_fields sample)) → fields_with (plain_fields sample) values ≡ plain_fields (made values)
  acts : (values : Values (plain_fields sample)) (places : List ℕ) (a : SpecBuilder)
      → item_act action (with_fields (fields_with (plain_fields sample) values) places a)
      ≡ with_more a (plain (first_place places) (made values))
  begins : (values : Values (plain_fields sample)) (xs : List Lexeme) (places : List ℕ)
      → Begins (fields_with (plain_fields sample) values) xs places
      → BeginsAt xs places

-- the same, part by part
abbrev by_sample : (sample : PlainForm) (action : ItemAction) (made : Values (plain_fields sample) → PlainForm)
    → ((values : Values (plain_fields sample)) → fields_with (plain_fields sample) values ≡ plain_fields (made values))
    → ((values : Values (plain_fields sample)) (places : List ℕ) (a : SpecBuilder)
    → item_act action (with_fields (fields_with (plain_fields sample) values) places a)
    ≡ with_more a (plain (first_place places) (made values)))
    → ((values : Values (plain_fields sample)) (xs : List Lexeme) (places : List ℕ)
    → Begins (fields_with (plain_fields sample) values) xs places
    → BeginsAt xs places) → Rule
by_sample one does forms same like from = record { sample = one; action = does; made = forms; fields = same; acts = like; begins = from }

-- what the right side of a form derives is such an item
one_taken : (rule : Rule) (a : SpecBuilder) (front : List (Item WrittenPattern)) (f : Row) (w : List Lexeme) (b : SpecBuilder)
    → Makes (row_of (plain_fields rule.sample) (Act (Action.Item rule.action) ∷ Nonterminal Part.Items ∷ f)) w (itemized a front) b
    → Element IsItem Part.Items f (itemized a) front w b
one_taken rule a front f w b d =
    let r = fields_taken (plain_fields rule.sample) (Act (Action.Item rule.action) ∷ Nonterminal Part.Items ∷ f) w (itemized a front) b d in
    let fields = fields_with (plain_fields rule.sample) r.values in
    let places = places_of r.front fields r.are in
    let first = rule.begins r.values r.front places (begins r.front fields r.are) in
    let are : IsPlain (first.0 ∷ first.1) (rule.made r.values) =
    subst (λ xs. AreFields xs (plain_fields (rule.made r.values))) first.2
    (subst (λ list. AreFields r.front list) (rule.fields r.values) r.are) in
    let some : length r.front ≡ length (first.0 ∷ first.1) = ap length first.2 in
    let same : item_act rule.action (with_fields fields places (itemized a front))
    ≡ itemized a (front ++ plain first.0.at (rule.made r.values) ∷ []) =
    rule.acts r.values places (itemized a front) ∙ ap (λ at. itemized a (front ++ plain at (rule.made r.values) ∷ [])) first.3 in (
      r.front,
      r.back,
      plain first.0.at (rule.made r.values),
      subst (λ xs. IsItem xs (plain first.0.at (rule.made r.values))) (sym first.2) (is_plain are),
      omega (arith, some),
      r.whole,
      subst (λ x. Makes (Nonterminal Part.Items ∷ f) r.back x b) same (acted r.rest),
    )

pub plain_of_rows : (a : SpecBuilder) (front : List (Item WrittenPattern)) (f : Row) (w : List Lexeme) (b : SpecBuilder)
    → OneOf plain_right_sides (Nonterminal Part.Items ∷ f) w (itemized a front) b → Element IsItem Part.Items f (itemized a) front w b
plain_of_rows a front f w b (inl d) =
    one_taken (by_sample (i.Prefer [] []) ItemAction.Prefer (λ v. i.Prefer v.1.0 v.1.1.1.0) (λ v. refl) (λ v places a. refl)
    (λ v xs places h. h))
    a front f w b d
plain_of_rows a front f w b (inr (inl d)) =
    one_taken (by_sample (i.Nonterminal []) ItemAction.Nonterminal (λ v. i.Nonterminal v.1.0) (λ v. refl) (λ v places a. refl)
    (λ v xs places h. h))
    a front f w b d
plain_of_rows a front f w b (inr (inr (inl d))) =
    one_taken (by_sample (i.Start []) ItemAction.Start (λ v. i.Start v.1.0) (λ v. refl) (λ v places a. refl) (λ v xs places h. h))
    a front f w b d
plain_of_rows a front f w b (inr (inr (inr (inl d)))) =
    one_taken (by_sample (i.Extensible []) ItemAction.Extensible (λ v. i.Extensible v.1.0) (λ v. refl) (λ v places a. refl)
    (λ v xs places h. h))
    a front f w b d
plain_of_rows a front f w b (inr (inr (inr (inr (inl d))))) =
    one_taken (by_sample (i.Closed []) ItemAction.Closed (λ v. i.Closed v.1.0) (λ v. refl) (λ v places a. refl) (λ v xs places h. h))
    a front f w b d
plain_of_rows a front f w b (inr (inr (inr (inr (inr (inl d)))))) =
    one_taken (by_sample (i.Synthesized [] k.Int) ItemAction.Synthesized (λ v. i.Synthesized v.1.0 v.1.1.1.0) (λ v. refl)
    (λ v places a. refl) (λ v xs places h. h))
    a front f w b d
plain_of_rows a front f w b (inr (inr (inr (inr (inr (inr (inl d))))))) =
    one_taken (by_sample (i.Inherited [] k.Int) ItemAction.Inherited (λ v. i.Inherited v.1.0 v.1.1.1.0) (λ v. refl) (λ v places a. refl)
    (λ v xs places h. h))
    a front f w b d
plain_of_rows a front f w b (inr (inr (inr (inr (inr (inr (inr (inl d)))))))) =
    one_taken (by_sample (i.Occurs [] [] None) ItemAction.Occurs (λ v. i.Occurs v.1.0 v.1.1.1.0 v.1.1.1.1.0) (λ v. refl)
    (λ v places a. refl) (λ v xs places h. h))
    a front f w b d
plain_of_rows a front f w b (inr (inr (inr (inr (inr (inr (inr (inr (inl d))))))))) =
    one_taken (by_sample (i.ForwardOn [] []) ItemAction.ForwardOn (λ v. i.ForwardOn v.1.1.0 v.1.1.1.0) (λ v. refl) (λ v places a. refl)
    (λ v xs places h. h))
    a front f w b d
plain_of_rows a front f w b (inr (inr (inr (inr (inr (inr (inr (inr (inr e))))))))) = absurd e

-- the right side of a form
record HasRule (one : PlainForm) : Type 0 where
  number : ℕ
  action : ItemAction
  right : slice_get (right_sides Part.Item) number ≡ Some (row_of (plain_fields one) (Act (Action.Item action) ∷ []))
  acts : (places : List ℕ) (a : SpecBuilder) → item_act action (with_fields (plain_fields one) places a)
      ≡ with_more a (plain (first_place places) one)
  begins : (xs : List Lexeme) (places : List ℕ) → Begins (plain_fields one) xs places → BeginsAt xs places

rule_of : (one : PlainForm) → HasRule one
unfolding right_sides
rule_of (i.Prefer first second) =
    record { number = 6; action = ItemAction.Prefer; right = refl; acts = λ places a. refl; begins = λ xs places h. h }
rule_of (i.Nonterminal name) =
    record { number = 7; action = ItemAction.Nonterminal; right = refl; acts = λ places a. refl; begins = λ xs places h. h }
rule_of (i.Start name) =
    record { number = 8; action = ItemAction.Start; right = refl; acts = λ places a. refl; begins = λ xs places h. h }
rule_of (i.Extensible name) =
    record { number = 9; action = ItemAction.Extensible; right = refl; acts = λ places a. refl; begins = λ xs places h. h }
rule_of (i.Closed name) =
    record { number = 10; action = ItemAction.Closed; right = refl; acts = λ places a. refl; begins = λ xs places h. h }
rule_of (i.Synthesized name kind) =
    record { number = 11; action = ItemAction.Synthesized; right = refl; acts = λ places a. refl; begins = λ xs places h. h }
rule_of (i.Inherited name kind) =
    record { number = 12; action = ItemAction.Inherited; right = refl; acts = λ places a. refl; begins = λ xs places h. h }
rule_of (i.Occurs attribute nonterminal needs) =
    record { number = 13; action = ItemAction.Occurs; right = refl; acts = λ places a. refl; begins = λ xs places h. h }
rule_of (i.ForwardOn nonterminal needs) =
    record { number = 14; action = ItemAction.ForwardOn; right = refl; acts = λ places a. refl; begins = λ xs places h. h }

-- an item of names alone is derived
pub plain_given : (a : SpecBuilder) (f : Row) (o : Lexeme) (u v : List Lexeme) (b : SpecBuilder) (one : PlainForm) → IsPlain (o ∷ u) one
    → Makes f v (with_more a (plain o.at one)) b → Makes (Nonterminal Part.Item ∷ f) ((o ∷ u) ++ v) a b
plain_given a f o u v b one h d =
    let rule = rule_of one in
    let fields = plain_fields one in
    let places = places_of (o ∷ u) fields h in
    let first = rule.begins (o ∷ u) places (begins (o ∷ u) fields h) in
    let is : first.0 ≡ o = cc in
    let at : first_place places ≡ o.at = first.3 ∙ ap (λ (x : Lexeme). x.at) is in
    let same : item_act rule.action (with_fields fields places a) ≡ with_more a (plain o.at one) =
    rule.acts places a ∙ ap (λ at. with_more a (plain at one)) at in
    let row = row_append fields (Act (Action.Item rule.action) ∷ []) f in
    expand rule.number rule.right (subst (λ r. Makes r ((o ∷ u) ++ v) a b) (sym row)
    (fields_given (Act (Action.Item rule.action) ∷ f) v b a (o ∷ u) fields h (acts (subst (λ x. Makes f v x b) (sym same) d))))
