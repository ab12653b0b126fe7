-- Kinds, flow types and children of the grammar of specifications are derived by the table's grammar.
use Rattle.std.proofs.Common.{◌≡◌, ℕ, List, [], ◌∷◌, ◌++◌, refl, sym, ap, ◌∙◌, subst, Option}
use Rattle.std.proofs.lemmas.List.{append_assoc, append-nil}
use Rattle.wb_text_predictive.specs.declared.symbol.Symbol.TheVariants.{Nonterminal}
use Rattle.wb_text_predictive.specs.Grammar.{expand, act as acts}
use Rattle.wb_text_tokens.specs.declared.word.Word.TheVariants as word
use Rattle.wb_text_tokens.specs.declared.punctuation.Punctuation.TheVariants as p
use Rattle.wb_syntax.specs.declared.production.NamedKind.{NamedKind}
use Rattle.wb_syntax.specs.declared.production.Child.{Child}
use Rattle.wb_syntax.specs.Tokens.{Lexeme}
use Rattle.wb_syntax.specs.PartGrammar as grammar
use Rattle.wb_syntax.specs.PartGrammar.{IsKind, AreFurtherNames, AreNames, AreNeeds, AreOptionalNeeds, AreChildren}
use Rattle.wb_reader.specs.declared.part.Part.{Part}
use Rattle.wb_reader_builder.specs.declared.builder.SpecBuilder.{SpecBuilder}
use Rattle.wb_reader.specs.Inner.RightSides.{right_sides}
use Rattle.wb_reader_builder.specs.Parts.{with_kind}
use Rattle.wb_reader.proofs.Taking.{Row, Makes}
use Rattle.wb_reader.proofs.Giving.{word_given, mark_given, name_given}

pub kind_given : {f : Row} {u v : List Lexeme} {a b : SpecBuilder} {kind : NamedKind} → IsKind u kind → Makes f v (with_kind kind a) b
    → Makes (Nonterminal Part.Kind ∷ f) (u ++ v) a b
unfolding right_sides
kind_given (grammar.int h) d = expand 0 refl (word_given word.Int h (acts d))
kind_given (grammar.bool h) d = expand 1 refl (word_given word.Bool h (acts d))
kind_given (grammar.text h) d = expand 2 refl (word_given word.Text h (acts d))
kind_given (grammar.name h) d = expand 3 refl (name_given h (acts d))

-- the parts with a list of names
abbrev naming : SpecBuilder → List (List (List ℕ)) → List (List ℕ) → SpecBuilder
naming a others ns = record a { lists = ns ∷ others }

further_given : (a : SpecBuilder) (others : List (List (List ℕ))) (front ns : List (List ℕ)) (f : Row) (u v : List Lexeme)
    (b : SpecBuilder) → AreFurtherNames u ns → Makes f v (naming a others (front ++ ns)) b
    → Makes (Nonterminal Part.FurtherNames ∷ f) (u ++ v) (naming a others front) b
unfolding right_sides
further_given a others front ns f u v b grammar.nothing d =
    expand 0 refl (subst (λ l. Makes f v (naming a others l) b) (append-nil front) d)
further_given a others front names f w v b (grammar.next {v = u} {n = n} {ns = ns} h i r) d =
    expand 1 refl (mark_given p.Comma h (name_given i (acts (further_given a others (front ++ n ∷ []) ns f u v b r
    (subst (λ l. Makes f v (naming a others l) b) (sym (append_assoc front (n ∷ []) ns)) d)))))

names_given : (a : SpecBuilder) (others : List (List (List ℕ))) (ns : List (List ℕ)) (f : Row) (u v : List Lexeme) (b : SpecBuilder)
    → AreNames u ns → Makes f v (naming a others ns) b → Makes (Nonterminal Part.Names ∷ f) (u ++ v) (naming a others []) b
unfolding right_sides
names_given a others ns f u v b grammar.nothing d = expand 0 refl d
names_given a others names f w v b (grammar.some {v = u} {n = n} {ns = ns} h r) d =
    expand 1 refl (name_given h (acts (further_given a others (n ∷ []) ns f u v b r d)))

pub needs_given : (a : SpecBuilder) (ns : List (List ℕ)) (f : Row) (u v : List Lexeme) (b : SpecBuilder) → AreNeeds u ns
    → Makes f v (naming a a.lists ns) b → Makes (Nonterminal Part.Needs ∷ f) (u ++ v) a b
unfolding right_sides
needs_given a ns f u v b r d =
    let e : u ++ v ≡ r.needs ∷ r.open_brace ∷ (r.listed ++ r.close_brace ∷ v) =
    ap (λ y. y ++ v) r.whole ∙ ap (λ y. r.needs ∷ r.open_brace ∷ y) (append_assoc r.listed (r.close_brace ∷ []) v) in
    subst (λ y. Makes (Nonterminal Part.Needs ∷ f) y a b) (sym e)
    (expand 0 refl (word_given word.Needs r.is_needs (mark_given p.OpenBrace r.is_open
    (acts (names_given a a.lists ns _ r.listed (r.close_brace ∷ v) b r.are_names (mark_given p.CloseBrace r.is_close d))))))

pub optional_given : (a : SpecBuilder) (o : Option (List (List ℕ))) (f : Row) (u v : List Lexeme) (b : SpecBuilder) → AreOptionalNeeds u o
    → Makes f v (record a { needs = o ∷ a.needs }) b → Makes (Nonterminal Part.OptionalNeeds ∷ f) (u ++ v) a b
unfolding right_sides
optional_given a o f u v b grammar.absent d = expand 0 refl (acts d)
optional_given a o f u v b (grammar.written {names = ns} r) d = expand 1 refl (needs_given a ns _ u v b r (acts d))

-- the parts with children
abbrev parenting : SpecBuilder → List (List Child) → List Child → SpecBuilder
parenting a others cs = record a { children = cs ∷ others }

pub children_given : (a : SpecBuilder) (others : List (List Child)) (front cs : List Child) (f : Row) (u v : List Lexeme) (b : SpecBuilder)
    → AreChildren u cs → Makes f v (parenting a others (front ++ cs)) b → Makes (Nonterminal Part.Children ∷ f) (u ++ v)
    (parenting a others front) b
unfolding right_sides
children_given a others front cs f u v b grammar.nothing d =
    expand 0 refl (subst (λ l. Makes f v (parenting a others l) b) (append-nil front) d)
children_given a others front all f u v b
    (grammar.next {x = x} {c = c} {u = s} {v = t} {label = label} {kind = kind} {rest = cs} h i k r e) d =
    let child : Child = record { label = label; kind = kind } in
    let g : u ++ v ≡ x ∷ c ∷ (s ++ (t ++ v)) = ap (λ y. y ++ v) e ∙ ap (λ y. x ∷ c ∷ y) (append_assoc s t v) in
    subst (λ y. Makes (Nonterminal Part.Children ∷ f) y (parenting a others front) b) (sym g)
    (expand 1 refl (name_given h (mark_given p.Colon i (kind_given k (acts (children_given a others (front ++ child ∷ []) cs f t v b r
    (subst (λ l. Makes f v (parenting a others l) b) (sym (append_assoc front (child ∷ []) cs)) d)))))))
