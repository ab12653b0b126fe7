-- Items, headers and specifications of the grammar are derived by the table's grammar.
use Rattle.std.proofs.Common.{◌≡◌, ℕ, pos, List, [], ◌∷◌, ◌++◌, refl, sym, ap, ◌∙◌, subst, inl, inr}
use Rattle.std.proofs.lemmas.List.{append_assoc, append-nil}
use Rattle.wb_text_predictive.specs.declared.symbol.Symbol.TheVariants.{Nonterminal}
use Rattle.wb_text_predictive.specs.Grammar.{expand, act as acts}
use Rattle.wb_text_tokens.specs.declared.word.Word.TheVariants as word
use Rattle.wb_text_tokens.specs.declared.punctuation.Punctuation.TheVariants as p
use Rattle.wb_syntax.specs.declared.pattern.Role.{Role}
use Rattle.wb_syntax.specs.declared.pattern.Role.TheVariants as r
use Rattle.wb_syntax.specs.declared.header.Header.{Header}
use Rattle.wb_syntax.specs.declared.item.Item.{Item}
use Rattle.wb_syntax.specs.declared.item.ItemForm.TheVariants as form
use Rattle.wb_syntax.specs.declared.pattern.WrittenPattern.{WrittenPattern}
use Rattle.wb_syntax.specs.declared.production.Production.{Production}
use Rattle.wb_syntax.specs.declared.production.ProductionRole.{ProductionRole}
use Rattle.wb_syntax.specs.declared.production.ProductionRole.TheVariants as role
use Rattle.wb_syntax.specs.declared.written.WrittenSpec.{WrittenSpec}
use Rattle.wb_syntax.specs.Tokens.{Lexeme, IsName, IsRegex, IsMark, IsWord, IsInt}
use Rattle.wb_syntax.specs.ItemGrammar as grammar
use Rattle.wb_syntax.specs.ItemGrammar.{IsFormat, IsItem, AreItems, IsHeader, IsSpecification, IsRole, IsProduction, IsProductionRole}
use Rattle.wb_reader.specs.declared.part.Part.{Part}
use Rattle.wb_reader_builder.specs.declared.builder.SpecBuilder.{SpecBuilder}
use Rattle.wb_reader.specs.Inner.RightSides.{right_sides}
use Rattle.wb_reader.proofs.Taking.{Row, Makes}
use Rattle.wb_reader.proofs.Giving.{word_given, mark_given, name_given, regex_given, integer_given}
use Rattle.wb_reader.proofs.PlainForms.{with_more, plain_given}
use Rattle.wb_reader.proofs.EquationComplete.{block_given, production_given}
use Rattle.wb_reader.proofs.ItemSound.{finished, begun_with}
use Rattle.wb_reader_builder.specs.Builder.{with_integer}

pattern_given : (a : SpecBuilder) (f : Row) (v : List Lexeme) (b : SpecBuilder) (role : Role) (x n y s : Lexeme) (name bytes : List ℕ)
    → IsRole role x → IsName name n → IsRegex bytes y → IsMark p.Semicolon s
    → Makes f v (with_more a (record { offset = x.at; form = form.Lexical role name (record { bytes = bytes; at = y.at }) })) b
    → Makes (Nonterminal Part.Item ∷ f) (x ∷ n ∷ y ∷ s ∷ v) a b
unfolding right_sides
pattern_given a f v b r.Terminal x n y s name bytes h i j k d =
    expand 0 refl (word_given word.Terminal h (name_given i (regex_given j (mark_given p.Semicolon k (acts d)))))
pattern_given a f v b r.Ignore x n y s name bytes h i j k d =
    expand 1 refl (word_given word.Ignore h (name_given i (regex_given j (mark_given p.Semicolon k (acts d)))))
pattern_given a f v b r.Marking x n y s name bytes h i j k d =
    expand 2 refl (word_given word.Marking h (name_given i (regex_given j (mark_given p.Semicolon k (acts d)))))

production_item_given : (a : SpecBuilder) (f : Row) (x : Lexeme) (y v : List Lexeme) (b : SpecBuilder) (kind : ProductionRole)
    (q : Production)
    → IsProductionRole kind x → IsProduction y q → Makes f v (with_more a (record { offset = x.at; form = form.Production kind q })) b
    → Makes (Nonterminal Part.Item ∷ f) (x ∷ (y ++ v)) a b
unfolding right_sides
production_item_given a f x y v b role.Concrete q h i d =
    expand 3 refl (word_given word.Concrete h (production_given _ q _ y v b i (acts d)))
production_item_given a f x y v b role.Abstract q h i d =
    expand 4 refl (word_given word.Abstract h (production_given _ q _ y v b i (acts d)))

item_given : (a : SpecBuilder) (f : Row) (u v : List Lexeme) (b : SpecBuilder) (item : Item WrittenPattern) → IsItem u item
    → Makes f v (with_more a item) b
    → Makes (Nonterminal Part.Item ∷ f) (u ++ v) a b
unfolding right_sides
item_given a f u v b item (grammar.lexical {x = x} {n = n} {y = y} {s = s} {role = role} {name = name} {bytes = bytes} h i j k) d =
    pattern_given a f v b role x n y s name bytes h i j k d
item_given a f u v b item (grammar.plain {x = x} {u = y} {form = one} h) d = plain_given a f x y v b one h d
item_given a f u v b item (grammar.production {x = x} {u = y} {role = kind} {production = q} h i) d =
    production_item_given a f x y v b kind q h i d
item_given a f u v b item (grammar.aspect {u = y} {equations = es} h i j) d =
    expand 5 refl (word_given word.Aspect h (name_given i (block_given _ es _ y v b j (acts d))))

items_given : (a : SpecBuilder) (f : Row) (u v : List Lexeme) (b : SpecBuilder) (items : List (Item WrittenPattern)) → AreItems u items
    → Makes f v (record a { items = a.items ++ items }) b → Makes (Nonterminal Part.Items ∷ f) (u ++ v) a b
unfolding right_sides
items_given a f u v b items grammar.nothing d = expand 0 refl (subst (λ l. Makes f v (record a { items = l }) b) (append-nil a.items) d)
items_given a f u v b items (grammar.next {u = y} {v = z} {item = item} {rest = rest} h r e) d =
    let g : u ++ v ≡ y ++ (z ++ v) = ap (λ q. q ++ v) e ∙ append_assoc y z v in
    subst (λ q. Makes (Nonterminal Part.Items ∷ f) q a b) (sym g)
    (expand 1 refl (item_given a _ y (z ++ v) b item h (items_given (with_more a item) f z v b rest r
    (subst (λ l. Makes f v (record a { items = l }) b) (sym (append_assoc a.items (item ∷ []) rest)) d))))

header_given : (a : SpecBuilder) (f : Row) (u v : List Lexeme) (b : SpecBuilder) (name : List ℕ) (header : Header) → IsHeader u name header
    → Makes f v (record a { name = name; header = header }) b → Makes (Nonterminal Part.Header ∷ f) (u ++ v) a b
unfolding right_sides
header_given a f u v b name header (grammar.host h i j) d =
    expand 0 refl (word_given word.Host h (name_given i (mark_given p.Semicolon j (acts d))))
header_given a f u v b name header (grammar.extension h i j k l) d =
    expand 1 refl (word_given word.Extension h (name_given i (word_given word.For j (name_given k (mark_given p.Semicolon l (acts d))))))

-- the number of a format
format_given : (a : SpecBuilder) (f : Row) (n : Lexeme) (v : List Lexeme) (b : SpecBuilder) (number : ℕ) → IsFormat number
    → IsInt (pos number) n → Makes f v (with_integer (pos number) a) b → Makes (Nonterminal Part.Format ∷ f) (n ∷ v) a b
unfolding right_sides
format_given a f n v b number (inl e) i d =
    expand 0 refl (integer_given (subst (λ m. IsInt (pos m) n) e i) (subst (λ m. Makes f v (with_integer (pos m) a) b) e d))
format_given a f n v b number (inr e) i d =
    expand 1 refl (integer_given (subst (λ m. IsInt (pos m) n) e i) (subst (λ m. Makes f v (with_integer (pos m) a) b) e d))

-- a specification
whole_given : (a : SpecBuilder) (fs : Row) (x n s : Lexeme) (y z v : List Lexeme) (b : SpecBuilder) (number : ℕ) (name : List ℕ)
    (header : Header) (items : List (Item WrittenPattern))
    → IsWord word.Format x → IsFormat number → IsInt (pos number) n → IsMark p.Semicolon s → IsHeader y name header → AreItems z items
    → Makes fs v (record a { format = number; name = name; header = header; items = a.items ++ items }) b
    → Makes (Nonterminal Part.File ∷ fs) (x ∷ n ∷ s ∷ (y ++ (z ++ v))) a b
unfolding right_sides
whole_given a fs x n s y z v b number name header items h known i j k r d =
    let begun : SpecBuilder = record a { format = number } in
    let rest = header_given begun (Nonterminal Part.Items ∷ fs) y (z ++ v) b name header k
    (items_given (record begun { name = name; header = header }) fs z v b items r d) in
    expand 0 refl (word_given word.Format h (format_given a _ n (s ∷ (y ++ (z ++ v))) b number known i (mark_given p.Semicolon j
    (acts (subst (λ q. Makes (Nonterminal Part.Header ∷ Nonterminal Part.Items ∷ fs) (y ++ (z ++ v)) q b) (sym (begun_with number known a))
    rest)))))

pub file_given : (a : SpecBuilder) (f : Row) (u v : List Lexeme) (b : SpecBuilder) (spec : WrittenSpec) → IsSpecification u spec
    → Makes f v (finished a spec) b → Makes (Nonterminal Part.File ∷ f) (u ++ v) a b
file_given a fs u v b spec (grammar.whole {f = x} {n = n} {s = s} {u = y} {v = z} {format = format} {name = name} {header = header}
    {items = items} h l i j k r e) d =
    let g : u ++ v ≡ x ∷ n ∷ s ∷ (y ++ (z ++ v)) = ap (λ q. q ++ v) e ∙ ap (λ q. x ∷ n ∷ s ∷ q) (append_assoc y z v) in
    subst (λ w. Makes (Nonterminal Part.File ∷ fs) w a b) (sym g)
    (whole_given a fs x n s y z v b format name header items h l i j k r d)
