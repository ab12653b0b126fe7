-- Items, headers and specifications that the table's grammar derives are in the grammar of specifications.
use Rattle.std.proofs.Common.{ℕ, List, [], ◌∷◌, ◌++◌, ◌⊎◌, inl, inr, refl, sym, subst, pos, ◌≡◌, ap, ◌∙◌, length, arith}
use Rattle.wb_text_predictive.specs.declared.symbol.Symbol.TheVariants.{Nonterminal}
use Rattle.wb_text_tokens.specs.declared.word.Word.TheVariants as word
use Rattle.wb_text_tokens.specs.declared.punctuation.Punctuation.TheVariants as p
use Rattle.wb_syntax.specs.declared.header.Header.{Header}
use Rattle.wb_syntax.specs.declared.header.Header.TheVariants as h
use Rattle.wb_syntax.specs.declared.item.Item.{Item}
use Rattle.wb_syntax.specs.declared.item.ItemForm.TheVariants as form
use Rattle.wb_syntax.specs.declared.pattern.Role.{Role}
use Rattle.wb_syntax.specs.declared.pattern.Role.TheVariants as r
use Rattle.wb_syntax.specs.declared.pattern.WrittenPattern.{WrittenPattern}
use Rattle.wb_syntax.specs.declared.production.ProductionRole.TheVariants as k
use Rattle.wb_syntax.specs.declared.written.WrittenSpec.{WrittenSpec}
use Rattle.wb_syntax.specs.Tokens.{Lexeme, IsInt}
use Rattle.wb_syntax.specs.ItemGrammar as grammar
use Rattle.wb_syntax.specs.ItemGrammar.{IsFormat, IsItem, AreItems, IsHeader, IsSpecification}
use Rattle.wb_reader.specs.declared.part.Part.{Part}
use Rattle.wb_reader_builder.specs.declared.builder.SpecBuilder.{SpecBuilder}
use Rattle.wb_reader.specs.Inner.RightSides.{right_sides}
use Rattle.wb_reader_builder.specs.Builder.{with_integer}
use Rattle.wb_reader_builder.specs.Items.{with_begin}
use Rattle.wb_reader.proofs.Taking.{Row, Makes, Split, OneOf, chosen, acted, word_taken, mark_taken, name_taken, regex_taken, one_taken}
use Rattle.wb_reader.proofs.Taking.{two_taken}
use Rattle.wb_reader.proofs.Many.{Element, many}
use Rattle.wb_reader.proofs.PlainForms.{itemized, plain_of_rows}
use Rattle.wb_reader.proofs.EquationSound.{block_sound, production_sound}
use Rattle.wb_lemmas.proofs.Parts.{joined}

-- an item with a regular expression
abbrev lexical : ℕ → Role → List ℕ → List ℕ → ℕ → Item WrittenPattern
lexical offset role name bytes at = record { offset = offset; form = form.Lexical role name (record { bytes = bytes; at = at }) }

item_of_rows : (a : SpecBuilder) (front : List (Item WrittenPattern)) (f : Row) (w : List Lexeme) (b : SpecBuilder)
    → OneOf (right_sides Part.Item) (Nonterminal Part.Items ∷ f) w (itemized a front) b → Element IsItem Part.Items f (itemized a) front w b
unfolding right_sides
item_of_rows a front f w b (inl d) =
    let x = word_taken word.Terminal d in
    let n = name_taken x.4 in
    let y = regex_taken n.5 in
    let s = mark_taken p.Semicolon y.5 in (
      x.0 ∷ n.0 ∷ y.0 ∷ s.0 ∷ [],
      s.1,
      lexical x.0.at r.Terminal n.2 y.2 y.0.at,
      grammar.lexical x.2 n.3 y.3 s.2,
      omega arith,
      x.3 ∙ ap (λ z. x.0 ∷ z) (n.4 ∙ ap (λ z. n.0 ∷ z) (y.4 ∙ ap (λ z. y.0 ∷ z) s.3)),
      acted s.4,
    )
item_of_rows a front f w b (inr (inl d)) =
    let x = word_taken word.Ignore d in
    let n = name_taken x.4 in
    let y = regex_taken n.5 in
    let s = mark_taken p.Semicolon y.5 in (
      x.0 ∷ n.0 ∷ y.0 ∷ s.0 ∷ [],
      s.1,
      lexical x.0.at r.Ignore n.2 y.2 y.0.at,
      grammar.lexical x.2 n.3 y.3 s.2,
      omega arith,
      x.3 ∙ ap (λ z. x.0 ∷ z) (n.4 ∙ ap (λ z. n.0 ∷ z) (y.4 ∙ ap (λ z. y.0 ∷ z) s.3)),
      acted s.4,
    )
item_of_rows a front f w b (inr (inr (inl d))) =
    let x = word_taken word.Marking d in
    let n = name_taken x.4 in
    let y = regex_taken n.5 in
    let s = mark_taken p.Semicolon y.5 in (
      x.0 ∷ n.0 ∷ y.0 ∷ s.0 ∷ [],
      s.1,
      lexical x.0.at r.Marking n.2 y.2 y.0.at,
      grammar.lexical x.2 n.3 y.3 s.2,
      omega arith,
      x.3 ∙ ap (λ z. x.0 ∷ z) (n.4 ∙ ap (λ z. n.0 ∷ z) (y.4 ∙ ap (λ z. y.0 ∷ z) s.3)),
      acted s.4,
    )
item_of_rows a front f w b (inr (inr (inr (inl d)))) =
    let x = word_taken word.Concrete d in
    let q = production_sound _ _ x.1 b x.4 in (
      x.0 ∷ q.0,
      q.1,
      record { offset = x.0.at; form = form.Production k.Concrete q.2 },
      grammar.production x.2 q.3,
      omega arith,
      x.3 ∙ ap (λ z. x.0 ∷ z) q.4,
      acted q.5,
    )
item_of_rows a front f w b (inr (inr (inr (inr (inl d))))) =
    let x = word_taken word.Abstract d in
    let q = production_sound _ _ x.1 b x.4 in (
      x.0 ∷ q.0,
      q.1,
      record { offset = x.0.at; form = form.Production k.Abstract q.2 },
      grammar.production x.2 q.3,
      omega arith,
      x.3 ∙ ap (λ z. x.0 ∷ z) q.4,
      acted q.5,
    )
item_of_rows a front f w b (inr (inr (inr (inr (inr (inl d)))))) =
    let x = word_taken word.Aspect d in
    let n = name_taken x.4 in
    let k = block_sound _ _ n.1 b n.5 in (
      x.0 ∷ n.0 ∷ k.0,
      k.1,
      record { offset = x.0.at; form = form.Aspect n.2 k.2 },
      grammar.aspect x.2 n.3 k.3,
      omega arith,
      x.3 ∙ ap (λ z. x.0 ∷ z) (n.4 ∙ ap (λ z. n.0 ∷ z) k.4),
      acted k.5,
    )
item_of_rows a front f w b (inr (inr (inr (inr (inr (inr e)))))) = plain_of_rows a front f w b e

one_item : (a : SpecBuilder) (front : List (Item WrittenPattern)) (f : Row) (w : List Lexeme) (b : SpecBuilder)
    → OneOf (right_sides Part.Items) f w (itemized a front) b → Makes f w (itemized a front) b ⊎ Element IsItem Part.Items f
    (itemized a) front w b
unfolding right_sides
one_item a front f w b (inl d) = inl d
one_item a front f w b (inr (inl d)) = inr (item_of_rows a front f w b (chosen d))
one_item a front f w b (inr (inr e)) = absurd e

items_sound : (a : SpecBuilder) (front : List (Item WrittenPattern)) (f : Row) (w : List Lexeme) (b : SpecBuilder)
    → Makes (Nonterminal Part.Items ∷ f) w (itemized a front) b → Split AreItems (λ items. itemized a (front ++ items)) f w b
items_sound a front f w b d =
    many IsItem AreItems grammar.nothing (λ u v item rest one others. grammar.next one others refl) Part.Items f b (itemized a)
    (λ front w d. one_item a front f w b (chosen d)) (length w) front w (omega arith) d

-- a specification's name with its header
abbrev Head : Type 0
Head = List ℕ × Header

abbrev headed : SpecBuilder → Head → SpecBuilder
headed a head = record a { name = head.0; header = head.1 }

header_of_rows : (a : SpecBuilder) (f : Row) (w : List Lexeme) (b : SpecBuilder) → OneOf (right_sides Part.Header) f w a b
    → Split (λ u (head : Head). IsHeader u head.0 head.1) (headed a) f w b
unfolding right_sides
header_of_rows a f w b (inl d) =
    let x = word_taken word.Host d in
    let n = name_taken x.4 in
    let s = mark_taken p.Semicolon n.5 in
    (x.0 ∷ n.0 ∷ s.0 ∷ [], s.1, (n.2, h.Host), grammar.host x.2 n.3 s.2, x.3 ∙ ap (λ z. x.0 ∷ z) (n.4 ∙ ap (λ z. n.0 ∷ z) s.3), acted s.4)
header_of_rows a f w b (inr (inl d)) =
    let x = word_taken word.Extension d in
    let n = name_taken x.4 in
    let o = word_taken word.For n.5 in
    let m = name_taken o.4 in
    let s = mark_taken p.Semicolon m.5 in (
      x.0 ∷ n.0 ∷ o.0 ∷ m.0 ∷ s.0 ∷ [],
      s.1,
      (n.2, h.Extension m.2),
      grammar.extension x.2 n.3 o.2 m.3 s.2,
      x.3 ∙ ap (λ z. x.0 ∷ z) (n.4 ∙ ap (λ z. n.0 ∷ z) (o.3 ∙ ap (λ z. o.0 ∷ z) (m.4 ∙ ap (λ z. m.0 ∷ z) s.3))),
      acted s.4,
    )
header_of_rows a f w b (inr (inr e)) = absurd e

-- the parts of a whole specification
abbrev pub finished : SpecBuilder → WrittenSpec → SpecBuilder
finished a spec = record a { format = spec.format; name = spec.name; header = spec.header; items = a.items ++ spec.items }

-- the number of a format
format_of_rows : (f : Row) (w : List Lexeme) (a b : SpecBuilder) → OneOf (right_sides Part.Format) f w a b
    → Split (λ u number. (x : Lexeme) × IsFormat number × IsInt (pos number) x × (u ≡ x ∷ [])) (λ number. with_integer (pos number) a) f w b
unfolding right_sides
format_of_rows f w a b (inl d) = let r = one_taken d in (r.0 ∷ [], r.1, 1, (r.0, inl refl, r.2, refl), r.3, r.4)
format_of_rows f w a b (inr (inl d)) = let r = two_taken d in (r.0 ∷ [], r.1, 2, (r.0, inr refl, r.2, refl), r.3, r.4)
format_of_rows f w a b (inr (inr e)) = absurd e

-- what begins with it has that format
pub begun_with : (number : ℕ) → IsFormat number → (a : SpecBuilder)
    → with_begin (with_integer (pos number) a) ≡ record a { format = number }
begun_with number (inl e) a = subst (λ n. with_begin (with_integer (pos n) a) ≡ record a { format = n }) (sym e) refl
begun_with number (inr e) a = subst (λ n. with_begin (with_integer (pos n) a) ≡ record a { format = n }) (sym e) refl

file_of_rows : (a : SpecBuilder) (f : Row) (w : List Lexeme) (b : SpecBuilder) → OneOf (right_sides Part.File) f w a b
    → Split IsSpecification (finished a) f w b
unfolding right_sides
file_of_rows a f w b (inl d) =
    let x = word_taken word.Format d in
    let n = format_of_rows _ x.1 a b (chosen x.4) in
    let (number, known, is, alone) = n.3 in
    let s = mark_taken p.Semicolon n.5 in
    let begun : SpecBuilder = record a { format = n.2 } in
    let after = subst (λ y. Makes (Nonterminal Part.Header ∷ Nonterminal Part.Items ∷ f) s.1 y b) (begun_with n.2 known a) (acted s.4) in
    let head = header_of_rows begun (Nonterminal Part.Items ∷ f) s.1 b (chosen after) in
    let t = items_sound (headed begun head.2) a.items f head.1 b head.5 in (
      x.0 ∷ number ∷ s.0 ∷ (head.0 ++ t.0),
      t.1,
      record { format = n.2; name = head.2.0; header = head.2.1; items = t.2 },
      grammar.whole x.2 known is s.2 head.3 t.3 refl,
      x.3 ∙ ap (λ z. x.0 ∷ z) ((n.4 ∙ ap (λ z. z ++ n.1) alone)
          ∙ ap (λ z. number ∷ z) (s.3 ∙ ap (λ z. s.0 ∷ z) (joined head.0 head.1 t.0 t.1 s.1 head.4 t.4))),
      t.5,
    )
file_of_rows a f w b (inr e) = absurd e

pub file_sound : (a : SpecBuilder) (f : Row) (w : List Lexeme) (b : SpecBuilder) → Makes (Nonterminal Part.File ∷ f) w a b
    → Split IsSpecification (finished a) f w b
file_sound a f w b d = file_of_rows a f w b (chosen d)
