-- Kinds, flow types and children that the table's grammar derives are in the grammar of specifications.
use Rattle.std.proofs.Common.{◌≡◌, ℕ, List, [], ◌∷◌, ◌++◌, ◌⊎◌, inl, inr, refl, sym, ap, ◌∙◌, subst, length, arith, Some, None}
use Rattle.wb_text_predictive.specs.declared.symbol.Symbol.TheVariants.{Token, Nonterminal}
use Rattle.wb_text_tokens.specs.declared.word.Word.TheVariants as word
use Rattle.wb_text_tokens.specs.declared.punctuation.Punctuation.TheVariants as p
use Rattle.wb_syntax.specs.declared.production.NamedKind.TheVariants as k
use Rattle.wb_syntax.specs.declared.production.Child.{Child}
use Rattle.wb_syntax.specs.Tokens.{Lexeme, IsMark, IsName}
use Rattle.wb_syntax.specs.PartGrammar as grammar
use Rattle.wb_syntax.specs.PartGrammar.{IsKind, AreFurtherNames, AreNames, AreNeeds, AreOptionalNeeds, AreChildren}
use Rattle.wb_text_tokens.specs.declared.kind.TokenKind.TheVariants as kind
use Rattle.wb_reader.specs.declared.part.Part.{Part}
use Rattle.wb_reader_builder.specs.declared.builder.SpecBuilder.{SpecBuilder}
use Rattle.wb_reader.specs.Inner.RightSides.{right_sides}
use Rattle.wb_reader_builder.specs.Parts.{with_kind}
use Rattle.wb_reader.proofs.Taking.{Row, Makes, Split, OneOf, chosen, acted, word_taken, mark_taken, name_taken}
use Rattle.wb_reader.proofs.Many.{Element, many}
use Rattle.wb_lemmas.proofs.Parts.{joined_one}

-- a kind
kind_of_rows : {f : Row} {w : List Lexeme} {a b : SpecBuilder} → OneOf (right_sides Part.Kind) f w a b
    → Split IsKind (λ kind. with_kind kind a) f w b
unfolding right_sides
kind_of_rows (inl d) = let r = word_taken word.Int d in (r.0 ∷ [], r.1, k.Int, grammar.int r.2, r.3, acted r.4)
kind_of_rows (inr (inl d)) = let r = word_taken word.Bool d in (r.0 ∷ [], r.1, k.Bool, grammar.bool r.2, r.3, acted r.4)
kind_of_rows (inr (inr (inl d))) = let r = word_taken word.Text d in (r.0 ∷ [], r.1, k.Text, grammar.text r.2, r.3, acted r.4)
kind_of_rows (inr (inr (inr (inl d)))) = let r = name_taken d in (r.0 ∷ [], r.1, k.Name r.2, grammar.name r.3, r.4, acted r.5)
kind_of_rows (inr (inr (inr (inr e)))) = absurd e

pub kind_sound : {f : Row} {w : List Lexeme} {a b : SpecBuilder} → Makes (Nonterminal Part.Kind ∷ f) w a b
    → Split IsKind (λ kind. with_kind kind a) f w b
kind_sound d = kind_of_rows (chosen d)

-- a further name of a list
abbrev IsFurtherName : List Lexeme → List ℕ → Type 0
IsFurtherName u n = (c x : Lexeme) × IsMark p.Comma c × IsName n x × (u ≡ c ∷ x ∷ [])

further_name : (a : SpecBuilder) (others : List (List (List ℕ))) (front : List (List ℕ)) (f : Row) (w : List Lexeme) (b : SpecBuilder)
    → OneOf (right_sides Part.FurtherNames) f w (record a { lists = front ∷ others }) b
    → Makes f w (record a { lists = front ∷ others }) b ⊎ Element IsFurtherName Part.FurtherNames f
    (λ ns. record a { lists = ns ∷ others }) front w b
unfolding right_sides
further_name a others front f w b (inl d) = inl d
further_name a others front f w b (inr (inl d)) =
    let r = mark_taken p.Comma d in
    let s = name_taken r.4 in
    inr (r.0 ∷ s.0 ∷ [], s.1, s.2, (r.0, s.0, r.2, s.3, refl), omega arith, r.3 ∙ ap (λ y. r.0 ∷ y) s.4, acted s.5)
further_name a others front f w b (inr (inr e)) = absurd e

next_name : (u v : List Lexeme) (n : List ℕ) (ns : List (List ℕ)) → IsFurtherName u n → AreFurtherNames v ns
    → AreFurtherNames (u ++ v) (n ∷ ns)
next_name u v n ns r s = subst (λ y. AreFurtherNames (y ++ v) (n ∷ ns)) (sym r.4) (grammar.next r.2 r.3 s)

further_names : (a : SpecBuilder) (others : List (List (List ℕ))) (front : List (List ℕ)) (f : Row) (w : List Lexeme) (b : SpecBuilder)
    → Makes (Nonterminal Part.FurtherNames ∷ f) w (record a { lists = front ∷ others }) b
    → Split AreFurtherNames (λ ns. record a { lists = (front ++ ns) ∷ others }) f w b
further_names a others front f w b d =
    many IsFurtherName AreFurtherNames grammar.nothing next_name Part.FurtherNames f b (λ ns. record a { lists = ns ∷ others })
    (λ front w d. further_name a others front f w b (chosen d)) (length w) front w (omega arith) d

-- names that begin a list
names_of_rows : (a : SpecBuilder) (others : List (List (List ℕ))) (f : Row) (w : List Lexeme) (b : SpecBuilder)
    → OneOf (right_sides Part.Names) f w (record a { lists = [] ∷ others }) b
    → Split AreNames (λ ns. record a { lists = ns ∷ others }) f w b
unfolding right_sides
names_of_rows a others f w b (inl d) = ([], w, [], grammar.nothing, refl, d)
names_of_rows a others f w b (inr (inl d)) =
    let r = name_taken d in
    let s = further_names a others (r.2 ∷ []) f r.1 b (acted r.5) in
    (r.0 ∷ s.0, s.1, r.2 ∷ s.2, grammar.some r.3 s.3, r.4 ∙ ap (λ y. r.0 ∷ y) s.4, s.5)
names_of_rows a others f w b (inr (inr e)) = absurd e

-- a flow type
needs_of_rows : (a : SpecBuilder) (f : Row) (w : List Lexeme) (b : SpecBuilder) → OneOf (right_sides Part.Needs) f w a b
    → Split AreNeeds (λ ns. record a { lists = ns ∷ a.lists }) f w b
unfolding right_sides
needs_of_rows a f w b (inl d) =
    let r = word_taken word.Needs d in
    let o = mark_taken p.OpenBrace r.4 in
    let s = names_of_rows a a.lists (Token (kind.Mark p.CloseBrace) ∷ f) o.1 b (chosen (acted o.4)) in
    let c = mark_taken p.CloseBrace s.5 in
    let whole : w ≡ (r.0 ∷ o.0 ∷ (s.0 ++ c.0 ∷ [])) ++ c.1 =
    r.3 ∙ ap (λ y. r.0 ∷ y) (o.3 ∙ ap (λ y. o.0 ∷ y) (joined_one s.0 s.1 c.1 c.0 o.1 s.4 c.3)) in (
      r.0 ∷ o.0 ∷ (s.0 ++ c.0 ∷ []),
      c.1,
      s.2,
      record {
        needs = r.0;
        open_brace = o.0;
        listed = s.0;
        close_brace = c.0;
        is_needs = r.2;
        is_open = o.2;
        are_names = s.3;
        is_close = c.2;
        whole = refl;
      },
      whole,
      c.4,
    )
needs_of_rows a f w b (inr e) = absurd e

pub needs_sound : (a : SpecBuilder) (f : Row) (w : List Lexeme) (b : SpecBuilder) → Makes (Nonterminal Part.Needs ∷ f) w a b
    → Split AreNeeds (λ ns. record a { lists = ns ∷ a.lists }) f w b
needs_sound a f w b d = needs_of_rows a f w b (chosen d)

-- a flow type that may be absent
optional_of_rows : (a : SpecBuilder) (f : Row) (w : List Lexeme) (b : SpecBuilder) → OneOf (right_sides Part.OptionalNeeds) f w a b
    → Split AreOptionalNeeds (λ o. record a { needs = o ∷ a.needs }) f w b
unfolding right_sides
optional_of_rows a f w b (inl d) = ([], w, None, grammar.absent, refl, acted d)
optional_of_rows a f w b (inr (inl d)) =
    let s = needs_sound a _ w b d in
    (s.0, s.1, Some s.2, grammar.written s.3, s.4, acted s.5)
optional_of_rows a f w b (inr (inr e)) = absurd e

pub optional_sound : (a : SpecBuilder) (f : Row) (w : List Lexeme) (b : SpecBuilder) → Makes (Nonterminal Part.OptionalNeeds ∷ f) w a b
    → Split AreOptionalNeeds (λ o. record a { needs = o ∷ a.needs }) f w b
optional_sound a f w b d = optional_of_rows a f w b (chosen d)

-- a child
abbrev IsChild : List Lexeme → Child → Type 0
IsChild u child = (x c : Lexeme) × (v : List Lexeme) × IsName child.label x × IsMark p.Colon c × IsKind v child.kind × (u ≡ x ∷ c ∷ v)

one_child : (a : SpecBuilder) (others : List (List Child)) (front : List Child) (f : Row) (w : List Lexeme) (b : SpecBuilder)
    → OneOf (right_sides Part.Children) f w (record a { children = front ∷ others }) b
    → Makes f w (record a { children = front ∷ others }) b ⊎ Element IsChild Part.Children f
    (λ cs. record a { children = cs ∷ others }) front w b
unfolding right_sides
one_child a others front f w b (inl d) = inl d
one_child a others front f w b (inr (inl d)) =
    let r = name_taken d in
    let c = mark_taken p.Colon r.5 in
    let s = kind_sound c.4 in
    inr (
      r.0 ∷ c.0 ∷ s.0,
      s.1,
      record { label = r.2; kind = s.2 },
      (r.0, c.0, s.0, r.3, c.2, s.3, refl),
      omega arith,
      r.4 ∙ ap (λ y. r.0 ∷ y) (c.3 ∙ ap (λ y. c.0 ∷ y) s.4),
      acted s.5,
    )
one_child a others front f w b (inr (inr e)) = absurd e

next_child : (u v : List Lexeme) (child : Child) (children : List Child) → IsChild u child → AreChildren v children
    → AreChildren (u ++ v) (child ∷ children)
next_child u v child children r s = grammar.next r.3 r.4 r.5 s (ap (λ y. y ++ v) r.6)

pub children_sound : (a : SpecBuilder) (others : List (List Child)) (f : Row) (w : List Lexeme) (b : SpecBuilder)
    → Makes (Nonterminal Part.Children ∷ f) w (record a { children = [] ∷ others }) b
    → Split AreChildren (λ cs. record a { children = cs ∷ others }) f w b
children_sound a others f w b d =
    many IsChild AreChildren grammar.nothing next_child Part.Children f b (λ cs. record a { children = cs ∷ others })
    (λ front w d. one_child a others front f w b (chosen d)) (length w) [] w (omega arith) d
