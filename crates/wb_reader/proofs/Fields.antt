-- Fields, one after another: the row of their symbols, what it reads, and what reading it makes of the parts.
use Rattle.std.proofs.Common.{◌≡◌, ℕ, List, [], ◌∷◌, ◌++◌, refl, sym, ap, ◌∙◌, subst, Option}
use Rattle.std.proofs.lemmas.List.{append_assoc}
use Rattle.wb_text_predictive.specs.declared.symbol.Symbol.{Symbol}
use Rattle.wb_text_predictive.specs.declared.symbol.Symbol.TheVariants.{Token, Nonterminal}
use Rattle.wb_text_tokens.specs.declared.kind.TokenKind.{TokenKind}
use Rattle.wb_text_tokens.specs.declared.kind.TokenKind.TheVariants as kind
use Rattle.wb_syntax.specs.declared.production.NamedKind.{NamedKind}
use Rattle.wb_syntax.specs.Tokens.{Lexeme}
use Rattle.wb_syntax.specs.Fields.{Field, AreFields, no_field, then_word, then_mark, then_name, then_kind, then_needs, then_optional_needs}
use Rattle.wb_syntax.specs.Fields as field
use Rattle.wb_reader_builder.specs.declared.actions.Action.{Action}
use Rattle.wb_reader_builder.specs.declared.builder.SpecBuilder.{SpecBuilder}
use Rattle.wb_reader_builder.specs.Builder.{with_name}
use Rattle.wb_reader_builder.specs.Items.{word_shift}
use Rattle.wb_reader_builder.specs.Parts.{with_kind}
use Rattle.wb_reader.specs.declared.part.Part.{Part}
use Rattle.wb_reader.proofs.Taking.{Row, Makes, word_taken, mark_taken, name_taken}
use Rattle.wb_reader.proofs.Giving.{word_given, mark_given, name_given}
use Rattle.wb_reader.proofs.PartSound.{kind_sound, needs_sound, optional_sound}
use Rattle.wb_reader.proofs.PartComplete.{kind_given, needs_given, optional_given}
use Rattle.wb_lemmas.proofs.Parts.{joined}

-- the symbol that reads a field
abbrev symbol_of : Field → Symbol TokenKind Part Action
symbol_of (field.word value) = Token (kind.Word value)
symbol_of (field.mark value) = Token (kind.Mark value)
symbol_of (field.name value) = Token kind.Name
symbol_of (field.kind value) = Nonterminal Part.Kind
symbol_of (field.needs value) = Nonterminal Part.Needs
symbol_of (field.optional_needs value) = Nonterminal Part.OptionalNeeds

-- the symbols that read fields, and then a row
abbrev pub row_of : List Field → Row → Row
row_of [] f = f
row_of (first ∷ rest) f = symbol_of first ∷ row_of rest f

pub row_append : (fields : List Field) (f g : Row) → row_of fields f ++ g ≡ row_of fields (f ++ g)
row_append [] f g = refl
row_append (first ∷ rest) f g = ap (λ row. symbol_of first ∷ row) (row_append rest f g)

-- the first place, and the others
abbrev pub first_place : List ℕ → ℕ
first_place [] = 0
first_place (at ∷ rest) = at

abbrev other_places : List ℕ → List ℕ
other_places [] = []
other_places (at ∷ rest) = rest

-- what reading a field at this place makes of the parts
abbrev with_field : Field → ℕ → SpecBuilder → SpecBuilder
with_field (field.word value) at a = word_shift value at a
with_field (field.mark value) at a = a
with_field (field.name value) at a = with_name value at a
with_field (field.kind value) at a = with_kind value a
with_field (field.needs value) at a = record a { lists = value ∷ a.lists }
with_field (field.optional_needs value) at a = record a { needs = value ∷ a.needs }

-- what reading fields at these places makes of the parts
abbrev pub with_fields : List Field → List ℕ → SpecBuilder → SpecBuilder
with_fields [] places a = a
with_fields (first ∷ rest) places a = with_fields rest (other_places places) (with_field first (first_place places) a)

-- the places of fields among tokens, where they are of one token
abbrev pub places_of : (xs : List Lexeme) (fields : List Field) → AreFields xs fields → List ℕ
places_of xs fields no_field = []
places_of xs fields (then_word {x = x} {v = v} {rest = rest} h s) = x.at ∷ places_of v rest s
places_of xs fields (then_mark {x = x} {v = v} {rest = rest} h s) = x.at ∷ places_of v rest s
places_of xs fields (then_name {x = x} {v = v} {rest = rest} h s) = x.at ∷ places_of v rest s
places_of xs fields (then_kind {v = v} {rest = rest} h s e) = 0 ∷ places_of v rest s
places_of xs fields (then_needs {v = v} {rest = rest} h s e) = 0 ∷ places_of v rest s
places_of xs fields (then_optional_needs {v = v} {rest = rest} h s e) = 0 ∷ places_of v rest s

-- the tokens begin with one at the first of these places
abbrev pub BeginsAt : List Lexeme → List ℕ → Type 0
BeginsAt xs places = (x : Lexeme) × (v : List Lexeme) × (xs ≡ x ∷ v) × (first_place places ≡ x.at)

-- the tokens of a field, where it is a word, do so
abbrev FieldBegins : Field → List Lexeme → List ℕ → Type 0
FieldBegins (field.word value) xs places = BeginsAt xs places
FieldBegins (field.mark value) xs places = Unit {0}
FieldBegins (field.name value) xs places = Unit {0}
FieldBegins (field.kind value) xs places = Unit {0}
FieldBegins (field.needs value) xs places = Unit {0}
FieldBegins (field.optional_needs value) xs places = Unit {0}

-- the tokens of fields, where the first is a word, do so
abbrev pub Begins : List Field → List Lexeme → List ℕ → Type 0
Begins [] xs places = Unit {0}
Begins (first ∷ rest) xs places = FieldBegins first xs places

pub begins : (xs : List Lexeme) (fields : List Field) (h : AreFields xs fields) → Begins fields xs (places_of xs fields h)
begins xs fields no_field = tt
begins xs fields (then_word {x = x} {v = v} h s) = (x, v, refl, refl)
begins xs fields (then_mark h s) = tt
begins xs fields (then_name h s) = tt
begins xs fields (then_kind h s e) = tt
begins xs fields (then_needs h s e) = tt
begins xs fields (then_optional_needs h s e) = tt

-- what a field holds beside what its form fixes
abbrev ValueOf : Field → Type 0
ValueOf (field.word value) = Unit {0}
ValueOf (field.mark value) = Unit {0}
ValueOf (field.name value) = List ℕ
ValueOf (field.kind value) = NamedKind
ValueOf (field.needs value) = List (List ℕ)
ValueOf (field.optional_needs value) = Option (List (List ℕ))

abbrev pub Values : List Field → Type 0
Values [] = Unit {0}
Values (first ∷ rest) = ValueOf first × Values rest

-- the field with another value
abbrev field_with : (one : Field) → ValueOf one → Field
field_with (field.word value) its = field.word value
field_with (field.mark value) its = field.mark value
field_with (field.name value) its = field.name its
field_with (field.kind value) its = field.kind its
field_with (field.needs value) its = field.needs its
field_with (field.optional_needs value) its = field.optional_needs its

-- the fields with other values
abbrev pub fields_with : (fields : List Field) → Values fields → List Field
fields_with [] values = []
fields_with (first ∷ rest) values = field_with first values.0 ∷ fields_with rest values.1

-- the tokens are first those of such fields, and then those of the rest of the row, over what the fields made
pub record Taken (sample : List Field) (f : Row) (w : List Lexeme) (a b : SpecBuilder) : Type 0 where
  pub front : List Lexeme
  pub back : List Lexeme
  pub values : Values sample
  pub are : AreFields front (fields_with sample values)
  pub whole : w ≡ front ++ back
  pub rest : Makes f back (with_fields (fields_with sample values) (places_of front (fields_with sample values) are) a) b

-- what a row of fields derives
pub fields_taken : (sample : List Field) (f : Row) (w : List Lexeme) (a b : SpecBuilder) → Makes (row_of sample f) w a b
    → Taken sample f w a b
fields_taken [] f w a b d = record { front = []; back = w; values = tt; are = no_field; whole = refl; rest = d }
fields_taken (field.word value ∷ rest) f w a b d =
    let r = word_taken value d in
    let s = fields_taken rest f r.1 (word_shift value r.0.at a) b r.4 in
    record {
      front = r.0 ∷ s.front;
      back = s.back;
      values = (tt, s.values);
      are = then_word r.2 s.are;
      whole = r.3 ∙ ap (λ z. r.0 ∷ z) s.whole;
      rest =
          s.rest;
    }
fields_taken (field.mark value ∷ rest) f w a b d =
    let r = mark_taken value d in
    let s = fields_taken rest f r.1 a b r.4 in
    record {
      front = r.0 ∷ s.front;
      back = s.back;
      values = (tt, s.values);
      are = then_mark r.2 s.are;
      whole = r.3 ∙ ap (λ z. r.0 ∷ z) s.whole;
      rest =
          s.rest;
    }
fields_taken (field.name value ∷ rest) f w a b d =
    let r = name_taken d in
    let s = fields_taken rest f r.1 (with_name r.2 r.0.at a) b r.5 in
    record {
      front = r.0 ∷ s.front;
      back = s.back;
      values = (r.2, s.values);
      are = then_name r.3 s.are;
      whole = r.4 ∙ ap (λ z. r.0 ∷ z) s.whole;
      rest =
          s.rest;
    }
fields_taken (field.kind value ∷ rest) f w a b d =
    let r = kind_sound d in
    let s = fields_taken rest f r.1 (with_kind r.2 a) b r.5 in
    record {
      front = r.0 ++ s.front;
      back = s.back;
      values = (r.2, s.values);
      are = then_kind r.3 s.are refl;
      whole =
          joined r.0 r.1 s.front s.back w r.4 s.whole;
      rest = s.rest;
    }
fields_taken (field.needs value ∷ rest) f w a b d =
    let r = needs_sound a (row_of rest f) w b d in
    let s = fields_taken rest f r.1 (record a { lists = r.2 ∷ a.lists }) b r.5 in
    record {
      front = r.0 ++ s.front;
      back = s.back;
      values = (r.2, s.values);
      are = then_needs r.3 s.are refl;
      whole =
          joined r.0 r.1 s.front s.back w r.4 s.whole;
      rest = s.rest;
    }
fields_taken (field.optional_needs value ∷ rest) f w a b d =
    let r = optional_sound a (row_of rest f) w b d in
    let s = fields_taken rest f r.1 (record a { needs = r.2 ∷ a.needs }) b r.5 in
    record {
      front = r.0 ++ s.front;
      back = s.back;
      values = (r.2, s.values);
      are = then_optional_needs r.3 s.are refl;
      whole =
          joined r.0 r.1 s.front s.back w r.4 s.whole;
      rest = s.rest;
    }

-- two parts, and then the rest
apart : (xs u v w : List Lexeme) → xs ≡ u ++ v → xs ++ w ≡ u ++ (v ++ w)
apart xs u v w e = ap (λ y. y ++ w) e ∙ append_assoc u v w

-- a row of fields derives their tokens
pub fields_given : (f : Row) (w : List Lexeme) (b : SpecBuilder) (a : SpecBuilder) (xs : List Lexeme) (fields : List Field)
    (h : AreFields xs fields)
    → Makes f w (with_fields fields (places_of xs fields h) a) b → Makes (row_of fields f) (xs ++ w) a b
fields_given f w b a xs fields no_field d = d
fields_given f w b a xs fields (then_word {x = x} {v = v} {value = value} {rest = rest} h s) d =
    word_given value h (fields_given f w b (word_shift value x.at a) v rest s d)
fields_given f w b a xs fields (then_mark {v = v} {value = value} {rest = rest} h s) d =
    mark_given value h (fields_given f w b a v rest s d)
fields_given f w b a xs fields (then_name {x = x} {v = v} {value = value} {rest = rest} h s) d =
    name_given h (fields_given f w b (with_name value x.at a) v rest s d)
fields_given f w b a xs fields (then_kind {u = u} {v = v} {value = value} {rest = rest} h s e) d =
    subst (λ y. Makes (Nonterminal Part.Kind ∷ row_of rest f) y a b) (sym (apart xs u v w e))
    (kind_given h (fields_given f w b (with_kind value a) v rest s d))
fields_given f w b a xs fields (then_needs {u = u} {v = v} {value = value} {rest = rest} h s e) d =
    subst (λ y. Makes (Nonterminal Part.Needs ∷ row_of rest f) y a b) (sym (apart xs u v w e))
    (needs_given a value (row_of rest f) u (v ++ w) b h (fields_given f w b (record a { lists = value ∷ a.lists }) v rest s d))
fields_given f w b a xs fields (then_optional_needs {u = u} {v = v} {value = value} {rest = rest} h s e) d =
    subst (λ y. Makes (Nonterminal Part.OptionalNeeds ∷ row_of rest f) y a b) (sym (apart xs u v w e))
    (optional_given a value (row_of rest f) u (v ++ w) b h (fields_given f w b (record a { needs = value ∷ a.needs }) v rest s d))
