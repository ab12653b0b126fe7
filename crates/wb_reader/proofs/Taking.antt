-- How the table's grammar takes tokens, chooses right sides and acts.
use Rattle.std.proofs.Common.{◌≡◌, ℕ, ℤ, zero, suc, pos, List, [], ◌∷◌, ◌++◌, ◌⊎◌, inl, inr, sym, subst, Some, slice_get}
use Rattle.wb_text_predictive.specs.declared.symbol.Symbol.{Symbol}
use Rattle.wb_text_predictive.specs.declared.symbol.Symbol.TheVariants.{Token, Nonterminal, Act}
use Rattle.wb_text_predictive.specs.Grammar.{Derives, token, expand, act as acts}
use Rattle.wb_text_tokens.specs.declared.word.Word.{Word}
use Rattle.wb_text_tokens.specs.declared.punctuation.Punctuation.{Punctuation}
use Rattle.wb_syntax.specs.Tokens.{Lexeme, IsWord, IsMark, IsName, IsInt, IsString, IsRegex}
use Rattle.wb_text_tokens.specs.declared.kind.TokenKind.{TokenKind}
use Rattle.wb_text_tokens.specs.declared.kind.TokenKind.TheVariants as kind
use Rattle.wb_reader.specs.declared.part.Part.{Part}
use Rattle.wb_reader_builder.specs.declared.actions.Action.{Action}
use Rattle.wb_reader_builder.specs.declared.builder.SpecBuilder.{SpecBuilder}
use Rattle.wb_text_tokens.specs.Kinds.{kind_of}
use Rattle.wb_text_tokens.proofs.KindLaws.{word_by_kind, mark_by_kind, name_by_kind, number_by_kind, one_by_kind, two_by_kind}
use Rattle.wb_text_tokens.proofs.KindLaws.{string_by_kind}
use Rattle.wb_text_tokens.proofs.KindLaws.{regex_by_kind}
use Rattle.wb_reader.specs.Inner.RightSides.{right_sides}
use Rattle.wb_reader_builder.specs.Builder.{with_name, with_integer, with_text, with_pattern}
use Rattle.wb_reader_builder.specs.Items.{word_shift}
use Rattle.wb_reader_builder.specs.Actions.{act}
use Rattle.wb_reader.specs.Inner.Table.{spec_grammar, shift}

-- a row of symbols
abbrev pub Row : Type 0
Row = List (Symbol TokenKind Part Action)

-- the row derives the tokens, and makes of the first parts the second
abbrev pub Makes : Row → List Lexeme → SpecBuilder → SpecBuilder → Type 0
Makes row w a b = Derives spec_grammar row w a b

-- the tokens are first those of a part, which is this value, and then those of the rest of the row, over what the value made
abbrev pub Split : {T : Type 0} → (List Lexeme → T → Type 0) → (T → SpecBuilder) → Row → List Lexeme → SpecBuilder → Type 0
Split {T} Is made f w b = (u v : List Lexeme) × (value : T) × Is u value × (w ≡ u ++ v) × Makes f v (made value) b

-- a token, and then the rest
taken : {k : TokenKind} {f : Row} {w : List Lexeme} {a b : SpecBuilder} → Makes (Token k ∷ f) w a b
    → (x : Lexeme) × (v : List Lexeme) × (kind_of x.token ≡ k) × (w ≡ x ∷ v) × Makes f v (shift x.token x.at x.end a) b
taken (token {x = x} {v = v} h d e) = (x, v, h, e, d)

pub word_taken : {f : Row} {w : List Lexeme} {a b : SpecBuilder} (y : Word) → Makes (Token (kind.Word y) ∷ f) w a b
    → (x : Lexeme) × (v : List Lexeme) × IsWord y x × (w ≡ x ∷ v) × Makes f v (word_shift y x.at a) b
word_taken {f = f} {a = a} {b = b} y d =
    let r = taken d in
    let h = word_by_kind r.0.token y r.2 in
    (r.0, r.1, h, r.3, subst (λ z. Makes f r.1 (shift z r.0.at r.0.end a) b) h r.4)

pub mark_taken : {f : Row} {w : List Lexeme} {a b : SpecBuilder} (m : Punctuation) → Makes (Token (kind.Mark m) ∷ f) w a b
    → (x : Lexeme) × (v : List Lexeme) × IsMark m x × (w ≡ x ∷ v) × Makes f v a b
mark_taken {f = f} {a = a} {b = b} m d =
    let r = taken d in
    let h = mark_by_kind r.0.token m r.2 in
    (r.0, r.1, h, r.3, subst (λ z. Makes f r.1 (shift z r.0.at r.0.end a) b) h r.4)

pub name_taken : {f : Row} {w : List Lexeme} {a b : SpecBuilder} → Makes (Token kind.Name ∷ f) w a b
    → (x : Lexeme) × (v : List Lexeme) × (n : List ℕ) × IsName n x × (w ≡ x ∷ v) × Makes f v (with_name n x.at a) b
name_taken {f = f} {a = a} {b = b} d =
    let r = taken d in
    let h = name_by_kind r.0.token r.2 in
    (r.0, r.1, h.0, h.1, r.3, subst (λ z. Makes f r.1 (shift z r.0.at r.0.end a) b) h.1 r.4)

pub number_taken : {f : Row} {w : List Lexeme} {a b : SpecBuilder} → Makes (Token kind.Number ∷ f) w a b
    → (x : Lexeme) × (v : List Lexeme) × (z : ℤ) × IsInt z x × (w ≡ x ∷ v) × Makes f v (with_integer z a) b
number_taken {f = f} {a = a} {b = b} d =
    let r = taken d in
    let h = number_by_kind r.0.token r.2 in
    (r.0, r.1, h.0, h.1, r.3, subst (λ z. Makes f r.1 (shift z r.0.at r.0.end a) b) h.1 r.4)

pub one_taken : {f : Row} {w : List Lexeme} {a b : SpecBuilder} → Makes (Token kind.One ∷ f) w a b
    → (x : Lexeme) × (v : List Lexeme) × IsInt (pos 1) x × (w ≡ x ∷ v) × Makes f v (with_integer (pos 1) a) b
one_taken {f = f} {a = a} {b = b} d =
    let r = taken d in
    let h = one_by_kind r.0.token r.2 in
    (r.0, r.1, h, r.3, subst (λ z. Makes f r.1 (shift z r.0.at r.0.end a) b) h r.4)

pub two_taken : {f : Row} {w : List Lexeme} {a b : SpecBuilder} → Makes (Token kind.Two ∷ f) w a b
    → (x : Lexeme) × (v : List Lexeme) × IsInt (pos 2) x × (w ≡ x ∷ v) × Makes f v (with_integer (pos 2) a) b
two_taken {f = f} {a = a} {b = b} d =
    let r = taken d in
    let h = two_by_kind r.0.token r.2 in
    (r.0, r.1, h, r.3, subst (λ z. Makes f r.1 (shift z r.0.at r.0.end a) b) h r.4)

pub string_taken : {f : Row} {w : List Lexeme} {a b : SpecBuilder} → Makes (Token kind.String ∷ f) w a b
    → (x : Lexeme) × (v : List Lexeme) × (s : List ℕ) × IsString s x × (w ≡ x ∷ v) × Makes f v (with_text s a) b
string_taken {f = f} {a = a} {b = b} d =
    let r = taken d in
    let h = string_by_kind r.0.token r.2 in
    (r.0, r.1, h.0, h.1, r.3, subst (λ z. Makes f r.1 (shift z r.0.at r.0.end a) b) h.1 r.4)

pub regex_taken : {f : Row} {w : List Lexeme} {a b : SpecBuilder} → Makes (Token kind.Regex ∷ f) w a b
    → (x : Lexeme) × (v : List Lexeme) × (body : List ℕ) × IsRegex body x × (w ≡ x ∷ v) × Makes f v (with_pattern body x.at a) b
regex_taken {f = f} {a = a} {b = b} d =
    let r = taken d in
    let h = regex_by_kind r.0.token r.2 in
    (r.0, r.1, h.0, h.1, r.3, subst (λ z. Makes f r.1 (shift z r.0.at r.0.end a) b) h.1 r.4)

-- an action, and then the rest
pub acted : {c : Action} {f : Row} {w : List Lexeme} {a b : SpecBuilder} → Makes (Act c ∷ f) w a b → Makes f w (act c a) b
acted (acts d) = d

-- one of the rows goes on so
abbrev pub OneOf : List Row → Row → List Lexeme → SpecBuilder → SpecBuilder → Type 0
OneOf [] f w a b = ⊥
OneOf (row ∷ rows) f w a b = Makes (row ++ f) w a b ⊎ OneOf rows f w a b

chosen_of : (rows : List Row) (p : ℕ) (right f : Row) (w : List Lexeme) (a b : SpecBuilder) → slice_get rows p ≡ Some right
    → Makes (right ++ f) w a b → OneOf rows f w a b
chosen_of [] p right f w a b e d = absurd (cc)
chosen_of (row ∷ rows) zero right f w a b e d = inl (subst (λ r. Makes (r ++ f) w a b) (sym cc) d)
chosen_of (row ∷ rows) (suc p) right f w a b e d = inr (chosen_of rows p right f w a b e d)

-- a nonterminal by one of its right sides
pub chosen : {n : Part} {f : Row} {w : List Lexeme} {a b : SpecBuilder} → Makes (Nonterminal n ∷ f) w a b → OneOf (right_sides n) f w a b
chosen {n = n} {f = f} {w = w} {a = a} {b = b} (expand {right = right} p e d) = chosen_of (right_sides n) p right f w a b e d
