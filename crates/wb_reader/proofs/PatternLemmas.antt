-- Regular expressions of items: where they stand, and which is the first that isn't taken.
use Rattle.std.proofs.Common.{Result, Ok, Err, IfErr, ◌≡◌, ◌≤◌, ◌+◌, ℕ, List, [], ◌∷◌, ◌++◌, refl, sym, ap, ◌∙◌, subst, length, arith, All}
use Rattle.std.specs.List.{AllZip, slice_range}
use Rattle.std.specs.Result.{IsErrAnd}
use Rattle.std.proofs.lemmas.List.{length-append, length-take, length-drop}
use Rattle.std.specs.Prelude.{drop, ◌-◌, min}
use Rattle.std.proofs.lemmas.List.Elements.{All-nil, All-cons}
use Rattle.wb_text_predictive.specs.Reading.{Spells, next}
use Rattle.wb_text_tokens.specs.declared.token.Dialect.{Dialect}
use Rattle.wb_text_tokens.specs.declared.token.Token.TheVariants as t
use Rattle.wb_text_tokens.specs.NextToken.{NextToken}
use Rattle.wb_text_tokens.specs.Spelling.{Spells as SpellsToken}
use Rattle.wb_text_tokens.specs.NextToken.{IsNextIn}
use Rattle.wb_regex.proofs.CallerLemmas.{one}
use Rattle.wb_syntax.specs.declared.item.Item.{Item}
use Rattle.wb_syntax.specs.declared.item.ItemForm.{ItemForm}
use Rattle.wb_syntax.specs.declared.item.ItemForm.TheVariants as f
use Rattle.wb_syntax.specs.declared.pattern.Pattern.{Pattern}
use Rattle.wb_syntax.specs.declared.pattern.WrittenPattern.{WrittenPattern}
use Rattle.wb_syntax.specs.declared.written.WrittenSpec.{WrittenSpec}
use Rattle.wb_syntax.specs.Tokens.{Lexeme, IsRegex}
use Rattle.wb_syntax.specs.ItemGrammar as grammar
use Rattle.wb_syntax.specs.ItemGrammar.{IsItem, AreItems, IsSpecification}
use Rattle.wb_syntax.specs.SpecText.{SpecView, dialect_of, IsWrittenText, IsReadAs, IsReadForm, IsReadSpec, IsSpecText}
use Rattle.wb_reader.specs.declared.refusal.SpecRefusal.{SpecRefusal}
use Rattle.wb_reader.specs.declared.refusal.SpecRefusal.TheVariants.{TooLong, WrongFormat, Syntax, BadRegex, MatchesEmpty, NoMemory}
use Rattle.wb_reader.specs.Refusals.{IsShort, IsTaken, IsTakenForm}
use Rattle.wb_reader.specs.Inner.Patterns.{IsPlaced, OnForm, OnItem, OnItems}

-- items that are read are taken
form_taken : (form : ItemForm WrittenPattern) (read : ItemForm Pattern) → IsReadForm form read → IsTakenForm form
form_taken (f.Lexical role name pattern) read r = (r.0, r.1)
form_taken (f.Plain plain) read r = tt
form_taken (f.Production role production) read r = tt
form_taken (f.Aspect name equations) read r = tt

one_taken : (item : Item WrittenPattern) (read : Item Pattern) → IsReadAs item read → IsTaken item
one_taken item read r = form_taken item.form read.form r.form

pub all_taken : (items : List (Item WrittenPattern)) (read : List (Item Pattern)) → AllZip IsReadAs items read → All IsTaken items
all_taken [] read r = All-nil IsTaken
all_taken (item ∷ items) [] r = absurd r
all_taken (item ∷ items) (x ∷ xs) r = All-cons IsTaken item items (one_taken item x r.0) (all_taken items xs r.1)

-- no item is refused so
too_long_no_form : (form : ItemForm WrittenPattern) → ¬ OnForm form TooLong
too_long_no_form (f.Lexical role name pattern) r = r
too_long_no_form (f.Plain plain) r = r
too_long_no_form (f.Production role production) r = r
too_long_no_form (f.Aspect name equations) r = r

format_no_form : (form : ItemForm WrittenPattern) → ¬ OnForm form WrongFormat
format_no_form (f.Lexical role name pattern) r = r
format_no_form (f.Plain plain) r = r
format_no_form (f.Production role production) r = r
format_no_form (f.Aspect name equations) r = r

syntax_no_form : (form : ItemForm WrittenPattern) (at : ℕ) → ¬ OnForm form (Syntax at)
syntax_no_form (f.Lexical role name pattern) at r = r
syntax_no_form (f.Plain plain) at r = r
syntax_no_form (f.Production role production) at r = r
syntax_no_form (f.Aspect name equations) at r = r

-- the item after those that were read is the first that is refused
pub first_refused : (items before : List (Item WrittenPattern)) (item : Item WrittenPattern) (after : List (Item WrittenPattern))
    (read : List (Item Pattern)) (refusal : SpecRefusal) → items ≡ before ++ item ∷ after → AllZip IsReadAs before read
    → OnItem item refusal → OnItems items refusal
first_refused items before item after read TooLong e z r = absurd (too_long_no_form item.form r)
first_refused items before item after read WrongFormat e z r = absurd (format_no_form item.form r)
first_refused items before item after read (Syntax at) e z r = absurd (syntax_no_form item.form at r)
first_refused items before item after read (BadRegex at) e z r =
    record { before = before; after = after; item = item; split = e; taken = all_taken before read z; refused = r }
first_refused items before item after read (MatchesEmpty name) e z r =
    record { before = before; after = after; item = item; split = e; taken = all_taken before read z; refused = r }
first_refused items before item after read (NoMemory error) e z r = tt

-- a list of lexemes that each fit
abbrev pub AllFit : (Lexeme → Type 0) → List Lexeme → Type 0
AllFit P [] = Unit {0}
AllFit P (x ∷ xs) = P x × AllFit P xs

fit_left : (P : Lexeme → Type 0) (u v : List Lexeme) → AllFit P (u ++ v) → AllFit P u
fit_left P [] v h = tt
fit_left P (x ∷ u) v h = (h.0, fit_left P u v h.1)

fit_right : (P : Lexeme → Type 0) (u v : List Lexeme) → AllFit P (u ++ v) → AllFit P v
fit_right P [] v h = h
fit_right P (x ∷ u) v h = fit_right P u v h.1

-- a regular expression stands with its slashes within the bytes
abbrev Fits : Lexeme → Type 0
Fits x = (bytes : List ℕ) → IsRegex bytes x → x.at + length bytes + 2 ≤ 1048576

one_fits : (dialect : Dialect) (text : List ℕ) (from : ℕ) (x : Lexeme) → IsShort text → NextToken dialect text from x.token x.at x.end
    → Fits x
one_fits dialect text from x short r bytes e =
    let s : SpellsToken dialect (t.Regex bytes) (slice_range text x.at x.end) =
    subst (λ y. SpellsToken dialect y (slice_range text x.at x.end)) e r.stands.spelled in
    let l : length (slice_range text x.at x.end) ≡ length (47 ∷ (bytes ++ 47 ∷ [])) = ap length s.0 in
    let k = length-append bytes (47 ∷ []) in
    let m : length (slice_range text x.at x.end) ≡ min (x.end - x.at) (length (drop x.at text)) =
    length-take (x.end - x.at) (drop x.at text) in
    let d = length-drop x.at text in
    let o = r.stands.ordered in
    let w = r.stands.within in
    omega (arith, l, k, m, d, o, w, short)

all_fit : (dialect : Dialect) (text : List ℕ) (from : ℕ) (xs : List Lexeme) (to : ℕ) → IsShort text
    → Spells (IsNextIn dialect text) from xs to
    → AllFit Fits xs
all_fit dialect text from [] to short s = tt
all_fit dialect text from (x ∷ xs) to short (next i r) = (one_fits dialect text from x short i, all_fit dialect text x.end xs to short r)

item_placed : (w : List Lexeme) (item : Item WrittenPattern) → IsItem w item → AllFit Fits w → IsPlaced item
item_placed w item (grammar.lexical {bytes = bytes} h i j k) fit = fit.1.1.0 bytes j
item_placed w item (grammar.plain h) fit = tt
item_placed w item (grammar.production h i) fit = tt
item_placed w item (grammar.aspect h i j) fit = tt

items_placed : (w : List Lexeme) (items : List (Item WrittenPattern)) → AreItems w items → AllFit Fits w → All IsPlaced items
items_placed w items grammar.nothing fit = All-nil IsPlaced
items_placed w items (grammar.next {u = u} {v = v} {item = item} {rest = rest} h r e) fit =
    let g = subst (AllFit Fits) e fit in
    All-cons IsPlaced item rest (item_placed u item h (fit_left Fits u v g)) (items_placed v rest r (fit_right Fits u v g))

spec_placed : (w : List Lexeme) (spec : WrittenSpec) → IsSpecification w spec → AllFit Fits w → All IsPlaced spec.items
spec_placed w spec (grammar.whole {f = x} {n = n} {s = s} {u = u} {v = v} {items = items} h known i j k r e) fit =
    let g = subst (AllFit Fits) e fit in
    items_placed v items r (fit_right Fits u v g.1.1.1)

-- the regular expressions of a text stand within it
pub text_placed : (text : List ℕ) (spec : WrittenSpec) → IsShort text → IsWrittenText text spec → All IsPlaced spec.items
text_placed text spec short r =
    spec_placed r.tokens spec r.specification (all_fit (dialect_of spec.format) text 0 r.tokens r.to short r.spelled)

-- a written item is one item
one_form : (form : ItemForm WrittenPattern) (x y : ItemForm Pattern) → IsReadForm form x → IsReadForm form y → x ≡ y
one_form (f.Lexical role name pattern) x y r s =
    r.2 ∙ (ap (λ tree. f.Lexical role name (record { bytes = pattern.bytes; regex = tree })) (one pattern.bytes r.0 s.0 r.1.text s.1.text)
    ∙ sym s.2)
one_form (f.Plain plain) x y r s = r ∙ sym s
one_form (f.Production role production) x y r s = r ∙ sym s
one_form (f.Aspect name equations) x y r s = r ∙ sym s

one_read : (item : Item WrittenPattern) (x y : Item Pattern) → IsReadAs item x → IsReadAs item y → x ≡ y
one_read item x y r s =
    ap (λ offset. record x { offset = offset }) (r.offset ∙ sym s.offset)
    ∙ ap (λ form. record y { form = form }) (one_form item.form x.form y.form r.form s.form)

all_read : (items : List (Item WrittenPattern)) (xs ys : List (Item Pattern)) → AllZip IsReadAs items xs → AllZip IsReadAs items ys
    → xs ≡ ys
all_read [] [] [] r s = refl
all_read [] [] (y ∷ ys) r s = absurd s
all_read [] (x ∷ xs) ys r s = absurd r
all_read (i ∷ items) [] ys r s = absurd r
all_read (i ∷ items) (x ∷ xs) [] r s = absurd s
all_read (i ∷ items) (x ∷ xs) (y ∷ ys) r s = ap (λ z. z ∷ xs) (one_read i x y r.0 s.0) ∙ ap (λ zs. y ∷ zs) (all_read items xs ys r.1 s.1)

-- a written specification is one specification
one_spec_of : (a b : SpecView) → a.format ≡ b.format → a.name ≡ b.name → a.header ≡ b.header → a.items ≡ b.items → a ≡ b
one_spec_of a b format name header items =
    ap (λ x. record a { format = x }) format ∙ (ap (λ x. record a { format = b.format; name = x }) name
    ∙ (ap (λ x. record b { header = x; items = a.items }) header ∙ ap (λ x. record b { items = x }) items))

pub one_spec : (written : WrittenSpec) (a b : SpecView) → IsReadSpec written a → IsReadSpec written b → a ≡ b
one_spec written a b r s =
    one_spec_of a b (r.format ∙ sym s.format) (r.name ∙ sym s.name) (r.header ∙ sym s.header)
    (all_read written.items a.items b.items r.items s.items)

-- what was read of bytes is their one specification
pub read_text : (bytes : List ℕ) (written : WrittenSpec) (items : List (Item Pattern)) → IsWrittenText bytes written
    → AllZip IsReadAs written.items items
    → IsSpecText bytes (record { format = written.format; name = written.name; header = written.header; items = items })
read_text bytes written items r z =
    record { written = written; text = r; read = record { format = refl; name = refl; header = refl; items = z } }

-- a refusal of an item that is handed on
pub item_handed_on : {X : Type 0} (items before : List (Item WrittenPattern)) (item : Item WrittenPattern)
    (after : List (Item WrittenPattern)) (read : List (Item Pattern)) (r : Result X SpecRefusal) (e : SpecRefusal)
    → IsErrAnd r (λ f. f ≡ e) → items ≡ before ++ item ∷ after → AllZip IsReadAs before read → OnItem item e → IfErr r (OnItems items)
item_handed_on items before item after read (Ok x) e is split z on = tt
item_handed_on items before item after read (Err f) e is split z on =
    first_refused items before item after read f split z (subst (OnItem item) (sym is) on)

-- one more item that is read
pub one_more : (before : List (Item WrittenPattern)) (item : Item WrittenPattern) (read : List (Item Pattern)) (x : Item Pattern)
    → AllZip IsReadAs before read → IsReadAs item x → AllZip IsReadAs (before ++ item ∷ []) (read ++ x ∷ [])
one_more [] item [] x z r = (r, tt)
one_more [] item (y ∷ ys) x z r = absurd z
one_more (i ∷ before) item [] x z r = absurd z
one_more (i ∷ before) item (y ∷ ys) x z r = (z.0, one_more before item ys x z.1 r)
