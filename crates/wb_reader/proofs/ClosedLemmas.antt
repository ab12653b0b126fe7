-- Where `closed` isn't a word, `extensible` may stand in its place. So what begins a specification begins one with words of the dialect
-- alone.
use Rattle.std.proofs.Common.{◌≡◌, ◌∙◌, ◌&&◌, ◌||◌, ℕ, ℤ, zero, suc, pos, negsuc, List, [], ◌∷◌, Bool, true, false, cond, Some, refl, sym}
use Rattle.std.proofs.Common.{ap, subst}
use Rattle.std.proofs.Common.{slice_get, ⊎_elim}
use Rattle.std.specs.Prelude.{◌==◌}
use Rattle.std.specs.List.{list_all}
use denote.Enum.Bare.{sameb, same_true}
use Rattle.wb_lemmas.proofs.Booleans.{and_left, and_right, or_cases}
use Rattle.wb_text_predictive.specs.declared.symbol.Symbol.{Symbol}
use Rattle.wb_text_predictive.specs.declared.symbol.Symbol.TheVariants.{Token, Nonterminal, Act}
use Rattle.wb_text_predictive.specs.Reading as reading
use Rattle.wb_text_predictive.proofs.ByKind.{ChangedKinds, more, Stay, AreChanged, no_symbol, token_too, nonterminal_too, act_too}
use Rattle.wb_text_predictive.proofs.ByKind.{HasChanged}
use Rattle.wb_text_tokens.specs.Inner.SameKind.{same_kind}
use Rattle.wb_text_tokens.specs.Kinds.{kind_of, integer_kind}
use Rattle.wb_text_tokens.specs.NextToken.{IsNextIn}
use Rattle.wb_text_tokens.specs.Spelling.{Spells}
use Rattle.wb_text_tokens.specs.declared.kind.TokenKind.{TokenKind}
use Rattle.wb_text_tokens.specs.declared.kind.TokenKind.TheVariants as kind
use Rattle.wb_text_tokens.specs.declared.token.Dialect.{Dialect}
use Rattle.wb_text_tokens.specs.declared.token.Dialect.TheVariants.{Terms, FormatOne, FormatTwo}
use Rattle.wb_text_tokens.specs.declared.token.Token as token
use Rattle.wb_text_tokens.specs.declared.token.Token.TheVariants as t
use Rattle.wb_text_tokens.specs.declared.word.Word.TheVariants as w
use Rattle.wb_text_tokens.proofs.Enumerations.{each_value}
use Rattle.wb_text_tokens.proofs.KindLaws.{kinds_same}
use Rattle.wb_text_tokens.proofs.SampleLemmas.{kind_in}
use Rattle.wb_syntax.specs.declared.written.WrittenSpec.{WrittenSpec}
use Rattle.wb_syntax.specs.Tokens.{Lexeme}
use Rattle.wb_syntax.specs.ItemGrammar.{IsFormat, IsSpecification}
use Rattle.wb_reader.specs.contracts.part.Part as parts
use Rattle.wb_reader.specs.declared.part.Part.{Part}
use Rattle.wb_reader.specs.Inner.RightSides.{right_sides}
use Rattle.wb_reader.proofs.HeadLemmas.{spec_head, spec_format}
use Rattle.wb_reader.proofs.Taking.{Row}
use Rattle.wb_reader_builder.specs.declared.actions.Action.{Action}

-- the second symbol is the first with its kind changed
abbrev is_changed_symbol : Dialect → Symbol TokenKind Part Action → Symbol TokenKind Part Action → Bool
is_changed_symbol dialect (Token k) (Token l) = same_kind l (kind_in dialect k)
is_changed_symbol dialect (Nonterminal n) (Nonterminal m) = sameb parts.the_type m n
is_changed_symbol dialect (Act c) (Act d) = true
is_changed_symbol dialect a b = false

-- the second row is the first with its kinds changed
abbrev is_changed : Dialect → Row → Row → Bool
is_changed dialect [] [] = true
is_changed dialect [] (b ∷ h) = false
is_changed dialect (a ∷ f) [] = false
is_changed dialect (a ∷ f) (b ∷ h) = is_changed_symbol dialect a b && is_changed dialect f h

-- one of the rows is
abbrev some_changed : Dialect → List Row → Row → Bool
some_changed dialect [] right = false
some_changed dialect (other ∷ rest) right = is_changed dialect right other || some_changed dialect rest right

-- so it is of each right side
each_changed : (dialect : Dialect) (n : Part) → list_all (some_changed dialect (right_sides n)) (right_sides n) ≡ true
unfolding right_sides
each_changed Terms n = each_value parts.enum (λ m. list_all (some_changed Terms (right_sides m)) (right_sides m)) refl n
each_changed FormatOne n = each_value parts.enum (λ m. list_all (some_changed FormatOne (right_sides m)) (right_sides m)) refl n
each_changed FormatTwo n = each_value parts.enum (λ m. list_all (some_changed FormatTwo (right_sides m)) (right_sides m)) refl n

-- what the test says
changed_row : (dialect : Dialect) (f h : Row) → is_changed dialect f h ≡ true → AreChanged (kind_in dialect) f h
changed_row dialect [] [] e = no_symbol
changed_row dialect [] (b ∷ h) e = absurd (cc)
changed_row dialect (a ∷ f) [] e = absurd (cc)
changed_row dialect (a ∷ f) (b ∷ h) e =
    by_symbols a b (and_left (is_changed_symbol dialect a b) (is_changed dialect f h) e)
    (changed_row dialect f h (and_right (is_changed_symbol dialect a b) (is_changed dialect f h) e))
  where
    by_symbols : (a b : Symbol TokenKind Part Action) → is_changed_symbol dialect a b ≡ true → AreChanged (kind_in dialect) f h
        → AreChanged (kind_in dialect) (a ∷ f) (b ∷ h)
    by_symbols (Token k) (Token l) s r = token_too ((kinds_same l (kind_in dialect k)).0 s) r
    by_symbols (Token k) (Nonterminal m) s r = absurd (cc)
    by_symbols (Token k) (Act d) s r = absurd (cc)
    by_symbols (Nonterminal n) (Token l) s r = absurd (cc)
    by_symbols (Nonterminal n) (Nonterminal m) s r = nonterminal_too (same_true parts.the_type tt m n s) r
    by_symbols (Nonterminal n) (Act d) s r = absurd (cc)
    by_symbols (Act c) (Token l) s r = absurd (cc)
    by_symbols (Act c) (Nonterminal m) s r = absurd (cc)
    by_symbols (Act c) (Act d) s r = act_too r

changed_in : (dialect : Dialect) (rows : List Row) (right : Row) → some_changed dialect rows right ≡ true
    → HasChanged (kind_in dialect) rows right
changed_in dialect [] right e = absurd (cc)
changed_in dialect (other ∷ rest) right e = ⊎_elim
    (λ here. record { place = 0; other = other; there = refl; changed = changed_row dialect right other here })
    (λ later. let r = changed_in dialect rest right later in
    record { place = suc r.place; other = r.other; there = r.there; changed = r.changed })
    (or_cases (is_changed dialect right other) (some_changed dialect rest right) e)

-- what holds of all rows holds of one
all_at : (test : Row → Bool) (rows : List Row) (p : ℕ) (right : Row) → slice_get rows p ≡ Some right → list_all test rows ≡ true
    → test right ≡ true
all_at test [] p right e h = absurd (cc)
all_at test (row ∷ rows) zero right e h =
    let same : row ≡ right = cc in subst (λ r. test r ≡ true) same (and_left (test row) (list_all test rows) h)
all_at test (row ∷ rows) (suc p) right e h = all_at test rows p right e (and_right (test row) (list_all test rows) h)

-- each right side with the words of the dialect is one of the same nonterminal
pub spec_changed : (dialect : Dialect) (n : Part) (p : ℕ) (right : Row) → slice_get (right_sides n) p ≡ Some right
    → HasChanged (kind_in dialect) (right_sides n) right
spec_changed dialect n p right e =
    changed_in dialect (right_sides n) right (all_at (some_changed dialect (right_sides n)) (right_sides n) p right e
    (each_changed dialect n))

-- the kinds of a dialect's tokens stay
integer_stays : (dialect : Dialect) (z : ℤ) → kind_in dialect (integer_kind z) ≡ integer_kind z
integer_stays dialect (pos n) = by_tests (n == 1) (n == 2)
  where
    by_tests : (c d : Bool)
        → kind_in dialect (cond c kind.One (cond d kind.Two kind.Number)) ≡ cond c kind.One (cond d kind.Two kind.Number)
    by_tests true d = refl
    by_tests false true = refl
    by_tests false false = refl
integer_stays dialect (negsuc n) = refl

kind_stays : (dialect : Dialect) (x : token.Token) (bytes : List ℕ) → Spells dialect x bytes → kind_in dialect (kind_of x) ≡ kind_of x
kind_stays dialect (t.Name text) bytes s = refl
kind_stays dialect (t.Word word) bytes s = ap (λ c. kind.Word (cond c word w.Extensible)) s.reserved
kind_stays dialect (t.Int value) bytes s = integer_stays dialect value
kind_stays dialect (t.Text text) bytes s = refl
kind_stays dialect (t.Regex body) bytes s = refl
kind_stays dialect (t.Punctuation mark) bytes s = refl

pub kinds_stay : (dialect : Dialect) (text : List ℕ) (from to : ℕ) (xs : List Lexeme) → reading.Spells (IsNextIn dialect text) from xs to
    → Stay kind_of (kind_in dialect) xs
kinds_stay dialect text from to xs (reading.none e) = tt
kinds_stay dialect text from to xs (reading.next {x = x} {xs = rest} h r) =
    (kind_stays dialect x.token _ h.stands.spelled, kinds_stay dialect text x.end to rest r)

-- the second of changed tokens
second_kind : (change : TokenKind → TokenKind) (a b c d : Lexeme) (v u : List Lexeme)
    → ChangedKinds kind_of change (a ∷ b ∷ v) (c ∷ d ∷ u) → kind_of d.token ≡ change (kind_of b.token)
second_kind change a b c d v u (more e (more f s)) = f

-- a specification of changed tokens has the same format
pub same_format : (dialect : Dialect) (xs ys : List Lexeme) (one other : WrittenSpec) → ChangedKinds kind_of (kind_in dialect) xs ys
    → IsSpecification xs one → IsSpecification ys other → other.format ≡ one.format
same_format dialect xs ys one other s r i =
    let h = spec_head xs one r in
    let k = spec_head ys other i in
    let second = second_kind (kind_in dialect) h.first h.second k.first k.second _ _
    (subst (λ l. ChangedKinds kind_of (kind_in dialect) l (k.first ∷ k.second ∷ k.third ∷ k.rest)) h.whole
    (subst (λ l. ChangedKinds kind_of (kind_in dialect) xs l) k.whole s)) in
    let kinds : integer_kind (pos other.format) ≡ kind_in dialect (integer_kind (pos one.format)) =
    sym (ap kind_of k.is_number) ∙ (second ∙ ap (λ x. kind_in dialect (kind_of x)) h.is_number) in
    by_formats one.format other.format (spec_format xs one r) (spec_format ys other i) (kinds ∙ integer_stays dialect (pos one.format))
  where
    by_formats : (m n : ℕ) → IsFormat m → IsFormat n → integer_kind (pos n) ≡ integer_kind (pos m) → n ≡ m
    by_formats m n a b e = ⊎_elim
        (λ one. ⊎_elim (λ i. i ∙ sym one)
        (λ i. absurd (let bad : kind.Two ≡ kind.One = ap (λ k. integer_kind (pos k)) (sym i) ∙
        (e ∙ ap (λ k. integer_kind (pos k)) one) in cc)) b)
        (λ two. ⊎_elim
        (λ i. absurd (let bad : kind.One ≡ kind.Two = ap (λ k. integer_kind (pos k)) (sym i) ∙
        (e ∙ ap (λ k. integer_kind (pos k)) two) in cc))
        (λ i. i ∙ sym two) b) a
