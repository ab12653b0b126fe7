-- A spelling is in a text as its token where what follows doesn't go on.
use Rattle.std.proofs.Common.{◌≡◌, ◌≢◌, ℕ, ◌+◌, ◌<◌, List, [], ◌∷◌, ◌++◌, Some, Bool, true, false, ◌&&◌, cond, eqb, length, get_or, take}
use Rattle.std.proofs.Common.{refl, sym, ap, ◌∙◌, subst, arith, append_assoc, length-append, ℤ, FitsSigned, w64}
use Rattle.std.proofs.Math.Seq.{take-append_seam, drop-append_seam}
use Rattle.std.proofs.lemmas.List.{get_or_append_left, get_or_at}
use Rattle.std.proofs.lemmas.Str.Parse.{digit_from_value}
use Rattle.std.specs.Bool.{⊤}
use Rattle.std.specs.Char.{is_ascii_digit}
use Rattle.std.specs.List.{list_all, prefix_len}
use Rattle.std.specs.Str.Parse.{IsNumeral, digits_value}
use Rattle.wb_text_tokens.specs.Inner.Longest.{first_class, IsLongest}
use Rattle.wb_text_tokens.specs.Inner.Marks.{mark_at}
use Rattle.wb_text_tokens.specs.NextToken.{IsTokenAt}
use Rattle.wb_text_tokens.specs.Inner.Numbers.{FindsNumber}
use Rattle.wb_base.specs.Decimal.{digit_count, signed}
use Rattle.wb_text_tokens.specs.Skipping.{HasByte}
use Rattle.wb_text_tokens.specs.Spelling.{IsInteger, IsString, IsStringBody, IsRegexBody, Spells, HasValueInRange, IsToken}
use Rattle.wb_base.specs.Identifiers.{is_name_byte}
use Rattle.wb_text_tokens.specs.Words.{punctuation_text}
use Rattle.wb_text_tokens.specs.declared.token_class.TokenClass.TheVariants.{Letter, Number}
use Rattle.wb_text_tokens.specs.declared.punctuation.Punctuation.{Punctuation}
use Rattle.wb_text_tokens.specs.declared.punctuation.Punctuation.TheVariants as p
use Rattle.wb_text_tokens.specs.declared.token.Dialect.{Dialect}
use Rattle.wb_text_tokens.specs.declared.token.Token.{Token}
use Rattle.wb_text_tokens.specs.declared.token.Token.TheVariants as t
use Rattle.wb_text_tokens.proofs.FirstByteLemmas.{class_of, spelled_some, spelled_beginning, name_bytes, begins_letter}
use Rattle.wb_lemmas.proofs.Digits.{pass_digits}
use Rattle.wb_text_tokens.proofs.IntegerLemmas.{integer_longest}
use Rattle.wb_text_tokens.proofs.LongestLemmas.{name_longest}
use Rattle.wb_text_tokens.proofs.MarkLemmas.{mark_longest}
use Rattle.wb_text_tokens.proofs.OnlyLemmas.{stands_at}
use Rattle.wb_text_tokens.proofs.QuotedLemmas.{string_longest, regex_longest}
use Rattle.wb_lemmas.proofs.Booleans.{and_parts}

-- the list is empty, or its first byte doesn't pass the test
abbrev pub StopsAt : (ℕ → Bool) → List ℕ → Type 0
StopsAt test [] = ⊤
StopsAt test (b ∷ rest) = test b ≡ false

-- a mark isn't gone on: a colon by no other colon
abbrev pub EndsMark : Punctuation → List ℕ → Type 0
EndsMark p.Semicolon rest = ⊤
EndsMark p.Colon rest = StopsAt (λ b. eqb b 58) rest
EndsMark p.Becomes rest = ⊤
EndsMark p.OpenBrace rest = ⊤
EndsMark p.CloseBrace rest = ⊤
EndsMark p.Equals rest = ⊤
EndsMark p.Dot rest = ⊤
EndsMark p.Comma rest = ⊤
EndsMark p.OpenParenthesis rest = ⊤
EndsMark p.CloseParenthesis rest = ⊤
EndsMark p.At rest = ⊤

-- a token isn't gone on by what follows
abbrev pub Ends : Token → List ℕ → Type 0
Ends (t.Name text) rest = StopsAt is_name_byte rest
Ends (t.Word word) rest = StopsAt is_name_byte rest
Ends (t.Int value) rest = StopsAt is_ascii_digit rest
Ends (t.Text text) rest = ⊤
Ends (t.Regex body) rest = ⊤
Ends (t.Punctuation mark) rest = EndsMark mark rest

-- a run stops where the rest does
run_stops : (test : ℕ → Bool) (rest : List ℕ) → StopsAt test rest → prefix_len test rest ≡ 0
run_stops test [] s = refl
run_stops test (b ∷ rest) s = ap (λ t. cond t (1 + prefix_len test rest) 0) s

-- a run goes through what passes the test, and no further
run_length : (test : ℕ → Bool) (x rest : List ℕ) → list_all test x ≡ true → StopsAt test rest → prefix_len test (x ++ rest) ≡ length x
run_length test [] rest all s = run_stops test rest s
run_length test (b ∷ x) rest all s =
    let h = and_parts (test b) (list_all test x) all in
    let i = run_length test x rest h.1 s in
    ap (λ t. cond t (1 + prefix_len test (x ++ rest)) 0) h.0 ∙ omega (arith, i)

-- the first byte of a spelling tells the kind in a text
begins : (dialect : Dialect) (token : Token) (x rest : List ℕ) → Spells dialect token x → first_class (get_or (x ++ rest) 0 0) ≡ class_of token
begins dialect token x rest s = ap first_class (get_or_append_left x rest 0 0 (spelled_some dialect token x s)) ∙ spelled_beginning dialect token x s

-- a name or a reserved word
name_stands : (dialect : Dialect) (token : Token) (x rest : List ℕ) → Spells dialect token x → HasValueInRange token
    → class_of token ≡ Letter → StopsAt is_name_byte rest
    → IsLongest dialect (x ++ rest) token (length x)
name_stands dialect token x rest s range kind stops =
    let e = run_length is_name_byte x rest (name_bytes dialect token x s kind) stops in
    let here : take (prefix_len is_name_byte (x ++ rest)) (x ++ rest) ≡ x = ap (λ n. take n (x ++ rest)) e ∙ take-append_seam x rest in
    let first = begins_letter (get_or (x ++ rest) 0 0) (begins dialect token x rest s ∙ kind) in
    subst (λ n. IsLongest dialect (x ++ rest) token n) e (name_longest dialect (x ++ rest) token first range (subst (λ l. Spells dialect token l) (sym here) s))

-- the digits of a number and what follows
digits_stand : (negative : Bool) (y rest : List ℕ) (z : ℤ) → IsNumeral 10 y → z ≡ signed negative (digits_value 10 y)
    → FitsSigned w64 z → StopsAt is_ascii_digit rest
    → FindsNumber negative (y ++ rest) (Some (z, length y))
digits_stand negative y rest z n e fits stops =
    let run = run_length is_ascii_digit y rest (pass_digits y n.1) stops in
    let here : take (digit_count (y ++ rest)) (y ++ rest) ≡ y = ap (λ k. take k (y ++ rest)) run ∙ take-append_seam y rest in
    (e ∙ ap (λ l. signed negative (digits_value 10 l)) (sym here), sym run, omega (arith, run, n.0), fits)

no_minus : (x rest : List ℕ) → IsNumeral 10 x → get_or (x ++ rest) 0 0 ≢ 45
no_minus [] rest n = absurd (omega (arith, n.0))
no_minus (c ∷ x) rest n = λ e. let r = digit_from_value c n.1.0 in omega (arith, r, e)

-- an integer
integer_stands : (dialect : Dialect) (x rest : List ℕ) (z : ℤ) → IsInteger x z → FitsSigned w64 z → StopsAt is_ascii_digit rest
    → first_class (get_or (x ++ rest) 0 0) ≡ Number
    → IsLongest dialect (x ++ rest) (t.Int z) (length x)
integer_stands dialect x rest z (IsInteger.positive n e) fits stops first =
    integer_longest dialect (x ++ rest) false (x ++ rest) (record { joined = refl; plain = λ _. no_minus x rest n }) first z (length x) (length x)
    (digits_stand false x rest z n e fits stops) (omega arith)
integer_stands dialect x rest z (IsInteger.negative {x = w} {y} n e f) fits stops first =
    integer_longest dialect (x ++ rest) true (y ++ rest) (record { joined = ap (λ l. l ++ rest) e; plain = λ h. absurd (cc) }) first z
    (length y) (length x)
    (digits_stand true y rest z n f fits stops) (omega (arith, ap length e))

-- what is between two closing bytes, and what follows
after_body : (q : ℕ) (body rest : List ℕ) → (body ++ q ∷ []) ++ rest ≡ body ++ q ∷ rest
after_body q body rest = append_assoc body (q ∷ []) rest

closing : (q : ℕ) (body rest : List ℕ) → HasByte (body ++ q ∷ rest) (length body) q
closing q body rest = record { within = omega (arith, length-append body (q ∷ rest)); is = get_or_at body q rest 0 (length body) refl }

-- a string
string_stands : (dialect : Dialect) (x rest text : List ℕ) → IsString x text → IsLongest dialect (x ++ rest) (t.Text text) (length x)
string_stands dialect x rest text s =
    let found = string_longest dialect (s.body ++ 34 ∷ rest) text (length s.body)
    (subst (λ l. IsStringBody l text) (sym (take-append_seam s.body (34 ∷ rest))) s.stands, closing 34 s.body rest) in
    let whole : 34 ∷ (s.body ++ 34 ∷ rest) ≡ x ++ rest = sym
    (ap (λ l. l ++ rest) s.quoted ∙ ap (λ l. 34 ∷ l) (after_body 34 s.body rest)) in
    let count : length s.body + 2 ≡ length x = omega (arith, ap length s.quoted, length-append s.body (34 ∷ [])) in
    subst (λ n. IsLongest dialect (x ++ rest) (t.Text text) n) count (subst (λ l. IsLongest dialect l (t.Text text) (length s.body + 2)) whole found)

-- a regular expression
regex_stands : (dialect : Dialect) (x rest body : List ℕ) → x ≡ 47 ∷ (body ++ 47 ∷ []) → body ≢ [] → IsRegexBody body
    → IsLongest dialect (x ++ rest) (t.Regex body) (length x)
regex_stands dialect x rest body e some stands =
    let taken = take-append_seam body (47 ∷ rest) in
    let more : 0 < length body = not_empty body some in
    let found = regex_longest dialect (body ++ 47 ∷ rest) (length body) more
    (subst (λ l. IsRegexBody l) (sym taken) stands, closing 47 body rest) in
    let whole : 47 ∷ (body ++ 47 ∷ rest) ≡ x ++ rest = sym (ap (λ l. l ++ rest) e ∙ ap (λ l. 47 ∷ l) (after_body 47 body rest)) in
    let count : length body + 2 ≡ length x = omega (arith, ap length e, length-append body (47 ∷ [])) in
    subst (λ n. IsLongest dialect (x ++ rest) (t.Regex body) n) count (subst (λ l. IsLongest dialect l (t.Regex body) (length body + 2)) whole
    (subst (λ b. IsLongest dialect (47 ∷ (body ++ 47 ∷ rest)) (t.Regex b) (length body + 2)) taken found))
  where
    not_empty : (l : List ℕ) → l ≢ [] → 0 < length l
    not_empty [] h = absurd (h refl)
    not_empty (b ∷ l) h = omega arith

-- a mark is found
mark_stands : (mark : Punctuation) (rest : List ℕ) → EndsMark mark rest → mark_at (punctuation_text mark ++ rest) ≡ Some mark
mark_stands p.Semicolon rest h = refl
mark_stands p.Colon [] h = refl
mark_stands p.Colon (b ∷ []) h = refl
mark_stands p.Colon (b ∷ c ∷ rest) h = ap (λ t. Some (cond (t && eqb c 61) p.Becomes p.Colon)) h
mark_stands p.Becomes rest h = refl
mark_stands p.OpenBrace rest h = refl
mark_stands p.CloseBrace rest h = refl
mark_stands p.Equals rest h = refl
mark_stands p.Dot rest h = refl
mark_stands p.Comma rest h = refl
mark_stands p.OpenParenthesis rest h = refl
mark_stands p.CloseParenthesis rest h = refl
mark_stands p.At rest h = refl

-- the spelling is the longest token
longest : (dialect : Dialect) (token : Token) (x rest : List ℕ) → IsToken dialect token x → Ends token rest → IsLongest dialect (x ++ rest) token (length x)
longest dialect (t.Name text) x rest s ends = name_stands dialect (t.Name text) x rest s.0 tt refl ends
longest dialect (t.Word word) x rest s ends = name_stands dialect (t.Word word) x rest s.0 tt refl ends
longest dialect (t.Int z) x rest s ends = integer_stands dialect x rest z s.0 s.1 ends (begins dialect (t.Int z) x rest s.0)
longest dialect (t.Text text) x rest s ends = string_stands dialect x rest text s.0
longest dialect (t.Regex body) x rest s ends = regex_stands dialect x rest body s.0.0 s.0.1 s.0.2
longest dialect (t.Punctuation mark) x rest s ends =
    let e : mark_at (x ++ rest) ≡ Some mark = ap (λ l. mark_at (l ++ rest)) s.0 ∙ mark_stands mark rest ends in
    subst (λ n. IsLongest dialect (x ++ rest) (t.Punctuation mark) n) (sym (ap length s.0))
    (mark_longest dialect (x ++ rest) mark (begins dialect (t.Punctuation mark) x rest s.0) e)

-- a spelling is in a text as its token
pub stands : (dialect : Dialect) (before x rest : List ℕ) (token : Token) → IsToken dialect token x → Ends token rest
    → IsTokenAt dialect (before ++ (x ++ rest)) token (length before) (length before + length x)
stands dialect before x rest token s ends =
    stands_at dialect (before ++ (x ++ rest)) (length before) (length x) token (omega (arith, length-append before (x ++ rest)))
    (subst (λ l. IsLongest dialect l token (length x)) (sym (drop-append_seam before (x ++ rest))) (longest dialect token x rest s ends))
