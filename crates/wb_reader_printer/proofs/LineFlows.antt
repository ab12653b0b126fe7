-- The lines of a canonical text are read as their tokens.
use Rattle.std.proofs.Common.{◌≡◌, ℕ, List, [], ◌∷◌, ◌++◌, Bool, true, false, ◌||◌, cond, eqb, refl, sym, ap, ◌∙◌, subst, append_assoc}
use Rattle.std.specs.Char.{is_ascii_digit}
use Rattle.wb_text_tokens.specs.declared.punctuation.Punctuation.TheVariants as p
use Rattle.wb_text_tokens.specs.declared.token.Dialect.{Dialect}
use Rattle.wb_text_tokens.specs.declared.token.Token.{Token}
use Rattle.wb_text_tokens.specs.declared.token.Token.TheVariants as t
use Rattle.wb_base.specs.Identifiers.{is_name_byte}
use Rattle.wb_text_tokens.proofs.StandingLemmas.{Ends, StopsAt}
use Rattle.wb_syntax.specs.Canonical.{printed, follows_closely, leads_closely, line_of}
use Rattle.wb_reader_printer.proofs.CanonicalLemmas.{gap, behind, behind_line, text_of}
use Rattle.wb_reader_printer.proofs.PrintedTokens.{ArePrinted, printed_front, printed_back}
use Rattle.wb_reader_printer.proofs.Flows.{AreBlanks, Flows, at_end, flow, both_blanks, more_blanks}

-- a mark that comes directly after another token goes on none
closely_stops : (test : ℕ → Bool) (b : Token) (rest : List ℕ) → test 59 ≡ false → test 44 ≡ false → test 46 ≡ false → test 40 ≡ false
    → test 41 ≡ false
    → follows_closely b ≡ true → StopsAt test (printed b ++ rest)
closely_stops test (t.Name name) rest h i j k l c = absurd (cc)
closely_stops test (t.Word word) rest h i j k l c = absurd (cc)
closely_stops test (t.Int z) rest h i j k l c = absurd (cc)
closely_stops test (t.Text text) rest h i j k l c = absurd (cc)
closely_stops test (t.Regex body) rest h i j k l c = absurd (cc)
closely_stops test (t.Punctuation p.Semicolon) rest h i j k l c = h
closely_stops test (t.Punctuation p.Colon) rest h i j k l c = absurd (cc)
closely_stops test (t.Punctuation p.Becomes) rest h i j k l c = absurd (cc)
closely_stops test (t.Punctuation p.OpenBrace) rest h i j k l c = absurd (cc)
closely_stops test (t.Punctuation p.CloseBrace) rest h i j k l c = absurd (cc)
closely_stops test (t.Punctuation p.Equals) rest h i j k l c = absurd (cc)
closely_stops test (t.Punctuation p.Dot) rest h i j k l c = j
closely_stops test (t.Punctuation p.Comma) rest h i j k l c = i
closely_stops test (t.Punctuation p.OpenParenthesis) rest h i j k l c = k
closely_stops test (t.Punctuation p.CloseParenthesis) rest h i j k l c = l
closely_stops test (t.Punctuation p.At) rest h i j k l c = absurd (cc)

-- a token isn't gone on by one that comes directly after it
ends_closely : (a b : Token) (rest : List ℕ) → (leads_closely a || follows_closely b) ≡ true → Ends a (printed b ++ rest)
ends_closely (t.Name name) b rest c = closely_stops is_name_byte b rest refl refl refl refl refl c
ends_closely (t.Word word) b rest c = closely_stops is_name_byte b rest refl refl refl refl refl c
ends_closely (t.Int z) b rest c = closely_stops is_ascii_digit b rest refl refl refl refl refl c
ends_closely (t.Text text) b rest c = tt
ends_closely (t.Regex body) b rest c = tt
ends_closely (t.Punctuation p.Semicolon) b rest c = tt
ends_closely (t.Punctuation p.Colon) b rest c = closely_stops (λ d. eqb d 58) b rest refl refl refl refl refl c
ends_closely (t.Punctuation p.Becomes) b rest c = tt
ends_closely (t.Punctuation p.OpenBrace) b rest c = tt
ends_closely (t.Punctuation p.CloseBrace) b rest c = tt
ends_closely (t.Punctuation p.Equals) b rest c = tt
ends_closely (t.Punctuation p.Dot) b rest c = tt
ends_closely (t.Punctuation p.Comma) b rest c = tt
ends_closely (t.Punctuation p.OpenParenthesis) b rest c = tt
ends_closely (t.Punctuation p.CloseParenthesis) b rest c = tt
ends_closely (t.Punctuation p.At) b rest c = tt

-- a token isn't gone on by a space or the end of the line
ends_before : (a : Token) (c : ℕ) (rest : List ℕ) → is_name_byte c ≡ false → is_ascii_digit c ≡ false → eqb c 58 ≡ false → Ends a (c ∷ rest)
ends_before (t.Name name) c rest h i j = h
ends_before (t.Word word) c rest h i j = h
ends_before (t.Int z) c rest h i j = i
ends_before (t.Text text) c rest h i j = tt
ends_before (t.Regex body) c rest h i j = tt
ends_before (t.Punctuation p.Semicolon) c rest h i j = tt
ends_before (t.Punctuation p.Colon) c rest h i j = j
ends_before (t.Punctuation p.Becomes) c rest h i j = tt
ends_before (t.Punctuation p.OpenBrace) c rest h i j = tt
ends_before (t.Punctuation p.CloseBrace) c rest h i j = tt
ends_before (t.Punctuation p.Equals) c rest h i j = tt
ends_before (t.Punctuation p.Dot) c rest h i j = tt
ends_before (t.Punctuation p.Comma) c rest h i j = tt
ends_before (t.Punctuation p.OpenParenthesis) c rest h i j = tt
ends_before (t.Punctuation p.CloseParenthesis) c rest h i j = tt
ends_before (t.Punctuation p.At) c rest h i j = tt

-- a token isn't gone on by the next one
ends_gap : (a b : Token) (rest : List ℕ) → Ends a (gap a b ++ (printed b ++ rest))
ends_gap a b rest = at (leads_closely a || follows_closely b) refl
  where
    at : (t : Bool) → (leads_closely a || follows_closely b) ≡ t → Ends a (cond t [] (32 ∷ []) ++ (printed b ++ rest))
    at true c = ends_closely a b rest c
    at false c = ends_before a 32 (printed b ++ rest) refl refl refl

-- between two tokens stand blanks alone
gap_blanks : (a b : Token) → AreBlanks (gap a b)
gap_blanks a b = at (leads_closely a || follows_closely b)
  where
    at : (t : Bool) → AreBlanks (cond t [] (32 ∷ []))
    at true = refl
    at false = refl

-- the text after a token, by its first token
behind_parts : (a b : Token) (ts : List Token) (rest : List ℕ) → behind a (b ∷ ts) ++ rest ≡ gap a b ++ (printed b ++ (behind b ts ++ rest))
behind_parts a b ts rest = append_assoc (gap a b ++ printed b) (behind b ts) rest ∙ append_assoc (gap a b) (printed b) (behind b ts ++ rest)

-- a token isn't gone on by what comes after it on its line, and the end of the line
ends_behind : (a : Token) (ts : List Token) (rest : List ℕ) → Ends a (behind a ts ++ 10 ∷ rest)
ends_behind a [] rest = ends_before a 10 rest refl refl refl
ends_behind a (b ∷ ts) rest = subst (Ends a) (sym (behind_parts a b ts (10 ∷ rest))) (ends_gap a b (behind b ts ++ 10 ∷ rest))

-- the tokens after one on its line
behind_flows : (dialect : Dialect) (a : Token) (ts more : List Token) (rest : List ℕ) → ArePrinted dialect ts
    → Flows dialect (10 ∷ rest) more → Flows dialect (behind a ts ++ 10 ∷ rest) (ts ++ more)
behind_flows dialect a [] more rest h r = r
behind_flows dialect a (b ∷ ts) more rest h r =
    flow (gap a b) (behind b ts ++ 10 ∷ rest) (gap_blanks a b) h.0 (ends_behind b ts rest) (behind_flows dialect b ts more rest h.1 r)
    (behind_parts a b ts (10 ∷ rest))

-- a line
line_flows : (dialect : Dialect) (front : List ℕ) (ts more : List Token) (rest : List ℕ) → AreBlanks front → ArePrinted dialect ts
    → Flows dialect (10 ∷ rest) more → Flows dialect (front ++ (line_of ts ++ 10 ∷ rest)) (ts ++ more)
line_flows dialect front [] more rest g h r = more_blanks dialect front (10 ∷ rest) more g r
line_flows dialect front (a ∷ ts) more rest g h r =
    flow front (behind a ts ++ 10 ∷ rest) g h.0 (ends_behind a ts rest) (behind_flows dialect a ts more rest h.1 r)
    (ap (λ l. front ++ l) (ap (λ l. l ++ 10 ∷ rest) (behind_line a ts) ∙ append_assoc (printed a) (behind a ts) (10 ∷ rest)))

-- the tokens of lines
abbrev pub joined : List (List Token) → List Token
joined [] = []
joined (ts ∷ lines) = ts ++ joined lines

-- lines
pub lines_flow : (dialect : Dialect) (front : List ℕ) (lines : List (List Token)) → AreBlanks front → ArePrinted dialect (joined lines)
    → Flows dialect (front ++ text_of lines) (joined lines)
lines_flow dialect front [] g h = at_end (both_blanks front [] g refl)
lines_flow dialect front (ts ∷ lines) g h =
    line_flows dialect front ts (joined lines) (text_of lines) g (printed_front dialect ts (joined lines) h)
    (lines_flow dialect (10 ∷ []) lines refl (printed_back dialect ts (joined lines) h))
