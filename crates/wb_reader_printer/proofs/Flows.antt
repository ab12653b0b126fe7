-- Printed tokens with blanks before them are read as those tokens.
use Rattle.std.proofs.Common.{◌≡◌, ◌+◌, ℕ, List, [], ◌∷◌, ◌++◌, true, ◌&&◌, length, get_or, refl, sym, ap, ◌∙◌, subst, arith}
use Rattle.std.proofs.Common.{length-append, append_assoc}
use Rattle.std.specs.List.{list_all}
use Rattle.std.proofs.lemmas.List.{get_or_at, append-nil}
use Rattle.std.proofs.lemmas.List.Folds.{list_all-append}
use Rattle.wb_text_predictive.specs.Reading.{Spells, none, next as following}
use Rattle.wb_text_predictive.specs.declared.table.Next.TheVariants.{End}
use Rattle.wb_text_tokens.specs.declared.token.Dialect.{Dialect}
use Rattle.wb_text_tokens.specs.declared.token.Token.{Token}
use Rattle.wb_text_tokens.specs.NextToken.{IsTokenAt}
use Rattle.wb_text_tokens.specs.NextToken.{IsNextIn}
use Rattle.wb_text_tokens.specs.Skipping.{is_blank, IsLayoutPiece, blank, comment, SkipsLayout, stop, skip}
use Rattle.wb_text_tokens.specs.Spelling.{IsToken}
use Rattle.wb_text_tokens.proofs.StandingLemmas.{Ends, stands}
use Rattle.wb_syntax.specs.Tokens.{Lexeme}
use Rattle.wb_syntax.specs.Canonical.{printed}
use Rattle.wb_reader_printer.proofs.GrammarTokens.{tokens}
use Rattle.wb_reader_printer.proofs.Beginnings.{no_piece}
use Rattle.wb_lemmas.proofs.Booleans.{and_parts}

-- blanks alone
abbrev pub AreBlanks : List ℕ → Type 0
AreBlanks gap = list_all is_blank gap ≡ true

-- the bytes are these tokens of the dialect as they are printed, with blanks before each and at the end, and none is gone on by what
-- follows it
pub data Flows (dialect : Dialect) : List ℕ → List Token → Type 0 where
  at_end : {x : List ℕ} → AreBlanks x → Flows dialect x []
  flow : (gap rest : List ℕ) {x : List ℕ} {b : Token} {ts : List Token} → AreBlanks gap → IsToken dialect b (printed b) → Ends b rest
      → Flows dialect rest ts
      → x ≡ gap ++ (printed b ++ rest) → Flows dialect x (b ∷ ts)

-- blanks, and further blanks
pub both_blanks : (a b : List ℕ) → AreBlanks a → AreBlanks b → AreBlanks (a ++ b)
both_blanks a b h k = list_all-append is_blank a b ∙ (ap (λ t. t && list_all is_blank b) h ∙ k)

-- further blanks at the beginning
pub more_blanks : (dialect : Dialect) (front x : List ℕ) (ts : List Token) → AreBlanks front → Flows dialect x ts
    → Flows dialect (front ++ x) ts
more_blanks dialect front x ts h (at_end b) = at_end (both_blanks front x h b)
more_blanks dialect front x ts h (flow gap rest {b = b} g s ends r e) =
    flow (front ++ gap) rest (both_blanks front gap h g) s ends r
    (ap (λ l. front ++ l) e ∙ sym (append_assoc front gap (printed b ++ rest)))

-- blanks are skipped where no layout comes after them
skips : (dialect : Dialect) (text before gap rest : List ℕ) (from at : ℕ) → text ≡ before ++ (gap ++ rest) → from ≡ length before
    → at ≡ from + length gap → AreBlanks gap
    → ((behind : ℕ) → ¬ IsLayoutPiece dialect text at behind) → SkipsLayout dialect text from at
skips dialect text before [] rest from at e f g h none_there =
    let same : from ≡ at = omega (arith, g) in
    stop (λ behind p. none_there behind (subst (λ k. IsLayoutPiece dialect text k behind) same p)) same
skips dialect text before (b ∷ gap) rest from at e f g h none_there =
    let both = and_parts (is_blank b) (list_all is_blank gap) h in
    let here : get_or text from 0 ≡ b = ap (λ l. get_or l from 0) e ∙ get_or_at before b (gap ++ rest) 0 from (sym f) in
    skip {behind = from + 1} (blank (omega (arith, f, ap length e, length-append before (b ∷ (gap ++ rest))))
    (ap is_blank here ∙ both.0) refl)
    (skips dialect text (before ++ b ∷ []) gap rest (from + 1) at (e ∙ sym (append_assoc before (b ∷ []) (gap ++ rest)))
    (omega (arith, f, length-append before (b ∷ []))) (omega (arith, g)) both.1 none_there)

-- at the end of a text is no layout
end_piece : (dialect : Dialect) (text : List ℕ) (behind : ℕ) → ¬ IsLayoutPiece dialect text (length text) behind
end_piece dialect text behind (blank within is after) = omega (arith, within)
end_piece dialect text behind (comment layout k) = omega (arith, k.first.within)

-- from a place on these tokens are read, and then the text ends
pub record AreRead (dialect : Dialect) (text : List ℕ) (from : ℕ) (ts : List Token) : Type 0 where
  pub lexemes : List Lexeme
  pub to : ℕ
  pub at : ℕ
  pub same : tokens lexemes ≡ ts
  pub spelled : Spells (IsNextIn dialect text) from lexemes to
  pub ended : IsNextIn dialect text to (End at)

-- what flows is read
pub flows_read : (dialect : Dialect) (text before x : List ℕ) (from : ℕ) (ts : List Token) → text ≡ before ++ x → from ≡ length before
    → Flows dialect x ts → AreRead dialect text from ts
flows_read dialect text before x from ts e f (at_end b) = record {
  lexemes = [];
  to = from;
  at = length text;
  same = refl;
  spelled = none refl;
  ended = record {
    skipped =
        skips dialect text before x [] from (length text) (e ∙ ap (λ l. before ++ l) (sym (append-nil x))) f
        (omega (arith, f, ap length e, length-append before x)) b (end_piece dialect text);
    last = refl;
  };
}
flows_read dialect text before x from ts e f (flow gap rest {b = b} {ts = more} g s ends r w) =
    let front = before ++ gap in
    let at = from + length gap in
    let behind = at + length (printed b) in
    let whole : text ≡ front ++ (printed b ++ rest) = e ∙ (ap (λ l. before ++ l) w ∙ sym (append_assoc before gap (printed b ++ rest))) in
    let place : at ≡ length front = omega (arith, f, length-append before gap) in
    let here : IsTokenAt dialect text b at behind
    = subst (λ l. IsTokenAt dialect l b at behind) (sym whole)
    (subst (λ k. IsTokenAt dialect (front ++ (printed b ++ rest)) b k (k + length (printed b))) (sym place)
    (stands dialect front (printed b) rest b s ends)) in
    let skipped =
    skips dialect text before gap (printed b ++ rest) from at (e ∙ ap (λ l. before ++ l) w) f refl g
    (no_piece dialect text front rest at b (omega (arith, here.ordered)) s.0 whole place) in
    let i = flows_read dialect text (front ++ printed b) rest behind more (whole ∙ sym (append_assoc front (printed b) rest))
    (omega (arith, place, length-append front (printed b))) r in
    record {
      lexemes = record { token = b; at = at; end = behind } ∷ i.lexemes;
      to = i.to;
      at = i.at;
      same = ap (λ l. b ∷ l) i.same;
      spelled = following (record { skipped = skipped; stands = here }) i.spelled;
      ended = i.ended;
    }
