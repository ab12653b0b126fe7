-- Tokens on lines of their own are read back as those tokens.
use Rattle.std.proofs.Common.{◌≡◌, ℕ, ◌+◌, List, [], ◌∷◌, ◌++◌, map, length, get_or, refl, sym, ap, ◌∙◌, subst, arith, length-append}
use Rattle.std.proofs.Common.{append_assoc}
use Rattle.std.proofs.lemmas.List.{get_or_at}
use Rattle.wb_text_predictive.specs.declared.table.Placed.{Placed}
use Rattle.wb_text_predictive.specs.declared.table.Next.TheVariants.{End}
use Rattle.wb_text_predictive.specs.Reading as reading
use Rattle.wb_text_predictive.specs.Reading.{none, next}
use Rattle.wb_text_tokens.specs.NextToken.{IsTokenAt, IsNextIn}
use Rattle.wb_text_tokens.specs.Skipping.{is_blank, IsLayoutPiece, blank, comment, SkipsLayout, stop, skip}
use Rattle.wb_text_tokens.specs.Spelling.{IsToken}
use Rattle.wb_text_tokens.specs.declared.token.Dialect.{Dialect}
use Rattle.wb_text_tokens.specs.declared.token.Token.{Token}
use Rattle.wb_text_tokens.proofs.LineFeedLemmas.{ends_line}
use Rattle.wb_text_tokens.proofs.NoPieceLemmas.{no_piece}
use Rattle.wb_text_tokens.proofs.StandingLemmas.{Ends, stands}

-- the bytes are these tokens with a line feed before each, and one at the end
pub data AreLines (dialect : Dialect) : List ℕ → List Token → Type 0 where
  last : {x : List ℕ} → x ≡ 10 ∷ [] → AreLines dialect x []
  line : {x : List ℕ} {token : Token} {tokens : List Token} (spelling rest : List ℕ) → IsToken dialect token spelling → AreLines dialect rest tokens
      → x ≡ 10 ∷ (spelling ++ rest) → AreLines dialect x (token ∷ tokens)

-- they begin with a line feed
pub first_line : (dialect : Dialect) (x : List ℕ) (tokens : List Token) → AreLines dialect x tokens → (w : List ℕ) × (x ≡ 10 ∷ w)
first_line dialect x tokens (last e) = ([], e)
first_line dialect x tokens (line spelling rest s r e) = (spelling ++ rest, e)

-- from a place on these tokens are read, and then the text ends
pub record AreRead (dialect : Dialect) (text : List ℕ) (from : ℕ) (tokens : List Token) : Type 0 where
  pub lexemes : List (Placed Token)
  pub to : ℕ
  pub at : ℕ
  pub same : map (λ x. x.token) lexemes ≡ tokens
  pub spelled : reading.Spells (IsNextIn dialect text) from lexemes to
  pub ended : IsNextIn dialect text to (End at)

-- no layout begins at the end of a text
end_piece : (dialect : Dialect) (text : List ℕ) (place behind : ℕ) → place ≡ length text → ¬ IsLayoutPiece dialect text place behind
end_piece dialect text place behind e (blank within is after) = omega (arith, within, e)
end_piece dialect text place behind e (comment l c) = omega (arith, c.first.within, e)

-- a line feed is skipped where no layout begins after it
skip_line : (dialect : Dialect) (text before w : List ℕ) (from : ℕ) → text ≡ before ++ 10 ∷ w → from ≡ length before
    → ((behind : ℕ) → ¬ IsLayoutPiece dialect text (from + 1) behind) → SkipsLayout dialect text from (from + 1)
skip_line dialect text before w from e f no_more =
    let here : get_or text from 0 ≡ 10 = ap (λ l. get_or l from 0) e ∙ get_or_at before 10 w 0 from (sym f) in
    skip {behind = from + 1} (blank (omega (arith, f, ap length e, length-append before (10 ∷ w))) (ap is_blank here) refl)
    (stop no_more refl)

-- lines are read, from where layout goes up to them
pub lines_read : (dialect : Dialect) (text before x : List ℕ) (start from : ℕ) (tokens : List Token)
    → text ≡ before ++ x → from ≡ length before
    → ((at : ℕ) → SkipsLayout dialect text from at → SkipsLayout dialect text start at) → AreLines dialect x tokens → AreRead dialect text start tokens
lines_read dialect text before x start from tokens e f more (last g) =
    let whole : text ≡ before ++ 10 ∷ [] = e ∙ ap (λ l. before ++ l) g in
    let end : from + 1 ≡ length text = omega (arith, f, ap length whole, length-append before (10 ∷ [])) in
    record {
      lexemes = [];
      to = start;
      at = from + 1;
      same = refl;
      spelled = none refl;
      ended = record {
        skipped = more (from + 1) (skip_line dialect text before [] from whole f (λ behind. end_piece dialect text (from + 1) behind end));
        last = end;
      };
    }
lines_read dialect text before x start from tokens e f more (line {token = token} {tokens = others} spelling rest s r g) =
    let at = from + 1 in
    let end = at + length spelling in
    let front = before ++ 10 ∷ [] in
    let begins = first_line dialect rest others r in
    let whole : text ≡ before ++ 10 ∷ (spelling ++ rest) = e ∙ ap (λ l. before ++ l) g in
    let apart : text ≡ front ++ (spelling ++ rest) = whole ∙ sym (append_assoc before (10 ∷ []) (spelling ++ rest)) in
    let place : at ≡ length front = omega (arith, f, length-append before (10 ∷ [])) in
    let ends : Ends token rest = subst (λ l. Ends token l) (sym begins.1) (ends_line token begins.0) in
    let here : IsTokenAt dialect text token at end =
    subst (λ l. IsTokenAt dialect l token at end) (sym apart)
    (subst (λ k. IsTokenAt dialect (front ++ (spelling ++ rest)) token k (k + length spelling))
    (sym place) (stands dialect front spelling rest token s ends)) in
    let skipped = more at (skip_line dialect text before (spelling ++ rest) from whole f
    (no_piece dialect text token at end here.within here.spelled)) in
    let i = lines_read dialect text (front ++ spelling) rest end end others (apart ∙ sym (append_assoc front spelling rest))
    (omega (arith, place, length-append front spelling)) (λ k s. s) r in
    record {
      lexemes = record { token = token; at = at; end = end } ∷ i.lexemes;
      to = i.to;
      at = i.at;
      same = ap (λ l. token ∷ l) i.same;
      spelled = next (record { skipped = skipped; stands = here }) i.spelled;
      ended = i.ended;
    }
