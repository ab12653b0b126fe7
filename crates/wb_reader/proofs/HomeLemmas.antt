-- A first error is one by the tokens of each format that the tokens before it may have.
use Rattle.std.proofs.Common.{◌≡◌, ◌≤◌, ◌⊎◌, ℕ, List, [], ◌∷◌, ◌++◌, inl, inr, ⊎_elim, sym, ap, ◌∙◌, subst, length, pos, arith, true}
use Rattle.wb_text_predictive.specs.declared.table.Next.{Next}
use Rattle.wb_text_predictive.specs.declared.table.Next.TheVariants.{Found, End, NoToken}
use Rattle.wb_text_predictive.specs.Reading as reading
use Rattle.wb_text_predictive.specs.Reading.{Spells, place_of}
use Rattle.wb_text_tokens.specs.declared.token.Dialect.{Dialect}
use Rattle.wb_text_tokens.specs.declared.token.Token.{Token}
use Rattle.wb_text_tokens.specs.declared.token.Token.TheVariants as t
use Rattle.wb_text_tokens.specs.NextToken.{IsNextIn, GoesOver}
use Rattle.wb_text_tokens.specs.Skipping.{has_comments}
use Rattle.wb_text_tokens.proofs.AgreementLemmas.{spells_forward}
use Rattle.wb_text_tokens.proofs.OverLemmas.{same_tokens}
use Rattle.wb_text_tokens.proofs.PlacedLaws.{layout_forward}
use Rattle.wb_syntax.specs.declared.written.WrittenSpec.{WrittenSpec}
use Rattle.wb_syntax.specs.Tokens.{Lexeme}
use Rattle.wb_syntax.specs.SpecText.{IsWrittenText, dialect_of}
use Rattle.wb_reader.specs.Refusals.{CanBegin, CannotFollow, IsFaultIn, IsSyntaxFault}
use Rattle.wb_reader.proofs.DialectLemmas.{found_alike, end_moved, none_moved, tokens_moved}
use Rattle.wb_reader.proofs.HeadLemmas.{HasHead, IsShortFront, short_clear, no_closed_head, front_cases, head_moved, head_own, spec_head}
use Rattle.wb_reader.proofs.HeadLemmas.{spec_format, own_comments, format_comments}

-- what is next can't follow fewer than three tokens in one dialect, and so it is in each other
record IsMovedNext (bytes : List ℕ) (dialect : Dialect) (from at : ℕ) (front : List Lexeme) : Type 0 where
  next : Next Token
  stands : IsNextIn dialect bytes from next
  fault : CannotFollow front next
  place : place_of next ≡ at

next_moved : (bytes : List ℕ) (d e : Dialect) → has_comments d ≡ has_comments e → (from at : ℕ) (front : List Lexeme) → IsShortFront front
    → (next : Next Token) → IsNextIn d bytes from next → CannotFollow front next → place_of next ≡ at → IsMovedNext bytes e from at front
next_moved bytes d e same from at front short (Found x) h fault place =
    let o = found_alike d e same bytes from x h in
    let y : Lexeme = record { token = o.0; at = x.at; end = x.end } in
    let follows : ¬ CanBegin (front ++ y ∷ []) = ⊎_elim
    (λ is. subst (λ token. ¬ CanBegin (front ++ record { token = token; at = x.at; end = x.end } ∷ [])) is fault)
    (λ closed. no_closed_head front y short closed.1) o.2 in
    record { next = Found y; stands = o.1; fault = follows; place = place }
next_moved bytes d e same from at front short (End k) h fault place =
    record { next = End k; stands = end_moved d e same bytes from k h; fault = fault; place = place }
next_moved bytes d e same from at front short (NoToken k) h fault place =
    record { next = NoToken k; stands = none_moved d e same bytes from k h; fault = fault; place = place }

-- after fewer than three tokens an error is one in each dialect with comments
short_moved : (bytes : List ℕ) (at : ℕ) (d e : Dialect) → has_comments d ≡ has_comments e → (f : IsFaultIn d bytes at)
    → IsShortFront f.front
    → IsFaultIn e bytes at
short_moved bytes at d e same f short =
    let n = next_moved bytes d e same f.from at f.front short f.next f.stands f.fault f.place in
    record {
      front = f.front;
      from = f.from;
      next = n.next;
      spelled = tokens_moved d e same bytes 0 f.from f.front (short_clear f.front short f.before) f.spelled;
      before = f.before;
      stands = n.stands;
      fault = n.fault;
      place = n.place;
    }

-- tokens with which a specification begins, by the tokens of its format, and what is next after them
pub record IsAtHome (bytes : List ℕ) (at : ℕ) : Type 0 where
  pub front : List Lexeme
  pub from : ℕ
  pub next : Next Token
  pub before : CanBegin front
  pub spelled : Spells (IsNextIn (dialect_of before.spec.format) bytes) 0 front from
  pub stands : IsNextIn (dialect_of before.spec.format) bytes from next
  pub place : place_of next ≡ at

-- so it is before an error
pub at_home : (bytes : List ℕ) (at : ℕ) → IsSyntaxFault bytes at → IsAtHome bytes at
at_home bytes at f = ⊎_elim short long (front_cases f.fault.front f.fault.before)
  where
    short : IsShortFront f.fault.front → IsAtHome bytes at
    short s =
        let same = own_comments bytes f.dialect f.own ∙ sym (format_comments f.fault.before.spec.format) in
        let n = next_moved bytes f.dialect (dialect_of f.fault.before.spec.format) same f.fault.from at f.fault.front s f.fault.next
        f.fault.stands f.fault.fault f.fault.place in
        record {
          front = f.fault.front;
          from = f.fault.from;
          next = n.next;
          before = f.fault.before;
          spelled = tokens_moved f.dialect (dialect_of f.fault.before.spec.format) same bytes 0 f.fault.from f.fault.front
              (short_clear f.fault.front s f.fault.before) f.fault.spelled;
          stands = n.stands;
          place = n.place;
        }

    long : HasHead f.fault.before.spec.format f.fault.front → IsAtHome bytes at
    long h =
        let known = spec_format (f.fault.front ++ f.fault.before.rest) f.fault.before.spec f.fault.before.specification in
        let same = head_own bytes f.dialect f.fault.before.spec.format f.fault.front f.fault.from f.own known f.fault.spelled h in
        record {
          front = f.fault.front;
          from = f.fault.from;
          next = f.fault.next;
          before = f.fault.before;
          spelled = subst (λ d. Spells (IsNextIn d bytes) 0 f.fault.front f.fault.from) same f.fault.spelled;
          stands = subst (λ d. IsNextIn d bytes f.fault.from f.fault.next) same f.fault.stands;
          place = f.fault.place;
        }

-- layout goes up to what is next, which is at the place
pub next_place : (dialect : Dialect) (text : List ℕ) (from at : ℕ) (next : Next Token) → IsNextIn dialect text from next
    → place_of next ≡ at → from ≤ at
next_place dialect text from at (Found x) h e = let le = layout_forward dialect text from x.at h.skipped in omega (arith, le, e)
next_place dialect text from at (End k) h e = let le = layout_forward dialect text from k h.skipped in omega (arith, le, e)
next_place dialect text from at (NoToken k) h e = let le = layout_forward dialect text from k h.skipped in omega (arith, le, e)

-- the third token ends where the tokens do or before
head_within : (text : List ℕ) (dialect : Dialect) (tokens : List Lexeme) (to : ℕ) → Spells (IsNextIn dialect text) 0 tokens to
    → {n : ℕ} (h : HasHead n tokens) → h.third.end ≤ to
head_within text dialect tokens to r h =
    by_tokens h.first h.second h.third h.rest (subst (λ l. Spells (IsNextIn dialect text) 0 l to) h.whole r)
  where
    by_tokens : (a b c : Lexeme) (v : List Lexeme) → Spells (IsNextIn dialect text) 0 (a ∷ b ∷ c ∷ v) to → c.end ≤ to
    by_tokens a b c v (reading.next i (reading.next j (reading.next k s))) = spells_forward dialect text c.end to v s

-- an error in the dialect of a specification's text with the same beginning, or a token of that goes over the end of the beginning
pub home_or_over : (p u v : List ℕ) (at : ℕ) (f : IsSyntaxFault (p ++ u) at) → at ≤ length p → (written : WrittenSpec)
    → IsWrittenText (p ++ v) written
    → IsFaultIn (dialect_of written.format) (p ++ u) at ⊎ GoesOver (dialect_of written.format) (p ++ v) at (length p)
home_or_over p u v at f le written r = ⊎_elim short long (front_cases f.fault.front f.fault.before)
  where
    comments : has_comments f.dialect ≡ true
    comments = own_comments (p ++ u) f.dialect f.own

    short : IsShortFront f.fault.front
        → IsFaultIn (dialect_of written.format) (p ++ u) at ⊎ GoesOver (dialect_of written.format) (p ++ v) at (length p)
    short s =
        inl (short_moved (p ++ u) at f.dialect (dialect_of written.format) (comments ∙ sym (format_comments written.format)) f.fault s)

    long : HasHead f.fault.before.spec.format f.fault.front
        → IsFaultIn (dialect_of written.format) (p ++ u) at ⊎ GoesOver (dialect_of written.format) (p ++ v) at (length p)
    long h =
        let known = spec_format (f.fault.front ++ f.fault.before.rest) f.fault.before.spec f.fault.before.specification in
        let own = head_own (p ++ u) f.dialect f.fault.before.spec.format f.fault.front f.fault.from f.own known f.fault.spelled h in
        let head = head_moved (p ++ u) f.dialect (dialect_of written.format) comments
        (format_comments written.format) f.fault.before.spec.format f.fault.front f.fault.from
        f.fault.spelled h in
        let low = next_place f.dialect (p ++ u) f.fault.from at f.fault.next f.fault.stands f.fault.place in
        let inside = head_within (p ++ u) f.dialect f.fault.front f.fault.from f.fault.spelled h in
        ⊎_elim
        (λ on.
        let o = spec_head r.tokens written r.specification in
        let e = sym o.whole ∙ on.whole in
        let second : o.second ≡ h.second = cc in
        let number : t.Int (pos written.format) ≡ t.Int (pos f.fault.before.spec.format) =
        sym o.is_number ∙ (ap (λ (x : Lexeme). x.token) second ∙ h.is_number) in
        let same : written.format ≡ f.fault.before.spec.format = cc in
        inl (subst (λ d. IsFaultIn d (p ++ u) at) (own ∙ ap dialect_of (sym same)) f.fault))
        inr
        (same_tokens (dialect_of written.format) p u v 0 h.third.end r.to r.at at (h.first ∷ h.second ∷ h.third ∷ []) r.tokens head
        (omega (arith, inside, low, le))
        (omega (arith, inside, low)) r.spelled r.ended)
