-- With what is at the place of a first error, no specification's text begins.
use Rattle.std.proofs.Common.{◌≡◌, ℕ, ◌<◌, ◌≤◌, List, [], ◌∷◌, ◌++◌, length, take, drop, sym, ap, ◌∙◌, subst, arith, length-take}
use Rattle.std.proofs.Common.{length-append, append_assoc, get_or, refl, inl, inr, ⊎_elim, ◌+◌}
use Rattle.std.proofs.lemmas.Bool.{cases_lt}
use Rattle.std.proofs.lemmas.List.{take-append-drop, get_or_at}
use Rattle.wb_text_predictive.specs.declared.table.Next.{Next}
use Rattle.wb_text_predictive.specs.declared.table.Next.TheVariants.{Found, End, NoToken}
use Rattle.wb_text_predictive.specs.Reading.{Spells, none, next, place_of}
use Rattle.wb_text_tokens.specs.NextToken.{IsTokenAt, NextToken, IsNoToken, IsNextIn, GoesOver}
use Rattle.wb_text_tokens.specs.Skipping.{IsLayoutPiece, blank, comment, SkipsLayout, stop, skip}
use Rattle.wb_text_tokens.specs.declared.token.Dialect.{Dialect}
use Rattle.wb_text_tokens.specs.declared.token.Token.{Token}
use Rattle.wb_text_tokens.proofs.AgreementLemmas.{EndsLine, kept_piece, kept_token, stops, passed}
use Rattle.wb_text_tokens.proofs.CallerLemmas.{token_only}
use Rattle.wb_text_tokens.proofs.LineFeedLemmas.{crosses_none}
use Rattle.wb_text_tokens.proofs.OverLemmas.{same_or_over, no_end, GoesOn, begun_before, same_tokens, none_over}
use Rattle.wb_text_tokens.proofs.PlacedLaws.{layout_forward}
use Rattle.wb_syntax.specs.declared.written.WrittenSpec.{WrittenSpec}
use Rattle.wb_syntax.specs.Tokens.{Lexeme}
use Rattle.wb_syntax.specs.ItemGrammar.{IsSpecification}
use Rattle.wb_syntax.specs.SpecText.{IsWrittenText, dialect_of}
use Rattle.wb_reader.specs.Refusals.{CanBegin, CannotFollow, IsFaultIn, IsSyntaxFault}
use Rattle.wb_reader.specs.FirstFault.{SomethingGoesOver, IsLineEnd, IsFaultOfBytes, FaultsAreFirst}
use Rattle.wb_reader.proofs.DialectLemmas.{at_alike}
use Rattle.wb_reader.proofs.FaultLemmas.{begins_before}
use Rattle.wb_reader.proofs.HomeLemmas.{home_or_over}
use Rattle.wb_reader.proofs.OneText.{no_fault}

-- the dialect of the specification's format
abbrev own : WrittenSpec → Dialect
own written = dialect_of written.format

-- a specification with these tokens and this one after them
begins_with : (front rest tokens : List Lexeme) (x y : Lexeme) (written : WrittenSpec)
    → IsSpecification tokens written → tokens ≡ front ++ y ∷ rest
    → x ≡ y → CanBegin (front ++ x ∷ [])
begins_with front rest tokens x y written s e same = record {
  rest = rest;
  spec = written;
  specification = subst (λ l. IsSpecification l written)
      (e ∙ (ap (λ z. front ++ z ∷ rest) (sym same) ∙ sym (append_assoc front (x ∷ []) rest))) s;
}

-- where the tokens go on, they go on with this token, or one goes over the end of the beginning
with_token : (p u v : List ℕ) (front : List Lexeme) (from : ℕ) (x : Lexeme) (written : WrittenSpec) (t : IsWrittenText (p ++ v) written)
    → NextToken (own written) (p ++ u) from x.token x.at x.end → x.end ≤ length p → ¬ CanBegin (front ++ x ∷ [])
    → GoesOn (own written) (p ++ v) from t.to front t.tokens → GoesOver (own written) (p ++ v) x.at (length p)
with_token p u v front from x written t h le fault on = by_rest on.rest on.whole on.spelled
  where
    by_rest : (rest : List Lexeme) → t.tokens ≡ front ++ rest → Spells (IsNextIn (own written) (p ++ v)) from rest t.to
        → GoesOver (own written) (p ++ v) x.at (length p)
    by_rest rest e (none i) =
        absurd (no_end (own written) p u v from x t.at h le (subst (λ k. IsNextIn (own written) (p ++ v) k (End t.at)) (sym i) t.ended))
    by_rest rest e (next {x = y} {xs = others} k s) = ⊎_elim
        (λ same. absurd (fault (begins_with front others t.tokens x y written t.specification e same)))
        (λ over. over)
        (same_or_over (own written) p u v from x y h le k)

-- the same of a text that agrees up to the end of the token
over_end : (p u v : List ℕ) (at : ℕ) (written : WrittenSpec) (f : IsFaultIn (own written) (p ++ u) at) (x : Lexeme)
    → IsWrittenText (p ++ v) written
    → IsNextIn (own written) (p ++ u) f.from (Found x) → x.end ≤ length p → x.at ≡ at → ¬ CanBegin (f.front ++ x ∷ [])
    → GoesOver (own written) (p ++ v) at (length p)
over_end p u v at written f x t h le place fault =
    let low = layout_forward (own written) (p ++ u) f.from x.at h.skipped in
    let lt = h.stands.ordered in
    ⊎_elim
    (λ on. begun_before (own written) (p ++ v) x.at at (length p) (omega (arith, place))
    (with_token p u v f.front f.from x written t h le fault on))
    (λ over. over)
    (same_tokens (own written) p u v 0 f.from t.to t.at at f.front t.tokens f.spelled (omega arith)
    (omega (arith, low, place)) t.spelled t.ended)

-- with a token at the place, only a text in which a token goes over its end begins
token_over : (p u v : List ℕ) (at : ℕ) (written : WrittenSpec) (f : IsFaultIn (own written) (p ++ u) at) (token : Token)
    → IsTokenAt (own written) (p ++ u) token at (length p) → IsWrittenText (p ++ v) written → GoesOver (own written) (p ++ v) at (length p)
token_over p u v at written f token here t = by_next f.next f.stands f.fault f.place
  where
    by_next : (what : Next Token) → IsNextIn (own written) (p ++ u) f.from what → CannotFollow f.front what → place_of what ≡ at
        → GoesOver (own written) (p ++ v) at (length p)
    by_next (Found x) h fault place =
        let same = token_only (own written) (p ++ u) x.token token at x.end (length p)
        (subst (λ k. IsTokenAt (own written) (p ++ u) x.token k x.end) place h.stands) here in
        over_end p u v at written f x t h (omega (arith, same.1)) place fault
    by_next (End k) h fault place = absurd (omega (arith, place, h.last, here.ordered, here.within))
    by_next (NoToken k) h fault place =
        absurd (h.none_stands token (length p) (subst (λ i. IsTokenAt (own written) (p ++ u) token i (length p)) (sym place) here))

-- a token ends before the end of a line that comes after it
in_line : (dialect : Dialect) (text : List ℕ) (x : Lexeme) (at end : ℕ) → IsTokenAt dialect text x.token x.at x.end
    → x.at ≡ at → at < end → EndsLine text end → x.end ≤ end
in_line dialect text x at end h place lt line = ⊎_elim
    (λ over. absurd (crosses_none dialect text x.token x.at x.end end h.spelled h.within (omega (arith, place)) over
    (line (omega (arith, over, h.within)))))
    (λ le. le) (cases_lt end x.end)

-- where no token is at a place of the first text, a token or a comment of the second goes over the end of their common beginning
over_here : (dialect : Dialect) (p u v : List ℕ) (from at end : ℕ) → SkipsLayout dialect (p ++ u) from at → at < length p
    → EndsLine (p ++ u) (length p)
    → SkipsLayout dialect (p ++ v) at end → (end ≡ at → SomethingGoesOver dialect (p ++ v) at (length p))
    → SomethingGoesOver dialect (p ++ v) at (length p)
over_here dialect p u v from at end skipped lt line (stop n e) same = same (sym e)
over_here dialect p u v from at end skipped lt line (skip {behind = behind} piece s) same =
    by_piece behind piece (λ inside. stops dialect (p ++ u) from at skipped behind
    (kept_piece dialect p v u at behind piece inside (λ e. subst (λ k. EndsLine (p ++ u) k) (sym e) line)))
  where
    by_piece : (behind : ℕ) → IsLayoutPiece dialect (p ++ v) at behind → (behind ≤ length p → ⊥)
        → SomethingGoesOver dialect (p ++ v) at (length p)
    by_piece behind (blank w b e) not_inside = absurd (not_inside (omega (arith, e)))
    by_piece behind (comment l c) not_inside =
        ⊎_elim (λ over. inr (behind, c, over)) (λ inside. absurd (not_inside inside)) (cases_lt (length p) behind)

-- the same, where the second text is a specification's
over_where_none : (p u v : List ℕ) (from at : ℕ) (written : WrittenSpec) (t : IsWrittenText (p ++ v) written)
    → IsNoToken (own written) (p ++ u) from at
    → at < length p → EndsLine (p ++ u) (length p) → (rest : List Lexeme) → Spells (IsNextIn (own written) (p ++ v)) from rest t.to
    → SomethingGoesOver (own written) (p ++ v) at (length p)
over_where_none p u v from at written t h lt line rest (none i) =
    let ended = subst (λ m. IsNextIn (own written) (p ++ v) m (End t.at)) (sym i) t.ended in
    over_here (own written) p u v from at t.at h.skipped lt line (passed (own written) p u v from at t.at h.skipped lt ended.skipped)
    (λ e. absurd (omega (arith, e, ended.last, lt, length-append p v)))
over_where_none p u v from at written t h lt line rest (next {x = y} n s) =
    over_here (own written) p u v from at y.at h.skipped lt line (passed (own written) p u v from at y.at h.skipped lt n.skipped)
    (λ e. ⊎_elim
    (λ over. inl (record { token = y.token; from = y.at; to = y.end; begins = omega (arith, e); over = over; stands = n.stands }))
    (λ inside. absurd (h.none_stands y.token y.end
    (kept_token (own written) p v u y.token at y.end (subst (λ k. IsTokenAt (own written)
    (p ++ v) y.token k y.end) e n.stands) inside line)))
    (cases_lt (length p) y.end))

-- up to the end of a line after the place, only a text in which something goes over that end begins
line_over : (p u v : List ℕ) (at : ℕ) (written : WrittenSpec) (f : IsFaultIn (own written) (p ++ u) at) → at < length p
    → EndsLine (p ++ u) (length p) → IsWrittenText (p ++ v) written → SomethingGoesOver (own written) (p ++ v) at (length p)
line_over p u v at written f lt line t = by_next f.next f.stands f.fault f.place
  where
    by_next : (what : Next Token) → IsNextIn (own written) (p ++ u) f.from what → CannotFollow f.front what → place_of what ≡ at
        → SomethingGoesOver (own written) (p ++ v) at (length p)
    by_next (Found x) h fault place =
        inl (over_end p u v at written f x t h (in_line (own written) (p ++ u) x at (length p) h.stands place lt line) place fault)
    by_next (End k) h fault place = absurd (omega (arith, place, h.last, lt, length-append p u))
    by_next (NoToken k) h fault place =
        let low = layout_forward (own written) (p ++ u) f.from k h.skipped in
        ⊎_elim
        (λ on. subst (λ m. SomethingGoesOver (own written) (p ++ v) m (length p)) place
        (over_where_none p u v f.from k written t h (omega (arith, place)) line on.rest on.spelled))
        inl
        (same_tokens (own written) p u v 0 f.from t.to t.at at f.front t.tokens f.spelled
        (omega (arith, low, place)) (omega (arith, low, place))
        t.spelled t.ended)

-- nothing goes over a line feed
nothing_over : (dialect : Dialect) (p w : List ℕ) (at : ℕ) → at < length p → SomethingGoesOver dialect (p ++ 10 ∷ w) at (length p) → ⊥
nothing_over dialect p w at lt (inl o) = none_over dialect p w at (omega arith) o
nothing_over dialect p w at lt (inr (behind, c, over)) =
    let feed : get_or (p ++ 10 ∷ w) (length p) 0 ≡ 10 = get_or_at p 10 w 0 (length p) refl in
    ⊎_elim
    (λ low. let second : at + 1 ≡ length p = omega (arith, low, lt) in
    let e = sym c.second.is ∙ (ap (λ k. get_or (p ++ 10 ∷ w) k 0) second ∙ feed) in absurd (cc))
    (λ high. c.one_line (length p) high over feed)
    (cases_lt (length p) (at + 2))

-- what is before a place of a text, and what is from there on
record IsCut (bytes : List ℕ) (at end : ℕ) : Type 0 where
  whole : take end bytes ++ drop end bytes ≡ bytes
  place : length (take end bytes) ≡ end
  fault : IsSyntaxFault (take end bytes ++ drop end bytes) at

-- a text with an error is cut at each of its places
cut : (bytes : List ℕ) (at end : ℕ) → IsSyntaxFault bytes at → end ≤ length bytes → IsCut bytes at end
cut bytes at end f le =
    let whole = take-append-drop end bytes in
    record { whole = whole; place = omega (arith, le, length-take end bytes); fault = subst (λ l. IsSyntaxFault l at) (sym whole) f }

-- with the token at the place, in some dialect with comments
over_token : (bytes : List ℕ) (at : ℕ) → IsSyntaxFault bytes at → (dialect : Dialect) (token : Token) (end : ℕ)
    → IsTokenAt dialect bytes token at end → (v : List ℕ) (written : WrittenSpec)
    → IsWrittenText (take end bytes ++ v) written → GoesOver (own written) (take end bytes ++ v) at (length (take end bytes))
over_token bytes at f dialect token end h v written t =
    let c = cut bytes at end f h.within in
    let here = subst (λ k. IsTokenAt dialect (take end bytes ++ drop end bytes) token at k) (sym c.place)
    (subst (λ l. IsTokenAt dialect l token at end) (sym c.whole) h) in
    let o = at_alike dialect (own written) (take end bytes ++ drop end bytes) token at (length (take end bytes)) here in
    ⊎_elim
    (λ home. token_over (take end bytes) (drop end bytes) v at written home o.0 o.1 t)
    (λ over. over)
    (home_or_over (take end bytes) (drop end bytes) v at c.fault (omega (arith, c.place, h.ordered)) written t)

-- up to the end of a line after the place
over_line : (bytes : List ℕ) (at : ℕ) → IsSyntaxFault bytes at → (end : ℕ) → IsLineEnd bytes at end → (v : List ℕ) (written : WrittenSpec)
    → IsWrittenText (take end bytes ++ v) written → SomethingGoesOver (own written) (take end bytes ++ v) at (length (take end bytes))
over_line bytes at f end h v written t =
    let c = cut bytes at end f h.within in
    ⊎_elim
    (λ home. line_over (take end bytes) (drop end bytes) v at written home (omega (arith, c.place, h.after))
    (subst (λ k. EndsLine (take end bytes ++ drop end bytes) k) (sym c.place) (subst (λ l. EndsLine l end) (sym c.whole) h.ended)) t)
    inl
    (home_or_over (take end bytes) (drop end bytes) v at c.fault (omega (arith, c.place, h.after)) written t)

-- the error in bytes
pub fault_of_bytes : (bytes : List ℕ) (at : ℕ) → IsSyntaxFault bytes at → IsFaultOfBytes bytes at
fault_of_bytes bytes at f = record {
  before = begins_before bytes at f;
  none = λ written t. no_fault bytes written at t f;
  token = λ dialect is token end h rest written t.
      let c = cut bytes at end f h.within in
      none_over (own written) (take end bytes) rest at (omega (arith, c.place, h.ordered))
      (over_token bytes at f dialect token end h (10 ∷ rest) written
      (subst (λ l. IsWrittenText l written) (append_assoc (take end bytes) (10 ∷ []) rest) t));
  over = λ dialect is token end h rest written t.
      let c = cut bytes at end f h.within in
      subst (λ k. GoesOver (own written) (take end bytes ++ rest) at k) c.place (over_token bytes at f dialect token end h rest written t);
  line = λ end h rest written t.
      let c = cut bytes at end f h.within in
      nothing_over (own written) (take end bytes) rest at (omega (arith, c.place, h.after)) (over_line bytes at f end h (10 ∷ rest) written
      (subst (λ l. IsWrittenText l written) (append_assoc (take end bytes) (10 ∷ []) rest) t));
  over_line = λ end h rest written t.
      let c = cut bytes at end f h.within in
      subst (λ k. SomethingGoesOver (own written) (take end bytes ++ rest) at k) c.place (over_line bytes at f end h rest written t);
}

-- it is so of each refusal
pub faults_are_first : FaultsAreFirst
faults_are_first bytes at cause = fault_of_bytes bytes at cause.2
