-- Of two texts with the same beginning: the second has the tokens of the first, as long as none of its own goes over the beginning's end.
use Rattle.std.proofs.Common.{◌≡◌, ℕ, ◌<◌, ◌≤◌, List, ◌∷◌, ◌++◌, length, refl, sym, ap, ◌∙◌, subst, arith, ◌⊎◌, inl, inr, ⊎_elim}
use Rattle.std.proofs.lemmas.Bool.{cases_lt, cases_order}
use Rattle.std.proofs.lemmas.List.{get_or_at}
use Rattle.std.specs.Prelude.{slice_range}
use Rattle.wb_text_predictive.specs.declared.table.Placed.{Placed}
use Rattle.wb_text_predictive.specs.Reading as reading
use Rattle.wb_text_predictive.specs.Reading.{none, next}
use Rattle.wb_text_tokens.specs.NextToken.{NextToken, IsEnd, IsNextIn, GoesOver}
use Rattle.wb_text_tokens.specs.Spelling.{Spells}
use Rattle.wb_text_tokens.specs.declared.token.Dialect.{Dialect}
use Rattle.wb_text_tokens.specs.declared.token.Token.{Token}
use Rattle.wb_text_tokens.proofs.AgreementLemmas.{same_piece, longer, kept_skip, spells_forward}
use Rattle.wb_text_tokens.proofs.LineFeedLemmas.{crosses_none}
use Rattle.wb_text_tokens.proofs.OnlyLemmas.{same_token}
use Rattle.wb_text_tokens.proofs.SkippingLemmas.{skips_only}

-- tokens with the same parts are the same
same_placed : (x y : Placed Token) → x.token ≡ y.token → x.at ≡ y.at → x.end ≡ y.end → x ≡ y
same_placed x y e f g =
    ap (λ t. record { token = t; at = x.at; end = x.end }) e
    ∙ (ap (λ p. record { token = y.token; at = p; end = x.end }) f ∙ ap (λ p. record { token = y.token; at = y.at; end = p }) g)

-- a token of the first text is that of the second, or that of the second goes over the end
pub same_or_over : (dialect : Dialect) (p u v : List ℕ) (from : ℕ) (x y : Placed Token) → NextToken dialect (p ++ u) from x.token x.at x.end
    → x.end ≤ length p → NextToken dialect (p ++ v) from y.token y.at y.end → (x ≡ y) ⊎ GoesOver dialect (p ++ v) x.at (length p)
same_or_over dialect p u v from x y h le k =
    let places : y.at ≡ x.at = skips_only k.skipped (kept_skip dialect p u v from x h le) in
    let lt = h.stands.ordered in
    let more : x.at < y.end = omega (arith, k.stands.ordered, places) in
    ⊎_elim
    (λ over. inr (record { token = y.token; from = y.at; to = y.end; begins = omega (arith, places); over = over; stands = k.stands }))
    (λ inside.
    let there : Spells dialect y.token (slice_range (p ++ u) x.at y.end) =
    subst (λ z. Spells dialect y.token z) (sym (same_piece p u v x.at y.end (omega arith) inside))
    (subst (λ i. Spells dialect y.token (slice_range (p ++ v) i y.end)) places k.stands.spelled) in
    let here : Spells dialect x.token (slice_range (p ++ v) y.at x.end) =
    subst (λ i. Spells dialect x.token (slice_range (p ++ v) i x.end)) (sym places)
    (subst (λ z. Spells dialect x.token z) (same_piece p u v x.at x.end (omega arith) le) h.stands.spelled) in
    let ends : x.end ≡ y.end = ⊎_elim (λ e. e) (λ o. ⊎_elim
    (λ less. absurd (h.stands.longest y.token y.end less (omega (arith, inside, longer p u)) there))
    (λ less. absurd (k.stands.longest x.token x.end less (omega (arith, le, longer p v)) here)) o) (cases_order x.end y.end) in
    let tokens = same_token dialect (slice_range (p ++ u) x.at x.end) x.token y.token h.stands.spelled
    (subst (λ i. Spells dialect y.token (slice_range (p ++ u) x.at i)) (sym ends) there) in
    inl (same_placed x y tokens (sym places) ends))
    (cases_lt (length p) y.end)

-- where the first text has a token, the second doesn't end
pub no_end : (dialect : Dialect) (p u v : List ℕ) (from : ℕ) (x : Placed Token) (at : ℕ) → NextToken dialect (p ++ u) from x.token x.at x.end
    → x.end ≤ length p → IsEnd dialect (p ++ v) from at → ⊥
no_end dialect p u v from x at h le k =
    let places : at ≡ x.at = skips_only k.skipped (kept_skip dialect p u v from x h le) in
    omega (arith, places, k.last, h.stands.ordered, le, longer p v)

-- the tokens of the second text are those, and further ones from the same place on
pub record GoesOn (dialect : Dialect) (text : List ℕ) (from to : ℕ) (xs ys : List (Placed Token)) : Type 0 where
  pub rest : List (Placed Token)
  pub whole : ys ≡ xs ++ rest
  pub spelled : reading.Spells (IsNextIn dialect text) from rest to

-- with a first one
one_more : (dialect : Dialect) (text : List ℕ) (from to : ℕ) (x y : Placed Token) (xs ys : List (Placed Token)) → x ≡ y
    → GoesOn dialect text from to xs ys → GoesOn dialect text from to (x ∷ xs) (y ∷ ys)
one_more dialect text from to x y xs ys e i = record {
  rest = i.rest;
  whole = ap (λ z. z ∷ ys) (sym e) ∙ ap (λ l. x ∷ l) i.whole;
  spelled = i.spelled;
}

-- a later place for the beginning
pub begun_before : (dialect : Dialect) (text : List ℕ) (at later end : ℕ) → at ≤ later → GoesOver dialect text at end → GoesOver dialect text later end
begun_before dialect text at later end le o = record {
  token = o.token;
  from = o.from;
  to = o.to;
  begins = omega (arith, o.begins, le);
  over = o.over;
  stands = o.stands;
}

-- the second text has the tokens of the first, or one of its own goes over the end
pub same_tokens : (dialect : Dialect) (p u v : List ℕ) (from mid to last bound : ℕ) (xs ys : List (Placed Token))
    → reading.Spells (IsNextIn dialect (p ++ u)) from xs mid → mid ≤ length p → mid ≤ bound
    → reading.Spells (IsNextIn dialect (p ++ v)) from ys to
    → IsEnd dialect (p ++ v) to last → GoesOn dialect (p ++ v) mid to xs ys ⊎ GoesOver dialect (p ++ v) bound (length p)
same_tokens dialect p u v from mid to last bound xs ys (none e) le low s ended =
    inl (record { rest = ys; whole = refl; spelled = subst (λ k. reading.Spells (IsNextIn dialect (p ++ v)) k ys to) e s })
same_tokens dialect p u v from mid to last bound xs ys (next {x = x} {xs = rest} h r) le low (none e) ended =
    let forward = spells_forward dialect (p ++ u) x.end mid rest r in
    absurd (no_end dialect p u v from x last h (omega (arith, forward)) (subst (λ k. IsEnd dialect (p ++ v) k last) (sym e) ended))
same_tokens dialect p u v from mid to last bound xs ys (next {x = x} {xs = rest} h r) le low (next {x = y} {xs = others} i s) ended =
    let forward = spells_forward dialect (p ++ u) x.end mid rest r in
    ⊎_elim
    (λ same. ⊎_elim
    (λ on. inl (one_more dialect (p ++ v) mid to x y rest others same on))
    inr
    (same_tokens dialect p u v x.end mid to last bound rest others r le low
    (subst (λ z. reading.Spells (IsNextIn dialect (p ++ v)) z.end others to) (sym same) s) ended))
    (λ over. inr (begun_before dialect (p ++ v) x.at bound (length p) (omega (arith, h.stands.ordered, forward)) over))
    (same_or_over dialect p u v from x y h (omega (arith, forward)) i)

-- no token goes over a line feed
pub none_over : (dialect : Dialect) (p w : List ℕ) (at : ℕ) → at ≤ length p → GoesOver dialect (p ++ 10 ∷ w) at (length p) → ⊥
none_over dialect p w at le o =
    crosses_none dialect (p ++ 10 ∷ w) o.token o.from o.to (length p) o.stands.spelled o.stands.within (omega (arith, o.begins)) o.over
    (get_or_at p 10 w 0 (length p) refl)
