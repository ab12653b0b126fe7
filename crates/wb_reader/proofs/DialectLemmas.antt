-- What is next in one dialect is next in another, but that `closed` may be a word in the one and a name in the other.
use Rattle.std.proofs.Common.{◌≡◌, ◌⊎◌, ℕ, List, [], ◌∷◌, Bool, true, false, IsTrue, inl, inr, ⊎_elim, refl, sym, ap, ◌∙◌, subst, get_or}
use Rattle.std.specs.Prelude.{codes, not, slice_range}
use Rattle.std.specs.List.{list_all}
use Rattle.std.specs.Str.{bytes_eq}
use Rattle.std.proofs.lemmas.List.Folds.{list_all_at}
use Rattle.std.proofs.lemmas.Slice.Eq.{bytes_eq-Decides}
use Rattle.wb_base.specs.Identifiers.{IsIdentifier, IsReserved, reserved_words}
use Rattle.wb_text_predictive.specs.declared.table.Placed.{Placed}
use Rattle.wb_text_predictive.specs.Reading as reading
use Rattle.wb_text_predictive.specs.Reading.{none, next}
use Rattle.wb_text_tokens.specs.declared.token.Dialect.{Dialect}
use Rattle.wb_text_tokens.specs.declared.token.Token.{Token}
use Rattle.wb_text_tokens.specs.declared.token.Token.TheVariants as t
use Rattle.wb_text_tokens.specs.declared.word.Word.{Word}
use Rattle.wb_text_tokens.specs.declared.word.Word.TheVariants as w
use Rattle.wb_text_tokens.specs.NextToken.{IsTokenAt, NextToken, IsEnd, IsNoToken, IsNextIn}
use Rattle.wb_text_tokens.specs.Skipping.{has_comments, IsLayoutPiece, blank, comment, SkipsLayout, stop, skip}
use Rattle.wb_text_tokens.specs.Spelling.{Spells, HasValueInRange}
use Rattle.wb_text_tokens.specs.Words.{word_text, has_closed, is_word_of, IsReservedIn}
use Rattle.wb_text_tokens.proofs.CallerLemmas.{reserved_word, reserved_in}

-- the token is `closed`, as a word or as a name
abbrev pub IsClosedToken : Token → Type 0
IsClosedToken token = (token ≡ t.Word w.Closed) ⊎ (token ≡ t.Name (codes "closed"))

-- the two are the same, or both are `closed`
abbrev pub AreAlike : Token → Token → Type 0
AreAlike a b = (a ≡ b) ⊎ (IsClosedToken a × IsClosedToken b)

-- `closed` isn't reserved in all dialects
list_free : list_all (λ x. not (bytes_eq x (codes "closed"))) reserved_words ≡ true
unfolding reserved_words
list_free = refl

closed_free : ¬ IsReserved (codes "closed")
closed_free (k, within, is) =
    let found : not (bytes_eq (get_or reserved_words k (codes "closed")) (codes "closed")) ≡ false =
    ap (λ x. not (bytes_eq x (codes "closed"))) is in
    let bad : true ≡ false = sym list_free
    ∙ list_all_at (λ x. not (bytes_eq x (codes "closed"))) reserved_words k (codes "closed") within found in
    absurd (cc)

-- a word that isn't one of the dialect is `closed`
closed_word : (dialect : Dialect) (word : Word) → is_word_of dialect word ≡ false → word ≡ w.Closed
closed_word dialect w.Closed h = refl
closed_word dialect word h = absurd (cc)

-- what spells a token in one dialect spells one in each other
pub spelled_alike : (d e : Dialect) (token : Token) (x : List ℕ) → Spells d token x
    → (other : Token) × Spells e other x × AreAlike token other
spelled_alike d e (t.Name text) x s = by_closed (has_closed e) refl
  where
    -- what is reserved in the second dialect alone is `closed`
    down : IsReservedIn e x → (IsTrue (has_closed e) → x ≡ codes "closed" → ⊥) → ⊥
    down r never = ⊎_elim (λ reserved. s.2 (reserved_word d x reserved)) (λ closed. never closed.0 closed.1) (reserved_in e x r)

    by_text : has_closed e ≡ true → (b : Bool) → bytes_eq x (codes "closed") ≡ b
        → (other : Token) × Spells e other x × AreAlike (t.Name text) other
    by_text h true q =
        let same : x ≡ codes "closed" = (bytes_eq-Decides x (codes "closed")).0 q in
        (t.Word w.Closed, record { reserved = h; is = same }, inr (inr (ap t.Name (sym s.0 ∙ same)), inl refl))
    by_text h false q =
        let other : x ≡ codes "closed" → ⊥ =
        λ same. (let bad : true ≡ false = sym ((bytes_eq-Decides x (codes "closed")).1 same) ∙ q in cc) in
        (t.Name text, (s.0, s.1, λ r. down r (λ _ same. other same)), inl refl)

    by_closed : (c : Bool) → has_closed e ≡ c → (other : Token) × Spells e other x × AreAlike (t.Name text) other
    by_closed true h = by_text h (bytes_eq x (codes "closed")) refl
    by_closed false h = (t.Name text, (s.0, s.1, λ r. down r (λ i _. (let bad : true ≡ false = sym i ∙ h in cc))), inl refl)
spelled_alike d e (t.Word word) x s = by_word (is_word_of e word) refl
  where
    by_word : (b : Bool) → is_word_of e word ≡ b → (other : Token) × Spells e other x × AreAlike (t.Word word) other
    by_word true h = (t.Word word, record { reserved = h; is = s.is }, inl refl)
    by_word false h =
        let same = closed_word e word h in
        let text : x ≡ codes "closed" = s.is ∙ ap word_text same in
        let out : has_closed e ≡ false = subst (λ y. is_word_of e y ≡ false) same h in (
          t.Name (codes "closed"),
          (
            text,
            subst IsIdentifier (sym text) (refl, refl),
            λ r. ⊎_elim (λ reserved. closed_free (subst IsReserved text reserved))
                (λ closed. (let bad : true ≡ false = sym closed.0 ∙ out in cc)) (reserved_in e x r),
          ),
          inr (inl (ap t.Word same), inr refl),
        )
spelled_alike d e (t.Int value) x s = (t.Int value, s, inl refl)
spelled_alike d e (t.Text text) x s = (t.Text text, s, inl refl)
spelled_alike d e (t.Regex body) x s = (t.Regex body, s, inl refl)
spelled_alike d e (t.Punctuation mark) x s = (t.Punctuation mark, s, inl refl)

-- both have values in range
range_alike : (token other : Token) → AreAlike token other → HasValueInRange token → HasValueInRange other
range_alike token other (inl same) h = subst HasValueInRange same h
range_alike token other (inr (one, inl is)) h = subst HasValueInRange (sym is) tt
range_alike token other (inr (one, inr is)) h = subst HasValueInRange (sym is) tt

-- where a token is in one dialect, one is in each other
pub at_alike : (d e : Dialect) (text : List ℕ) (token : Token) (at end : ℕ) → IsTokenAt d text token at end
    → (other : Token) × IsTokenAt e text other at end × AreAlike token other
at_alike d e text token at end h =
    let s = spelled_alike d e token (slice_range text at end) h.spelled in (
      s.0,
      record {
        ordered = h.ordered;
        within = h.within;
        spelled = s.1;
        in_range = range_alike token s.0 s.2 h.in_range;
        longest = λ other later lt within r.
            let back = spelled_alike e d other (slice_range text at later) r in h.longest back.0 later lt within back.1;
      },
      s.2,
    )

module _ (d e : Dialect) (same : has_comments d ≡ has_comments e) (text : List ℕ) where
  -- layout is the same where comments are
  piece_moved : (from behind : ℕ) → IsLayoutPiece d text from behind → IsLayoutPiece e text from behind
  piece_moved from behind (blank w b i) = blank w b i
  piece_moved from behind (comment l c) = comment (sym same ∙ l) c

  piece_back : (from behind : ℕ) → IsLayoutPiece e text from behind → IsLayoutPiece d text from behind
  piece_back from behind (blank w b i) = blank w b i
  piece_back from behind (comment l c) = comment (same ∙ l) c

  pub layout_moved : (from at : ℕ) → SkipsLayout d text from at → SkipsLayout e text from at
  layout_moved from at (stop n i) = stop (λ behind p. n behind (piece_back from behind p)) i
  layout_moved from at (skip {behind = behind} p s) = skip (piece_moved from behind p) (layout_moved behind at s)

  -- what is next
  pub found_alike : (from : ℕ) (x : Placed Token) → NextToken d text from x.token x.at x.end
      → (other : Token) × NextToken e text from other x.at x.end × AreAlike x.token other
  found_alike from x h =
      let o = at_alike d e text x.token x.at x.end h.stands in
      (o.0, record { skipped = layout_moved from x.at h.skipped; stands = o.1 }, o.2)

  pub end_moved : (from at : ℕ) → IsEnd d text from at → IsEnd e text from at
  end_moved from at h = record { skipped = layout_moved from at h.skipped; last = h.last }

  pub none_moved : (from at : ℕ) → IsNoToken d text from at → IsNoToken e text from at
  none_moved from at h = record {
    skipped = layout_moved from at h.skipped;
    within = h.within;
    none_stands = λ token end s. let o = at_alike e d text token at end s in h.none_stands o.0 end o.1;
  }

-- none of the tokens is `closed`
abbrev pub NoneClosed : List (Placed Token) → Type 0
NoneClosed [] = Unit {0}
NoneClosed (x ∷ xs) = (¬ IsClosedToken x.token) × NoneClosed xs

-- such tokens are the same in both dialects
pub tokens_moved : (d e : Dialect) → has_comments d ≡ has_comments e → (text : List ℕ) (from to : ℕ) (xs : List (Placed Token))
    → NoneClosed xs → reading.Spells (IsNextIn d text) from xs to → reading.Spells (IsNextIn e text) from xs to
tokens_moved d e same text from to xs clear (none i) = none i
tokens_moved d e same text from to xs clear (next {x = x} {xs = rest} h r) =
    let o = found_alike d e same text from x h in
    let token : x.token ≡ o.0 = ⊎_elim (λ is. is) (λ closed. absurd (clear.0 closed.0)) o.2 in
    next (subst (λ y. NextToken e text from y x.at x.end) (sym token) o.1) (tokens_moved d e same text x.end to rest clear.1 r)
