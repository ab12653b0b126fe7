-- Of two texts with the same beginning: what is read in the one, as long as it ends there, is read in the other.
use Rattle.std.proofs.Common.{◌≡◌, ℕ, ◌+◌, ◌-◌, ◌<◌, ◌≤◌, List, ◌++◌, length, get_or, take, drop, refl, sym, ap, ◌∙◌, subst, arith}
use Rattle.std.proofs.Common.{length-append, length-drop, ⊎_elim}
use Rattle.std.proofs.lemmas.Bool.{cases_lt}
use Rattle.std.proofs.lemmas.List.{get_or_append_left, take-append-le, drop-append-le}
use Rattle.std.specs.Prelude.{slice_range}
use Rattle.wb_text_predictive.specs.declared.table.Placed.{Placed}
use Rattle.wb_text_predictive.specs.Reading as reading
use Rattle.wb_text_predictive.specs.Reading.{none, next}
use Rattle.wb_text_tokens.specs.NextToken.{IsTokenAt, NextToken, IsNextIn}
use Rattle.wb_text_tokens.specs.Skipping.{is_blank, IsLayoutPiece, blank, comment, SkipsLayout, stop, skip}
use Rattle.wb_text_tokens.specs.Spelling.{Spells}
use Rattle.wb_text_tokens.specs.declared.token.Dialect.{Dialect}
use Rattle.wb_text_tokens.specs.declared.token.Token.{Token}
use Rattle.wb_text_tokens.proofs.LineFeedLemmas.{crosses_none}
use Rattle.wb_text_tokens.proofs.NoPieceLemmas.{no_piece}
use Rattle.wb_text_tokens.proofs.PlacedLaws.{layout_forward}
use Rattle.wb_text_tokens.proofs.SkippingLemmas.{piece_only}

-- a piece of the common beginning
piece_of_first : (p u : List ℕ) (from to : ℕ) → from ≤ to → to ≤ length p → slice_range (p ++ u) from to ≡ slice_range p from to
piece_of_first p u from to le within =
    ap (take (to - from)) (drop-append-le from p u (omega arith))
    ∙ take-append-le (to - from) (drop from p) u (omega (arith, length-drop from p))

-- it is in both
pub same_piece : (p u v : List ℕ) (from to : ℕ) → from ≤ to → to ≤ length p → slice_range (p ++ u) from to ≡ slice_range (p ++ v) from to
same_piece p u v from to le within = piece_of_first p u from to le within ∙ sym (piece_of_first p v from to le within)

-- a byte of it is in both
same_byte : (p u v : List ℕ) (k : ℕ) → k < length p → get_or (p ++ u) k 0 ≡ get_or (p ++ v) k 0
same_byte p u v k lt = get_or_append_left p u 0 k lt ∙ sym (get_or_append_left p v 0 k lt)

-- the beginning is no longer than the text
pub longer : (p v : List ℕ) → length p ≤ length (p ++ v)
longer p v = omega (arith, length-append p v)

-- the second text ends at the place, or has a line feed there
abbrev pub EndsLine : List ℕ → ℕ → Type 0
EndsLine text place = place < length text → get_or text place 0 ≡ 10

-- a piece of layout
pub kept_piece : (dialect : Dialect) (p u v : List ℕ) (from behind : ℕ) → IsLayoutPiece dialect (p ++ u) from behind → behind ≤ length p
    → (behind ≡ length p → EndsLine (p ++ v) behind) → IsLayoutPiece dialect (p ++ v) from behind
kept_piece dialect p u v from behind (blank w is e) le line =
    let lt : from < length p = omega (arith, e, le) in
    blank (omega (arith, lt, longer p v)) (ap is_blank (sym (same_byte p u v from lt)) ∙ is) e
kept_piece dialect p u v from behind (comment l c) le line = comment l (record {
  first = record {
    within = omega (arith, c.ordered, le, longer p v);
    is = sym (same_byte p u v from (omega (arith, c.ordered)))
        ∙ c.first.is;
  };
  second = record {
    within = omega (arith, c.ordered, le, longer p v);
    is = sym (same_byte p u v (from + 1) (omega (arith, c.ordered)))
        ∙ c.second.is;
  };
  ordered = c.ordered;
  within = omega (arith, le, longer p v);
  one_line = λ place low high e. c.one_line place low high (same_byte p u v place (omega arith) ∙ e);
  ended = λ more. ⊎_elim
      (λ lt. sym (same_byte p u v behind lt) ∙ c.ended (omega (arith, lt, longer p u)))
      (λ ge. line (omega arith) more) (cases_lt behind (length p));
})

-- layout up to a place, and what is skipped from there on
pub kept_layout : (dialect : Dialect) (p u v : List ℕ) (from at end : ℕ) → SkipsLayout dialect (p ++ u) from at → at ≤ length p
    → (at ≡ length p → EndsLine (p ++ v) at) → SkipsLayout dialect (p ++ v) at end → SkipsLayout dialect (p ++ v) from end
kept_layout dialect p u v from at end (stop n e) le line rest = subst (λ k. SkipsLayout dialect (p ++ v) k end) (sym e) rest
kept_layout dialect p u v from at end (skip {behind = behind} piece s) le line rest =
    let forward = layout_forward dialect (p ++ u) behind at s in
    skip (kept_piece dialect p u v from behind piece (omega arith)
    (λ e. let same : at ≡ behind = omega (arith, e, le, forward) in subst (λ k. EndsLine (p ++ v) k) same (line (same ∙ e))))
    (kept_layout dialect p u v behind at end s le line rest)

-- layout up to a token
pub kept_skip : (dialect : Dialect) (p u v : List ℕ) (from : ℕ) (x : Placed Token) → NextToken dialect (p ++ u) from x.token x.at x.end
    → x.end ≤ length p
    → SkipsLayout dialect (p ++ v) from x.at
kept_skip dialect p u v from x h le =
    let lt = h.stands.ordered in
    kept_layout dialect p u v from x.at x.at h.skipped (omega arith) (λ e. absurd (omega (arith, e)))
    (stop (no_piece dialect (p ++ v) x.token x.at x.end (omega (arith, le, longer p v))
    (subst (λ y. Spells dialect x.token y) (same_piece p u v x.at x.end (omega arith) le) h.stands.spelled)) refl)

-- a token, where the second text has a line feed next, or ends
pub kept_token : (dialect : Dialect) (p u v : List ℕ) (token : Token) (at end : ℕ) → IsTokenAt dialect (p ++ u) token at end
    → end ≤ length p → EndsLine (p ++ v) (length p)
    → IsTokenAt dialect (p ++ v) token at end
kept_token dialect p u v token at end h le line = record {
  ordered = h.ordered;
  within = omega (arith, le, longer p v);
  spelled = subst (λ y. Spells dialect token y) (same_piece p u v at end (omega (arith, h.ordered)) le) h.spelled;
  in_range = h.in_range;
  longest = λ other later lt within s. ⊎_elim
      (λ over. crosses_none dialect (p ++ v) other at later (length p) s within (omega (arith, h.ordered, le)) over
      (line (omega (arith, over, within))))
      (λ inside. h.longest other later lt (omega (arith, inside, longer p u))
      (subst (λ y. Spells dialect other y) (sym (same_piece p u v at later (omega (arith, lt, h.ordered)) inside)) s))
      (cases_lt (length p) later);
}

-- tokens go forward
pub spells_forward : (dialect : Dialect) (text : List ℕ) (from to : ℕ) (xs : List (Placed Token))
    → reading.Spells (IsNextIn dialect text) from xs to → from ≤ to
spells_forward dialect text from to xs (none e) = omega (arith, e)
spells_forward dialect text from to xs (next {x = x} {xs = rest} h r) =
    let here = layout_forward dialect text from x.at h.skipped in
    let there = spells_forward dialect text x.end to rest r in
    omega (arith, here, there, h.stands.ordered)

-- tokens up to a place, where the second text has a line feed next, or ends
pub kept_tokens : (dialect : Dialect) (p u v : List ℕ) (from to : ℕ) (xs : List (Placed Token))
    → reading.Spells (IsNextIn dialect (p ++ u)) from xs to
    → to ≤ length p → EndsLine (p ++ v) (length p) → reading.Spells (IsNextIn dialect (p ++ v)) from xs to
kept_tokens dialect p u v from to xs (none e) le line = none e
kept_tokens dialect p u v from to xs (next {x = x} {xs = rest} h r) le line =
    let inside : x.end ≤ length p = omega (arith, spells_forward dialect (p ++ u) x.end to rest r) in
    next (record { skipped = kept_skip dialect p u v from x h inside; stands = kept_token dialect p u v x.token x.at x.end h.stands inside line })
    (kept_tokens dialect p u v x.end to rest r le line)

-- where layout stops, none begins
pub stops : (dialect : Dialect) (text : List ℕ) (from at : ℕ) → SkipsLayout dialect text from at
    → (behind : ℕ) → ¬ IsLayoutPiece dialect text at behind
stops dialect text from at (stop n e) behind = subst (λ k. ¬ IsLayoutPiece dialect text k behind) e (n behind)
stops dialect text from at (skip {behind = after} piece s) behind = stops dialect text after at s behind

-- layout that is skipped in the second text goes as far as in the first, and from there on
pub passed : (dialect : Dialect) (p u v : List ℕ) (from at end : ℕ) → SkipsLayout dialect (p ++ u) from at → at < length p
    → SkipsLayout dialect (p ++ v) from end → SkipsLayout dialect (p ++ v) at end
passed dialect p u v from at end (stop n e) lt s = subst (λ k. SkipsLayout dialect (p ++ v) k end) e s
passed dialect p u v from at end (skip {behind = behind} piece r) lt (stop n e) =
    let forward = layout_forward dialect (p ++ u) behind at r in
    absurd (n behind (kept_piece dialect p u v from behind piece (omega arith) (λ i. absurd (omega (arith, i)))))
passed dialect p u v from at end (skip {behind = behind} piece r) lt (skip {behind = other} more s) =
    let forward = layout_forward dialect (p ++ u) behind at r in
    let kept = kept_piece dialect p u v from behind piece (omega arith) (λ i. absurd (omega (arith, i))) in
    passed dialect p u v behind at end r lt (subst (λ k. SkipsLayout dialect (p ++ v) k end) (piece_only more kept) s)
