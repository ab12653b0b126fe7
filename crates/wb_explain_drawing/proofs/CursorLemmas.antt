-- One byte more moves a cursor to the next place.
use Rattle.std.proofs.Common.{◌≡◌, ◌≢◌, ◌<◌, ◌≤◌, ◌+◌, ◌-◌, ◌∙◌, ◌⊎◌, inl, inr, ℕ, zero, suc, Bool, true, false, cond, List, [], ◌∷◌, ◌++◌, take, drop, length, get_or, sym, ap, refl, subst, arith, slice_index}
use Rattle.std.specs.List.{count_by, fold}
use Rattle.std.proofs.lemmas.Bool.{cases_lt}
use Rattle.std.proofs.lemmas.Option.{get_or_from_slice_get}
use Rattle.std.proofs.lemmas.List.{drop-append-le, length-take-le, take_more}
use Rattle.std.proofs.lemmas.List.Sums.{count_by_more_no, count_by_more_yes, count_by-le-length}
use Rattle.wb_lemmas.proofs.Parts.{drop_past}
use Rattle.wb_explain_places.specs.Characters.{begins_character, is_line_feed}
use Rattle.wb_explain_places.specs.LineStarts.{IsLineStart}
use Rattle.wb_explain_places.specs.Place.{line_number}
use Rattle.wb_explain_drawing.specs.Inner.Bytes.{IsByteAt}
use Rattle.wb_explain_drawing.specs.Reached.{IsReached, column_from}
use Rattle.wb_explain_drawing.specs.declared.cursor.Cursor.{Cursor}

-- a cursor of these numbers
abbrev cursor_of : ℕ → ℕ → ℕ → ℕ → Cursor
cursor_of at start line column = record { at = at; start = start; line = line; column = column }

-- the beginning of a text is reached
pub begin_reached : (text : List ℕ) → IsReached text (cursor_of 0 0 1 1)
begin_reached text = record {
  within = omega arith;
  start = record { from = omega arith; begins = inl refl; none = λ k low high. absurd (omega (arith, high)) };
  line = refl;
  column = refl;
}

-- no line has so large a number
pub line_below : (text : List ℕ) (c : Cursor) → IsReached text c → c.line ≤ c.at + 1
line_below text c has =
    omega (arith, has.line, count_by-le-length is_line_feed (take c.at text), length-take-le c.at text has.within)

-- nor has a column
pub column_below : (text : List ℕ) (c : Cursor) → IsReached text c → c.column ≤ c.at + 1
column_below text c has =
    omega (
      arith,
      has.column,
      count_by-le-length begins_character (drop c.start (take c.at text)),
      length-drop-le c.start (take c.at text),
      length-take-le c.at text has.within,
    )
  where
    length-drop-le : (n : ℕ) (xs : List ℕ) → length (drop n xs) ≤ length xs
    length-drop-le zero xs = omega arith
    length-drop-le (suc n) [] = omega arith
    length-drop-le (suc n) (x ∷ xs) = omega (arith, length-drop-le n xs)

-- the byte at a place, where there is one
byte_here : (text : List ℕ) (at byte : ℕ) → IsByteAt text at byte → get_or text at 0 ≡ byte
byte_here text at byte is = get_or_from_slice_get text at byte 0 is

-- what counts as a line feed is one
feed : (b : ℕ) → true ≡ is_line_feed b → b ≡ 10
feed b is = grind (arith, is)

-- what doesn't isn't
no_feed : (b : ℕ) → false ≡ is_line_feed b → b ≢ 10
no_feed b is = λ same. absurd (true_false (is ∙ ap is_line_feed same))
  where
    true_false : false ≡ true → ⊥
    true_false e = cc

-- how many lines there are with one byte more
line_more : (text : List ℕ) (at : ℕ) (byte line : ℕ) (test : Bool) → at < length text → IsByteAt text at byte → line ≡ line_number text at
    → test ≡ is_line_feed byte → line + cond test 1 0 ≡ line_number text (at + 1)
line_more text at byte line true within here was is =
    let one = count_by_more_yes is_line_feed text at 0 within (ap is_line_feed (byte_here text at byte here) ∙ sym is) in
    omega (arith, was, one)
line_more text at byte line false within here was is =
    let one = count_by_more_no is_line_feed text at 0 within (ap is_line_feed (byte_here text at byte here) ∙ sym is) in
    omega (arith, was, one)

-- the bytes of a line with one more
part_more : (text : List ℕ) (start at byte : ℕ) → at < length text → start ≤ at → IsByteAt text at byte
    → drop start (take (at + 1) text) ≡ drop start (take at text) ++ byte ∷ []
part_more text start at byte within low here =
    let long : start ≤ length (take at text) = omega (arith, low, length-take-le at text (omega (arith, within))) in
    ap (λ z. drop start z) (take_more text at 0 within ∙ ap (λ (b : ℕ). take at text ++ b ∷ []) (byte_here text at byte here))
    ∙ drop-append-le start (take at text) (byte ∷ []) long

-- what is gathered of a list with one more
fold_push : (f : ℕ → ℕ → ℕ) (xs : List ℕ) (b z : ℕ) → fold f z (xs ++ b ∷ []) ≡ f (fold f z xs) b
fold_push f [] b z = refl
fold_push f (x ∷ xs) b z = fold_push f xs b (f z x)

-- a count with one byte more
count_push : (p : ℕ → Bool) (xs : List ℕ) (b : ℕ) (test : Bool) → test ≡ p b → count_by p (xs ++ b ∷ []) ≡ count_by p xs + cond test 1 0
count_push p xs b test is =
    fold_push (λ a x. a + cond (p x) 1 0) xs b 0 ∙ ap (λ t. count_by p xs + cond t 1 0) (sym is)

-- how many characters there are with one byte more
column_more : (text : List ℕ) (start at byte column : ℕ) (test : Bool) → at < length text → start ≤ at → IsByteAt text at byte
    → column ≡ column_from text start at → test ≡ begins_character byte → column + cond test 1 0 ≡ column_from text start (at + 1)
column_more text start at byte column test within low here was is =
    let part = ap (count_by begins_character) (part_more text start at byte within low here) in
    let one = count_push begins_character (drop start (take at text)) byte test is in
    omega (arith, was, part, one)

-- the line goes on after a byte that is no line feed
start_more : (text : List ℕ) (at start byte : ℕ) → IsLineStart text at start → IsByteAt text at byte → byte ≢ 10 → IsLineStart text (at + 1) start
start_more text at start byte has here other = record {
  from = omega (arith, has.from);
  begins = has.begins;
  none = λ k low high. none k low high (cases_lt k at);
}
  where
    none : (k : ℕ) → start ≤ k → k < at + 1 → (k < at) ⊎ (at ≤ k) → slice_index text k ≢ 10
    none k low high (inl before) = has.none k low before
    none k low high (inr after) =
        let same : k ≡ at = omega (arith, high, after) in
        λ is. other (sym (byte_here text at byte here) ∙ subst (λ (i : ℕ). get_or text i 0 ≡ 10) same is)

-- after a line feed a line begins
pub feed_reached : (text : List ℕ) (c : Cursor) (byte : ℕ) → IsReached text c → c.at < length text → IsByteAt text c.at byte
    → true ≡ is_line_feed byte → IsReached text (cursor_of (c.at + 1) (c.at + 1) (c.line + 1) 1)
feed_reached text c byte has within here is = record {
  within = omega (arith, within);
  start = record {
    from = omega arith;
    begins = inr (subst (λ (i : ℕ). get_or text i 0 ≡ 10) before (byte_here text c.at byte here ∙ feed byte is));
    none = λ k low high. absurd (omega (arith, low, high));
  };
  line = line_more text c.at byte c.line true within here has.line is;
  column = ap (λ z. count_by begins_character z + 1)
      (sym (drop_past (take (c.at + 1) text) (c.at + 1) (omega (arith, length-take-le (c.at + 1) text (omega (arith, within))))));
}
  where
    before : c.at ≡ c.at + 1 - 1
    before = omega arith

-- after another byte the line goes on, with one character more where the byte begins one
pub byte_reached : (text : List ℕ) (c : Cursor) (byte column : ℕ) (test : Bool) → IsReached text c → c.at < length text
    → IsByteAt text c.at byte → false ≡ is_line_feed byte → test ≡ begins_character byte → column ≡ c.column + cond test 1 0
    → IsReached text (cursor_of (c.at + 1) c.start c.line column)
byte_reached text c byte column test has within here is begins now = record {
  within = omega (arith, within);
  start = start_more text c.at c.start byte has.start here (no_feed byte is);
  line = omega (arith, line_more text c.at byte c.line false within here has.line is);
  column = now ∙ column_more text c.start c.at byte c.column test within has.start.from here has.column begins;
}

-- the cursor is in its line and column, and not past the place where it began before that
pub record IsOnWay (text : List ℕ) (begin : Cursor) (to : ℕ) (cursor : Cursor) : Type 0 where
  pub reached : IsReached text cursor
  pub before : begin.at ≤ to → cursor.at ≤ to
