-- Lines of edits: where they are read, and where they stop.
use Rattle.std.proofs.Common.{◌≡◌, ◌<◌, ◌^◌, ◌⊎◌, ℕ, List, [], ◌∷◌, ◌++◌, length, length-append, refl, sym, ap, ◌∙◌, subst, inl, inr, arith}
use Rattle.wb_lemmas.proofs.Parts.{append_assoc}
use Rattle.wb_text_parts.specs.Parts.{number_then, Begins, Both, Exactly, IsNoDigit, IsPrefixFree, IsSmall, IsStop, Numbers, Texts}
use Rattle.wb_text_parts.proofs.NumberLemmas.{number_some, number_unique, numbers_free}
use Rattle.wb_text_parts.proofs.StopLemmas.{append_cancel, append_none, both_free, exactly_free, stop_first, stop_same, stop_second}
use Rattle.wb_text_tokens.specs.Spelling.{IsString}
use Rattle.wb_session_edits.specs.Edits.{IsLineOf}
use Rattle.wb_session_edits.specs.Inner.Progress.{ArePlacesSmall, BeginsLine, Endings, HaltsIn, Lines, places_text}
use Rattle.wb_session_edits.specs.Inner.Strings.{BeginsString, Strings}
use Rattle.wb_session_edits.specs.declared.edit.Edit.{Edit}
use Rattle.wb_session_edits.specs.declared.line.Halt.{Halt}
use Rattle.wb_session_edits.specs.declared.line.Halt.TheVariants.{At, NoMemory}
use Rattle.wb_session_edits.proofs.BodyLemmas.{two_quotes}
use Rattle.wb_session_edits.proofs.StringLemmas.{string_unique, strings_free}

some_number : (end : ℕ) → Numbers end (number_then end 0)
some_number end = let small : 0 < 2 ^ 64 = omega arith in (0, small, refl)

pub no_digit_space : IsNoDigit 32
no_digit_space = inl (omega arith)

-- places
abbrev pub Places : List ℕ → Type 0
Places = Texts ArePlacesSmall places_text

place_there : (l : List ℕ) → Both (Numbers 32) (Numbers 32) l → Places l
place_there l (a, b, (n, n_small, a_is), (m, m_small, b_is), e) =
    ((n, m), (n_small, m_small), e ∙ (ap (λ x. x ++ b) a_is ∙ ap (λ x. number_then 32 n ++ x) b_is))

place_back : (l : List ℕ) → Places l → Both (Numbers 32) (Numbers 32) l
place_back l ((n, m), (n_small, m_small), e) = (number_then 32 n, number_then 32 m, (n, n_small, refl), (m, m_small, refl), e)

pub places_stopped_from : (text rest : List ℕ) → IsStop (Numbers 32) text rest → IsStop (Texts ArePlacesSmall places_text) text rest
places_stopped_from text rest s = stop_same place_there place_back (stop_first s (number_then 32 0) (some_number 32))

pub places_stopped_to : (text after rest : List ℕ) (n : ℕ) → Begins IsSmall (number_then 32) text n after →
    IsStop (Numbers 32) after rest → IsStop (Texts ArePlacesSmall places_text) text rest
places_stopped_to text after rest n (small, e) s =
    stop_same place_there place_back (stop_second (numbers_free 32 no_digit_space) (number_then 32 n) text (n, small, refl) e s)

pub places_read : (text after next : List ℕ) (n m : ℕ) → Begins IsSmall (number_then 32) text n after →
    Begins IsSmall (number_then 32) after m next → Begins ArePlacesSmall places_text text (n, m) next
places_read text after next n m (n_small, e) (m_small, f) = (
  (n_small, m_small),
  e ∙ (ap (λ l. number_then 32 n ++ l) f ∙ sym (append_assoc (number_then 32 n) (number_then 32 m) next)),
)

places_unique : (p q : ℕ × ℕ) (x y : List ℕ) → ArePlacesSmall p → ArePlacesSmall q → places_text p ++ x ≡ places_text q ++ y →
    (p ≡ q) × (x ≡ y)
places_unique (a, b) (c, d) x y (a_small, b_small) (c_small, d_small) e =
    let one = number_unique 32 c a (number_then 32 b ++ x) (number_then 32 d ++ y) no_digit_space c_small a_small
    (sym (append_assoc (number_then 32 a) (number_then 32 b) x) ∙ (e ∙ append_assoc (number_then 32 c) (number_then 32 d) y)) in
    let two = number_unique 32 d b x y no_digit_space d_small b_small one.1 in
    (ap (λ n. (n, b)) one.0 ∙ ap (λ n. (c, n)) two.0, two.1)

places_free : IsPrefixFree Places
places_free a b x y (p, p_small, is) (q, q_small, is') e =
    let both : places_text p ++ x ≡ places_text q ++ y = ap (λ l. l ++ x) (sym is) ∙ (e ∙ ap (λ l. l ++ y) is') in
    is ∙ (ap places_text (places_unique p q x y p_small q_small both).0 ∙ sym is')

-- endings
some_ending : Endings (34 ∷ 34 ∷ 10 ∷ [])
some_ending = (34 ∷ 34 ∷ [], 10 ∷ [], two_quotes, refl, refl)

pub line_feed_stopped : (text last rest value : List ℕ) → BeginsString text value last → IsStop (Exactly (10 ∷ [])) last rest →
    IsStop Endings text rest
line_feed_stopped text last rest value (spelling, s, e) stop = stop_second strings_free spelling text (value, s) e stop

pub string_halts : (text : List ℕ) (halt : Halt) → HaltsIn Strings text halt → HaltsIn Endings text halt
string_halts text (At rest) s = stop_first s (10 ∷ []) refl
string_halts text (NoMemory error) s = tt

pub ending_read : (text last after value : List ℕ) → BeginsString text value last → last ≡ 10 ∷ after → BeginsString text value (10 ∷ after)
ending_read text last after value (spelling, s, e) is = (spelling, s, e ∙ ap (λ l. spelling ++ l) is)

-- lines as places and endings
line_there : (l : List ℕ) → Both Places Endings l → Lines l
line_there l (a, b, ((n, m), (n_small, m_small), a_is), (c, d, (value, s), d_is, b_is), e) = (
  record { from = n; to = m; bytes = value },
  record {
    from = n_small;
    to = m_small;
    spelling = c;
    string = s;
    is = e ∙ (ap (λ z. z ++ b) a_is ∙ (ap (λ z. places_text (n, m) ++ z) (b_is ∙ ap (λ z. c ++ z) d_is)
        ∙ append_assoc (number_then 32 n) (number_then 32 m) (c ++ 10 ∷ [])));
  },
)

line_back : (l : List ℕ) → Lines l → Both Places Endings l
line_back l (edit, line) = (
  places_text (edit.from, edit.to),
  line.spelling ++ 10 ∷ [],
  ((edit.from, edit.to), (line.from, line.to), refl),
  (line.spelling, 10 ∷ [], (edit.bytes, line.string), refl, refl),
  line.is ∙ sym (append_assoc (number_then 32 edit.from) (number_then 32 edit.to) (line.spelling ++ 10 ∷ [])),
)

pub places_stopped : (text rest : List ℕ) → IsStop (Texts ArePlacesSmall places_text) text rest → IsStop Lines text rest
places_stopped text rest s = stop_same line_there line_back (stop_first s (34 ∷ 34 ∷ 10 ∷ []) some_ending)

pub ending_halts : (text last : List ℕ) (from to : ℕ) (halt : Halt) → Begins ArePlacesSmall places_text text (from, to) last →
    HaltsIn Endings last halt → HaltsIn Lines text halt
ending_halts text last from to (At rest) (small, e) s =
    stop_same line_there line_back (stop_second places_free (places_text (from, to)) text ((from, to), small, refl) e s)
ending_halts text last from to (NoMemory error) begins s = tt

pub line_read : (text last after value bytes : List ℕ) (from to : ℕ) → Begins ArePlacesSmall places_text text (from, to) last →
    BeginsString last value (10 ∷ after) → bytes ≡ value → BeginsLine text (record { from = from; to = to; bytes = bytes }) after
line_read text last after value bytes from to (small, e) (spelling, s, f) same = (
  number_then 32 from ++ (number_then 32 to ++ (spelling ++ 10 ∷ [])),
  record { from = small.0; to = small.1; spelling = spelling; string = subst (IsString spelling) (sym same) s; is = refl },
  e ∙ (ap (λ z. places_text (from, to) ++ z) (f ∙ sym (append_assoc spelling (10 ∷ []) after)) ∙ joined),
)
  where
    joined : places_text (from, to) ++ ((spelling ++ 10 ∷ []) ++ after)
        ≡ (number_then 32 from ++ (number_then 32 to ++ (spelling ++ 10 ∷ []))) ++ after
    joined =
        append_assoc (number_then 32 from) (number_then 32 to) ((spelling ++ 10 ∷ []) ++ after)
        ∙ (ap (λ z. number_then 32 from ++ z) (sym (append_assoc (number_then 32 to) (spelling ++ 10 ∷ []) after))
        ∙ sym (append_assoc (number_then 32 from) (number_then 32 to ++ (spelling ++ 10 ∷ [])) after))

-- one line is at the beginning
abbrev pub edit_of : ℕ → ℕ → List ℕ → Edit
edit_of from to bytes = record { from = from; to = to; bytes = bytes }

pub line_unique : (l m x y : List ℕ) (e f : Edit) → IsLineOf l e → IsLineOf m f → l ++ x ≡ m ++ y → (e ≡ f) × (x ≡ y)
line_unique l m x y e f one two is =
    let from = number_unique 32 f.from e.from ((number_then 32 e.to ++ (one.spelling ++ 10 ∷ [])) ++ x)
    ((number_then 32 f.to ++ (two.spelling ++ 10 ∷ [])) ++ y) no_digit_space two.from one.from
    (sym (append_assoc (number_then 32 e.from) (number_then 32 e.to ++ (one.spelling ++ 10 ∷ [])) x)
    ∙ (ap (λ z. z ++ x) (sym one.is) ∙ (is ∙ (ap (λ z. z ++ y) two.is
    ∙ append_assoc (number_then 32 f.from) (number_then 32 f.to ++ (two.spelling ++ 10 ∷ [])) y)))) in
    let to = number_unique 32 f.to e.to ((one.spelling ++ 10 ∷ []) ++ x) ((two.spelling ++ 10 ∷ []) ++ y) no_digit_space two.to one.to
    (sym (append_assoc (number_then 32 e.to) (one.spelling ++ 10 ∷ []) x)
    ∙ (from.1 ∙ append_assoc (number_then 32 f.to) (two.spelling ++ 10 ∷ []) y)) in
    let value = string_unique one.spelling two.spelling e.bytes f.bytes (10 ∷ x) (10 ∷ y) one.string two.string
    (sym (append_assoc one.spelling (10 ∷ []) x) ∙ (to.1 ∙ append_assoc two.spelling (10 ∷ []) y)) in
    let rest : x ≡ y = tail_of x y value.2 in
    (ap (λ z. edit_of z e.to e.bytes) from.0 ∙ (ap (λ z. edit_of f.from z e.bytes) to.0 ∙ ap (edit_of f.from f.to) value.1), rest)
  where
    tail_of : (x y : List ℕ) → 10 ∷ x ≡ 10 ∷ y → x ≡ y
    tail_of x y e = cc

-- a line isn't empty
pub line_some : (l : List ℕ) (e : Edit) → IsLineOf l e → 0 < length l
line_some l e line =
    let long = ap length line.is in
    let one = length-append (number_then 32 e.from) (number_then 32 e.to ++ (line.spelling ++ 10 ∷ [])) in
    let two = length-append (number_then 32 e.to) (line.spelling ++ 10 ∷ []) in
    let three = length-append line.spelling (10 ∷ []) in
    omega (arith, long, one, two, three)

pub line_shorter : (text after : List ℕ) (e : Edit) → BeginsLine text e after → length after < length text
line_shorter text after e (line, is_line, is) =
    let long = ap length is in
    let sum = length-append line after in
    let some = line_some line e is_line in
    omega (arith, long, sum, some)
