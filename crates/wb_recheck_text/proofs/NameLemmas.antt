-- Names with a byte that ends them.
use Rattle.std.proofs.Common.{◌≡◌, ◌≢◌, ◌<◌, ◌≤◌, ◌+◌, ◌⊎◌, ℕ, zero, suc, List}
use Rattle.std.proofs.Common.{[], ◌∷◌, ◌++◌, Bool, true, false, cond, ◌||◌, ◌&&◌, length, get_or}
use Rattle.std.proofs.Common.{take, drop, refl, sym, ap, ◌∙◌, subst, inl, inr, arith}
use Rattle.std.specs.Prelude.{◌==◌, Contains}
use Rattle.std.specs.Char.{is_ascii_digit}
use Rattle.std.specs.List.{list_all}
use Rattle.std.proofs.lemmas.List.{take-append-drop, take_more}
use Rattle.wb_base.specs.Identifiers.{IsIdentifier, IsName, IsReserved, is_letter, is_name_byte, reserved_words}
use Rattle.wb_lemmas.proofs.Booleans.{and_left, and_right, and_both, or_left}
use Rattle.wb_lemmas.proofs.Members.{contains_cases, nothing_in}
use Rattle.wb_lemmas.proofs.Parts.{append_assoc}
use Rattle.wb_recheck_text.specs.Text.{name_then}
use Rattle.wb_recheck_text.specs.Inner.Parts.{Begins, HasNoLetter, IsPrefixFree, IsRun, IsStop, NamesThen}
use Rattle.wb_recheck_text.proofs.StopLemmas.{append_cases, append_none, stop_here}
use Rattle.wb_recheck_text.proofs.WordLemmas.{head_at, none_at}

-- whether the last byte is `_`
abbrev pub ends_so : List ℕ → Bool
ends_so [] = false
ends_so (b ∷ []) = b == 95
ends_so (b ∷ c ∷ x) = ends_so (c ∷ x)

ends_pushed : (x : List ℕ) → ends_so (x ++ 95 ∷ []) ≡ true
ends_pushed [] = refl
ends_pushed (b ∷ []) = refl
ends_pushed (b ∷ c ∷ x) = ends_pushed (c ∷ x)

-- whether none of the texts ends so
abbrev pub none_ends : List (List ℕ) → Bool
none_ends [] = true
none_ends (w ∷ l) = cond (ends_so w) false (none_ends l)

no_word_ends : none_ends reserved_words ≡ true
unfolding reserved_words
no_word_ends = refl

none_in : (l : List (List ℕ)) → none_ends l ≡ true → (y : List ℕ) → Contains l y → ends_so y ≡ true → ⊥
none_in [] e y has t = nothing_in y has
none_in (w ∷ l) e y has t = step (ends_so w) refl e (λ f more. none_in l f y more t) (contains_cases w y l has) where
  step : (b : Bool) → ends_so w ≡ b → cond b false (none_ends l) ≡ true → (none_ends l ≡ true → Contains l y → ⊥) →
      (w ≡ y) ⊎ Contains l y → ⊥
  step true is f again c = cc
  step false is f again (inl same) = let other : ends_so y ≡ false = ap ends_so (sym same) ∙ is in let both : true ≡ false = sym t
      ∙ other in cc
  step false is f again (inr more) = again f more

-- no reserved word ends so
pub not_reserved : (x : List ℕ) → ¬ IsReserved (x ++ 95 ∷ [])
not_reserved x has = none_in reserved_words no_word_ends (x ++ 95 ∷ []) has (ends_pushed x)

all_pushed : (x : List ℕ) (b : ℕ) → list_all is_name_byte x ≡ true → is_name_byte b ≡ true → list_all is_name_byte (x ++ b ∷ []) ≡ true
all_pushed [] b all is = and_both (is_name_byte b) true is refl
all_pushed (a ∷ x) b all is =
    and_both (is_name_byte a) (list_all is_name_byte (x ++ b ∷ [])) (and_left (is_name_byte a) (list_all is_name_byte x) all)
    (all_pushed x b (and_right (is_name_byte a) (list_all is_name_byte x) all) is)

-- an identifier goes on by the bytes of names
pub identifier_longer : (x : List ℕ) (b : ℕ) → IsIdentifier x → is_name_byte b ≡ true → IsIdentifier (x ++ b ∷ [])
identifier_longer [] b i is = absurd i
identifier_longer (a ∷ x) b i is = (i.0, all_pushed x b i.1 is)

-- and has only such bytes
pub identifier_bytes : (x : List ℕ) → IsIdentifier x → list_all is_name_byte x ≡ true
identifier_bytes [] i = absurd i
identifier_bytes (a ∷ x) i = and_both (is_name_byte a) (list_all is_name_byte x) (or_left (is_letter a) (is_ascii_digit a) i.0) i.1

byte_in : (y m : List ℕ) (c : ℕ) → list_all is_name_byte (y ++ c ∷ m) ≡ true → is_name_byte c ≡ true
byte_in [] m c all = and_left (is_name_byte c) (list_all is_name_byte m) all
byte_in (b ∷ y) m c all = byte_in y m c (and_right (is_name_byte b) (list_all is_name_byte (y ++ c ∷ m)) all)

-- two names at the beginning, each with another byte after it, are the same
pub name_meets : (end : ℕ) (x y u after : List ℕ) → is_name_byte end ≡ false → list_all is_name_byte x ≡ true →
    list_all is_name_byte y ≡ true → ((c : ℕ) (tail : List ℕ) → u ≡ c ∷ tail → is_name_byte c ≡ false) → x ++ u ≡ y ++ end ∷ after →
    (x ≡ y) × (u ≡ end ∷ after)
name_meets end x y u after other all_x all_y stops is =
    elim (append_cases x u y (end ∷ after) is) [ inl (m, f, g) ↦ within m f g | inr (m, f, g) ↦ longer m f g ]
  where
    never : (c : ℕ) → is_name_byte c ≡ true → is_name_byte c ≡ false → ⊥
    never c t f = let both : true ≡ false = sym t ∙ f in cc

    within : (m : List ℕ) → x ≡ y ++ m → end ∷ after ≡ m ++ u → (x ≡ y) × (u ≡ end ∷ after)
    within [] f g = (f ∙ append_none y, sym g)
    within (c ∷ m) f g =
        let same : c ≡ end = cc in
        absurd (never c (byte_in y m c (subst (λ l. list_all is_name_byte l ≡ true) f all_x)) (ap is_name_byte same ∙ other))

    longer : (m : List ℕ) → y ≡ x ++ m → u ≡ m ++ end ∷ after → (x ≡ y) × (u ≡ end ∷ after)
    longer [] f g = (sym (f ∙ append_none x), g)
    longer (c ∷ m) f g =
        absurd (never c (byte_in x m c (subst (λ l. list_all is_name_byte l ≡ true) f all_y)) (stops c (m ++ end ∷ after) g))

-- what ends a name is no byte of one
ends : (end : ℕ) (v : List ℕ) → is_name_byte end ≡ false → (c : ℕ) (tail : List ℕ) → end ∷ v ≡ c ∷ tail → is_name_byte c ≡ false
ends end v other c tail is = let same : c ≡ end = cc in ap is_name_byte same ∙ other

-- so a name with its end is at the beginning of no text with another
pub name_unique : (end : ℕ) (x y u v : List ℕ) → is_name_byte end ≡ false → IsName x → IsName y →
    name_then end x ++ u ≡ name_then end y ++ v →
    (x ≡ y) × (u ≡ v)
name_unique end x y u v other name_x name_y is =
    let both = name_meets end x y (end ∷ u) v other (identifier_bytes x name_x.identifier) (identifier_bytes y name_y.identifier)
    (ends end u other) (sym (append_assoc x (end ∷ []) u) ∙ (is ∙ append_assoc y (end ∷ []) v)) in
    let rest : u ≡ v = tails both.1 in
    (both.0, rest)
  where
    tails : end ∷ u ≡ end ∷ v → u ≡ v
    tails e = cc

pub names_free : (end : ℕ) → is_name_byte end ≡ false → IsPrefixFree (NamesThen end)
names_free end other a b u v (x, name_x, is) (y, name_y, is') e =
    let both : name_then end x ++ u ≡ name_then end y ++ v = ap (λ l. l ++ u) (sym is) ∙ (e ∙ ap (λ l. l ++ v) is') in
    is ∙ (ap (name_then end) (name_unique end x y u v other name_x name_y both).0 ∙ sym is')

-- a name at the beginning and its end
pub name_read : (text name after : List ℕ) (at end : ℕ) → IsRun text at → name ≡ take at text → after ≡ drop at text →
    after ≡ end ∷ drop 1 after → ¬ IsReserved name → Begins IsName (name_then end) text name (drop 1 after)
name_read text name after at end run is rest ended free =
    let identifier : IsIdentifier name = subst IsIdentifier (sym is) run.identifier in (
      record { identifier = identifier; free = free },
      sym (take-append-drop at text)
          ∙ (ap (λ l. l ++ drop at text) (sym is) ∙ (ap (λ l. name ++ l) (sym rest ∙ ended)
          ∙ sym (append_assoc name (end ∷ []) (drop 1 after)))),
    )

-- an identifier at the beginning that another byte ends, or that is reserved
module _ (text after : List ℕ) (at end : ℕ) (other : is_name_byte end ≡ false) (run : IsRun text at) (is : after ≡ drop at text)
    (why : (tail : List ℕ) → IsName (take at text) → after ≢ end ∷ tail) where
  split_at : text ≡ take at text ++ after
  split_at = sym (take-append-drop at text) ∙ ap (λ l. take at text ++ l) (sym is)

  longer_name : IsName (take at text ++ 95 ∷ [])
  longer_name = record {
    identifier = identifier_longer (take at text) 95 run.identifier refl;
    free = not_reserved (take at text);
  }

  -- no name goes on so
  stuck : (name u next : List ℕ) → IsName name → ((c : ℕ) (tail : List ℕ) → u ≡ c ∷ tail → is_name_byte c ≡ false) →
      take at text ++ u ≡ name ++ end ∷ next → (IsName (take at text) → u ≢ end ∷ next) → ⊥
  stuck name u next is_name stops e never =
      let both = name_meets end (take at text) name u next other (identifier_bytes (take at text) run.identifier)
      (identifier_bytes name is_name.identifier) stops e in
      never (subst IsName (sym both.0) is_name) both.1

  rest_stops : (c : ℕ) (tail : List ℕ) → after ≡ c ∷ tail → is_name_byte c ≡ false
  rest_stops c tail there = run.last c tail (sym is ∙ there)

  further : (b : ℕ) (next tail : List ℕ) → after ≡ b ∷ next → (name : List ℕ) → IsName name →
      take at text ++ b ∷ tail ≡ name_then end name → ⊥
  further b next tail there name is_name e =
      stuck name (b ∷ tail) [] is_name
      (λ c more same. (let head : b ≡ c = cc in subst (λ z. is_name_byte z ≡ false) head (rest_stops b next there)))
      e
      (λ n same. (let head : b ≡ end = cc in why next n (there ∙ ap (λ z. z ∷ next) head)))

  whole : (part next name : List ℕ) → IsName name → part ≡ name_then end name → text ≡ part ++ next → ⊥
  whole part next name is_name e same =
      stuck name after next is_name rest_stops
      (sym split_at ∙ (same ∙ (ap (λ l. l ++ next) e ∙ append_assoc name (end ∷ []) next)))
      (λ n there. why next n there)

  pub name_stopped : IsStop (NamesThen end) text after
  name_stopped = record {
    front = take at text;
    split = split_at;
    more = 95 ∷ end ∷ [];
    begins = (take at text ++ 95 ∷ [], longer_name, sym (append_assoc (take at text) (95 ∷ []) (end ∷ [])));
    no_further = λ b next tail there (name, is_name, e). further b next tail there name is_name e;
    no_whole = λ part next (name, is_name, e) same. whole part next name is_name e same;
  }

-- where another byte is after it
pub name_stopped_byte : (text after : List ℕ) (at end : ℕ) → is_name_byte end ≡ false → IsRun text at → after ≡ drop at text →
    ((tail : List ℕ) → after ≢ end ∷ tail) → IsStop (NamesThen end) text after
name_stopped_byte text after at end other run is differs = name_stopped text after at end other run is (λ tail n. differs tail)

-- where it is reserved
pub name_stopped_word : (text name after : List ℕ) (at end : ℕ) → is_name_byte end ≡ false → IsRun text at → after ≡ drop at text →
    name ≡ take at text → IsReserved name → IsStop (NamesThen end) text after
name_stopped_word text name after at end other run is same reserved =
    name_stopped text after at end other run is (λ tail n there. n.free (subst IsReserved same reserved))

pub letter_name : IsName (95 ∷ [])
letter_name = record { identifier = (refl, refl); free = not_reserved [] }

-- where there is no letter
pub name_none : (text : List ℕ) (end : ℕ) → HasNoLetter text → IsStop (NamesThen end) text text
name_none text end none =
    stop_here text (95 ∷ end ∷ []) (95 ∷ [], letter_name, refl)
    (λ b after tail is (name, is_name, e). never b after tail name is (none b after is) is_name.identifier e)
    (λ (name, is_name, e). empty name e)
  where
    never : (b : ℕ) (after tail name : List ℕ) → text ≡ b ∷ after → is_letter b ≡ false → IsIdentifier name →
        b ∷ tail ≡ name ++ end ∷ [] → ⊥
    never b after tail [] is f i e = i
    never b after tail (c ∷ name) is f i e = let same : c ≡ b = cc in let both : true ≡ false = sym i.0 ∙ (ap is_letter same ∙ f) in cc

    empty : (name : List ℕ) → [] ≡ name ++ end ∷ [] → ⊥
    empty [] e = cc
    empty (c ∷ name) e = cc

-- the first byte of an identifier
pub one_letter : (text : List ℕ) → 0 < length text → is_letter (get_or text 0 0) ≡ true → IsIdentifier (take 1 text)
one_letter [] some is = absurd (omega (arith, some))
one_letter (b ∷ text) some is = (is, refl)

-- no letter is first
pub no_letter : (text : List ℕ) → is_letter (get_or text 0 0) ≡ false → HasNoLetter text
no_letter text is b after there = ap is_letter (ap (λ l. get_or l 0 0) (sym there)) ∙ is

-- one byte more
pub identifier_more : (text : List ℕ) (at : ℕ) → at < length text → IsIdentifier (take at text) → is_name_byte (get_or text at 0) ≡ true →
    IsIdentifier (take (at + 1) text)
identifier_more text at within i is =
    subst IsIdentifier (sym (take_more text at 0 within)) (identifier_longer (take at text) (get_or text at 0) i is)

-- where the identifier ends
pub run_at_byte : (text : List ℕ) (at : ℕ) → at < length text → IsIdentifier (take at text) → is_name_byte (get_or text at 0) ≡ false →
    IsRun text at
run_at_byte text at within i is = record {
  within = omega (arith, within);
  identifier = i;
  last = λ b after there. ap is_name_byte (sym (head_at text at b after there)) ∙ is;
}

pub run_at_end : (text : List ℕ) (at : ℕ) → at ≤ length text → length text ≤ at → IsIdentifier (take at text) → IsRun text at
run_at_end text at within past i = record {
  within = within;
  identifier = i;
  last = λ b after there. absurd (none_at text at b after past there);
}
