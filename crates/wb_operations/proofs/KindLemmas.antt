-- The standard operations take and give plain kinds, and each gives values of its kind.
use Rattle.std.proofs.Common.{◌≡◌, ◌<◌, ℕ, zero, suc, ℤ, Bool, true, false, List, [], ◌∷◌, Some, All, map, length, slice_get, get_or, refl}
use Rattle.std.proofs.Common.{sym, ap, subst, ◌∙◌, arith}
use Rattle.std.specs.Prelude.{◌+ℤ◌, ◌-ℤ◌, ◌*ℤ◌, ◌++◌, if◌then◌else◌, pos, negsuc, neg_ℤ, int_div, int_rem, nat_le, drop}
use Rattle.std.specs.Char.{is_ascii_digit}
use Rattle.std.specs.Str.Parse.{starts_with_minus, digits_value}
use Rattle.std.proofs.lemmas.List.Elements.{All-nil, All-cons}
use Rattle.std.proofs.lemmas.List.{get_or-map, length-map}
use Rattle.std.proofs.lemmas.Option.{slice_get-get_or, get_or_from_slice_get, same_Some}
use Rattle.wb_base.specs.declared.symbol.Kind.{Kind}
use Rattle.wb_base.specs.declared.symbol.Kind.TheVariants as kind
use Rattle.wb_base.specs.Decimal.{signed}
use Rattle.wb_values.specs.Tree.{Plain, int, bool, text}
use Rattle.wb_values.specs.Kinds.{kind_of, AreOfKinds}
use Rattle.wb_values.specs.declared.value.Value.{Value}
use Rattle.wb_values.specs.declared.value.Value.TheVariants.{Int, Bool as Truth, Text, Tree}
use Rattle.wb_operations.specs.Given.{Given, gives, fails, FitKinds, IsPlainKind, GivesKind, plains_of}
use Rattle.wb_operations.specs.Operations.{OperationSignature, IsPlainSignature, KeepsKinds}
use Rattle.wb_operations.specs.Takes.{one_int, two_ints, one_bool, two_bools, one_text, two_texts, of_int, of_ints, of_bool, of_bools}
use Rattle.wb_operations.specs.Takes.{of_text, of_texts}
use Rattle.wb_operations.specs.Rows.{is_inside, inside, divided, quotient, remainder, joined, is_numeral, inside_or_none, written}
use Rattle.wb_operations.specs.Rows.{number_of}
use Rattle.wb_operations.specs.Standard.{StandardOperation, row, standard_operations, standard_at, standard_signature, standard}
use Rattle.wb_operations.specs.Standard.{standard_signatures}

-- stored values of plain kinds are plain values of them
pub plains_fit : (kinds : List Kind) (vs : List Value) → FitKinds kinds vs → AreOfKinds kinds (plains_of vs)
plains_fit [] [] fits = refl
plains_fit [] (v ∷ vs) fits = absurd fits
plains_fit (k ∷ kinds) [] fits = absurd fits
plains_fit (kind.Int ∷ kinds) (Int z ∷ vs) fits = ap (λ (ks : List Kind). kind.Int ∷ ks) (plains_fit kinds vs fits.1)
plains_fit (kind.Bool ∷ kinds) (Truth b ∷ vs) fits = ap (λ (ks : List Kind). kind.Bool ∷ ks) (plains_fit kinds vs fits.1)
plains_fit (kind.Text ∷ kinds) (Text s ∷ vs) fits = ap (λ (ks : List Kind). kind.Text ∷ ks) (plains_fit kinds vs fits.1)
plains_fit (kind.Int ∷ kinds) (Truth b ∷ vs) fits = absurd fits.0
plains_fit (kind.Int ∷ kinds) (Text s ∷ vs) fits = absurd fits.0
plains_fit (kind.Int ∷ kinds) (Tree t ∷ vs) fits = absurd fits.0
plains_fit (kind.Bool ∷ kinds) (Int z ∷ vs) fits = absurd fits.0
plains_fit (kind.Bool ∷ kinds) (Text s ∷ vs) fits = absurd fits.0
plains_fit (kind.Bool ∷ kinds) (Tree t ∷ vs) fits = absurd fits.0
plains_fit (kind.Text ∷ kinds) (Int z ∷ vs) fits = absurd fits.0
plains_fit (kind.Text ∷ kinds) (Truth b ∷ vs) fits = absurd fits.0
plains_fit (kind.Text ∷ kinds) (Tree t ∷ vs) fits = absurd fits.0
plains_fit (kind.Tree n ∷ kinds) (Int z ∷ vs) fits = absurd fits.0
plains_fit (kind.Tree n ∷ kinds) (Truth b ∷ vs) fits = absurd fits.0
plains_fit (kind.Tree n ∷ kinds) (Text s ∷ vs) fits = absurd fits.0
plains_fit (kind.Tree n ∷ kinds) (Tree t ∷ vs) fits = absurd fits.0

-- an int gives what it gives for each int
int_gives : (k : Kind) (given : ℤ → Given) → ((x : ℤ) → GivesKind k (given x)) → (ps : List Plain) → AreOfKinds one_int ps → GivesKind k
    (of_int given ps)
int_gives k given all [] are = cc
int_gives k given all (int x ∷ []) are = all x
int_gives k given all (bool x ∷ ps) are = cc
int_gives k given all (text x ∷ ps) are = cc
int_gives k given all (int x ∷ p ∷ ps) are = cc

-- two ints
pub ints_give : (k : Kind) (given : ℤ → ℤ → Given) → ((x y : ℤ) → GivesKind k (given x y)) → (ps : List Plain) → AreOfKinds two_ints ps
    → GivesKind k (of_ints given ps)
ints_give k given all [] are = cc
ints_give k given all (bool x ∷ ps) are = cc
ints_give k given all (text x ∷ ps) are = cc
ints_give k given all (int x ∷ []) are = cc
ints_give k given all (int x ∷ int y ∷ []) are = all x y
ints_give k given all (int x ∷ bool y ∷ ps) are = cc
ints_give k given all (int x ∷ text y ∷ ps) are = cc
ints_give k given all (int x ∷ int y ∷ p ∷ ps) are = cc

-- a truth value
bool_gives : (k : Kind) (given : Bool → Given) → ((x : Bool) → GivesKind k (given x)) → (ps : List Plain) → AreOfKinds one_bool ps
    → GivesKind k (of_bool given ps)
bool_gives k given all [] are = cc
bool_gives k given all (bool x ∷ []) are = all x
bool_gives k given all (int x ∷ ps) are = cc
bool_gives k given all (text x ∷ ps) are = cc
bool_gives k given all (bool x ∷ p ∷ ps) are = cc

-- two truth values
bools_give : (k : Kind) (given : Bool → Bool → Given) → ((x y : Bool) → GivesKind k (given x y)) → (ps : List Plain)
    → AreOfKinds two_bools ps → GivesKind k (of_bools given ps)
bools_give k given all [] are = cc
bools_give k given all (int x ∷ ps) are = cc
bools_give k given all (text x ∷ ps) are = cc
bools_give k given all (bool x ∷ []) are = cc
bools_give k given all (bool x ∷ bool y ∷ []) are = all x y
bools_give k given all (bool x ∷ int y ∷ ps) are = cc
bools_give k given all (bool x ∷ text y ∷ ps) are = cc
bools_give k given all (bool x ∷ bool y ∷ p ∷ ps) are = cc

-- a text
pub text_gives : (k : Kind) (given : List ℕ → Given) → ((x : List ℕ) → GivesKind k (given x)) → (ps : List Plain) → AreOfKinds one_text ps
    → GivesKind k (of_text given ps)
text_gives k given all [] are = cc
text_gives k given all (text x ∷ []) are = all x
text_gives k given all (int x ∷ ps) are = cc
text_gives k given all (bool x ∷ ps) are = cc
text_gives k given all (text x ∷ p ∷ ps) are = cc

-- two texts
texts_give : (k : Kind) (given : List ℕ → List ℕ → Given) → ((x y : List ℕ) → GivesKind k (given x y)) → (ps : List Plain)
    → AreOfKinds two_texts ps → GivesKind k (of_texts given ps)
texts_give k given all [] are = cc
texts_give k given all (int x ∷ ps) are = cc
texts_give k given all (bool x ∷ ps) are = cc
texts_give k given all (text x ∷ []) are = cc
texts_give k given all (text x ∷ text y ∷ []) are = all x y
texts_give k given all (text x ∷ int y ∷ ps) are = cc
texts_give k given all (text x ∷ bool y ∷ ps) are = cc
texts_give k given all (text x ∷ text y ∷ p ∷ ps) are = cc

-- a choice gives a kind where both parts do
pub chosen : (k : Kind) (b : Bool) (g h : Given) → GivesKind k g → GivesKind k h → GivesKind k (if b then g else h)
chosen k true g h first second = first
chosen k false g h first second = second

-- a number that is inside is an int
pub inside_gives : (z : ℤ) → GivesKind kind.Int (inside z)
inside_gives z = chosen kind.Int (is_inside z) (gives (int z)) (fails 1) tt tt

-- a quotient or a rest is an int
divided_gives : (y : ℤ) (g : Given) → GivesKind kind.Int g → GivesKind kind.Int (divided y g)
divided_gives (pos zero) g is = tt
divided_gives (pos (suc n)) g is = is
divided_gives (negsuc n) g is = is

-- what is left is an int
remainder_gives : (x y : ℤ) → GivesKind kind.Int (remainder x y)
remainder_gives x y =
    divided_gives y (if is_inside (int_div x y) then gives (int (int_rem x y)) else fails 1)
    (chosen kind.Int (is_inside (int_div x y)) (gives (int (int_rem x y))) (fails 1) tt tt)

-- two texts joined are a text
joined_gives : (x y : List ℕ) → GivesKind kind.Text (joined x y)
joined_gives x y = chosen kind.Text (nat_le (length (x ++ y)) 16777216) (gives (text (x ++ y))) (fails 4) tt tt

-- a number that a text writes is an int
number_gives : (x : List ℕ) → GivesKind kind.Int (number_of x)
number_gives x =
    let one = λ (z : ℤ). chosen kind.Int (is_inside z) (gives (int z)) (fails 3) tt tt in
    let sign = λ (negative : Bool) (ds : List ℕ). chosen kind.Int (is_numeral ds) (inside_or_none (signed negative (digits_value 10 ds)))
    (fails 3) (one (signed negative (digits_value 10 ds))) tt in
    chosen kind.Int (starts_with_minus x) (written true (drop 1 x)) (written false x) (sign true (drop 1 x)) (sign false x)

-- the signature is of plain kinds, and what is given is of the kind
pub record IsSound (o : StandardOperation) : Type 0 where
  pub plain : IsPlainSignature o.signature
  pub kind : (ps : List Plain) → AreOfKinds o.signature.takes ps → GivesKind o.signature.gives (o.given ps)

-- no kinds but plain ones
one_plain : (k : Kind) → IsPlainKind k → All IsPlainKind (k ∷ [])
one_plain k is = All-cons IsPlainKind k [] is (All-nil IsPlainKind)

two_plain : (k l : Kind) → IsPlainKind k → IsPlainKind l → All IsPlainKind (k ∷ l ∷ [])
two_plain k l is also = All-cons IsPlainKind k (l ∷ []) is (one_plain l also)

-- each of the operations is sound
abbrev AllSound : List StandardOperation → Type 0
AllSound [] = Unit {0}
AllSound (o ∷ os) = IsSound o × AllSound os

-- an operation of one kind, and of two
one_sound : (name : List ℕ) (k l : Kind) (given : List Plain → Given) → IsPlainKind k → IsPlainKind l →
    ((ps : List Plain) → AreOfKinds (k ∷ []) ps → GivesKind l (given ps))
    → IsSound (row name (k ∷ []) l given)
one_sound name k l given taken made kind = record { plain = record { takes_plain = one_plain k taken; gives_plain = made }; kind = kind }

two_sound : (name : List ℕ) (k l : Kind) (given : List Plain → Given) → IsPlainKind k → IsPlainKind l →
    ((ps : List Plain) → AreOfKinds (k ∷ k ∷ []) ps → GivesKind l (given ps))
    → IsSound (row name (k ∷ k ∷ []) l given)
two_sound name k l given taken made kind =
    record { plain = record { takes_plain = two_plain k k taken taken; gives_plain = made }; kind = kind }

-- each standard operation is sound
all_sound : AllSound standard_operations
unfolding standard_operations
all_sound = (
  two_sound _ kind.Int kind.Int _ tt tt (ints_give kind.Int (λ x y. inside (x +ℤ y)) (λ x y. inside_gives (x +ℤ y))),
  (
    two_sound _ kind.Int kind.Int _ tt tt (ints_give kind.Int (λ x y. inside (x -ℤ y)) (λ x y. inside_gives (x -ℤ y))),
    (
      two_sound _ kind.Int kind.Int _ tt tt (ints_give kind.Int (λ x y. inside (x *ℤ y)) (λ x y. inside_gives (x *ℤ y))),
      (
        two_sound _ kind.Int kind.Int _ tt tt (ints_give kind.Int quotient
            (λ x y. divided_gives y (inside (int_div x y)) (inside_gives (int_div x y)))),
        (
          two_sound _ kind.Int kind.Int _ tt tt (ints_give kind.Int remainder remainder_gives),
          (
            one_sound _ kind.Int kind.Int _ tt tt (int_gives kind.Int (λ x. inside (neg_ℤ x)) (λ x. inside_gives (neg_ℤ x))),
            (
              two_sound _ kind.Int kind.Bool _ tt tt (ints_give kind.Bool _ (λ x y. tt)),
              (
                two_sound _ kind.Int kind.Bool _ tt tt (ints_give kind.Bool _ (λ x y. tt)),
                (
                  two_sound _ kind.Text kind.Bool _ tt tt (texts_give kind.Bool _ (λ x y. tt)),
                  (
                    one_sound _ kind.Bool kind.Bool _ tt tt (bool_gives kind.Bool _ (λ x. tt)),
                    (
                      two_sound _ kind.Bool kind.Bool _ tt tt (bools_give kind.Bool _ (λ x y. tt)),
                      (
                        two_sound _ kind.Bool kind.Bool _ tt tt (bools_give kind.Bool _ (λ x y. tt)),
                        (
                          two_sound _ kind.Text kind.Text _ tt tt (texts_give kind.Text joined joined_gives),
                          (
                            one_sound _ kind.Text kind.Int _ tt tt (text_gives kind.Int _ (λ x. tt)),
                            (
                              one_sound _ kind.Int kind.Text _ tt tt (int_gives kind.Text _ (λ x. tt)),
                              (one_sound _ kind.Text kind.Int _ tt tt (text_gives kind.Int number_of number_gives), tt),
                            ),
                          ),
                        ),
                      ),
                    ),
                  ),
                ),
              ),
            ),
          ),
        ),
      ),
    ),
  ),
)

-- one of them is
sound_in : (os : List StandardOperation) (k : ℕ) (o : StandardOperation) → AllSound os → slice_get os k ≡ Some o → IsSound o
sound_in [] k o all at = cc
sound_in (x ∷ os) zero o all at = subst IsSound (same_Some x o at) all.0
sound_in (x ∷ os) (suc k) o all at = sound_in os k o all.1 at

-- there are sixteen
pub standard_count : length standard_operations ≡ 16
unfolding standard_operations
standard_count = refl

-- the operation of a number is at its place
pub operation_at : (k : ℕ) → k < 16 → slice_get standard_operations k ≡ Some (standard_at k)
unfolding standard_at
operation_at k lt = slice_get-get_or standard_operations k _ (omega (arith, standard_count, lt))

-- the operation of a number is sound
pub sound_at : (k : ℕ) → k < 16 → IsSound (standard_at k)
sound_at k lt = sound_in standard_operations k (standard_at k) all_sound (operation_at k lt)

-- the signature of a number is at its place
pub signature_at : (k : ℕ) → k < 16 → slice_get standard_signatures k ≡ Some (standard_signature k)
signature_at k lt =
    let f = λ (o : StandardOperation). o.signature in
    slice_get-get_or standard_signatures k (standard_signature k) (omega (arith, length-map standard_operations f, standard_count, lt))
    ∙ ap Some (get_or-map f standard_operations k (standard_at k) (standard_signature k) (omega (arith, standard_count, lt))
    ∙ ap f (get_or_from_slice_get standard_operations k (standard_at k) (standard_at k) (operation_at k lt)))
