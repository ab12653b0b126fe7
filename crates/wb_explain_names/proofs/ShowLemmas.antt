-- What is said grows by words and by places, and a token that is the name is shown as one.
use Rattle.std.proofs.Common.{◌≡◌, ◌++◌, ◌∷◌, ◌+◌, ◌∙◌, ℕ, zero, suc, ◌<◌, List, [], length, take, get_or, map, refl, sym, ap, arith, subst, inl, inr}
use Rattle.std.proofs.lemmas.Option.{slice_get-get_or}
use Rattle.wb_lemmas.proofs.Parts.{append_assoc}
use Rattle.wb_explain_places.specs.Place.{Shows}
use Rattle.wb_reader_places.specs.declared.tokens.TokenPlace.{TokenPlace}
use Rattle.wb_explain_names.specs.Said.{Says, SaysWords, nothing, words, own_place, host_place, without_caret}
use Rattle.wb_explain_names.specs.Inner.Shown.{AreOf, IsNameToken, IsTokenOf, MayShow}

-- a token of a number is one of the text
pub token_at : (text : List ℕ) (tokens : List TokenPlace) (number : ℕ) (default : TokenPlace) → AreOf text tokens → number < length tokens
    → IsTokenOf text (get_or tokens number default)
token_at text tokens number default are within = record {
  tokens = tokens;
  are = are;
  number = number;
  there = slice_get-get_or tokens number default within;
}

-- a token that is the name is shown
pub shown_name : (file text name old new : List ℕ) (place : TokenPlace) → IsTokenOf text place → IsNameToken text name place
    → Shows file text place.at (old ++ 10 ∷ []) new → MayShow file text name old new
shown_name file text name old new place token is shows = inr (
  place.at,
  record {
    dialect = token.are.0;
    places = token.tokens;
    are = token.are.1;
    number = token.number;
    place = place;
    there = token.there;
    is_name = is.kind;
    begins = refl;
    reads = is.reads;
  },
  shows,
)

-- more of the file may be shown
pub own_more : (file text host_file host name first old new : List ℕ) → MayShow file text name old new
    → Says file text host_file host name first old → Says file text host_file host name first new
own_more file text host_file host name first old new (inl same) says = subst (Says file text host_file host name first) (sym same) says
own_more file text host_file host name first old new (inr shows) says = own_place says shows

-- and of its host
pub host_more : (file text host_file host name first old new : List ℕ) → MayShow host_file host name old new
    → Says file text host_file host name first old → Says file text host_file host name first new
host_more file text host_file host name first old new (inl same) says = subst (Says file text host_file host name first) (sym same) says
host_more file text host_file host name first old new (inr shows) says = host_place says shows

-- words are said
pub words_said : (old new bytes : List ℕ) → new ≡ old ++ map without_caret bytes → SaysWords old new
words_said old new bytes is = (bytes, is)

-- nothing is said yet
pub nothing_yet : (file text host_file host name old : List ℕ) → Says file text host_file host name old old
nothing_yet file text host_file host name old = nothing refl

-- words more
pub words_more : (file text host_file host name old middle new : List ℕ) → Says file text host_file host name old middle
    → SaysWords middle new → Says file text host_file host name old new
words_more file text host_file host name old middle new says more = words says more

-- what is made of the bytes so far, with one more
map_more : (f : ℕ → ℕ) (xs : List ℕ) (i : ℕ) → i < length xs → map f (take (i + 1) xs) ≡ map f (take i xs) ++ f (get_or xs i 0) ∷ []
map_more f [] i within = absurd (omega (arith, within))
map_more f (x ∷ xs) zero within = refl
map_more f (x ∷ xs) (suc i) within =
    let count : suc i + 1 ≡ suc (i + 1) = omega arith in
    ap (λ (k : ℕ). map f (take k (x ∷ xs))) count ∙ ap (λ ys. f x ∷ ys) (map_more f xs i (omega (arith, within)))

-- what was pushed, with one byte more
pub mapped_more : (f : ℕ → ℕ) (xs before out after : List ℕ) (i y : ℕ) → i < length xs → out ≡ before ++ map f (take i xs)
    → y ≡ f (get_or xs i 0) → after ≡ out ++ y ∷ [] → after ≡ before ++ map f (take (i + 1) xs)
mapped_more f xs before out after i y within was is now =
    now ∙ (ap (λ ys. ys ++ y ∷ []) was ∙ (append_assoc before (map f (take i xs)) (y ∷ [])
    ∙ ap (λ ys. before ++ ys) (ap (λ z. map f (take i xs) ++ z ∷ []) is ∙ sym (map_more f xs i within))))
