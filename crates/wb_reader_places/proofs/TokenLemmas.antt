-- One token more, none yet, and all of them.
use Rattle.std.proofs.Common.{◌≡◌, ◌<◌, ◌≤◌, ℕ, length, IfSome, List, [], ◌∷◌, ◌++◌, Option, Some, None, map, refl, ap, sym, subst, ◌∙◌}
use Rattle.wb_text_predictive.specs.declared.table.Placed.{Placed}
use Rattle.wb_text_predictive.specs.declared.table.Next.{Next}
use Rattle.wb_text_predictive.specs.declared.table.Next.TheVariants.{Found, End, NoToken}
use Rattle.wb_text_predictive.specs.Reading.{Spells, none, next}
use Rattle.wb_text_tokens.specs.declared.token.Dialect.{Dialect}
use Rattle.wb_text_tokens.specs.declared.token.Token.{Token}
use Rattle.wb_text_tokens.specs.NextToken.{IsNextIn}
use Rattle.wb_reader_places.specs.declared.tokens.TokenPlace.{TokenPlace}
use Rattle.wb_reader_places.specs.Tokens.{AreFirst, IsNextPlace, place_in, place_of}

-- no token yet
pub none_yet : (dialect : Dialect) (text : List ℕ) (places : List TokenPlace) → places ≡ [] → AreFirst dialect text places 0
none_yet dialect text places is = record { tokens = []; spelled = none refl; are = is }

-- one token more is spelled
spelled_more : {X : Type 0} (IsNext : ℕ → Next X → Type 0) (from to : ℕ) (xs : List (Placed X)) (x : Placed X) → Spells IsNext from xs to
    → IsNext to (Found x) → Spells IsNext from (xs ++ x ∷ []) x.end
spelled_more IsNext from to [] x (none e) n = next (subst (λ i. IsNext i (Found x)) (sym e) n) (none refl)
spelled_more IsNext from to (y ∷ xs) x (next m s) n = next m (spelled_more IsNext y.end to xs x s n)

-- and has its place after the others
mapped_more : (tokens : List (Placed Token)) (x : Placed Token) → map place_of (tokens ++ x ∷ []) ≡ map place_of tokens ++ place_of x ∷ []
mapped_more [] x = refl
mapped_more (y ∷ tokens) x = ap (λ z. place_of y ∷ z) (mapped_more tokens x)

-- the token that is next is the next of the first
next_token : (dialect : Dialect) (text : List ℕ) (places new : List TokenPlace) (from : ℕ) (x : Placed Token)
    → AreFirst dialect text places from → IsNextIn dialect text from (Found x) → new ≡ places ++ place_of x ∷ []
    → AreFirst dialect text new x.end
next_token dialect text places new from x first is more = record {
  tokens = first.tokens ++ x ∷ [];
  spelled = spelled_more (IsNextIn dialect text) 0 from first.tokens x first.spelled is;
  are = more ∙ (ap (λ z. z ++ place_of x ∷ []) first.are ∙ sym (mapped_more first.tokens x));
}

-- one token more
pub one_more : (dialect : Dialect) (text : List ℕ) (places new : List TokenPlace) (from : ℕ) (found : Option TokenPlace) (place : TokenPlace)
    → found ≡ Some place → AreFirst dialect text places from → IsNextPlace dialect text from found → new ≡ places ++ place ∷ []
    → AreFirst dialect text new place.end
one_more dialect text places new from found place is first (n, is_next, found_is) more = go n is_next (sym is ∙ found_is)
  where
    go : (n : Next Token) → IsNextIn dialect text from n → Some place ≡ place_in n → AreFirst dialect text new place.end
    go (Found x) next_is same =
        let e : place ≡ place_of x = cc in
        subst (λ (p : TokenPlace). AreFirst dialect text new p.end) (sym e)
        (next_token dialect text places new from x first next_is (subst (λ p. new ≡ places ++ p ∷ []) e more))
    go (End at) next_is same = absurd (cc)
    go (NoToken at) next_is same = absurd (cc)

-- it ends within the text
pub ends_within : (from : ℕ) (text : List ℕ) (found : Option TokenPlace) (place : TokenPlace) → found ≡ Some place
    → IfSome found (λ (p : TokenPlace). (from < p.end) × (p.end ≤ length text)) → place.end ≤ length text
ends_within from text found place is within =
    (subst (λ (o : Option TokenPlace). IfSome o (λ (p : TokenPlace). (from < p.end) × (p.end ≤ length text))) is within).1
