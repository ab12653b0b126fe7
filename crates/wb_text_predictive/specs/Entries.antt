-- What is given of each nonterminal beside the grammar, and the test that one token of lookahead decides by it.
use Rattle.std.specs.Prelude.{ℕ, ◌+◌, suc, List, [], ◌∷◌, ◌++◌, Bool, true, false, ◌&&◌, ◌||◌, not, if◌then◌else◌, nat_lt}
use Rattle.wb_text_predictive.specs.Kinds.{implies, is_subset, are_apart}
use Rattle.wb_text_predictive.specs.declared.symbol.Symbol.{Symbol}
use Rattle.wb_text_predictive.specs.declared.symbol.Symbol.TheVariants.{Token, Nonterminal, Act}

-- what is given of a nonterminal
pub record Entry (K : Type 0) : Type 0 where
  -- for each right side, the kinds ahead at which it is chosen
  pub kinds : List (List K)
  -- whether it derives the empty text
  pub nullable : Bool
  -- the kinds with which its texts begin
  pub first : List K
  -- the kinds that can follow it, the end among them
  pub follow : List K
  -- more than the ranks in one of its right sides
  pub rank : ℕ
  -- more than may be gone through before the first token of each right side
  pub weight : ℕ

module _ {K N A : Type 0} (entries : N → Entry K) where
  -- every symbol of the row derives nothing
  abbrev pub all_nullable : List (Symbol K N A) → Bool
  all_nullable [] = true
  all_nullable (Token k ∷ f) = false
  all_nullable (Act c ∷ f) = all_nullable f
  all_nullable (Nonterminal n ∷ f) = (entries n).nullable && all_nullable f

  -- the kinds that the row can begin with
  abbrev pub firsts : List (Symbol K N A) → List K
  firsts [] = []
  firsts (Token k ∷ f) = k ∷ []
  firsts (Act c ∷ f) = firsts f
  firsts (Nonterminal n ∷ f) = (entries n).first ++ (if (entries n).nullable then firsts f else [])

  -- each nonterminal of the row has a lower rank
  abbrev pub is_below : ℕ → List (Symbol K N A) → Bool
  is_below rank [] = true
  is_below rank (Token k ∷ f) = is_below rank f
  is_below rank (Act c ∷ f) = is_below rank f
  is_below rank (Nonterminal n ∷ f) = nat_lt (entries n).rank rank && is_below rank f

  -- one of the right sides is below the rank
  abbrev pub is_some_below : ℕ → List (List (Symbol K N A)) → Bool
  is_some_below rank [] = false
  is_some_below rank (right ∷ rest) = is_below rank right || is_some_below rank rest

  -- how much may be gone through before the row's first token
  abbrev pub weight_of : List (Symbol K N A) → ℕ
  weight_of [] = 0
  weight_of (Token k ∷ f) = 0
  weight_of (Act c ∷ f) = suc (weight_of f)
  weight_of (Nonterminal n ∷ f) = (entries n).weight + (if (entries n).nullable then weight_of f else 0)

module _ {K N A : Type 0} (same : K → K → Bool) (entries : N → Entry K) where
  -- what the row begins with, and what follows it where it derives nothing, is among these kinds
  abbrev pub is_foreseen : List (Symbol K N A) → List K → List K → Bool
  is_foreseen f follow ks = is_subset same (firsts entries f) ks && implies (all_nullable entries f) (is_subset same follow ks)

module _ {K N A : Type 0} (same : K → K → Bool) (end : K) (entries : N → Entry K) where
  -- where these kinds can follow the row, what can follow each nonterminal in it is in the nonterminal's entry;
  -- and the row doesn't name the end
  abbrev pub is_followed : List K → List (Symbol K N A) → Bool
  is_followed follow [] = true
  is_followed follow (Token k ∷ f) = not (same k end) && is_followed follow f
  is_followed follow (Act c ∷ f) = is_followed follow f
  is_followed follow (Nonterminal n ∷ f) = is_foreseen same entries f follow (entries n).follow && is_followed follow f

  -- a right side agrees with its nonterminal's entry, and is chosen at these kinds
  abbrev pub is_right : Entry K → List (Symbol K N A) → List K → Bool
  is_right e right ks = is_foreseen same entries right e.follow ks && is_subset same (firsts entries right) e.first
      && implies (all_nullable entries right) e.nullable && is_followed e.follow right && nat_lt (weight_of entries right) e.weight

  -- each right side does, at the kinds beside it
  abbrev pub are_rights : Entry K → List (List (Symbol K N A)) → List (List K) → Bool
  are_rights e [] [] = true
  are_rights e [] (ks ∷ kss) = false
  are_rights e (right ∷ rest) [] = false
  are_rights e (right ∷ rest) (ks ∷ kss) = is_right e right ks && are_rights e rest kss

  -- at this nonterminal one token of lookahead decides, and it derives some text
  abbrev pub is_decided : (N → List (List (Symbol K N A))) → N → Bool
  is_decided rights n = are_rights (entries n) (rights n) (entries n).kinds && are_apart same (entries n).kinds
      && is_some_below entries (entries n).rank (rights n)
