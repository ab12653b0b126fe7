-- What a row of symbols on a stack stands for: the texts that may follow the tokens that were read.
use Rattle.std.specs.Prelude.{◌≡◌, List, [], ◌∷◌, ◌++◌, Bool, true, false}
use Rattle.wb_text_predictive.specs.declared.symbol.Symbol.{Symbol}
use Rattle.wb_text_predictive.specs.declared.symbol.Symbol.TheVariants.{Token, Nonterminal, Act}
use Rattle.wb_text_predictive.specs.declared.table.Placed.{Placed}
use Rattle.wb_text_predictive.specs.Grammar.{Grammar, Derives, IsText}
use Rattle.wb_text_predictive.specs.Entries.{Entry, firsts, all_nullable}
use Rattle.wb_text_predictive.specs.Kinds.{is_member}

-- the kind of the first of these tokens, or that of the end
abbrev pub lookahead : {K X : Type 0} → (X → K) → K → List (Placed X) → K
lookahead kind_of end [] = end
lookahead kind_of end (x ∷ w) = kind_of x.token

module _ {K N A : Type 0} (same : K → K → Bool) (end : K) (entries : N → Entry K) where
  -- every kind that can come at the row is among these, the end too where the row can be nothing
  abbrev pub Foresees : List (Symbol K N A) → List K → Type 0
  Foresees f ks = ((k : K) → is_member same k (firsts entries f) ≡ true → is_member same k ks ≡ true)
      × (all_nullable entries f ≡ true → is_member same end ks ≡ true)

  -- what can follow each nonterminal of the row is in its entry, and the row doesn't name the end
  abbrev pub IsFollowed : List (Symbol K N A) → Type 0
  IsFollowed [] = Unit {0}
  IsFollowed (Token k ∷ f) = (same k end ≡ false) × IsFollowed f
  IsFollowed (Act c ∷ f) = IsFollowed f
  IsFollowed (Nonterminal n ∷ f) = Foresees f (entries n).follow × IsFollowed f

-- The row is what may follow the tokens that were read, with the values that they made.
-- With a token ahead it need only be so for the texts that begin with it.
pub record Stands {K N A X V : Type 0} (same : K → K → Bool) (end : K) (entries : N → Entry K)
    (g : Grammar K N A X V) (first : V) (read : List (Placed X)) (row : List (Symbol K N A))
    (now : V) (Fits : List (Placed X) → Type 0) : Type 0 where
  pub sound : (v : List (Placed X)) (last : V) → Derives g row v now last → IsText g first (read ++ v) last
  pub complete : (v : List (Placed X)) (last : V) → Fits v → IsText g first (read ++ v) last → Derives g row v now last
  pub followed : IsFollowed same end entries row

-- any tokens may follow
abbrev pub Any : {X : Type 0} → List (Placed X) → Type 0
Any v = Unit {0}

-- the tokens that follow begin with this kind
abbrev pub Begins : {K X : Type 0} → (X → K) → K → K → List (Placed X) → Type 0
Begins kind_of end k v = lookahead kind_of end v ≡ k

-- no text of the grammar goes on after these tokens at this kind
abbrev pub NoneFits : {K N A X V : Type 0} → Grammar K N A X V → K → K → V → List (Placed X) → Type 0
NoneFits {V = V} g end k first read = (v : List (Placed _)) (last : V) → Begins g.kind_of end k v → IsText g first (read ++ v) last → ⊥
