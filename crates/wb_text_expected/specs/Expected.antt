-- Which kinds of tokens can come at a place of a text.
use Rattle.std.specs.Prelude.{◌≡◌, ◌<◌, ◌≤◌, ℕ, List, [], ◌∷◌, ◌++◌, All}
use Rattle.wb_text_predictive.specs.declared.table.Next.{Next}
use Rattle.wb_text_predictive.specs.declared.table.Placed.{Placed}
use Rattle.wb_text_predictive.specs.Grammar.{Grammar, CanStart}
use Rattle.wb_text_predictive.specs.Reading.{Spells, place_of}

-- some text of the grammar goes on after these tokens with one of this kind
abbrev pub ComesAfter : {K N A X V : Type 0} → Grammar K N A X V → V → List (Placed X) → K → Type 0
ComesAfter {X = X} g first front kind = (x : Placed X) × (kind ≡ g.kind_of x.token) × CanStart g first (front ++ x ∷ [])

-- the second are those of the first of which this holds, in their order
pub data AreThose {K : Type 0} (P : K → Type 0) : List K → List K → Type 0 where
  none : {asked listed : List K} → asked ≡ [] → listed ≡ [] → AreThose P asked listed
  taken : {k : K} {asked rest listed : List K} → P k → AreThose P asked rest → listed ≡ k ∷ rest → AreThose P (k ∷ asked) listed
  passed : {k : K} {asked listed : List K} → (P k → ⊥) → AreThose P asked listed → AreThose P (k ∷ asked) listed

-- the tokens of the text that begin before the place are one after the other from its beginning, what is next doesn't begin before it, and
-- the second are those of the first kinds of which a token can come after these tokens
pub record AreExpected {K N A X V : Type 0} (g : Grammar K N A X V) (IsNext : ℕ → Next X → Type 0) (first : V) (at : ℕ)
    (asked listed : List K) : Type 0 where
  pub front : List (Placed X)
  pub from : ℕ
  pub next : Next X
  pub spelled : Spells IsNext 0 front from
  pub before : All (λ x. x.at < at) front
  pub stands : IsNext from next
  pub after : at ≤ place_of next
  pub are : AreThose (ComesAfter g first front) asked listed
