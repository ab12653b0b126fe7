-- Productions by the nonterminal on their left side, and by those on their right.
use Rattle.std.specs.Prelude.{◌≡◌, ◌<◌, ◌⊎◌, ℕ, suc, List, [], ◌∷◌, ◌==◌, cond, Contains, length, slice_index_or}
use Rattle.wb_base.specs.declared.symbol.Symbol.{Symbol}
use Rattle.wb_base.specs.declared.symbol.Symbol.TheVariants.{Terminal, Nonterminal}
use Rattle.wb_base.specs.Grammar.{GrammarView, Production}
use Rattle.wb_grammar_theory.specs.Productions.{IsProduction}

-- the group at a place, or no production
abbrev pub group_at : List (List ℕ) → ℕ → List ℕ
group_at groups a = slice_index_or groups a []

-- the numbers of the productions with the nonterminal on the left, where the first of the list has the number `from`
abbrev pub numbers_of : ℕ → ℕ → List Production → List ℕ
numbers_of a from [] = []
numbers_of a from (rule ∷ rules) = cond (rule.0 == a) (from ∷ numbers_of a (suc from) rules) (numbers_of a (suc from) rules)

-- for each nonterminal the productions with it on the left, among the first of the grammar
pub record AreLeftGroups (g : GrammarView) (rules : List Production) (groups : List (List ℕ)) : Type 0 where
  pub len : length groups ≡ g.nonterminals
  pub each : (a : ℕ) → a < g.nonterminals → group_at groups a ≡ numbers_of a 0 rules

-- the same, of all productions
abbrev pub AreByLeft : GrammarView → List (List ℕ) → Type 0
AreByLeft g groups = AreLeftGroups g g.productions groups

-- the symbol is a terminal, or a nonterminal below the number
abbrev pub IsBelow : ℕ → Symbol → Type 0
IsBelow nonterminals (Terminal t) = Unit {0}
IsBelow nonterminals (Nonterminal a) = a < nonterminals

-- a production with this right side was added to the groups of its nonterminals
pub record AddsUses (right : List Symbol) (p : ℕ) (old new : List (List ℕ)) : Type 0 where
  pub len : length new ≡ length old
  pub keeps : (a q : ℕ) → Contains (group_at old a) q → Contains (group_at new a) q
  pub has : (a : ℕ) → Contains right (Nonterminal a) → Contains (group_at new a) p
  pub only : (a q : ℕ) → Contains (group_at new a) q → Contains (group_at old a) q ⊎ (q ≡ p)

-- each production before a number is in the groups of the nonterminals of its right side, and only these are
pub record AreUsesBefore (g : GrammarView) (end : ℕ) (groups : List (List ℕ)) : Type 0 where
  pub len : length groups ≡ g.nonterminals
  pub has : (a p left : ℕ) (right : List Symbol) → p < end → IsProduction g p left right → Contains right (Nonterminal a) →
      Contains (group_at groups a) p
  pub only : (a p : ℕ) → Contains (group_at groups a) p → p < end

-- so is each production
abbrev pub AreUses : GrammarView → List (List ℕ) → Type 0
AreUses g groups = AreUsesBefore g (length g.productions) groups
