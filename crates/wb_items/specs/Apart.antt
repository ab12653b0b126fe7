-- Which items have one set.
use Rattle.std.specs.Prelude.{◌≡◌, ◌↔◌, ◌⊎◌, ℕ, List}
use Rattle.wb_base.specs.declared.symbol.Symbol.{Symbol}
use Rattle.wb_base.specs.Grammar.{GrammarView}
use Rattle.wb_grammar_theory.specs.declared.item.Item.{Item}
use Rattle.wb_grammar_theory.specs.Productions.{IsProduction}
use Rattle.wb_items.specs.Lookaheads.{HasNumber, LookaheadsView}

-- the nonterminal opens the item, which is the initial item of one of its productions
abbrev pub Opens : GrammarView → ℕ → Item → Type 0
Opens g b item = (item.dot ≡ 0) × (right : List Symbol) × IsProduction g item.production b right

-- the items are the same, or one nonterminal opens both
abbrev pub BelongTogether : GrammarView → Item → Item → Type 0
BelongTogether g one other = (one ≡ other) ⊎ ((b : ℕ) × Opens g b one × Opens g b other)

-- two items have one set exactly where they are of one kernel and belong together
abbrev pub AreApart : GrammarView → LookaheadsView → Type 0
AreApart g lookaheads =
    (s k : ℕ) (one other : Item) (m n : ℕ) → HasNumber lookaheads s one m → HasNumber lookaheads k other n →
    (m ≡ n) ↔ ((s ≡ k) × BelongTogether g one other)
