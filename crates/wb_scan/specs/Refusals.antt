-- Why there is no language of a grammar, each reason with a true example where no earlier one holds.
use Rattle.std.specs.Prelude.{◌<◌, ◌≢◌, ℕ, List}
use Rattle.wb_automata.specs.Automata.{IsMatch}
use Rattle.wb_base.specs.declared.symbol.Symbol.{Symbol}
use Rattle.wb_determinism_contexts.specs.Conflicts.{IsConflictAt}
use Rattle.wb_grammar_theory.specs.Items.{IsViablePrefix}
use Rattle.wb_grammar_theory.specs.Lookaheads.{HasNoConflict}
use Rattle.wb_graph.specs.Orders.{IsCycle, IsSimpleCycle}
use Rattle.wb_scan_theory.specs.Languages.{LanguageView}
use Rattle.wb_scan_theory.specs.Winners.{IsConsideredForm}
use Rattle.wb_lexical.specs.Clash.{AreOrdered}
use Rattle.wb_scan.specs.declared.refusal.LanguageRefusal.{LanguageRefusal}
use Rattle.wb_scan.specs.declared.refusal.LanguageRefusal.TheVariants as r

-- no preferences lead from a terminal to itself
abbrev pub AreAcyclic : LanguageView → Type 0
AreAcyclic l = (cycle : List ℕ) → ¬ IsCycle l.preferences cycle

-- two different forms that are considered at a prefix match the text, and no preference orders them; a bare form has the number of its
-- terminal
pub record IsFormClash (l : LanguageView) (prefix : List Symbol) (left right : ℕ) (text : List ℕ) : Type 0 where
  pub viable : IsViablePrefix l.grammar prefix
  pub different : left ≢ right
  pub left_considered : IsConsideredForm l prefix left
  pub right_considered : IsConsideredForm l prefix right
  pub left_matches : IsMatch l.expressions left text
  pub right_matches : IsMatch l.expressions right text
  pub unordered : ¬ AreOrdered l.preferences left right

-- what is shown is an example of the first of these that holds: preferences form a cycle, the grammar has a conflict, or two forms clash,
-- of which the lesser is first. Out of memory says nothing of the grammar
abbrev pub IsLanguageRefusal : LanguageView → LanguageRefusal → Type 0
IsLanguageRefusal l (r.Cycle cycle) = IsSimpleCycle l.preferences cycle
IsLanguageRefusal l (r.Conflict prefix terminal first second) = AreAcyclic l × IsConflictAt l.grammar prefix terminal first second
IsLanguageRefusal l (r.Clash prefix left right text) =
    AreAcyclic l × HasNoConflict l.grammar × IsFormClash l prefix left right text × (left < right)
IsLanguageRefusal l (r.NoMemory _) = Unit {0}

-- no cycle, no conflict and no clash
pub record IsFree (l : LanguageView) : Type 0 where
  pub acyclic : AreAcyclic l
  pub no_conflict : HasNoConflict l.grammar
  pub no_clash : (prefix : List Symbol) (left right : ℕ) (text : List ℕ) → ¬ IsFormClash l prefix left right text

-- the refusal is that memory ran out
abbrev pub IsNoMemory : LanguageRefusal → Type 0
IsNoMemory (r.Cycle _) = ⊥
IsNoMemory (r.Conflict _ _ _ _) = ⊥
IsNoMemory (r.Clash _ _ _ _) = ⊥
IsNoMemory (r.NoMemory _) = Unit {0}
