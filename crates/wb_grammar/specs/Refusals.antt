-- Why a grammar is refused: each reason with a true example, where no earlier one holds.
use Rattle.std.specs.Prelude.{◌<◌}
use Rattle.wb_base.specs.Different.{Differ}
use Rattle.wb_base.specs.Grammar.{GrammarView}
use Rattle.wb_grammar_theory.specs.Shape.{IsReduced, IsReachable, IsProductive}
use Rattle.wb_grammar_theory.specs.Cycles.{HasNoUnitCycle, IsUnitCycle, IsHiddenCycle}
use Rattle.wb_grammar.specs.declared.refusal.Reason.{Reason}
use Rattle.wb_grammar.specs.declared.refusal.Reason.TheVariants.{Unreachable, Unproductive}
use Rattle.wb_grammar.specs.declared.refusal.GrammarRefusal.{GrammarRefusal}
use Rattle.wb_grammar.specs.declared.refusal.GrammarRefusal.TheVariants.{NotReduced, UnitCycle, HiddenLeftRecursion, NoMemory}

-- the nonterminal that is shown isn't reachable, or derives no text
abbrev pub IsTrueReason : GrammarView → Reason → Type 0
IsTrueReason g (Unreachable a) = (a < g.nonterminals) × (¬ IsReachable g a)
IsTrueReason g (Unproductive a) = (a < g.nonterminals) × (¬ IsProductive g a)

-- the first of these that holds: the grammar isn't reduced, has a unit cycle, or has hidden left recursion; and what is shown is an
-- example, a cycle with each of its nonterminals once. Out of memory says nothing of the grammar
abbrev pub IsTrueRefusal : GrammarView → GrammarRefusal → Type 0
IsTrueRefusal g (NotReduced reason) = IsTrueReason g reason
IsTrueRefusal g (UnitCycle list) = IsReduced g × IsUnitCycle g list × Differ list
IsTrueRefusal g (HiddenLeftRecursion list) = IsReduced g × HasNoUnitCycle g × IsHiddenCycle g list × Differ list
IsTrueRefusal g (NoMemory _) = Unit {0}

-- the refusal is that memory ran out
abbrev pub IsNoMemory : GrammarRefusal → Type 0
IsNoMemory (NotReduced _) = ⊥
IsNoMemory (UnitCycle _) = ⊥
IsNoMemory (HiddenLeftRecursion _) = ⊥
IsNoMemory (NoMemory _) = Unit {0}
