-- What is found missing is an example, and where nothing is the grammar is reduced.
use Rattle.std.proofs.Common.{◌≡◌, ℕ, ◌<◌, Bool, true, false, List, [], ◌∷◌, length, get_or, sym, ◌∙◌, subst, arith, Some, None}
use Rattle.std.specs.Prelude.{Option, MatchOption}
use Rattle.std.proofs.lemmas.Bool.{true≢false}
use Rattle.wb_base.specs.Grammar.{GrammarView}
use Rattle.wb_termset.specs.Sets.{IsMember}
use Rattle.wb_graph.specs.Graphs.{Edge, AreReached}
use Rattle.wb_grammar_theory.specs.Shape.{IsReachable, IsProductive}
use Rattle.wb_grammar.specs.declared.occurrence.Occurrence.TheVariants.{Any}
use Rattle.wb_grammar.specs.Inner.Edges.{AreEdges}
use Rattle.wb_grammar.specs.Inner.LeastSets.{IsLeastSet}
use Rattle.wb_grammar.proofs.LeastSetLemmas.{productive_generated}
use Rattle.wb_grammar.proofs.ReachLemmas.{reached_is}

pub unreachable_found : (g : GrammarView) (s : List Bool) (edges : List Edge) (flags : List Bool) (n start : ℕ) (found : Option ℕ) →
    n ≡ g.nonterminals → start ≡ g.start → AreEdges Any g s edges → AreReached n edges (start ∷ []) flags
    → MatchOption found ((v : ℕ) → v < length flags →
    get_or flags v false ≡ true) (λ v. (v < length flags) × (get_or flags v false ≡ false))
    → MatchOption found ((a : ℕ) → a < g.nonterminals → IsReachable g a) (λ a. (a < g.nonterminals) × (¬ IsReachable g a))
unreachable_found g s edges flags n start None same at are reached h =
    let from : AreReached n edges (g.start ∷ []) flags = subst (λ z. AreReached n edges (z ∷ []) flags) at reached in
    λ a lt. (reached_is g s edges are a).0 ((from.each a).0 (h a (omega (arith, from.len))))
unreachable_found g s edges flags n start (Some a) same at are reached h =
    let from : AreReached n edges (g.start ∷ []) flags = subst (λ z. AreReached n edges (z ∷ []) flags) at reached in
    (omega (arith, from.len, h.0), λ r. true≢false (sym ((from.each a).1 ((reached_is g s edges are a).1 r)) ∙ h.1))

pub unproductive_found : (g : GrammarView) (set : List Bool) (found : Option ℕ) → IsLeastSet g true set
    → MatchOption found ((a : ℕ) → a < length set → IsMember set a) (λ a. (a < length set) × (¬ IsMember set a))
    → MatchOption found ((a : ℕ) → a < g.nonterminals → IsProductive g a) (λ a. (a < g.nonterminals) × (¬ IsProductive g a))
unproductive_found g set None is h = λ a lt. (productive_generated g a).0 ((is.each a).0 (h a (omega (arith, is.len))))
unproductive_found g set (Some a) is h = (omega (arith, is.len, h.0), λ p. h.1 ((is.each a).1 ((productive_generated g a).1 p)))
