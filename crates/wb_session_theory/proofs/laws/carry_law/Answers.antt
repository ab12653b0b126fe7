use Rattle.std.proofs.Common.{refl}
use Rattle.wb_grammar_theory.specs.Trees.{symbols}
use Rattle.wb_session_theory.proofs.NumberLemmas.{state_kernel, states_symbols}
use Rattle.wb_session_theory.proofs.OverLemmas.{over_reads}
use Rattle.wb_session_theory.specs.Frames.{roots}
use Rattle.wb_session_theory.proofs.SessionLemmas.{on_top, reused}
use Rattle.wb_session_theory.proofs.laws.carry_law.Goals as goal

pub returns-clause-tokens : goal.returns-clause-tokens
returns-clause-tokens c l tables ok x y a b s e k at state states low low' base other stack p q of_base of_other reads =
    let r = on_top l ok s e k low reads low' other (state_kernel ok.deterministic.in_range p q)
    (states_symbols tables ok.deterministic.in_range (symbols low) (symbols low') states base other of_base of_other) in
    (r.frame, r.further, r.is, r.at_is, r.spine, r.reads)

pub returns-clause-trees : goal.returns-clause-trees
returns-clause-trees c l tables ok x y a b s e k at state low low' piece p q reads =
    reused l ok s e k low reads low' (state_kernel ok.deterministic.in_range p q)

pub returns-clause-above : goal.returns-clause-above
returns-clause-above c l text e at at' low base stack reads = over_reads (roots low) low refl reads base refl
