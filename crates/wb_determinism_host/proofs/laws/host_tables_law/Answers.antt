use Rattle.std.proofs.Common.{sym, ◌∙◌, subst}
use Rattle.wb_grammar_theory.specs.Lookaheads.{HasNoConflict}
use Rattle.wb_lookahead.proofs.TableLaws.{no_conflict_shown}
use Rattle.wb_determinism_host.proofs.laws.host_tables_law.Goals as goal

pub returns : goal.returns
returns c r g parts is are = no_conflict_shown (subst HasNoConflict (sym (are.of_grammar ∙ are.grammar)) is.no_conflict)
