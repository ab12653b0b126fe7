use Rattle.std.proofs.Common.{◌<◌, sym, subst, ℕ}
use Rattle.wb_parser_states.proofs.TableLemmas.{goto_below, nonterminals_of}
use Rattle.wb_parser_states.proofs.moves.target_of.Goals as goal

pub returns-in-Some-clause-below : goal.returns-in-Some-clause-below
returns-in-Some-clause-below c g of =
    goto_below of c.args.state c.args.nonterminal c.in-Some.next c.requires.state
    (subst (λ (n : ℕ). c.args.nonterminal < n) (nonterminals_of of) c.requires.nonterminal) (sym c.in-Some.ensures)
