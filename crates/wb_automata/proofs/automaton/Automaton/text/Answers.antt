use Rattle.std.proofs.Common.{◌<◌, ◌∙◌, sym, ap, subst, length}
use Rattle.wb_automata.specs.Automata.{AutomatonView}
use Rattle.wb_automata.proofs.TextLemmas.{paths_len}
use Rattle.wb_automata.proofs.automaton.Automaton.text.Goals as goal

pub text_at-requires : goal.text_at-requires
text_at-requires c = subst (λ k. c.args.state < k) (sym (ap (λ (v : AutomatonView). length v.paths) c.self.view_is)
    ∙ paths_len c.self.inside.predecessors.items ∙ sym (ap length c.deref.ensures.value)) c.requires
