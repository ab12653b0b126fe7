use Rattle.std.proofs.Common.{◌≡◌, length, subst, sym}
use Rattle.wb_automata.specs.Automata.{AutomatonView}
use Rattle.wb_compose_language.specs.Inner.TextMachines.{AreSetsUpTo, IsTextMachine}
use Rattle.wb_compose_language.proofs.TextMachineLemmas.{machine_is, ok_both}
use Rattle.wb_compose_language.proofs.text_machine.text_machine.Goals as goal

pub returns : goal.returns
returns c =
    let patterns = c.args.patterns.now in
    let texts = c.args.texts.now in
    ok_both c.build-made.result (λ (m : AutomatonView). m.terminals ≡ patterns) (λ (m : AutomatonView). m.sets ≡ c.deref.result.now)
    (IsTextMachine patterns texts)
    (λ m terminals sets. machine_is patterns texts c.deref.result.now m
    (subst (AreSetsUpTo texts (length texts)) (sym c.deref.ensures.value) c.in_ok-add_sets.ensures) terminals sets) c.build-made.ensures.terminals
    c.build-made.ensures.sets
