use Rattle.std.proofs.Common.{sym, subst}
use Rattle.std.proofs.lemmas.Result.{IfOk-weaker}
use Rattle.wb_automata.specs.Sharing.{ArePairsBelow, AreSharing}
use Rattle.wb_automata.specs.Inner.Starts.{AreEndFlags}
use Rattle.wb_automata.proofs.CommonLemmas.{sharing_of}
use Rattle.wb_automata.proofs.common_texts.sharing.Goals as goal

pub returns : goal.returns
returns c =
    let m = c.in_ok-machine.machine in
    let pairs = c.args.pairs.now in
    IfOk-weaker c.flags_of.result (λ flags. AreEndFlags m c.in_ok-met.met pairs flags.items)
    (λ flags. AreSharing c.args.terminals.now pairs flags.items)
    (λ flags h. sharing_of c.args.terminals.now m c.in_ok-machine.ensures pairs c.in_ok-met.met flags.items
    (subst (λ z. ArePairsBelow z pairs) (sym c.in_ok-machine.ensures.starts_len) c.requires.pairs) c.in_ok-met.ensures.met h) c.flags_of.ensures
