use Rattle.std.proofs.Common.{map, length, sym, subst}
use Rattle.std.proofs.lemmas.Result.{IfOk-weaker}
use Rattle.wb_automata.specs.Sharing.{ArePairsBelow, IsSharedText}
use Rattle.wb_automata.specs.Inner.Pairs.{IsCommon}
use Rattle.wb_automata.specs.Inner.Starts.{seed_of}
use Rattle.wb_automata.proofs.CommonLemmas.{seeds_below, shared_of}
use Rattle.wb_automata.proofs.common_texts.shared_text.Goals as goal

pub least_common-requires-clause-pairs : goal.least_common-requires-clause-pairs
least_common-requires-clause-pairs c =
    let m = c.in_ok-machine.machine in
    rw (c.as_slice.ensures.value, c.as_slice-2.ensures.value, c.in_ok-seeds.ensures.seeds)
    (seeds_below c.args.terminals.now m c.in_ok-machine.ensures c.args.pairs.now
    (subst (λ z. ArePairsBelow z c.args.pairs.now) (sym c.in_ok-machine.ensures.starts_len) c.requires.pairs))

pub returns : goal.returns
returns c =
    let m = c.in_ok-machine.machine in
    let pairs = c.args.pairs.now in
    IfOk-weaker c.least_common.result (IsCommon m.places.items (map (seed_of m.starts.items (length m.places.items)) pairs))
    (IsSharedText c.args.terminals.now pairs)
    (λ o h. shared_of c.args.terminals.now m c.in_ok-machine.ensures pairs o
    (subst (λ z. ArePairsBelow z pairs) (sym c.in_ok-machine.ensures.starts_len) c.requires.pairs) h)
    (rw (c.as_slice.ensures.value, c.as_slice-2.ensures.value, c.in_ok-seeds.ensures.seeds) at c.least_common.ensures)
