-- Lookaheads are local in whatever is composed.
use Rattle.std.proofs.lemmas.Result.{IfOk-weaker}
use Rattle.wb_compose.specs.Composed.{IsComposed}
use Rattle.wb_compose.specs.Local.{HasLocalLookaheads}
use Rattle.wb_compose.specs.declared.composition.Composed.{Composed}
use Rattle.wb_compose.proofs.LocalLemmas.{local_lookaheads}
use Rattle.wb_compose.proofs.composition.compose.Goals as goal

pub returns-clause-local : goal.returns-clause-local
returns-clause-local c =
    let host = c.args.host.now in
    let extensions = c.args.extensions.now in
    IfOk-weaker c.by_union.result
    (λ (made : Composed). IsComposed host extensions made.language.language made.withdrawn.items)
    (λ (made : Composed). HasLocalLookaheads host extensions made.language.language)
    (λ (made : Composed) is. local_lookaheads host extensions made.language.language made.withdrawn.items is) c.by_union.ensures
