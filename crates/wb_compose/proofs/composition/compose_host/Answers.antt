-- Without extensions no marker is withdrawn.
use Rattle.std.proofs.Common.{◌≡◌, []}
use Rattle.std.proofs.lemmas.Result.{IfOk-weaker}
use Rattle.wb_compose.specs.Composed.{IsComposed}
use Rattle.wb_compose.specs.declared.composition.Composed.{Composed}
use Rattle.wb_compose.proofs.HostLanguageLemmas.{none_composed}
use Rattle.wb_compose.proofs.composition.compose_host.Goals as goal

pub returns-clause-none_withdrawn : goal.returns-clause-none_withdrawn
returns-clause-none_withdrawn c =
    let host = c.args.host.now in
    let empty : (made : Composed) → IsComposed host [] made.language.language made.withdrawn.items → made.withdrawn.items ≡ [] =
    λ made is. none_composed host made.language.language made.withdrawn.items is in
    IfOk-weaker c.compose.result _ _ empty c.compose.ensures.composed
