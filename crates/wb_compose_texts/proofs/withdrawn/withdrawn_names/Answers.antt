use Rattle.std.proofs.Common.{◌≡◌, ◌∙◌, map}
use Rattle.std.proofs.lemmas.Result.{IfOk-weaker}
use Rattle.wb_compose_texts.specs.Names.{name_at, terminals_of}
use Rattle.wb_compose_texts.specs.Unions.{all_resolved}
use Rattle.wb_compose_texts.specs.Withdrawn.{AreWithdrawnNames}
use Rattle.wb_compose_texts.proofs.ComposedLemmas.{withdrawn_named}
use Rattle.wb_compose_texts.proofs.withdrawn.withdrawn_names.Goals as goal

pub returns : goal.returns
returns c =
    let host = c.args.host.now in
    let es = c.args.extensions.now in
    let numbers = c.args.composed.now.withdrawn.items in
    let names : c.as_slice.result.now ≡ terminals_of host.resolved (all_resolved es) = c.as_slice.ensures ∙ c.in_ok-names.ensures in
    IfOk-weaker c.names_of.result (λ made. made ≡ map (name_at c.as_slice.result.now) c.withdrawn.result.now)
    (AreWithdrawnNames host.resolved host.operations (all_resolved es))
    (λ made is. withdrawn_named host es c.args.composed.now.language.language numbers c.requires made
    (is ∙ (λ z. map (name_at (names z)) (c.withdrawn.ensures z)))) c.names_of.ensures
