-- What comes of what a text was parsed to.
use Rattle.std.specs.Prelude.{◌≡◌, ◌<◌, ℕ, List, length}
use Rattle.wb_eval_theory.specs.Evaluable.{IsAsked}
use Rattle.wb_operations.specs.Operations.{Operations}
use Rattle.wb_session.specs.parsed.Parsed.{Parsed}
use Rattle.wb_session.specs.parsed.Parsed.TheVariants as parsed
use Rattle.wb_syntax_resolved.specs.declared.attribution.AttributionParts.{AttributionParts}
use Rattle.wb_eval_root.specs.Values.{IsTreeValue}
use Rattle.wb_compose_texts.specs.Names.{stop_shown}
use Rattle.wb_values.specs.Tree.{Tree}
use Rattle.wb_values.specs.ValuesIn.{tree_in}
use Rattle.wb_compose_texts.specs.declared.value.TextValue.{TextValue}
use Rattle.wb_compose_texts.specs.declared.value.TextValue.TheVariants as answer

-- the store holds the tree, of which the attribute may be asked
abbrev pub MayBeAsked : AttributionParts → List Tree → ℕ → Parsed → Type 0
MayBeAsked a store attribute (parsed.Tree id) = (id.0 < length store) × IsAsked a (tree_in store id.0) attribute
MayBeAsked a store attribute (parsed.Stopped at kind) = Unit {0}

-- what comes of the attribute of the tree, or the stop by these names
abbrev pub ComesOf : AttributionParts → Operations → (names : List (List ℕ)) → List Tree → (attribute steps : ℕ) → Parsed → TextValue →
    Type 0
ComesOf a operations names store attribute steps (parsed.Tree id) (answer.Tree value) =
    IsTreeValue a operations (tree_in store id.0) attribute steps value
ComesOf a operations names store attribute steps (parsed.Tree id) (answer.Stopped place shown) = ⊥
ComesOf a operations names store attribute steps (parsed.Stopped at kind) (answer.Tree value) = ⊥
ComesOf a operations names store attribute steps (parsed.Stopped at kind) (answer.Stopped place shown) =
    (place ≡ at) × (shown ≡ stop_shown names kind)
