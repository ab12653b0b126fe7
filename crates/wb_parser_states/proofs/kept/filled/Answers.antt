use Rattle.std.proofs.Common.{◌≡◌, [], rules, subst}
use Rattle.std.specs.Prelude.{Some, slice_get}
use Rattle.wb_parser_states.proofs.ChainLemmas.{all_more, none_more}
use Rattle.wb_parser_states.proofs.kept.filled.Goals as goal

pub places-init : goal.places-init
places-init c place other at =
    let e : c.new-places.result.items ≡ [] = search rules in
    none_more c.new-places.result.items place other e at

pub places-preserved : goal.places-preserved
places-preserved c place other at =
    all_more c.places.places.items c.args.kept c.places.invariant place other (subst (λ z. slice_get z place ≡ Some other) c.in-Ok.ensures.ok at)

pub returns-in-Err : goal.returns-in-Err
returns-in-Err c place other at = c.places.invariant place other (subst (λ z. slice_get z place ≡ Some other) c.in-Err.ensures.err at)
