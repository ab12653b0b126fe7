use Rattle.std.proofs.Common.{◌≡◌, ◌<◌, ℕ, List, Some, length, slice_get, sym, subst, ap, ◌∙◌, arith}
use Rattle.std.proofs.lemmas.Option.{slice_get_within, slice_get-get_or}
use Rattle.wb_names_rows.proofs.IndexLemmas.{found_at}
use Rattle.wb_names_rows.proofs.index.Index.find.Goals as goal

pub returns-in-Some-clause-found : goal.returns-in-Some-clause-found
returns-in-Some-clause-found c =
    let names = c.self.inside.names in
    let numbers = c.self.inside.numbers.items in
    let before = slice_get_within names c.in-Some.number c.args.text.now c.in-Some.ensures.found in
    let within : c.in-Some.number < length numbers = omega (arith, before, c.self.invariant.count) in
    subst (λ (z : List (List ℕ)). slice_get z c.index.result.now ≡ Some c.args.text.now) c.self.view_is
    (found_at names numbers c.self.inside.texts.items c.self.invariant c.in-Some.number c.index.result.now c.args.text.now
    c.in-Some.ensures.found (slice_get-get_or numbers c.in-Some.number c.index.result.now within ∙ ap Some (sym c.index.ensures)))
