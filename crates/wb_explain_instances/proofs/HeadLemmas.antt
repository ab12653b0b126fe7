-- Bytes that begin with the place of an equation.
use Rattle.std.proofs.Common.{◌≡◌, ◌≢◌, ◌<◌, ◌++◌, ◌-◌, inr, ℕ, List, [], Some, length, slice_get, get_or, subst, arith}
use Rattle.std.proofs.lemmas.Option.{slice_get-get_or}
use Rattle.wb_eval.specs.declared.halt.Waiting.{Waiting}
use Rattle.wb_eval.specs.declared.machine.Key.{Key}
use Rattle.wb_explain_instances.specs.Ends.{HasHead}
use Rattle.wb_explain_instances.specs.Equations.{SaysEquation}
use Rattle.wb_explain_places.specs.declared.source.Source.{Source}
use Rattle.wb_syntax_resolved.specs.declared.production.Production.{Production}
use Rattle.wb_values.specs.Tree.{Tree}

-- the last one of a list
pub last_at : {X : Type 0} (xs ys : List X) (d : X) → xs ≡ ys → length xs ≢ 0
    → slice_get ys (length ys - 1) ≡ Some (get_or xs (length xs - 1) d)
last_at xs ys d same some =
    let within : length xs - 1 < length xs = omega (arith, some) in
    subst (λ zs. slice_get zs (length zs - 1) ≡ Some (get_or xs (length xs - 1) d)) same (slice_get-get_or xs (length xs - 1) d within)

-- what is shown first
pub headed : (productions : List Production) (trees : List Tree) (w : Waiting) (files : List Source) (last : Key)
    → slice_get w.keys.items (length w.keys.items - 1) ≡ Some last → (text old place rest head : List ℕ) → old ≡ []
    → SaysEquation productions trees w files last text old place → head ≡ place ++ rest → HasHead productions trees w files head
headed productions trees w files last at text old place rest head none says is = inr (record {
  last = last;
  is_last = at;
  text = text;
  place = place;
  rest = rest;
  says = subst (λ z. SaysEquation productions trees w files last text z place) none says;
  is = is;
})
