-- An extension that is found has the name, and where none is found none has it.
use Rattle.std.proofs.Common.{rules, ◌≡◌, ◌≢◌, ◌∙◌, Some, Contains, slice_get, ap, sym, refl, arith}
use Rattle.std.proofs.lemmas.Option.{slice_get-get_or, slice_get_within}
use Rattle.wb_compose_texts.specs.Unions.{all_resolved}
use Rattle.wb_program_texts.specs.SeveralChecks.{names_of}
use Rattle.wb_program_texts.proofs.SeveralLemmas.{has_at, has_none, named_one, none_more}
use Rattle.wb_program_texts.proofs.several.has_name.Goals as goal

pub returns-then-eq : goal.returns-then-eq
returns-then-eq c =
    let es = c.args.extensions.now in
    let at = c.extensions.at in
    let e = c.index-extensions-at.result in
    let there : slice_get es at ≡ Some e =
    slice_get-get_or es at e c.extensions-test.true ∙ ap Some (sym c.index-extensions-at.is) in
    let named : c.name.result.now ≡ c.args.name.now = search rules in
    (λ yes. has_at es e c.args.name.now at there (named_one e c.name.result.now c.name.ensures ∙ named), λ has. refl)

pub extensions-preserved : goal.extensions-preserved
extensions-preserved c =
    let es = c.args.extensions.now in
    let at = c.extensions.at in
    let e = c.index-extensions-at.result in
    let name = c.args.name.now in
    let there : slice_get es at ≡ Some e =
    slice_get-get_or es at e c.extensions-test.true ∙ ap Some (sym c.index-extensions-at.is) in
    let other : c.name.result.now ≢ name = search rules in
    record {
      within = omega (arith, c.extensions-test.true);
      none = none_more es name at e there (λ same. other (sym (named_one e c.name.result.now c.name.ensures) ∙ same))
          c.extensions.invariant.none;
    }

pub returns : goal.returns
returns c =
    let es = c.args.extensions.now in
    let name = c.args.name.now in
    let past = c.extensions-test.false in
    let none : ¬ Contains (names_of (all_resolved es)) name =
    has_none es name (λ k e there. let within = slice_get_within es k e there in
    c.extensions.invariant.none k e (omega (arith, within, past)) there) in
    (λ never. absurd (cc never), λ has. absurd (none has))
