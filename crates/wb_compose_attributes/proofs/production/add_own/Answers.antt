use Rattle.std.proofs.Common.{◌∙◌, ◌++◌, sym}
use Rattle.std.proofs.lemmas.List.{append-nil}
use Rattle.wb_compose_attributes.specs.Inner.Written.{equations_by, locals_by}
use Rattle.wb_compose_attributes.proofs.production.add_own.Goals as goal

pub returns : goal.returns
returns c =
    let n = c.args.numbers.now in
    let row = c.args.row.now in
    let added = c.in_ok-add_parts.ensures in
    record {
      locals = added.locals ∙ ((λ j. c.requires.locals j ++ locals_by n (c.as_slice.ensures j))
          ∙ sym (append-nil (locals_by n row.locals)));
      forward = added.forward ∙ c.in_ok-rules.ensures;
      equations = added.equations ∙ ((λ j. c.requires.equations j ++ equations_by n (c.as_slice-2.ensures j))
          ∙ sym (append-nil (equations_by n row.equations)));
    }
