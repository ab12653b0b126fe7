use Rattle.std.proofs.Common.{◌≡◌, List, ℕ, ◌∙◌, ap, ◌++◌}
use Rattle.std.proofs.lemmas.Result.{IfErr-weaker}
use Rattle.wb_names_theory.specs.WrongKind.{misplaced}
use Rattle.wb_names_rules.specs.Inner.Passing.{UsesFail}
use Rattle.wb_names_rules.specs.Inner.Tests.{IsWrongIn}
use Rattle.wb_names_rules.proofs.RefusalLemmas.{kind_fails}
use Rattle.wb_names_rules.proofs.check.check_used.Goals as goal

pub returns-clause-refused : goal.returns-clause-refused
returns-clause-refused c =
    let unplaced : c.deref.result.now ≡ misplaced c.args.owner c.args.items.now =
    c.deref.ensures.value ∙ c.in_ok-add_misplaced.ensures
    ∙ ap (λ (l : List (List ℕ)). l ++ misplaced c.args.owner c.args.items.now) c.new-unplaced.ensures.items in
    IfErr-weaker c.check_kinds.result (IsWrongIn c.args.index.now c.args.used.now c.deref.result.now)
    (UsesFail c.args.index.now c.args.owner c.args.items.now)
    (kind_fails c.args.index.now c.args.owner c.args.items.now c.args.used.now c.deref.result.now c.requires unplaced
    c.in_ok-check_declared.ensures.ok) c.check_kinds.ensures.refused
