use Rattle.std.proofs.Common.{◌≡◌, drop}
use Rattle.wb_text_predictive.specs.Choice.{choose}
use Rattle.wb_text_predictive.specs.Rules.{rights_of, kinds_of}
use Rattle.wb_text_expected.proofs.choice.chosen.Given as goal

abbrev pub invariant-loop-rule : goal.invariant-loop-rule
invariant-loop-rule g l = choose g.K.PartialEq.eq (rights_of l.rules) (kinds_of l.rules) l.kind ≡ choose g.K.PartialEq.eq
    (rights_of (drop l.rule-index l.rules)) (kinds_of (drop l.rule-index l.rules)) l.kind
