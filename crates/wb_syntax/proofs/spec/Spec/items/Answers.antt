use Rattle.std.proofs.Common.{rules, ◌≡◌, sym, subst, All}
use Rattle.wb_syntax.specs.Equations.{HasWholeEquations}
use Rattle.wb_syntax.specs.SpecText.{HasText}
use Rattle.wb_syntax.proofs.CallerLemmas.{text_names, text_whole}
use Rattle.wb_syntax.proofs.spec.Spec.items.Goals as goal

pub returns-clause-names : goal.returns-clause-names
returns-clause-names c = let text : HasText c.args.self.now = search rules in text_names c.args.self.now text

pub returns-clause-whole : goal.returns-clause-whole
returns-clause-whole c =
    let text : HasText c.args.self.now = search rules in
    let same : c.as_slice.result.now ≡ c.args.self.now.items = search rules in
    subst (All HasWholeEquations) (sym same) (text_whole c.args.self.now text)
