use Rattle.std.proofs.Common.{sym, subst, Option, ℕ}
use Rattle.wb_terms.specs.declared.event.Event.TheVariants.{End}
use Rattle.wb_terms.specs.Inner.Built.{FindsUnknown, FindsWrong}
use Rattle.std.proofs.Common.{◌∷◌}
use Rattle.wb_terms.proofs.HoldLemmas.{unknown_ended, wrong_ended}
use Rattle.wb_terms.proofs.builder.Faults.with_node.Goals as goal

pub returns : goal.returns
returns c = λ events name arguments outer is number zipped placed unknown wrong. (
  subst (λ (o : Option ℕ). FindsUnknown c.args.signatures.now (End ∷ events) o) (sym c.smaller_of.ensures)
      (unknown_ended c.args.signatures.now events name c.args.frame.at arguments outer c.unknown_in-unknown.result c.args.self.unknown is
      (c.unknown_in-unknown.ensures name arguments number) unknown),
  subst (λ (o : Option ℕ). FindsWrong c.args.signatures.now (End ∷ events) o) (sym c.smaller_of-2.ensures)
      (wrong_ended c.args.signatures.now events name c.args.frame.at arguments outer c.wrong_in-wrong.result c.args.self.wrong is
      (c.wrong_in-wrong.ensures name arguments number zipped placed) wrong),
)
