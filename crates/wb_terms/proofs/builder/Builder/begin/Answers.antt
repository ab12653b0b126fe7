use Rattle.std.proofs.Common.{refl, subst, ◌∙◌}
use Rattle.wb_terms.specs.Inner.Built.{IsNumberOf}
use Rattle.wb_terms.proofs.BeginLemmas.{begun}
use Rattle.wb_terms.proofs.builder.Builder.begin.Goals as goal

pub returns : goal.returns
returns c = record {
  ok =
      begun c.args.signatures.now c.args.name.now c.args.at c.number_of-production.result c.len-start.result c.args.self.now
      (record c.args.self.now { frames = c.push.new.list }) c.push.result refl refl refl
      (subst (λ n. IsNumberOf c.args.signatures.now n c.number_of-production.result) c.as_slice.ensures c.number_of-production.ensures)
      (c.len-start.ensures ∙ c.args.self.now.values.ok.0) c.push.ensures.ok;
}
