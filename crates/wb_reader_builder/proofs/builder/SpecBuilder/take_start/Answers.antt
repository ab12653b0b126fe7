use Rattle.wb_reader_builder.proofs.TopLemmas.{unchanged, taken}
use Rattle.wb_reader_builder.proofs.builder.SpecBuilder.take_start.Goals as goal

pub returns-in_default-clause-start : goal.returns-in_default-clause-start
returns-in_default-clause-start c = unchanged c.args.self.now.starts c.pop.new.self (λ z. 0) _ c.in_default.ensures

pub returns-in_default-clause-rest : goal.returns-in_default-clause-rest
returns-in_default-clause-rest c =
    let v = c.args.self.now in
    unchanged v.starts c.pop.new.self (λ z. record v { starts = z }) _ c.in_default.ensures

pub returns-clause-start : goal.returns-clause-start
returns-clause-start c = taken c.args.self.now.starts c.pop.new.self c.in-Some.at 0 _ c.in-Some.ensures

pub returns-clause-rest : goal.returns-clause-rest
returns-clause-rest c = taken c.args.self.now.starts c.pop.new.self c.in-Some.at c.args.self.now _ c.in-Some.ensures
