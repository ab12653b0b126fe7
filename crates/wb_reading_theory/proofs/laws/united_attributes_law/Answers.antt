use Rattle.wb_reading_theory.proofs.UnionAttributeLemmas.{concrete, extends}
use Rattle.wb_reading_theory.proofs.laws.united_attributes_law.Goals as goal

pub returns-clause-extends : goal.returns-clause-extends
returns-clause-extends c = extends

pub returns-clause-concrete : goal.returns-clause-concrete
returns-clause-concrete c = concrete
