use Rattle.wb_compose.proofs.WrittenApart.{all_apart, all_certified}
use Rattle.wb_compose.proofs.laws.written_law.Goals as goal

pub returns : goal.returns
returns c = record {
  certified = λ host h operations extensions apart. all_certified host h operations extensions apart;
  apart = λ host h operations extensions apart differ. all_apart host h operations extensions apart differ;
}
