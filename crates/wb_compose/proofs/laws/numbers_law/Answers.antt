use Rattle.wb_compose.proofs.BridgedLemmas.{bridged_numbers, same_extensible}
use Rattle.wb_certify.proofs.NumberLemmas.{tested_numbers}
use Rattle.wb_compose.proofs.laws.numbers_law.Goals as goal

pub returns : goal.returns
returns c = record {
  names = bridged_numbers;
  tested = λ host r h g operations bridged. tested_numbers host r h g (same_extensible host r h g operations bridged)
      (bridged_numbers host r h g operations bridged);
}
