use Rattle.wb_determinism_theory.proofs.ScannerLemmas.{no_clash}
use Rattle.wb_determinism_theory.proofs.laws.scanner_law.Goals as goal

pub returns : goal.returns
returns c = λ g k up phi l n kept extends told none prefix other is viable. no_clash l n kept extends told prefix other is viable none
