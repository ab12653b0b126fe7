use Rattle.wb_reading_theory.proofs.UnionLanguageLemmas.{extends_language}
use Rattle.wb_reading_theory.proofs.laws.united_language_law.Goals as goal

pub returns : goal.returns
returns c = extends_language
