use Rattle.wb_compose_texts.proofs.AloneLemmas.{alone_only, alone_reads, has_language}
use Rattle.wb_compose_texts.proofs.reading_laws.alone_law.Goals as goal

pub returns : goal.returns
returns c = record { reading = alone_reads; only = alone_only; language = has_language }
