use Rattle.wb_determinism_host.specs.Lexicons.{lexicon_of}
use Rattle.wb_determinism_host.proofs.RefusalLemmas.{excluded}
use Rattle.wb_determinism_host.proofs.laws.host_refusals_law.Goals as goal

pub returns : goal.returns
returns c r g refusal = excluded r g (lexicon_of r g) refusal
