use Rattle.std.proofs.Common.{◌≡◌, ℕ, ◌<◌, get_or}
use Rattle.wb_text_tokens.specs.Words.{word_text}
use Rattle.wb_text_tokens.specs.declared.word.Word.{Word}
use Rattle.wb_recheck_text.proofs.reserved.is_among.Given as goal

abbrev pub invariant-loop-word : goal.invariant-loop-word
invariant-loop-word l = (k : ℕ) (d : Word) → k < l.word-index → l.text ≡ word_text (get_or l.words k d) → ⊥
