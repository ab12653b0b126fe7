-- What is considered with the envelope, and clashes there.
use Rattle.std.specs.Prelude.{◌<◌, ◌≢◌, ◌⊎◌, ℕ, List}
use Rattle.wb_automata.specs.Automata.{IsMatch}
use Rattle.wb_base.specs.Grammar.{GrammarView}
use Rattle.wb_determinism_contexts.specs.Considered.{LexiconView}
use Rattle.wb_grammar_theory.specs.declared.item.Item.{Item}
use Rattle.wb_lexical.specs.Clash.{AreOrdered}
use Rattle.wb_termset.specs.Sets.{IsMember}
use Rattle.wb_compose_theory.specs.Numbered.{IsValidInEnvelope}

-- the terminal is considered at the set: it is scanned and valid with the envelope as lookaheads, or it is layout of the host
abbrev pub IsConsideredInEnvelope : GrammarView → (Item → Type 0) → LexiconView → ℕ → Type 0
IsConsideredInEnvelope g Kernel lexicon t = ((t < lexicon.scanned) × IsValidInEnvelope g Kernel t) ⊎ IsMember lexicon.layout t

-- two different terminals that are considered at the set match the text, and no preference orders them
pub record IsEnvelopeClash (g : GrammarView) (Kernel : Item → Type 0) (lexicon : LexiconView) (left right : ℕ)
    (text : List ℕ) : Type 0 where
  pub different : left ≢ right
  pub left_considered : IsConsideredInEnvelope g Kernel lexicon left
  pub right_considered : IsConsideredInEnvelope g Kernel lexicon right
  pub left_matches : IsMatch lexicon.expressions left text
  pub right_matches : IsMatch lexicon.expressions right text
  pub unordered : ¬ AreOrdered lexicon.preferences left right
