-- The envelope rule for scanners: what is considered at a new kernel of host's items, with the envelope as lookaheads.
use Rattle.std.specs.Prelude.{◌≢◌, ◌<◌, ◌⊎◌, ℕ, List}
use Rattle.wb_automata.specs.Automata.{IsMatch}
use Rattle.wb_base.specs.declared.symbol.Symbol.{Symbol}
use Rattle.wb_base.specs.Grammar.{GrammarView}
use Rattle.wb_determinism_contexts.specs.Considered.{LexiconView}
use Rattle.wb_grammar_theory.specs.declared.item.Item.{Item}
use Rattle.wb_grammar_theory.specs.Items.{IsViablePrefix}
use Rattle.wb_lexical.specs.Clash.{AreOrdered}
use Rattle.wb_termset.specs.Sets.{IsMember}
use Rattle.wb_compose_theory.specs.Numbered.{HostKernel, IsNewHostKernel, IsValidInEnvelope}
use Rattle.wb_determinism.specs.declared.numbers.Numbers.{Numbers}
use Rattle.wb_determinism.specs.Numbers.{up_by}

-- the terminal is considered at the set: it is scanned and valid with the envelope as lookaheads, or it is layout that is considered at each
-- prefix
abbrev pub IsConsideredInEnvelope : GrammarView → (Item → Type 0) → LexiconView → ℕ → Type 0
IsConsideredInEnvelope g Kernel lexicon t = ((t < lexicon.scanned) × IsValidInEnvelope g Kernel t) ⊎ IsMember lexicon.layout t

-- two different terminals that are considered at the set match the text, and no preference orders them
pub record IsEnvelopeClash (g : GrammarView) (Kernel : Item → Type 0) (lexicon : LexiconView) (left right : ℕ)
    (text : List ℕ) : Type 0 where
  pub different : left ≢ right
  pub left_considered : IsConsideredInEnvelope g Kernel lexicon left
  pub right_considered : IsConsideredInEnvelope g Kernel lexicon right
  pub left_matches : IsMatch lexicon.expressions left text
  pub right_matches : IsMatch lexicon.expressions right text
  pub unordered : ¬ AreOrdered lexicon.preferences left right

-- g is a host's grammar and k that of the host with an extension, both with holes
module _ (g k : GrammarView) (m : Numbers) (lexicon : LexiconView) where
  -- the prefix has a new kernel of host's items, and two terminals clash there
  pub record IsEnvelopeClashFault (prefix : List Symbol) (left right : ℕ) (text : List ℕ) : Type 0 where
    pub viable : IsViablePrefix k prefix
    pub new : IsNewHostKernel g k (up_by m) prefix
    pub clash : IsEnvelopeClash g (HostKernel k (up_by m) prefix) lexicon left right text

  -- at no new kernel of host's items do two terminals clash
  abbrev pub HasNoEnvelopeClash : Type 0
  HasNoEnvelopeClash = (prefix : List Symbol) (left right : ℕ) (text : List ℕ) → ¬ IsEnvelopeClashFault prefix left right text
