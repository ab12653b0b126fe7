-- What is certified of how a host and extensions are written: of each extension beside the host alone.
use Rattle.std.specs.Prelude.{◌≡◌, ◌≢◌, ◌<◌, ◌⊎◌, ℕ, List, All, map}
use Rattle.wb_automata.specs.Automata.{IsMatch}
use Rattle.wb_base.specs.declared.symbol.Symbol.{Symbol}
use Rattle.wb_base.specs.Different.{Differ}
use Rattle.wb_base.specs.Grammar.{GrammarView}
use Rattle.wb_determinism_contexts.specs.Considered.{LexiconView, HasNoClashAt}
use Rattle.wb_compose_theory_language.specs.Envelopes.{IsEnvelopeClash}
use Rattle.wb_graph.specs.Orders.{IsCycle}
use Rattle.wb_grammar_theory.specs.Items.{IsViablePrefix}
use Rattle.wb_lexical.specs.Clash.{AreOrdered}
use Rattle.wb_marking_holes.specs.Holes.{with_holes_of}
use Rattle.wb_compose_theory.specs.Numbered.{HostKernel, IsNewHostKernel}
use Rattle.wb_compose_theory.specs.Worlds.{on}
use Rattle.wb_compose_theory_grammar.specs.Numberings.{up_of}
use Rattle.wb_compose_theory_language.specs.Written.{HasRows, IsLayoutRow, IsWrittenBeside, WrittenPiece, host_layouts}

-- no preferences lead from a terminal to itself
abbrev pub AreAcyclic : LexiconView → Type 0
AreAcyclic lexicon = (cycle : List ℕ) → ¬ IsCycle lexicon.preferences cycle

-- its rows are those of the grammar's terminals, of so many layouts of a host, and of an extension's own; and its preferences are acyclic
pub record IsClear (g : GrammarView) (layouts : ℕ) (lexicon : LexiconView) : Type 0 where
  pub rows : HasRows g.terminals layouts lexicon
  pub acyclic : AreAcyclic lexicon

-- the colon, which is in no name
abbrev pub colon : ℕ
colon = 58

module _ (host : GrammarView) (extensible : List ℕ) (own : LexiconView) where
  -- the host is written so that no two of its terminals or layouts clash at a prefix of the host with holes
  pub record IsWrittenApart : Type 0 where
    pub clear : IsClear host (host_layouts host own) own
    pub no_clash : HasNoClashAt (with_holes_of host extensible) own

  module _ (x : WrittenPiece) where
    -- the terminal is a marker of the extension
    abbrev pub IsMarkerRow : ℕ → Type 0
    IsMarkerRow t = (a : ℕ) × (x.piece.mark t ≡ on a)

    -- a terminal of the host, layout of the host or of the extension, or a marker of the extension
    abbrev pub IsRivalRow : ℕ → Type 0
    IsRivalRow t = (t < host.terminals) ⊎ (IsLayoutRow x.piece.grammar.terminals x.lexicon t ⊎ IsMarkerRow t)

    -- each marker is ordered against each other marker, each layout and each terminal of the host with which it shares a text
    abbrev pub AreMarkersOrdered : Type 0
    AreMarkersOrdered =
        (m t : ℕ) (text : List ℕ) → IsMarkerRow m → IsRivalRow t → m ≢ t → IsMatch x.lexicon.expressions m text →
        IsMatch x.lexicon.expressions t text → ¬ ¬ AreOrdered x.lexicon.preferences m t

    -- at no new kernel of the host's items do two of the host's terminals or layouts clash, with the envelope as lookaheads
    abbrev pub HasNoNewClash : Type 0
    HasNoNewClash =
        (prefix : List Symbol) (left right : ℕ) (text : List ℕ) → IsViablePrefix (with_holes_of x.piece.grammar extensible) prefix →
        IsNewHostKernel (with_holes_of host extensible) (with_holes_of x.piece.grammar extensible) (up_of host x.piece.grammar) prefix →
        ¬ IsEnvelopeClash (with_holes_of host extensible)
        (HostKernel (with_holes_of x.piece.grammar extensible) (up_of host x.piece.grammar) prefix)
        (record (x.lexicon) { scanned = host.terminals }) left right text

    -- the extension is written so that with the host alone no two terminals or layouts clash at a prefix, and its markers can be told apart
    -- from what is the host's and from each other
    pub record IsPieceApart : Type 0 where
      pub clear : IsClear x.piece.grammar (host_layouts host own) x.lexicon
      pub beside : IsWrittenBeside host own x
      pub no_clash : HasNoClashAt (with_holes_of x.piece.grammar extensible) x.lexicon
      pub no_new_clash : HasNoNewClash
      pub markers : AreMarkersOrdered
      pub name : All (λ b. b ≢ colon) x.name

  -- the host and the extensions are so, and the extensions have different names
  pub record AreWrittenApart (written : List WrittenPiece) : Type 0 where
    pub of_host : IsWrittenApart
    pub of_extensions : All IsPieceApart written
    pub names : Differ (map (λ (x : WrittenPiece). x.name) written)
