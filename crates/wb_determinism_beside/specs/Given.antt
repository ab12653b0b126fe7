-- What the laws of a host and an extension ask of a piece beside its host, in the numbers that are tested.
use Rattle.std.specs.Prelude.{◌≡◌, ◌≢◌, ◌∷◌, ◌-◌, ℕ, List, length}
use Rattle.wb_base.specs.declared.symbol.Symbol.{Symbol}
use Rattle.wb_base.specs.declared.symbol.Symbol.TheVariants.{Terminal}
use Rattle.wb_base.specs.Grammar.{GrammarView}
use Rattle.wb_compose_theory.specs.Renamings.{Renaming}
use Rattle.wb_compose_theory_grammar.specs.Numberings.{phi_of, up_of}
use Rattle.wb_determinism.specs.declared.numbers.Numbers.{Numbers}
use Rattle.wb_determinism.specs.Extensions.{numbers_of}
use Rattle.wb_determinism_contexts.specs.Considered.{LexiconView}
use Rattle.wb_determinism_host.specs.Lexicons.{lexicon_beside}
use Rattle.wb_determinism_kernels.specs.declared.numbers.Numbers as moved
use Rattle.wb_determinism_theory.specs.Beside.{IsBeside}
use Rattle.wb_determinism_theory.specs.Lexicons.{AreMarkersTold, ExtendsLexicon}
use Rattle.wb_grammar_theory.specs.declared.item.Item.{Item}
use Rattle.wb_grammar_theory.specs.Items.{after_dot}
use Rattle.wb_marking_holes.specs.Holes.{with_holes_of}
use Rattle.wb_syntax_resolved.specs.declared.resolved.ResolvedParts.{ResolvedParts}
use Rattle.wb_determinism_beside.specs.Pieces.{piece_in}

-- what is scanned of the host is `scanned`: what is scanned with the extension is that and what the extension adds, and each marker that
-- shares a text with something beside it is ordered against that by a preference
pub record AreScannedBeside (r : ResolvedParts) (g own : GrammarView) (scanned : LexiconView) : Type 0 where
  pub extends : ExtendsLexicon scanned (lexicon_beside r g (length own.productions)) (up_of own g) (phi_of r.extensible (piece_in r g))
  pub told : AreMarkersTold scanned (lexicon_beside r g (length own.productions)) (up_of own g) (phi_of r.extensible (piece_in r g))

-- the numbers of a host's grammar and of that of the host with an extension, both with holes
abbrev pub numbers_beside : List ℕ → GrammarView → GrammarView → Numbers
numbers_beside extensible own g = numbers_of (with_holes_of own extensible) (with_holes_of g extensible) (length extensible)

-- the same numbers in the words in which new kernels are found, where so many nonterminals are the host's own and so many more come after
abbrev pub moved_by : Numbers → ℕ → ℕ → moved.Numbers
moved_by m own more = record {
  terminals = record { own = m.own_terminals; more = m.both_terminals - m.host_terminals };
  nonterminals = record { own = own; more = more };
  productions = record { own = m.own_productions; more = m.both_productions - m.host_productions };
}

-- those of both grammars
abbrev pub moved_beside : List ℕ → GrammarView → GrammarView → moved.Numbers
moved_beside extensible own g = moved_by (numbers_beside extensible own g) own.nonterminals (g.nonterminals - own.nonterminals)

-- the host's grammar is in the numbers of that with the extension, its terminals stand for themselves, and no two items of the host have
-- their dots before one hole for which a marker stands
pub record IsPieceBeside (g k : GrammarView) (up : Renaming) (phi : ℕ → ℕ) : Type 0 where
  pub beside : IsBeside g k up phi
  pub themselves : (u : ℕ) → phi (up.terminal u) ≡ up.terminal u
  pub alone : (m h : ℕ) (i j : Item) (rest more : List Symbol) → phi m ≢ m → up.terminal h ≡ phi m →
      after_dot g i ≡ Terminal h ∷ rest → after_dot g j ≡ Terminal h ∷ more → i ≡ j
