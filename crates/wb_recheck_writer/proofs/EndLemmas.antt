-- Entries at the end of the worklist, and where they are too many.
use Rattle.std.proofs.Common.{◌≡◌, ℕ, ◌<◌, ◌≤◌, List, length, subst}
use Rattle.wb_base.specs.Grammar.{GrammarView}
use Rattle.wb_recheck_theory.specs.declared.line.Line.{Line}
use Rattle.wb_recheck_theory.specs.declared.entry.Entry.{Entry}
use Rattle.wb_recheck_theory.specs.Lines.{AreGoodLines, AreMovesListed}
use Rattle.wb_recheck_theory.proofs.EntriesLemmas.{entries_end}
use Rattle.wb_recheck_writer.specs.declared.context.Context.{Context}
use Rattle.wb_recheck_writer.specs.Order.{AreLinesInOrder, HasMoreEntries, HaveSmallDots, IsWrittenCertificate}
use Rattle.wb_recheck_writer.specs.Inner.Reached.{AreReached, IsContext, grammar_of, lines_of}
use Rattle.wb_recheck_writer.proofs.LineLemmas.{all_moves_listed}
use Rattle.wb_recheck_writer.proofs.OneEntries.{written_longer}
use Rattle.wb_recheck_writer.proofs.OneLines.{one_lines}

module _ (c : Context) (is : IsContext c) where
  pub good_lines : AreGoodLines (grammar_of c) (lines_of c)
  good_lines = subst (λ (g : GrammarView). AreGoodLines g (lines_of c)) is.of_grammar is.lines.good

  ordered_lines : AreLinesInOrder (grammar_of c) (lines_of c)
  ordered_lines = subst (λ (g : GrammarView). AreLinesInOrder g (lines_of c)) is.of_grammar is.lines.in_order

  listed_moves : AreMovesListed (grammar_of c) (lines_of c)
  listed_moves = subst (λ (g : GrammarView). AreMovesListed g (lines_of c)) is.of_grammar
      (all_moves_listed c.kernels.now (lines_of c) c.numbered.now.states is.kernels is.lines)

  one : (more : List Line) (others : List Entry) → IsWrittenCertificate (grammar_of c) more others → lines_of c ≡ more
  one more others two =
      one_lines (lines_of c) more good_lines ordered_lines listed_moves two.certificate.lines_good two.lines_in_order
      two.certificate.moves_listed

  module _ (entries : List Entry) (place : ℕ) (reached : AreReached (grammar_of c) (lines_of c) entries place) where
    -- once each entry has been followed they are a certificate's
    pub written_whole : length entries ≤ place → IsWrittenCertificate (grammar_of c) (lines_of c) entries × HaveSmallDots entries
    written_whole past = (
      record {
        certificate = entries_end (grammar_of c) (lines_of c) entries place good_lines listed_moves reached.worklist past;
        lines_in_order = ordered_lines;
        entries_in_order = reached.in_order;
      },
      reached.dots,
    )

    -- more than so many are so in each certificate that is written
    pub too_many : (most : ℕ) → most < length entries → HasMoreEntries (grammar_of c) most
    too_many most more = written_longer (lines_of c) entries place most good_lines one reached more
