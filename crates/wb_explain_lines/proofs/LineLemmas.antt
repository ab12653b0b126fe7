-- The parts of a line, from the parts of what is in it.
use Rattle.std.proofs.Common.{◌≡◌, ◌∙◌, ℕ, List, ◌++◌, ap, length}
use lib.Chars.{codes}
use Rattle.wb_text_parts.specs.Parts.{number_then, Begins, IsSmall}
use Rattle.wb_explain_lines.specs.Lines.{IsRefusedLine, ShowsNumber}
use Rattle.wb_explain_lines.specs.Inner.Parts.{AreRefusedParts}

pub refused_line : (line after file code rest : List ℕ) → line ≡ codes "refused " ++ after → AreRefusedParts after file code rest
    → IsRefusedLine line file code rest
refused_line line after file code rest is parts =
    record { short = parts.short; parts = is ∙ ap (λ l. codes "refused " ++ l) parts.parts }

pub refused_parts : (text after last file code rest : List ℕ) → text ≡ file ++ after → after ≡ codes " " ++ last
    → (last ≡ code ++ rest) × (length code ≡ 2) → AreRefusedParts text file code rest
refused_parts text after last file code rest named spaced (is, short) = record {
  short = short;
  parts = named ∙ ap (λ l. file ++ l) (spaced ∙ ap (λ l. codes " " ++ l) is);
}

pub shown_number : (before text after rest : List ℕ) (end number : ℕ) → text ≡ before ++ after
    → Begins IsSmall (number_then end) after number rest → ShowsNumber before end text number rest
shown_number before text after rest end number is (small, begins) = is ∙ ap (λ l. before ++ l) begins
