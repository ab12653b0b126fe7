-- What is reported of the text of a certificate.
use Rattle.std.specs.Prelude.{◌≡◌, ◌<◌, ◌≤◌, ℕ, List, Option, Some, None, MatchOption, length}
use Rattle.wb_report.specs.Lines.{report_of}
use Rattle.wb_report.specs.declared.outcome.Outcome.TheVariants as o
use Rattle.wb_program_texts.specs.Checks.{Report, Ends}
use Rattle.wb_program_texts.specs.status.Status.TheVariants.{Done, TooLongToPrint}

-- a text that is such a certificate and isn't too long to print, or none where each is too long
abbrev pub IsTextOrTooLong : (List ℕ → Type 0) → Option (List ℕ) → Type 0
IsTextOrTooLong Is made =
    MatchOption made ((text : List ℕ) → Is text → 16777216 < length text) (λ text. Is text × (length text ≤ 16777216))

-- the text is the report, or where there is none, the line that it is too long to print
abbrev pub ShownCertificate : Option (List ℕ) → Report
ShownCertificate (Some text) = Ends Done (λ bytes. bytes ≡ text)
ShownCertificate None = Ends TooLongToPrint (λ bytes. bytes ≡ report_of o.TooLongToPrint)
