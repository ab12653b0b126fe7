-- The report of each outcome.
use Rattle.std.specs.Prelude.{ℕ, List, ◌++◌}
use Rattle.std.specs.Fmt.{decimal}
use lib.Chars.{codes}
use Rattle.wb_report.specs.declared.outcome.Outcome.{Outcome}
use Rattle.wb_report.specs.declared.outcome.Outcome.TheVariants as o
use Rattle.wb_report.specs.Done.{done_lines}
use Rattle.wb_report.specs.Parts.{stop_text}
use Rattle.wb_report.specs.Reasons.{refusal_text}

-- the lines of an outcome
abbrev pub report_of : Outcome → List ℕ
report_of (o.Done done) = done_lines done
report_of (o.Refused file refusal) = codes "refused " ++ file ++ codes " " ++ refusal_text refusal ++ codes "\n"
report_of (o.Stopped place stop) = codes "stopped at " ++ decimal place ++ codes " " ++ stop_text stop ++ codes "\n"
report_of (o.Fault operation code) = codes "fault " ++ operation ++ codes " " ++ decimal code ++ codes "\n"
report_of (o.MoreSteps steps) = codes "more than " ++ decimal steps ++ codes " steps\n"
report_of o.TextTooLong = codes "text too long\n"
report_of o.TooLongToPrint = codes "value too long to print\n"
report_of o.TooManyExtensions = codes "too many extensions\n"
report_of (o.DuplicateExtension name) = codes "duplicate extension " ++ name ++ codes "\n"
report_of (o.WrongHost file host) = codes "wrong host " ++ file ++ codes " names " ++ host ++ codes "\n"
report_of (o.UnknownAttribute name) = codes "no attribute " ++ name ++ codes "\n"
report_of (o.NoSentence size least) = codes "no sentence of " ++ decimal size ++ codes " leaves, least " ++ decimal least ++ codes "\n"
