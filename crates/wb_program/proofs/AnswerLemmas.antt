-- What a command is answered is the report of the words that ask for it.
use Rattle.std.proofs.Common.{◌≡◌, inl, inr, ℕ, List, Option}
use Rattle.wb_program_texts.specs.answer.Answer.{Answer}
use Rattle.wb_program_texts.specs.status.Status.{Status}
use Rattle.wb_program_texts.specs.status.Status.TheVariants.{Absent, NoMemory, ReadFault, Usage, WriteFault}
use Rattle.wb_program_texts.proofs.WrittenWhole.{IsReported, differs}
use Rattle.wb_operations.specs.Operations.{Operations}
use Rattle.wb_program_words.specs.Usage.{usage_line}
use Rattle.wb_program_words.specs.Asked.{Asked}
use Rattle.wb_program_words.specs.Words.{Asks}
use Rattle.wb_world.specs.Shelf.{Files}
use Rattle.wb_program.specs.Inner.Answered.{Replies}
use Rattle.wb_program.specs.Commands.{IsReportOf}
use Rattle.wb_program.specs.Report.{InCommandSet}
use Rattle.wb_program.specs.Written.{WritesNothing}
use Rattle.wb_program.proofs.AllReports.{has_laws}

-- a report with such a status is written
writes : (s : Status) → IsReported s → ¬ WritesNothing s
writes s is (inl same) = differs s Absent is (λ none. none) same
writes s is (inr (inl same)) = differs s ReadFault is (λ none. none) same
writes s is (inr (inr same)) = differs s NoMemory is (λ none. none) same

-- the answer to a command is the report of the words that ask for it
pub replies : (operations : Operations) (words : List (List ℕ)) (known : Option Files) (asked : Asked) (answer : Answer) → Asks words asked
    → IsReportOf operations known answer.status answer.report.items asked → Replies operations words known answer
replies operations words known asked answer asks report =
    let s = answer.status in
    let is = (has_laws operations asked).whole known s answer.report.items report in
    record {
      report = inr (record { asked = asked; asks = asks; report = report });
      usage = λ usage. absurd (differs s Usage is (λ none. none) usage);
      only_usage = λ none_asked. absurd (none_asked (record { asked = asked; asks = asks }));
      reports = writes s is;
      finishes = λ fault. differs s WriteFault is (λ none. none) fault;
    }

-- usage writes its line
usage_writes : (s : Status) → s ≡ Usage → ¬ WritesNothing s
usage_writes s usage (inl same) = absurd (cc (usage, same))
usage_writes s usage (inr (inl same)) = absurd (cc (usage, same))
usage_writes s usage (inr (inr same)) = absurd (cc (usage, same))

-- and where they ask for none it is the usage line
pub replies_usage : (operations : Operations) (words : List (List ℕ)) (known : Option Files) (answer : Answer) → ¬ InCommandSet words
    → answer.status ≡ Usage → answer.report.items ≡ usage_line → Replies operations words known answer
replies_usage operations words known answer none_asked usage line = record {
  report = inl (record { usage = usage; none_asked = none_asked; line = line });
  usage = λ same. none_asked;
  only_usage = λ none. usage;
  reports = usage_writes answer.status usage;
  finishes = λ fault. absurd (cc (usage, fault));
}
