-- The line of what a text is.
use Rattle.std.proofs.Common.{◌≡◌, ◌<◌, ◌+◌, ◌++◌, ◌∷◌, [], ℕ, List, Result, Ok, Err, true, inl, inr, length, length-append, refl, arith}
use lib.Chars.{codes}
use Rattle.std.specs.Prelude.{OnOk}
use Rattle.wb_compose_texts.specs.Answers.{HasPrintedTree, IsAnswerIn, StopsShown}
use Rattle.wb_compose_texts.specs.Names.{stop_shown}
use Rattle.wb_compose_texts.specs.declared.text_answer.TextAnswer.TheVariants as a
use Rattle.wb_session.specs.Parses.{IsParsed}
use Rattle.wb_session.specs.parsed.Parsed.{Parsed}
use Rattle.wb_session.specs.parsed.Parsed.TheVariants as parsed
use Rattle.wb_report.specs.Lines.{report_of}
use Rattle.wb_report.specs.declared.done.Done.TheVariants as done
use Rattle.wb_report.specs.declared.outcome.Outcome.TheVariants as o
use Rattle.wb_scan_theory.specs.Languages.{LanguageView}
use Rattle.wb_terms.specs.Printed.{printed_tree}
use Rattle.wb_values.specs.Signature.{Signature}
use Rattle.wb_values.specs.Tree.{Tree}
use Rattle.wb_values.specs.ValuesIn.{tree_in}
use Rattle.wb_compose_texts.specs.EditAnswers.{IsLineOf}
use Rattle.wb_compose_texts.specs.Inner.Gathered.{AreGathered, HasOneMore}
use Rattle.wb_compose_texts.specs.declared.lines.Lines.{Lines}
use Rattle.wb_compose_texts.proofs.GatheredLemmas.{stays_long}

module _ (names : List (List ℕ)) (signatures : List Signature) (l : LanguageView) (text : List ℕ) where
  -- a printed tree is a line
  tree_line : (printed : List ℕ) → HasPrintedTree names signatures l text printed →
      IsLineOf names signatures l text (report_of (o.Done (done.Tree printed)))
  tree_line printed tree = inl (printed, tree, refl)

  -- a text that was parsed has a line, whether it is made or not
  parsed_line : (store : List Tree) (answer : Parsed) → IsParsed l text store answer →
      (line : List ℕ) × IsLineOf names signatures l text line
  parsed_line store (parsed.Tree id) is =
      let printed : List ℕ = printed_tree signatures (tree_in store id.0) in
      let tree : HasPrintedTree names signatures l text printed = record {
        root = is.tree;
        parses = is.parses;
        value = tree_in store id.0;
        shows = is.shows;
        is = refl;
      } in
      (report_of (o.Done (done.Tree printed)), tree_line printed tree)
  parsed_line store (parsed.Stopped at kind) is =
      let stops : StopsShown names signatures l text at (stop_shown names kind) = record { kind = kind; stops = is; is = refl } in
      (report_of (o.Stopped at (stop_shown names kind)), inr (at, stop_shown names kind, stops, refl))

  -- where the lines are too long already, one more makes no difference
  pub none_more : (before : List (List ℕ)) (made : Lines) (store : List Tree) (answer : Parsed) → IsParsed l text store answer →
      made.are_long ≡ true → AreGathered made before → HasOneMore names signatures l text before made
  none_more before made store answer is long gathered =
      let line = parsed_line store answer is in
      record { line = line.0; is = line.1; gathered = stays_long made before line.0 long gathered }

  -- a tree that is too long to print has a line, and with it the lines are too long
  pub long_more : (before : List (List ℕ)) (made : Lines) → IsAnswerIn names signatures l text a.TooLong →
      ((line : List ℕ) → 16777216 < length line → AreGathered made (before ++ line ∷ [])) → HasOneMore names signatures l text before made
  long_more before made tree gathered =
      let whole : length (report_of (o.Done (done.Tree tree.printed))) ≡ length tree.printed + length (codes "\n") =
      length-append tree.printed (codes "\n") in
      let long = tree.long in
      record {
        line = report_of (o.Done (done.Tree tree.printed));
        is = tree_line tree.printed tree.has;
        gathered = gathered (report_of (o.Done (done.Tree tree.printed))) (omega (arith, whole, long));
      }

-- what follows where an answer is no error
pub on_ok : {X E : Type 0} (r : Result X E) {P Q : Type 0} → (P → Q) → OnOk r P → OnOk r Q
on_ok (Ok x) gives p = gives p
on_ok (Err e) gives p = tt
