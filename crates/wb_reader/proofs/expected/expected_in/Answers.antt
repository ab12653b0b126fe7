use Rattle.std.proofs.Common.{◌≡◌, [], ◌∷◌, ◌++◌, subst}
use Rattle.std.specs.Prelude.{IfSome}
use Rattle.wb_text_expected.specs.Expected.{AreExpected, ComesAfter}
use Rattle.wb_text_expected.proofs.CallerLemmas.{those_alike}
use Rattle.wb_text_tokens.specs.NextToken.{IsNextIn}
use Rattle.wb_reader.specs.Expected.{CanCome}
use Rattle.wb_reader.specs.Inner.Table.{spec_grammar}
use Rattle.wb_reader_builder.specs.Builder.{empty}
use Rattle.wb_reader.proofs.TextLemmas.{begins, starts}
use Rattle.wb_reader.proofs.expected.expected_in.Goals as goal

pub returns-in-Some : goal.returns-in-Some
returns-in-Some c =
    let is = subst (λ found. IfSome found (λ listed. AreExpected spec_grammar (IsNextIn c.args.dialect c.args.bytes.now) empty c.args.at
    c.args.kinds.now listed.items)) c.in-Some.is (c.in_ok-listed.ensures empty) in
    record {
      dialect = c.args.dialect;
      own = c.requires;
      are = record {
        front = is.front;
        from = is.from;
        next = is.next;
        spelled = is.spelled;
        before = is.before;
        stands = is.stands;
        after = is.after;
        are = those_alike (ComesAfter spec_grammar empty is.front) (CanCome is.front)
            (λ kind c. (c.0, c.1, begins (is.front ++ c.0 ∷ []) c.2)) (λ kind c. (c.0, c.1, starts (is.front ++ c.0 ∷ []) c.2)) is.are;
      };
    }
