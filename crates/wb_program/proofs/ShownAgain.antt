-- What `show` writes is shown again as it is.
use Rattle.std.proofs.Common.{arith}
use Rattle.wb_syntax.specs.Canonical.{IsCanonical}
use Rattle.wb_reader.specs.declared.refusal.SpecRefusal.TheVariants.{TooLong}
use Rattle.wb_reader.specs.Refusals.{HasCause}
use Rattle.wb_reader.proofs.Excluding.{one_refusal}
use Rattle.wb_reader_printer.proofs.CallerLemmas.{one_canonical}
use Rattle.wb_reader_printer.proofs.ReadsLemmas.{reads_back, canonical_again}
use Rattle.wb_program.specs.ShownAgain.{IsStable}

-- the canonical text of a specification is taken again, or too long
pub is_stable : IsStable
is_stable spec text has canonical =
    let back = reads_back spec has text canonical in
    let again : IsCanonical back.other text = canonical_again spec text canonical back.other back.same in
    record {
      short = λ short. (back.other, (short, back.read), back.same, again, λ bytes other. one_canonical back.other bytes text other again);
      long = λ long. let more : HasCause text TooLong = omega (arith, long) in
          (more, λ refusal cause known. one_refusal text refusal TooLong cause more known (λ none. none));
    }
