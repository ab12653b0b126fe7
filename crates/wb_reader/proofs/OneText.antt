-- Bytes have one outcome as a specification.
use Rattle.std.proofs.Common.{◌≡◌, ℕ, List, sym, ap, ◌∙◌, subst}
use Rattle.wb_text_predictive.specs.declared.reading.Outcome.{Outcome}
use Rattle.wb_text_predictive.specs.declared.reading.Outcome.TheVariants.{Whole, Stopped}
use Rattle.wb_text_predictive.specs.Reading.{IsOutcome, IsReading}
use Rattle.wb_text_predictive.proofs.CallerLemmas.{one_outcome}
use Rattle.wb_text_tokens.specs.declared.token.Dialect.{Dialect}
use Rattle.wb_text_tokens.specs.NextToken.{IsNextIn}
use Rattle.wb_text_tokens.proofs.PlacedLaws.{one_next}
use Rattle.wb_syntax.specs.declared.written.WrittenSpec.{WrittenSpec}
use Rattle.wb_syntax.specs.SpecText.{SpecView, dialect_of, IsWrittenText, IsSpecText, IsReadSpec}
use Rattle.wb_text_tokens.specs.declared.kind.TokenKind.TheVariants.{End}
use Rattle.wb_text_tokens.specs.Inner.SameKind.{same_kind}
use Rattle.wb_text_tokens.proofs.KindLaws.{kinds_same}
use Rattle.wb_reader_builder.specs.declared.builder.SpecBuilder.{SpecBuilder}
use Rattle.wb_reader.specs.Inner.LookaheadTable.{lookahead_table}
use Rattle.wb_reader.specs.Inner.Laws.{spec_decided, spec_ends}
use Rattle.wb_reader_builder.specs.Builder.{empty, written_of}
use Rattle.wb_reader.specs.Inner.Table.{spec_grammar}
use Rattle.wb_reader.specs.Refusals.{IsFaultIn, IsSyntaxFault}
use Rattle.wb_reader.proofs.HeadLemmas.{one_dialect, written_own}
use Rattle.wb_reader.proofs.ItemSound.{finished}
use Rattle.wb_reader.proofs.TextLemmas.{whole_written, table_fault, written_finished_of}
use Rattle.wb_reader.proofs.PatternLemmas.{one_spec}

-- bytes have one outcome by the table of a dialect
same_outcome : (bytes : List ℕ) (dialect : Dialect) (o : Outcome SpecBuilder) → IsOutcome spec_grammar (IsNextIn dialect bytes) empty o
    → (p : Outcome SpecBuilder) → IsOutcome spec_grammar (IsNextIn dialect bytes) empty p → o ≡ p
same_outcome bytes dialect o r p s =
    one_outcome same_kind kinds_same End lookahead_table spec_grammar spec_decided spec_ends (IsNextIn dialect bytes)
    (one_next dialect bytes) empty o r p s

-- bytes are written as one specification
pub one_written : (bytes : List ℕ) (a b : WrittenSpec) → IsWrittenText bytes a → IsWrittenText bytes b → a ≡ b
one_written bytes a b r s =
    let same = one_dialect bytes (dialect_of b.format) (dialect_of a.format) (written_own bytes b s) (written_own bytes a r) in
    let e = same_outcome bytes (dialect_of a.format) (Whole (finished empty a)) (whole_written bytes a r) (Whole (finished empty b))
    (subst (λ d. IsReading spec_grammar (IsNextIn d bytes) empty (finished empty b)) same (whole_written bytes b s)) in
    let h : finished empty a ≡ finished empty b = cc in
    sym (written_finished_of bytes a r) ∙ (ap written_of h ∙ written_finished_of bytes b s)

-- what is written has no error
pub no_fault : (bytes : List ℕ) (a : WrittenSpec) (at : ℕ) → IsWrittenText bytes a → ¬ IsSyntaxFault bytes at
no_fault bytes a at r s =
    let same = one_dialect bytes s.dialect (dialect_of a.format) s.own (written_own bytes a r) in
    let e = same_outcome bytes (dialect_of a.format) (Whole (finished empty a)) (whole_written bytes a r) (Stopped at)
    (table_fault bytes (dialect_of a.format) at (subst (λ d. IsFaultIn d bytes at) same s.fault)) in absurd (cc)

-- bytes have their first error at one place
pub one_fault : (bytes : List ℕ) (at place : ℕ) → IsSyntaxFault bytes at → IsSyntaxFault bytes place → at ≡ place
one_fault bytes at place r s =
    let same = one_dialect bytes s.dialect r.dialect s.own r.own in
    let e = same_outcome bytes r.dialect (Stopped at) (table_fault bytes r.dialect at r.fault) (Stopped place)
    (table_fault bytes r.dialect place (subst (λ d. IsFaultIn d bytes place) same s.fault)) in cc

-- bytes are one specification
pub one_text : (bytes : List ℕ) (a b : SpecView) → IsSpecText bytes a → IsSpecText bytes b → a ≡ b
one_text bytes a b r s =
    one_spec r.written a b r.read (subst (λ w. IsReadSpec w b) (one_written bytes s.written r.written s.text r.text) s.read)
