-- What the table's outcomes say of bytes as specifications.
use Rattle.std.proofs.Common.{◌≡◌, ℕ, List, [], ◌∷◌, ◌++◌, refl, sym, ap, ◌∙◌, subst}
use Rattle.std.proofs.lemmas.List.{append-nil}
use Rattle.wb_text_predictive.specs.declared.table.Next.{Next}
use Rattle.wb_text_predictive.specs.declared.table.Next.TheVariants.{Found, End, NoToken}
use Rattle.wb_text_predictive.specs.declared.symbol.Symbol.TheVariants.{Nonterminal}
use Rattle.wb_text_predictive.specs.Grammar.{done, CanStart as CanStartTable}
use Rattle.wb_text_predictive.specs.declared.reading.Outcome.{Outcome}
use Rattle.wb_text_predictive.specs.declared.reading.Outcome.TheVariants.{Whole, Stopped}
use Rattle.wb_text_predictive.specs.Reading.{Spells, IsOutcome, IsReading, IsFirstFault as IsTableFault, CannotFollow as CannotFollowTable}
use Rattle.wb_text_tokens.specs.declared.token.Dialect.{Dialect}
use Rattle.wb_text_tokens.specs.declared.token.Token.{Token}
use Rattle.wb_text_tokens.specs.NextToken.{IsNextIn}
use Rattle.wb_syntax.specs.declared.written.WrittenSpec.{WrittenSpec}
use Rattle.wb_syntax.specs.Tokens.{Lexeme}
use Rattle.wb_syntax.specs.ItemGrammar.{IsSpecification, whole}
use Rattle.wb_syntax.specs.SpecText.{IsWrittenText, dialect_of}
use Rattle.wb_reader.specs.declared.part.Part.{Part}
use Rattle.wb_reader_builder.specs.declared.builder.SpecBuilder.{SpecBuilder}
use Rattle.wb_reader_builder.specs.Builder.{empty, written_of}
use Rattle.wb_reader.specs.Inner.Table.{spec_grammar}
use Rattle.wb_reader.specs.Refusals.{IsDialectOf, CanBegin, CannotFollow, IsFaultIn, IsSyntaxFault}
use Rattle.wb_reader.proofs.HeadLemmas.{spec_head, spec_format, head_own}
use Rattle.wb_reader.proofs.Taking.{Makes, Row}
use Rattle.wb_reader.proofs.ItemSound.{file_sound, finished}
use Rattle.wb_reader.proofs.ItemComplete.{file_given}

-- the row with which the table begins
abbrev start_row : Row
start_row = Nonterminal Part.File ∷ []

-- nothing derives only nothing
nothing_left : {w : List Lexeme} {a b : SpecBuilder} → Makes [] w a b → (w ≡ []) × (a ≡ b)
nothing_left (done e h) = (e, h)

-- tokens that the table's grammar derives are a specification, and it made the parts of it
pub spec_of_text : (w : List Lexeme) (last : SpecBuilder) → Makes (start_row) w empty last
    → (spec : WrittenSpec) × IsSpecification w spec × (finished empty spec ≡ last)
spec_of_text w last d =
    let r = file_sound empty [] w last d in
    let n = nothing_left r.5 in
    let e : w ≡ r.0 = r.4 ∙ (ap (λ v. r.0 ++ v) n.0 ∙ append-nil r.0) in
    (r.2, subst (λ v. IsSpecification v r.2) (sym e) r.3, n.1)

-- a specification's tokens are derived, with its parts
pub text_of_spec : (w : List Lexeme) (spec : WrittenSpec) → IsSpecification w spec → Makes (start_row) w empty (finished empty spec)
text_of_spec w spec r =
    subst (λ v. Makes start_row v empty (finished empty spec)) (append-nil w)
    (file_given empty [] w [] (finished empty spec) spec r (done refl refl))

-- the specification of the whole parts is the one that they were made of
written_finished : (w : List Lexeme) (spec : WrittenSpec) → IsSpecification w spec → written_of (finished empty spec) ≡ spec
written_finished w spec (whole h known i j k l e) = refl

-- a text that the table has read whole
pub written_whole : (bytes : List ℕ) (dialect : Dialect) → IsDialectOf bytes dialect → (last : SpecBuilder)
    → IsReading spec_grammar (IsNextIn dialect bytes) empty last → IsWrittenText bytes (written_of last)
written_whole bytes dialect own last r =
    let s = spec_of_text r.tokens last r.text in
    let e : written_of last ≡ s.0 = ap written_of (sym s.2) ∙ written_finished r.tokens s.0 s.1 in
    let said : dialect ≡ dialect_of s.0.format =
    head_own bytes dialect s.0.format r.tokens r.to own (spec_format r.tokens s.0 s.1) r.spelled (spec_head r.tokens s.0 s.1) in
    subst (λ x. IsWrittenText bytes x) (sym e) (record {
      tokens = r.tokens;
      to = r.to;
      at = r.at;
      spelled = subst (λ d. Spells (IsNextIn d bytes) 0 r.tokens r.to) said r.spelled;
      ended = subst (λ d. IsNextIn d bytes r.to (End r.at)) said r.ended;
      specification = s.1;
    })

-- and one that is in the grammar is read whole
pub whole_written : (bytes : List ℕ) (spec : WrittenSpec) → IsWrittenText bytes spec
    → IsReading spec_grammar (IsNextIn (dialect_of spec.format) bytes) empty (finished empty spec)
whole_written bytes spec r =
    record {
      tokens = r.tokens;
      to = r.to;
      at = r.at;
      spelled = r.spelled;
      ended = r.ended;
      text = text_of_spec r.tokens spec r.specification;
    }

-- some specification begins with tokens exactly where the table's grammar goes on after them
pub begins : (front : List Lexeme) → CanStartTable spec_grammar empty front → CanBegin front
begins front c = let s = spec_of_text (front ++ c.rest) c.last c.text in record { rest = c.rest; spec = s.0; specification = s.1 }

pub starts : (front : List Lexeme) → CanBegin front → CanStartTable spec_grammar empty front
starts front c = record { rest = c.rest; last = finished empty c.spec; text = text_of_spec (front ++ c.rest) c.spec c.specification }

follows : (front : List Lexeme) (next : Next Token) → CannotFollowTable spec_grammar empty front next → CannotFollow front next
follows front (Found x) h = λ c. h (starts (front ++ x ∷ []) c)
follows front (End at) h = λ spec r. h (finished empty spec) (text_of_spec front spec r)
follows front (NoToken at) h = tt

follows_table : (front : List Lexeme) (next : Next Token) → CannotFollow front next → CannotFollowTable spec_grammar empty front next
follows_table front (Found x) h = λ c. h (begins (front ++ x ∷ []) c)
follows_table front (End at) h = λ last d. let s = spec_of_text front last d in h s.0 s.1
follows_table front (NoToken at) h = tt

-- where the table has its first error the text does
pub fault_in : (bytes : List ℕ) (dialect : Dialect) (at : ℕ) → IsTableFault spec_grammar (IsNextIn dialect bytes) empty at
    → IsFaultIn dialect bytes at
fault_in bytes dialect at r =
    record {
      front = r.front;
      from = r.from;
      next = r.next;
      spelled = r.spelled;
      before = begins r.front r.before;
      stands = r.stands;
      fault = follows r.front r.next r.fault;
      place = r.place;
    }

pub table_fault : (bytes : List ℕ) (dialect : Dialect) (at : ℕ) → IsFaultIn dialect bytes at
    → IsTableFault spec_grammar (IsNextIn dialect bytes) empty at
table_fault bytes dialect at r =
    record {
      front = r.front;
      from = r.from;
      next = r.next;
      spelled = r.spelled;
      before = starts r.front r.before;
      stands = r.stands;
      fault = follows_table r.front r.next r.fault;
      place = r.place;
    }

-- the same of an outcome that a reading from the empty parts has
pub whole_outcome : (bytes : List ℕ) (dialect : Dialect) → IsDialectOf bytes dialect → (first : SpecBuilder) → first ≡ empty
    → (o : Outcome SpecBuilder) → IsOutcome spec_grammar (IsNextIn dialect bytes) first o → (last : SpecBuilder) → o ≡ Whole last
    → IsWrittenText bytes (written_of last)
whole_outcome bytes dialect own first e o r last h =
    written_whole bytes dialect own last (subst (λ x. IsOutcome spec_grammar (IsNextIn dialect bytes) x (Whole last)) e
    (subst (λ x. IsOutcome spec_grammar (IsNextIn dialect bytes) first x) h r))

pub stopped_outcome : (bytes : List ℕ) (dialect : Dialect) → IsDialectOf bytes dialect → (first : SpecBuilder) → first ≡ empty
    → (o : Outcome SpecBuilder) → IsOutcome spec_grammar (IsNextIn dialect bytes) first o → (at : ℕ) → o ≡ Stopped at
    → IsSyntaxFault bytes at
stopped_outcome bytes dialect own first e o r at h = record {
  dialect = dialect;
  own = own;
  fault = fault_in bytes dialect at (subst (λ x. IsOutcome spec_grammar (IsNextIn dialect bytes) x (Stopped at)) e
      (subst (λ x. IsOutcome spec_grammar (IsNextIn dialect bytes) first x) h r));
}

-- the parts of a text's specification are that specification
pub written_finished_of : (bytes : List ℕ) (spec : WrittenSpec) → IsWrittenText bytes spec → written_of (finished empty spec) ≡ spec
written_finished_of bytes spec r = written_finished r.tokens spec r.specification
