-- A reading by the table is one by the grammar of terms.
use Rattle.std.proofs.Common.{◌≡◌, ℕ, List, [], ◌++◌, refl}
use Rattle.wb_text_tokens.specs.Inner.SameKind.{same_kind}
use Rattle.wb_text_tokens.specs.declared.kind.TokenKind.TheVariants.{End}
use Rattle.wb_text_tokens.proofs.KindLaws.{kinds_same}
use Rattle.wb_text_predictive.specs.declared.table.Next.{Next}
use Rattle.wb_text_predictive.specs.declared.table.Next.TheVariants.{Found, End, NoToken}
use Rattle.wb_text_predictive.specs.declared.reading.Outcome.{Outcome}
use Rattle.wb_text_predictive.specs.declared.reading.Outcome.TheVariants.{Whole, Stopped}
use Rattle.wb_text_predictive.specs.Grammar.{done, IsText, CanStart}
use Rattle.wb_text_predictive.specs.Reading as R
use Rattle.wb_text_predictive.proofs.CallerLemmas.{one_text_value, one_outcome}
use Rattle.wb_text_tokens.specs.declared.token.Dialect.TheVariants.{Terms}
use Rattle.wb_text_tokens.specs.declared.token.Token.{Token}
use Rattle.wb_terms.specs.declared.event.Event.{Event}
use Rattle.wb_text_tokens.specs.NextToken.{IsNextIn}
use Rattle.wb_text_tokens.proofs.PlacedLaws.{one_next}
use Rattle.wb_terms.specs.Term.{Term}
use Rattle.wb_terms.specs.TermGrammar.{Tokens, IsTerm}
use Rattle.wb_terms.specs.TermText.{IsTermText, CanBegin, CannotFollow, IsFirstFault}
use Rattle.wb_terms.specs.Inner.TermReading.{IsTermReading}
use Rattle.wb_terms.specs.Inner.TermEntries.{term_entries}
use Rattle.wb_terms.specs.Inner.TermLaws.{term_decided, term_ends}
use Rattle.wb_terms.specs.Inner.TermTable.{term_grammar}
use Rattle.wb_terms.specs.Inner.Events.{term_onto}
use Rattle.wb_terms.proofs.Complete.{complete_term}
use Rattle.wb_terms.proofs.Sound.{sound_term}

-- a term is a text of the table, which makes of it what is met in the term
pub text_of_term : (tokens : Tokens) (term : Term) → IsTerm term tokens [] → IsText term_grammar [] tokens (term_onto term [])
text_of_term tokens term is = complete_term [] [] (term_onto term []) is (done refl refl)

-- what a text makes is what is met in its term
term_of_text : (tokens : Tokens) (events : List Event) → IsText term_grammar [] tokens events
    → (term : Term) × IsTerm term tokens [] × (term_onto term [] ≡ events)
term_of_text tokens events d =
    let t = sound_term tokens [] events d in (
      t.0,
      t.1,
      one_text_value same_kind kinds_same End term_entries term_grammar term_decided term_ends [] tokens (term_onto t.0 []) events
          (text_of_term tokens t.0 t.1) d,
    )

-- what can begin a term can start a text, and the other way round
can_start : (front : Tokens) → CanBegin front → CanStart term_grammar [] front
can_start front b = record { rest = b.others; last = term_onto b.term []; text = text_of_term (front ++ b.others) b.term b.whole }

can_begin : (front : Tokens) → CanStart term_grammar [] front → CanBegin front
can_begin front s = let t = term_of_text (front ++ s.rest) s.last s.text in record { others = s.rest; term = t.0; whole = t.1 }

-- what can't follow
cannot_follow : (front : Tokens) (next : Next Token) → R.CannotFollow term_grammar [] front next → CannotFollow front next
cannot_follow front (Found x) never = λ b. never (can_start _ b)
cannot_follow front (End at) never = λ term is. never (term_onto term []) (text_of_term front term is)
cannot_follow front (NoToken at) never = tt

cant_follow : (front : Tokens) (next : Next Token) → CannotFollow front next → R.CannotFollow term_grammar [] front next
cant_follow front (Found x) never = λ s. never (can_begin _ s)
cant_follow front (End at) never = λ last d. let t = term_of_text front last d in never t.0 t.1
cant_follow front (NoToken at) never = tt

-- the outcome of the table is what a reading finds
pub term_reading : (bytes : List ℕ) (o : Outcome (List Event)) → R.IsOutcome term_grammar (IsNextIn Terms bytes) [] o
    → IsTermReading bytes o
term_reading bytes (Whole events) r =
    let t = term_of_text r.tokens events r.text in
    (t.0, record { tokens = r.tokens; to = r.to; at = r.at; spelled = r.spelled; ended = r.ended; whole = t.1 }, t.2)
term_reading bytes (Stopped at) f = record {
  front = f.front;
  from = f.from;
  next = f.next;
  spelled = f.spelled;
  before = can_begin f.front f.before;
  stands = f.stands;
  fault = cannot_follow f.front f.next f.fault;
  here = f.place;
}

-- a term text is an outcome of the table
whole_outcome : (bytes : List ℕ) (term : Term) → IsTermText bytes term
    → R.IsOutcome term_grammar (IsNextIn Terms bytes) [] (Whole (term_onto term []))
whole_outcome bytes term t =
    record { tokens = t.tokens; to = t.to; at = t.at; spelled = t.spelled; ended = t.ended; text = text_of_term t.tokens term t.whole }

-- and so is a first fault
stopped_outcome : (bytes : List ℕ) (at : ℕ) → IsFirstFault bytes at → R.IsOutcome term_grammar (IsNextIn Terms bytes) [] (Stopped at)
stopped_outcome bytes at f = record {
  front = f.front;
  from = f.from;
  next = f.next;
  spelled = f.spelled;
  before = can_start f.front f.before;
  stands = f.stands;
  fault = cant_follow f.front f.next f.fault;
  place = f.here;
}

one : (bytes : List ℕ) (o p : Outcome (List Event)) → R.IsOutcome term_grammar (IsNextIn Terms bytes) [] o
    → R.IsOutcome term_grammar (IsNextIn Terms bytes) [] p → o ≡ p
one bytes o p r s =
    one_outcome same_kind kinds_same End term_entries term_grammar term_decided term_ends (IsNextIn Terms bytes)
    (one_next Terms bytes) [] o r p s

-- what is met in two terms of one text is the same
pub one_onto : (bytes : List ℕ) (s t : Term) → IsTermText bytes s → IsTermText bytes t → term_onto s [] ≡ term_onto t []
one_onto bytes s t a b =
    let e = one bytes (Whole (term_onto s [])) (Whole (term_onto t [])) (whole_outcome bytes s a) (whole_outcome bytes t b) in cc

-- a term has no first fault
pub term_or_fault : (bytes : List ℕ) (s : Term) (at : ℕ) → IsTermText bytes s → IsFirstFault bytes at → ⊥
term_or_fault bytes s at a f =
    let e = one bytes (Whole (term_onto s [])) (Stopped at) (whole_outcome bytes s a) (stopped_outcome bytes at f) in cc

-- and there is one first fault
pub one_first_fault : (bytes : List ℕ) (i j : ℕ) → IsFirstFault bytes i → IsFirstFault bytes j → i ≡ j
one_first_fault bytes i j a b = let e = one bytes (Stopped i) (Stopped j) (stopped_outcome bytes i a) (stopped_outcome bytes j b) in cc
