use Rattle.std.proofs.Common.{List, subst}
use Rattle.wb_text_predictive.specs.Reading.{IsOutcome}
use Rattle.wb_text_tokens.specs.declared.token.Dialect.TheVariants.{Terms}
use Rattle.wb_terms.specs.declared.event.Event.{Event}
use Rattle.wb_text_tokens.specs.NextToken.{IsNextIn}
use Rattle.wb_terms.specs.Inner.TermTable.{term_grammar}
use Rattle.wb_terms.proofs.ReadingLemmas.{term_reading}
use Rattle.wb_terms.proofs.reading.read_events.Goals as goal

pub returns : goal.returns
returns c =
    record {
      ok = term_reading c.args.bytes.now c.in_ok-outcome.outcome
          (subst (λ (v : List Event). IsOutcome term_grammar
          (IsNextIn Terms c.args.bytes.now) v c.in_ok-outcome.outcome) c.new-events.ensures c.in_ok-outcome.ensures.ok);
    }
