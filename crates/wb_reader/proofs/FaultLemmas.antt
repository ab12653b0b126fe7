-- The bytes before a first error begin some specification's text: its completion has a text.
use Rattle.std.proofs.Common.{◌≡◌, ℕ, ◌≤◌, List, ◌++◌, length, get_or, take, drop, refl, sym, ap, ◌∙◌, subst, arith, length-take}
use Rattle.std.proofs.lemmas.List.{take-append-drop, get_or_at}
use Rattle.wb_text_predictive.specs.declared.table.Next.{Next}
use Rattle.wb_text_predictive.specs.declared.table.Next.TheVariants.{Found, End, NoToken}
use Rattle.wb_text_predictive.specs.Reading.{Spells, place_of}
use Rattle.wb_text_predictive.proofs.ByKind.{changed_before, derives_changed, nonterminal_too, no_symbol}
use Rattle.wb_text_predictive.proofs.Readings.{spells_append}
use Rattle.wb_text_tokens.specs.Kinds.{kind_of}
use Rattle.wb_text_tokens.specs.NextToken.{IsNextIn}
use Rattle.wb_text_tokens.specs.Skipping.{SkipsLayout}
use Rattle.wb_text_tokens.specs.declared.token.Dialect.{Dialect}
use Rattle.wb_text_tokens.specs.declared.token.Token.{Token}
use Rattle.wb_text_tokens.proofs.AgreementLemmas.{EndsLine, kept_layout, kept_tokens}
use Rattle.wb_text_tokens.proofs.LinesLemmas.{first_line, lines_read}
use Rattle.wb_text_tokens.proofs.PlacedLaws.{layout_forward}
use Rattle.wb_text_tokens.proofs.SampleLemmas.{kind_in, samples, lines_of, lines_sampled, lines_bytes, samples_kinds}
use Rattle.wb_syntax.specs.SpecText.{dialect_of}
use Rattle.wb_reader_builder.specs.Builder.{empty}
use Rattle.wb_reader.specs.Inner.Table.{spec_grammar}
use Rattle.wb_reader.specs.Refusals.{IsSyntaxFault}
use Rattle.wb_reader.specs.FirstFault.{BeginsText}
use Rattle.wb_reader.proofs.ClosedLemmas.{spec_changed, kinds_stay, same_format}
use Rattle.wb_reader.proofs.HomeLemmas.{at_home}
use Rattle.wb_reader.proofs.TextLemmas.{spec_of_text, text_of_spec}

-- layout goes up to what is next, which is within the text
pub skipped_to : (dialect : Dialect) (text : List ℕ) (from at : ℕ) (next : Next Token) → IsNextIn dialect text from next
    → place_of next ≡ at
    → SkipsLayout dialect text from at × (at ≤ length text)
skipped_to dialect text from at (Found x) h e =
    (subst (λ k. SkipsLayout dialect text from k) e h.skipped, omega (arith, e, h.stands.ordered, h.stands.within))
skipped_to dialect text from at (End k) h e = (subst (λ k. SkipsLayout dialect text from k) e h.skipped, omega (arith, e, h.last))
skipped_to dialect text from at (NoToken k) h e = (subst (λ k. SkipsLayout dialect text from k) e h.skipped, omega (arith, e, h.within))

-- the bytes before the place begin a text
pub begins_before : (bytes : List ℕ) (at : ℕ) → IsSyntaxFault bytes at → BeginsText (take at bytes)
begins_before bytes at fault =
    let f = at_home bytes at fault in
    let before = f.before in
    let d = dialect_of before.spec.format in
    let p = take at bytes in
    let u = drop at bytes in
    let v = lines_of d before.rest in
    let whole : p ++ u ≡ bytes = take-append-drop at bytes in
    let next = skipped_to d bytes f.from at f.next f.stands f.place in
    let place : length p ≡ at = omega (arith, next.1, length-take at bytes) in
    let low = layout_forward d bytes f.from at next.0 in
    let first = first_line d v (samples d before.rest) (lines_sampled d before.rest) in
    let line : EndsLine (p ++ v) (length p) =
    λ more. ap (λ l. get_or (p ++ l) (length p) 0) first.1 ∙ get_or_at p 10 first.0 0 (length p) refl in
    let kept = kept_tokens d p u v 0 f.from f.front
    (subst (λ l. Spells (IsNextIn d l) 0 f.front f.from) (sym whole) f.spelled) (omega (arith, low, place)) line in
    let read = lines_read d (p ++ v) p v f.from at (samples d before.rest) refl (sym place)
    (λ end s. kept_layout d p u v f.from at end (subst (λ l. SkipsLayout d l f.from at) (sym whole) next.0)
    (omega (arith, place)) (λ e. subst (λ k. EndsLine (p ++ v) k) place line) s)
    (lines_sampled d before.rest) in
    let kinds = changed_before kind_of (kind_in d) f.front before.rest read.lexemes (kinds_stay d bytes 0 f.from f.front f.spelled)
    (samples_kinds d before.rest read.lexemes read.same) in
    let derived = derives_changed spec_grammar (kind_in d) (spec_changed d)
    (text_of_spec (f.front ++ before.rest) before.spec before.specification) (nonterminal_too refl no_symbol)
    (f.front ++ read.lexemes) empty kinds in
    let spec = spec_of_text (f.front ++ read.lexemes) derived.0 derived.1 in
    let same : d ≡ dialect_of spec.0.format = ap dialect_of
    (sym (same_format d (f.front ++ before.rest) (f.front ++ read.lexemes) before.spec spec.0 kinds before.specification spec.1)) in
    record {
      rest = v;
      bytes = lines_bytes d before.rest;
      written = spec.0;
      text = record {
        tokens = f.front ++ read.lexemes;
        to = read.to;
        at = read.at;
        spelled =
            subst (λ e. Spells (IsNextIn e (p ++ v)) 0 (f.front ++ read.lexemes) read.to) same
            (spells_append (IsNextIn d (p ++ v)) kept read.spelled);
        ended = subst (λ e. IsNextIn e (p ++ v) read.to (End read.at)) same read.ended;
        specification = spec.1;
      };
    }
