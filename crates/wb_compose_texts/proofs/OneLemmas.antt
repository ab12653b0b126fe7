-- A number makes one text of a host with extensions, whichever expressions its markers are written by.
use Rattle.std.proofs.Common.{◌≡◌, ◌↔◌, ◌∷◌, ◌∙◌, [], ℕ, List, Option, Some, None, sym, subst}
use Rattle.std.specs.List.{AllZip}
use Rattle.std.proofs.lemmas.Option.{same_Some}
use Rattle.wb_automata.specs.Overlaps.{IsLeastMatch}
use Rattle.wb_base.specs.Grammar.{GrammarView}
use Rattle.wb_compose.specs.Joined.{AreCertifiedApart}
use Rattle.wb_compose.specs.Written.{written_in}
use Rattle.wb_operations.specs.Operations.{OperationSignature}
use Rattle.wb_regex.specs.Matches.{Matches}
use Rattle.wb_regex.specs.Tree.{Tree}
use Rattle.wb_syntax_resolved.specs.declared.resolved.ResolvedParts.{ResolvedParts}
use Rattle.wb_syntax_resolved.specs.declared.terminal.TerminalKind.{TerminalKind}
use Rattle.wb_syntax_resolved.specs.declared.terminal.TerminalKind.TheVariants as kind
use Rattle.wb_compose_theory_grammar.specs.UnitedWorlds.{united}
use Rattle.wb_compose_texts.specs.Expressions.{IsExpressionOf, IsWrittenAs, Row, united_rows}
use Rattle.wb_compose.specs.WrittenLanguages.{pieces_of}
use Rattle.wb_compose_texts.specs.Unions.{Union, united_of}
use Rattle.wb_generate.specs.Outcomes.{IsOutcome}
use Rattle.wb_generate.specs.declared.generated.Generated.{Generated}
use Rattle.wb_generate.specs.declared.generated.Generated.TheVariants.{Text, NoSentence}
use Rattle.wb_generate.proofs.OneLemmas.{one_outcome}
use Rattle.wb_compose_texts.specs.Generated.{HasOneText, first_layout, place_behind}
use Rattle.wb_compose_texts.proofs.WithdrawnLemmas.{same_extended}

-- the two match the same texts
abbrev SameMatches : Tree → Tree → Type 0
SameMatches a b = (x : List ℕ) → Matches a x ↔ Matches b x

same_by : (a b : Tree) → a ≡ b → SameMatches a b
same_by a b e = subst (SameMatches a) e (λ x. (λ m. m, λ m. m))

written_alike : (k : TerminalKind) (name : List ℕ) (pattern a b : Tree) → IsWrittenAs k name pattern a → IsWrittenAs k name pattern b →
    SameMatches a b
written_alike kind.Plain name pattern a b first second = same_by a b (first ∙ sym second)
written_alike kind.Ignore name pattern a b first second = same_by a b (first ∙ sym second)
written_alike kind.Marking name pattern a b first second = λ x. (λ m. (second x).1 ((first x).0 m), λ m. (first x).1 ((second x).0 m))

alike : (row : Row) (a b : Tree) → IsExpressionOf row a → IsExpressionOf row b → SameMatches a b
alike (None, row) a b first second = same_by a b (first ∙ sym second)
alike (Some name, row) a b first second = written_alike row.kind name row.pattern a b first second

-- so they have the same least texts
least_there : (rows : List Row) (xs ys : List Tree) (texts : List (List ℕ)) → AllZip IsExpressionOf rows xs → AllZip IsExpressionOf rows ys →
    AllZip IsLeastMatch xs texts → AllZip IsLeastMatch ys texts
least_there [] [] [] texts first second least = least
least_there [] [] (y ∷ ys) texts first second least = absurd second
least_there [] (x ∷ xs) ys texts first second least = absurd first
least_there (row ∷ rows) [] ys texts first second least = absurd first
least_there (row ∷ rows) (x ∷ xs) [] texts first second least = absurd second
least_there (row ∷ rows) (x ∷ xs) (y ∷ ys) [] first second least = absurd least
least_there (row ∷ rows) (x ∷ xs) (y ∷ ys) (text ∷ texts) first second least =
    let same = alike row x y first.0 second.0 in (
      record {
        matches = (same text).0 least.0.matches;
        least = λ other m. least.0.least other ((same other).1 m);
      },
      least_there rows xs ys texts first.1 second.1 least.1,
    )

-- and outcomes
outcome_there : (rows : List Row) (xs ys : List Tree) → AllZip IsExpressionOf rows xs → AllZip IsExpressionOf rows ys → (g : GrammarView)
    (layout : Option ℕ) (number size : ℕ) (answer : Generated) → IsOutcome g xs layout number size answer →
    IsOutcome g ys layout number size answer
outcome_there rows xs ys first second g layout number size (Text text many) is = record {
  made = is.made;
  is_made = is.is_made;
  written = record {
    texts = is.written.texts;
    least = least_there rows xs ys is.written.texts first second is.written.least;
    is = is.written.is;
  };
  tree = is.tree;
  derived = is.derived;
  of_tree = is.of_tree;
  length_is = is.length_is;
  few = is.few;
}
outcome_there rows xs ys first second g layout number size (NoSentence n) is = is

-- a union has one grammar
one_grammar : (host : ResolvedParts) (operations : List OperationSignature) (extensions : List ResolvedParts)
    (u v : Union host operations extensions) → united_of host operations extensions v ≡ united_of host operations extensions u
one_grammar host operations extensions u v =
    let grammars : v.grammar ≡ u.grammar = same_Some v.grammar u.grammar (sym v.certified.host_start ∙ u.certified.host_start) in
    let apart : AreCertifiedApart host u.grammar operations v.extended =
    subst (λ g. AreCertifiedApart host g operations v.extended) grammars v.certified in
    let extendeds : v.extended ≡ u.extended = same_extended host u.grammar operations v.extended u.extended apart.each u.certified.each
    (v.extensions_are ∙ sym u.extensions_are) in
    λ j. united (grammars j) host.extensible (pieces_of (written_in (grammars j) (extendeds j)))

pub one_text : (host : ResolvedParts) (operations : List OperationSignature) (extensions : List ResolvedParts) (number size : ℕ) →
    HasOneText host operations extensions number size
one_text host operations extensions number size one other first second =
    let g : GrammarView = united_of host operations extensions first.whole in
    let same : united_of host operations extensions second.whole ≡ g = one_grammar host operations extensions first.whole second.whole in
    let moved : IsOutcome g second.expressions (place_behind g.terminals (first_layout host)) number size other =
    subst (λ (z : GrammarView). IsOutcome z second.expressions (place_behind z.terminals (first_layout host)) number size other) same
    second.is in
    one_outcome g first.expressions (place_behind g.terminals (first_layout host)) number size one other first.is
    (outcome_there (united_rows host extensions) second.expressions first.expressions second.written first.written g
    (place_behind g.terminals (first_layout host)) number size other moved)
