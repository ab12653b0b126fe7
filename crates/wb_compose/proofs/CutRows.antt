-- What is cut out is what each extension adds.
use Rattle.std.proofs.Common.{◌≡◌, ◌∙◌, ◌-◌, ◌++◌, ℕ, List, IfSome, Some, length, slice_get, take, ap, subst}
use Rattle.std.proofs.lemmas.List.{length-drop, length-take-le, take-append-drop}
use Rattle.wb_base.specs.Grammar.{GrammarView}
use Rattle.wb_certify.specs.Kept.{ExtensionView}
use Rattle.wb_compose.specs.Attributes.{addition_of, written_with}
use Rattle.wb_compose.specs.Joined.{Extended}
use Rattle.wb_compose_theory_lists.specs.Additions as union
use Rattle.wb_syntax_resolved.specs.declared.production.Production.{Production}
use Rattle.wb_syntax_resolved.specs.declared.resolved.ResolvedParts.{ResolvedParts}
use Rattle.wb_syntax_resolved.specs.Grammar.{IsGrammarOf}
use Rattle.wb_syntax_resolved.specs.Resolved.{IsResolved}
use Rattle.wb_compose_theory.specs.Blocks.{lift}
use Rattle.wb_compose_attributes.specs.declared.addition.Addition.{Addition}
use Rattle.wb_compose_attributes.specs.declared.addition.Rows.{Rows}
use Rattle.wb_compose_attributes.specs.Lent.{addition_in, equations_after, host_row, locals_after, rows_in, written_in}
use Rattle.wb_compose.specs.Inner.Cuts.{IsCut, rows_by}

-- the grammar of a resolved specification
grammar_in : (r : ResolvedParts) (g : GrammarView) → IsResolved r → r.grammar ≡ Some g → IsGrammarOf r g
grammar_in r g resolved start = subst (λ o. IfSome o (IsGrammarOf r)) start resolved.numbered.grammar

-- the extension with its grammar
abbrev pub extended_by : ExtensionView → GrammarView → Extended
extended_by e g = record { resolved = e.resolved; grammar = g }

module _ (host : ResolvedParts) (h : GrammarView) (lent : Rows) (whole : IsResolved host) (start : host.grammar ≡ Some h)
    (rows_are : rows_in lent ≡ rows_by host.attributes h) where
  host_row_is : (p : ℕ) → host_row lent p ≡ slice_get host.attributes.productions p
  host_row_is p = ap (λ (r : union.Rows). slice_get (r.productions ++ r.abstract_productions) p) rows_are
      ∙ ap (λ (ps : List Production). slice_get ps p) (take-append-drop (length h.productions) host.attributes.productions)

  lead_is : length lent.productions.now ≡ length h.productions
  lead_is = ap (λ (r : union.Rows). length r.productions) rows_are
      ∙ length-take-le (length h.productions) host.attributes.productions (grammar_in host h whole start).productions_len

  module _ (e : ExtensionView) (x : Addition) (cut : IsCut host.attributes h e x) (resolved : IsResolved e.resolved) where
    abbrev extended : Extended
    extended = extended_by e cut.grammar

    own_is : length x.rows.productions.now ≡ length cut.grammar.productions - length h.productions
    own_is = ap (λ (r : union.Rows). length r.productions) cut.rows_are
        ∙ (length-drop (length h.productions) (take (length cut.grammar.productions) e.resolved.attributes.productions)
        ∙ ap (λ n. n - length h.productions) (length-take-le (length cut.grammar.productions) e.resolved.attributes.productions
        (grammar_in e.resolved cut.grammar resolved cut.start).productions_len))

    there_is : (p : ℕ) → written_in lent x p ≡ written_with host h extended p
    there_is p = λ j. slice_get (cut.written_are j) (lift (lead_is j) (own_is j) p)

    pub addition_is : addition_in lent x ≡ addition_of host h extended
    addition_is = λ j. record {
      name = cut.name_is j;
      rows = cut.rows_are j;
      locals = λ p. locals_after (host_row_is p j) (there_is p j);
      equations = λ p. equations_after (host_row_is p j) (there_is p j);
    }
