use Rattle.std.proofs.Common.{◌≡◌, ◌∙◌, ℕ, List, Option, subst, sym}
use Rattle.std.proofs.lemmas.Result.{IfOk-weaker}
use Rattle.wb_base.specs.Grammar.{GrammarView}
use Rattle.wb_syntax_resolved.specs.declared.attributes.Attribute.{Attribute}
use Rattle.wb_syntax_resolved.specs.declared.attributes.Nonterminal.{Nonterminal}
use Rattle.wb_syntax_resolved.specs.declared.attributes.Occurrence.{Occurrence}
use Rattle.wb_syntax_resolved.specs.declared.attribution.AttributionParts.{AttributionParts}
use Rattle.wb_syntax_resolved.specs.declared.production.Production.{Production}
use Rattle.wb_syntax_resolved.specs.declared.resolved.ResolvedParts.{ResolvedParts}
use Rattle.wb_syntax_resolved.specs.declared.terminal.Preference.{Preference}
use Rattle.wb_syntax_resolved.specs.declared.terminal.Terminal.{Terminal}
use Rattle.wb_syntax_resolved.specs.Attribution.{IsAttribution}
use Rattle.wb_syntax_resolved.specs.Resolved.{IsResolved}
use Rattle.wb_values.specs.Signature.{Signature}
use Rattle.wb_names_symbols.specs.Lent.{lent_file}
use Rattle.wb_names.specs.Inner.Made.{value_with}
use Rattle.wb_names.proofs.numbered.value.Goals as goal

-- lists that are those of an attribution, and of a value
attribution_is : (v : AttributionParts) {x : List (List ℕ)} {n : List Nonterminal} {a : List Attribute} {o : List Occurrence}
    {p : List Production} {s : List Signature}
    → x ≡ v.extensions → n ≡ v.nonterminals → a ≡ v.attributes → o ≡ v.occurrences → p ≡ v.productions → s ≡ v.signatures
    → record { extensions = x; nonterminals = n; attributes = a; occurrences = o; productions = p; signatures = s } ≡ v
attribution_is v x_is n_is a_is o_is p_is s_is = λ j. record {
  extensions = x_is j;
  nonterminals = n_is j;
  attributes = a_is j;
  occurrences = o_is j;
  productions = p_is j;
  signatures = s_is j;
}

parts_are : (v : ResolvedParts) {h : List ℕ} {g : Option GrammarView} {t : List Terminal} {p : List Preference} {e : List ℕ}
    {a : AttributionParts}
    → h ≡ v.host → g ≡ v.grammar → t ≡ v.terminals → p ≡ v.preferences → e ≡ v.extensible → a ≡ v.attributes
    → record { host = h; grammar = g; terminals = t; preferences = p; extensible = e; attributes = a } ≡ v
parts_are v h_is g_is t_is p_is e_is a_is = λ j. record {
  host = h_is j;
  grammar = g_is j;
  terminals = t_is j;
  preferences = p_is j;
  extensible = e_is j;
  attributes = a_is j;
}

pub new-requires-2 : goal.new-requires-2
new-requires-2 c =
    let v = value_with (lent_file c.args.file.now) c.args.symbols.now c.args.written.now in
    let copied = c.from_vec.ensures ∙ c.in_ok-extensions.ensures.items_if_clones_equal (λ x y e. e) in
    subst IsAttribution (sym (attribution_is v.attributes copied c.taken.ensures c.taken-2.ensures c.taken-3.ensures c.taken-4.ensures
    c.replace.ensures.value)) c.requires.attributes

pub new-requires-in-Ok : goal.new-requires-in-Ok
new-requires-in-Ok c =
    let v = value_with (lent_file c.args.file.now) c.args.symbols.now c.args.written.now in
    let copied = c.from_vec.ensures ∙ c.in_ok-extensions.ensures.items_if_clones_equal (λ x y e. e) in
    let same = attribution_is v.attributes copied c.taken.ensures c.taken-2.ensures c.taken-3.ensures c.taken-4.ensures
    c.replace.ensures.value in
    subst IsResolved (sym (parts_are v c.in-Ok.ensures.ok c.replace-in-Ok.ensures.value c.taken-in-Ok.ensures c.taken-in-Ok-2.ensures
    c.taken-in-Ok-3.ensures (c.in_ok-attributes.ensures ∙ same))) c.requires

pub returns-in-Ok : goal.returns-in-Ok
returns-in-Ok c =
    let v = value_with (lent_file c.args.file.now) c.args.symbols.now c.args.written.now in
    let copied = c.from_vec.ensures ∙ c.in_ok-extensions.ensures.items_if_clones_equal (λ x y e. e) in
    let same = attribution_is v.attributes copied c.taken.ensures c.taken-2.ensures c.taken-3.ensures c.taken-4.ensures
    c.replace.ensures.value in
    let made = parts_are v c.in-Ok.ensures.ok c.replace-in-Ok.ensures.value c.taken-in-Ok.ensures c.taken-in-Ok-2.ensures
    c.taken-in-Ok-3.ensures (c.in_ok-attributes.ensures ∙ same) in
    IfOk-weaker c.new-in-Ok.result _ (λ (r : ResolvedParts). r ≡ v) (λ r is. is ∙ made) c.new-in-Ok.ensures
