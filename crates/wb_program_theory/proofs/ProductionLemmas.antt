-- Productions of a text's tree have the same new numbers as productions of the attributes, so trees become the same values.
use Rattle.std.proofs.Common.{◌≡◌, ◌∙◌, ◌<◌, ◌+◌, ◌∷◌, [], ℕ, List, Some, All, length, map, take, refl, sym, ap, subst, arith}
use Rattle.std.specs.Prelude.{IfSome}
use Rattle.std.proofs.lemmas.List.{length-drop, length-take-le}
use Rattle.std.proofs.lemmas.List.Elements.{All-head, All-tail}
use Rattle.wb_compose_theory_lists.specs.Hosts.{rows_of}
use Rattle.wb_base.specs.Grammar.{GrammarView}
use Rattle.wb_compose_texts.specs.Attributes.{addition_of, additions_of}
use Rattle.wb_grammar_theory.specs.Trees.{Forest, IsDerived, leaf, node, nothing, symbols}
use Rattle.wb_grammar_theory.proofs.ProductionLemmas.{production_within}
use Rattle.wb_certify_files.specs.Kept.{AreCertifiedBoth}
use Rattle.wb_compose_texts.specs.Joined.{Extended}
use Rattle.wb_compose_texts.specs.Written.{written_in}
use Rattle.wb_scan_theory.specs.Shown.{Shows, values_of}
use Rattle.wb_compose_theory_lists.specs.Additions.{Rows}
use Rattle.wb_operations.specs.Operations.{OperationSignature}
use Rattle.wb_compose_theory_attribute_order.specs.Values.{renamed_tree, renamed_values}
use Rattle.wb_compose_theory_order.specs.Answers.{renamed_forest}
use Rattle.wb_compose_theory_attribute_order.specs.Orders.{moved, reordered_numbers}
use Rattle.wb_compose_theory_attribute_order.proofs.HostNumberLemmas.{follows_in, leads_in}
use Rattle.wb_compose_theory_attribute_order.proofs.TotalLemmas.{total_same}
use Rattle.wb_compose_theory_order.specs.Orders.{IsReordering, number_to}
use Rattle.wb_compose_theory_order.specs.Unions.{names_to}
use Rattle.wb_compose_theory_order.proofs.NumberLemmas.{reordering_map, to_below, to_host}
use Rattle.wb_syntax_resolved.specs.declared.resolved.ResolvedParts.{ResolvedParts}
use Rattle.wb_syntax_resolved.specs.Grammar.{IsGrammarOf}
use Rattle.wb_syntax_resolved.specs.Resolved.{IsResolved}
use Rattle.wb_compose_theory.specs.Renamings.{Renaming}
use Rattle.wb_compose_theory_grammar.specs.Places.{total_of}
use Rattle.wb_compose_theory_grammar.specs.Unions.{added_productions}
use Rattle.wb_compose_theory_grammar.specs.UnitedWorlds.{production_sizes, united}
use Rattle.wb_compose_theory_grammar.proofs.FactLemmas.{united_len}
use Rattle.wb_compose_theory_attributes.specs.Numbers.{NumberMap}
use Rattle.wb_compose_theory_language.specs.Written.{pieces_of}
use Rattle.wb_values.specs.Tree.{Tree, Values, empty, more, plain, text, tree}
use Rattle.wb_values.specs.Tree as values

-- how many productions of a grammar lead among those of the attributes
taken : (r : ResolvedParts) (k : GrammarView) → IsResolved r → r.grammar ≡ Some k
    → length (take (length k.productions) r.attributes.productions) ≡ length k.productions
taken r k whole start =
    let its : IsGrammarOf r k = subst (λ z. IfSome z (IsGrammarOf r)) start whole.numbered.grammar in
    length-take-le (length k.productions) r.attributes.productions its.productions_len

module _ (host : ResolvedParts) (g : GrammarView) (operations : List OperationSignature) where
  abbrev Both : Extended → Type 0
  Both e = AreCertifiedBoth host e.resolved g e.grammar operations

  size_is : (e : Extended) → Both e → leads_in (addition_of host g e) ≡ added_productions g e.grammar
  size_is e both =
      let lead = taken e.resolved e.grammar both.resolved both.start in
      let rest = length-drop (length g.productions) (take (length e.grammar.productions) e.resolved.attributes.productions) in
      omega (arith, lead, rest)

  -- so many productions each extension adds to both
  pub sizes_are : (xs : List Extended) → All Both xs
      → map leads_in (additions_of host g xs) ≡ production_sizes g host.extensible (pieces_of (written_in g xs))
  sizes_are [] all = refl
  sizes_are (e ∷ xs) all =
      let first = size_is e (All-head Both e xs all) in
      let rest = sizes_are xs (All-tail Both e xs all) in
      λ z. first z ∷ rest z

  module _ (whole : IsResolved host) (start : host.grammar ≡ Some g) (xs ys : List Extended) (one : All Both xs) (two : All Both ys)
      (to from : ℕ → ℕ) (re : IsReordering to from xs ys) where
    abbrev rows : Rows
    rows = rows_of host g

    abbrev t : NumberMap
    t = reordered_numbers rows (additions_of host g xs) (additions_of host g ys) to

    abbrev names : Renaming
    names = names_to g host.extensible (written_in g xs) (written_in g ys) to

    lead_is : length rows.productions ≡ length g.productions
    lead_is = taken host g whole start

    -- productions of the grammar
    pub production_same : (p : ℕ) → p < length (united g host.extensible (pieces_of (written_in g xs))).productions
        → names.production p ≡ t.production p
    production_same p less =
        let additions_re = reordering_map (addition_of host g) re in
        let re' = reordering_map leads_in additions_re in
        let own = length rows.productions + total_of (map leads_in (additions_of host g xs)) + length rows.abstract_productions in
        let sizes = sizes_are xs one in
        let sizes' = sizes_are ys two in
        let lead = lead_is in
        let len = united_len g host.extensible (pieces_of (written_in g xs)) in
        let totals = ap total_of sizes in
        let here : p < length rows.productions + total_of (map leads_in (additions_of host g xs))
        = omega (arith, less, len, totals, lead) in
        let there = to_below (length rows.productions) re' p here in
        let total = total_same re' in
        let first : names.production p
        ≡ number_to (length rows.productions) (map leads_in (additions_of host g xs)) (map leads_in (additions_of host g ys)) to p
        = λ z. number_to (sym lead z) (sym sizes z) (sym sizes' z) to p in
        first ∙ sym (to_host own (reordering_map follows_in additions_re)
        (moved rows (additions_of host g xs) (additions_of host g ys) to (length rows.productions) leads_in p)
        (omega (arith, there, total)))

    -- a text's tree in new numbers
    forest_values : (f : Forest) → IsDerived (united g host.extensible (pieces_of (written_in g xs))) f
        → values_of (renamed_forest names f) ≡ renamed_values t (values_of f)
    forest_values nothing d = refl
    forest_values (leaf k lexeme rest) d = ap (more (plain (text lexeme))) (forest_values rest d)
    forest_values (node p a children rest) (rule, below, d) =
        let within = production_within (united g host.extensible (pieces_of (written_in g xs))) p a (symbols children) rule in
        let number = production_same p within in
        let first = forest_values children below in
        let later = forest_values rest d in
        λ z. more (tree (values.node (number z) (first z))) (later z)

    pub shows_there : (f : Forest) → IsDerived (united g host.extensible (pieces_of (written_in g xs))) f → (top : Tree) → Shows top f
        → Shows (renamed_tree t top) (renamed_forest names f)
    shows_there f d top shows = forest_values f d ∙ ap (renamed_values t) shows
