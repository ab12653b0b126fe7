-- What is the host's is shown by the same names with extensions: terminals, the end of a text, and productions.
use Rattle.std.proofs.Common.{◌≡◌, ◌<◌, ◌+◌, ◌-◌, ◌∙◌, ◌++◌, ◌∷◌, [], ℕ, zero, suc, List, None, inl, inr, length, map, slice_get, ap, refl}
use Rattle.std.proofs.Common.{sym, subst, arith}
use Rattle.std.proofs.lemmas.Bool.{cases_lt}
use Rattle.std.proofs.lemmas.List.{length-append}
use Rattle.std.proofs.lemmas.Option.{slice_get_past, slice_get_within}
use Rattle.wb_base.specs.Grammar.{GrammarView}
use Rattle.wb_lemmas.proofs.Places.{append_before}
use Rattle.wb_grammar_theory.specs.Trees.{DerivationTree, Forest, leaf, node, nothing}
use Rattle.wb_scan_theory.specs.declared.stop_kind.StopKind.{StopKind}
use Rattle.wb_scan_theory.specs.declared.stop_kind.StopKind.TheVariants.{NoToken, Unexpected}
use Rattle.wb_scan_theory.specs.Shown.{Shows}
use Rattle.wb_operations.specs.Operations.{OperationSignature}
use Rattle.wb_report.specs.declared.shown.ShownStop.TheVariants as stop
use Rattle.wb_syntax_resolved.specs.declared.resolved.ResolvedParts.{ResolvedParts}
use Rattle.wb_terms.specs.Printed.{name_of, printed_tree}
use Rattle.wb_values.specs.Signature.{Signature}
use Rattle.wb_values.specs.Tree.{Tree}
use Rattle.wb_compose_theory.specs.Blocks.{lift}
use Rattle.wb_compose_theory.specs.Renamings.{Renaming}
use Rattle.wb_compose_theory_grammar.specs.Places.{total_of}
use Rattle.wb_compose_theory_grammar.specs.UnitedWorlds.{terminal_sizes, united}
use Rattle.wb_compose_theory_grammar.proofs.PlaceLemmas.{lift_below, lift_past}
use Rattle.wb_compose.specs.WrittenLanguages.{pieces_of}
use Rattle.wb_reading.specs.OrderedAnswers.{renamed_forest}
use Rattle.wb_reading.specs.OrderLaws.{HasSameNames}
use Rattle.wb_reading.specs.OrderedNames.{all_of, in_turn}
use Rattle.wb_reading.proofs.OrderedPrintedLemmas.{printed_alike}
use Rattle.wb_compose.specs.Written.{written_in}
use Rattle.wb_certify_shown.specs.Names.{grammar_terminals, or_end, productions_in}
use Rattle.wb_compose_texts.specs.Names.{added_names, name_at, stop_shown, terminals_of}
use Rattle.wb_compose_texts.specs.Signatures.{grammar_signatures, signatures_after, signatures_of}
use Rattle.wb_compose_texts.specs.Unions.{Union}
use Rattle.wb_compose_texts.proofs.NameLemmas.{own_terminals, resolved_in, terminal_lens}
use Rattle.wb_compose_texts.proofs.TableLemmas.{signatures_len}
use Rattle.wb_reading.specs.Laws.{further_kind}

-- how many all blocks have
all_len : {X : Type 0} (blocks : List (List X)) → length (all_of blocks) ≡ total_of (map length blocks)
all_len [] = refl
all_len (first ∷ blocks) = length-append first (all_of blocks) ∙ ap (λ z. length first + z) (all_len blocks)

-- names before those of extensions stay, and what comes after all names does
turned : (own : List (List ℕ)) (blocks : List (List (List ℕ))) (k : ℕ) →
    name_at (in_turn own blocks) (lift (length own) (length (all_of blocks)) k) ≡ name_at (in_turn own []) k
turned own blocks k = elim (cases_lt k (length own)) [
  | inl below ↦ ap (name_at (in_turn own blocks)) (lift_below (length own) (length (all_of blocks)) k below) ∙
      (ap or_end (append_before own (all_of blocks) k below) ∙ sym (ap or_end (append_before own [] k below)))
  | inr far ↦
      let more = length (all_of blocks) in
      let all : length (own ++ all_of blocks) ≡ length own + more = length-append own (all_of blocks) in
      let alone : length (own ++ []) ≡ length own + 0 = length-append own [] in
      let there : slice_get (in_turn own blocks) (k + more) ≡ None = slice_get_past (in_turn own blocks) (k + more)
      (omega (arith, far, all)) in
      let here : slice_get (in_turn own []) k ≡ None = slice_get_past (in_turn own []) k (omega (arith, far, alone)) in
      ap (name_at (in_turn own blocks)) (lift_past (length own) more k far) ∙ (ap or_end there ∙ sym (ap or_end here))
]

-- names before others stay
name_before : (xs ys : List Signature) (p : ℕ) → p < length xs → name_of (xs ++ ys) p ≡ name_of xs p
name_before [] ys p less = absurd (omega (arith, less))
name_before (x ∷ xs) ys zero less = refl
name_before (x ∷ xs) ys (suc p) less = name_before xs ys p (omega (arith, less))

-- all numbers stay
abbrev still : Renaming
still = record { terminal = λ t. t; nonterminal = λ a. a; production = λ p. p }

still_is : (f : Forest) → renamed_forest still f ≡ f
still_is nothing = refl
still_is (leaf t text rest) = ap (leaf t text) (still_is rest)
still_is (node p a children rest) = let inner = still_is children in let after = still_is rest in λ i. node p a (inner i) (after i)

module _ (host : ResolvedParts) (operations : List OperationSignature) (extensions : List ResolvedParts)
    (all : Union host operations extensions) (l u : GrammarView) (l_is : l ≡ all.grammar)
    (u_is : u ≡ united all.grammar host.extensible (pieces_of (written_in all.grammar all.extended))) where
  -- a terminal of the host, or the end of a text, has one name
  name_same : (k : ℕ) → name_at (terminals_of host extensions) (lift l.terminals (u.terminals - l.terminals) k) ≡
      name_at (terminals_of host []) k
  name_same k = subst (λ z. name_at (terminals_of host z) (lift l.terminals (u.terminals - l.terminals) k) ≡ name_at
      (terminals_of host []) k)
      all.extensions_are ((λ z. name_at (in_turn own blocks) (lift (lead z) (rest z) k)) ∙ turned own blocks k)
    where
      own : List (List ℕ)
      own = grammar_terminals host

      blocks : List (List (List ℕ))
      blocks = map (added_names host) (resolved_in all.extended)

      lead : l.terminals ≡ length own
      lead = ap (λ (g : GrammarView). g.terminals) l_is ∙ sym (own_terminals host all.grammar operations all.extended all.certified)

      rest : u.terminals - l.terminals ≡ length (all_of blocks)
      rest =
          let first = ap (λ (g : GrammarView). g.terminals) l_is in
          let whole : u.terminals ≡ all.grammar.terminals +
          total_of (terminal_sizes all.grammar host.extensible (pieces_of (written_in all.grammar all.extended)))
          = ap (λ (g : GrammarView). g.terminals) u_is in
          let sizes = all_len blocks ∙
          ap total_of (terminal_lens host all.grammar operations all.certified.host_start all.extended all.certified.each) in
          omega (arith, first, whole, sizes)

  -- a stop is shown alike
  pub stop_same : (kind : StopKind) → stop_shown (terminals_of host extensions) (further_kind l u kind) ≡ stop_shown
      (terminals_of host []) kind
  stop_same NoToken = refl
  stop_same (Unexpected k) = ap stop.Unexpected (name_same k)

  -- productions of the host have one name
  same_names : HasSameNames still l (signatures_of host []) (signatures_of host extensions)
  same_names p a right rule =
      let within = slice_get_within l.productions p (a, right) rule in
      let count = ap (λ (g : GrammarView). length g.productions) l_is in
      let len : length (grammar_signatures host) ≡ length all.grammar.productions =
      signatures_len host all.certified.host_resolved ∙ ap productions_in all.certified.host_start in
      let less : p < length (grammar_signatures host) = omega (arith, within, count, len) in
      name_before (grammar_signatures host) (signatures_after host 0 extensions) p less ∙
      sym (name_before (grammar_signatures host) [] p less)

  -- and a tree is printed alike
  pub printed_same : (f : Forest) → DerivationTree l f → (value : Tree) → Shows value f →
      printed_tree (signatures_of host extensions) value ≡ printed_tree (signatures_of host []) value
  printed_same f is value shows =
      printed_alike still l (signatures_of host []) (signatures_of host extensions) same_names f is value value shows
      (subst (Shows value) (sym (still_is f)) shows)
