-- The attributes of a host alone are the lists of its rows.
use Rattle.std.proofs.Common.{◌≡◌, ◌∙◌, ◌≤◌, ◌+◌, ◌++◌, ◌∷◌, [], ℕ, suc, List, Option, Some, None, All, length, map, option_map, take, drop}
use Rattle.std.proofs.Common.{refl}
use Rattle.std.proofs.Common.{sym, ap, subst, inl, arith}
use Rattle.std.specs.Prelude.{IfSome}
use Rattle.std.proofs.lemmas.List.{append-nil, take-append-drop}
use Rattle.std.proofs.lemmas.List.Elements.{All-head, All-tail}
use Rattle.wb_lemmas.proofs.Elements.{all_left, all_right, all_weaker, all_from_places}
use Rattle.wb_base.specs.Grammar.{GrammarView}
use Rattle.wb_syntax_resolved.specs.declared.attributes.Attribute.{Attribute}
use Rattle.wb_syntax_resolved.specs.declared.attributes.Nonterminal.{Nonterminal}
use Rattle.wb_syntax_resolved.specs.declared.attributes.Occurrence.{Occurrence}
use Rattle.wb_syntax_resolved.specs.declared.equation.Equation.{Equation}
use Rattle.wb_syntax_resolved.specs.declared.production.Local.{Local}
use Rattle.wb_syntax_resolved.specs.declared.production.Production.{Production}
use Rattle.wb_syntax_resolved.specs.declared.resolved.ResolvedParts.{ResolvedParts}
use Rattle.wb_syntax_resolved.specs.Named.{IsNamedAttribute, IsNamedOccurrence, IsNamedLocal, IsNamedEquation, IsNamedProduction}
use Rattle.wb_syntax_resolved.specs.Numbered.{signature_of}
use Rattle.wb_syntax_resolved.specs.Resolved.{IsResolved}
use Rattle.wb_compose_theory_attributes.specs.Numbers.{NumberMap}
use Rattle.wb_compose_theory_attributes.specs.Rows.{new_owner, new_nonterminal, new_attribute, new_occurrence, new_local, new_equation}
use Rattle.wb_compose_theory_attributes.specs.Rows.{new_child, new_forward}
use Rattle.wb_compose_theory_lists.specs.Additions.{Rows, Addition, nothing}
use Rattle.wb_compose_theory_lists.specs.Joined.{numbered}
use Rattle.wb_compose_theory_lists.specs.Numbers.{host_locals, local_number, number_without, numbers_of}
use Rattle.wb_compose_theory_lists.specs.United.{host_production, united_nonterminals, united_attributes, united_occurrences}
use Rattle.wb_compose_theory_lists.specs.United.{united_productions}
use Rattle.wb_compose_theory_lists.specs.United.{united_attribution}
use Rattle.wb_compose_theory_lists.proofs.PlacedLemmas.{after_alone, grouped_alone}
use Rattle.wb_compose_theory_lists.specs.Hosts.{rows_of}
use Rattle.wb_compose_theory_lists.proofs.AdditionRows.{production_row, attributed_of}
use Rattle.wb_compose_theory_lists.proofs.StayLemmas.{map_stays, map_stays_all, option_stays, Stays, nonterminal_stays, attribute_stays}
use Rattle.wb_compose_theory_lists.proofs.StayLemmas.{occurrence_stays, child_stays, equation_stays, local_stays, forward_stays}

numbered_keeps : {X : Type 0} (P : X → Type 0) (f : ℕ → X → X) → ((i : ℕ) (x : X) → P x → f i x ≡ x) → (start : ℕ) (xs : List X) → All P xs
    → numbered f start xs ≡ xs
numbered_keeps P f is start [] each = refl
numbered_keeps P f is start (x ∷ xs) each =
    ap (λ z. z ∷ numbered f (suc start) xs) (is start x (All-head P x xs each))
    ∙ ap (λ z. x ∷ z) (numbered_keeps P f is (suc start) xs (All-tail P x xs each))

module _ (host : ResolvedParts) (h : GrammarView) (resolved : IsResolved host) (alone : host.attributes.extensions ≡ []) where
  abbrev rows : Rows
  rows = rows_of host h

  abbrev u : NumberMap
  u = numbers_of rows [] 0 nothing

  stays : Stays u
  stays = record {
    terminal = after_alone rows.terminals 0;
    nonterminal = grouped_alone (length rows.nonterminals) (length rows.abstract_nonterminals) 0 0;
    attribute = after_alone (length rows.attributes) 0;
    production = grouped_alone (length rows.productions) (length rows.abstract_productions) 0 0;
    local_in = λ p. local_stays_in (number_without rows nothing p);
  } where
    local_stays_in : (o : Option ℕ) (y : ℕ) → local_number rows [] 0 nothing o y ≡ y
    local_stays_in None y = refl
    local_stays_in (Some p) y = after_alone (length (host_locals rows p)) 0 y

  zero_owner : (owner : ℕ) → owner ≤ length host.attributes.extensions → owner ≡ 0
  zero_owner owner le = let e : length host.attributes.extensions ≡ 0 = ap length alone in omega (arith, le, e)

  halves_all : {X : Type 0} (P : X → Type 0) (count : ℕ) (xs : List X) → All P xs → All P (take count xs) × All P (drop count xs)
  halves_all P count xs each =
      let whole = subst (All P) (sym (take-append-drop count xs)) each in
      (all_left P (take count xs) (drop count xs) whole, all_right P (take count xs) (drop count xs) whole)

  -- two groups without anything of an extension
  two_groups : {X : Type 0} (count : ℕ) (xs a b : List X) → a ≡ take count xs → b ≡ drop count xs → xs ≡ ((a ++ []) ++ b) ++ []
  two_groups count xs a b first second =
      sym (append-nil ((a ++ []) ++ b) ∙ (ap (λ z. z ++ b) (append-nil a)
      ∙ (ap (λ z. z ++ b) first ∙ (ap (λ z. take count xs ++ z) second ∙ take-append-drop count xs))))

  nonterminals_are : host.attributes.nonterminals ≡ united_nonterminals rows []
  nonterminals_are =
      let own = halves_all (λ (x : Nonterminal). x.owner ≡ 0) h.nonterminals host.attributes.nonterminals
      (all_from_places (λ (x : Nonterminal). x.owner ≡ 0) host.attributes.nonterminals
      (λ i x at. zero_owner x.owner (resolved.attributes.named.nonterminals i x at).owner)) in
      two_groups h.nonterminals host.attributes.nonterminals (map (new_nonterminal u 0) rows.nonterminals)
      (map (new_nonterminal u 0) rows.abstract_nonterminals)
      (map_stays_all (λ (x : Nonterminal). x.owner ≡ 0) (new_nonterminal u 0) (nonterminal_stays u stays 0 refl) rows.nonterminals own.0)
      (map_stays_all (λ (x : Nonterminal). x.owner ≡ 0) (new_nonterminal u 0) (nonterminal_stays u stays 0 refl) rows.abstract_nonterminals
      own.1)

  attributes_are : host.attributes.attributes ≡ united_attributes rows []
  attributes_are =
      sym (append-nil (map (new_attribute u 0) host.attributes.attributes)
      ∙ map_stays_all (λ (x : Attribute). x.owner ≡ 0) (new_attribute u 0) (attribute_stays u stays 0 refl) host.attributes.attributes
      (all_weaker (IsNamedAttribute host.attributes) (λ (x : Attribute). x.owner ≡ 0) host.attributes.attributes
      (λ x named. zero_owner x.owner named.owner) resolved.attributes.named.attributes))

  occurrences_are : host.attributes.occurrences ≡ united_occurrences rows []
  occurrences_are =
      sym (append-nil (map (new_occurrence u 0) host.attributes.occurrences)
      ∙ map_stays_all (λ (x : Occurrence). x.owner ≡ 0) (new_occurrence u 0) (occurrence_stays u stays 0 refl) host.attributes.occurrences
      (all_weaker (IsNamedOccurrence host.attributes) (λ (x : Occurrence). x.owner ≡ 0) host.attributes.occurrences
      (λ x named. zero_owner x.owner named.owner) resolved.attributes.named.occurrences))

  production_is : (i : ℕ) (p : Production) → IsNamedProduction host.attributes p → host_production rows [] i p ≡ p
  production_is i p named =
      let locals : map (new_local u i 0) p.locals ++ [] ≡ p.locals = append-nil (map (new_local u i 0) p.locals)
      ∙ map_stays_all (λ (l : Local). l.owner ≡ 0) (new_local u i 0) (local_stays u stays 0 refl i) p.locals
      (all_weaker (IsNamedLocal host.attributes p) (λ (l : Local). l.owner ≡ 0) p.locals (λ l at. zero_owner l.owner at.owner) named.locals) in
      let equations : map (new_equation u i 0) p.equations ++ [] ≡ p.equations = append-nil (map (new_equation u i 0) p.equations)
      ∙ map_stays_all (λ (e : Equation). e.owner ≡ 0) (new_equation u i 0) (equation_stays u stays 0 refl i) p.equations
      (all_weaker (IsNamedEquation host.attributes p) (λ (e : Equation). e.owner ≡ 0) p.equations (λ e at. zero_owner e.owner at.owner)
      named.equations) in
      let zero_is = zero_owner p.owner named.owner in
      ap (λ z. production_row p.name z p.role (u.nonterminal p.left) (map (new_child u) p.children) (map (new_local u i 0) p.locals ++ [])
      (option_map (new_forward u i) p.forward) (map (new_equation u i 0) p.equations ++ [])) (ap (new_owner 0) zero_is ∙ sym zero_is)
      ∙ (ap (λ z. production_row p.name p.owner p.role z (map (new_child u) p.children) (map (new_local u i 0) p.locals ++ [])
      (option_map (new_forward u i) p.forward) (map (new_equation u i 0) p.equations ++ [])) (stays.nonterminal p.left)
      ∙ (ap (λ z. production_row p.name p.owner p.role p.left z (map (new_local u i 0) p.locals ++ [])
      (option_map (new_forward u i) p.forward) (map (new_equation u i 0) p.equations ++ []))
      (map_stays (new_child u) (child_stays u stays 0 refl) p.children)
      ∙ (ap (λ z. production_row p.name p.owner p.role p.left p.children z (option_map (new_forward u i) p.forward)
      (map (new_equation u i 0) p.equations ++ [])) locals
      ∙ (ap (λ z. production_row p.name p.owner p.role p.left p.children p.locals z (map (new_equation u i 0) p.equations ++ []))
      (option_stays (new_forward u i) (forward_stays u stays 0 refl i) p.forward)
      ∙ ap (production_row p.name p.owner p.role p.left p.children p.locals p.forward) equations))))

  productions_are : host.attributes.productions ≡ united_productions rows []
  productions_are =
      let named = halves_all (IsNamedProduction host.attributes) (length h.productions) host.attributes.productions
      resolved.attributes.named.productions in
      two_groups (length h.productions) host.attributes.productions (numbered (host_production rows []) 0 rows.productions)
      (numbered (host_production rows []) (length rows.productions) rows.abstract_productions)
      (numbered_keeps (IsNamedProduction host.attributes) (host_production rows []) production_is 0 rows.productions named.0)
      (numbered_keeps (IsNamedProduction host.attributes) (host_production rows []) production_is (length rows.productions)
      rows.abstract_productions named.1)

  pub host_alone_is : host.attributes ≡ united_attribution rows []
  host_alone_is =
      let a = host.attributes in
      let signatures = resolved.attributes.numbered.signatures
      ∙ (ap (λ z. map (signature_of z) a.productions) alone ∙ ap (map (signature_of [])) productions_are) in
      ap (λ z. attributed_of z a.nonterminals a.attributes a.occurrences a.productions a.signatures) alone
      ∙ (ap (λ z. attributed_of [] z a.attributes a.occurrences a.productions a.signatures) nonterminals_are
      ∙ (ap (λ z. attributed_of [] (united_nonterminals rows []) z a.occurrences a.productions a.signatures) attributes_are
      ∙ (ap (λ z. attributed_of [] (united_nonterminals rows []) (united_attributes rows []) z a.productions a.signatures) occurrences_are
      ∙ (ap (λ z. attributed_of [] (united_nonterminals rows []) (united_attributes rows []) (united_occurrences rows []) z a.signatures)
      productions_are
      ∙ ap (attributed_of [] (united_nonterminals rows []) (united_attributes rows []) (united_occurrences rows [])
      (united_productions rows [])) signatures))))
