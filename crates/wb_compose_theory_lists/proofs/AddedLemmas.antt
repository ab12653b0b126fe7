-- What an extension adds is its own, has its roles, and nothing of it is there twice.
use Rattle.std.proofs.Common.{◌≡◌, ◌⊎◌, ◌∙◌, ◌<◌, ◌≤◌, ◌+◌, ◌++◌, ◌∷◌, [], ℕ, suc, List, Option, Some, None, All, length, map, option_map}
use Rattle.std.proofs.Common.{slice_get, take, drop, refl, sym, ap, subst, inl, inr, arith}
use Rattle.std.specs.List.{AllZip}
use Rattle.std.proofs.lemmas.List.{length-map, map-append, take-append-drop}
use Rattle.std.proofs.lemmas.List.Elements.{All-nil, All-cons, All-head, All-tail}
use Rattle.wb_lemmas.proofs.Elements.{all_at, all_left, all_right, all_weaker, all_from_places}
use Rattle.wb_lemmas.proofs.Places.{append_after, at_take, at_drop, nothing_at}
use Rattle.wb_lemmas.proofs.Zips.{zip_all}
use Rattle.wb_base.specs.Different.{Differ}
use Rattle.wb_base.specs.Grammar.{GrammarView}
use Rattle.wb_names_theory.specs.Declarations.{Items}
use Rattle.wb_names_numbers_theory.specs.Numbering.{labels_in}
use Rattle.wb_names_numbers_theory.specs.Resolves.{IsConcrete}
use Rattle.wb_names_numbers_theory.specs.Rows.{IsNonterminalRow, IsAttributeRow, IsOccurrenceRow, IsProductionRow, IsExtendedProduction}
use Rattle.wb_names_numbers_theory.specs.Written.{IsWrittenLocal, IsWrittenEquation}
use Rattle.wb_syntax_resolved.specs.declared.attributes.Attribute.{Attribute}
use Rattle.wb_syntax_resolved.specs.declared.attributes.Nonterminal.{Nonterminal}
use Rattle.wb_syntax_resolved.specs.declared.attributes.Occurrence.{Occurrence}
use Rattle.wb_syntax_resolved.specs.declared.equation.Equation.{Equation}
use Rattle.wb_syntax_resolved.specs.declared.equation.Target.{Target}
use Rattle.wb_syntax_resolved.specs.declared.production.Local.{Local}
use Rattle.wb_syntax_resolved.specs.declared.production.Production.{Production}
use Rattle.wb_syntax_resolved.specs.declared.production.ProductionRole.{ProductionRole}
use Rattle.wb_syntax_resolved.specs.declared.production.ProductionRole.TheVariants.{Concrete, Abstract}
use Rattle.wb_syntax_resolved.specs.declared.resolved.ResolvedParts.{ResolvedParts}
use Rattle.wb_syntax_resolved.specs.Grammar.{IsGrammarOf}
use Rattle.wb_syntax_resolved.specs.Once.{IsOnceIn, OccursOnce}
use Rattle.wb_syntax_resolved.specs.Resolved.{IsResolved}
use Rattle.wb_compose_theory_lists.specs.Additions.{Rows, Addition, IsOwn, IsWrittenByOwner, IsWrittenByExtension, HaveRoles, TargetsDiffer}
use Rattle.wb_compose_theory_lists.specs.Additions.{AreOnce}
use Rattle.wb_compose_theory_lists.specs.Additions.{IsAddition}
use Rattle.wb_compose_theory_lists.specs.Numbers.{locals_in}
use Rattle.wb_compose_theory_lists.specs.Extended.{IsExtendedBy}
use Rattle.wb_compose_theory_lists.specs.Hosts.{rows_of}
use Rattle.wb_compose_theory_lists.proofs.ContextLemmas.{n, m, nonterminal_groups, production_split, production_groups, attribute_parts}
use Rattle.wb_compose_theory_lists.proofs.ContextLemmas.{occurrence_parts}
use Rattle.wb_compose_theory_lists.proofs.AdditionRows.{up, addition, equations_in, own_locals, own_equations}
use Rattle.wb_compose_theory_lists.proofs.HostProductions.{local_parts, equation_parts, locals_there, equations_there}
use Rattle.wb_compose_theory_lists.proofs.PositionLemmas.{group_at}
use Rattle.wb_compose_theory_lists.proofs.SplitLemmas.{Parts}

-- a role that isn't the first is the second
other_role : (role : ProductionRole) → ¬ (role ≡ Concrete) → role ≡ Abstract
other_role Concrete not = absurd (not refl)
other_role Abstract not = refl

-- facts of rows by those of what they are the rows of
zip_all_with : {A B : Type 0} (R : A → B → Type 0) (P : A → Type 0) (Q : B → Type 0) → ((a : A) (b : B) → R a b → P a → Q b) → (xs : List A)
    → (ys : List B) → AllZip R xs ys → All P xs → All Q ys
zip_all_with R P Q is [] [] all each = All-nil Q
zip_all_with R P Q is [] (y ∷ ys) all each = absurd all
zip_all_with R P Q is (x ∷ xs) [] all each = absurd all
zip_all_with R P Q is (x ∷ xs) (y ∷ ys) all each =
    All-cons Q y ys (is x y all.0 (All-head P x xs each)) (zip_all_with R P Q is xs ys all.1 (All-tail P x xs each))

-- what differs in a list differs in its end
differ_right : {X : Type 0} (xs ys : List X) → Differ (xs ++ ys) → Differ ys
differ_right xs ys differ z i j at at' =
    let same = differ z (length xs + i) (length xs + j) (append_after xs ys i ∙ at) (append_after xs ys j ∙ at') in omega (arith, same)

occurs_right : (xs ys : List Occurrence) → OccursOnce (xs ++ ys) → OccursOnce ys
occurs_right xs ys once i j r s at at' of on =
    let same = once (length xs + i) (length xs + j) r s (append_after xs ys i ∙ at) (append_after xs ys j ∙ at') of on in omega (arith, same)

targets_right : (xs ys : List Equation) → TargetsDiffer (xs ++ ys) → TargetsDiffer ys
targets_right xs ys differ =
    differ_right (map (λ (e : Equation). e.target) xs) (map (λ (e : Equation). e.target) ys)
    (subst Differ (map-append (λ (e : Equation). e.target) xs ys) differ)

nothing_differs : TargetsDiffer []
nothing_differs z i j at at' = absurd (nothing_at z i at)

-- the host's rows have their roles and are there once
module _ (host : ResolvedParts) (h : GrammarView) (resolved : IsResolved host) (grammar : IsGrammarOf host h) where
  pub host_roles : HaveRoles (rows_of host h)
  host_roles = record {
    productions = all_from_places (λ (p : Production). p.role ≡ Concrete) (take (length h.productions) host.attributes.productions)
        (λ i p at. let (less, has) = at_take host.attributes.productions (length h.productions) i p at in
        (grammar.productions i p has).0 less);
    abstract_productions = all_from_places (λ (p : Production). p.role ≡ Abstract) (drop (length h.productions) host.attributes.productions)
        (λ i p at. let has = at_drop host.attributes.productions (length h.productions) i p at in
        other_role p.role (λ concrete. let less = (grammar.productions (length h.productions + i) p has).1 concrete in omega (arith, less)));
  }

  targets : All (λ (p : Production). TargetsDiffer p.equations) host.attributes.productions
  targets = all_weaker IsOnceIn (λ (p : Production). TargetsDiffer p.equations) host.attributes.productions (λ p once. once.targets)
      resolved.attributes.once.productions

  pub host_once : AreOnce (rows_of host h)
  host_once =
      let both = split_all' (length h.productions) host.attributes.productions targets in
      record { occurrences = resolved.attributes.once.occurrences; productions = both.0; abstract_productions = both.1 }
    where
      split_all' : (count : ℕ) (xs : List Production) → All (λ (p : Production). TargetsDiffer p.equations) xs
          → All (λ (p : Production). TargetsDiffer p.equations) (take count xs) × All (λ (p : Production). TargetsDiffer p.equations) (drop count xs)
      split_all' count xs each =
          let whole = subst (All (λ (p : Production). TargetsDiffer p.equations)) (sym (take-append-drop count xs)) each in (
            all_left (λ (p : Production). TargetsDiffer p.equations) (take count xs) (drop count xs) whole,
            all_right (λ (p : Production). TargetsDiffer p.equations) (take count xs) (drop count xs) whole,
          )

module _ (host r : ResolvedParts) (name : List ℕ) (items : Items) (h : GrammarView) (ex : IsExtendedBy host r name items h) where
  abbrev x : Addition
  x = addition host r name items h ex

  own_nonterminals : (ds : List (List ℕ)) (ys : List Nonterminal)
      → AllZip (IsNonterminalRow (n host r name items h ex) 1 items) ds ys → All (λ (y : Nonterminal). y.owner ≡ 1) ys
  own_nonterminals ds ys all =
      zip_all (IsNonterminalRow (n host r name items h ex) 1 items) (λ (y : Nonterminal). y.owner ≡ 1) (λ d y w. w.owner_is) ds ys all

  -- what is written on a production of the host
  abbrev OwnLocals : ℕ → Type 0
  OwnLocals p = All (λ (l : Local). l.owner ≡ 1) (x.locals p)

  abbrev OwnEquations : ℕ → Type 0
  OwnEquations p = All (λ (e : Equation). e.owner ≡ 1) (x.equations p) × TargetsDiffer (x.equations p)

  on_host : (p : ℕ) (q : Production) → slice_get host.attributes.productions p ≡ Some q → OwnLocals p × OwnEquations p
  on_host p q at =
      let to = group_at (IsExtendedProduction (n host r name items h ex) 1 items (m host r name items h ex))
      (IsProductionRow (n host r name items h ex) 1 items) host.attributes.productions (length h.productions) r.attributes.productions
      (production_groups host r name items h ex) p q at in
      let locals = local_parts host r name items h ex p q to.row at to.at to.moved in
      let equations = equation_parts host r name items h ex p q to.row at to.at to.moved in
      let locals_is = locals_there host r name items h ex p q to.row at to.at to.moved in
      let equations_is = equations_there host r name items h ex p q to.row at to.at to.moved in
      let once = all_at IsOnceIn r.attributes.productions (up host r name items h ex p) to.row ex.resolved.attributes.once.productions to.at in (
        subst (All (λ (l : Local). l.owner ≡ 1)) (sym locals_is)
            (zip_all (IsWrittenLocal (n host r name items h ex) 1 (labels_in to.row)) (λ (l : Local). l.owner ≡ 1) (λ d l w. w.owner_is) _
            locals.own locals.are_own),
        (
          subst (All (λ (e : Equation). e.owner ≡ 1)) (sym equations_is)
              (zip_all (IsWrittenEquation (n host r name items h ex) 1 (labels_in to.row)) (λ (e : Equation). e.owner ≡ 1)
              (λ d e w. w.owner_is) _ equations.own equations.are_own),
          subst TargetsDiffer (sym equations_is) (targets_right equations.moved equations.own (subst TargetsDiffer equations.are once.targets)),
        ),
      )

  on_all : (p : ℕ) (o : Option Production) → slice_get host.attributes.productions p ≡ o → OwnLocals p × OwnEquations p
  on_all p (Some q) at = on_host p q at
  on_all p None at =
      let nothing_there = ap (λ z. slice_get z p) (take-append-drop (length h.productions) host.attributes.productions) ∙ at in
      let locals_is : x.locals p ≡ [] =
      ap (λ z. own_locals z (locals_in (slice_get r.attributes.productions (up host r name items h ex p)))) nothing_there in
      let equations_is : x.equations p ≡ [] =
      ap (λ z. own_equations z (equations_in (slice_get r.attributes.productions (up host r name items h ex p)))) nothing_there in (
        subst (All (λ (l : Local). l.owner ≡ 1)) (sym locals_is) (All-nil (λ (l : Local). l.owner ≡ 1)),
        (
          subst (All (λ (e : Equation). e.owner ≡ 1)) (sym equations_is) (All-nil (λ (e : Equation). e.owner ≡ 1)),
          subst TargetsDiffer (sym equations_is) nothing_differs,
        ),
      )

  written_on : (p : ℕ) → OwnLocals p × OwnEquations p
  written_on p = on_all p (slice_get host.attributes.productions p) refl

  is_own : IsOwn x
  is_own =
      let g = nonterminal_groups host r name items h ex in
      let pg = production_groups host r name items h ex in
      let pa = attribute_parts host r name items h ex in
      let po = occurrence_parts host r name items h ex in
      record {
        nonterminals = own_nonterminals g.lead g.lead_parts.own g.lead_parts.are_own;
        abstract_nonterminals = own_nonterminals g.follow g.follow_parts.own g.follow_parts.are_own;
        attributes = zip_all (IsAttributeRow (n host r name items h ex) 1 items) (λ (y : Attribute). y.owner ≡ 1) (λ d y w. w.owner_is) _
            pa.own pa.are_own;
        occurrences = zip_all (IsOccurrenceRow (n host r name items h ex) 1 items) (λ (y : Occurrence). y.owner ≡ 1) (λ d y w. w.owner_is) _
            po.own po.are_own;
        productions = zip_all (IsProductionRow (n host r name items h ex) 1 items) (λ (y : Production). y.owner ≡ 1) (λ d y w. w.owner_is)
            pg.lead pg.lead_parts.own pg.lead_parts.are_own;
        abstract_productions = zip_all (IsProductionRow (n host r name items h ex) 1 items) (λ (y : Production). y.owner ≡ 1)
            (λ d y w. w.owner_is) pg.follow pg.follow_parts.own pg.follow_parts.are_own;
        locals = λ p. (written_on p).0;
        equations = λ p. (written_on p).1.0;
      }

  is_written : IsWrittenByExtension x
  is_written =
      let pg = production_groups host r name items h ex in
      record {
        productions = zip_all (IsProductionRow (n host r name items h ex) 1 items) IsWrittenByOwner written_row pg.lead pg.lead_parts.own
            pg.lead_parts.are_own;
        abstract_productions = zip_all (IsProductionRow (n host r name items h ex) 1 items) IsWrittenByOwner written_row pg.follow
            pg.follow_parts.own pg.follow_parts.are_own;
      }
    where
      written_row : (d : _) (row : Production) → IsProductionRow (n host r name items h ex) 1 items d row → IsWrittenByOwner row
      written_row d row w = record {
        locals = zip_all (IsWrittenLocal (n host r name items h ex) 1 (labels_in row)) (λ (l : Local). l.owner ≡ 1) (λ e l z. z.owner_is) _
            row.locals w.locals;
        equations = zip_all (IsWrittenEquation (n host r name items h ex) 1 (labels_in row)) (λ (e : Equation). e.owner ≡ 1)
            (λ d e z. z.owner_is) _ row.equations w.equations;
      }

  have_roles : HaveRoles x.rows
  have_roles =
      let s = production_split host r name items h ex in
      record {
        productions = zip_all_with (IsProductionRow (n host r name items h ex) 1 items) (λ d. IsConcrete (inr d))
            (λ (y : Production). y.role ≡ Concrete) (λ d y w concrete. w.role ∙ concrete) s.in_groups.lead s.in_groups.lead_parts.own
            s.in_groups.lead_parts.are_own s.leads_all;
        abstract_productions = zip_all_with (IsProductionRow (n host r name items h ex) 1 items) (λ d. ¬ IsConcrete (inr d))
            (λ (y : Production). y.role ≡ Abstract) (λ d y w not. other_role y.role (λ concrete. not (sym w.role ∙ concrete)))
            s.in_groups.follow s.in_groups.follow_parts.own s.in_groups.follow_parts.are_own s.follows_all;
      }

  abbrev HasTargets : Production → Type 0
  HasTargets p = TargetsDiffer p.equations

  are_once : AreOnce x.rows
  are_once =
      let pg = production_groups host r name items h ex in
      let po = occurrence_parts host r name items h ex in
      let all_targets = all_weaker IsOnceIn HasTargets r.attributes.productions (λ p once. once.targets) ex.resolved.attributes.once.productions in
      let both = subst (All HasTargets) pg.are all_targets in
      let first = subst (All HasTargets) pg.lead_parts.are (all_left HasTargets pg.leading pg.following both) in
      let second = subst (All HasTargets) pg.follow_parts.are (all_right HasTargets pg.leading pg.following both) in
      record {
        occurrences = occurs_right po.moved po.own (subst OccursOnce po.are ex.resolved.attributes.once.occurrences);
        productions = all_right HasTargets pg.lead_parts.moved pg.lead_parts.own first;
        abstract_productions = all_right HasTargets pg.follow_parts.moved pg.follow_parts.own second;
      }

  pub is_addition : IsAddition x
  is_addition = record {
    own = is_own;
    written = is_written;
    roles = have_roles;
    once = are_once;
    aspects_once = λ p. (written_on p).1.1;
  }
