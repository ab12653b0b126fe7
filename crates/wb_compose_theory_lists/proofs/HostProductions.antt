-- With an extension a production of the host is its own with what the extension writes on it.
use Rattle.std.proofs.Common.{◌≡◌, ◌∙◌, ◌<◌, ◌≤◌, ◌+◌, ◌++◌, ◌∷◌, [], ℕ, List, Some, All, length, map, option_map, slice_get, drop, refl}
use Rattle.std.proofs.Common.{sym, ap, subst, arith}
use Rattle.std.proofs.lemmas.List.{append-nil, length-append, length-map, take-append-drop}
use Rattle.std.proofs.lemmas.Option.{slice_get_within}
use Rattle.wb_lemmas.proofs.Elements.{all_at, all_weaker}
use Rattle.wb_lemmas.proofs.Zips.{zip_all}
use Rattle.wb_base.specs.Grammar.{GrammarView}
use Rattle.wb_names_theory.specs.Declarations.{Items}
use Rattle.wb_names_numbers_theory.specs.Files.{equations_on}
use Rattle.wb_names_numbers_theory.specs.Moved.{IsMovedChild, IsMovedPlace, IsMovedLocal, IsMovedEquation, IsMovedForward}
use Rattle.wb_names_numbers_theory.specs.Numbering.{labels_in}
use Rattle.wb_names_numbers_theory.specs.Rows.{IsExtendedProduction}
use Rattle.wb_names_numbers_theory.specs.Written.{IsWrittenLocal, IsWrittenEquation, local_equations, attribute_equations}
use Rattle.wb_syntax_resolved.specs.declared.equation.Equation.{Equation}
use Rattle.wb_syntax_resolved.specs.declared.equation.Place.{Place}
use Rattle.wb_syntax_resolved.specs.declared.equation.Place.TheVariants as place
use Rattle.wb_syntax_resolved.specs.declared.production.Child.{Child}
use Rattle.wb_syntax_resolved.specs.declared.production.Local.{Local}
use Rattle.wb_syntax_resolved.specs.declared.production.Production.{Production}
use Rattle.wb_syntax_resolved.specs.declared.resolved.ResolvedParts.{ResolvedParts}
use Rattle.wb_syntax_resolved.specs.Named.{IsNamedLocal, IsNamedEquation, IsNamedProduction}
use Rattle.wb_syntax_resolved.specs.Once.{Entry, IsOnceIn, NamesDiffer}
use Rattle.wb_syntax_resolved.specs.Resolved.{HasGrammarTerminals, IsTerminalChild}
use Rattle.wb_syntax_resolved.specs.declared.production.ChildKind.TheVariants as child
use Rattle.wb_compose_theory_attributes.specs.Numbers.{NumberMap}
use Rattle.wb_compose_theory_attributes.specs.Rows.{new_owner, new_local, new_equation, new_child, new_forward}
use Rattle.wb_compose_theory_lists.specs.Additions.{Rows, Addition, nothing}
use Rattle.wb_compose_theory_lists.specs.Numbers.{locals_in, host_locals, number_with, local_number}
use Rattle.wb_compose_theory_lists.specs.United.{host_production}
use Rattle.wb_compose_theory_lists.proofs.NumberLemmas.{without_nothing}
use Rattle.wb_compose_theory_lists.proofs.PlacedLemmas.{host_alone, after_below}
use Rattle.wb_compose_theory_lists.specs.Extended.{IsExtendedBy}
use Rattle.wb_compose_theory_lists.proofs.ContextLemmas.{n, m, names_right, host_grammar}
use Rattle.wb_compose_theory_lists.proofs.MoveLemmas.{zip_is_all, option_is, MovesBy, child_is, equation_is, local_is, forward_is}
use Rattle.wb_compose_theory_lists.proofs.MoveLemmas.{TerminalBelow}
use Rattle.wb_compose_theory_lists.proofs.PositionLemmas.{zip_length, part_at, moved_is}
use Rattle.wb_compose_theory_lists.proofs.SplitLemmas.{Parts, parts}
use Rattle.wb_compose_theory_lists.proofs.StayLemmas.{map_stays_all, Stays, equation_stays, local_stays}
use Rattle.wb_compose_theory_lists.proofs.AdditionRows.{own_locals, own_equations, equations_in, production_row}
use Rattle.wb_compose_theory_lists.proofs.AdditionRows as base

drop_append : {X : Type 0} (xs ys : List X) → drop (length xs) (xs ++ ys) ≡ ys
drop_append [] ys = refl
drop_append (x ∷ xs) ys = drop_append xs ys

module _ (host r : ResolvedParts) (name : List ℕ) (items : Items) (h : GrammarView) (ex : IsExtendedBy host r name items h) where
  abbrev rows : Rows
  rows = base.rows host r name items h ex

  abbrev up : ℕ → ℕ
  up = base.up host r name items h ex

  abbrev addition : Addition
  addition = base.addition host r name items h ex

  abbrev u : NumberMap
  u = base.u host r name items h ex

  abbrev v : NumberMap
  v = base.v host r name items h ex

  abbrev stays : Stays v
  stays = base.stays host r name items h ex

  abbrev moves : MovesBy (m host r name items h ex) u h.terminals
  moves = base.moves host r name items h ex

  abbrev zero_owner : (owner : ℕ) → owner ≤ length host.attributes.extensions → owner ≡ 0
  zero_owner = base.zero_owner host r name items h ex

  in_both : (i : ℕ) (p : Production) → slice_get host.attributes.productions i ≡ Some p
      → slice_get (rows.productions ++ rows.abstract_productions) i ≡ Some p
  in_both i p at = ap (λ z. slice_get z i) (take-append-drop (length h.productions) host.attributes.productions) ∙ at

  -- a production of the host
  module _ (i : ℕ) (p row : Production) (at : slice_get host.attributes.productions i ≡ Some p)
      (there : slice_get r.attributes.productions (up i) ≡ Some row)
      (extended : IsExtendedProduction (n host r name items h ex) 1 items (m host r name items h ex) p row) where
    named_p : IsNamedProduction host.attributes p
    named_p = all_at (IsNamedProduction host.attributes) host.attributes.productions i p ex.host_resolved.attributes.named.productions at

    pub local_parts : Parts (IsMovedLocal (m host r name items h ex) (labels_in p) (labels_in row))
        (IsWrittenLocal (n host r name items h ex) 1 (labels_in row)) p.locals (local_equations (equations_on p.name items)) row.locals
    local_parts =
        parts (IsMovedLocal (m host r name items h ex) (labels_in p) (labels_in row))
        (IsWrittenLocal (n host r name items h ex) 1 (labels_in row)) p.locals (local_equations (equations_on p.name items)) row.locals
        extended.locals

    pub equation_parts : Parts (IsMovedEquation (m host r name items h ex) (labels_in p) (labels_in row))
        (IsWrittenEquation (n host r name items h ex) 1 (labels_in row)) p.equations (attribute_equations (equations_on p.name items))
        row.equations
    equation_parts =
        parts (IsMovedEquation (m host r name items h ex) (labels_in p) (labels_in row))
        (IsWrittenEquation (n host r name items h ex) 1 (labels_in row)) p.equations (attribute_equations (equations_on p.name items))
        row.equations extended.equations

    inside : i < length rows.productions + length rows.abstract_productions
    inside =
        let less = slice_get_within (rows.productions ++ rows.abstract_productions) i p (in_both i p at) in
        let sum = length-append rows.productions rows.abstract_productions in
        omega (arith, less, sum)

    labels_once : NamesDiffer (labels_in row).locals
    labels_once =
        names_right (map (λ (c : Child). (row.owner, c.label)) row.children) (labels_in row).locals
        (all_at IsOnceIn r.attributes.productions (up i) row ex.resolved.attributes.once.productions there).labels

    host_locals_are : host_locals rows i ≡ p.locals
    host_locals_are = ap locals_in (in_both i p at)

    local_number_is : (k : ℕ) → k < length p.locals → u.local_in i k ≡ k
    local_number_is k less =
        ap (λ o. local_number rows (addition ∷ []) 0 nothing o k) (without_nothing rows i inside)
        ∙ after_below (length (host_locals rows i)) (host_alone (length (addition.locals i))) k
        (subst (λ z. k < length z) (sym host_locals_are) less)

    local_place_is : (k : ℕ) (to : Place) → IsMovedPlace (m host r name items h ex) (labels_in p) (labels_in row) (place.Local k) to
        → to ≡ place.Local (u.local_in i k)
    local_place_is k to (other, moved, is) =
        let number = moved_is (IsMovedLocal (m host r name items h ex) (labels_in p) (labels_in row)) (λ (l : Local). (l.owner, l.label))
        (λ (l : Local). (l.owner, l.label)) p.locals row.locals (λ z. z) (λ x y mv. λ z. (mv.owner z, mv.label z))
        (part_at (IsMovedLocal (m host r name items h ex) (labels_in p) (labels_in row))
        (IsWrittenLocal (n host r name items h ex) 1 (labels_in row)) p.locals (local_equations (equations_on p.name items)) row.locals
        local_parts) labels_once k other moved in
        let within = slice_get_within (labels_in p).locals k (moved.owner, moved.name) moved.before in
        let count = length-map {B = Entry} p.locals (λ (l : Local). (l.owner, l.label)) in
        is ∙ ap place.Local (number ∙ sym (local_number_is k (omega (arith, within, count))))

    pub locals_there : addition.locals i ≡ local_parts.own
    locals_there =
        ap (λ z. own_locals z (locals_in (slice_get r.attributes.productions (up i)))) (in_both i p at)
        ∙ (ap (λ z. drop (length p.locals) (locals_in z)) there
        ∙ (ap (drop (length p.locals)) local_parts.are
        ∙ (ap (λ z. drop z (local_parts.moved ++ local_parts.own))
        (sym (zip_length (IsMovedLocal (m host r name items h ex) (labels_in p) (labels_in row)) p.locals local_parts.moved
        local_parts.are_moved)) ∙ drop_append local_parts.moved local_parts.own)))

    locals_are : row.locals ≡ (host_production rows (addition ∷ []) i p).locals
    locals_are =
        let own_there = locals_there in
        let moved : local_parts.moved ≡ map (new_local u i 0) p.locals =
        zip_is_all (IsMovedLocal (m host r name items h ex) (labels_in p) (labels_in row)) (λ (l : Local). l.owner ≡ 0) (new_local u i 0)
        (local_is (m host r name items h ex) u h.terminals moves (labels_in p) (labels_in row) i local_place_is) p.locals local_parts.moved
        local_parts.are_moved (all_weaker (IsNamedLocal host.attributes p) (λ (l : Local). l.owner ≡ 0) p.locals
        (λ l named. zero_owner l.owner named.owner) named_p.locals) in
        let own : map (new_local v (number_with rows addition i) 1) (addition.locals i) ≡ local_parts.own =
        ap (map (new_local v (number_with rows addition i) 1)) own_there
        ∙ map_stays_all (λ (l : Local). l.owner ≡ 1) (new_local v (number_with rows addition i) 1)
        (local_stays v stays 1 refl (number_with rows addition i)) local_parts.own
        (zip_all (IsWrittenLocal (n host r name items h ex) 1 (labels_in row)) (λ (l : Local). l.owner ≡ 1) (λ d l w. w.owner_is) _
        local_parts.own local_parts.are_own) in
        local_parts.are ∙ (ap (λ z. z ++ local_parts.own) moved ∙ ap (λ z. map (new_local u i 0) p.locals ++ z)
        (sym own ∙ sym (append-nil (map (new_local v (number_with rows addition i) 1) (addition.locals i)))))

    pub equations_there : addition.equations i ≡ equation_parts.own
    equations_there =
        ap (λ z. own_equations z (equations_in (slice_get r.attributes.productions (up i)))) (in_both i p at)
        ∙ (ap (λ z. drop (length p.equations) (equations_in z)) there
        ∙ (ap (drop (length p.equations)) equation_parts.are
        ∙ (ap (λ z. drop z (equation_parts.moved ++ equation_parts.own))
        (sym (zip_length (IsMovedEquation (m host r name items h ex) (labels_in p) (labels_in row)) p.equations equation_parts.moved
        equation_parts.are_moved)) ∙ drop_append equation_parts.moved equation_parts.own)))

    equations_are : row.equations ≡ (host_production rows (addition ∷ []) i p).equations
    equations_are =
        let own_there = equations_there in
        let moved : equation_parts.moved ≡ map (new_equation u i 0) p.equations =
        zip_is_all (IsMovedEquation (m host r name items h ex) (labels_in p) (labels_in row)) (λ (e : Equation). e.owner ≡ 0)
        (new_equation u i 0) (equation_is (m host r name items h ex) u h.terminals moves (labels_in p) (labels_in row) i local_place_is)
        p.equations equation_parts.moved equation_parts.are_moved
        (all_weaker (IsNamedEquation host.attributes p) (λ (e : Equation). e.owner ≡ 0) p.equations
        (λ e named. zero_owner e.owner named.owner) named_p.equations) in
        let own : map (new_equation v (number_with rows addition i) 1) (addition.equations i) ≡ equation_parts.own =
        ap (map (new_equation v (number_with rows addition i) 1)) own_there
        ∙ map_stays_all (λ (e : Equation). e.owner ≡ 1) (new_equation v (number_with rows addition i) 1)
        (equation_stays v stays 1 refl (number_with rows addition i)) equation_parts.own
        (zip_all (IsWrittenEquation (n host r name items h ex) 1 (labels_in row)) (λ (e : Equation). e.owner ≡ 1) (λ d e w. w.owner_is) _
        equation_parts.own equation_parts.are_own) in
        equation_parts.are ∙ (ap (λ z. z ++ equation_parts.own) moved ∙ ap (λ z. map (new_equation u i 0) p.equations ++ z)
        (sym own ∙ sym (append-nil (map (new_equation v (number_with rows addition i) 1) (addition.equations i)))))

    -- a terminal of a child is one of the grammar
    terminals_below : All (λ (c : Child). TerminalBelow (m host r name items h ex) u h.terminals moves c.kind) p.children
    terminals_below =
        all_weaker (λ (c : Child). (number : ℕ) → c.kind ≡ child.Terminal number → IsTerminalChild host p.owner number)
        (λ (c : Child). TerminalBelow (m host r name items h ex) u h.terminals moves c.kind) p.children
        (λ c named number is. let t = named number is in
        ((host_grammar host r name items h ex).terminals number t.terminal t.is).1 t.plain)
        (all_at (HasGrammarTerminals host) host.attributes.productions i p ex.host_resolved.children at)

    children_are : row.children ≡ map (new_child u) p.children
    children_are =
        zip_is_all (IsMovedChild (m host r name items h ex))
        (λ (c : Child). TerminalBelow (m host r name items h ex) u h.terminals moves c.kind) (new_child u)
        (child_is (m host r name items h ex) u h.terminals moves) p.children row.children extended.children terminals_below

    forward_are : row.forward ≡ option_map (new_forward u i) p.forward
    forward_are =
        option_is (IsMovedForward (m host r name items h ex) (labels_in p) (labels_in row)) (new_forward u i)
        (forward_is (m host r name items h ex) u h.terminals moves (labels_in p) (labels_in row) i local_place_is) p.forward row.forward
        extended.forward

    owner_are : row.owner ≡ new_owner 0 p.owner
    owner_are =
        let zero_is = zero_owner p.owner named_p.owner in extended.owner_is ∙ (zero_is ∙ sym (ap (new_owner 0) zero_is))

    pub host_production_is : row ≡ host_production rows (addition ∷ []) i p
    host_production_is =
        ap (λ z. production_row z row.owner row.role row.left row.children row.locals row.forward row.equations) extended.name
        ∙ (ap (λ z. production_row p.name z row.role row.left row.children row.locals row.forward row.equations) owner_are
        ∙ (ap (λ z. production_row p.name (new_owner 0 p.owner) z row.left row.children row.locals row.forward row.equations) extended.role
        ∙ (ap (λ z. production_row p.name (new_owner 0 p.owner) p.role z row.children row.locals row.forward row.equations)
        (moves.nonterminal p.left row.left extended.left)
        ∙ (ap (λ z. production_row p.name (new_owner 0 p.owner) p.role (u.nonterminal p.left) z row.locals row.forward row.equations)
        children_are
        ∙ (ap (λ z. production_row p.name (new_owner 0 p.owner) p.role (u.nonterminal p.left) (map (new_child u) p.children) z row.forward
        row.equations) locals_are
        ∙ (ap (λ z. production_row p.name (new_owner 0 p.owner) p.role (u.nonterminal p.left) (map (new_child u) p.children)
        (host_production rows (addition ∷ []) i p).locals z row.equations) forward_are
        ∙ ap (production_row p.name (new_owner 0 p.owner) p.role (u.nonterminal p.left) (map (new_child u) p.children)
        (host_production rows (addition ∷ []) i p).locals (option_map (new_forward u i) p.forward)) equations_are))))))
