-- With an extension the attributes of a host are the host's rows with what the extension adds.
use Rattle.std.proofs.Common.{◌≡◌, ◌∙◌, ◌<◌, ◌≤◌, ◌+◌, ◌∷◌, [], ℕ, suc, List, Some, length, map, option_map, slice_get, refl, sym, ap, inr}
use Rattle.std.proofs.Common.{arith}
use Rattle.std.specs.List.{AllZip}
use Rattle.std.proofs.lemmas.List.{length-append, take-append-drop}
use Rattle.std.proofs.lemmas.Option.{slice_get_within}
use Rattle.wb_lemmas.proofs.Places.{append_after, append_keeps}
use Rattle.wb_lemmas.proofs.Zips.{zip_all}
use Rattle.wb_base.specs.Grammar.{GrammarView}
use Rattle.wb_names_theory.specs.Declarations.{Items}
use Rattle.wb_names_numbers_theory.specs.Numbering.{labels_in}
use Rattle.wb_names_numbers_theory.specs.Rows.{IsProductionRow, IsExtendedProduction}
use Rattle.wb_names_numbers_theory.specs.Written.{IsWrittenLocal, IsWrittenEquation}
use Rattle.wb_syntax_resolved.specs.declared.equation.Equation.{Equation}
use Rattle.wb_syntax_resolved.specs.declared.production.Local.{Local}
use Rattle.wb_syntax_resolved.specs.declared.production.Production.{Production}
use Rattle.wb_syntax_resolved.specs.declared.resolved.ResolvedParts.{ResolvedParts}
use Rattle.wb_syntax_resolved.specs.Numbered.{signature_of}
use Rattle.wb_compose_theory_attributes.specs.Numbers.{NumberMap}
use Rattle.wb_compose_theory_attributes.specs.Rows.{new_owner, new_local, new_equation, new_child, new_forward}
use Rattle.wb_compose_theory_lists.specs.Additions.{Rows, Addition}
use Rattle.wb_compose_theory_lists.specs.Joined.{numbered}
use Rattle.wb_compose_theory_lists.specs.Numbers.{before_abstract}
use Rattle.wb_compose_theory_lists.specs.United.{host_production, own_production, united_nonterminals, united_attributes}
use Rattle.wb_compose_theory_lists.specs.United.{united_occurrences}
use Rattle.wb_compose_theory_lists.specs.United.{united_productions, united_attribution}
use Rattle.wb_compose_theory_lists.proofs.PlacedLemmas.{alone, alone_below, alone_between}
use Rattle.wb_compose_theory_lists.specs.Extended.{IsExtendedBy}
use Rattle.wb_compose_theory_lists.proofs.ContextLemmas.{n, m, production_groups}
use Rattle.wb_compose_theory_lists.proofs.PositionLemmas.{zip_length}
use Rattle.wb_compose_theory_lists.proofs.SplitLemmas.{Groups}
use Rattle.wb_compose_theory_lists.proofs.StayLemmas.{map_stays, map_stays_all, option_stays, Stays, child_stays, equation_stays}
use Rattle.wb_compose_theory_lists.proofs.StayLemmas.{local_stays}
use Rattle.wb_compose_theory_lists.proofs.StayLemmas.{forward_stays}
use Rattle.wb_compose_theory_lists.proofs.AdditionRows.{group_is, production_row, attributed_of}
use Rattle.wb_compose_theory_lists.proofs.AdditionRows as base
use Rattle.wb_compose_theory_lists.proofs.HostProductions.{host_production_is}

numbered_zip : {X Y : Type 0} (R : X → Y → Type 0) (f : ℕ → X → Y) (start : ℕ) (xs : List X) (ys : List Y) → AllZip R xs ys
    → ((i : ℕ) (x : X) (y : Y) → slice_get xs i ≡ Some x → slice_get ys i ≡ Some y → R x y → y ≡ f (start + i) x) → ys ≡ numbered f start xs
numbered_zip R f start [] [] all is = refl
numbered_zip R f start [] (y ∷ ys) all is = absurd all
numbered_zip R f start (x ∷ xs) [] all is = absurd all
numbered_zip R f start (x ∷ xs) (y ∷ ys) all is =
    let e : start + 0 ≡ start = omega arith in
    let later : (i : ℕ) (a : _) (b : _) → slice_get xs i ≡ Some a → slice_get ys i ≡ Some b → R a b → b ≡ f (suc start + i) a
    = λ i a b at at' r. let e' : start + suc i ≡ suc start + i = omega arith in is (suc i) a b at at' r ∙ ap (λ z. f z a) e' in
    ap (λ z. z ∷ ys) (is 0 x y refl refl all.0 ∙ ap (λ z. f z x) e) ∙ ap (λ z. f start x ∷ z)
    (numbered_zip R f (suc start) xs ys all.1 later)

module _ (host r : ResolvedParts) (name : List ℕ) (items : Items) (h : GrammarView) (ex : IsExtendedBy host r name items h) where
  abbrev rows : Rows
  rows = base.rows host r name items h ex

  abbrev added : Rows
  added = base.added host r name items h ex

  abbrev addition : Addition
  addition = base.addition host r name items h ex

  abbrev v : NumberMap
  v = base.v host r name items h ex

  abbrev stays : Stays v
  stays = base.stays host r name items h ex

  -- the extension's own
  own_row_is : (d : _) (row : Production) (p : ℕ) → IsProductionRow (n host r name items h ex) 1 items d row
      → row ≡ own_production rows (addition ∷ []) 0 addition p row
  own_row_is d row p w =
      let locals = map_stays_all (λ (l : Local). l.owner ≡ 1) (new_local v p 1) (local_stays v stays 1 refl p) row.locals
      (zip_all (IsWrittenLocal (n host r name items h ex) 1 (labels_in row)) (λ (l : Local). l.owner ≡ 1) (λ e l x. x.owner_is) _ row.locals
      w.locals) in
      let equations = map_stays_all (λ (e : Equation). e.owner ≡ 1) (new_equation v p 1) (equation_stays v stays 1 refl p) row.equations
      (zip_all (IsWrittenEquation (n host r name items h ex) 1 (labels_in row)) (λ (e : Equation). e.owner ≡ 1) (λ d e x. x.owner_is) _
      row.equations w.equations) in
      sym (
      ap (λ z. production_row row.name z row.role (v.nonterminal row.left) (map (new_child v) row.children)
      (map (new_local v p 1) row.locals)
      (option_map (new_forward v p) row.forward) (map (new_equation v p 1) row.equations))
      (ap (new_owner 1) w.owner_is ∙ sym w.owner_is)
      ∙ (ap (λ z. production_row row.name row.owner row.role z (map (new_child v) row.children) (map (new_local v p 1) row.locals)
      (option_map (new_forward v p) row.forward) (map (new_equation v p 1) row.equations)) (stays.nonterminal row.left)
      ∙ (ap (λ z. production_row row.name row.owner row.role row.left z (map (new_local v p 1) row.locals)
      (option_map (new_forward v p) row.forward) (map (new_equation v p 1) row.equations))
      (map_stays (new_child v) (child_stays v stays 1 refl) row.children)
      ∙ (ap (λ z. production_row row.name row.owner row.role row.left row.children z
      (option_map (new_forward v p) row.forward) (map (new_equation v p 1) row.equations)) locals
      ∙ (ap (λ z. production_row row.name row.owner row.role row.left row.children row.locals z (map (new_equation v p 1) row.equations))
      (option_stays (new_forward v p) (forward_stays v stays 1 refl p) row.forward)
      ∙ ap (production_row row.name row.owner row.role row.left row.children row.locals row.forward) equations)))))

  numbered_stays : {B : Type 0} (W : B → Production → Type 0)
      → ((d : B) (row : Production) (p : ℕ) → W d row → row ≡ own_production rows (addition ∷ []) 0 addition p row) → (start : ℕ)
      → (ds : List B) (ps : List Production) → AllZip W ds ps → ps ≡ numbered (own_production rows (addition ∷ []) 0 addition) start ps
  numbered_stays W is start [] [] all = refl
  numbered_stays W is start [] (p ∷ ps) all = absurd all
  numbered_stays W is start (d ∷ ds) [] all = absurd all
  numbered_stays W is start (d ∷ ds) (p ∷ ps) all =
      ap (λ z. z ∷ ps) (is d p start all.0)
      ∙ ap (λ z. own_production rows (addition ∷ []) 0 addition start p ∷ z) (numbered_stays W is (suc start) ds ps all.1)

  abbrev pg : Groups (IsExtendedProduction (n host r name items h ex) 1 items (m host r name items h ex))
      (IsProductionRow (n host r name items h ex) 1 items) host.attributes.productions (length h.productions) r.attributes.productions
  pg = production_groups host r name items h ex

  in_lead_row : (i : ℕ) (p row : Production) → slice_get rows.productions i ≡ Some p → slice_get pg.lead_parts.moved i ≡ Some row
      → IsExtendedProduction (n host r name items h ex) 1 items (m host r name items h ex) p row
      → row ≡ host_production rows (addition ∷ []) (0 + i) p
  in_lead_row i p row at has extended =
      let less : i < length rows.productions = slice_get_within rows.productions i p at in
      let whole = append_keeps rows.productions rows.abstract_productions i p at in
      let at_host = sym (ap (λ z. slice_get z i) (take-append-drop (length h.productions) host.attributes.productions)) ∙ whole in
      let stays_there = alone_below (length rows.productions) (length rows.abstract_productions) (alone (length added.productions))
      (alone (length added.abstract_productions)) (inr (omega arith)) (inr (omega arith)) i less in
      let there = ap (slice_get r.attributes.productions) stays_there ∙ (ap (λ z. slice_get z i) pg.are
      ∙ append_keeps pg.leading pg.following i row (ap (λ z. slice_get z i) pg.lead_parts.are
      ∙ append_keeps pg.lead_parts.moved pg.lead_parts.own i row has)) in
      let e : i ≡ 0 + i = omega arith in
      host_production_is host r name items h ex i p row at_host there extended ∙ ap (λ z. host_production rows (addition ∷ []) z p) e

  in_follow_row : (j : ℕ) (p row : Production) → slice_get rows.abstract_productions j ≡ Some p
      → slice_get pg.follow_parts.moved j ≡ Some row
      → IsExtendedProduction (n host r name items h ex) 1 items (m host r name items h ex) p row
      → row ≡ host_production rows (addition ∷ []) (length rows.productions + j) p
  in_follow_row j p row at has extended =
      let less : j < length rows.abstract_productions = slice_get_within rows.abstract_productions j p at in
      let i_far : length rows.productions ≤ length rows.productions + j = omega arith in
      let i_near : length rows.productions + j < length rows.productions + length rows.abstract_productions = omega (arith, less) in
      let whole = append_after rows.productions rows.abstract_productions j ∙ at in
      let at_host = sym (ap (λ z. slice_get z (length rows.productions + j))
      (take-append-drop (length h.productions) host.attributes.productions)) ∙ whole in
      let moved_there = alone_between (length rows.productions) (length rows.abstract_productions) (alone (length added.productions))
      (alone (length added.abstract_productions)) (inr (omega arith)) (inr (omega arith)) (length rows.productions + j) i_far i_near in
      let lead_len = ap (λ (z : List Production). length z) pg.lead_parts.are ∙ length-append pg.lead_parts.moved pg.lead_parts.own in
      let moved_len = zip_length (IsExtendedProduction (n host r name items h ex) 1 items (m host r name items h ex)) rows.productions
      pg.lead_parts.moved pg.lead_parts.are_moved in
      let index : (length rows.productions + j) + length added.productions ≡ length pg.leading + j = omega (arith, lead_len, moved_len) in
      let there = ap (slice_get r.attributes.productions) (moved_there ∙ index) ∙ (ap (λ z. slice_get z (length pg.leading + j)) pg.are
      ∙ (append_after pg.leading pg.following j ∙ (ap (λ z. slice_get z j) pg.follow_parts.are
      ∙ append_keeps pg.follow_parts.moved pg.follow_parts.own j row has))) in
      host_production_is host r name items h ex (length rows.productions + j) p row at_host there extended

  productions_are : r.attributes.productions ≡ united_productions rows (addition ∷ [])
  productions_are =
      group_is (IsExtendedProduction (n host r name items h ex) 1 items (m host r name items h ex))
      (IsProductionRow (n host r name items h ex) 1 items) host.attributes.productions (length h.productions) r.attributes.productions pg
      (numbered (host_production rows (addition ∷ [])) 0 rows.productions)
      (numbered (own_production rows (addition ∷ []) 0 addition) (length rows.productions) added.productions)
      (numbered (host_production rows (addition ∷ [])) (length rows.productions) rows.abstract_productions)
      (numbered (own_production rows (addition ∷ []) 0 addition) (before_abstract rows addition) added.abstract_productions)
      (numbered_zip (IsExtendedProduction (n host r name items h ex) 1 items (m host r name items h ex))
      (host_production rows (addition ∷ [])) 0 rows.productions pg.lead_parts.moved pg.lead_parts.are_moved in_lead_row)
      (numbered_stays (IsProductionRow (n host r name items h ex) 1 items) own_row_is (length rows.productions) pg.lead
      added.productions pg.lead_parts.are_own)
      (numbered_zip (IsExtendedProduction (n host r name items h ex) 1 items (m host r name items h ex))
      (host_production rows (addition ∷ [])) (length rows.productions) rows.abstract_productions pg.follow_parts.moved
      pg.follow_parts.are_moved in_follow_row)
      (numbered_stays (IsProductionRow (n host r name items h ex) 1 items) own_row_is (before_abstract rows addition) pg.follow
      added.abstract_productions pg.follow_parts.are_own)

  pub attributes_with : r.attributes ≡ united_attribution rows (addition ∷ [])
  attributes_with =
      let a = r.attributes in
      let names = name ∷ [] in
      ap (λ z. attributed_of z a.nonterminals a.attributes a.occurrences a.productions a.signatures) ex.value.extensions
      ∙ (ap (λ z. attributed_of names z a.attributes a.occurrences a.productions a.signatures)
      (base.nonterminals_are host r name items h ex)
      ∙ (ap (λ z. attributed_of names (united_nonterminals rows (addition ∷ [])) z a.occurrences a.productions a.signatures)
      (base.attributes_are host r name items h ex)
      ∙ (ap (λ z. attributed_of names (united_nonterminals rows (addition ∷ [])) (united_attributes rows (addition ∷ [])) z a.productions
      a.signatures) (base.occurrences_are host r name items h ex)
      ∙ (ap (λ z. attributed_of names (united_nonterminals rows (addition ∷ [])) (united_attributes rows (addition ∷ []))
      (united_occurrences rows (addition ∷ [])) z a.signatures) productions_are
      ∙ ap (attributed_of names (united_nonterminals rows (addition ∷ [])) (united_attributes rows (addition ∷ []))
      (united_occurrences rows (addition ∷ [])) (united_productions rows (addition ∷ [])))
      (ex.value.signatures ∙ ap (map (signature_of names)) productions_are)))))
