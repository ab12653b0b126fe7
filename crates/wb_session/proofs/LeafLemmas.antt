-- What becomes of the leaf at a checkpoint.
use Rattle.std.proofs.Common.{◌≡◌, ◌<◌, ◌≤◌, ◌+◌, ◌-◌, ℕ, suc, List, [], ◌∷◌, ◌++◌, length, refl, sym, ◌∙◌, ap, subst, arith}
use Rattle.std.specs.Prelude.{All, Some, slice_get}
use Rattle.wb_base.specs.declared.symbol.Symbol.{Symbol}
use Rattle.wb_base.specs.declared.symbol.Symbol.TheVariants.{Nonterminal}
use Rattle.wb_grammar_theory.specs.Productions.{end_of}
use Rattle.wb_grammar_theory.specs.Trees.{Forest, nothing, leaf, node, symbols, Leaf, leaves}
use Rattle.wb_grammar_theory.specs.Lookaheads.{CanShift}
use Rattle.wb_values.specs.Tree.{Tree, Values, empty, more, plain, text, tree}
use Rattle.wb_values.specs.Tree as values
use Rattle.wb_values.specs.ValuesIn.{tree_in, values_in, IsIn}
use Rattle.wb_values.specs.declared.value.TreeId.{TreeId}
use Rattle.wb_values.specs.declared.value.Value.{Value}
use Rattle.wb_values.specs.declared.value.Value.TheVariants as stored
use Rattle.wb_scan_theory.specs.declared.stop_kind.StopKind.TheVariants.{Unexpected, NoToken}
use Rattle.wb_scan_theory.specs.Tokens.{Next, token, over, missing}
use Rattle.wb_scan_theory.specs.Texts.{StopsAt}
use Rattle.wb_scan_theory.specs.Examined.{Scans}
use Rattle.wb_scan_theory.specs.Facts.{IsLanguage}
use Rattle.wb_scan_theory.specs.Shown.{values_of}
use Rattle.wb_scan_theory.specs.Parts.{AreTablesOf, IsPrefixOf}
use Rattle.wb_scan_theory.specs.Machine.{joined}
use Rattle.wb_scan_theory.proofs.FactLemmas.{parsable}
use Rattle.wb_scan_theory.proofs.ForestLemmas.{symbols_joined}
use Rattle.wb_scan_theory.proofs.SeenLemmas.{scan_next}
use Rattle.wb_scan_theory.proofs.StepLemmas.{leaf_of, leaves_shifted}
use Rattle.wb_scan_theory.proofs.TokenLemmas.{taken}
use Rattle.wb_scan.specs.Views.{LanguageParts}
use Rattle.wb_parser_states.specs.declared.outcome.Outcome.{Outcome}
use Rattle.wb_parser_states.specs.declared.outcome.Outcome.TheVariants.{Shifts, Accepts, Stops}
use Rattle.wb_parser_states.proofs.StateLemmas.{at_top, leaf_push}
use Rattle.wb_parser.specs.declared.parsed.Parsed.{Parsed}
use Rattle.wb_parser.specs.declared.parsed.Parsed.TheVariants as parsed
use Rattle.wb_parser.specs.Parses.{IsParsed}
use Rattle.wb_parser.proofs.ValueLemmas.{appended, values_in_append, values_of_joined}
use Rattle.wb_session_theory.specs.Runs.{Reduces, Reads, stays, shifts, accepts, no_token, unexpected}
use Rattle.wb_session_theory.proofs.ScanLemmas.{scan_more}
use Rattle.wb_session_theory.proofs.ReadLemmas.{reads_more, reads_then, first_read, ends_answer}
use Rattle.wb_session.specs.declared.checkpoint.Checkpoint.{Checkpoint}
use Rattle.wb_session.specs.declared.place.LeafPlace.{LeafPlace}
use Rattle.wb_session.specs.declared.stacks.Entry.{Entry}
use Rattle.wb_session.specs.Inner.Entries.{state_in}
use Rattle.wb_session.specs.Stacks.{Roots, LeadsTo, bottom, above, IsStack, IsSound}
use Rattle.wb_session.specs.Kept.{AreScanned, IsKept}
use Rattle.wb_session.specs.Inner.Steps.{IsSettled}
use Rattle.wb_session.specs.Places.{HasPlaces}
use Rattle.wb_session.proofs.PlaceLemmas.{leaves_after, scanned_more, scanned_push, places_whole}
use Rattle.wb_session.proofs.StackLemmas.{leads_state, leads_push, leads_inside, before_next}

-- what was scanned at the state on top is next at the symbols of the stack
pub scanned_at : (parts : LanguageParts) (source : List ℕ) (roots : Roots) (link at e state : ℕ) (next : Next) →
    AreTablesOf parts.language.grammar parts.tables → state ≡ state_in roots.entries link →
    ((prefix : List Symbol) → IsPrefixOf parts.language.grammar parts.tables state prefix → Scans parts.language source prefix e at next) →
    (stack : Forest) → IsStack parts roots link stack → Scans parts.language source (symbols stack) e at next
scanned_at parts source roots link at e state next of state_is found stack is =
    found (symbols stack) (subst (λ s. IsPrefixOf parts.language.grammar parts.tables s (symbols stack))
    (sym (state_is ∙ leads_state is.leads)) (at_top of is.states stack is.states_are))

module _ (parts : LanguageParts) (ok : IsLanguage parts.language) (source : List ℕ) where
  -- a stop that is found where the stack is kept
  pub nothing_leaf : (roots : Roots) (places : List LeafPlace) (e place : ℕ) (point : Checkpoint)
      (k : IsKept parts source roots places point) → Scans parts.language source (symbols k.stack) e point.at (missing place) →
      StopsAt parts.language source place NoToken
  nothing_leaf roots places e place point k scan =
      ends_answer parts.language ok source (no_token place scan refl) (first_read parts.language ok source k.reads)

  -- the stack after a leaf that is shifted is kept
  pub token_shift : (roots mid after_roots : Roots) (places : List LeafPlace) (point next : Checkpoint) (e begin here t : ℕ)
      (lexeme : List ℕ) (link target : ℕ) → here + length lexeme ≡ next.at → (k : IsKept parts source roots places point) →
      Scans parts.language source (symbols k.stack) e point.at (token begin t lexeme next.at) →
      IsSettled parts t roots point.link mid link (Shifts target) → length mid.values ≡ length mid.entries →
      after_roots.entries ≡ mid.entries ++ (record { state = target; below = link; tree = 0 }) ∷ [] →
      after_roots.values ≡ mid.values ++ stored.Text lexeme ∷ [] → after_roots.trees ≡ mid.trees → next.link ≡ length mid.entries + 1 →
      point.reach ≤ next.reach → e ≤ next.reach → next.at ≤ next.reach → next.at ≤ length source →
      IsKept parts source after_roots (places ++ (record { terminal = t; begin = begin; lexeme = here; end = next.at }) ∷ []) next
  token_shift roots mid after_roots places point next e begin here t lexeme link target size k scan settled same es ws ts link_is reach_le
      e_le at_le within =
      let g = parts.language.grammar in
      let (reduced, red, there, todo) = settled k.stack k.is in
      let can = todo.0 in
      let goes = todo.1 in
      let new : Forest = joined reduced (leaf t lexeme nothing) in
      let last : Leaf = leaf_of reduced t lexeme in
      let place : LeafPlace = record { terminal = t; begin = begin; lexeme = here; end = next.at } in
      let x : Entry = record { state = target; below = link; tree = 0 } in
      let up : suc (length mid.entries) ≡ next.link = omega (arith, link_is) in
      record {
        stack = new;
        is = record {
          states = there.states ++ target ∷ [];
          vs = there.vs ++ stored.Text lexeme ∷ [];
          leads = subst (λ n. LeadsTo after_roots.entries after_roots.values n (there.states ++ target ∷ [])
              (there.vs ++ stored.Text lexeme ∷ []))
              up (leads_push x (stored.Text lexeme) es ws same there.leads);
          states_are = leaf_push g parts.tables [] there.states reduced target t lexeme there.states_are goes;
          values_are = ap (λ z. values_in z (there.vs ++ stored.Text lexeme ∷ [])) ts
              ∙ values_in_append mid.trees there.vs (stored.Text lexeme ∷ [])
              ∙ (ap (λ z. appended z (more (plain (text lexeme)) empty)) there.values_are
              ∙ sym (values_of_joined reduced (leaf t lexeme nothing)));
        };
        reads = reads_then (reads_more reach_le k.reads)
            (shifts begin t lexeme next.at reduced (scan_more e_le scan) red can (stays refl refl));
        laid = subst (λ z. AreScanned parts.language source next.reach [] 0 z (places ++ place ∷ []) (symbols new) next.at)
            (sym (leaves_shifted reduced t lexeme ∙ ap (λ z. z ++ last ∷ []) (leaves_after red)))
            (subst (λ z. AreScanned parts.language source next.reach [] 0 (leaves [] k.stack ++ last ∷ []) (places ++ place ∷ []) z next.at)
            (sym (symbols_joined reduced (leaf t lexeme nothing)))
            (scanned_push parts.language source next.reach (leaves [] k.stack) places last place [] (symbols k.stack) 0 point.at
            (scanned_more parts.language source point.reach next.reach (leaves [] k.stack) places [] (symbols k.stack) 0 point.at reach_le
            k.laid) (scan_more e_le scan) refl size));
        before = at_le;
        within = within;
      }

  -- a leaf that isn't shifted
  pub token_stops : (roots mid : Roots) (places : List LeafPlace) (point : Checkpoint) (e begin t : ℕ) (lexeme : List ℕ) (after link : ℕ)
      (outcome : Outcome) → (k : IsKept parts source roots places point) →
      Scans parts.language source (symbols k.stack) e point.at (token begin t lexeme after) →
      IsSettled parts t roots point.link mid link outcome → ((target : ℕ) → outcome ≡ Shifts target → ⊥) →
      StopsAt parts.language source begin (Unexpected t)
  token_stops roots mid places point e begin t lexeme after link (Shifts target) k scan settled no_shift = absurd (no_shift target refl)
  token_stops roots mid places point e begin t lexeme after link Accepts k scan settled no_shift =
      let (reduced, red, there, todo) = settled k.stack k.is in
      let h : t < end_of parts.language.grammar = (taken ok.written (scan_next scan) begin t lexeme after refl).0 in
      let e' : t ≡ end_of parts.language.grammar = todo.0 in absurd (omega arith)
  token_stops roots mid places point e begin t lexeme after link Stops k scan settled no_shift =
      let (reduced, red, there, todo) = settled k.stack k.is in
      ends_answer parts.language ok source
      (unexpected (token begin t lexeme after) t begin reduced scan (refl, refl) red todo.0 todo.1 refl)
      (first_read parts.language ok source k.reads)

  -- the end of the text that isn't accepted
  pub over_stops : (roots mid : Roots) (first link e d at place t : ℕ) (outcome : Outcome) (stack : Forest) →
      IsStack parts roots first stack → Reads parts.language source e [] nothing 0 stack at →
      Scans parts.language source (symbols stack) d at (over place) → IsSettled parts t roots first mid link outcome →
      t ≡ end_of parts.language.grammar → (outcome ≡ Accepts → ⊥) → StopsAt parts.language source place (Unexpected t)
  over_stops roots mid first link e d at place t (Shifts target) stack is reads scan settled is_end no_accept =
      let (reduced, red, there, todo) = settled stack is in
      absurd ((parsable parts.language.grammar ok.deterministic).no_end (symbols reduced)
      (subst (CanShift parts.language.grammar (symbols reduced)) is_end todo.0))
  over_stops roots mid first link e d at place t Accepts stack is reads scan settled is_end no_accept = absurd (no_accept refl)
  over_stops roots mid first link e d at place t Stops stack is reads scan settled is_end no_accept =
      let (reduced, red, there, todo) = settled stack is in
      ends_answer parts.language ok source (unexpected (over place) t place reduced scan (sym is_end, refl) red todo.0 todo.1 refl)
      (first_read parts.language ok source reads)

one_value : (trees : List Tree) (vs : List Value) (value : Tree) → values_in trees vs ≡ more (tree value) empty →
    (id : TreeId) × (vs ≡ stored.Tree id ∷ []) × (tree_in trees id.0 ≡ value)
one_value trees [] value e = cc
one_value trees (stored.Int z ∷ vs) value e = cc
one_value trees (stored.Bool b ∷ vs) value e = cc
one_value trees (stored.Text s ∷ vs) value e = cc
one_value trees (stored.Tree id ∷ []) value e = (id, refl, cc)
one_value trees (stored.Tree id ∷ v ∷ vs) value e = cc

one_root : (f : Forest) (a : ℕ) → symbols f ≡ Nonterminal a ∷ [] → (value : Tree) × (values_of f ≡ more (tree value) empty)
one_root nothing a e = cc
one_root (leaf t lexeme rest) a e = cc
one_root (node p b children nothing) a e = (values.node p (values_of children), refl)
one_root (node p b children (leaf t lexeme rest)) a e = cc
one_root (node p b children (node q c below rest)) a e = cc

-- the last value is that of the link's entry
top_value : {entries : List Entry} {values : List Value} {link : ℕ} {states : List ℕ} {vs : List Value} (v : Value) →
    LeadsTo entries values link states vs → vs ≡ v ∷ [] → (0 < link) × (slice_get values (link - 1) ≡ Some v)
top_value v (bottom s w) is = let e : [] ≡ v ∷ [] = sym w ∙ is in cc
top_value {values = values} v (above k x u lower under at has le leads s w) is = (
  omega arith,
  subst (λ n. slice_get values n ≡ Some v) (before_next k)
      (subst (λ z. slice_get values k ≡ Some z) (only under (sym w ∙ is)) has),
)
  where
    only : (under : List Value) → under ++ u ∷ [] ≡ v ∷ [] → u ≡ v
    only [] e = cc
    only (y ∷ []) e = cc
    only (y ∷ z ∷ zs) e = cc

-- the tree of a text that is accepted
pub over_whole : (parts : LanguageParts) → IsLanguage parts.language → (source : List ℕ) (roots mid : Roots) (first link e d at place t : ℕ)
    (stack : Forest) (result : Parsed) → IsStack parts roots first stack → Reads parts.language source e [] nothing 0 stack at →
    Scans parts.language source (symbols stack) d at (over place) → IsSettled parts t roots first mid link Accepts → IsSound parts mid →
    ((id : TreeId) → 0 < link → slice_get mid.values (link - 1) ≡ Some (stored.Tree id) → result ≡ parsed.Tree id) →
    IsParsed parts.language source mid.trees result
over_whole parts ok source roots mid first link e d at place t stack result is reads scan settled sound shown =
    let (reduced, red, there, todo) = settled stack is in
    let is_end : t ≡ end_of parts.language.grammar = todo.0 in
    let can = todo.1 in
    let root = todo.2 in
    let (value, root_is) = one_root reduced parts.language.grammar.start root in
    let (id, vs_is, held) = one_value mid.trees there.vs value (there.values_are ∙ root_is) in
    let (some, has) = top_value (stored.Tree id) there.leads vs_is in
    let red' : Reduces parts.language.grammar [] (end_of parts.language.grammar) stack reduced =
    subst (λ z. Reduces parts.language.grammar [] z stack reduced) is_end red in
    let can' = subst (Rattle.wb_grammar_theory.specs.Lookaheads.CanReduce parts.language.grammar (symbols reduced)
    (Rattle.wb_grammar_theory.specs.Productions.top_of parts.language.grammar)) is_end can in
    subst (IsParsed parts.language source mid.trees) (sym (shown id some has))
    (record {
      held = lone id (subst (All (IsIn (length mid.trees))) vs_is (leads_inside (length mid.trees) sound.inside there.leads));
      tree = reduced;
      parses = ends_answer parts.language ok source (accepts place reduced scan red' can' refl)
          (first_read parts.language ok source reads);
      shows = root_is ∙ ap (λ z. more (tree z) empty) (sym held);
    })
  where
    lone : (id : TreeId) → All (IsIn (length mid.trees)) (stored.Tree id ∷ []) → id.0 < length mid.trees
    lone id all = all 0 (stored.Tree id) (omega arith)

-- and the leaves of that tree are those of the stack
pub over_leaves : (parts : LanguageParts) → IsLanguage parts.language → (source : List ℕ) (roots mid : Roots) (first link e d at place
    t : ℕ) (stack : Forest) (places : List LeafPlace) → IsStack parts roots first stack →
    Reads parts.language source e [] nothing 0 stack at →
    AreScanned parts.language source e [] 0 (leaves [] stack) places (symbols stack) at →
    Scans parts.language source (symbols stack) d at (over place) → IsSettled parts t roots first mid link Accepts →
    HasPlaces parts.language source places
over_leaves parts ok source roots mid first link e d at place t stack places is reads laid scan settled =
    let (reduced, red, there, todo) = settled stack is in
    let is_end : t ≡ end_of parts.language.grammar = todo.0 in
    let red' : Reduces parts.language.grammar [] (end_of parts.language.grammar) stack reduced =
    subst (λ z. Reduces parts.language.grammar [] z stack reduced) is_end red in
    let can' = subst (Rattle.wb_grammar_theory.specs.Lookaheads.CanReduce parts.language.grammar (symbols reduced)
    (Rattle.wb_grammar_theory.specs.Productions.top_of parts.language.grammar)) is_end todo.1 in
    places_whole parts.language ok source e d at stack places laid (over place) reduced scan
    (ends_answer parts.language ok source (accepts place reduced scan red' can' refl) (first_read parts.language ok source reads))
    (leaves_after red)
