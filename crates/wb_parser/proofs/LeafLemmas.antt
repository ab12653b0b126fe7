-- What becomes of a leaf.
use Rattle.std.proofs.Common.{◌≡◌, ◌<◌, ℕ, List, [], ◌∷◌, ◌++◌, length, refl, sym, ◌∙◌, ap, subst, arith}
use Rattle.std.specs.Prelude.{All}
use Rattle.wb_base.specs.declared.symbol.Symbol.{Symbol}
use Rattle.wb_base.specs.declared.symbol.Symbol.TheVariants.{Terminal, Nonterminal}
use Rattle.wb_grammar_theory.specs.Productions.{end_of}
use Rattle.wb_grammar_theory.specs.Trees.{Forest, nothing, leaf, node, symbols}
use Rattle.wb_grammar_theory.specs.Lookaheads.{CanShift}
use Rattle.wb_values.specs.Tree.{Tree, Values, empty, more, plain, text, tree}
use Rattle.wb_values.specs.Tree as values
use Rattle.wb_values.specs.ValuesIn.{tree_in, values_in, IsIn}
use Rattle.wb_values.specs.declared.value.TreeId.{TreeId}
use Rattle.wb_values.specs.declared.value.Value.{Value}
use Rattle.wb_values.specs.declared.value.Value.TheVariants as stored
use Rattle.wb_scan_theory.specs.declared.stop_kind.StopKind.TheVariants.{Unexpected, NoToken}
use Rattle.wb_scan_theory.specs.Tokens.{Next, NextToken, token, over, missing}
use Rattle.wb_scan_theory.specs.Texts.{StopsAt}
use Rattle.wb_scan_theory.specs.Facts.{IsLanguage}
use Rattle.wb_scan_theory.specs.Shown.{values_of}
use Rattle.wb_scan_theory.specs.Parts.{AreTablesOf, IsPrefixOf}
use Rattle.wb_scan_theory.specs.Machine.{joined, Keeps}
use Rattle.wb_scan_theory.proofs.ForestLemmas.{symbols_joined}
use Rattle.wb_scan_theory.proofs.StepLemmas.{first_keeps, shift_keeps, accept_gives, nothing_stops}
use Rattle.wb_scan_theory.proofs.FactLemmas.{parsable}
use Rattle.wb_scan_theory.proofs.TokenLemmas.{taken}
use Rattle.wb_scan.specs.Views.{LanguageParts}
use Rattle.wb_parser_states.specs.declared.outcome.Outcome.{Outcome}
use Rattle.wb_parser_states.specs.declared.outcome.Outcome.TheVariants.{Shifts, Accepts, Stops}
use Rattle.wb_parser.specs.declared.parsed.Parsed.{Parsed}
use Rattle.wb_parser.specs.declared.parsed.Parsed.TheVariants as parsed
use Rattle.wb_parser.specs.Parses.{IsParsed}
use Rattle.wb_parser_states.specs.Stacks.{AreStates, last_or}
use Rattle.wb_parser.specs.Inner.Steps.{IsAt, IsReady, CanGo, IsWhole, IsOutcome}
use Rattle.wb_parser_states.proofs.ReadyLemmas.{scanned}
use Rattle.wb_parser_states.proofs.StateLemmas.{leaf_push}
use Rattle.wb_parser.proofs.ValueLemmas.{appended, values_in_append, values_of_joined}

module _ (parts : LanguageParts) (ok : IsLanguage parts.language) (source : List ℕ) where
  -- what was scanned at the state on top is next
  pub scanned_at : AreTablesOf parts.language.grammar parts.tables → (states slice : List ℕ) (vs : List Value) (trees : List Tree)
      (at top : ℕ) (next : Next) → top ≡ last_or 0 slice → slice ≡ states →
      ((prefix : List Symbol) → IsPrefixOf parts.language.grammar parts.tables top prefix →
      NextToken parts.language source prefix at next) →
      (r : IsReady parts source states vs trees at) → NextToken parts.language source r.0 at next
  scanned_at of states slice vs trees at top next top_is slice_is found (prefix, is, same) =
      scanned parts source of states slice is.stack prefix is.states_are same at top next top_is slice_is found

  pub nothing_leaf : (states : List ℕ) (vs : List Value) (trees : List Tree) (prefix : List Symbol) (at place : ℕ) →
      IsAt parts source states vs trees prefix at → NextToken parts.language source prefix at (missing place) →
      StopsAt parts.language source place NoToken
  nothing_leaf states vs trees prefix at place is n =
      nothing_stops parts.language.grammar (parsable parts.language.grammar ok.deterministic).productive (NextToken parts.language source)
      is.stack prefix at place is.keeps n

  -- a leaf that is shifted
  pub token_shift : (states pushed : List ℕ) (vs vs' : List Value) (trees : List Tree) (prefix : List Symbol)
      (at begin t : ℕ) (lexeme : List ℕ) (after target : ℕ) → pushed ≡ states ++ target ∷ [] → vs' ≡ vs ++ stored.Text lexeme ∷ [] →
      NextToken parts.language source prefix at (token begin t lexeme after) → CanGo parts source states vs trees prefix at t target →
      IsReady parts source pushed vs' trees after
  token_shift states pushed vs vs' trees prefix at begin t lexeme after target pushed_is vs_is n c =
      let g = parts.language.grammar in
      let new : Forest = joined c.is.stack (leaf t lexeme nothing) in
      let keeps = shift_keeps g (parsable g ok.deterministic).free (NextToken parts.language source) c.is.stack prefix at c.is.keeps begin t
      lexeme after n c.can in
      let named : symbols new ≡ symbols c.is.stack ++ Terminal t ∷ [] = symbols_joined c.is.stack (leaf t lexeme nothing) in
      let first : values_in trees vs ≡ values_of c.is.stack = c.is.values_are in (
        symbols new,
        record {
          stack = new;
          states_are = subst (λ z. AreStates g parts.tables [] z new) (sym pushed_is)
              (leaf_push g parts.tables [] states c.is.stack target t lexeme c.is.states_are c.goes);
          values_are = ap (values_in trees) vs_is ∙ (values_in_append trees vs (stored.Text lexeme ∷ [])
              ∙ (ap (λ z. appended z (more (plain (text lexeme)) empty)) first
              ∙ sym (values_of_joined c.is.stack (leaf t lexeme nothing))));
          keeps = subst (λ z. Keeps g (NextToken parts.language source) new z after) (sym named) keeps;
        },
        refl,
      )

  -- a leaf that isn't
  pub token_stops : (states : List ℕ) (vs : List Value) (trees : List Tree) (prefix : List Symbol) (at begin t : ℕ) (lexeme : List ℕ)
      (after : ℕ) (outcome : Outcome) → ((target : ℕ) → outcome ≡ Shifts target → ⊥) →
      NextToken parts.language source prefix at (token begin t lexeme after) →
      IsOutcome parts source t states vs trees prefix at begin outcome → StopsAt parts.language source begin (Unexpected t)
  token_stops states vs trees prefix at begin t lexeme after (Shifts target) no_shift n is = absurd (no_shift target refl)
  token_stops states vs trees prefix at begin t lexeme after Accepts no_shift n is =
      let h : t < end_of parts.language.grammar = (taken ok.written n begin t lexeme after refl).0 in
      let e : t ≡ end_of parts.language.grammar = is.is_end in absurd (omega arith)
  token_stops states vs trees prefix at begin t lexeme after Stops no_shift n is = is

  -- the end of the text that isn't accepted
  pub over_stops : (states : List ℕ) (vs : List Value) (trees : List Tree) (prefix : List Symbol) (at place t : ℕ) (outcome : Outcome) →
      t ≡ end_of parts.language.grammar → (outcome ≡ Accepts → ⊥) →
      IsOutcome parts source t states vs trees prefix at place outcome → StopsAt parts.language source place (Unexpected t)
  over_stops states vs trees prefix at place t (Shifts target) is_end no_accept c =
      absurd ((parsable parts.language.grammar ok.deterministic).no_end (symbols c.is.stack)
      (subst (CanShift parts.language.grammar (symbols c.is.stack)) is_end c.can))
  over_stops states vs trees prefix at place t Accepts is_end no_accept is = absurd (no_accept refl)
  over_stops states vs trees prefix at place t Stops is_end no_accept is = is

  one_value : (trees : List Tree) (vs : List Value) (value : Tree) → values_in trees vs ≡ more (tree value) empty →
      (id : TreeId) × (vs ≡ stored.Tree id ∷ []) × (tree_in trees id.0 ≡ value)
  one_value trees [] value e = cc
  one_value trees (stored.Int z ∷ vs) value e = cc
  one_value trees (stored.Bool b ∷ vs) value e = cc
  one_value trees (stored.Text s ∷ vs) value e = cc
  one_value trees (stored.Tree id ∷ []) value e = (id, refl, cc)
  one_value trees (stored.Tree id ∷ v ∷ vs) value e = cc

  one_root : (f : Forest) (a : ℕ) → symbols f ≡ Nonterminal a ∷ [] → (value : Tree) × (values_of f ≡ more (tree value) empty)
  one_root nothing a e = cc
  one_root (leaf t lexeme rest) a e = cc
  one_root (node p b children nothing) a e = (values.node p (values_of children), refl)
  one_root (node p b children (leaf t lexeme rest)) a e = cc
  one_root (node p b children (node q c below rest)) a e = cc

  -- the tree of a text that is accepted
  pub over_whole : (states slice : List ℕ) (vs given : List Value) (trees : List Tree) (prefix : List Symbol) (at place t : ℕ)
      (result : Parsed) → All (IsIn (length trees)) vs → given ≡ vs →
      ((id : TreeId) → given ≡ stored.Tree id ∷ [] → result ≡ parsed.Tree id) →
      NextToken parts.language source prefix at (over place) → IsWhole parts source states vs trees prefix at t →
      IsParsed parts.language source trees result
  over_whole states slice vs given trees prefix at place t result inside given_is shown n whole =
      let (value, root) = one_root whole.is.stack parts.language.grammar.start whole.root in
      let (id, vs_is, held) = one_value trees vs value (whole.is.values_are ∙ root) in
      subst (IsParsed parts.language source trees) (sym (shown id (given_is ∙ vs_is)))
      (record {
        held = lone id (subst (All (IsIn (length trees))) vs_is inside);
        tree = whole.is.stack;
        parses = accept_gives parts.language.grammar
            (NextToken parts.language source) whole.is.stack prefix at place whole.is.keeps n whole.root;
        shows = root ∙ ap (λ z. more (tree z) empty) (sym held);
      })
    where
      lone : (id : TreeId) → All (IsIn (length trees)) (stored.Tree id ∷ []) → id.0 < length trees
      lone id all = all 0 (stored.Tree id) (omega arith)

  -- at the beginning the machine is ready
  pub first_ready : (states : List ℕ) (vs : List Value) (trees : List Tree) → states ≡ [] → vs ≡ [] → IsReady parts source states vs trees 0
  first_ready states vs trees states_is vs_is = (
    [],
    record {
      stack = nothing;
      states_are = subst (λ z. AreStates parts.language.grammar parts.tables [] z nothing) (sym states_is) tt;
      values_are = ap (values_in trees) vs_is;
      keeps = first_keeps parts.language.grammar (NextToken parts.language source);
    },
    refl,
  )
