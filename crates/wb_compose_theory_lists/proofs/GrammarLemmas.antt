-- The concrete productions of a union are those of the union of the grammars.
use Rattle.std.proofs.Common.{◌≡◌, ◌∙◌, ◌<◌, ◌≤◌, ◌+◌, ◌++◌, ◌∷◌, [], ℕ, zero, suc, List, Some, All, length, map}
use Rattle.std.proofs.Common.{option_map}
use Rattle.std.proofs.Common.{slice_get, refl, sym, ap, subst, inl, inr, arith}
use Rattle.std.specs.List.{AllZip}
use Rattle.std.proofs.lemmas.Bool.{cases_lt}
use Rattle.std.proofs.lemmas.List.Elements.{All-head, All-tail}
use Rattle.std.proofs.lemmas.Option.{same_Some, slice_get-map}
use Rattle.wb_base.specs.declared.symbol.Kind.TheVariants as kind
use Rattle.wb_base.specs.declared.symbol.Symbol.{Symbol}
use Rattle.wb_base.specs.declared.symbol.Symbol.TheVariants as symbol
use Rattle.wb_base.specs.Grammar as plain
use Rattle.wb_base.specs.Grammar.{GrammarView, IsGrammar, IsSymbolBelow, IsProductionBelow}
use Rattle.wb_lemmas.proofs.Elements.{all_at, all_from_places}
use Rattle.wb_lemmas.proofs.Places.{nothing_at, at_drop}
use Rattle.wb_syntax_resolved.specs.declared.production.Child.{Child}
use Rattle.wb_syntax_resolved.specs.declared.production.ChildKind.{ChildKind}
use Rattle.wb_syntax_resolved.specs.declared.production.ChildKind.TheVariants as child
use Rattle.wb_syntax_resolved.specs.declared.production.Production.{Production}
use Rattle.wb_syntax_resolved.specs.Grammar.{IsGrammarProduction, symbol_of}
use Rattle.wb_compose_theory.specs.Blocks.{lift}
use Rattle.wb_compose_theory.specs.Renamings.{Renaming, renamed}
use Rattle.wb_compose_theory_grammar.specs.Places.{count_before, total_of}
use Rattle.wb_compose_theory_grammar.specs.Unions.{added_terminals, added_nonterminals, lifted_by, renamed_production, own_productions}
use Rattle.wb_compose_theory_grammar.specs.Unions.{productions_after}
use Rattle.wb_compose_theory_grammar.specs.Unions.{union_of}
use Rattle.wb_compose_theory_grammar.proofs.PlaceLemmas.{lift_below, lift_past, within_total}
use Rattle.wb_compose_theory_attributes.specs.Numbers.{NumberMap}
use Rattle.wb_compose_theory_attributes.specs.Rows.{new_child_kind, new_child}
use Rattle.wb_compose_theory_lists.specs.Additions.{Rows, Addition, nothing}
use Rattle.wb_compose_theory_lists.specs.Grammars.{IsHostGrammar, IsAddedGrammar, IsUnionGrammar}
use Rattle.wb_compose_theory_lists.specs.Joined.{joined, numbered, place_after}
use Rattle.wb_compose_theory_lists.specs.Laws.{HasUnionGrammar}
use Rattle.wb_compose_theory_lists.specs.Numbers.{block_of, numbers_of}
use Rattle.wb_compose_theory_lists.specs.United.{host_numbers, host_production, own_production}
use Rattle.wb_compose_theory_lists.proofs.PlacedLemmas.{after_below, after_middle}

zip_both : {A B : Type 0} (R : A → B → Type 0) (xs ys : List A) (us vs : List B) → AllZip R xs us → AllZip R ys vs → AllZip R
    (xs ++ ys) (us ++ vs)
zip_both R [] ys [] vs first second = second
zip_both R [] ys (u ∷ us) vs first second = absurd first
zip_both R (x ∷ xs) ys [] vs first second = absurd first
zip_both R (x ∷ xs) ys (u ∷ us) vs first second = (first.0, zip_both R xs ys us vs first.1 second)

-- symbols in new numbers
new_symbol : NumberMap → Symbol → Symbol
new_symbol t (symbol.Terminal number) = symbol.Terminal (t.terminal number)
new_symbol t (symbol.Nonterminal number) = symbol.Nonterminal (t.nonterminal number)

symbol_new : (t : NumberMap) (s : Symbol) (is : ChildKind) → Some s ≡ symbol_of is → Some (new_symbol t s) ≡ symbol_of (new_child_kind t is)
unfolding new_symbol
symbol_new t s (child.Terminal number) same =
    let equal : s ≡ symbol.Terminal number = same_Some s (symbol.Terminal number) same in ap (λ z. Some (new_symbol t z)) equal
symbol_new t s (child.Value kind.Int) same = absurd (cc same)
symbol_new t s (child.Value kind.Bool) same = absurd (cc same)
symbol_new t s (child.Value kind.Text) same = absurd (cc same)
symbol_new t s (child.Value (kind.Tree m)) same =
    let equal : s ≡ symbol.Nonterminal m = same_Some s (symbol.Nonterminal m) same in ap (λ z. Some (new_symbol t z)) equal

right_new : (t : NumberMap) (ss : List Symbol) (cs : List Child)
    → map (λ (s : Symbol). Some s) ss ≡ map (λ (c : Child). symbol_of c.kind) cs
    → map (λ (s : Symbol). Some s) (map (new_symbol t) ss) ≡ map (λ (c : Child). symbol_of c.kind) (map (new_child t) cs)
right_new t [] [] same = refl
right_new t [] (c ∷ cs) same = absurd (cc same)
right_new t (s ∷ ss) [] same = absurd (cc same)
right_new t (s ∷ ss) (c ∷ cs) same =
    let head : Some s ≡ symbol_of c.kind = cc same in
    let tail : map (λ (z : Symbol). Some z) ss ≡ map (λ (z : Child). symbol_of z.kind) cs = cc same in
    ap (λ z. z ∷ map (λ (w : Symbol). Some w) (map (new_symbol t) ss)) (symbol_new t s c.kind head)
    ∙ ap (λ z. symbol_of (new_child_kind t c.kind) ∷ z) (right_new t ss cs tail)

-- numbers in a range agree with a renaming
pub record Agrees (t : NumberMap) (r : Renaming) (terminals nonterminals : ℕ) : Type 0 where
  pub terminal : (i : ℕ) → i < terminals → t.terminal i ≡ r.terminal i
  pub nonterminal : (i : ℕ) → i < nonterminals → t.nonterminal i ≡ r.nonterminal i

symbols_agree : (t : NumberMap) (r : Renaming) (terminals nonterminals : ℕ) → Agrees t r terminals nonterminals → (ss : List Symbol)
    → All (IsSymbolBelow terminals nonterminals) ss → map (renamed r) ss ≡ map (new_symbol t) ss
unfolding new_symbol
symbols_agree t r terminals nonterminals agrees [] below = refl
symbols_agree t r terminals nonterminals agrees (symbol.Terminal i ∷ ss) below =
    let head : i < terminals = All-head (IsSymbolBelow terminals nonterminals) (symbol.Terminal i) ss below in
    let tail = symbols_agree t r terminals nonterminals agrees ss (All-tail (IsSymbolBelow terminals nonterminals)
    (symbol.Terminal i) ss below) in
    ap (λ z. symbol.Terminal z ∷ map (renamed r) ss) (sym (agrees.terminal i head)) ∙ ap (λ z. symbol.Terminal (t.terminal i) ∷ z) tail
symbols_agree t r terminals nonterminals agrees (symbol.Nonterminal i ∷ ss) below =
    let head : i < nonterminals = All-head (IsSymbolBelow terminals nonterminals) (symbol.Nonterminal i) ss below in
    let tail = symbols_agree t r terminals nonterminals agrees ss
    (All-tail (IsSymbolBelow terminals nonterminals) (symbol.Nonterminal i) ss below) in
    ap (λ z. symbol.Nonterminal z ∷ map (renamed r) ss) (sym (agrees.nonterminal i head))
    ∙ ap (λ z. symbol.Nonterminal (t.nonterminal i) ∷ z) tail

-- a renaming of nothing
abbrev same_names : Renaming
same_names = record { terminal = λ i. i; nonterminal = λ i. i; production = λ i. i }

same_renamed : (ss : List Symbol) → map (renamed same_names) ss ≡ ss
same_renamed [] = refl
same_renamed (symbol.Terminal i ∷ ss) = ap (λ z. symbol.Terminal i ∷ z) (same_renamed ss)
same_renamed (symbol.Nonterminal i ∷ ss) = ap (λ z. symbol.Nonterminal i ∷ z) (same_renamed ss)

module _ (t : NumberMap) (r : Renaming) (terminals nonterminals : ℕ) (agrees : Agrees t r terminals nonterminals) where
  pub right_agrees : (ss : List Symbol) (cs : List Child) → map (λ (s : Symbol). Some s) ss ≡ map (λ (c : Child). symbol_of c.kind) cs
      → All (IsSymbolBelow terminals nonterminals) ss
      → map (λ (s : Symbol). Some s) (map (renamed r) ss) ≡ map (λ (c : Child). symbol_of c.kind) (map (new_child t) cs)
  right_agrees ss cs same below =
      ap (map (λ (s : Symbol). Some s)) (symbols_agree t r terminals nonterminals agrees ss below) ∙ right_new t ss cs same

  pub left_agrees : (rule : plain.Production) (left : ℕ) → rule.0 ≡ left → IsProductionBelow terminals nonterminals rule
      → r.nonterminal rule.0 ≡ t.nonterminal left
  left_agrees rule left same below = sym (agrees.nonterminal rule.0 below.left) ∙ ap t.nonterminal same

module _ (host : Rows) (h : GrammarView) (all : List Addition) (fit : IsHostGrammar host h) where
  abbrev terminals_of : Addition → ℕ
  terminals_of x = x.rows.terminals

  abbrev nonterminals_of : Addition → ℕ
  nonterminals_of x = length x.rows.nonterminals

  -- the first move of a nonterminal that leads is the only one
  grouped_first : (k : ℕ) (x : Addition) (i m : ℕ) → i < m → place_after (length host.nonterminals)
      (block_of host all nonterminals_of k x) i ≡ i
      → m ≤ length host.nonterminals → (numbers_of host all k x).nonterminal i ≡ i
  grouped_first k x i m less first near =
      ap (place_after (length host.nonterminals + total_of (map nonterminals_of all) + length host.abstract_nonterminals)
      (block_of host all (λ (y : Addition). length y.rows.abstract_nonterminals) k x)) first
      ∙ after_below (length host.nonterminals + total_of (map nonterminals_of all) + length host.abstract_nonterminals)
      (block_of host all (λ (y : Addition). length y.rows.abstract_nonterminals) k x) i (omega (arith, less, near))

  host_agrees : Agrees (host_numbers host all) same_names h.terminals h.nonterminals
  host_agrees = record {
    terminal = λ i less. let e = fit.terminals in
        after_below host.terminals (block_of host all terminals_of 0 nothing) i (omega (arith, less, e));
    nonterminal = λ i less. let e = fit.nonterminals in
        let near : i < length host.nonterminals = omega (arith, less, e) in
        grouped_first 0 nothing i (length host.nonterminals) near
        (after_below (length host.nonterminals) (block_of host all nonterminals_of 0 nothing) i near) (omega arith);
  }

  host_production_fits : (p : ℕ) (r : Production) (rule : plain.Production) → IsGrammarProduction r rule
      → IsProductionBelow h.terminals h.nonterminals rule → IsGrammarProduction (host_production host all p r) rule
  host_production_fits p r rule good below = record {
    left = left_agrees (host_numbers host all) same_names h.terminals h.nonterminals host_agrees rule r.left good.left below;
    right = ap (map (λ (s : Symbol). Some s)) (sym (same_renamed rule.1))
        ∙ right_agrees (host_numbers host all) same_names h.terminals h.nonterminals host_agrees rule.1 r.children good.right below.right;
  }

  host_productions_fit : (p : ℕ) (rs : List Production) (rules : List plain.Production) → AllZip IsGrammarProduction rs rules
      → All (IsProductionBelow h.terminals h.nonterminals) rules → AllZip IsGrammarProduction (numbered
      (host_production host all) p rs) rules
  host_productions_fit p [] [] each below = tt
  host_productions_fit p [] (rule ∷ rules) each below = absurd each
  host_productions_fit p (r ∷ rs) [] each below = absurd each
  host_productions_fit p (r ∷ rs) (rule ∷ rules) each below = (
    host_production_fits p r rule each.0 (All-head (IsProductionBelow h.terminals h.nonterminals) rule rules below),
    host_productions_fit (suc p) rs rules each.1 (All-tail (IsProductionBelow h.terminals h.nonterminals) rule rules below),
  )

  -- an extension's own
  module _ (k : ℕ) (x : Addition) (at : slice_get all k ≡ Some x) (g : GrammarView) (added : IsAddedGrammar h x g) where
    abbrev t : NumberMap
    t = numbers_of host all k x

    abbrev before_terminals : ℕ
    before_terminals = count_before (map terminals_of all) k

    abbrev before_nonterminals : ℕ
    before_nonterminals = count_before (map nonterminals_of all) k

    abbrev r : Renaming
    r = lifted_by h before_terminals before_nonterminals 0

    terminal_agrees : (i : ℕ) → i < g.terminals → t.terminal i ≡ r.terminal i
    terminal_agrees i less = elim (cases_lt i host.terminals) [
      | inl near ↦
          after_below host.terminals (block_of host all terminals_of k x) i near
          ∙ sym (ap (λ z. lift z before_terminals i) fit.terminals ∙ lift_below host.terminals before_terminals i near)
      | inr far ↦
          let one = fit.terminals in
          let two = added.terminals in
          after_middle host.terminals (block_of host all terminals_of k x) i (i + before_terminals) far (omega (arith, less, one, two)) refl
          ∙ sym (ap (λ z. lift z before_terminals i) fit.terminals ∙ lift_past host.terminals before_terminals i far)
    ]

    nonterminal_agrees : (i : ℕ) → i < g.nonterminals → t.nonterminal i ≡ r.nonterminal i
    nonterminal_agrees i less = elim (cases_lt i (length host.nonterminals)) [
      | inl near ↦
          grouped_first k x i (length host.nonterminals) near
          (after_below (length host.nonterminals) (block_of host all nonterminals_of k x) i near) (omega arith)
          ∙ sym (ap (λ z. lift z before_nonterminals i) fit.nonterminals ∙ lift_below (length host.nonterminals) before_nonterminals i near)
      | inr far ↦
          let one = fit.nonterminals in
          let two = added.nonterminals in
          let inside : i < length host.nonterminals + nonterminals_of x = omega (arith, less, one, two) in
          let first = after_middle (length host.nonterminals) (block_of host all nonterminals_of k x) i
          (i + before_nonterminals) far inside refl in
          let total = within_total (map nonterminals_of all) k (nonterminals_of x)
          (slice_get-map nonterminals_of all k ∙ ap (option_map nonterminals_of) at) in
          let below : i + before_nonterminals < length host.nonterminals + total_of (map nonterminals_of all)
          + length host.abstract_nonterminals = omega (arith, inside, total) in
          ap (place_after (length host.nonterminals + total_of (map nonterminals_of all) + length host.abstract_nonterminals)
          (block_of host all (λ (y : Addition). length y.rows.abstract_nonterminals) k x)) first
          ∙ (after_below (length host.nonterminals + total_of (map nonterminals_of all) + length host.abstract_nonterminals)
          (block_of host all (λ (y : Addition). length y.rows.abstract_nonterminals) k x) (i + before_nonterminals) below
          ∙ sym (ap (λ z. lift z before_nonterminals i) fit.nonterminals ∙ lift_past (length host.nonterminals) before_nonterminals i far))
    ]

    own_agrees : Agrees t r g.terminals g.nonterminals
    own_agrees = record { terminal = terminal_agrees; nonterminal = nonterminal_agrees }

    own_production_fits : (p : ℕ) (row : Production) (rule : plain.Production) → IsGrammarProduction row rule
        → IsProductionBelow g.terminals g.nonterminals rule
        → IsGrammarProduction (own_production host all k x p row) (renamed_production r rule)
    own_production_fits p row rule good below = record {
      left = left_agrees t r g.terminals g.nonterminals own_agrees rule row.left good.left below;
      right = right_agrees t r g.terminals g.nonterminals own_agrees rule.1 row.children good.right below.right;
    }

    pub own_productions_fit : (p : ℕ) (rows : List Production) (rules : List plain.Production) → AllZip IsGrammarProduction rows rules
        → All (IsProductionBelow g.terminals g.nonterminals) rules
        → AllZip IsGrammarProduction (numbered (own_production host all k x) p rows) (map (renamed_production r) rules)
    own_productions_fit p [] [] each below = tt
    own_productions_fit p [] (rule ∷ rules) each below = absurd each
    own_productions_fit p (row ∷ rows) [] each below = absurd each
    own_productions_fit p (row ∷ rows) (rule ∷ rules) each below = (
      own_production_fits p row rule each.0 (All-head (IsProductionBelow g.terminals g.nonterminals) rule rules below),
      own_productions_fit (suc p) rows rules each.1 (All-tail (IsProductionBelow g.terminals g.nonterminals) rule rules below),
    )

    pub own_below : All (IsProductionBelow g.terminals g.nonterminals) (own_productions h g)
    own_below = all_from_places (IsProductionBelow g.terminals g.nonterminals) (own_productions h g) (λ i rule has.
        all_at (IsProductionBelow g.terminals g.nonterminals) g.productions
        (length h.productions + i) rule added.is_grammar.productions_below
        (at_drop g.productions (length h.productions) i rule has))

  -- one more extension
  count_next : (size : Addition → ℕ) (xs : List Addition) (k : ℕ) (x : Addition) → slice_get xs k ≡ Some x
      → count_before (map size xs) (suc k) ≡ count_before (map size xs) k + size x
  count_next size [] k x at = absurd (nothing_at x k at)
  count_next size (y ∷ []) zero x at =
      let same : y ≡ x = same_Some y x at in let e : size y ≡ size x = ap size same in omega (arith, e)
  count_next size (y ∷ z ∷ xs) zero x at =
      let same : y ≡ x = same_Some y x at in let e : size y ≡ size x = ap size same in omega (arith, e)
  count_next size (y ∷ xs) (suc k) x at = let rest = count_next size xs k x at in omega (arith, rest)

  after_fit : (xs : List Addition) (gs : List GrammarView) (k t a : ℕ)
      → ((l : ℕ) (y : Addition) → slice_get xs l ≡ Some y → slice_get all (k + l) ≡ Some y) → t ≡ count_before (map terminals_of all) k
      → a ≡ count_before (map nonterminals_of all) k → AllZip (IsAddedGrammar h) xs gs
      → AllZip IsGrammarProduction
      (joined (numbered (λ l x. numbered (own_production host all l x) (length host.productions) x.rows.productions) k xs))
      (productions_after h t a gs)
  after_fit [] [] k t a there t_is a_is each = tt
  after_fit [] (g ∷ gs) k t a there t_is a_is each = absurd each
  after_fit (x ∷ xs) [] k t a there t_is a_is each = absurd each
  after_fit (x ∷ xs) (g ∷ gs) k t a there t_is a_is each =
      let zero_is : k + 0 ≡ k = omega arith in
      let at : slice_get all k ≡ Some x = subst (λ z. slice_get all z ≡ Some x) zero_is (there 0 x refl) in
      let added = each.0 in
      let own = own_productions_fit k x at g added (length host.productions) x.rows.productions (own_productions h g) added.productions
      (own_below k x at g added) in
      let moved = subst (λ z. AllZip IsGrammarProduction (numbered (own_production host all k x)
      (length host.productions) x.rows.productions)
      (map (renamed_production (lifted_by h z (count_before (map nonterminals_of all) k) 0)) (own_productions h g))) (sym t_is) own in
      let here = subst (λ z. AllZip IsGrammarProduction (numbered (own_production host all k x)
      (length host.productions) x.rows.productions)
      (map (renamed_production (lifted_by h t z 0)) (own_productions h g))) (sym a_is) moved in
      let terminals = added.terminals in
      let nonterminals = added.nonterminals in
      let next_t : t + added_terminals h g ≡ count_before (map terminals_of all) (suc k) =
      let next = count_next terminals_of all k x at in omega (arith, t_is, next, terminals) in
      let next_a : a + added_nonterminals h g ≡ count_before (map nonterminals_of all) (suc k) =
      let next = count_next nonterminals_of all k x at in omega (arith, a_is, next, nonterminals) in
      let later : (l : ℕ) (y : Addition) → slice_get xs l ≡ Some y → slice_get all (suc k + l) ≡ Some y
      = λ l y has. let e : k + suc l ≡ suc k + l = omega arith in subst (λ z. slice_get all z ≡ Some y) e (there (suc l) y has) in
      zip_both IsGrammarProduction (numbered (own_production host all k x) (length host.productions) x.rows.productions)
      (joined (numbered (λ l x. numbered (own_production host all l x) (length host.productions) x.rows.productions) (suc k) xs))
      (map (renamed_production (lifted_by h t a 0)) (own_productions h g))
      (productions_after h (t + added_terminals h g) (a + added_nonterminals h g) gs) here
      (after_fit xs gs (suc k) (t + added_terminals h g) (a + added_nonterminals h g) later next_t next_a each.1)

  -- counts
  totals : (size : Addition → ℕ) (added : GrammarView → ℕ) → ((x : Addition) (g : GrammarView) → IsAddedGrammar h x g → added g ≡ size x)
      → (xs : List Addition) (gs : List GrammarView) → AllZip (IsAddedGrammar h) xs gs → total_of (map added gs) ≡ total_of (map size xs)
  totals size added is [] [] each = refl
  totals size added is [] (g ∷ gs) each = absurd each
  totals size added is (x ∷ xs) [] each = absurd each
  totals size added is (x ∷ xs) (g ∷ gs) each =
      let rest = totals size added is xs gs each.1 in let one = is x g each.0 in omega (arith, rest, one)

  pub is_union_grammar : (gs : List GrammarView) → AllZip (IsAddedGrammar h) all gs → IsUnionGrammar host all (union_of h gs)
  is_union_grammar gs each = record {
    terminals = let one = fit.terminals in
        let rest = totals terminals_of (added_terminals h) (λ x g a. let e = a.terminals in omega (arith, e)) all gs each in
        omega (arith, one, rest);
    nonterminals = let one = fit.nonterminals in
        let rest = totals nonterminals_of (added_nonterminals h) (λ x g a. let e = a.nonterminals in omega (arith, e)) all gs each in
        omega (arith, one, rest);
    productions = zip_both IsGrammarProduction (numbered (host_production host all) 0 host.productions)
        (joined (numbered (λ l x. numbered (own_production host all l x) (length host.productions) x.rows.productions) 0 all)) h.productions
        (productions_after h 0 0 gs)
        (host_productions_fit 0 host.productions h.productions fit.productions fit.is_grammar.productions_below)
        (after_fit all gs 0 0 0 (λ l y has. let e : 0 + l ≡ l = omega arith in subst (λ z. slice_get all z ≡ Some y) (sym e) has)
        (first_is terminals_of all) (first_is nonterminals_of all) each);
  } where
    first_is : (size : Addition → ℕ) (xs : List Addition) → 0 ≡ count_before (map size xs) 0
    first_is size [] = refl
    first_is size (x ∷ xs) = refl

pub has_union_grammar : (host : Rows) (h : GrammarView) (all : List Addition) (gs : List GrammarView) → HasUnionGrammar host h all gs
has_union_grammar host h all gs are = is_union_grammar host h all are.of_host gs are.each
