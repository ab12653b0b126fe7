-- What tables say of the prefixes that a state stands for.
use Rattle.std.proofs.Common.{◌≡◌, ◌≢◌, ◌+◌, ◌∙◌, ◌<◌, ◌≤◌, ◌⊎◌, ℕ, Bool, List, [], ◌∷◌, Contains, refl, sym, subst, ap, inl, inr, arith}
use Rattle.std.specs.Prelude.{◌↔◌, true, false, slice_get, slice_index_or, Option, Some, None, length}
use Rattle.std.proofs.lemmas.Bool.{cases_Bool, cases_eq, cases_order}
use Rattle.wb_lemmas.proofs.Members.{contains_first, contains_later, contains_cases, nothing_in}
use Rattle.wb_base.specs.declared.symbol.Symbol.{Symbol}
use Rattle.wb_base.specs.Grammar.{GrammarView, IsGrammar}
use Rattle.wb_termset.specs.Sets.{IsMember}
use Rattle.wb_grammar_theory.specs.declared.item.Item.{Item}
use Rattle.wb_grammar_theory.specs.Items.{IsViablePrefix, HasItem, IsKernelItem, SameKernel}
use Rattle.wb_grammar_theory.specs.Productions.{top_of}
use Rattle.wb_grammar_theory.specs.Shape.{IsLive}
use Rattle.wb_grammar_theory.specs.Lookaheads.{IsValidTerminal}
use Rattle.wb_grammar_theory.proofs.FlowLemmas.{same_itself, same_back}
use Rattle.wb_grammar_theory.proofs.ValidLemmas.{same_valid}
use Rattle.wb_items.specs.Kernels.{KernelsView, AreKernels, count_of, closure_of, prefix_of}
use Rattle.wb_automata.specs.Automata.{IsConsidered}
use Rattle.wb_lookahead.specs.Contents.{TablesView, valid_of}
use Rattle.wb_lookahead.specs.Tables.{AreTables}
use Rattle.wb_scan_theory.specs.declared.form.Form.{Form}
use Rattle.wb_scan_theory.specs.Languages.{LanguageView, IsLayout, span_at}
use Rattle.wb_scan_theory.specs.Winners.{HoldsOne, IsConsideredForm, valid, layout}
use Rattle.wb_scan_theory.specs.Facts.{IsWritten}
use Rattle.wb_scan_theory.specs.Parts.{AreTablesOf, IsPrefixOf}
use Rattle.wb_scan_theory.proofs.NumberingLemmas.{kernels_by, kernels_of, same_state}

valid_there : (kernels : KernelsView) → AreKernels kernels → {tables : TablesView} → AreTables kernels tables → (s : ℕ) →
    s < count_of kernels → (prefix : List Symbol) → SameKernel kernels.grammar (prefix_of kernels s) prefix → (t : ℕ) →
    t ≤ kernels.grammar.terminals → IsMember (valid_of tables s) t ↔ IsValidTerminal kernels.grammar prefix t
valid_there kernels ok are s lt prefix same t le =
    let set = (are.valid s lt).each t le in
    let moved = same_valid kernels.grammar ok.live (prefix_of kernels s) prefix same t in
    (λ m. moved.0 (set.0 m), λ v. set.1 (moved.1 v))

-- the valid set of a state has the terminals that are valid at its prefixes
pub valid_at : {g : GrammarView} {tables : TablesView} {s : ℕ} {prefix : List Symbol} → IsPrefixOf g tables s prefix → (t : ℕ) →
    t ≤ g.terminals → IsMember (valid_of tables s) t ↔ IsValidTerminal g prefix t
valid_at {g} {tables} {s} {prefix} at t le =
    subst (λ (h : GrammarView). SameKernel h (prefix_of at.numbered.kernels s) prefix → t ≤ h.terminals →
    IsMember (valid_of tables s) t ↔ IsValidTerminal h prefix t) at.numbered.same
    (λ same le. valid_there at.numbered.kernels at.numbered.are_kernels at.numbered.are_tables s at.within prefix same t le) at.kernel le

-- each viable prefix is one of a state
pub state_of : {g : GrammarView} {tables : TablesView} → AreTablesOf g tables → (prefix : List Symbol) → IsViablePrefix g prefix →
    (s : ℕ) × IsPrefixOf g tables s prefix
state_of {g} {tables} tables_of prefix viable =
    let (s, lt, same) = found in (
      s,
      record {
        numbered = tables_of;
        within = lt;
        viable = viable;
        kernel = subst (λ (h : GrammarView).
            SameKernel h (prefix_of tables_of.kernels s) prefix) tables_of.same same;
      },
    )
  where
    found : (s : ℕ) × (s < count_of tables_of.kernels) × SameKernel tables_of.kernels.grammar (prefix_of tables_of.kernels s) prefix
    found = tables_of.are_kernels.states.all prefix (subst (λ (h : GrammarView). IsViablePrefix h prefix) (sym tables_of.same) viable)

-- a kernel that holds an item of these productions does so at each prefix that has it
pub holds_same : {g : GrammarView} {prefix other : List Symbol} → SameKernel g prefix other → (span : Option (ℕ × ℕ)) →
    HoldsOne g prefix span → HoldsOne g other span
holds_same same None holds = tt
holds_same same (Some span) (item, has, from, to) = (item, (same item).0 has, from, to)

-- what is considered at a prefix is considered at each that has the same kernel
pub considered_same : {l : LanguageView} {prefix other : List Symbol} → IsLive l.grammar → SameKernel l.grammar prefix other → (p : ℕ) →
    IsConsideredForm l prefix p → IsConsideredForm l other p
considered_same {l} {prefix} {other} live same p (valid form is v) =
    valid form is ((same_valid l.grammar live prefix other same form.terminal).0 v)
considered_same {l} live same p (layout is holds) = layout is (holds_same same (span_at l p) holds)

-- what is considered at one prefix of a state is considered at each other
pub considered_at : {l : LanguageView} {tables : TablesView} {s : ℕ} {prefix other : List Symbol} → IsGrammar l.grammar →
    IsPrefixOf l.grammar tables s prefix → IsPrefixOf l.grammar tables s other → (p : ℕ) →
    IsConsideredForm l prefix p ↔ IsConsideredForm l other p
considered_at {l} {tables} {s} {prefix} {other} ok one two p =
    let live = (kernels_of one.numbered).live in
    let same = same_state ok one two in
    (considered_same live same p, considered_same live (same_back same) p)

-- what is considered at each state by one numbering is considered at all prefixes of the state
pub sets_everywhere : (l : LanguageView) (tables : TablesView) (sets : List (List Bool)) → IsGrammar l.grammar →
    (n : AreTablesOf l.grammar tables) → ((s p : ℕ) → s < count_of n.kernels →
    IsConsidered sets s p ↔ IsConsideredForm l (prefix_of n.kernels s) p) → (s p : ℕ) (prefix : List Symbol) →
    IsPrefixOf l.grammar tables s prefix → IsConsidered sets s p ↔ IsConsideredForm l prefix p
sets_everywhere l tables sets ok n each s p prefix at =
    let a = at.numbered.are_tables.count in
    let b = n.are_tables.count in
    let lt : s < count_of n.kernels = omega (arith, at.within, a, b) in
    let here : IsPrefixOf l.grammar tables s (prefix_of n.kernels s) = record {
      numbered = n;
      within = lt;
      viable = (kernels_of n).states.prefixes s lt;
      kernel = same_itself l.grammar (prefix_of n.kernels s);
    } in
    let same = considered_at ok here at p in
    (λ is. same.0 ((each s p lt).0 is), λ is. (each s p lt).1 (same.1 is))

-- a number is at most another, or the other is below it
at_most : (m n : ℕ) → (m ≤ n) ⊎ (n < m)
at_most m n = elim (cases_order m n) [
  | inl same ↦ inl (omega arith)
  | inr (inl less) ↦ inl (omega arith)
  | inr (inr more) ↦ inr (omega arith)
]

-- some member of a list is so, or none is
listed_decided : {X : Type 0} (P : X → Type 0) → (xs : List X) → ((x : X) → Contains xs x → P x ⊎ (P x → ⊥)) →
    ((x : X) × Contains xs x × P x) ⊎ ((x : X) → Contains xs x → P x → ⊥)
listed_decided P [] decides = inr (λ x has. absurd (nothing_in x has))
listed_decided P (y ∷ ys) decides =
    elim (decides y (contains_first y ys)) [
      | inl is ↦ inl (y, contains_first y ys, is)
      | inr out ↦ elim (listed_decided P ys (λ x has. decides x (contains_later y x ys has))) [
        | inl (x, has, is) ↦ inl (x, contains_later y x ys has, is)
        | inr none_of ↦ inr (λ x has is. elim (contains_cases y x ys has) [
          | inl same ↦ out (subst P (sym same) is)
          | inr later ↦ none_of x later is
        ])
      ]
    ]

-- whether an item of a prefix is in its kernel is decided
kernel_decided : (g : GrammarView) (prefix : List Symbol) (item : Item) → HasItem g prefix item →
    IsKernelItem g prefix item ⊎ (IsKernelItem g prefix item → ⊥)
kernel_decided g prefix item has = elim (cases_eq item.dot 0) [
  | inr ne ↦ inl (has, inl ne)
  | inl zero_is ↦ at_first prefix (cases_eq item.production (top_of g)) zero_is has
]
  where
    at_first : (w : List Symbol) → (item.production ≡ top_of g) ⊎ (item.production ≢ top_of g) → item.dot ≡ 0 → HasItem g w item →
        IsKernelItem g w item ⊎ (IsKernelItem g w item → ⊥)
    at_first [] (inl top) zero_is has =
        inl (has, inr ((λ j. record { production = top j; dot = zero_is j }), refl))
    at_first (x ∷ w) (inl top) zero_is has = inr (λ h. elim (h.1) [ inl ne ↦ ne zero_is | inr (is, empty) ↦ absurd (cc empty) ])
    at_first w (inr other) zero_is has =
        inr (λ h. elim (h.1) [ inl ne ↦ ne zero_is | inr (is, empty) ↦ other (ap (λ (z : Item). z.production) is) ])

-- the item is in the kernel of the prefix, and of one of these productions
abbrev InSpan : GrammarView → ℕ × ℕ → List Symbol → Item → Type 0
InSpan g span prefix item = IsKernelItem g prefix item × (span.0 ≤ item.production) × (item.production < span.1)

-- whether it is is decided
span_decided : (g : GrammarView) (span : ℕ × ℕ) (prefix : List Symbol) (item : Item) → HasItem g prefix item →
    InSpan g span prefix item ⊎ (InSpan g span prefix item → ⊥)
span_decided g span prefix item has =
    by (kernel_decided g prefix item has) (at_most span.0 item.production) (at_most span.1 item.production)
  where
    by : IsKernelItem g prefix item ⊎ (IsKernelItem g prefix item → ⊥) → (span.0 ≤ item.production) ⊎ (item.production < span.0) →
        (span.1 ≤ item.production) ⊎ (item.production < span.1) → InSpan g span prefix item ⊎ (InSpan g span prefix item → ⊥)
    by (inr out) low high = inr (λ (h : InSpan g span prefix item). out h.0)
    by (inl is) (inr less) high = inr (λ (h : InSpan g span prefix item). (let le = h.1 in absurd (omega (arith, less, le))))
    by (inl is) (inl from) (inl more) = inr (λ (h : InSpan g span prefix item). (let lt = h.2 in absurd (omega (arith, more, lt))))
    by (inl is) (inl from) (inr to) = inl (is, from, to)

-- whether the kernel of a viable prefix holds an item of some productions is decided
holds_decided : {g : GrammarView} {tables : TablesView} → AreTablesOf g tables → (prefix : List Symbol) → IsViablePrefix g prefix →
    (span : Option (ℕ × ℕ)) → HoldsOne g prefix span ⊎ (HoldsOne g prefix span → ⊥)
holds_decided n prefix viable None = inl tt
holds_decided {g} {tables} n prefix viable (Some span) =
    let (s, at) = state_of n prefix viable in
    let kernels = kernels_of at.numbered in
    let k = kernels_by at.numbered.kernels g in
    let lists = kernels.closures s at.within in
    elim (listed_decided (InSpan g span (prefix_of k s)) (closure_of k s)
    (λ item has. span_decided g span (prefix_of k s) item ((lists item).0 has))) [
      | inl (item, has, inside) ↦ inl (holds_same at.kernel (Some span) (item, inside.0, inside.1, inside.2))
      | inr out ↦ inr (λ (holds : HoldsOne g prefix (Some span)).
          (let (item, is, from, to) = holds_same (same_back at.kernel) (Some span) holds in
          out item ((lists item).1 (is.0)) (is, from, to)))
    ]

layout_decided : (l : LanguageView) (p : ℕ) → IsLayout l p ⊎ (IsLayout l p → ⊥)
layout_decided l p = elim (cases_order p (length l.forms)) [
  | inr (inl lt) ↦ inr (λ h. (let le : length l.forms ≤ p = h.0 in omega arith))
  | inl e ↦ upper (omega arith)
  | inr (inr gt) ↦ upper (omega arith)
]
  where
    upper : length l.forms ≤ p → IsLayout l p ⊎ (IsLayout l p → ⊥)
    upper le = elim (cases_order p (length l.forms + length l.layout)) [
      | inr (inl lt) ↦ inl (le, lt)
      | inl e ↦ inr (λ h. (let lt : p < length l.forms + length l.layout = h.1 in omega arith))
      | inr (inr gt) ↦ inr (λ h. (let lt : p < length l.forms + length l.layout = h.1 in omega arith))
    ]

-- what is considered at a prefix is decided
pub considers : {l : LanguageView} {tables : TablesView} → IsWritten l → AreTablesOf l.grammar tables → (prefix : List Symbol) →
    IsViablePrefix l.grammar prefix → (p : ℕ) → IsConsideredForm l prefix p ⊎ (IsConsideredForm l prefix p → ⊥)
considers {l} {tables} written tables_of prefix viable p =
    by (layout_decided l p) (holds_decided tables_of prefix viable (span_at l p)) (slice_get l.forms p) refl
  where
    only : (IsLayout l p → HoldsOne l.grammar prefix (span_at l p) → ⊥) →
        ((form : Form) → slice_get l.forms p ≡ Some form → IsValidTerminal l.grammar prefix form.terminal → ⊥) →
        IsConsideredForm l prefix p → ⊥
    only out no_form (valid form is v) = no_form form is v
    only out no_form (layout is holds) = out is holds

    by_form : (IsLayout l p → HoldsOne l.grammar prefix (span_at l p) → ⊥) → (o : Option Form) → slice_get l.forms p ≡ o →
        IsConsideredForm l prefix p ⊎ (IsConsideredForm l prefix p → ⊥)
    by_form out None is = inr (only out (λ form at v. (let e : None ≡ Some form = sym is ∙ at in cc)))
    by_form out (Some form) is =
        let (s, at) = state_of tables_of prefix viable in
        let below = written.forms_below p form is in
        let same = valid_at at form.terminal (omega arith) in
        elim (cases_Bool (slice_index_or (valid_of tables s) form.terminal false)) [
          | inl yes_is ↦ inl (valid form is (same.0 yes_is))
          | inr no_is ↦ inr (only out (λ other there v.
              (let e : Some other ≡ Some form = sym there ∙ is in
              let equal : other ≡ form = cc in
              let it : slice_index_or (valid_of tables s) form.terminal false ≡ true =
              same.1 (subst (λ (z : Form). IsValidTerminal l.grammar prefix z.terminal) equal v) in cc)))
        ]

    by : IsLayout l p ⊎ (IsLayout l p → ⊥) → HoldsOne l.grammar prefix (span_at l p) ⊎ (HoldsOne l.grammar prefix (span_at l p) → ⊥) →
        (o : Option Form) → slice_get l.forms p ≡ o → IsConsideredForm l prefix p ⊎ (IsConsideredForm l prefix p → ⊥)
    by (inl is) (inl holds) o at = inl (layout is holds)
    by (inl is) (inr out) o at = by_form (λ is holds. out holds) o at
    by (inr out) holds o at = by_form (λ is holds. out is) o at
