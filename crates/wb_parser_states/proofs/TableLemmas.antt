-- What tables say of states: their actions, and the states after nonterminals.
use Rattle.std.proofs.Common.{◌≡◌, ◌<◌, ◌≤◌, ℕ, List, [], ◌∷◌, ◌++◌, length, refl, sym, ◌∙◌, ap, subst, inl, inr, arith}
use Rattle.std.specs.Prelude.{Some}
use Rattle.wb_base.specs.declared.symbol.Symbol.{Symbol}
use Rattle.wb_base.specs.declared.symbol.Symbol.TheVariants.{Terminal, Nonterminal}
use Rattle.wb_base.specs.Grammar.{GrammarView}
use Rattle.wb_grammar_theory.specs.Productions.{top_of, end_of}
use Rattle.wb_grammar_theory.specs.Items.{IsViablePrefix, SameKernel, start, move, advance, start_item}
use Rattle.wb_grammar_theory.specs.Lookaheads.{CanShift, CanReduce}
use Rattle.wb_grammar_theory.proofs.KernelLemmas.{same_move, kernel_decides}
use Rattle.wb_grammar_theory.proofs.FlowLemmas.{same_then, same_back, same_itself}
use Rattle.wb_grammar_theory.proofs.ValidLemmas.{same_valid}
use Rattle.wb_items.specs.Kernels.{KernelsView, AreKernels, LeadsTo, count_of, prefix_of}
use Rattle.wb_lookahead.specs.declared.action.Action.{Action}
use Rattle.wb_lookahead.specs.declared.action.Action.TheVariants as act
use Rattle.wb_lookahead.specs.declared.action.Action.TheVariants.{Shift, Reduce, Accept}
use Rattle.wb_lookahead.specs.Contents.{TablesView, size_of, action_of, goto_of}
use Rattle.wb_lookahead.specs.Tables.{AreTables, IsAction}
use Rattle.wb_scan_theory.specs.Parts.{AreTablesOf, IsPrefixOf}
use Rattle.wb_scan_theory.proofs.FactLemmas.{shift_at, reduce_at}

-- an action of the tables, at a prefix of its state
abbrev pub ActsAt : GrammarView → TablesView → List Symbol → ℕ → Action → Type 0
ActsAt g tables prefix t (Shift n) = CanShift g prefix t × IsPrefixOf g tables n (prefix ++ Terminal t ∷ []) × (n < size_of tables)
ActsAt g tables prefix t (Reduce p) = (p < length g.productions) × CanReduce g prefix p t
ActsAt g tables prefix t Accept = CanReduce g prefix (top_of g) t
ActsAt g tables prefix t act.None = (CanShift g prefix t → ⊥) × ((p : ℕ) → CanReduce g prefix p t → ⊥)

-- with the kernels' own grammar
own : {tables : TablesView} {s : ℕ} {prefix : List Symbol} (kernels : KernelsView) → AreKernels kernels → AreTables kernels tables →
    s < count_of kernels → IsViablePrefix kernels.grammar prefix → SameKernel kernels.grammar (prefix_of kernels s) prefix →
    IsPrefixOf kernels.grammar tables s prefix
own kernels ok are within viable kernel = record {
  numbered = record { kernels = kernels; are_kernels = ok; same = refl; are_tables = are };
  within = within;
  viable = viable;
  kernel = kernel;
}

moved : {tables : TablesView} {s n : ℕ} {prefix : List Symbol} (kernels : KernelsView) → AreKernels kernels → AreTables kernels tables →
    SameKernel kernels.grammar (prefix_of kernels s) prefix → (x : Symbol) → LeadsTo kernels s x n →
    IsViablePrefix kernels.grammar (prefix ++ x ∷ []) → IsPrefixOf kernels.grammar tables n (prefix ++ x ∷ [])
moved {s = s} {n} {prefix} kernels ok are same x leads viable =
    own kernels ok are leads.1 viable
    (same_then leads.3 (same_move ok.live (prefix_of kernels s) prefix x same))

act_at : {tables : TablesView} {s : ℕ} {prefix : List Symbol} (kernels : KernelsView) → AreKernels kernels → AreTables kernels tables →
    s < count_of kernels → SameKernel kernels.grammar (prefix_of kernels s) prefix → (t : ℕ) → (action : Action) →
    IsAction kernels s t action → ActsAt kernels.grammar tables prefix t action
act_at {tables} {s} {prefix} kernels ok are within same t (Shift n) is =
    let (can, leads) = is.stands (λ e. cc) in
    let here = shift_at ok.live (prefix_of kernels s) prefix same t can in
    (here, moved kernels ok are same (Terminal t) leads (shifted kernels.grammar prefix t here), subst (λ z. n < z) (sym are.count) leads.1)
  where
    shifted : (g : GrammarView) (prefix : List Symbol) (t : ℕ) → CanShift g prefix t → IsViablePrefix g (prefix ++ Terminal t ∷ [])
    shifted g prefix t can = (advance can.item, can.has.0, move can.item (Terminal t) can.rest prefix can.has.1 can.before_dot refl refl)
act_at {s = s} {prefix} kernels ok are within same t (Reduce p) is =
    let (lt, can) = is.stands (λ e. cc) in (lt, reduce_at ok.live (prefix_of kernels s) prefix same p t can)
act_at {s = s} {prefix} kernels ok are within same t Accept is =
    reduce_at ok.live (prefix_of kernels s) prefix same (top_of kernels.grammar) t (is.stands (λ e. cc))
act_at {s = s} {prefix} kernels ok are within same t act.None is =
    let there = same_valid kernels.grammar ok.live (prefix_of kernels s) prefix same t in
    (λ can. is.none.0 refl (there.1 (inl can)), λ p can. is.none.0 refl (there.1 (inr (p, can))))

-- the action of a state is that of each prefix that it stands for
pub acts_at : {g : GrammarView} {tables : TablesView} {s : ℕ} {prefix : List Symbol} → IsPrefixOf g tables s prefix → (t : ℕ) →
    t ≤ g.terminals → ActsAt g tables prefix t (action_of tables s t)
acts_at {g} {tables} {s} {prefix} at t le =
    subst (λ (h : GrammarView). SameKernel h (prefix_of at.numbered.kernels s) prefix → t ≤ h.terminals →
    ActsAt h tables prefix t (action_of tables s t)) at.numbered.same
    (λ same le'. act_at at.numbered.kernels at.numbered.are_kernels at.numbered.are_tables at.within same t (action_of tables s t)
    (at.numbered.are_tables.actions s t at.within le')) at.kernel le

-- the state after a nonterminal stands for the prefix with the nonterminal after it
pub goto_at : {g : GrammarView} {tables : TablesView} {s : ℕ} {prefix : List Symbol} → IsPrefixOf g tables s prefix → (b : ℕ) →
    b < g.nonterminals → IsViablePrefix g (prefix ++ Nonterminal b ∷ []) →
    (n : ℕ) × (goto_of tables s b ≡ Some n) × IsPrefixOf g tables n (prefix ++ Nonterminal b ∷ [])
goto_at {g} {tables} {s} {prefix} at b lt viable =
    subst (λ (h : GrammarView). SameKernel h (prefix_of at.numbered.kernels s) prefix → b < h.nonterminals →
    IsViablePrefix h (prefix ++ Nonterminal b ∷ []) →
    (n : ℕ) × (goto_of tables s b ≡ Some n) × IsPrefixOf h tables n (prefix ++ Nonterminal b ∷ [])) at.numbered.same
    (λ same lt' viable'. go at.numbered.kernels at.numbered.are_kernels at.numbered.are_tables at.within same lt' viable') at.kernel lt
    viable
  where
    go : (kernels : KernelsView) → AreKernels kernels → AreTables kernels tables → s < count_of kernels →
        SameKernel kernels.grammar (prefix_of kernels s) prefix → b < kernels.grammar.nonterminals →
        IsViablePrefix kernels.grammar (prefix ++ Nonterminal b ∷ []) →
        (n : ℕ) × (goto_of tables s b ≡ Some n) × IsPrefixOf kernels.grammar tables n (prefix ++ Nonterminal b ∷ [])
    go kernels ok are within same lt' viable' =
        let (n, below, there) = ok.states.all (prefix ++ Nonterminal b ∷ []) viable' in
        let back : SameKernel kernels.grammar (prefix ++ Nonterminal b ∷ []) (prefix_of kernels s ++ Nonterminal b ∷ []) =
        same_move ok.live prefix (prefix_of kernels s) (Nonterminal b) (same_back same) in
        let has : IsViablePrefix kernels.grammar (prefix_of kernels s ++ Nonterminal b ∷ []) =
        viable_there kernels ok s prefix same (Nonterminal b) viable' in
        let leads : LeadsTo kernels s (Nonterminal b) n = (within, below, has, same_then there back) in
        (n, ((are.gotos s b within lt').some n).1 leads, own kernels ok are below viable' there)
      where
        viable_there : (kernels : KernelsView) → AreKernels kernels → (s : ℕ) (prefix : List Symbol) →
            SameKernel kernels.grammar (prefix_of kernels s) prefix → (x : Symbol) → IsViablePrefix kernels.grammar (prefix ++ x ∷ []) →
            IsViablePrefix kernels.grammar (prefix_of kernels s ++ x ∷ [])
        viable_there kernels ok s prefix same x (item, u, v) =
            let has = kernel_decides ok.live v (prefix_of kernels s ++ x ∷ [])
            (same_move ok.live prefix (prefix_of kernels s) x (same_back same)) in
            (item, has.0, has.1)

-- the state 0 stands for the empty prefix
pub start_at : {g : GrammarView} {tables : TablesView} → AreTablesOf g tables → IsPrefixOf g tables 0 []
start_at {g} {tables} of =
    subst (λ (h : GrammarView). IsPrefixOf h tables 0 []) of.same (go of.kernels of.are_kernels of.are_tables)
  where
    go : (kernels : KernelsView) → AreKernels kernels → AreTables kernels tables → IsPrefixOf kernels.grammar tables 0 []
    go kernels ok are =
        let empty : IsViablePrefix kernels.grammar [] = (start_item kernels.grammar, end_of kernels.grammar, start) in
        let (s, below, same) = ok.states.all [] empty in
        own kernels ok are (omega arith) empty
        (subst (λ z. SameKernel kernels.grammar z []) (sym ok.states.first) (λ i. (λ h. h, λ h. h)))

-- each state has a prefix
pub prefix_at : {g : GrammarView} {tables : TablesView} → AreTablesOf g tables → (s : ℕ) → s < size_of tables →
    (prefix : List Symbol) × IsPrefixOf g tables s prefix
prefix_at {g} {tables} of s lt =
    subst (λ (h : GrammarView). (prefix : List Symbol) × IsPrefixOf h tables s prefix) of.same (
      prefix_of of.kernels s,
      own of.kernels of.are_kernels of.are_tables within (of.are_kernels.states.prefixes s within)
          (same_itself of.kernels.grammar (prefix_of of.kernels s)),
    )
  where
    within : s < count_of of.kernels
    within = let e : size_of tables ≡ count_of of.kernels = of.are_tables.count in omega arith

pub zero_below : {g : GrammarView} {tables : TablesView} → AreTablesOf g tables → 0 < size_of tables
zero_below of =
    let within = (start_at of).within in
    let e = (start_at of).numbered.are_tables.count in omega arith

-- an action names a state or a production that there is
abbrev pub IsActionBelow : GrammarView → TablesView → Action → Type 0
IsActionBelow g tables (Shift n) = n < size_of tables
IsActionBelow g tables (Reduce p) = p < length g.productions
IsActionBelow g tables Accept = Unit {0}
IsActionBelow g tables act.None = Unit {0}

pub action_below : {g : GrammarView} {tables : TablesView} → AreTablesOf g tables → (s t : ℕ) → s < size_of tables → t ≤ g.terminals →
    IsActionBelow g tables (action_of tables s t)
action_below {g} {tables} of s t lt le =
    let (prefix, at) = prefix_at of s lt in below prefix (action_of tables s t) (acts_at at t le)
  where
    below : (prefix : List Symbol) (action : Action) → ActsAt g tables prefix t action → IsActionBelow g tables action
    below prefix (Shift n) acts = acts.2
    below prefix (Reduce p) acts = acts.0
    below prefix Accept acts = tt
    below prefix act.None acts = tt

pub goto_below : {g : GrammarView} {tables : TablesView} → AreTablesOf g tables → (s b n : ℕ) → s < size_of tables → b < g.nonterminals →
    goto_of tables s b ≡ Some n → n < size_of tables
goto_below {g} {tables} of s b n lt lt' is =
    let e : size_of tables ≡ count_of of.kernels = of.are_tables.count in
    let f : of.kernels.grammar.nonterminals ≡ g.nonterminals = ap (λ (h : GrammarView). h.nonterminals) of.same in
    let leads = ((of.are_tables.gotos s b (omega arith) (omega arith)).some n).0 is in
    let within : n < count_of of.kernels = leads.1 in omega arith

-- tables have as many nonterminals and terminals as the grammar
pub nonterminals_of : {g : GrammarView} {tables : TablesView} → AreTablesOf g tables → tables.nonterminals ≡ g.nonterminals
nonterminals_of of = of.are_tables.nonterminals ∙ ap (λ (h : GrammarView). h.nonterminals) of.same

pub terminals_of : {g : GrammarView} {tables : TablesView} → AreTablesOf g tables → tables.terminals ≡ g.terminals
terminals_of of = of.are_tables.terminals ∙ ap (λ (h : GrammarView). h.terminals) of.same
