-- A state stands for one kernel, whichever numbering of kernels the tables are read with; and a kernel tells the last symbol.
use Rattle.std.proofs.Common.{◌≡◌, ◌≢◌, ◌<◌, ◌≤◌, ◌+◌, ℕ, List, [], ◌∷◌, ◌++◌, refl, sym, ◌∙◌, ap, subst, inl}
use Rattle.std.proofs.Common.{arith}
use Rattle.std.specs.Prelude.{Some}
use Rattle.std.proofs.lemmas.List.Elements.{All-head, All-same}
use Rattle.std.proofs.lemmas.Option.{same_Some}
use Rattle.wb_base.specs.declared.symbol.Symbol.{Symbol}
use Rattle.wb_base.specs.declared.symbol.Symbol.TheVariants.{Terminal, Nonterminal}
use Rattle.wb_base.specs.Grammar.{GrammarView, IsGrammar, IsSymbolBelow}
use Rattle.wb_grammar_theory.specs.declared.item.Item.{Item}
use Rattle.wb_grammar_theory.specs.Items.{after_dot, advance, IsValidItem, start, close, move}
use Rattle.wb_grammar_theory.specs.Items.{HasItem, IsKernelItem, IsViablePrefix, SameKernel}
use Rattle.wb_grammar_theory.specs.Shape.{IsLive}
use Rattle.wb_grammar_theory.specs.States.{IsNext}
use Rattle.wb_grammar_theory.specs.Trees.{Forest, nothing, leaf, node, symbols}
use Rattle.wb_grammar_theory.specs.Lookaheads.{CanShift}
use Rattle.wb_grammar_theory.proofs.KernelLemmas.{kernel_decides, moved_from, same_move, snoc_not_nil}
use Rattle.wb_grammar_theory.proofs.FlowLemmas.{same_back, same_then}
use Rattle.wb_grammar_theory.proofs.LiveLemmas.{after_below}
use Rattle.wb_items.specs.Kernels.{KernelsView, AreKernels, count_of, prefix_of}
use Rattle.wb_lookahead.specs.declared.action.Action.TheVariants.{Shift}
use Rattle.wb_lookahead.specs.Contents.{TablesView, action_of, goto_of}
use Rattle.wb_lookahead.specs.Tables.{AreTables}
use Rattle.wb_scan_theory.specs.Parts.{AreTablesOf, IsPrefixOf}
use Rattle.wb_parser_states.specs.Stacks.{AreStates as AreStackStates}

-- what a numbering of kernels and the tables say of each other
record Numbered (g : GrammarView) (tables : TablesView) (count : ℕ) (prefix_at : ℕ → List Symbol) : Type 0 where
  live : IsLive g
  zero_is : prefix_at 0 ≡ []
  each_once : (s s' : ℕ) → s < count → s' < count → SameKernel g (prefix_at s) (prefix_at s') → s ≡ s'
  every : (prefix : List Symbol) → IsViablePrefix g prefix → (s : ℕ) × (s < count) × SameKernel g (prefix_at s) prefix
  shift_is : (s t n : ℕ) → s < count → t ≤ g.terminals → CanShift g (prefix_at s) t → IsNext g count prefix_at s (Terminal t) n →
      action_of tables s t ≡ Shift n
  goto_is : (s b n : ℕ) → s < count → b < g.nonterminals → IsNext g count prefix_at s (Nonterminal b) n → goto_of tables s b ≡ Some n

numbered : {g : GrammarView} {tables : TablesView} (of : AreTablesOf g tables) →
    Numbered g tables (count_of of.kernels) (prefix_of of.kernels)
numbered {g} {tables} of =
    subst (λ (h : GrammarView). Numbered h tables (count_of of.kernels) (prefix_of of.kernels)) of.same
    (own of.kernels of.are_kernels of.are_tables)
  where
    own : (kernels : KernelsView) → AreKernels kernels → AreTables kernels tables →
        Numbered kernels.grammar tables (count_of kernels) (prefix_of kernels)
    own kernels ok are = record {
      live = ok.live;
      zero_is = ok.states.first;
      each_once = ok.states.each_once;
      every = ok.states.all;
      shift_is = λ s t n lt le can next. sym ((are.actions s t lt le).only (Shift n) (can, next));
      goto_is = λ s b n lt less next. ((are.gotos s b lt less).some n).1 next;
    }

-- the symbol after a dot is one of the grammar
module _ {g : GrammarView} (ok : IsGrammar g) where
  symbol_below : (item : Item) (x : Symbol) (rest : List Symbol) → after_dot g item ≡ x ∷ rest → IsSymbolBelow g.terminals g.nonterminals x
  symbol_below item x rest is = All-head (IsSymbolBelow g.terminals g.nonterminals) x rest
      (All-same (IsSymbolBelow g.terminals g.nonterminals) (x ∷ rest) (after_dot g item) (sym is) (after_below g ok item))

  -- where a symbol leads, by the tables alone
  leads_once : {tables : TablesView} {count count' : ℕ} {prefix_at prefix_at' : ℕ → List Symbol} →
      Numbered g tables count prefix_at → Numbered g tables count' prefix_at' → (s : ℕ) → s < count → s < count' → (x : Symbol) (n n' : ℕ) →
      IsSymbolBelow g.terminals g.nonterminals x → ((one : Item) × (rest : List Symbol) × HasItem g (prefix_at s) one ×
      (after_dot g one ≡ x ∷ rest)) → ((one : Item) × (rest : List Symbol) × HasItem g (prefix_at' s) one × (after_dot g one ≡ x ∷ rest)) →
      IsNext g count prefix_at s x n → IsNext g count' prefix_at' s x n' → n ≡ n'
  leads_once {tables} k k' s lt lt' (Terminal t) n n' below (one, rest, has, is) (one', rest', has', is') next next' =
      let a = k.shift_is s t n lt (let h : t < g.terminals = below in omega arith)
      (record { item = one; rest = rest; has = has; before_dot = is }) next in
      let b = k'.shift_is s t n' lt' (let h : t < g.terminals = below in omega arith)
      (record { item = one'; rest = rest'; has = has'; before_dot = is' }) next' in
      let h : Shift n ≡ Shift n' = sym a ∙ b in cc
  leads_once {tables} k k' s lt lt' (Nonterminal b) n n' below one one' next next' =
      same_Some n n' (sym (k.goto_is s b n lt below next) ∙ k'.goto_is s b n' lt' below next')

  module _ {tables : TablesView} {count count' : ℕ} {prefix_at prefix_at' : ℕ → List Symbol} (k : Numbered g tables count prefix_at)
      (k' : Numbered g tables count' prefix_at') where
    zero_once : {c : ℕ} {at : ℕ → List Symbol} → Numbered g tables c at → (s : ℕ) → s < c → SameKernel g (at s) [] → s ≡ 0
    zero_once {c} {at} n s lt same = n.each_once s 0 lt (omega arith) (subst (λ z. SameKernel g (at s) z) (sym n.zero_is) same)

    -- a kernel has one number
    number_once : {prefix : List Symbol} {item : Item} {t : ℕ} → IsValidItem g prefix item t → (s s' : ℕ) → s < count → s' < count' →
        SameKernel g (prefix_at s) prefix → SameKernel g (prefix_at' s') prefix → s ≡ s'
    number_once start s s' lt lt' same same' = zero_once k s lt same ∙ sym (zero_once k' s' lt' same')
    number_once (close item t b rest q u right v is rule first) s s' lt lt' same same' = number_once v s s' lt lt' same same'
    number_once (move item x rest prefix {t} {longer} {moved} v is longer_is moved_is) s s' lt lt' same same' =
        let (n, below, here) = k.every prefix (item, t, v) in
        let (n', below', here') = k'.every prefix (item, t, v) in
        let e : n ≡ n' = number_once v n n' below below' here here' in
        let back : SameKernel g prefix (prefix_at n) = same_back here in
        let back' : SameKernel g prefix (prefix_at' n') = same_back here' in
        let has = kernel_decides k.live v (prefix_at n) back in
        let has' = kernel_decides k.live v (prefix_at' n') back' in
        let same_longer : SameKernel g (prefix_at s) (prefix ++ x ∷ []) = subst (SameKernel g (prefix_at s)) longer_is same in
        let same_longer' : SameKernel g (prefix_at' s') (prefix ++ x ∷ []) = subst (SameKernel g (prefix_at' s')) longer_is same' in
        let leads : IsNext g count prefix_at n x s = (
          below,
          lt,
          (moved, has.0, move item x rest (prefix_at n) has.1 is refl moved_is),
          same_then same_longer (same_move k.live prefix (prefix_at n) x back),
        ) in
        let leads' : IsNext g count' prefix_at' n' x s' = (
          below',
          lt',
          (moved, has'.0, move item x rest (prefix_at' n') has'.1 is refl moved_is),
          same_then same_longer' (same_move k.live prefix (prefix_at' n') x back'),
        ) in
        leads_once k k' n below (subst (λ z. z < count') (sym e) below') x s s' (symbol_below item x rest is) (item, rest, has, is)
        (subst (λ z. (one : Item) × (rest : List Symbol) × HasItem g (prefix_at' z) one × (after_dot g one ≡ x ∷ rest)) (sym e)
        (item, rest, has', is))
        leads (subst (λ z. IsNext g count' prefix_at' z x s') (sym e) leads')

  -- all prefixes of a state have one kernel
  pub state_kernel : {tables : TablesView} {s : ℕ} {prefix other : List Symbol} → IsPrefixOf g tables s prefix →
      IsPrefixOf g tables s other →
      SameKernel g prefix other
  state_kernel {tables} {s} {prefix} {other} p q =
      let k = numbered p.numbered in
      let k' = numbered q.numbered in
      let (m, below, here) = k.every other q.viable in
      let there : SameKernel g (prefix_of q.numbered.kernels s) other = q.kernel in
      let e : m ≡ s = number_once k k' q.viable.2 m s below q.within here there in
      same_then (same_back p.kernel) (subst (λ z. SameKernel g (prefix_of p.numbered.kernels z) other) e here)

-- a prefix with a last symbol has an item that moved over it
has_moved : {g : GrammarView} {longer : List Symbol} {item : Item} {t : ℕ} → IsValidItem g longer item t →
    (prefix : List Symbol) (x : Symbol) →
    longer ≡ prefix ++ x ∷ [] → (moved : Item) × IsKernelItem g longer moved × (moved.dot ≢ 0)
has_moved start prefix x e = absurd (snoc_not_nil prefix x (sym e))
has_moved (close item t b rest q u right v is rule first) prefix x e = has_moved v prefix x e
has_moved {g} (move item y rest shorter {t} {longer} {moved} v is longer_is moved_is) prefix x e =
    (moved, ((t, move item y rest shorter v is longer_is moved_is), inl some), some)
  where
    some : moved.dot ≢ 0
    some z = let f : moved.dot ≡ item.dot + 1 = ap (λ i. i.dot) moved_is in omega arith

-- the same kernel, the same last symbol
pub kernel_symbol : {g : GrammarView} (prefix other : List Symbol) (x y : Symbol) → IsViablePrefix g (prefix ++ x ∷ []) →
    SameKernel g (prefix ++ x ∷ []) (other ++ y ∷ []) → x ≡ y
kernel_symbol {g} prefix other x y (item, t, v) same =
    let (moved, in_kernel, some) = has_moved v prefix x refl in
    let there = (same moved).0 in_kernel in
    let m = moved_from in_kernel.0.1 some prefix x refl in
    let n = moved_from there.0.1 some other y refl in
    let e : advance m.item ≡ advance n.item = sym m.is ∙ n.is in
    let productions : m.item.production ≡ n.item.production = ap (λ i. i.production) e in
    let moved_dots : m.item.dot + 1 ≡ n.item.dot + 1 = ap (λ i. i.dot) e in
    let dots : m.item.dot ≡ n.item.dot = omega arith in
    let items : m.item ≡ n.item = (λ i. record { production = productions i; dot = dots i }) in
    let both : x ∷ m.rest ≡ y ∷ n.rest = sym m.before_dot ∙ (ap (after_dot g) items ∙ n.before_dot) in cc

-- stacks of the same states have roots of the same symbols
pub states_symbols : {g : GrammarView} (tables : TablesView) → IsGrammar g → (prefix prefix' : List Symbol) (states : List ℕ)
    (stack other : Forest) → AreStackStates g tables prefix states stack → AreStackStates g tables prefix' states other →
    symbols stack ≡ symbols other
states_symbols tables ok prefix prefix' [] nothing nothing a b = refl
states_symbols tables ok prefix prefix' [] nothing (leaf t x r) a b = absurd b
states_symbols tables ok prefix prefix' [] nothing (node p c k r) a b = absurd b
states_symbols tables ok prefix prefix' [] (leaf t x r) other a b = absurd a
states_symbols tables ok prefix prefix' [] (node p c k r) other a b = absurd a
states_symbols tables ok prefix prefix' (s ∷ ss) nothing other a b = absurd a
states_symbols tables ok prefix prefix' (s ∷ ss) (leaf t x r) nothing a b = absurd b
states_symbols tables ok prefix prefix' (s ∷ ss) (node p c k r) nothing a b = absurd b
states_symbols {g} tables ok prefix prefix' (s ∷ ss) (leaf t x r) (leaf t' x' r') (here, a) (here', b) =
    let e = kernel_symbol prefix prefix' (Terminal t) (Terminal t') here.viable (state_kernel ok here here') in
    (λ i. e i ∷ states_symbols tables ok (prefix ++ Terminal t ∷ []) (prefix' ++ Terminal t' ∷ []) ss r r' a b i)
states_symbols {g} tables ok prefix prefix' (s ∷ ss) (leaf t x r) (node p c k r') (here, a) (here', b) =
    let e = kernel_symbol prefix prefix' (Terminal t) (Nonterminal c) here.viable (state_kernel ok here here') in
    (λ i. e i ∷ states_symbols tables ok (prefix ++ Terminal t ∷ []) (prefix' ++ Nonterminal c ∷ []) ss r r' a b i)
states_symbols {g} tables ok prefix prefix' (s ∷ ss) (node p c k r) (leaf t' x' r') (here, a) (here', b) =
    let e = kernel_symbol prefix prefix' (Nonterminal c) (Terminal t') here.viable (state_kernel ok here here') in
    (λ i. e i ∷ states_symbols tables ok (prefix ++ Nonterminal c ∷ []) (prefix' ++ Terminal t' ∷ []) ss r r' a b i)
states_symbols {g} tables ok prefix prefix' (s ∷ ss) (node p c k r) (node p' c' k' r') (here, a) (here', b) =
    let e = kernel_symbol prefix prefix' (Nonterminal c) (Nonterminal c') here.viable (state_kernel ok here here') in
    (λ i. e i ∷ states_symbols tables ok (prefix ++ Nonterminal c ∷ []) (prefix' ++ Nonterminal c' ∷ []) ss r r' a b i)

-- the same of symbols
abbrev AreSymbolStates : GrammarView → TablesView → List Symbol → List ℕ → List Symbol → Type 0
AreSymbolStates g tables prefix [] [] = Unit {0}
AreSymbolStates g tables prefix [] (x ∷ w) = ⊥
AreSymbolStates g tables prefix (s ∷ ss) [] = ⊥
AreSymbolStates g tables prefix (s ∷ ss) (x ∷ w) = IsPrefixOf g tables s (prefix ++ x ∷ []) ×
    AreSymbolStates g tables (prefix ++ x ∷ []) ss w

to_symbols : (g : GrammarView) (tables : TablesView) (prefix : List Symbol) (states : List ℕ) (stack : Forest) →
    AreStackStates g tables prefix states stack → AreSymbolStates g tables prefix states (symbols stack)
to_symbols g tables prefix [] nothing a = tt
to_symbols g tables prefix [] (leaf t x r) a = absurd a
to_symbols g tables prefix [] (node p c k r) a = absurd a
to_symbols g tables prefix (s ∷ ss) nothing a = absurd a
to_symbols g tables prefix (s ∷ ss) (leaf t x r) (here, a) = (here, to_symbols g tables (prefix ++ Terminal t ∷ []) ss r a)
to_symbols g tables prefix (s ∷ ss) (node p c k r) (here, a) = (here, to_symbols g tables (prefix ++ Nonterminal c ∷ []) ss r a)

of_symbols : (g : GrammarView) (tables : TablesView) (prefix : List Symbol) (states : List ℕ) (stack : Forest) →
    AreSymbolStates g tables prefix states (symbols stack) → AreStackStates g tables prefix states stack
of_symbols g tables prefix [] nothing a = tt
of_symbols g tables prefix [] (leaf t x r) a = absurd a
of_symbols g tables prefix [] (node p c k r) a = absurd a
of_symbols g tables prefix (s ∷ ss) nothing a = absurd a
of_symbols g tables prefix (s ∷ ss) (leaf t x r) (here, a) = (here, of_symbols g tables (prefix ++ Terminal t ∷ []) ss r a)
of_symbols g tables prefix (s ∷ ss) (node p c k r) (here, a) = (here, of_symbols g tables (prefix ++ Nonterminal c ∷ []) ss r a)

-- the states of a stack are those of each stack with roots of the same symbols
pub states_same : (g : GrammarView) (tables : TablesView) (prefix : List Symbol) (states : List ℕ) (stack other : Forest) →
    AreStackStates g tables prefix states stack → symbols stack ≡ symbols other → AreStackStates g tables prefix states other
states_same g tables prefix states stack other a e =
    of_symbols g tables prefix states other (subst (AreSymbolStates g tables prefix states) e (to_symbols g tables prefix states stack a))
