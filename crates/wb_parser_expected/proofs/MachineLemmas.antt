-- What a machine that stands before a terminal tells of the trees that go on with it.
use Rattle.std.proofs.Common.{List, [], ap, append_assoc, refl, subst, sym, ℕ, ◌++◌, ◌∙◌, ◌∷◌, ◌≡◌}
use Rattle.wb_base.specs.Grammar.{GrammarView}
use Rattle.wb_base.specs.declared.symbol.Symbol.TheVariants.{Nonterminal, Terminal}
use Rattle.wb_grammar_theory.specs.Items.{IsViablePrefix, advance, move}
use Rattle.wb_grammar_theory.specs.Lookaheads.{CanReduce, CanShift}
use Rattle.wb_grammar_theory.specs.Productions.{end_of, top_of}
use Rattle.wb_grammar_theory.specs.Trees.{Forest, IsDerived, Leaf, leaf, leaves, nothing, symbols}
use Rattle.wb_scan_theory.specs.Inner.Runs.{HasTrees}
use Rattle.wb_scan_theory.specs.Machine.{Accepts, Follows, accept, ahead, joined, reduce, shift}
use Rattle.wb_scan_theory.specs.Readings.{Begins, terminals_of}
use Rattle.wb_scan_theory.proofs.BackLemmas.{whole}
use Rattle.wb_scan_theory.proofs.ForestLemmas.{append_nil, derived_joined, symbols_joined, terminals_joined}
use Rattle.wb_scan_theory.proofs.StepLemmas.{leaves_shifted}

-- what a tree has after leaves of these terminals
record Ahead (g : GrammarView) (xs : List Leaf) (ts : List ℕ) (u : ℕ) : Type 0 where
  pub read : List Leaf
  pub input : List Leaf
  pub is : xs ≡ read ++ input
  pub terminals : terminals_of read ≡ ts
  pub next : ahead (end_of g) input ≡ u

not_nil : (ts : List ℕ) (u : ℕ) (more : List ℕ) → [] ≡ (ts ++ u ∷ []) ++ more → ⊥
not_nil [] u more e = cc
not_nil (t ∷ ts) u more e = cc

ahead_of : (g : GrammarView) (xs : List Leaf) (ts : List ℕ) (u : ℕ) (more : List ℕ) →
    terminals_of xs ++ end_of g ∷ [] ≡ (ts ++ u ∷ []) ++ more → Ahead g xs ts u
ahead_of g [] [] u more e = record { read = []; input = []; is = refl; terminals = refl; next = cc }
ahead_of g [] (t ∷ ts) u more e = absurd (not_nil ts u more (cc))
ahead_of g (x ∷ xs) [] u more e = record { read = []; input = x ∷ xs; is = refl; terminals = refl; next = cc }
ahead_of g (x ∷ xs) (t ∷ ts) u more e =
    let i = ahead_of g xs ts u more (cc) in
    record {
      read = x ∷ i.read;
      input = i.input;
      is = ap (λ z. x ∷ z) i.is;
      terminals = ap (λ z. x.terminal ∷ z) i.terminals
          ∙ ap (λ z. z ∷ ts) (let h : x.terminal ≡ t = cc in h);
      next = i.next;
    }

has_action : (g : GrammarView) (stack : Forest) (u : ℕ) → (CanShift g (symbols stack) u → ⊥) →
    ((p : ℕ) → CanReduce g (symbols stack) p u → ⊥) → {through tree : Forest} {input : List Leaf} → Accepts g through input tree →
    symbols through ≡ symbols stack → ahead (end_of g) input ≡ u → ⊥
has_action g stack u no_s no_r (accept {stack = through} c) same n =
    no_r (top_of g) (subst (λ z. CanReduce g z (top_of g) u) same (subst (λ z. CanReduce g (symbols through) (top_of g) z) n c))
has_action g stack u no_s no_r (shift x {stack = through} c e r) same n =
    no_s (subst (λ z. CanShift g z u) same (subst (λ z. CanShift g (symbols through) z) n c))
has_action g stack u no_s no_r (reduce q b below' k' {stack = through} is' rule' can' m) same n =
    no_r q (subst (λ z. CanReduce g z q u) same (subst (λ z. CanReduce g (symbols through) q z) n can'))

-- where nothing can be shifted and nothing reduced on a terminal, no tree goes on with it
pub never_begins : (g : GrammarView) (stack : Forest) (u : ℕ) → Follows g stack u → (CanShift g (symbols stack) u → ⊥) →
    ((p : ℕ) → CanReduce g (symbols stack) p u → ⊥) → Begins g (terminals_of (leaves [] stack) ++ u ∷ []) → ⊥
never_begins g stack u follows no_s no_r b =
    let a = ahead_of g (leaves [] b.tree) (terminals_of (leaves [] stack)) u b.more b.is in
    let passes = follows b.tree a.read a.input b.is_tree a.is a.terminals a.next in
    has_action g stack u no_s no_r passes.goes_on passes.same a.next

-- where it can be shifted, a tree goes on with it
pub shift_begins : (g : GrammarView) → HasTrees g → (stack : Forest) (t : ℕ) → IsDerived g stack → CanShift g (symbols stack) t →
    Begins g (terminals_of (leaves [] stack) ++ t ∷ [])
shift_begins g productive stack t derived can =
    let new : Forest = joined stack (leaf t [] nothing) in
    let viable : IsViablePrefix g (symbols new) = (
      advance can.item,
      can.has.0,
      move can.item (Terminal t) can.rest (symbols stack) can.has.1 can.before_dot (symbols_joined stack (leaf t [] nothing)) refl,
    ) in
    let w = whole g productive new (derived_joined g stack (leaf t [] nothing) derived tt) viable in
    let x : Leaf = record { context = symbols stack; terminal = t; text = [] } in
    record {
      tree = w.tree;
      is_tree = w.is_tree;
      more = terminals_of w.rest ++ end_of g ∷ [];
      is = ap (λ z. terminals_of z ++ end_of g ∷ []) w.is ∙ (ap (λ z. z ++ end_of g ∷ []) (terminals_joined (leaves [] new) w.rest)
          ∙ (append_assoc (terminals_of (leaves [] new)) (terminals_of w.rest) (end_of g ∷ [])
          ∙ ap (λ z. z ++ (terminals_of w.rest ++ end_of g ∷ [])) (ap terminals_of (leaves_shifted stack t [])
          ∙ terminals_joined (leaves [] stack) (x ∷ []))));
    }

-- where the stack is the start, a tree goes on with the end
pub whole_begins : (g : GrammarView) (stack : Forest) → IsDerived g stack → symbols stack ≡ Nonterminal g.start ∷ [] →
    Begins g (terminals_of (leaves [] stack) ++ end_of g ∷ [])
whole_begins g stack derived root = record {
  tree = stack;
  is_tree = record { derived = derived; root = root };
  more = [];
  is = sym (append_nil (terminals_of (leaves [] stack) ++ end_of g ∷ []));
}
