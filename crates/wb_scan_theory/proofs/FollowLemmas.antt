-- The machine follows each tree.
use Rattle.std.proofs.Common.{List, [], ap, append_assoc, refl, subst, sym, ℕ, ◌++◌, ◌∙◌, ◌∷◌, ◌≡◌}
use Rattle.wb_base.specs.Grammar.{GrammarView}
use Rattle.wb_base.specs.declared.symbol.Symbol.{Symbol}
use Rattle.wb_base.specs.declared.symbol.Symbol.TheVariants.{Nonterminal, Terminal}
use Rattle.wb_grammar_theory.proofs.DotLemmas.{after_advance, after_initial, after_start}
use Rattle.wb_grammar_theory.proofs.FlowLemmas.{same_itself}
use Rattle.wb_grammar_theory.specs.Items.{IsValidItem, advance, after_dot, close, initial_item, move, start, start_item}
use Rattle.wb_grammar_theory.specs.Lookaheads.{CanReduce}
use Rattle.wb_grammar_theory.specs.Productions.{end_of, right_in, top_of}
use Rattle.wb_grammar_theory.specs.Trees.{DerivationTree, Forest, IsDerived, Leaf, leaf, leaves, node, nothing, symbols}
use Rattle.wb_grammar_theory.specs.declared.item.Item.{Item}
use Rattle.wb_scan_theory.proofs.ForestLemmas.{ahead_joined, append_nil, forest_first, joined_assoc, joined_none, symbols_joined}
use Rattle.wb_scan_theory.specs.Machine.{Accepts, accept, ahead, joined, reduce, shift}

-- an item moves over symbols
pub record Along (g : GrammarView) (prefix : List Symbol) (p u : ℕ) (more : List Symbol) : Type 0 where
  pub item : Item
  pub of_production : item.production ≡ p
  pub is_valid : IsValidItem g prefix item u
  pub after : after_dot g item ≡ more

pub along : (g : GrammarView) (w more prefix : List Symbol) (item : Item) (u : ℕ) → IsValidItem g prefix item u →
    after_dot g item ≡ w ++ more → Along g (prefix ++ w) item.production u more
along g [] more prefix item u v e =
    record { item = item; of_production = refl; is_valid = subst (λ z. IsValidItem g z item u) (sym (append_nil prefix)) v; after = e }
along g (x ∷ w) more prefix item u v e =
    let i = along g w more (prefix ++ x ∷ []) (advance item) u (move item x (w ++ more) prefix v e refl refl)
    (after_advance g item x (w ++ more) e) in
    subst (λ z. Along g z item.production u more) (append_assoc prefix (x ∷ []) w) i

pub can_reduce : (g : GrammarView) (prefix : List Symbol) (p u : ℕ) → Along g prefix p u [] → CanReduce g prefix p u
can_reduce g prefix p u a = record {
  item = a.item;
  production = a.of_production;
  complete = a.after;
  has = (u, a.is_valid);
  lookahead = (prefix, same_itself g prefix, a.is_valid);
}

pub follow : (g : GrammarView) (f stack tree : Forest) (item : Item) (u : ℕ) (xs : List Leaf) → IsDerived g f →
    IsValidItem g (symbols stack) item u → after_dot g item ≡ symbols f → ahead (end_of g) xs ≡ u
    → Accepts g (joined stack f) xs tree → Accepts g stack (leaves (symbols stack) f ++ xs) tree
follow g nothing stack tree item u xs d v e next go = subst (λ z. Accepts g z xs tree) (joined_none stack) go
follow g (leaf t l r) stack tree item u xs d v e next go =
    let pushed : Forest = joined stack (leaf t l nothing) in
    let named : symbols pushed ≡ symbols stack ++ Terminal t ∷ [] = symbols_joined stack (leaf t l nothing) in
    let v' : IsValidItem g (symbols pushed) (advance item) u = move item (Terminal t) (symbols r) (symbols stack) v e named refl in
    let i = follow g r pushed tree (advance item) u xs d v' (after_advance g item (Terminal t) (symbols r) e) next
    (subst (λ z. Accepts g z xs tree) (sym (joined_assoc stack (leaf t l nothing) r)) go) in
    shift (record { context = symbols stack; terminal = t; text = l })
    (record { item = item; rest = symbols r; has = (u, v); before_dot = e }) refl
    (subst (λ z. Accepts g pushed (leaves z r ++ xs) tree) named i)
follow g (node p a k r) stack tree item u xs (rule, dk, dr) v e next go =
    let pushed : Forest = joined stack (node p a k nothing) in
    let named : symbols pushed ≡ symbols stack ++ Nonterminal a ∷ [] = symbols_joined stack (node p a k nothing) in
    let v' : IsValidItem g (symbols pushed) (advance item) u = move item (Nonterminal a) (symbols r) (symbols stack) v e named refl in
    let later : List Leaf = leaves (symbols stack ++ Nonterminal a ∷ []) r in
    let u' : ℕ = ahead u later in
    let opened : IsValidItem g (symbols stack) (initial_item p) u' =
    close item u a (symbols r) p u' (symbols k) v e rule (forest_first g (symbols stack ++ Nonterminal a ∷ []) r u dr) in
    let right_is : right_in g.productions g.start p ≡ symbols k = after_initial g p a (symbols k) rule in
    let next' : ahead (end_of g) (later ++ xs) ≡ u' = ahead_joined (end_of g) later xs ∙ ap (λ z. ahead z later) next in
    let i = follow g r pushed tree (advance item) u xs dr v' (after_advance g item (Nonterminal a) (symbols r) e) next
    (subst (λ z. Accepts g z xs tree) (sym (joined_assoc stack (node p a k nothing) r)) go) in
    let complete = along g (symbols k) [] (symbols stack) (initial_item p) u' opened (right_is ∙ sym (append_nil (symbols k))) in
    let there : CanReduce g (symbols (joined stack k)) p (ahead (end_of g) (later ++ xs)) =
    subst (λ z. CanReduce g (symbols (joined stack k)) p z) (sym next')
    (subst (λ z. CanReduce g z p u') (sym (symbols_joined stack k)) (can_reduce g (symbols stack ++ symbols k) p u' complete)) in
    let reduced : Accepts g (joined stack k) (later ++ xs) tree =
    reduce p a stack k refl rule there (subst (λ z. Accepts g pushed (leaves z r ++ xs) tree) named i) in
    subst (λ z. Accepts g stack z tree) (sym (append_assoc (leaves (symbols stack) k) later xs))
    (follow g k stack tree (initial_item p) u' (later ++ xs) dk opened right_is next' reduced)

-- each tree is accepted from the empty stack
pub tree_accepted : (g : GrammarView) (tree : Forest) → DerivationTree g tree → Accepts g nothing (leaves [] tree) tree
tree_accepted g tree is =
    let e : after_dot g (start_item g) ≡ symbols tree = after_start g ∙ sym is.root in
    let complete = along g (symbols tree) [] [] (start_item g) (end_of g) start (e ∙ sym (append_nil (symbols tree))) in
    let i = follow g tree nothing tree (start_item g) (end_of g) [] is.derived start e refl
    (accept (can_reduce g (symbols tree) (top_of g) (end_of g) complete)) in
    subst (λ z. Accepts g nothing z tree) (append_nil (leaves [] tree)) i
