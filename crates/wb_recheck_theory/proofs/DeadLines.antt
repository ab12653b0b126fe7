-- The kernels of `S -> C B`, `C -> c`, where B has no production, as a certificate lists them.
use Rattle.std.proofs.Common.{◌≡◌, ℕ, ◌+◌, ◌<◌, zero, suc, List, [], ◌∷◌, Some, refl, sym, ◌∙◌, ap, subst, inl, arith}
use Rattle.std.specs.Prelude.{slice_get}
use Rattle.std.proofs.lemmas.Option.{same_Some}
use Rattle.wb_base.specs.declared.symbol.Symbol.{Symbol}
use Rattle.wb_base.specs.declared.symbol.Symbol.TheVariants.{Terminal, Nonterminal}
use Rattle.wb_grammar_theory.specs.declared.item.Item.{Item}
use Rattle.wb_grammar_theory.specs.Productions.{IsProduction}
use Rattle.wb_grammar_theory.specs.Items.{after_dot, advance, initial_item}
use Rattle.wb_recheck_theory.specs.declared.line.Line.{Line}
use Rattle.wb_recheck_theory.specs.Lines.{IsItemAt, at_first, at_opened, at_moved, IsKernelItemAt, IsMoveOf, IsGoodLine, AreGoodLines}
use Rattle.wb_recheck_theory.specs.Lines.{AreMovesListed}
use Rattle.wb_recheck_theory.specs.Examples.{dead, dead_lines}
use Rattle.wb_recheck_theory.proofs.ExampleLemmas.{item, after_is}
use Rattle.wb_recheck_theory.proofs.ClosureLemmas.{closure_there, kernel_moved}
use Rattle.wb_recheck_theory.proofs.DeadLemmas.{left_of}

-- the seven items, each at its kernel
pub data Seven (k : ℕ) (i : Item) : Type 0 where
  before_start : k ≡ 0 → i ≡ item 2 0 → Seven k i
  before_c_b : k ≡ 0 → i ≡ item 0 0 → Seven k i
  before_x : k ≡ 0 → i ≡ item 1 0 → Seven k i
  after_x : k ≡ 1 → i ≡ item 1 1 → Seven k i
  after_start : k ≡ 2 → i ≡ item 2 1 → Seven k i
  after_c : k ≡ 3 → i ≡ item 0 1 → Seven k i
  after_b : k ≡ 4 → i ≡ item 0 2 → Seven k i

-- the three with their dots before nonterminals
pub data Opened (k b : ℕ) (rest : List Symbol) : Type 0 where
  opens_s : k ≡ 0 → b ≡ 0 → rest ≡ [] → Opened k b rest
  opens_c : k ≡ 0 → b ≡ 1 → rest ≡ Nonterminal 2 ∷ [] → Opened k b rest
  opens_b : b ≡ 2 → Opened k b rest

number : (a b : ℕ) → Nonterminal a ≡ Nonterminal b → b ≡ a
number a b e = cc

parts : (x y : Symbol) (w v : List Symbol) → x ∷ w ≡ y ∷ v → (x ≡ y) × (w ≡ v)
parts x y w v e = (cc, cc)

pub opened : {k : ℕ} {i : Item} (b : ℕ) (rest : List Symbol) → Seven k i → after_dot dead i ≡ Nonterminal b ∷ rest → Opened k b rest
opened b rest (before_start z e) is =
    let (x, r) = parts (Nonterminal 0) (Nonterminal b) [] rest (after_is dead 2 0 e is) in opens_s z (number 0 b x) (sym r)
opened b rest (before_c_b z e) is =
    let (x, r) = parts (Nonterminal 1) (Nonterminal b) (Nonterminal 2 ∷ []) rest (after_is dead 0 0 e is) in
    opens_c z (number 1 b x) (sym r)
opened b rest (before_x z e) is = let h : Terminal 0 ∷ [] ≡ Nonterminal b ∷ rest = after_is dead 1 0 e is in cc
opened b rest (after_x z e) is = let h : [] ≡ Nonterminal b ∷ rest = after_is dead 1 1 e is in cc
opened b rest (after_start z e) is = let h : [] ≡ Nonterminal b ∷ rest = after_is dead 2 1 e is in cc
opened b rest (after_c z e) is =
    let (x, r) = parts (Nonterminal 2) (Nonterminal b) [] rest (after_is dead 0 1 e is) in opens_b (number 2 b x)
opened b rest (after_b z e) is = let h : [] ≡ Nonterminal b ∷ rest = after_is dead 0 2 e is in cc

-- the four that move
pub data Moves (k : ℕ) (x : Symbol) (new : Item) : Type 0 where
  by_start : k ≡ 0 → x ≡ Nonterminal 0 → new ≡ item 2 1 → Moves k x new
  by_c : k ≡ 0 → x ≡ Nonterminal 1 → new ≡ item 0 1 → Moves k x new
  by_x : k ≡ 0 → x ≡ Terminal 0 → new ≡ item 1 1 → Moves k x new
  by_b : k ≡ 3 → x ≡ Nonterminal 2 → new ≡ item 0 2 → Moves k x new

pub moves : {k : ℕ} {i new : Item} (x : Symbol) (rest : List Symbol) → Seven k i → after_dot dead i ≡ x ∷ rest → new ≡ advance i →
    Moves k x new
moves x rest (before_start z e) is new_is =
    by_start z (sym (parts (Nonterminal 0) x [] rest (after_is dead 2 0 e is)).0) (new_is ∙ ap advance e)
moves x rest (before_c_b z e) is new_is =
    by_c z (sym (parts (Nonterminal 1) x (Nonterminal 2 ∷ []) rest (after_is dead 0 0 e is)).0) (new_is ∙ ap advance e)
moves x rest (before_x z e) is new_is = by_x z (sym (parts (Terminal 0) x [] rest (after_is dead 1 0 e is)).0) (new_is ∙ ap advance e)
moves x rest (after_x z e) is new_is = let h : [] ≡ x ∷ rest = after_is dead 1 1 e is in cc
moves x rest (after_start z e) is new_is = let h : [] ≡ x ∷ rest = after_is dead 2 1 e is in cc
moves x rest (after_c z e) is new_is = by_b z (sym (parts (Nonterminal 2) x [] rest (after_is dead 0 1 e is)).0) (new_is ∙ ap advance e)
moves x rest (after_b z e) is new_is = let h : [] ≡ x ∷ rest = after_is dead 0 2 e is in cc

-- the kernel to which each symbol leads
abbrev pub number_of : Symbol → ℕ
number_of (Terminal t) = 1
number_of (Nonterminal a) = a + 2

arrives : {k : ℕ} {x : Symbol} {new : Item} → Moves k x new → Seven (number_of x) new
arrives (by_start z e n) = after_start (ap number_of e) n
arrives (by_c z e n) = after_c (ap number_of e) n
arrives (by_x z e n) = after_x (ap number_of e) n
arrives (by_b z e n) = after_b (ap number_of e) n

-- the four lines
abbrev line : ℕ → Symbol → Line
line k x = record { from = k; symbol = x }

line_number : (n : ℕ) (l : Line) → slice_get dead_lines n ≡ Some l → number_of l.symbol ≡ suc n
line_number zero l at = ap (λ (z : Line). number_of z.symbol) (sym (same_Some (line 0 (Terminal 0)) l at))
line_number (suc zero) l at = ap (λ (z : Line). number_of z.symbol) (sym (same_Some (line 0 (Nonterminal 0)) l at))
line_number (suc (suc zero)) l at = ap (λ (z : Line). number_of z.symbol) (sym (same_Some (line 0 (Nonterminal 1)) l at))
line_number (suc (suc (suc zero))) l at = ap (λ (z : Line). number_of z.symbol) (sym (same_Some (line 3 (Nonterminal 2)) l at))
line_number (suc (suc (suc (suc zero)))) l at = cc
line_number (suc (suc (suc (suc (suc n))))) l at = cc

-- productions by their left sides
pub rule_of : (q b : ℕ) (right : List Symbol) → IsProduction dead q b right → (b ≡ q) × (q < 2)
rule_of zero b right rule = (sym (left_of 0 b (Nonterminal 1 ∷ Nonterminal 2 ∷ []) right rule), omega arith)
rule_of (suc zero) b right rule = (sym (left_of 1 b (Terminal 0 ∷ []) right rule), omega arith)
rule_of (suc (suc q)) b right rule = cc

pub seven : {k : ℕ} {i : Item} → IsItemAt dead dead_lines k i → Seven k i
seven (at_first z is) = before_start z is
seven {k} {i = new} (at_opened i b rest q right at is rule new_is) = by_left (opened b rest (seven at) is)
  where
    left : b ≡ q
    left = (rule_of q b right rule).0

    by_left : Opened k b rest → Seven k new
    by_left (opens_s z e r) = before_c_b z (new_is ∙ ap initial_item (sym left ∙ e))
    by_left (opens_c z e r) = before_x z (new_is ∙ ap initial_item (sym left ∙ e))
    by_left (opens_b e) = absurd (let below = (rule_of q b right rule).1 in let is = left in omega (arith, below, e, is))
seven {i = new} (at_moved n l i rest at k_is j is new_is) =
    subst (λ z. Seven z new) (line_number n l at ∙ sym k_is) (arrives (moves l.symbol rest (seven j) is new_is))

pub at_start : IsItemAt dead dead_lines 0 (item 2 0)
at_start = at_first refl refl

pub at_s : IsItemAt dead dead_lines 0 (item 0 0)
at_s = at_opened (item 2 0) 0 [] 0 (Nonterminal 1 ∷ Nonterminal 2 ∷ []) at_start refl refl refl

at_c : IsItemAt dead dead_lines 0 (item 1 0)
at_c = at_opened (item 0 0) 1 (Nonterminal 2 ∷ []) 1 (Terminal 0 ∷ []) at_s refl refl refl

pub at_b : IsItemAt dead dead_lines 3 (item 0 1)
at_b = at_moved 2 (line 0 (Nonterminal 1)) (item 0 0) (Nonterminal 2 ∷ []) refl refl at_s refl refl

pub past_start : IsItemAt dead dead_lines 2 (item 2 1)
past_start = at_moved 1 (line 0 (Nonterminal 0)) (item 2 0) [] refl refl at_start refl refl

pub past_b : IsItemAt dead dead_lines 4 (item 0 2)
past_b = at_moved 3 (line 3 (Nonterminal 2)) (item 0 1) [] refl refl at_b refl refl

pub dead_listed : IsKernelItemAt dead dead_lines 1 (item 1 1)
dead_listed = (at_moved 0 (line 0 (Terminal 0)) (item 1 0) [] refl refl at_c refl refl, inl (λ e. omega (arith, e)))

-- an item says at which kernel it is
abbrev kernel_for : ℕ → ℕ → ℕ
kernel_for zero zero = 0
kernel_for zero (suc zero) = 3
kernel_for zero (suc (suc d)) = 4
kernel_for (suc p) zero = 0
kernel_for (suc p) (suc d) = p + 1

at_kernel : {k : ℕ} {i : Item} → Seven k i → k ≡ kernel_for i.production i.dot
at_kernel (before_start z e) = z ∙ ap (λ (j : Item). kernel_for j.production j.dot) (sym e)
at_kernel (before_c_b z e) = z ∙ ap (λ (j : Item). kernel_for j.production j.dot) (sym e)
at_kernel (before_x z e) = z ∙ ap (λ (j : Item). kernel_for j.production j.dot) (sym e)
at_kernel (after_x z e) = z ∙ ap (λ (j : Item). kernel_for j.production j.dot) (sym e)
at_kernel (after_start z e) = z ∙ ap (λ (j : Item). kernel_for j.production j.dot) (sym e)
at_kernel (after_c z e) = z ∙ ap (λ (j : Item). kernel_for j.production j.dot) (sym e)
at_kernel (after_b z e) = z ∙ ap (λ (j : Item). kernel_for j.production j.dot) (sym e)

-- so no other kernel is the move
pub only : (k : ℕ) (x : Symbol) (m : ℕ) (i : Item) (rest : List Symbol) → IsItemAt dead dead_lines k i → after_dot dead i ≡ x ∷ rest →
    IsMoveOf dead dead_lines k x m → m ≡ number_of x
only k x m i rest at is h =
    let here = (h (advance i)).1 (record { item = i; rest = rest; within = closure_there at; before_dot = is; is = refl }) in
    at_kernel (seven here.0) ∙ sym (at_kernel (arrives (moves x rest (seven at) is refl)))

-- the moves are those of the lines
pub move_x : IsMoveOf dead dead_lines 0 (Terminal 0) 1
move_x = kernel_moved dead dead_lines 0 (line 0 (Terminal 0)) refl

pub move_start : IsMoveOf dead dead_lines 0 (Nonterminal 0) 2
move_start = kernel_moved dead dead_lines 1 (line 0 (Nonterminal 0)) refl

pub move_c : IsMoveOf dead dead_lines 0 (Nonterminal 1) 3
move_c = kernel_moved dead dead_lines 2 (line 0 (Nonterminal 1)) refl

pub move_b : IsMoveOf dead dead_lines 3 (Nonterminal 2) 4
move_b = kernel_moved dead dead_lines 3 (line 3 (Nonterminal 2)) refl

good : (n k : ℕ) (x : Symbol) (i : Item) (rest : List Symbol) → k < suc n → number_of x ≡ suc n → IsItemAt dead dead_lines k i →
    after_dot dead i ≡ x ∷ rest → IsGoodLine dead dead_lines n (line k x)
good n k x i rest lt named at is = record {
  from = lt;
  moves = (i, rest, at, is);
  new = λ m less h. let f = only k x m i rest at is h in omega (arith, f, named, less);
}

pub dead_good : AreGoodLines dead dead_lines
dead_good zero l at =
    subst (IsGoodLine dead dead_lines 0) (same_Some (line 0 (Terminal 0)) l at)
    (good 0 0 (Terminal 0) (item 1 0) [] (omega arith) refl at_c refl)
dead_good (suc zero) l at =
    subst (IsGoodLine dead dead_lines 1) (same_Some (line 0 (Nonterminal 0)) l at)
    (good 1 0 (Nonterminal 0) (item 2 0) [] (omega arith) refl at_start refl)
dead_good (suc (suc zero)) l at =
    subst (IsGoodLine dead dead_lines 2) (same_Some (line 0 (Nonterminal 1)) l at)
    (good 2 0 (Nonterminal 1) (item 0 0) (Nonterminal 2 ∷ []) (omega arith) refl at_s refl)
dead_good (suc (suc (suc zero))) l at =
    subst (IsGoodLine dead dead_lines 3) (same_Some (line 3 (Nonterminal 2)) l at)
    (good 3 3 (Nonterminal 2) (item 0 1) [] (omega arith) refl at_b refl)
dead_good (suc (suc (suc (suc zero)))) l at = cc
dead_good (suc (suc (suc (suc (suc n))))) l at = cc

carried : (k k' : ℕ) (x x' : Symbol) (m : ℕ) → k' ≡ k → x' ≡ x → IsMoveOf dead dead_lines k x m → IsMoveOf dead dead_lines k' x' m
carried k k' x x' m e f h =
    subst (λ z. IsMoveOf dead dead_lines z x' m) (sym e) (subst (λ z. IsMoveOf dead dead_lines k z m) (sym f) h)

pub dead_moves_listed : AreMovesListed dead dead_lines
dead_moves_listed k x lt (i, rest, at, is) = by_move (moves x rest (seven at) is refl)
  where
    by_move : Moves k x (advance i) → (m : ℕ) × (m < 5) × IsMoveOf dead dead_lines k x m
    by_move (by_x z e n) = (1, omega arith, carried 0 k (Terminal 0) x 1 z e move_x)
    by_move (by_start z e n) = (2, omega arith, carried 0 k (Nonterminal 0) x 2 z e move_start)
    by_move (by_c z e n) = (3, omega arith, carried 0 k (Nonterminal 1) x 3 z e move_c)
    by_move (by_b z e n) = (4, omega arith, carried 3 k (Nonterminal 2) x 4 z e move_b)
