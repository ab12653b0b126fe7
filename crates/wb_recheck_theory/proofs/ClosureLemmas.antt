-- The items at a listed kernel are the closure of its kernel, and each kernel is the move that its line names.
use Rattle.std.proofs.Common.{◌≡◌, ℕ, ◌+◌, ◌<◌, suc, List, Some, refl, sym, ap, subst, inl, inr, arith}
use Rattle.std.specs.Prelude.{◌↔◌, ◌⊎◌, slice_get}
use Rattle.wb_lemmas.proofs.Places.{at_once, at_within}
use Rattle.wb_base.specs.Grammar.{GrammarView}
use Rattle.wb_grammar_theory.specs.declared.item.Item.{Item}
use Rattle.wb_grammar_theory.specs.Items.{advance, start_item}
use Rattle.wb_grammar_theory.specs.Closure.{InClosure, kernel, opened, MovesTo}
use Rattle.wb_recheck_theory.specs.declared.line.Line.{Line}
use Rattle.wb_recheck_theory.specs.Lines.{kernel_count, IsItemAt, at_first, at_opened, at_moved, IsKernelItemAt}

-- a kernel but the first has a line
pub line_of : (lines : List Line) (n : ℕ) → suc n < kernel_count lines → (line : Line) × (slice_get lines n ≡ Some line)
line_of lines n lt = at_within lines n (omega (arith, lt))

-- an item that moved has its dot not at the left end
pub moved_dot : (item moved : Item) → moved ≡ advance item → moved.dot ≡ 0 → ⊥
moved_dot item moved is zero_dot = let f : moved.dot ≡ item.dot + 1 = ap (λ i. i.dot) is in omega (arith, f, zero_dot)

-- an item at a kernel is in the closure of the kernel
pub closure_there : {g : GrammarView} {lines : List Line} {k : ℕ} {item : Item} → IsItemAt g lines k item →
    InClosure g (IsKernelItemAt g lines k) item
closure_there (at_first z is) = kernel (at_first z is, inr (is, z))
closure_there {g} {lines} {k} (at_opened item b rest q right i is rule new_is) =
    subst (λ z. InClosure g (IsKernelItemAt g lines k) z) (sym new_is) (opened item b rest q right (closure_there i) is rule)
closure_there {item = new} (at_moved n line item rest at k_is i is new_is) =
    kernel (at_moved n line item rest at k_is i is new_is, inl (moved_dot item new new_is))

-- and what is in the closure is at the kernel
pub closure_back : {g : GrammarView} {lines : List Line} {k : ℕ} {item : Item} → InClosure g (IsKernelItemAt g lines k) item →
    IsItemAt g lines k item
closure_back (kernel i) = i.0
closure_back (opened item b rest q right i is rule) = at_opened item b rest q right (closure_back i) is rule refl

-- the items at a kernel are the closure of the kernel
pub items_are_closure : (g : GrammarView) (lines : List Line) (k : ℕ) (item : Item) →
    IsItemAt g lines k item ↔ InClosure g (IsKernelItemAt g lines k) item
items_are_closure g lines k item = (closure_there, closure_back)

-- kernel 0 has the start item alone
pub kernel_first : (g : GrammarView) (lines : List Line) (item : Item) → IsKernelItemAt g lines 0 item ↔ (item ≡ start_item g)
kernel_first g lines item = (there, λ is. (at_first refl is, inr (is, refl)))
  where
    no_dot : {k : ℕ} {i : Item} → IsItemAt g lines k i → k ≡ 0 → i.dot ≡ 0
    no_dot (at_first z is) e = ap (λ j. j.dot) is
    no_dot (at_opened j b rest q right i is rule new_is) e = ap (λ j. j.dot) new_is
    no_dot (at_moved n line j rest at k_is i is new_is) e = absurd (omega (arith, k_is, e))

    there : IsKernelItemAt g lines 0 item → item ≡ start_item g
    there (i, inl ne) = absurd (ne (no_dot i refl))
    there (i, inr (is, z)) = is

-- the kernel of a line is the move that it names
pub kernel_moved : (g : GrammarView) (lines : List Line) (n : ℕ) (line : Line) → slice_get lines n ≡ Some line → (item : Item) →
    IsKernelItemAt g lines (suc n) item ↔ MovesTo g (IsKernelItemAt g lines line.from) line.symbol item
kernel_moved g lines n line at item = (λ k. there k.0 refl k.1, back)
  where
    there : {k : ℕ} → IsItemAt g lines k item → k ≡ suc n → ((item.dot ≡ 0 → ⊥) ⊎ ((item ≡ start_item g) × (suc n ≡ 0))) →
        MovesTo g (IsKernelItemAt g lines line.from) line.symbol item
    there (at_first z is) e dot = absurd (omega (arith, z, e))
    there (at_opened j b rest q right i is rule new_is) e (inl ne) = absurd (ne (ap (λ j. j.dot) new_is))
    there (at_opened j b rest q right i is rule new_is) e (inr (s, z)) = absurd (omega (arith, z))
    there (at_moved m other j rest there_at k_is i is new_is) e dot =
        let same : other ≡ line = at_once lines n other line
        (subst (λ z. slice_get lines z ≡ Some other) (let f : m ≡ n = omega (arith, k_is, e) in f) there_at) at in
        subst (λ z. MovesTo g (IsKernelItemAt g lines z.from) z.symbol item) same
        (record { item = j; rest = rest; within = closure_there i; before_dot = is; is = new_is })

    back : MovesTo g (IsKernelItemAt g lines line.from) line.symbol item → IsKernelItemAt g lines (suc n) item
    back m = (at_moved n line m.item m.rest at refl (closure_back m.within) m.before_dot m.is, inl (moved_dot m.item item m.is))
