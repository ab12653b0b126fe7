-- Lookaheads, valid terminals and conflicts are the same in other numbers.
use Rattle.std.proofs.Common.{◌∙◌, List, ap, inl, inr, map, subst, sym, ℕ}
use Rattle.wb_base.specs.declared.symbol.Symbol.{Symbol}
use Rattle.wb_base.specs.Grammar.{GrammarView}
use Rattle.wb_grammar_theory.specs.declared.item.Item.{Item}
use Rattle.wb_grammar_theory.specs.Items.{IsKernelItem, SameKernel}
use Rattle.wb_grammar_theory.specs.Lookaheads.{CanReduce, CanShift, HasConflict, HasNoConflict, IsLookahead, IsValidTerminal}
use Rattle.wb_compose_theory.specs.Renamings.{Renaming, renamed, renamed_item}
use Rattle.wb_compose_theory.proofs.RenamingLemmas.{in_grammar}
use Rattle.wb_compose_theory_order.specs.Inner.SameGrammars.{IsSameGrammar}
use Rattle.wb_compose_theory_order.proofs.GrammarLemmas.{dots, has_there, item_back, kernel_there, list_back, same_grammar_back}
use Rattle.wb_compose_theory_order.proofs.GrammarLemmas.{valid_there}

module _ {r s : Renaming} {g k : GrammarView} (same : IsSameGrammar r s g k) where
  -- an item of the kernel there is one of the kernel here
  kernel_back : (prefix : List Symbol) (item : Item) → IsKernelItem k (map (renamed r) prefix) item →
      IsKernelItem g prefix (renamed_item s item)
  kernel_back prefix item h =
      subst (λ z. IsKernelItem g z (renamed_item s item)) (list_back same.undone prefix)
      (kernel_there same.back (map (renamed r) prefix) item h)

  half : (a b : List Symbol) → ((i : Item) → IsKernelItem g a i → IsKernelItem g b i) → (item : Item) →
      IsKernelItem k (map (renamed r) a) item → IsKernelItem k (map (renamed r) b) item
  half a b f item h =
      subst (IsKernelItem k (map (renamed r) b)) (item_back same.redone item)
      (kernel_there same.there b (renamed_item s item) (f (renamed_item s item) (kernel_back a item h)))

  pub same_kernel : (a b : List Symbol) → SameKernel g a b → SameKernel k (map (renamed r) a) (map (renamed r) b)
  same_kernel a b is item = (half a b (λ i. (is i).0) item, half b a (λ i. (is i).1) item)

  lookahead_there : (prefix : List Symbol) (item : Item) (t : ℕ) → IsLookahead g prefix item t →
      IsLookahead k (map (renamed r) prefix) (renamed_item r item) (r.terminal t)
  lookahead_there prefix item t (other, is, v) = (map (renamed r) other, same_kernel prefix other is, valid_there same.there v)

  shift_there : (prefix : List Symbol) (t : ℕ) → CanShift g prefix t → CanShift k (map (renamed r) prefix) (r.terminal t)
  shift_there prefix t can = record {
    item = renamed_item r can.item;
    rest = map (renamed r) can.rest;
    has = has_there same.there can.has;
    before_dot = dots same.there can.item (in_grammar can.has.1) ∙ ap (map (renamed r)) can.before_dot;
  }

  reduce_there : (prefix : List Symbol) (p t : ℕ) → CanReduce g prefix p t →
      CanReduce k (map (renamed r) prefix) (r.production p) (r.terminal t)
  reduce_there prefix p t can = record {
    item = renamed_item r can.item;
    production = ap r.production can.production;
    complete = dots same.there can.item (in_grammar can.has.1) ∙ ap (map (renamed r)) can.complete;
    has = has_there same.there can.has;
    lookahead = lookahead_there prefix can.item t can.lookahead;
  }

  pub terminal_there : (prefix : List Symbol) (t : ℕ) → IsValidTerminal g prefix t →
      IsValidTerminal k (map (renamed r) prefix) (r.terminal t)
  terminal_there prefix t (inl can) = inl (shift_there prefix t can)
  terminal_there prefix t (inr (p, can)) = inr (r.production p, reduce_there prefix p t can)

  conflict_there : (prefix : List Symbol) (t : ℕ) → HasConflict g prefix t → HasConflict k (map (renamed r) prefix) (r.terminal t)
  conflict_there prefix t (inl (p, can, reduces)) =
      inl (r.production p, shift_there prefix t can, reduce_there prefix p t reduces)
  conflict_there prefix t (inr (p, q, differ, one, two)) =
      inr (
        r.production p,
        r.production q,
        (λ e. differ (sym (same.undone.production p) ∙ (ap s.production e ∙ same.undone.production q))),
        reduce_there prefix p t one,
        reduce_there prefix q t two,
      )

-- no conflict here, none there
pub no_conflict_there : {r s : Renaming} {g k : GrammarView} → IsSameGrammar r s g k → HasNoConflict g → HasNoConflict k
no_conflict_there {s = s} same free prefix t conflict =
    free (map (renamed s) prefix) (s.terminal t) (conflict_there (same_grammar_back same) prefix t conflict)
