-- Derivations, valid items and kernels go where a renaming leads.
use Rattle.std.proofs.Common.{◌++◌, ◌∙◌, ◌∷◌, ◌≡◌, List, [], ap, drop, inl, inr, map, refl, subst, sym, ℕ}
use Rattle.std.specs.List.{drop-map}
use Rattle.std.proofs.lemmas.List.{map-append}
use Rattle.wb_base.specs.declared.symbol.Symbol.{Symbol}
use Rattle.wb_base.specs.declared.symbol.Symbol.TheVariants.{Nonterminal, Terminal}
use Rattle.wb_base.specs.Grammar.{GrammarView}
use Rattle.wb_grammar_theory.specs.declared.item.Item.{Item}
use Rattle.wb_grammar_theory.proofs.DotLemmas.{after_initial, after_start}
use Rattle.wb_grammar_theory.specs.Derives.{Derives, IsFirst, IsText, done, expand, keep, empty, next}
use Rattle.wb_grammar_theory.specs.Items.{HasItem, IsKernelItem, IsValidItem, IsViablePrefix, after_dot, close, initial_item, move, start}
use Rattle.wb_grammar_theory.specs.Items.{start_item}
use Rattle.wb_grammar_theory.specs.Productions.{end_of, right_of}
use Rattle.wb_compose_theory.specs.Renamings.{Renaming, renamed, renamed_item}
use Rattle.wb_compose_theory.proofs.RenamingLemmas.{InGrammar, at_rule, at_top, in_grammar}
use Rattle.wb_compose_theory_order.specs.Grammars.{GrammarLeadsTo, IsUndoneBy}
use Rattle.wb_compose_theory_order.specs.Inner.SameGrammars.{IsSameGrammar}

-- a symbol, a list of symbols and an item, there and back
pub symbol_back : {r s : Renaming} → IsUndoneBy r s → (x : Symbol) → renamed s (renamed r x) ≡ x
symbol_back u (Terminal t) = ap Terminal (u.terminal t)
symbol_back u (Nonterminal a) = ap Nonterminal (u.nonterminal a)

pub list_back : {r s : Renaming} → IsUndoneBy r s → (xs : List Symbol) → map (renamed s) (map (renamed r) xs) ≡ xs
list_back u [] = refl
list_back u (x ∷ xs) = let head = symbol_back u x in let tail = list_back u xs in λ z. head z ∷ tail z

pub item_back : {r s : Renaming} → IsUndoneBy r s → (item : Item) → renamed_item s (renamed_item r item) ≡ item
item_back u item = λ z. record { production = u.production item.production z; dot = item.dot }

-- the other way round
pub same_grammar_back : {r s : Renaming} {g k : GrammarView} → IsSameGrammar r s g k → IsSameGrammar s r k g
same_grammar_back same = record { there = same.back; back = same.there; undone = same.redone; redone = same.undone }

module _ {r : Renaming} {g k : GrammarView} (leads : GrammarLeadsTo r g k) where
  rights : (p : ℕ) → InGrammar g p → right_of k (r.production p) ≡ map (renamed r) (right_of g p)
  rights p (at_top is) =
      ap (λ z. right_of k (r.production z)) is ∙
      (ap (right_of k) leads.top ∙
      (after_start k ∙ (ap (λ z. Nonterminal z ∷ []) (sym leads.start) ∙
      sym (ap (λ z. map (renamed r) (right_of g z)) is ∙ ap (map (renamed r)) (after_start g)))))
  rights p (at_rule a right rule) =
      after_initial k (r.production p) (r.nonterminal a) (map (renamed r) right) (leads.production p a right rule) ∙
      sym (ap (map (renamed r)) (after_initial g p a right rule))

  -- what is after a dot
  pub dots : (item : Item) → InGrammar g item.production → after_dot k (renamed_item r item) ≡ map (renamed r) (after_dot g item)
  dots item within = ap (drop item.dot) (rights item.production within) ∙ drop-map (renamed r) item.dot (right_of g item.production)

  pub derives_there : {a x : List Symbol} → Derives g a x → Derives k (map (renamed r) a) (map (renamed r) x)
  derives_there done = done
  derives_there (keep x d) = keep (renamed r x) (derives_there d)
  derives_there (expand p a right u v rule d e is) =
      expand (r.production p) (r.nonterminal a) (map (renamed r) right) (map (renamed r) u) (map (renamed r) v)
      (leads.production p a right rule) (derives_there d) (derives_there e)
      (ap (map (renamed r)) is ∙ map-append (renamed r) u v)

  pub text_there : {v : List Symbol} → IsText v → IsText (map (renamed r) v)
  text_there empty = empty
  text_there (next t text) = next (r.terminal t) (text_there text)

  -- a list with a terminal after it
  ended : (rest : List Symbol) (t : ℕ) → map (renamed r) (rest ++ Terminal t ∷ []) ≡ map (renamed r) rest ++ Terminal (r.terminal t) ∷ []
  ended rest t = map-append (renamed r) rest (Terminal t ∷ [])

  first_there : (rest : List Symbol) (t u : ℕ) → IsFirst g (rest ++ Terminal t ∷ []) u →
      IsFirst k (map (renamed r) rest ++ Terminal (r.terminal t) ∷ []) (r.terminal u)
  first_there rest t u (x, d) = (
    map (renamed r) x,
    subst (λ z. Derives k z (Terminal (r.terminal u) ∷ map (renamed r) x)) (ended rest t) (derives_there d),
  )

  pub valid_there : {prefix : List Symbol} {item : Item} {t : ℕ} → IsValidItem g prefix item t →
      IsValidItem k (map (renamed r) prefix) (renamed_item r item) (r.terminal t)
  valid_there start =
      subst (λ z. IsValidItem k [] (initial_item z) (r.terminal (end_of g))) (sym leads.top)
      (subst (λ z. IsValidItem k [] (start_item k) z) (sym leads.end_of_text) start)
  valid_there (close item t b rest q u right v is rule first) =
      close (renamed_item r item) (r.terminal t) (r.nonterminal b) (map (renamed r) rest) (r.production q) (r.terminal u)
      (map (renamed r) right) (valid_there v) (dots item (in_grammar v) ∙ ap (map (renamed r)) is) (leads.production q b right rule)
      (first_there rest t u first)
  valid_there (move item x rest prefix v is longer_is moved_is) =
      move (renamed_item r item) (renamed r x) (map (renamed r) rest) (map (renamed r) prefix) (valid_there v)
      (dots item (in_grammar v) ∙ ap (map (renamed r)) is) (ap (map (renamed r)) longer_is ∙ map-append (renamed r) prefix (x ∷ []))
      (ap (renamed_item r) moved_is)

  pub has_there : {prefix : List Symbol} {item : Item} → HasItem g prefix item → HasItem k (map (renamed r) prefix) (renamed_item r item)
  has_there (t, v) = (r.terminal t, valid_there v)

  pub viable_there : {prefix : List Symbol} → IsViablePrefix g prefix → IsViablePrefix k (map (renamed r) prefix)
  viable_there (item, t, v) = (renamed_item r item, r.terminal t, valid_there v)

  pub kernel_there : (prefix : List Symbol) (item : Item) → IsKernelItem g prefix item →
      IsKernelItem k (map (renamed r) prefix) (renamed_item r item)
  kernel_there prefix item (has, inl moved) = (has_there has, inl moved)
  kernel_there prefix item (has, inr (is, none_before)) =
      (has_there has, inr (ap (renamed_item r) is ∙ ap initial_item leads.top, ap (map (renamed r)) none_before))
