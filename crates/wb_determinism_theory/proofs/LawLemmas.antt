-- The laws, from the lemmas.
use Rattle.std.proofs.Common.{◌++◌, ◌∷◌, ◌≡◌, ◌⊎◌, List, [], inl, inr, refl, ℕ}
use Rattle.wb_base.specs.declared.symbol.Symbol.{Symbol}
use Rattle.wb_base.specs.declared.symbol.Symbol.TheVariants.{Nonterminal, Terminal}
use Rattle.wb_grammar_theory.specs.declared.item.Item.{Item}
use Rattle.wb_grammar_theory.specs.Items.{advance, initial_item}
use Rattle.wb_compose_theory.proofs.ActionLemmas.{same_has}
use Rattle.wb_compose_theory.proofs.KernelLemmas.{chain, flip, item_step}
use Rattle.wb_compose_theory.specs.Derives.{AreProductiveIn, IsFirstIn}
use Rattle.wb_compose_theory.specs.Items.{SameKernelIn, after_dot_in, close, move}
use Rattle.wb_compose_theory.specs.Lookaheads.{IsLookaheadIn}
use Rattle.wb_compose_theory.specs.Marks.{IsMarked}
use Rattle.wb_compose_theory.specs.Worlds.{IsProductionIn, Part, World, both, plus}
use Rattle.wb_determinism_theory.specs.Known.{IsMarkerOf, KeepsAt}
use Rattle.wb_determinism_theory.specs.Laws.{IsKept, IsKnownAt, IsPrepared}
use Rattle.wb_determinism_theory.proofs.ActionLemmas.{bare_known, no_conflict_known, valid_known}
use Rattle.wb_determinism_theory.proofs.KnownLemmas.{Stays, item_known, known_closes, known_exact, known_item_true}
use Rattle.wb_determinism_theory.proofs.KnownLemmas.{known_moves, known_true, stays}

pub known_at : {w : World} {e : ℕ} → IsPrepared w e → (other prefix : List Symbol) → SameKernelIn w plus other (both e) prefix →
    IsKnownAt w e other prefix
known_at {w} {e} ready other prefix same = record {
  items = λ i. ((λ (t, v). item_known ok p same v), known_item_true ok p q other prefix same i);
  true = known_true ok p q other prefix same;
  closed = known_closes ok q other;
  moved = λ i t x rest k is. known_moves ok p other i t x rest k is;
  stays = λ i x rest has is. over x (stays ok p q same (has.1) x rest is);
}
  where
    ok : IsMarked w
    ok = ready.is_marked

    p : AreProductiveIn w plus
    p = ready.host

    q : AreProductiveIn w (both e)
    q = ready.both_parts

    over : (x : Symbol) {i : Item} → IsMarkerOf w e x ⊎ Stays w e other prefix x i →
        IsMarkerOf w e x ⊎ SameKernelIn w plus (other ++ x ∷ []) (both e) (prefix ++ x ∷ [])
    over x (inl m) = inl m
    over x (inr s) = inr s.same

pub kept : {w : World} {e : ℕ} → IsPrepared w e → (other prefix : List Symbol) → SameKernelIn w plus other (both e) prefix →
    KeepsAt w e other prefix → IsKept w e other prefix
kept {w} {e} ready other prefix same keeps = record {
  lookaheads = λ i t. (
    known_exact ready.is_marked other prefix same keeps i t,
    known_true ready.is_marked ready.host ready.both_parts other prefix same i t,
  );
  no_conflict = no_conflict_known ready.is_marked ready.host ready.both_parts other prefix same keeps;
  valid = valid_known ready.is_marked ready.host ready.both_parts other prefix same keeps;
  unmarked = bare_known ready.is_marked ready.host ready.both_parts other prefix same keeps;
}

-- steps keep truth, in any part
pub looks_close : {w : World} {part : Part} → (prefix : List Symbol) (i : Item) (t b : ℕ) (rest : List Symbol) (q u : ℕ) →
    IsLookaheadIn w part prefix i t → after_dot_in w i ≡ Nonterminal b ∷ rest → IsProductionIn w part q → w.left q ≡ b →
    IsFirstIn w part (rest ++ Terminal t ∷ []) u → IsLookaheadIn w part prefix (initial_item q) u
looks_close prefix i t b rest q u (o, same, v) is rule left f = (o, same, close i t b rest q u v is rule left f)

pub looks_move : {w : World} {part : Part} → IsMarked w → AreProductiveIn w part → (prefix to : List Symbol) (i : Item) (t : ℕ) (x : Symbol)
    (rest : List Symbol) → IsLookaheadIn w part prefix i t → after_dot_in w i ≡ x ∷ rest →
    SameKernelIn w part to part (prefix ++ x ∷ []) → IsLookaheadIn w part to (advance i) t
looks_move {w} {part} ok p prefix to i t x rest (o, same, v) is leads =
    let (u, v') = same_has ok p o prefix (flip same) v in
    (o ++ x ∷ [], chain leads (item_step ok p p x rest same v' v is), move i x rest o v is refl refl)
