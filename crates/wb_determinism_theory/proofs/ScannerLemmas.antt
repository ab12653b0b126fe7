-- Clashes at a kernel of the host, in numbers.
use Rattle.std.proofs.Common.{◌∙◌, ◌≡◌, ◌≢◌, ◌⊎◌, ◌<◌, ◌≤◌, List, ap, inl, inr, subst, sym, ℕ}
use Rattle.std.proofs.lemmas.Bool.{cases_eq}
use Rattle.wb_automata.specs.Automata.{IsMatch}
use Rattle.wb_base.specs.declared.symbol.Symbol.{Symbol}
use Rattle.wb_base.specs.Grammar.{GrammarView}
use Rattle.wb_determinism_contexts.specs.Considered.{HasNoClashAt, IsClashAt, IsConsideredAt, LexiconView}
use Rattle.wb_grammar_theory.specs.Items.{HoldsFrom, IsViablePrefix}
use Rattle.wb_grammar_theory.specs.Lookaheads.{IsValidTerminal}
use Rattle.wb_lexical.specs.Clash.{AreOrdered}
use Rattle.wb_termset.specs.Sets.{IsMember}
use Rattle.wb_compose_theory.specs.Numbered.{IsHostKernel}
use Rattle.wb_compose_theory.specs.Renamings.{Renaming}
use Rattle.wb_determinism_theory.specs.Beside.{IsKeptBeside}
use Rattle.wb_determinism_theory.specs.Lexicons.{AreMarkersTold, ExtendsLexicon, IsBesideMarkers}

module _ {g k : GrammarView} {up : Renaming} {phi : ℕ → ℕ} (l n : LexiconView) (kept : IsKeptBeside g k up phi)
    (extends : ExtendsLexicon l n up phi) (told : AreMarkersTold l n up phi) (prefix other : List Symbol)
    (is : IsHostKernel g k up prefix other) (viable : IsViablePrefix g other) where
  -- the host considers it, and not as an extension's layout
  abbrev IsOfHost : ℕ → Type 0
  IsOfHost u = ((u < l.scanned) × IsValidTerminal g other u) ⊎ IsMember l.layout u

  -- what is considered is a marker, or what the host considers
  data Seen (t : ℕ) : Type 0 where
    marker : phi t ≢ t → Seen t
    of_host : (u : ℕ) → t ≡ up.terminal u → IsOfHost u → IsBesideMarkers l n up phi t → Seen t

  -- the kernel holds no item of the extension
  none_held : HoldsFrom k prefix n.own_productions.0 n.own_productions.1 → ⊥
  none_held (item, held, from, to) =
      let (i, item_is) = is.within item held in
      let moved : item.production ≡ up.production i.production = ap (λ z. z.production) item_is in
      extends.own i.production (subst (λ z. n.own_productions.0 ≤ z) moved from) (subst (λ z. z < n.own_productions.1) moved to)

  seen : (t : ℕ) → IsConsideredAt k n prefix t → Seen t
  seen t (inr (inl skipped)) = let (u, t_is, m) = extends.layout t skipped in of_host u t_is (inr m) (inr (inl skipped))
  seen t (inr (inr (skipped, held))) = absurd (none_held held)
  seen t (inl (scanned, x)) = elim (cases_eq (phi t) t) [
    | inl stays ↦ host stays ((kept.valid prefix other is t).0 x).1
    | inr differ ↦ marker differ
  ]
    where
      host : phi t ≡ t → (u : ℕ) × (up.terminal u ≡ phi t) × IsValidTerminal g other u → Seen t
      host stays (u, u_is, y) =
          let t_is : t ≡ up.terminal u = sym (u_is ∙ stays) in
          let near : u < l.scanned = extends.scanned u (subst (λ z. z < n.scanned) t_is scanned) in
          of_host u t_is (inl (near, y)) (inl (u, t_is, near))

  beside : (t : ℕ) → Seen t → IsBesideMarkers l n up phi t
  beside t (marker ne) = inr (inr ne)
  beside t (of_host u t_is c b) = b

  turned : (t u : ℕ) → AreOrdered n.preferences t u → AreOrdered n.preferences u t
  turned t u (inl x) = inr x
  turned t u (inr x) = inl x

  within : (u : ℕ) → IsOfHost u → (u < l.scanned) ⊎ IsMember l.layout u
  within u (inl x) = inl x.0
  within u (inr x) = inr x

  considered : (u : ℕ) → IsOfHost u → IsConsideredAt g l other u
  considered u (inl x) = inl x
  considered u (inr x) = inr (inl x)

  -- no two clash
  pub no_clash : HasNoClashAt g l → (left right : ℕ) (text : List ℕ) → ¬ IsClashAt k n prefix left right text
  no_clash none left right text c = go (seen left c.left_considered) (seen right c.right_considered)
    where
      go : Seen left → Seen right → ⊥
      go (marker ne) s = c.unordered (told left right text ne c.different (beside right s) c.left_matches c.right_matches)
      go s (marker ne) =
          c.unordered (turned right left
          (told right left text ne (λ z. c.different (sym z)) (beside left s) c.right_matches c.left_matches))
      go (of_host u u_is cu bu) (of_host v v_is cv bv) =
          none other u v text (record {
            viable = viable;
            different = λ z. c.different (u_is ∙ (ap up.terminal z ∙ sym v_is));
            left_considered = considered u cu;
            right_considered = considered v cv;
            left_matches = extends.matches u (within u cu) text (subst (λ z. IsMatch n.expressions z text) u_is c.left_matches);
            right_matches = extends.matches v (within v cv) text (subst (λ z. IsMatch n.expressions z text) v_is c.right_matches);
            unordered = λ o. c.unordered (subst (λ z. AreOrdered n.preferences z right) (sym u_is)
                (subst (AreOrdered n.preferences (up.terminal u)) (sym v_is) (extends.ordered u v o)));
          })
