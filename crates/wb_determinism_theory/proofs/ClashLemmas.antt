-- Clashes at a kernel of the host with holes.
use Rattle.std.proofs.Common.{◌≡◌, ◌⊎◌, List, ap, inl, inr, refl, subst, sym, ℕ, ◌∙◌}
use Rattle.std.specs.Prelude.{IsTrue}
use Rattle.wb_base.specs.declared.symbol.Symbol.{Symbol}
use Rattle.wb_base.specs.declared.symbol.Symbol.TheVariants.{Terminal}
use Rattle.wb_compose_theory.proofs.StepLemmas.{item_source}
use Rattle.wb_compose_theory.proofs.TerminalLemmas.{valid_named}
use Rattle.wb_compose_theory.specs.Items.{SameKernelIn}
use Rattle.wb_compose_theory.specs.Lookaheads.{IsValidTerminalIn}
use Rattle.wb_compose_theory.specs.Worlds.{Has, IsSymbolIn, Mark, Owner, World, bare, both, extension, hole, host, on, plus, top}
use Rattle.wb_determinism_theory.specs.Known.{IsMarkerOf, IsSourced, KeepsAt}
use Rattle.wb_determinism_theory.specs.Laws.{AreMarkersClear, HasNoClashIn, HoldsItemIn, IsConsideredIn, IsPrepared, Lexicon}
use Rattle.wb_determinism_theory.proofs.ActionLemmas.{bare_known}

-- what is considered with the extension: what is considered without it, or a marker
data Seen (w : World) (e : ℕ) (l : Lexicon) (other : List Symbol) (t : ℕ) : Type 0 where
  layout : IsTrue (l.layout t) → Seen w e l other t
  of_host : IsTrue (l.scanned t) → IsSymbolIn w plus (Terminal t) → IsValidTerminalIn w plus other t → Seen w e l other t
  marker : IsMarkerOf w e (Terminal t) → Seen w e l other t

module _ {w : World} {e : ℕ} (ready : IsPrepared w e) (l : Lexicon) (clear : AreMarkersClear w e l) (other prefix : List Symbol)
    (same : SameKernelIn w plus other (both e) prefix) (keeps : KeepsAt w e other prefix) where
  -- the kernel holds no item of the extension
  none_held : HoldsItemIn w e (both e) prefix → ⊥
  none_held (i, held, owner) = by (item_source ((same i).1 held).0.1)
    where
      by : IsSourced w plus i.production → ⊥
      by (inl is) = absurd (cc (sym owner ∙ ap w.production_owner is ∙ ready.is_marked.start.top_owner))
      by (inr rule) = subst (Has plus) owner rule

  seen : (t : ℕ) → IsConsideredIn w e (both e) l prefix t → Seen w e l other t
  seen t (inr (inl skipped)) = layout skipped
  seen t (inr (inr (skipped, held))) = absurd (none_held held)
  seen t (inl (scanned, x)) = go (w.mark t) refl (w.symbol_owner (Terminal t)) refl (valid_named ready.is_marked prefix t x)
    where
      when_bare : w.mark t ≡ bare → Seen w e l other t
      when_bare mark =
          let (named, v) = bare_known ready.is_marked ready.host ready.both_parts other prefix same keeps t mark x in
          of_host scanned named v

      go : (m : Mark) → w.mark t ≡ m → (o : Owner) → w.symbol_owner (Terminal t) ≡ o → Has (both e) (w.symbol_owner (Terminal t)) →
          Seen w e l other t
      go bare mark o is has = when_bare mark
      go (on a) mark host is has = when_bare (clear.no_holes t scanned (subst (Has plus) (sym is) tt))
      go (on a) mark hole is has = when_bare (clear.no_holes t scanned (subst (Has plus) (sym is) tt))
      go (on a) mark (extension k) is has =
          let e' : k ≡ e = subst (Has (both e)) is has in
          marker (record { terminal = t; nonterminal = a; is = refl; mark = mark; owner = is ∙ ap extension e' })
      go (on a) mark top is has = absurd (subst (Has (both e)) is has)

  -- beside a marker
  beside : (t : ℕ) → Seen w e l other t → IsSymbolIn w plus (Terminal t) ⊎ (IsTrue (l.layout t) ⊎ IsMarkerOf w e (Terminal t))
  beside t (layout skipped) = inr (inl skipped)
  beside t (of_host scanned named v) = inl named
  beside t (marker m) = inr (inr m)

  -- no two clash
  pub no_clash_known : HasNoClashIn w e plus l other → HasNoClashIn w e (both e) l prefix
  no_clash_known none t u x y = go (seen t x) (seen u y)
    where
      go : Seen w e l other t → Seen w e l other u → ¬ IsTrue (l.clash t u)
      go (marker m) s = clear.left t u m (beside u s)
      go s (marker m) = clear.right u t m (beside t s)
      go (layout a) (layout b) = none t u (inr (inl a)) (inr (inl b))
      go (layout a) (of_host sb nb vb) = none t u (inr (inl a)) (inl (sb, vb))
      go (of_host sa na va) (layout b) = none t u (inl (sa, va)) (inr (inl b))
      go (of_host sa na va) (of_host sb nb vb) = none t u (inl (sa, va)) (inl (sb, vb))
