-- Which parts lie in which, and that each is productive.
use Rattle.std.proofs.Common.{◌<◌, ◌≡◌, refl, subst, sym, ℕ}
use Rattle.wb_base.specs.declared.symbol.Symbol.TheVariants.{Nonterminal}
use Rattle.wb_compose_theory.proofs.DerivesLemmas.{derives_more}
use Rattle.wb_compose_theory.specs.Composable.{IsComposableExtensionIn, IsComposableHostIn}
use Rattle.wb_compose_theory.specs.Derives.{AreProductiveIn, IsProductiveIn}
use Rattle.wb_compose_theory.specs.Homes.{AreComposableApart, Home, IsListed, of, of_host, part_of}
use Rattle.wb_compose_theory.specs.Marks.{IsMarked}
use Rattle.wb_compose_theory.specs.Worlds.{Has, HasHoles, Owner, Part, World, alone, both, extension, hole, host, plain, plus, top, union}

-- the host is in each part
pub plain_in : (part : Part) (o : Owner) → Has plain o → Has part o
plain_in part host h = tt
plain_in part hole h = absurd h
plain_in part (extension k) h = absurd h
plain_in part top h = h

-- the host with holes is in each certified grammar
pub plus_in : (home : Home) (o : Owner) → Has plus o → Has (part_of home) o
plus_in of_host o h = h
plus_in (of e) host h = tt
plus_in (of e) hole h = tt
plus_in (of e) (extension k) h = absurd h
plus_in (of e) top h = h

-- the host with an extension is in that with holes
pub alone_in_both : (e : ℕ) (o : Owner) → Has (alone e) o → Has (both e) o
alone_in_both e host h = tt
alone_in_both e hole h = absurd h
alone_in_both e (extension k) h = h
alone_in_both e top h = h

-- it is in the union
pub alone_in_union : (n e : ℕ) → e < n → (o : Owner) → Has (alone e) o → Has (union n) o
alone_in_union n e lt host h = tt
alone_in_union n e lt hole h = absurd h
alone_in_union n e lt (extension k) h = subst (λ z. z < n) (sym h) lt
alone_in_union n e lt top h = h

-- a certified grammar has the holes
pub home_holes : (home : Home) → HasHoles (part_of home)
home_holes of_host = tt
home_holes (of e) = tt

-- what is productive in a part is so in a larger part
productive_more : {w : World} {part other : Part} {a : ℕ} → ((o : Owner) → Has part o → Has other o) → IsProductiveIn w part a →
    IsProductiveIn w other a
productive_more more (v, d, text) = (v, derives_more more d, text)

-- the host with holes is productive if the host is
pub plus_productive : {w : World} → IsMarked w → AreProductiveIn w plain → AreProductiveIn w plus
plus_productive {w} ok live a = go (w.symbol_owner (Nonterminal a)) refl
  where
    go : (o : Owner) → w.symbol_owner (Nonterminal a) ≡ o → Has plus (w.symbol_owner (Nonterminal a)) → IsProductiveIn w plus a
    go host e has = productive_more (plain_in plus) (live a (subst (Has plain) (sym e) tt))
    go hole e has = absurd (ok.named.no_hole a e)
    go (extension k) e has = absurd (subst (Has plus) e has)
    go top e has = absurd (subst (Has plus) e has)

-- the host with holes and an extension is productive if the host with the extension is
pub both_productive : {w : World} → IsMarked w → (e : ℕ) → AreProductiveIn w (alone e) → AreProductiveIn w (both e)
both_productive {w} ok k live a = go (w.symbol_owner (Nonterminal a)) refl
  where
    go : (o : Owner) → w.symbol_owner (Nonterminal a) ≡ o → Has (both k) (w.symbol_owner (Nonterminal a)) → IsProductiveIn w (both k) a
    go host e has = productive_more (alone_in_both k) (live a (subst (Has (alone k)) (sym e) tt))
    go hole e has = absurd (ok.named.no_hole a e)
    go (extension j) e has =
        productive_more (alone_in_both k) (live a (subst (Has (alone k)) (sym e) (subst (Has (both k)) e has)))
    go top e has = absurd (subst (Has (both k)) e has)

-- the host with holes is productive
pub productive_plus : {w : World} → IsMarked w → IsComposableHostIn w → AreProductiveIn w plus
productive_plus ok h = plus_productive ok h.fit.reduced.productive

-- the host with holes and an extension is productive
pub productive_both : {w : World} → IsMarked w → (e : ℕ) → IsComposableExtensionIn w e → AreProductiveIn w (both e)
productive_both ok e x = both_productive ok e x.fit.reduced.productive

-- each certified grammar is productive
pub productive_home : {w : World} {n : ℕ} → IsMarked w → AreComposableApart w n → (home : Home) → IsListed n home →
    AreProductiveIn w (part_of home)
productive_home ok c of_host l = productive_plus ok c.of_host
productive_home ok c (of e) l = productive_both ok e (c.of_extension e l)

-- the union is productive
pub productive_union : {w : World} → IsMarked w → (n : ℕ) → AreComposableApart w n → AreProductiveIn w (union n)
productive_union {w} ok n c a = go (w.symbol_owner (Nonterminal a)) refl
  where
    go : (o : Owner) → w.symbol_owner (Nonterminal a) ≡ o → Has (union n) (w.symbol_owner (Nonterminal a)) → IsProductiveIn w (union n) a
    go host e has = productive_more (plain_in (union n)) (c.of_host.fit.reduced.productive a (subst (Has plain) (sym e) tt))
    go hole e has = absurd (ok.named.no_hole a e)
    go (extension j) e has =
        let lt : j < n = subst (Has (union n)) e has in
        productive_more (alone_in_union n j lt) ((c.of_extension j lt).fit.reduced.productive a (subst (Has (alone j)) (sym e) refl))
    go top e has = absurd (subst (Has (union n)) e has)
