-- The kernel after a marker at a kernel of the host: the items of the productions that the marker begins, wherever that is.
use Rattle.std.proofs.Common.{◌≡◌, ◌≢◌, ◌∙◌, ◌∷◌, ◌++◌, [], List, ℕ, map, refl, sym, ap, subst, inl, inr, arith}
use Rattle.std.specs.Prelude.{◌↔◌, Option}
use Rattle.wb_base.specs.declared.symbol.Symbol.{Symbol}
use Rattle.wb_base.specs.declared.symbol.Symbol.TheVariants.{Terminal}
use Rattle.wb_base.specs.Grammar.{GrammarView}
use Rattle.wb_grammar_theory.specs.declared.item.Item.{Item}
use Rattle.wb_grammar_theory.specs.Items.{HasItem, IsKernelItem, IsViablePrefix, advance, after_dot, initial_item, move}
use Rattle.wb_grammar_theory.specs.Productions.{IsProduction}
use Rattle.wb_grammar_theory.proofs.DotLemmas.{after_initial}
use Rattle.wb_grammar_theory.proofs.KernelLemmas.{moved_from, snoc_not_nil}
use Rattle.wb_grammar_theory.proofs.ValidLemmas.{before_last}
use Rattle.wb_items.specs.Kernels.{KernelsView}
use Rattle.wb_compose_theory.specs.Numbered.{IsHostKernel}
use Rattle.wb_compose_theory.specs.Renamings.{renamed}
use Rattle.wb_compose_theory.proofs.RenamingLemmas.{split_list, terminal_of}
use Rattle.wb_determinism_theory.specs.Beside.{StandsAs, bridge, itself}
use Rattle.wb_determinism_kernels.specs.declared.numbers.Numbers.{Numbers}
use Rattle.wb_determinism_kernels.specs.Given.{IsGiven}
use Rattle.wb_determinism_kernels.specs.NewKernels.{BeginsWith}
use Rattle.wb_determinism_kernels.specs.Numbers.{phi_by, up_by}

-- the item is the initial one of a production of k that the marker begins, and the host has the initial item of one that its hole begins
pub record Crosses (host : KernelsView) (k : GrammarView) (m : Numbers) (images : List (Option ℕ)) (other : List Symbol) (marker : ℕ)
    (item : Item) : Type 0 where
  pub q : ℕ
  pub a : ℕ
  pub rest : List Symbol
  pub rule : IsProduction k q a (Terminal marker ∷ rest)
  pub is : item ≡ initial_item q
  pub hole : ℕ
  pub up_is : (up_by m).terminal hole ≡ phi_by m images marker
  pub p : ℕ
  pub has : HasItem host.grammar other (initial_item p)
  pub begins : BeginsWith host.grammar hole (initial_item p)

module _ {host : KernelsView} {k : GrammarView} {m : Numbers} {images : List (Option ℕ)} (given : IsGiven host k m images)
    (prefix other : List Symbol) (is_host : IsHostKernel host.grammar k (up_by m) prefix other) (marker : ℕ)
    (ne : phi_by m images marker ≢ marker) where
  -- an item before a marker
  pub crosses : (item : Item) (rest : List Symbol) → HasItem k prefix item → after_dot k item ≡ Terminal marker ∷ rest →
      Crosses host k m images other marker item
  crosses item rest has is =
      let known = (given.beside.items prefix other is_host item).0 has in
      go known.own known.stands known.has
    where
      go : (own : Item) → StandsAs host.grammar k (up_by m) (phi_by m images) item own → HasItem host.grammar other own →
          Crosses host k m images other marker item
      go own (itself i_is) has_own =
          let here : map (renamed (up_by m)) (after_dot host.grammar own) ≡ Terminal marker ∷ rest =
          sym (given.beside.dots other own has_own) ∙ (ap (after_dot k) (sym i_is) ∙ is) in
          let (y, more, dot_is, y_is, more_is) = split_list (up_by m) (after_dot host.grammar own) (Terminal marker) rest here in
          let (u, u_is, up_is) = terminal_of (up_by m) y marker y_is in
          absurd (ne (ap (phi_by m images) (sym up_is) ∙ (given.themselves u ∙ up_is)))
      go own (bridge mark hole q p a b rest' right ne' up_is of_k of_g i_is own_is) has_own =
          let f : Terminal marker ∷ rest ≡ Terminal mark ∷ rest' =
          sym is ∙ (ap (after_dot k) i_is ∙ after_initial k q a (Terminal mark ∷ rest') of_k) in
          let mark_is : mark ≡ marker = cc in
          record {
            q = q;
            a = a;
            rest = rest';
            rule = subst (λ z. IsProduction k q a (Terminal z ∷ rest')) mark_is of_k;
            is = i_is;
            hole = hole;
            up_is = up_is ∙ ap (phi_by m images) mark_is;
            p = p;
            has = subst (HasItem host.grammar other) own_is has_own;
            begins = (b, right, of_g, refl);
          }

  -- and the other way round
  pub crosses_back : (hole p : ℕ) → (up_by m).terminal hole ≡ phi_by m images marker → HasItem host.grammar other (initial_item p) →
      BeginsWith host.grammar hole (initial_item p) → (q a : ℕ) (rest : List Symbol) → IsProduction k q a (Terminal marker ∷ rest) →
      HasItem k prefix (initial_item q)
  crosses_back hole p up_is has (b, right, of_g, e) q a rest of_k =
      (given.beside.items prefix other is_host (initial_item q)).1 (record {
        own = initial_item p;
        stands = bridge marker hole q p a b rest right ne up_is of_k of_g refl refl;
        has = has;
      })

  -- the kernel after the marker
  pub crossed_kernel : (hole p : ℕ) → (up_by m).terminal hole ≡ phi_by m images marker → HasItem host.grammar other (initial_item p) →
      BeginsWith host.grammar hole (initial_item p) → (item : Item) → IsKernelItem k (prefix ++ Terminal marker ∷ []) item ↔
      ((q a : ℕ) × (rest : List Symbol) × IsProduction k q a (Terminal marker ∷ rest) × (item ≡ advance (initial_item q)))
  crossed_kernel hole p up_is has begins item = (there, back)
    where
      there : IsKernelItem k (prefix ++ Terminal marker ∷ []) item →
          (q a : ℕ) × (rest : List Symbol) × IsProduction k q a (Terminal marker ∷ rest) × (item ≡ advance (initial_item q))
      there ((t, v), inl dot) =
          let from = moved_from v dot prefix (Terminal marker) refl in
          let c = crosses from.item from.rest (t, from.valid) from.before_dot in
          (c.q, c.a, c.rest, c.rule, from.is ∙ ap advance c.is)
      there (has', inr (is, empty)) = absurd (snoc_not_nil prefix (Terminal marker) empty)

      back : (q a : ℕ) × (rest : List Symbol) × IsProduction k q a (Terminal marker ∷ rest) × (item ≡ advance (initial_item q)) →
          IsKernelItem k (prefix ++ Terminal marker ∷ []) item
      back (q, a, rest, rule, is) =
          let (t, v) = crosses_back hole p up_is has begins q a rest rule in (
            (t, move (initial_item q) (Terminal marker) rest prefix v (after_initial k q a (Terminal marker ∷ rest) rule) refl is),
            inl (λ none. let dot : item.dot ≡ 1 = ap (λ (i : Item). i.dot) is in omega (arith, dot, none)),
          )

  -- where the marker leads somewhere, its hole is there
  pub crossing_there : IsViablePrefix k (prefix ++ Terminal marker ∷ []) →
      (item : Item) × Crosses host k m images other marker item
  crossing_there (item, t, v) =
      let (from, rest, has, is) = before_last v prefix (Terminal marker) refl in
      (from, crosses from rest has is)
