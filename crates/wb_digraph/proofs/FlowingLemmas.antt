-- What spreads along links to the numbers of items is what flows to the items.
use Rattle.std.proofs.Common.{◌≡◌, ℕ, ◌+◌, ◌<◌, ◌⊎◌, List, [], ◌∷◌, ◌++◌, refl, sym, ◌∙◌, ap, subst, inl, inr, arith}
use Rattle.std.specs.Prelude.{◌↔◌}
use Rattle.wb_base.specs.declared.symbol.Symbol.{Symbol}
use Rattle.wb_base.specs.declared.symbol.Symbol.TheVariants.{Terminal, Nonterminal}
use Rattle.wb_base.specs.Grammar.{GrammarView}
use Rattle.wb_grammar_theory.specs.declared.item.Item.{Item}
use Rattle.wb_grammar_theory.specs.Productions.{IsProduction, end_of, top_of}
use Rattle.wb_grammar_theory.specs.Derives.{Derives}
use Rattle.wb_grammar_theory.specs.Items.{HasItem, IsValidItem, advance, after_dot, initial_item, start_item}
use Rattle.wb_grammar_theory.specs.Items as valid
use Rattle.wb_grammar_theory.specs.States as flows
use Rattle.wb_grammar_theory.proofs.DerivesLemmas.{Derives-same, Derives-append}
use Rattle.wb_grammar_theory.proofs.DotLemmas.{Begun, after_advance, after_start, begun, within, behind, top_no_production}
use Rattle.wb_grammar_theory.proofs.FlowLemmas.{flows_has, flows_within, onward, zero_state}
use Rattle.wb_grammar_theory.proofs.ProductionLemmas.{production_once}
use Rattle.wb_items.specs.Apart.{BelongTogether, Opens}
use Rattle.wb_items.specs.Kernels.{KernelsView, AreKernels, LeadsTo, count_of, prefix_of}
use Rattle.wb_digraph.specs.Relations.{IsRead, shifts, at_end, direct, later, read}
use Rattle.wb_digraph.specs.Inner.Links.{ComesDirectly, FlowsIn, IsLink, IsNumbering, IsReadFrom, ReadsOn, Shifts}
use Rattle.wb_digraph.specs.Inner.Links.{ends, reads}
use Rattle.wb_digraph.specs.Inner.Spreading.{Spreads, here, there}
use Rattle.wb_digraph.proofs.RelationSound.{follow_sound, not_first}
use Rattle.wb_digraph.proofs.RelationComplete.{reads_of}

module _ {kernels : KernelsView} (h : AreKernels kernels) where
  abbrev IsReadBy : ℕ → ℕ → ℕ → Type 0
  IsReadBy s a t = IsRead kernels.grammar (LeadsTo kernels) s a t

  -- what is read from a kernel is read by each move that leads there
  read_by : {r t : ℕ} → IsReadFrom kernels r t → (s b : ℕ) → LeadsTo kernels s (Nonterminal b) r → IsReadBy s b t
  read_by {r} (here (next, leads')) s b leads = direct (shifts r next leads leads')
  read_by {r} (there next (c, leads', empty) from) s b leads =
      later r c (record { moves = leads; on = (next, leads'); empty = empty }) (read_by from r c leads')

  -- what a move reads is read from where it leads, or is the end
  read_from : {s a t : ℕ} → IsReadBy s a t → ((next : ℕ) × LeadsTo kernels s (Nonterminal a) next × IsReadFrom kernels next t) ⊎
      ((s ≡ 0) × (a ≡ kernels.grammar.start) × (t ≡ end_of kernels.grammar))
  read_from (direct (shifts s' s'' leads leads')) = inl (s', leads, here (s'', leads'))
  read_from (direct (at_end zero start is)) = inr (zero, start, is)
  read_from {s} {a} {t} (later s' c r i) = elim (read_from i) [
    | inl (next, leads, from) ↦ inl (s', r.moves, there next (c, leads, r.empty) from)
    | inr (zero, _, _) ↦ absurd (not_first (prefix_of kernels) h.live h.states s (Nonterminal a) s' r.moves zero)
  ]

  -- it flows to what the nonterminal opens
  read_flows : (s b next t : ℕ) → LeadsTo kernels s (Nonterminal b) next → IsReadFrom kernels next t → (q : ℕ) (right : List Symbol) →
      IsProduction kernels.grammar q b right → FlowsIn kernels s (initial_item q) t
  read_flows s b next t leads from q right rule =
      let f = follow_sound (prefix_of kernels) h.live h.states (read (read_by from s b leads)) in
      flows.close f.item f.look b f.rest q t right f.flows f.before_dot rule f.first

  -- what flows to all that a nonterminal opens flows to an item that belongs to it
  together_flows : (s t : ℕ) (item : Item) (q b : ℕ) (right : List Symbol) → IsProduction kernels.grammar q b right →
      BelongTogether kernels.grammar item (initial_item q) →
      ((p : ℕ) (other : List Symbol) → IsProduction kernels.grammar p b other → FlowsIn kernels s (initial_item p) t) →
      FlowsIn kernels s item t
  together_flows s t item q b right rule (inl same) each = subst (λ z. FlowsIn kernels s z t) (sym same) (each q right rule)
  together_flows s t item q b right rule (inr (c, (dot, one, rule_one), (_, two, rule_two))) each =
      let same : c ≡ b = (production_once kernels.grammar q c b two right rule_two rule).0 in
      let is : initial_item item.production ≡ item = λ j. record { production = item.production; dot = sym dot j } in
      subst (λ z. FlowsIn kernels s z t) is
      (each item.production one (subst (λ z. IsProduction kernels.grammar item.production z one) same rule_one))

  module _ (Number : ℕ → Item → ℕ → Type 0) (numbering : IsNumbering kernels Number) where
    abbrev Comes : ℕ → ℕ → Type 0
    Comes = Spreads (ComesDirectly kernels Number) (IsLink kernels Number)

    comes_flows : {n t : ℕ} → Comes n t → (s : ℕ) (item : Item) → Number s item n → FlowsIn kernels s item t
    comes_flows {n} {t} (here (reads k q b next right number rule leads from)) s item own =
        let (same, together) = numbering.apart s k item (initial_item q) n own number in
        subst (λ z. FlowsIn kernels z item t) (sym same)
        (together_flows k t item q b right rule together (λ p other rule'. read_flows k b next t leads from p other rule'))
    comes_flows {n} {t} (here (ends number is)) s item own =
        let (same, together) = numbering.apart s 0 item (start_item kernels.grammar) n own number in
        subst (λ z. FlowsIn kernels z item t) (sym same) (subst (λ z. FlowsIn kernels 0 item z) (sym is) (elim together [
          | inl item_is ↦ subst (λ z. FlowsIn kernels 0 z (end_of kernels.grammar)) (sym item_is) flows.start
          | inr (c, _, (_, right, rule)) ↦ absurd (top_no_production kernels.grammar (top_of kernels.grammar) c right rule refl)
        ]))
    comes_flows {n} {t} (there v (k, lt, (other, has, inl (x, rest, next, is, leads, from, to))) comes) s item own =
        let f = flows.move other x rest k (comes_flows comes k other from) is leads refl in
        let (same, together) = numbering.apart s next item (advance other) n own to in
        subst (λ z. FlowsIn kernels z item t) (sym same) (elim together [
          | inl item_is ↦ subst (λ z. FlowsIn kernels next z t) (sym item_is) f
          | inr (c, _, (dot, _, _)) ↦ absurd (omega (arith, dot))
        ])
    comes_flows {n} {t} (there v (k, lt, (other, has, inr (b, rest, q, right, is, empty, rule, from, to))) comes) s item own =
        let f = comes_flows comes k other from in
        let (same, together) = numbering.apart s k item (initial_item q) n own to in
        subst (λ z. FlowsIn kernels z item t) (sym same)
        (together_flows k t item q b right rule together (λ p right' rule'. flows.close other t b rest p t right' f is rule'
        ([], Derives-append empty (Derives-same kernels.grammar (Terminal t ∷ [])))))

    -- what is read comes to what the nonterminal opens
    read_comes : (s b t n q : ℕ) (right : List Symbol) → IsReadBy s b t → s < count_of kernels → Number s (initial_item q) n →
        IsProduction kernels.grammar q b right → Comes n t
    read_comes s b t n q right r lt number rule = elim (read_from r) [
      | inl (next, leads, from) ↦ here (reads s q b next right number rule leads from)
      | inr (zero, start, is) ↦
          let has : HasItem kernels.grammar (prefix_of kernels s) (start_item kernels.grammar) = (
            end_of kernels.grammar,
            subst (λ z. IsValidItem kernels.grammar z (start_item kernels.grammar) (end_of kernels.grammar))
                (sym (ap (prefix_of kernels) zero ∙ h.states.first)) valid.start,
          ) in
          let (v, number') = numbering.given s (start_item kernels.grammar) lt has in
          there v (
            s,
            lt,
            (
              start_item kernels.grammar,
              has,
              inr (
                b,
                [],
                q,
                right,
                after_start kernels.grammar ∙ ap (λ z. Nonterminal z ∷ []) (sym start),
                Derives-same kernels.grammar [],
                rule,
                number',
                number,
              ),
            ),
          )
          (here (ends (subst (λ z. Number z (start_item kernels.grammar) v) zero number') is))
    ]

    flows_comes : {s : ℕ} {item : Item} {t : ℕ} → FlowsIn kernels s item t → (n : ℕ) → Number s item n → Comes n t
    flows_comes flows.start n number = here (ends number refl)
    flows_comes (flows.move item x rest s {t} {s'} {moved} f is leads moved_is) n number =
        let lt = flows_within (prefix_of kernels) h.states f in
        let has = flows_has (prefix_of kernels) h.live h.states f in
        let (v, from) = numbering.given s item lt has in
        there v (s, lt, (item, has, inl (x, rest, s', is, leads, from, subst (λ z. Number s' z n) moved_is number))) (flows_comes f v from)
    flows_comes {s} (flows.close item t b rest q u right f is rule first) n number =
        let lt = flows_within (prefix_of kernels) h.states f in
        let has = flows_has (prefix_of kernels) h.live h.states f in
        let (v, from) = numbering.given s item lt has in
        closes lt has v from (flows_comes f v from) (begun kernels.grammar rest t u first)
      where
        closes : s < count_of kernels → HasItem kernels.grammar (prefix_of kernels s) item → (v : ℕ) → Number s item v → Comes v t →
            Begun kernels.grammar rest t u → Comes n u
        closes lt has v from comes (within text d) =
            let on = onward (prefix_of kernels) h.live h.states s lt item (Nonterminal b) rest has is in
            let r : IsReadBy s b u =
            reads_of (prefix_of kernels) h.live h.states d u text refl s b on.to on.next (advance item) on.has
            (after_advance kernels.grammar item (Nonterminal b) rest is) in
            read_comes s b u n q right r lt number rule
        closes lt has v from comes (behind empty same) =
            there v (s, lt, (item, has, inr (b, rest, q, right, is, empty, rule, from, number))) (subst (λ z. Comes v z) (sym same) comes)

    -- what comes to the number of an item is what flows to the item
    pub comes_exact : (s n t : ℕ) (item : Item) → Number s item n → Comes n t ↔ FlowsIn kernels s item t
    comes_exact s n t item number = (λ comes. comes_flows comes s item number, λ f. flows_comes f n number)
