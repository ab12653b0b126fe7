-- What a certified extension adds to the host's grammar is its own: none of the host's abstract nonterminals becomes one of the grammar.
use Rattle.std.proofs.Common.{◌≡◌, ◌≤◌, ◌<◌, ◌∷◌, ◌⊎◌, inl, inr, [], ℕ, zero, suc, List, Some, Contains, length, slice_get}
use Rattle.std.proofs.Common.{ap, map, refl, subst, ◌∙◌, arith}
use Rattle.std.proofs.lemmas.Bool.{cases_lt}
use Rattle.wb_lemmas.proofs.Elements.{all_at}
use Rattle.wb_lemmas.proofs.Places.{at_once, at_within}
use Rattle.wb_base.specs.declared.symbol.Symbol.{Symbol}
use Rattle.wb_base.specs.declared.symbol.Symbol.TheVariants as symbol
use Rattle.wb_base.specs.Grammar.{GrammarView, IsProductionBelow}
use Rattle.wb_grammar_theory.specs.Derives.{Derives, IsText, done, expand, keep}
use Rattle.wb_grammar_theory.specs.Productions.{IsProduction}
use Rattle.wb_grammar_theory.specs.Shape.{IsReduced}
use Rattle.wb_grammar_theory.proofs.ProductionLemmas.{production_once, production_within}
use Rattle.wb_marking.specs.Bridges.{AreBridges}
use Rattle.wb_marking.specs.Marked.{IsBridge, IsOnOwn}
use Rattle.wb_marking.specs.Markers.{HasNoMarker}
use Rattle.wb_names.specs.Resolving.{ResolvesExtension}
use Rattle.wb_names_theory.specs.Declarations.{lexicals}
use Rattle.wb_names_numbers_theory.specs.Moved.{IsMovedTerminal}
use Rattle.wb_names_numbers_theory.specs.Numbering.{numbering_of}
use Rattle.wb_names_numbers_theory.specs.Resolves.{IsScanned}
use Rattle.wb_names_numbers_theory.specs.Rows.{IsTerminalRow}
use Rattle.wb_names_numbers_theory.proofs.Carrying.{name_at}
use Rattle.wb_syntax_resolved.specs.declared.attributes.Nonterminal.{Nonterminal}
use Rattle.wb_syntax_resolved.specs.declared.production.Production as rule
use Rattle.wb_syntax_resolved.specs.declared.resolved.ResolvedParts.{ResolvedParts}
use Rattle.wb_syntax_resolved.specs.declared.terminal.Terminal.{Terminal}
use Rattle.wb_syntax_resolved.specs.Once.{Entry}
use Rattle.wb_syntax_resolved.specs.Resolved.{IsResolved}
use Rattle.wb_syntax.specs.SpecText.{SpecView}
use Rattle.wb_determinism_beside.specs.KeptNumbers.{IsAdded, IsSameEntry, KeepsNumbers, StaysFirst}
use Rattle.wb_determinism_beside.proofs.GrammarKept.{production_same}
use Rattle.wb_determinism_beside.proofs.InRange.{in_range}
use Rattle.wb_determinism_beside.proofs.KeptLemmas as k
use Rattle.wb_determinism_beside.proofs.MarkerLemmas as mark
use Rattle.wb_determinism_beside.proofs.RowLemmas.{all_below, new_at}

-- a production of the nonterminal
record HasRule (g : GrammarView) (a : ℕ) : Type 0 where
  number : ℕ
  right : List Symbol
  is : IsProduction g number a right

-- what derives a text has a production
first_rule : (g : GrammarView) (a : ℕ) (w x : List Symbol) → Derives g w x → w ≡ symbol.Nonterminal a ∷ [] → IsText x → HasRule g a
first_rule g a w x done e text = absurd (cc e)
first_rule g a w x (keep (symbol.Terminal t) d) e text = absurd (cc e)
first_rule g a w x (keep (symbol.Nonterminal b) d) e text = elim text [ ]
first_rule g a w x (expand p b right u v rule d rest is) e text =
    let same : b ≡ a = cc in record { number = p; right = right; is = subst (λ z. IsProduction g p z right) same rule }

-- a name of the extension, and one that was there
added_at : {X : Type 0} (owner : X → ℕ) (name : X → List ℕ) (rows : List X) (j : ℕ) (row : X) → slice_get rows j ≡ Some row
    → owner row ≡ 1 → IsAdded (map (λ (x : X). (owner x, name x)) rows) j
added_at owner name rows j row at is = record {
  name = name row;
  is = name_at (λ x. (owner x, name x)) rows j row at ∙ ap (λ o. Some (o, name row)) is;
}

same_at : {X : Type 0} (entry : X → Entry) (before rows : List X) (j : ℕ) (was row : X) → slice_get before j ≡ Some was
    → slice_get rows j ≡ Some row → entry row ≡ entry was → IsSameEntry (map entry before) (map entry rows) j
same_at entry before rows j was row at there e = record {
  entry = entry was;
  was = name_at entry before j was at;
  is = name_at entry rows j row there ∙ ap Some e;
}

module _ (host r : ResolvedParts) (spec : SpecView) (names : ResolvesExtension host spec r) (host_whole : IsResolved host)
    (whole : IsResolved r) (h g : GrammarView) (host_start : host.grammar ≡ Some h) (start : r.grammar ≡ Some g)
    (alone : host.attributes.extensions ≡ []) (bridges : AreBridges r g) (reduced : IsReduced g) where
  -- no further nonterminal of the grammar is the host's: it would have no production, and derive no text
  not_hosts : (a : ℕ) (row : Nonterminal) → h.nonterminals ≤ a → a < g.nonterminals → slice_get r.attributes.nonterminals a ≡ Some row
      → row.owner ≡ 0 → ⊥
  not_hosts a row past below at zero_is =
      let (v, d, text) = reduced.productive a below in
      by_rule (first_rule g a (symbol.Nonterminal a ∷ []) v d refl text)
    where
      of_host : (p : ℕ) (right : List Symbol) → IsProduction g p a right → p < length h.productions → ⊥
      of_host p right rule less =
          let (plain, there) = at_within h.productions p less in
          let kept = production_same host r spec names host_whole whole h g host_start start p plain there in
          let left_is = (production_once g p plain.0 a plain.1 right kept rule).0 in
          let bound = (all_at (IsProductionBelow h.terminals h.nonterminals) h.productions p plain
          (in_range host h host_whole host_start).productions_below there).left in
          omega (arith, left_is, bound, past)

      of_extension : (p : ℕ) (right : List Symbol) → IsProduction g p a right → length h.productions ≤ p
          → HasNoMarker r right ⊎ ((marker : ℕ) × IsBridge r g marker p) → ⊥
      of_extension p right rule far (inl none) = by_source ((mark.are_marked host r spec names host_whole whole h g host_start start alone
          bridges).source p a right rule none)
        where
          by_source : IsOnOwn r p a → ⊥
          by_source s =
              let one_is = mark.new_owner host r spec names host_whole whole h g host_start start alone bridges p s.production far
              (production_within g p a right rule) s.production_is in
              let same = ap (λ (z : Nonterminal). z.owner) (at_once r.attributes.nonterminals a s.nonterminal row s.nonterminal_is at) in
              let one = s.one in omega (arith, one_is, same, one, zero_is)
      of_extension p right rule far (inr (t, b)) =
          let left_is = (production_once g p a b.left right (symbol.Terminal t ∷ b.rest) rule b.production).0 in
          let has = subst (λ xs. Contains xs b.left) (k.extensible_same host r spec names host_whole whole h g host_start start)
          b.extensible in
          let bound = ((k.own host r spec names host_whole whole h g host_start start).nonterminals b.left).1 (inr (inl has)) in
          omega (arith, left_is, bound, past)

      by_rule : HasRule g a → ⊥
      by_rule x =
          elim (cases_lt x.number (length h.productions)) [
            | inl less ↦ of_host x.number x.right x.is less
            | inr far ↦ of_extension x.number x.right x.is far ((mark.are_marked host r spec names host_whole whole h g host_start start
                alone bridges).shape x.number a x.right x.is)
          ]

  -- so it is the extension's
  own_nonterminal : (a : ℕ) (row : Nonterminal) → h.nonterminals ≤ a → a < g.nonterminals → slice_get r.attributes.nonterminals a ≡ Some row
      → row.owner ≡ 1
  own_nonterminal a row past below at = by_owner row.owner refl where
    by_owner : (o : ℕ) → row.owner ≡ o → row.owner ≡ 1
    by_owner zero e = absurd (not_hosts a row past below at e)
    by_owner (suc o) e =
        let most = (whole.attributes.named.nonterminals a row at).owner in
        let many = ap (λ (xs : List (List ℕ)). length xs) names.value.extensions in
        omega (arith, e, most, many)

  pub keeps_numbers : KeepsNumbers host r h g
  keeps_numbers = record { terminals = terminals_first; nonterminals = nonterminals_first; productions = productions_first }
    where
      terminals_first : StaysFirst (numbering_of host).terminals (numbering_of r).terminals h.terminals g.terminals
      terminals_first = record {
        no_fewer = k.more_terminals host r spec names host_whole whole h g host_start start;
        stays = λ j below.
            (let x = k.terminal_kept host r spec names host_whole whole h g host_start start j below in
            same_at (λ (t : Terminal). (t.owner, t.name)) host.terminals r.terminals j x.was x.row x.at x.there
            (λ z. (x.moved.owner z, x.moved.name z)));
        added = λ j far below.
            (let own_terminal = k.own host r spec names host_whole whole h g host_start start in
            let counted = (k.grammar_row host r spec names host_whole whole h g host_start start).terminals_are in
            let most = (k.both host r spec names host_whole whole h g host_start start).terminals_len in
            let (row, at) = at_within r.terminals j (omega (arith, below, most)) in
            let found = new_at IsScanned (IsMovedTerminal (k.move host r spec names host_whole whole h g host_start start))
            (IsTerminalRow (k.n host r spec names host_whole whole h g host_start start) 1 spec.items) host.terminals
            (lexicals spec.items) r.terminals names.value.terminals h.terminals
            (λ i x past there plain. (let less = (own_terminal.terminals i x there).1 plain in omega (arith, past, less))) j row far
            (omega (arith, counted, below)) at in
            added_at (λ (t : Terminal). t.owner) (λ (t : Terminal). t.name) r.terminals j row at found.1.owner_is);
      }

      nonterminals_first : StaysFirst (numbering_of host).nonterminals (numbering_of r).nonterminals h.nonterminals g.nonterminals
      nonterminals_first = record {
        no_fewer = k.more_nonterminals host r spec names host_whole whole h g host_start start;
        stays = λ j below.
            (let x = k.nonterminal_kept host r spec names host_whole whole h g host_start start j below in
            same_at (λ (t : Nonterminal). (t.owner, t.name)) host.attributes.nonterminals r.attributes.nonterminals j x.was x.row x.at
            x.there (λ z. (x.moved.owner z, x.moved.name z)));
        added = λ j far below.
            (let most = (k.both host r spec names host_whole whole h g host_start start).nonterminals_len in
            let (row, at) = at_within r.attributes.nonterminals j (omega (arith, below, most)) in
            added_at (λ (t : Nonterminal). t.owner) (λ (t : Nonterminal). t.name) r.attributes.nonterminals j row at
            (own_nonterminal j row far below at));
      }

      productions_first : StaysFirst (numbering_of host).productions (numbering_of r).productions (length h.productions)
          (length g.productions)
      productions_first = record {
        no_fewer =
            (let least = all_below (length h.productions) (length names.value.productions.leading)
            (λ j below. (k.production_kept host r spec names host_whole whole h g host_start start j below).within) in
            let counted = k.productions_len host r spec names host_whole whole h g host_start start in omega (arith, least, counted));
        stays = λ j below.
            (let x = k.production_kept host r spec names host_whole whole h g host_start start j below in
            same_at (λ (t : rule.Production). (t.owner, t.name)) host.attributes.productions r.attributes.productions j x.was x.row x.at
            x.there (λ z. (x.moved.owner_is z, x.moved.name z)));
        added = λ j far below.
            (let most = (k.both host r spec names host_whole whole h g host_start start).productions_len in
            let (row, at) = at_within r.attributes.productions j (omega (arith, below, most)) in
            added_at (λ (t : rule.Production). t.owner) (λ (t : rule.Production). t.name) r.attributes.productions j row at
            (mark.new_owner host r spec names host_whole whole h g host_start start alone bridges j row far below at));
      }
