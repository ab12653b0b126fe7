-- With a certified extension no abstract nonterminal of the host becomes one of the grammar: so the host is extended by rows.
use Rattle.std.proofs.Common.{◌≡◌, ◌<◌, ◌≤◌, ◌++◌, ◌⊎◌, ◌∙◌, inl, inr, ℕ, zero, suc, List, Some, length, map, slice_get, refl, sym, ap}
use Rattle.std.proofs.Common.{subst, arith}
use Rattle.std.proofs.lemmas.Bool.{cases_lt}
use Rattle.std.proofs.lemmas.Option.{same_Some, slice_get_within}
use Rattle.wb_compose_theory_lists.specs.Extended.{IsExtendedBy, file_on}
use Rattle.wb_base.specs.Grammar.{GrammarView}
use Rattle.wb_compose.proofs.JoinedLemmas.{numbers_kept}
use Rattle.wb_certify.proofs.KeptLemmas.{grammar_row}
use Rattle.wb_certify.proofs.RowLemmas.{map_at}
use Rattle.wb_certify.specs.Kept.{AreCertifiedBoth}
use Rattle.wb_certify.specs.KeptNumbers.{KeepsNumbers}
use Rattle.wb_lemmas.proofs.Places.{append_keeps, nothing_at}
use Rattle.wb_lemmas.proofs.Zips.{zip_at}
use Rattle.wb_certify.specs.Resolving.{ResolvesExtension}
use Rattle.wb_names_theory.specs.Declarations.{nonterminals}
use Rattle.wb_names_numbers_theory.proofs.Carrying.{name_at}
use Rattle.wb_names_numbers_theory.proofs.NumberLemmas.{differ_left, differ_right}
use Rattle.wb_names_numbers_theory.specs.Files.{IsInGrammar}
use Rattle.wb_names_numbers_theory.specs.Numbering.{numbering_of}
use Rattle.wb_names_numbers_theory.specs.Resolves.{IsInGrammarOf, IsNonterminal}
use Rattle.wb_names_numbers_theory.specs.Sources.{Splits, follows, leads, nothing, sources}
use Rattle.wb_operations.specs.Operations.{OperationSignature}
use Rattle.wb_syntax_resolved.specs.declared.attributes.Nonterminal.{Nonterminal}
use Rattle.wb_syntax_resolved.specs.declared.resolved.ResolvedParts.{ResolvedParts}
use Rattle.wb_syntax_resolved.specs.Once.{Entry, NamesDiffer, symbol_names}
use Rattle.wb_syntax.specs.SpecText.{SpecView}

-- what leads is among those that lead
lead_there : {X : Type 0} (P : X → Type 0) (xs a b : List X) → Splits P xs a b → (k : ℕ) (x : X) → slice_get xs k ≡ Some x → P x
    → (j : ℕ) × (slice_get a j ≡ Some x)
lead_there P xs a b nothing k x at holds = absurd (nothing_at x k at)
lead_there P xs a b (leads {xs = ys} {leading = c} p s) zero x at holds = (0, at)
lead_there P xs a b (leads {xs = ys} {leading = c} p s) (suc k) x at holds =
    let r = lead_there P ys c b s k x at holds in (suc r.0, r.1)
lead_there P xs a b (follows {x = y} {xs = ys} {following = d} p s) zero x at holds =
    absurd (p (subst P (sym (same_Some y x at)) holds))
lead_there P xs a b (follows {x = y} {xs = ys} {following = d} p s) (suc k) x at holds = lead_there P ys a d s k x at holds

-- a nonterminal's name and whose it is
abbrev entry : Nonterminal → Entry
entry n = (n.owner, n.name)

-- what is at a place is one
same_entry : {A : Type 0} (xs : List A) (k : ℕ) (x y : A) → slice_get xs k ≡ Some x → slice_get xs k ≡ Some y → x ≡ y
same_entry xs k x y at at' = same_Some x y (sym at ∙ at')

module _ (host r : ResolvedParts) (h g : GrammarView) (operations : List OperationSignature)
    (both : AreCertifiedBoth host r h g operations) where
  abbrev pub spec : SpecView
  spec = both.extends.spec

  abbrev pub names : ResolvesExtension host spec r
  names = both.extends.names

  numbers : KeepsNumbers host r h g
  numbers = numbers_kept host r h g operations both

  -- the host's nonterminals are its own, and have different names
  zero_owner : (number : ℕ) (x : Nonterminal) → slice_get host.attributes.nonterminals number ≡ Some x → x.owner ≡ 0
  zero_owner number x at =
      let most = (both.host_resolved.attributes.named.nonterminals number x at).owner in
      let none = ap (λ (xs : List (List ℕ)). length xs) both.host_certified.alone in omega (arith, most, none)

  names_differ : NamesDiffer (numbering_of host).nonterminals
  names_differ =
      differ_left (numbering_of host).nonterminals (numbering_of host).productions
      (differ_right (numbering_of host).terminals (symbol_names host.attributes) both.host_resolved.once.symbols)

  -- where a nonterminal of the host is of the grammar, it is among the first
  at_first : (number j : ℕ) (x row : Nonterminal) → slice_get host.attributes.nonterminals number ≡ Some x
      → slice_get r.attributes.nonterminals j ≡ Some row → entry row ≡ entry x → j < g.nonterminals
      → number < h.nonterminals
  at_first number j x row at there same below = by_place (cases_lt j h.nonterminals) where
    is_own : slice_get (numbering_of r).nonterminals j ≡ Some (entry x)
    is_own = name_at entry r.attributes.nonterminals j row there ∙ ap Some same

    by_place : (j < h.nonterminals) ⊎ (h.nonterminals ≤ j) → number < h.nonterminals
    by_place (inl less) =
        let stays = numbers.nonterminals.stays j less in
        let is = same_entry (numbering_of r).nonterminals j stays.entry (entry x) stays.is is_own in
        let one = names_differ number j x.owner x.owner x.name (name_at entry host.attributes.nonterminals number x at)
        (stays.was ∙ ap Some is) (inr refl) in omega (arith, one, less)
    by_place (inr far) =
        let added = numbers.nonterminals.added j far below in
        let is = ap (λ (z : Entry). z.0) (same_entry (numbering_of r).nonterminals j (1, added.name) (entry x) added.is is_own) in
        let zero_is = zero_owner number x at in absurd (omega (arith, is, zero_is))

  pub keeps : (number : ℕ) (x : Nonterminal) → slice_get host.attributes.nonterminals number ≡ Some x
      → IsInGrammar (file_on host spec.name spec.items) x.name → number < h.nonterminals
  keeps number x at holds =
      let grouped = names.value.nonterminals in
      let all = sources host.attributes.nonterminals (nonterminals spec.items) in
      let source : slice_get all number ≡ Some (inl x) =
      append_keeps (map inl host.attributes.nonterminals) (map inr (nonterminals spec.items)) number (inl x)
      (map_at inl host.attributes.nonterminals number x at) in
      let (j, led) = lead_there (IsInGrammarOf (file_on host spec.name spec.items)) all grouped.leading grouped.following grouped.splits
      number (inl x) source holds in
      let found = zip_at (IsNonterminal (file_on host spec.name spec.items) (numbering_of r)) (grouped.leading ++ grouped.following)
      r.attributes.nonterminals j (inl x) grouped.are_rows (append_keeps grouped.leading grouped.following j (inl x) led) in
      let within = slice_get_within grouped.leading j (inl x) led in
      let counted = (grammar_row host r spec names both.host_resolved both.resolved h g both.host_start both.start).nonterminals_are in
      at_first number j x found.other at found.there (λ z. (found.related.owner z, found.related.name z)) (omega (arith, within, counted))

  -- so the host is extended by rows
  abbrev pub extended_by : IsExtendedBy host r spec.name spec.items h
  extended_by = record {
    host_resolved = both.host_resolved;
    resolved = both.resolved;
    alone = both.host_certified.alone;
    grammar = both.host_start;
    value = names.value;
    keeps = keeps;
  }
