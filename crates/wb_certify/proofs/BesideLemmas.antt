-- A host's parts are those beside which its extensions are tested: an extended host has a start, no fewer terminals and productions, and as
-- many holes.
use Rattle.std.proofs.Common.{◌≡◌, ◌≤◌, ◌<◌, ◌+◌, ◌++◌, ◌∷◌, ◌⊎◌, inl, inr, [], ℕ, zero, suc, List, Option, Some, None, Contains, map}
use Rattle.std.proofs.Common.{length, slice_get, ap, sym, refl, subst, ◌∙◌, arith}
use Rattle.std.specs.Prelude.{IfSome, IsSome, option_map, option_to_list, take}
use Rattle.std.proofs.lemmas.List.{length-append, length-map}
use Rattle.std.proofs.lemmas.Slice.Zip.{AllZip-long}
use Rattle.wb_base.specs.Grammar.{GrammarView}
use Rattle.wb_certify_host.specs.DeterministicHosts.{AreHostParts}
use Rattle.wb_certify_host.specs.parts.HostParts.{HostParts}
use Rattle.wb_determinism_beside.specs.DeterministicExtensions.{IsHostBeside, IsPartOf, extended_grammar}
use Rattle.wb_lemmas.proofs.Members.{contains_first}
use Rattle.wb_marking_holes.specs.Holes.{hole_productions, with_holes_of}
use Rattle.wb_certify_host.specs.Resolving.{ResolvesExtension, extension_file}
use Rattle.wb_names_theory.specs.declared.declaration.Declaration.TheVariants as d
use Rattle.wb_names_theory.specs.Declarations.{Items, extensible_of, extensibles, lexicals, plain_items, productions, starts}
use Rattle.wb_names_theory.specs.Declares.{item_declarations}
use Rattle.wb_names_theory.specs.Orphan as orphan
use Rattle.wb_names_numbers_theory.specs.Numbering.{numbering_of}
use Rattle.wb_names_numbers_theory.specs.Resolves.{IsConcrete, IsGrammarRow, IsNonterminalNumber, IsScanned, starts_of}
use Rattle.wb_names_numbers_theory.specs.Sources.{AreGrouped, Splits, follows, leads, nothing, sources}
use Rattle.wb_names_numbers_theory.proofs.RowsOwned.{plain_declares}
use Rattle.wb_names_numbers_theory.proofs.Selected.{kept_from}
use Rattle.wb_syntax_resolved.specs.declared.resolved.ResolvedParts.{ResolvedParts}
use Rattle.wb_syntax_resolved.specs.Grammar.{IsGrammarOf, IsGrammarProduction}
use Rattle.wb_syntax_resolved.specs.Resolved.{IsResolved}
use Rattle.wb_syntax.specs.declared.item.PlainForm.{PlainForm}
use Rattle.wb_syntax.specs.declared.item.PlainForm.TheVariants as i
use Rattle.wb_syntax.specs.SpecText.{SpecView}

-- what holds of what is there
pub with_some : {X : Type 0} (o : Option X) (P : X → Type 0) → IfSome o P → (x : X) → o ≡ Some x → P x
with_some o P holds x is = subst (λ k. IfSome k P) is holds

-- and the other way round
pub for_some : {X : Type 0} (o : Option X) (P : X → Type 0) → ((x : X) → o ≡ Some x → P x) → IfSome o P
for_some (Some x) P holds = holds x refl
for_some None P holds = tt

-- where the first so many lead, so many lead at least
pub leads_at_least : {X : Type 0} (P : X → Type 0) (n : ℕ) (xs a b : List X) → Splits P xs a b → n ≤ length xs
    → ((k : ℕ) (x : X) → k < n → slice_get xs k ≡ Some x → P x) → n ≤ length a
leads_at_least P zero xs a b s within each = omega arith
leads_at_least P (suc n) xs a b nothing within each = absurd (omega (arith, within))
leads_at_least P (suc n) xs a b (leads {x = x} {xs = ys} {leading = c} {following = d} p s) within each =
    let more = leads_at_least P n ys c d s (omega (arith, within)) (λ k y before at. each (suc k) y (omega (arith, before)) at) in
    omega (arith, more)
leads_at_least P (suc n) xs a b (follows {x = x} {xs = ys} p s) within each = absurd (p (each 0 x (omega arith) refl))

-- what is at one of the first places of the sources was there before
pub source_before : {A B : Type 0} (before : List A) (declared : List B) (k : ℕ) (z : A ⊎ B) → k < length before
    → slice_get (sources before declared) k ≡ Some z → (x : A) × (slice_get before k ≡ Some x) × (z ≡ inl x)
source_before [] declared k z within at = absurd (omega (arith, within))
source_before (x ∷ before) declared zero z within at = (x, refl, let same : z ≡ inl x = cc in same)
source_before (x ∷ before) declared (suc k) z within at = source_before before declared k z (omega (arith, within)) at

-- there are as many sources as were there and are declared
pub length-sources : {A B : Type 0} (before : List A) (declared : List B)
    → length (sources before declared) ≡ length before + length declared
length-sources {A} {B} before declared =
    let left : A → A ⊎ B = inl in
    let right : B → A ⊎ B = inr in
    let both = length-append (map left before) (map right declared) in
    let one = length-map before left in
    let other = length-map declared right in omega (arith, both, one, other)

-- what leads among what was there leads among the sources
pub base_leads : {A B C : Type 0} (P : A ⊎ B → Type 0) (R : A ⊎ B → C → Type 0) (n : ℕ) (before : List A) (declared : List B)
    (rows : List C) (grouped : AreGrouped P R (sources before declared) rows) → n ≤ length before
    → ((k : ℕ) (x : A) → k < n → slice_get before k ≡ Some x → P (inl x)) → n ≤ length grouped.leading
base_leads {A} {B} P R n before declared rows grouped within each =
    leads_at_least P n (sources before declared) grouped.leading grouped.following grouped.splits
    (let long = length-sources before declared in omega (arith, within, long)) place where
      place : (k : ℕ) (z : A ⊎ B) → k < n → slice_get (sources before declared) k ≡ Some z → P z
      place k z below at =
          let found = source_before before declared k z (omega (arith, within, below)) at in
          subst P (sym found.2) (each k found.0 below found.1)

-- each nonterminal has one hole
pub length-hole_productions : (next : ℕ) (xs : List ℕ) → length (hole_productions next xs) ≡ length xs
length-hole_productions next [] = refl
length-hole_productions next (x ∷ xs) = ap suc (length-hole_productions (suc next) xs)

-- so many are taken where there are so many
pub length-take_within : {X : Type 0} (n : ℕ) (xs : List X) → n ≤ length xs → length (take n xs) ≡ n
length-take_within zero [] within = refl
length-take_within zero (x ∷ xs) within = refl
length-take_within (suc n) [] within = absurd (omega (arith, within))
length-take_within (suc n) (x ∷ xs) within = ap suc (length-take_within n xs (omega (arith, within)))

-- no members, no list
pub empty_of : {X : Type 0} (xs : List X) → ((x : X) → ¬ Contains xs x) → xs ≡ []
empty_of [] none = refl
empty_of (x ∷ xs) none = absurd (none x (contains_first x xs))

-- what items make extensible they declare so
pub extensible_declared : (items : Items) (name : List ℕ) → Contains (extensibles items) name
    → Contains (item_declarations items) (d.Extensible name)
extensible_declared items name has =
    let z = kept_from extensible_of (plain_items items) name has in from z.0 z.1 z.2 where
      from : (form : PlainForm) → Contains (plain_items items) form → extensible_of form ≡ Some name
          → Contains (item_declarations items) (d.Extensible name)
      from (i.Extensible m) there e =
          let same : m ≡ name = cc in
          subst (λ k. Contains (item_declarations items) (d.Extensible k)) same (plain_declares items (i.Extensible m) there)
      from (i.Prefer first second) there e = absurd (cc e)
      from (i.Nonterminal m) there e = absurd (cc e)
      from (i.Start m) there e = absurd (cc e)
      from (i.Synthesized m its) there e = absurd (cc e)
      from (i.Inherited m its) there e = absurd (cc e)
      from (i.Occurs m l needs) there e = absurd (cc e)
      from (i.Closed m) there e = absurd (cc e)
      from (i.ForwardOn m needs) there e = absurd (cc e)

-- a start that is listed is there
pub start_there : (o : Option GrammarView) → 0 < length (option_to_list (option_map (λ (g : GrammarView). g.start) o)) → IsSome o
start_there None long = absurd (omega (arith, long))
start_there (Some g) long = refl

module _ (host r : ResolvedParts) (spec : SpecView) (names : ResolvesExtension host spec r) where
  -- an extension makes nothing extensible
  pub no_extensible : extensibles spec.items ≡ []
  no_extensible =
      empty_of (extensibles spec.items) (λ name has. names.names.owned (λ e. omega (arith, e)) name
      (orphan.extensible (extensible_declared spec.items name has)))

  -- there are as many holes
  pub same_holes : length r.extensible ≡ length host.extensible
  same_holes =
      AllZip-long (IsNonterminalNumber (extension_file host spec) (numbering_of r)) (sources host.extensible (extensibles spec.items))
      r.extensible names.value.extensible ∙ (length-sources host.extensible (extensibles spec.items) ∙ more) where
        more : length host.extensible + length (extensibles spec.items) ≡ length host.extensible
        more = let none = ap (λ (xs : List (List ℕ)). length xs) no_extensible in omega (arith, none)

  module _ (host_grammar : GrammarView) (host_start : host.grammar ≡ Some host_grammar) where
    -- there is a start
    pub has_start : IsSome r.grammar
    has_start = start_there r.grammar long where
      there : length (starts_of host) ≡ 1
      there = ap (λ (o : Option GrammarView). length (option_to_list (option_map (λ (g : GrammarView). g.start) o))) host_start

      listed : length (starts_of r) ≡ length (starts_of host) + length (starts spec.items)
      listed =
          AllZip-long (IsNonterminalNumber (extension_file host spec) (numbering_of r)) (sources (starts_of host) (starts spec.items))
          (starts_of r) names.value.start ∙ length-sources (starts_of host) (starts spec.items)

      long : 0 < length (starts_of r)
      long = omega (arith, there, listed)

    module _ (whole : IsResolved host) (g : GrammarView) (start : r.grammar ≡ Some g) where
      own : IsGrammarOf host host_grammar
      own = with_some host.grammar (IsGrammarOf host) whole.numbered.grammar host_grammar host_start

      row : IsGrammarRow (length names.value.terminals.leading) (length names.value.nonterminals.leading)
          (length names.value.productions.leading) r.attributes.productions g
      row =
          with_some r.grammar (IsGrammarRow (length names.value.terminals.leading) (length names.value.nonterminals.leading)
          (length names.value.productions.leading) r.attributes.productions) names.value.grammar g start

      -- no fewer terminals
      pub more_terminals : host_grammar.terminals ≤ g.terminals
      more_terminals =
          let least = base_leads IsScanned _ host_grammar.terminals host.terminals (lexicals spec.items) r.terminals names.value.terminals
          own.terminals_len (λ k t below at. (own.terminals k t at).0 below) in
          let is = row.terminals_are in omega (arith, least, is)

      -- no fewer productions
      pub more_productions : length host_grammar.productions ≤ length g.productions
      more_productions =
          let least = base_leads IsConcrete _ (length host_grammar.productions) host.attributes.productions (productions spec.items)
          r.attributes.productions names.value.productions own.productions_len (λ k p below at. (own.productions k p at).0 below) in
          let rows = AllZip-long _ (names.value.productions.leading ++ names.value.productions.following) r.attributes.productions
          names.value.productions.are_rows in
          let both = length-append names.value.productions.leading names.value.productions.following in
          let taken = length-take_within (length names.value.productions.leading) r.attributes.productions (omega (arith, rows, both)) in
          let is = AllZip-long IsGrammarProduction (take (length names.value.productions.leading) r.attributes.productions) g.productions
          row.productions_are in
          omega (arith, least, taken, is)

      -- the host's parts are those beside which the extension is tested
      pub host_beside : (parts : HostParts) → AreHostParts host host_grammar parts → IsHostBeside r g parts
      host_beside parts are = record {
        of_grammar = are.of_grammar;
        kernels = are.kernels;
        lookaheads = are.lookaheads;
        part = subst (λ (k : GrammarView). IsPartOf k (extended_grammar r g k) (length r.extensible)) (sym are.grammar) part;
      }
        where
          part : IsPartOf (with_holes_of host_grammar host.extensible) (with_holes_of g r.extensible) (length r.extensible)
          part =
              let holes = same_holes in
              let own_rules = length-append host_grammar.productions (hole_productions host_grammar.terminals host.extensible) in
              let both_rules = length-append g.productions (hole_productions g.terminals r.extensible) in
              let own_holes = length-hole_productions host_grammar.terminals host.extensible in
              let both_holes = length-hole_productions g.terminals r.extensible in
              let terminals = more_terminals in
              let rules = more_productions in record {
                terminals = omega (arith, holes);
                productions = omega (arith, holes, own_rules, own_holes);
                more_terminals = omega (arith, holes, terminals);
                more_productions = omega (arith, holes, own_rules, own_holes, both_rules, both_holes, rules);
              }
