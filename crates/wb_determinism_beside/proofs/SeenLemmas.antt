-- From what is seen of new kernels to a deterministic extension: at the host's kernels all follows from the host.
use Rattle.std.proofs.Common.{◌≡◌, ◌<◌, ◌≤◌, ◌+◌, ◌-◌, ◌∙◌, ℕ, List, Option, map, length, sym, ap, subst, inl, inr}
use Rattle.std.proofs.Common.{arith}
use Rattle.std.proofs.lemmas.Bool.{cases_lt}
use Rattle.wb_base.specs.declared.symbol.Symbol.{Symbol}
use Rattle.wb_base.specs.Grammar.{GrammarView}
use Rattle.wb_compose_theory.specs.Numbered.{HasEnvelopeConflict, IsHostKernel, IsNewHostKernel, KeepsKernelLookaheads}
use Rattle.wb_compose_theory.specs.Renamings.{Renaming, renamed, renamed_item}
use Rattle.wb_compose_theory_grammar.specs.Numberings.{phi_of, up_of}
use Rattle.wb_determinism.specs.Extensions.{IsDeterministicExtension}
use Rattle.wb_determinism.specs.Images.{stands_for, AreImages}
use Rattle.wb_determinism.specs.declared.numbers.Numbers.{Numbers}
use Rattle.wb_determinism.specs.Numbers as tested
use Rattle.wb_determinism_contexts.specs.Considered.{HasNoClashAt, IsClashAt, IsConsideredAt, LexiconView}
use Rattle.wb_determinism_host.specs.Hosts.{IsDeterministicHost, IsFitForParsing}
use Rattle.wb_determinism_host.specs.Lexicons.{lexicon_beside, lexicon_of}
use Rattle.wb_determinism_host.proofs.LayoutLemmas.{clash_more}
use Rattle.wb_determinism_kernels.specs.NewKernels.{NewKernelsView, count_with, prefix_with}
use Rattle.wb_determinism_kernels.specs.Numbers.{phi_by, up_by}
use Rattle.wb_determinism_theory.proofs.ScannerLemmas as scanner
use Rattle.wb_determinism_theory.proofs.UnitedLemmas.{united_beside, united_kept}
use Rattle.wb_determinism_theory.specs.Beside.{IsBeside, IsKeptBeside}
use Rattle.wb_grammar_theory.specs.declared.item.Item.{Item}
use Rattle.wb_grammar_theory.specs.Closure.{InClosure, kernel, opened}
use Rattle.wb_grammar_theory.specs.Items.{IsViablePrefix, SameKernel}
use Rattle.wb_grammar_theory.specs.Lookaheads.{HasConflict, HasNoConflict}
use Rattle.wb_grammar_theory.proofs.FlowLemmas.{same_back}
use Rattle.wb_grammar_theory.proofs.ValidLemmas.{same_conflict, same_valid}
use Rattle.wb_items.specs.Kernels.{KernelsView, count_of, prefix_of}
use Rattle.wb_marking.specs.Clashes.{HasNoMarkerClash}
use Rattle.wb_marking_holes.specs.Holes.{with_holes_of}
use Rattle.wb_syntax_resolved.specs.declared.resolved.ResolvedParts.{ResolvedParts}
use Rattle.wb_determinism_beside.specs.Given.{moved_beside, numbers_beside}
use Rattle.wb_determinism_beside.specs.Pieces.{IsExtendedBy, piece_in}
use Rattle.wb_determinism_beside.specs.Inner.Seen.{AreSeen}
use Rattle.wb_determinism_beside.proofs.GivenLemmas as given
use Rattle.wb_determinism_beside.proofs.ScannedLemmas.{are_scanned}

-- a closure that has an item is that of some item
closure_item : {g : GrammarView} {K : Item → Type 0} {item : Item} → InClosure g K item → (i : Item) × K i
closure_item (kernel {item = item} has) = (item, has)
closure_item (opened item b rest q right c is rule) = closure_item c

-- a set with a conflict has an item
conflict_item : {g : GrammarView} {K : Item → Type 0} {t : ℕ} → HasEnvelopeConflict g K t → (i : Item) × K i
conflict_item (inl (p, can, red)) = closure_item can.within
conflict_item (inr (p, q, differ, one, two)) = closure_item one.within

-- a prefix with a conflict is viable
conflict_viable : {g : GrammarView} {prefix : List Symbol} {t : ℕ} → HasConflict g prefix t → IsViablePrefix g prefix
conflict_viable (inl (p, can, red)) = (red.item, red.has.0, red.has.1)
conflict_viable (inr (p, q, differ, one, two)) = (one.item, one.has.0, one.has.1)

module _ (host r : ResolvedParts) (h g : GrammarView) (is : IsExtendedBy host r h g) (clear : HasNoMarkerClash r)
    (alone : IsDeterministicHost host h) (fit : IsFitForParsing r g) (images : List (Option ℕ))
    (are : AreImages (numbers_beside r.extensible h g) (stands_for r g) (g.terminals + length r.extensible + 1) images)
    (own : KernelsView) (own_is : own.grammar ≡ with_holes_of h r.extensible) (new : NewKernelsView)
    (seen : AreSeen own (with_holes_of g r.extensible) (moved_beside r.extensible h g) images new (lexicon_of r g)) where
  abbrev both : GrammarView
  both = with_holes_of g r.extensible

  abbrev up : Renaming
  up = up_by (moved_beside r.extensible h g)

  abbrev united : Renaming
  united = up_of h g

  abbrev image : ℕ → ℕ
  image = phi_of r.extensible (piece_in r g)

  united_up : united ≡ up
  united_up = given.numbers_are h g r.extensible

  image_is : image ≡ phi_by (moved_beside r.extensible h g) images
  image_is = given.phi_is host r h g is images are

  -- the lookahead rule in the numbers of unions
  rule : KeepsKernelLookaheads own.grammar both united image
  rule =
      subst (λ z. KeepsKernelLookaheads own.grammar both z image) (sym united_up)
      (subst (KeepsKernelLookaheads own.grammar both up) (sym image_is) seen.rule)

  kept : IsKeptBeside own.grammar both united image
  kept =
      subst (λ (z : GrammarView). IsKeptBeside z both united image) (sym own_is)
      (united_kept h r.extensible (piece_in r g) (given.pieces host r h g is images are) alone.fit.sound.reduced fit.sound.reduced
      (subst (λ (z : GrammarView). KeepsKernelLookaheads z both united image) own_is rule))

  beside : IsBeside own.grammar both united image
  beside =
      subst (λ (z : GrammarView). IsBeside z both united image) (sym own_is)
      (united_beside h r.extensible (piece_in r g) (given.pieces host r h g is images are) alone.fit.sound.reduced fit.sound.reduced)

  -- what is known of the host
  host_holes : with_holes_of h host.extensible ≡ own.grammar
  host_holes = ap (with_holes_of h) (given.same host r h g is images are) ∙ sym own_is

  host_no_conflict : HasNoConflict own.grammar
  host_no_conflict = subst HasNoConflict host_holes alone.no_conflict

  host_no_clash : HasNoClashAt own.grammar (lexicon_of host h)
  host_no_clash = subst (λ (z : GrammarView). HasNoClashAt z (lexicon_of host h)) host_holes alone.no_clash

  -- prefixes by number
  abbrev prefix_at : ℕ → List Symbol
  prefix_at = prefix_with own both (moved_beside r.extensible h g) images new

  abbrev count : ℕ
  count = count_with own both (moved_beside r.extensible h g) images new

  -- a number of the host has the host's kernel
  at_host : (s : ℕ) → s < count_of own → IsHostKernel own.grammar both united (prefix_at s) (prefix_of own s)
  at_host s below =
      subst (λ p. IsHostKernel own.grammar both united p (prefix_of own s))
      (ap (λ (z : Renaming). map (renamed z) (prefix_of own s)) united_up ∙ sym (seen.are_new.found.first.lifted s below))
      (beside.kernels (prefix_of own s) (seen.are_new.found.first.host s below))

  -- another one is that of a new kernel
  past : (P : List Symbol → Type 0) → ((i : ℕ) → i < length new.index.kernels → P (prefix_at (count_of own + i))) → (s : ℕ)
      → count_of own ≤ s → s < count → P (prefix_at s)
  past P each s from below =
      let back : count_of own + (s - count_of own) ≡ s = omega (arith, from) in
      subst (λ n. P (prefix_at n)) back
      (each (s - count_of own) (let len = seen.are_new.kernels_len in omega (arith, from, below, len)))

  no_conflict_at : (s t : ℕ) → s < count → ¬ HasConflict both (prefix_at s) t
  no_conflict_at s t below = elim (cases_lt s (count_of own)) [
    | inl of_host ↦ kept.no_conflict host_no_conflict (prefix_at s) (prefix_of own s) (at_host s of_host) t
    | inr from ↦ past (λ p. ¬ HasConflict both p t) (λ i lt. seen.no_conflict i t lt) s from below
  ]

  no_conflict : HasNoConflict both
  no_conflict prefix t conflict =
      let (s, below, same) = seen.are_new.states.all prefix (conflict_viable conflict) in
      no_conflict_at s t below ((same_conflict both seen.live prefix (prefix_at s) (same_back same) t).0 conflict)

  -- what is scanned with the extension
  abbrev lexicon : LexiconView
  lexicon = lexicon_beside r g (length h.productions)

  no_clash_at : (s left right : ℕ) (text : List ℕ) → s < count → ¬ IsClashAt both lexicon (prefix_at s) left right text
  no_clash_at s left right text below = elim (cases_lt s (count_of own)) [
    | inl of_host ↦
        let scanned = are_scanned host r h g is clear in
        scanner.no_clash (lexicon_of host h) lexicon kept scanned.extends scanned.told (prefix_at s) (prefix_of own s)
        (at_host s of_host) (seen.are_new.found.first.host s of_host) host_no_clash left right text
    | inr from ↦
        past (λ p. ¬ IsClashAt both lexicon p left right text) (λ i lt clash. seen.no_clash i left right text lt
        (clash_more r g both (length h.productions) (prefix_at (count_of own + i)) left right text clash)) s from below
  ]

  no_clash : HasNoClashAt both lexicon
  no_clash prefix left right text clash =
      let (s, below, same) = seen.are_new.states.all prefix clash.viable in
      no_clash_at s left right text below (record {
        viable = seen.are_new.states.prefixes s below;
        different = clash.different;
        left_considered = there s same left clash.left_considered;
        right_considered = there s same right clash.right_considered;
        left_matches = clash.left_matches;
        right_matches = clash.right_matches;
        unordered = clash.unordered;
      })
    where
      there : (s : ℕ) → SameKernel both (prefix_at s) prefix → (t : ℕ) → IsConsideredAt both lexicon prefix t
          → IsConsideredAt both lexicon (prefix_at s) t
      there s same t (inl (below, valid)) = inl (below, (same_valid both seen.live prefix (prefix_at s) (same_back same) t).0 valid)
      there s same t (inr (inl layout)) = inr (inl layout)
      there s same t (inr (inr (layout, (i, holds, from, to)))) = inr (inr (layout, (i, (same i).1 holds, from, to)))

  -- the extension's productions come after the host's
  first_is : length h.productions ≡ length (with_holes_of h r.extensible).productions - length r.extensible
  first_is = let all = given.own_rules h g r.extensible in omega (arith, all)

  abbrev numbers : Numbers
  numbers = numbers_beside r.extensible h g

  -- no kernel is a new one with the host's items alone
  no_new : (prefix : List Symbol) → IsViablePrefix both prefix → IsNewHostKernel own.grammar both (tested.up_by numbers) prefix → ⊥
  no_new prefix viable fresh =
      let (s, below, same) = seen.are_new.states.all prefix viable in
      elim (cases_lt s (count_of own)) [
        | inl of_host ↦
            let here = subst (λ (z : Renaming). IsHostKernel own.grammar both z (prefix_at s) (prefix_of own s)) united_up
            (at_host s of_host) in
            fresh.is_new (prefix_of own s) (λ i. (
              λ has. (same (renamed_item up i)).0 ((here.same i).0 has),
              λ has. (here.same i).1 ((same (renamed_item up i)).1 has),
            ))
        | inr from ↦
            past (λ p. SameKernel both p prefix → ⊥) (λ i lt equal.
            let x = seen.foreign i lt in
            let (mine, mine_is) = fresh.within x.item ((equal x.item).0 x.has) in x.foreign mine mine_is) s from below same
      ]

  -- the lookahead rule in the numbers that are tested
  tested_rule : KeepsKernelLookaheads own.grammar both (tested.up_by numbers) (stands_for r g)
  tested_rule prefix other item t here has look =
      let (u, u_is, there) = seen.rule prefix other item t (record { within = here.within; same = here.same }) has look in (
        u,
        u_is ∙ sym (given.stands host r h g is images are t ∙ ap (λ (f : ℕ → ℕ). f t) image_is),
        there,
      )

  -- so the extension is deterministic beside the host
  pub seen_deterministic : IsDeterministicExtension r g (with_holes_of h r.extensible)
  seen_deterministic = record {
    both = record {
      fit = fit;
      no_conflict = no_conflict;
      no_clash = subst (λ (n : ℕ). HasNoClashAt both (lexicon_beside r g n)) first_is no_clash;
    };
    lookaheads = subst (λ (z : GrammarView). KeepsKernelLookaheads z both (tested.up_by numbers) (stands_for r g)) own_is tested_rule;
    envelope = record {
      stays = record {
        lookaheads = λ prefix fresh item t within look.
            let (i, has) = closure_item within in absurd (none prefix (renamed_item (tested.up_by numbers) i, has.0.0, has.0.1) fresh);
        no_conflict = λ prefix fresh t conflict.
            let (i, has) = conflict_item conflict in none prefix (renamed_item (tested.up_by numbers) i, has.0.0, has.0.1) fresh;
      };
      clear = λ prefix left right text fault. none prefix fault.viable fault.new;
    };
  }
    where
      none : (prefix : List Symbol) → IsViablePrefix both prefix
          → IsNewHostKernel (with_holes_of h r.extensible) both (tested.up_by numbers) prefix → ⊥
      none = subst (λ (z : GrammarView). (prefix : List Symbol) → IsViablePrefix both prefix
          → IsNewHostKernel z both (tested.up_by numbers) prefix → ⊥) own_is no_new
