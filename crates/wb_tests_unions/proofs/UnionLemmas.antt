-- What is lent of certified extensions is what their union asks for.
use Rattle.std.proofs.Common.{◌≡◌, ◌∙◌, ◌∷◌, [], ℕ, zero, suc, List, Some, length, map, slice_get, sym, ap, subst, refl}
use Rattle.std.specs.Prelude.{All}
use Rattle.std.specs.List.{AllZip}
use Rattle.std.proofs.lemmas.List.Elements.{All-nil, All-cons, All-head, All-tail}
use Rattle.std.proofs.lemmas.Option.{same_Some}
use Rattle.wb_lemmas.proofs.Places.{nothing_at}
use Rattle.wb_lemmas.proofs.Zips.{zip_both_at, zip_map}
use Rattle.wb_base.specs.Grammar.{GrammarView}
use Rattle.wb_certify.specs.Hosts.{CertifiedView}
use Rattle.wb_certify.specs.Kept.{AreCertifiedBoth, ExtensionView}
use Rattle.wb_certify.specs.Pieces.{piece_in}
use Rattle.wb_compose.specs.Joined.{AreCertifiedApart, Extended, pieces_in}
use Rattle.wb_compose.proofs.BridgedLemmas.{bridged_piece, certified_is_bridged}
use Rattle.wb_compose.proofs.CertifiedLemmas.{certified_apart}
use Rattle.wb_compose_kernels.specs.declared.sets.Sets.{Sets}
use Rattle.wb_compose_kernels.specs.declared.splice.Part.{Part}
use Rattle.wb_compose_kernels.specs.declared.splice.Splice.{Splice}
use Rattle.wb_compose_kernels.specs.Lent as splice
use Rattle.wb_compose_language.specs.declared.addition.Addition.{Addition}
use Rattle.wb_compose_language.specs.Additions.{grammar_in}
use Rattle.wb_compose_theory.specs.NumberLaws.{HasHostKernels}
use Rattle.wb_compose_theory_grammar.specs.Certificates.{AreCertified}
use Rattle.wb_compose_theory_grammar.specs.Pieces.{Extends, Piece}
use Rattle.wb_compose_theory_grammar.specs.Unions.{union_of}
use Rattle.wb_compose_theory_grammar.specs.UnitedWorlds.{united}
use Rattle.wb_determinism_host.specs.Hosts.{AreHostParts}
use Rattle.wb_determinism_kernels.specs.declared.numbers.Numbers.{Numbers}
use Rattle.wb_determinism_kernels.specs.NewKernels.{NewKernelsView}
use Rattle.wb_determinism_kernels.specs.Given.{IsGiven}
use Rattle.wb_determinism_kernels.specs.NewKernels.{AreNewKernels}
use Rattle.wb_determinism_kernels.specs.Numbers.{phi_by, up_by}
use Rattle.wb_determinism_kernels.specs.declared.beside.Beside.{Beside}
use Rattle.wb_determinism_lookaheads.specs.NewLookaheads.{AreHolesAlone, NewLookaheadsView}
use Rattle.wb_items.specs.Kernels.{KernelsView}
use Rattle.wb_items.specs.LookaheadSets.{AreLookaheads}
use Rattle.wb_items.specs.Lookaheads.{LookaheadsView}
use Rattle.wb_marking_holes.specs.Holes.{with_holes_of}
use Rattle.wb_syntax_resolved.specs.declared.resolved.ResolvedParts.{ResolvedParts}
use Rattle.wb_tests_unions.specs.declared.found.Found.{Found}
use Rattle.wb_tests_unions.specs.declared.found.Own.{Own}
use Rattle.wb_tests_unions.specs.declared.lent.Lent.{Lent}
use Rattle.wb_tests_unions.specs.Inner.Found.{FitsBeside, IsFoundBeside, IsFoundBy, IsOwn, extensible_in, kernels_in}
use Rattle.wb_tests_unions.specs.Inner.Lent.{AreSetsFor, IsAdded, IsLentBeside, IsLentFrom, IsPartBeside, IsPartFrom, IsReady, IsUnion, grammar_of}
use Rattle.wb_tests_unions.specs.Inner.Lent.{grammar_or}

-- what is lent of what was found of an extension
pub lent_beside : (own : Own) (e : ExtensionView) (found : Found) (lent : Lent) → IsFoundBeside own e found → IsLentFrom own found lent
    → IsLentBeside own e lent
lent_beside own e found lent is from = record {
  grammar = is.grammar;
  start = is.start;
  host = from.host;
  found =
      subst (λ (new : NewKernelsView). IsFoundBy own e.resolved is.grammar lent.beside.grammar.now lent.beside.numbers.now
      lent.beside.images.now new) (sym from.new)
      (subst (λ images. IsFoundBy own e.resolved is.grammar lent.beside.grammar.now lent.beside.numbers.now images found.new)
      (sym from.images)
      (subst (λ (m : Numbers). IsFoundBy own e.resolved is.grammar lent.beside.grammar.now m found.images.items found.new) (sym from.numbers)
      (subst (λ (k : GrammarView). IsFoundBy own e.resolved is.grammar k found.numbers found.images.items found.new) (sym from.grammar)
      is.found)));
}

-- what is taken of what is lent of an extension
pub part_beside : (own : Own) (e : ExtensionView) (lent : Lent) (part : Part) → IsLentBeside own e lent → IsPartFrom lent part
    → IsPartBeside own e part
part_beside own e lent part is from = record {
  grammar = is.grammar;
  start = is.start;
  host = ap (λ (b : Beside). b.host.now) from.beside ∙ is.host;
  found =
      subst (λ (new : NewKernelsView). IsFoundBy own e.resolved is.grammar part.beside.now.grammar.now part.beside.now.numbers.now
      part.beside.now.images.now new) (sym from.new)
      (subst (λ (b : Beside). IsFoundBy own e.resolved is.grammar b.grammar.now b.numbers.now b.images.now lent.new.now) (sym from.beside)
      is.found);
}

-- lookaheads at its new kernels can be found
ready : (own : Own) (e : ExtensionView) (part : Part) → IsPartBeside own e part → IsReady own part
ready own e part is =
    let k = part.beside.now.grammar.now in
    let m = part.beside.now.numbers.now in
    let images = part.beside.now.images.now in
    record {
      host = is.host;
      given = subst (λ (z : KernelsView). IsGiven z k m images) (sym is.host) is.found.fits.given;
      alone = subst (λ (z : KernelsView). AreHolesAlone z.grammar (up_by m) (phi_by m images)) (sym is.host) is.found.fits.alone;
      are_new = subst (λ (z : KernelsView). AreNewKernels z k m images part.new.now) (sym is.host) is.found.are_new;
    }

pub all_ready : (own : Own) (es : List ExtensionView) (parts : List Part) → AllZip (IsPartBeside own) es parts → All (IsReady own) parts
all_ready own [] [] all = All-nil (IsReady own)
all_ready own [] (part ∷ parts) all = absurd all
all_ready own (e ∷ es) [] all = absurd all
all_ready own (e ∷ es) (part ∷ parts) all = All-cons (IsReady own) part parts (ready own e part all.0) (all_ready own es parts all.1)

-- the grammar with an extension extends the host's
module _ (own : Own) where
  abbrev ExtendsOwn : ExtensionView → Type 0
  ExtendsOwn e = Extends own.grammar.now (grammar_of e)

  extends_own : (e : ExtensionView) (part : Part) → IsPartBeside own e part → ExtendsOwn e
  extends_own e part is =
      let host = own.host.now in
      let both = is.found.fits.both in
      subst (Extends own.grammar.now) (sym (ap grammar_or is.start))
      (bridged_piece host.resolved e.resolved own.grammar.now is.grammar host.operations
      (certified_is_bridged host.resolved e.resolved own.grammar.now is.grammar host.operations both)).extends

  pub all_extend : (es : List ExtensionView) (parts : List Part) → AllZip (IsPartBeside own) es parts
      → All (λ e. Extends own.grammar.now (grammar_of e)) es
  all_extend [] [] all = All-nil ExtendsOwn
  all_extend [] (part ∷ parts) all = absurd all
  all_extend (e ∷ es) [] all = absurd all
  all_extend (e ∷ es) (part ∷ parts) all = All-cons ExtendsOwn e es (extends_own e part all.0) (all_extend es parts all.1)

  -- and so does what an extension adds
  pub additions_extend : (es : List ExtensionView) (xs : List Addition) → AllZip IsAdded es xs
      → All (λ e. Extends own.grammar.now (grammar_of e)) es → All (λ (x : Addition). Extends own.grammar.now (grammar_in x)) xs
  additions_extend [] [] zip all = All-nil (λ (x : Addition). Extends own.grammar.now (grammar_in x))
  additions_extend [] (x ∷ xs) zip all = absurd zip
  additions_extend (e ∷ es) [] zip all = absurd zip
  additions_extend (e ∷ es) (x ∷ xs) zip all =
      All-cons (λ (y : Addition). Extends own.grammar.now (grammar_in y)) x xs
      (subst (Extends own.grammar.now) (ap grammar_or zip.0) (All-head ExtendsOwn e es all))
      (additions_extend es xs zip.1 (All-tail ExtendsOwn e es all))

  -- their union is that of the extensions
  pub union_is : (es : List ExtensionView) (xs : List Addition) (g : GrammarView) → AllZip IsAdded es xs
      → g ≡ union_of own.grammar.now (map grammar_in xs) → IsUnion own es g
  union_is es xs g zip is =
      is ∙ ap (union_of own.grammar.now)
      (zip_map IsAdded grammar_of grammar_in (λ (e : ExtensionView) (x : Addition) start. sym (ap grammar_or start)) es xs zip)

-- an extension with its grammar
abbrev extended_of : ExtensionView → Extended
extended_of e = record { resolved = e.resolved; grammar = grammar_of e }

abbrev pieces_for : List ExtensionView → List Piece
pieces_for es = pieces_in (map extended_of es)

module _ (own : Own) (is : IsOwn own) where
  abbrev host : CertifiedView
  host = own.host.now

  abbrev h : GrammarView
  h = own.grammar.now

  abbrev Each : Extended → Type 0
  Each x = AreCertifiedBoth host.resolved x.resolved h x.grammar host.operations

  each_both : (es : List ExtensionView) (parts : List Part) → AllZip (IsPartBeside own) es parts → All Each (map extended_of es)
  each_both [] [] all = All-nil Each
  each_both [] (part ∷ parts) all = absurd all
  each_both (e ∷ es) [] all = absurd all
  each_both (e ∷ es) (part ∷ parts) all =
      All-cons Each (extended_of e) (map extended_of es)
      (subst (λ (g : GrammarView). AreCertifiedBoth host.resolved e.resolved h g host.operations) (sym (ap grammar_or all.0.start))
      all.0.found.fits.both) (each_both es parts all.1)

  certified : (es : List ExtensionView) (parts : List Part) → AllZip (IsPartBeside own) es parts
      → AreCertified h host.resolved.extensible (pieces_for es)
  certified es parts all =
      certified_apart host.resolved h host.operations (map extended_of es) (record {
        host_resolved = is.certified.whole;
        host_start = is.start;
        host_certified = is.certified.certified;
        each = each_both es parts all;
      })

  -- as many
  as_many : (es : List ExtensionView) (parts : List Part) → AllZip (IsPartBeside own) es parts → length parts ≡ length (pieces_for es)
  as_many [] [] all = refl
  as_many [] (part ∷ parts) all = absurd all
  as_many (e ∷ es) [] all = absurd all
  as_many (e ∷ es) (part ∷ parts) all = ap suc (as_many es parts all.1)

  -- what is taken of an extension is a part of the union
  part_is : (e : ExtensionView) (part : Part) → IsPartBeside own e part
      → splice.IsPartOf h host.resolved.extensible (kernels_in own) (piece_in e.resolved (grammar_of e)) part
  part_is e part beside =
      let k = part.beside.now.grammar.now in
      let m = part.beside.now.numbers.now in
      let images = part.beside.now.images.now in
      let there : splice.IsPartOf h host.resolved.extensible (kernels_in own) (piece_in e.resolved beside.grammar) part = record {
        host_kernels = beside.host;
        grammar = beside.found.fits.holes_are;
        numbers = beside.found.fits.numbers_are;
        images = beside.found.fits.images_are;
        new = subst (λ (z : KernelsView). AreNewKernels z k m images part.new.now) (sym beside.host) beside.found.are_new;
        same = subst (λ (z : KernelsView). HasHostKernels z.grammar k (up_by m)) (sym beside.host) beside.found.fits.same;
      } in
      subst (λ (g : GrammarView). splice.IsPartOf h host.resolved.extensible (kernels_in own) (piece_in e.resolved g) part)
      (sym (ap grammar_or beside.start)) there

  part_at : (es : List ExtensionView) (parts : List Part) → AllZip (IsPartBeside own) es parts → (i : ℕ) (x : Piece) (part : Part)
      → slice_get (pieces_for es) i ≡ Some x → slice_get parts i ≡ Some part
      → splice.IsPartOf h host.resolved.extensible (kernels_in own) x part
  part_at [] parts all i x part at there = absurd (nothing_at x i at)
  part_at (e ∷ es) [] all i x part at there = absurd all
  part_at (e ∷ es) (one ∷ parts) all zero x part at there =
      subst (splice.IsPartOf h host.resolved.extensible (kernels_in own) x) (same_Some one part there)
      (subst (λ (y : Piece). splice.IsPartOf h host.resolved.extensible (kernels_in own) y one)
      (same_Some (piece_in e.resolved (grammar_of e)) x at) (part_is e one all.0))
  part_at (e ∷ es) (one ∷ parts) all (suc i) x part at there = part_at es parts all.1 i x part at there

  host_parts : AreHostParts host.resolved h host.parts
  host_parts = is.certified.parts h is.start

  -- the union can be taken from its parts
  pub spliceable : (es : List ExtensionView) (s : Splice) → AllZip (IsPartBeside own) es s.parts.now → s.host.now ≡ h
      → s.holes ≡ length host.resolved.extensible → s.kernels.now ≡ kernels_in own → IsUnion own es s.union.now → splice.AreSpliceable s
  spliceable es s all host_is holes kernels union = record {
    extensible = host.resolved.extensible;
    pieces = pieces_for es;
    certified = subst (λ (z : GrammarView). AreCertified z host.resolved.extensible (pieces_for es)) (sym host_is)
        (certified es s.parts.now all);
    holes = holes;
    of_host = ap (λ (z : KernelsView). z.grammar) kernels ∙ (host_parts.of_grammar ∙ (host_parts.grammar
        ∙ ap (λ (z : GrammarView). with_holes_of z host.resolved.extensible) (sym host_is)));
    union_is = union ∙ (ap (union_of h) (grammars es) ∙ ap (λ (z : GrammarView). united z host.resolved.extensible (pieces_for es))
        (sym host_is));
    len = as_many es s.parts.now all;
    parts = λ i x part at there.
        subst (λ (z : GrammarView). splice.IsPartOf z host.resolved.extensible s.kernels.now x part) (sym host_is)
        (subst (λ (z : KernelsView). splice.IsPartOf h host.resolved.extensible z x part) (sym kernels)
        (part_at es s.parts.now all i x part at there));
  }
    where
      grammars : (es : List ExtensionView) → map grammar_of es ≡ map (λ (x : Piece). x.grammar) (pieces_for es)
      grammars [] = refl
      grammars (e ∷ es) = ap (λ gs. grammar_of e ∷ gs) (grammars es)

  -- and its sets too
  pub sets_are : (s : Splice) (sets : Sets) → s.kernels.now ≡ kernels_in own → sets.host.now ≡ host.parts.lookaheads
      → AllZip AreSetsFor s.parts.now sets.new.now → splice.AreSetsOf s sets
  sets_are s sets kernels known all = record {
    of_host = subst (λ (z : KernelsView). AreLookaheads z sets.host.now) (sym kernels)
        (subst (AreLookaheads (kernels_in own)) (sym known) host_parts.lookaheads);
    len = sets_len s.parts.now sets.new.now all;
    each = λ i part found at there. zip_both_at AreSetsFor s.parts.now sets.new.now i part found all at there;
  }
    where
      sets_len : (parts : List Part) (found : List NewLookaheadsView) → AllZip AreSetsFor parts found → length found ≡ length parts
      sets_len [] [] all = refl
      sets_len [] (x ∷ found) all = absurd all
      sets_len (part ∷ parts) [] all = absurd all
      sets_len (part ∷ parts) (x ∷ found) all = ap suc (sets_len parts found all.1)
