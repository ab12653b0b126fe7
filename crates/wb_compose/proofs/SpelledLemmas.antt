-- No terminal of what a text stands for matches the empty text, and names are bytes.
use Rattle.std.proofs.Common.{◌≡◌, ◌++◌, ◌∷◌, ◌⊎◌, ◌∙◌, inl, inr, [], ℕ, List, Some, length, map, slice_get, sym, ap, subst}
use Rattle.std.specs.Prelude.{All, Contains, ◌<◌}
use Rattle.std.specs.List.{AllZip}
use Rattle.std.proofs.lemmas.List.Elements.{All-append, All-cons, All-head, All-map, All-nil, All-tail}
use Rattle.std.proofs.lemmas.Option.{same_Some}
use Rattle.wb_base.specs.Grammar.{GrammarView}
use Rattle.wb_base.specs.Identifiers.{IsName}
use Rattle.wb_certify.specs.Kept.{AreCertifiedBoth}
use Rattle.wb_certify.specs.Hosts.{IsOfText, IsWritten}
use Rattle.wb_certify.specs.Lexicons.{lexicon_beside, lexicon_of}
use Rattle.wb_lemmas.proofs.Elements.{all_at, all_contained, all_from_contained, all_from_places}
use Rattle.wb_lemmas.proofs.Places.{default_at}
use Rattle.wb_lemmas.proofs.Zips.{beside}
use Rattle.wb_certify.specs.Resolving.{extension_file, host_file}
use Rattle.wb_names_theory.specs.Declarations.{LexicalDeclaration, lexical_of, lexicals}
use Rattle.wb_names_numbers_theory.proofs.Selected.{kept_from}
use Rattle.wb_names_numbers_theory.specs.Files.{File}
use Rattle.wb_names_numbers_theory.specs.Numbering.{numbering_of}
use Rattle.wb_names_numbers_theory.specs.Resolves.{IsScanned, IsTerminal, Resolves}
use Rattle.wb_names_numbers_theory.specs.Sources.{Splits, follows, leads, nothing, sources}
use Rattle.wb_operations.specs.Operations.{OperationSignature}
use Rattle.wb_regex.specs.Matches.{Matches}
use Rattle.wb_syntax.specs.SpecText.{IsReadAs, IsReadForm, SpecView}
use Rattle.wb_syntax.specs.declared.item.Item.{Item}
use Rattle.wb_syntax.specs.declared.item.ItemForm.{ItemForm}
use Rattle.wb_syntax.specs.declared.item.ItemForm.TheVariants as f
use Rattle.wb_syntax.specs.declared.pattern.Pattern.{Pattern}
use Rattle.wb_syntax.specs.declared.pattern.WrittenPattern.{WrittenPattern}
use Rattle.wb_syntax_resolved.specs.declared.resolved.ResolvedParts.{ResolvedParts}
use Rattle.wb_syntax_resolved.specs.declared.terminal.Terminal.{Terminal}
use Rattle.wb_compose_theory_language.proofs.SpelledLemmas.{name_bytes}
use Rattle.wb_compose_theory_language.specs.Spelled.{AreSpelled, HasNoEmpty}
use Rattle.wb_compose_theory_language.specs.Written.{WrittenPiece}
use Rattle.wb_compose.specs.Joined.{AreCertifiedApart, Extended}
use Rattle.wb_compose.specs.Written.{name_in, written_in, written_with}

-- a terminal doesn't match the empty text, nor does a declared one
abbrev IsSome : Terminal → Type 0
IsSome t = ¬ Matches t.pattern []

abbrev IsSomeDeclared : LexicalDeclaration → Type 0
IsSomeDeclared d = ¬ Matches d.pattern.regex []

abbrev IsSomeSource : Terminal ⊎ LexicalDeclaration → Type 0
IsSomeSource (inl t) = IsSome t
IsSomeSource (inr d) = IsSomeDeclared d

-- what a form declares doesn't, where it is read
form_some : (written : ItemForm WrittenPattern) (form : ItemForm Pattern) → IsReadForm written form → (d : LexicalDeclaration)
    → lexical_of form ≡ Some d → IsSomeDeclared d
form_some (f.Lexical role name pattern) form (tree, is, same) d declares =
    let found = same_Some (record { role = role; name = name; pattern = record { bytes = pattern.bytes; regex = tree } }) d
    (sym (ap lexical_of same) ∙ declares) in
    subst IsSomeDeclared found is.some
form_some (f.Plain plain) form same d declares = absurd (cc (sym (ap lexical_of same) ∙ declares))
form_some (f.Production role production) form same d declares = absurd (cc (sym (ap lexical_of same) ∙ declares))
form_some (f.Aspect name equations) form same d declares = absurd (cc (sym (ap lexical_of same) ∙ declares))

-- nor does what an item declares
item_some : (written : List (Item WrittenPattern)) (items : List (Item Pattern)) → AllZip IsReadAs written items → (item : Item Pattern)
    → Contains items item → (d : LexicalDeclaration) → lexical_of item.form ≡ Some d → IsSomeDeclared d
item_some written items all item has d declares =
    all_contained (λ (i : Item Pattern). lexical_of i.form ≡ Some d → IsSomeDeclared d) items item
    (all_from_places (λ (i : Item Pattern). lexical_of i.form ≡ Some d → IsSomeDeclared d) items (λ k i at is.
    (let b = beside IsReadAs written items k i all at in form_some b.other.form i.form b.related.form d is))) has declares

-- nor does what a specification that some text is declares
pub declared_some : (spec : SpecView) → IsWritten spec → All IsSomeDeclared (lexicals spec.items)
declared_some spec (bytes, text) = all_from_contained IsSomeDeclared (lexicals spec.items) (λ d has.
    (let (item, there, declares) = kept_from (λ (i : Item Pattern). lexical_of i.form) spec.items d has in
    item_some text.written.items spec.items text.read.items item there d declares))

-- what is in both parts was in the whole
in_parts : {X : Type 0} (P Q : X → Type 0) (xs a b : List X) → Splits P xs a b → All Q xs → All Q a × All Q b
in_parts P Q xs a b nothing all = (All-nil Q, All-nil Q)
in_parts P Q xs a b (leads {x} {xs = ys} {leading = c} p s) all =
    let rest = in_parts P Q ys c b s (All-tail Q x ys all) in (All-cons Q x c (All-head Q x ys all) rest.0, rest.1)
in_parts P Q xs a b (follows {x} {xs = ys} {following = c} p s) all =
    let rest = in_parts P Q ys a c s (All-tail Q x ys all) in (rest.0, All-cons Q x c (All-head Q x ys all) rest.1)

-- a row matches what its source matches
row_some : (file : File) (r : ResolvedParts) (z : Terminal ⊎ LexicalDeclaration) (row : Terminal)
    → IsTerminal file (numbering_of r) z row → IsSomeSource z → IsSome row
row_some file r (inl t) row is some = subst (λ p. ¬ Matches p []) (sym is.pattern) some
row_some file r (inr d) row is some = subst (λ p. ¬ Matches p []) (sym is.pattern) some

-- so no terminal of the value does
pub value_some : (file : File) (r : ResolvedParts) → Resolves file r → All IsSome file.base.terminals
    → All IsSomeDeclared (lexicals file.items) → All IsSome r.terminals
value_some file r is base declared = all_from_places IsSome r.terminals (λ k row at.
    (let b = beside (IsTerminal file (numbering_of r)) (is.terminals.leading ++ is.terminals.following) r.terminals k row
    is.terminals.are_rows at in
    row_some file r b.other row b.related
    (all_at IsSomeSource (is.terminals.leading ++ is.terminals.following) k b.other both_parts b.at)))
  where
    all_sources : All IsSomeSource (sources file.base.terminals (lexicals file.items))
    all_sources =
        All-append IsSomeSource (map inl file.base.terminals) (map inr (lexicals file.items))
        (All-map IsSomeSource inl file.base.terminals base) (All-map IsSomeSource inr (lexicals file.items) declared)

    both_parts : All IsSomeSource (is.terminals.leading ++ is.terminals.following)
    both_parts =
        let parts = in_parts IsScanned IsSomeSource (sources file.base.terminals (lexicals file.items)) is.terminals.leading
        is.terminals.following is.terminals.splits all_sources in
        All-append IsSomeSource is.terminals.leading is.terminals.following parts.0 parts.1

-- what is scanned of it
scanned_some : (r : ResolvedParts) (g : GrammarView) → All IsSome r.terminals → HasNoEmpty (lexicon_of r g)
scanned_some r g all t m = all_at (λ p. ¬ Matches p []) (map (λ (x : Terminal). x.pattern) r.terminals) t m.tree
    (All-map (λ p. ¬ Matches p []) (λ (x : Terminal). x.pattern) r.terminals all) m.at m.matches

pub host_some : (host : ResolvedParts) → IsOfText host → All IsSome host.terminals
host_some host is = value_some (host_file is.spec) host is.names.value (All-nil IsSome) (declared_some is.spec is.written)

module _ (host r : ResolvedParts) (h g : GrammarView) (operations : List OperationSignature)
    (both : AreCertifiedBoth host r h g operations) where
  extension_some : HasNoEmpty (lexicon_beside r g (length h.productions))
  extension_some =
      scanned_some r g (value_some (extension_file host both.extends.spec) r both.extends.names.value
      (host_some host both.host_certified.of_text) (declared_some both.extends.spec both.extends.written))

  name_below : All (λ b. b < 256) (name_in r)
  name_below =
      let first : slice_get r.attributes.extensions 0 ≡ Some both.extends.spec.name =
      ap (λ (xs : List (List ℕ)). slice_get xs 0) both.extends.names.value.extensions in
      name_bytes (name_in r) (subst IsName (sym (default_at r.attributes.extensions 0 [] both.extends.spec.name first))
      (all_at IsName r.attributes.extensions 0 both.extends.spec.name both.resolved.attributes.named.extensions first))

module _ (host : ResolvedParts) (h : GrammarView) (operations : List OperationSignature) where
  abbrev IsOne : Extended → Type 0
  IsOne e = AreCertifiedBoth host e.resolved h e.grammar operations

  -- what holds of each holds of all as they are written
  each_written : (P : WrittenPiece → Type 0) → ((e : Extended) → IsOne e → P (written_with h e.resolved e.grammar))
      → (extensions : List Extended) → All IsOne extensions → All P (written_in h extensions)
  each_written P gives [] all = All-nil P
  each_written P gives (e ∷ rest) all =
      All-cons P (written_with h e.resolved e.grammar) (written_in h rest) (gives e (All-head IsOne e rest all))
      (each_written P gives rest (All-tail IsOne e rest all))

  -- a certified host and certified extensions are in bytes, and nothing of them matches the empty text
  pub all_spelled : (extensions : List Extended) → AreCertifiedApart host h operations extensions →
      AreSpelled (lexicon_of host h) (written_in h extensions)
  all_spelled extensions apart = record {
    of_host = scanned_some host h (host_some host apart.host_certified.of_text);
    of_extensions = each_written (λ (x : WrittenPiece). HasNoEmpty x.lexicon)
        (λ e both. extension_some host e.resolved h e.grammar operations both) extensions apart.each;
    names = each_written (λ (x : WrittenPiece). All (λ b. b < 256) x.name)
        (λ e both. name_below host e.resolved h e.grammar operations both) extensions apart.each;
  }
