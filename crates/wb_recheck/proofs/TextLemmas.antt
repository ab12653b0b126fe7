-- Texts of certificates: one for each grammar and head, and too long where there are too many entries.
use Rattle.std.proofs.Common.{◌≡◌, ℕ, ◌<◌, ◌≤◌, ◌+◌, ◌*◌, List, ◌∷◌, [], length, Option, Some, None, sym, ◌∙◌, ap, subst, arith}
use Rattle.std.specs.Prelude.{All, IfSome, MatchOption}
use Rattle.std.proofs.lemmas.List.Elements.{All-head}
use Rattle.std.proofs.lemmas.Option.{same_Some}
use Rattle.wb_base.specs.Grammar.{GrammarView}
use Rattle.wb_base.specs.Identifiers.{IsName}
use Rattle.wb_certify.specs.Extensions.{IsOneExtension}
use Rattle.wb_marking_holes.specs.Holes.{with_holes_of}
use Rattle.wb_recheck_text.specs.Text.{certificate_text}
use Rattle.wb_recheck_text.specs.Faults.{IsTextOf}
use Rattle.wb_recheck_text.specs.declared.certificate.Certificate.{Certificate}
use Rattle.wb_recheck_text.specs.declared.certificate.Head.{Head}
use Rattle.wb_recheck_text.specs.declared.certificate.Head.TheVariants.{Host, Extension}
use Rattle.wb_recheck_theory.specs.declared.line.Line.{Line}
use Rattle.wb_recheck_theory.specs.declared.entry.Entry.{Entry}
use Rattle.wb_recheck_writer.specs.Order.{HasMoreEntries, IsWrittenCertificate}
use Rattle.wb_recheck_writer.proofs.OneEntries.{written_entries, written_lines}
use Rattle.wb_recheck.specs.CertificateTexts.{IsCertificateText, IsExtensionCertificate, IsHostCertificate}
use Rattle.wb_recheck.specs.Inner.Fit.{IsHeadOf, IsTextOfHoles, IsTextWithin}
use Rattle.wb_recheck.proofs.LengthLemmas.{text_length}
use Rattle.wb_syntax_resolved.specs.Resolved.{IsResolved}
use Rattle.wb_syntax_resolved.specs.declared.resolved.ResolvedParts.{ResolvedParts}

abbrev pub of_lists : Head → List Line → List Entry → Certificate
of_lists head lines entries = record { head = head; lines = lines; entries = entries }

-- a grammar has one text with a head
pub one_text : (g : GrammarView) (head : Head) (text other : List ℕ) → IsCertificateText g head text → IsCertificateText g head other →
    text ≡ other
one_text g head text other one two =
    one.is.is ∙ (ap (λ l. certificate_text (of_lists head l one.entries))
    (written_lines one.lines two.lines one.entries two.entries one.written
    two.written) ∙ (ap (λ e. certificate_text (of_lists head two.lines e)) (written_entries one.lines two.lines one.entries two.entries
    one.written two.written) ∙ sym two.is.is))

-- so has a host
pub one_host : (r : ResolvedParts) (text other : List ℕ) → IsHostCertificate r text → IsHostCertificate r other → text ≡ other
one_host r text other one two =
    let same : two.grammar ≡ one.grammar = same_Some two.grammar one.grammar (sym two.start ∙ one.start) in
    one_text (with_holes_of one.grammar r.extensible) (Host r.host) text other one.text
    (subst (λ g. IsCertificateText (with_holes_of g r.extensible) (Host r.host) other) same two.text)

first_same : (x y : List ℕ) → x ∷ [] ≡ y ∷ [] → x ≡ y
first_same x y e = cc

-- and an extension
pub one_extension : (r : ResolvedParts) (text other : List ℕ) → IsExtensionCertificate r text → IsExtensionCertificate r other → text ≡
    other
one_extension r text other one two =
    let same : two.grammar ≡ one.grammar = same_Some two.grammar one.grammar (sym two.start ∙ one.start) in
    let name : two.name ≡ one.name = first_same two.name one.name (sym two.one ∙ one.one) in
    one_text (with_holes_of one.grammar r.extensible) (Extension one.name r.host) text other one.text
    (subst (λ n. IsCertificateText (with_holes_of one.grammar r.extensible) (Extension n r.host) other) name
    (subst (λ g. IsCertificateText (with_holes_of g r.extensible) (Extension two.name r.host) other) same two.text))

-- where there are too many entries each text is too long
pub more_bytes : (g : GrammarView) (head : Head) (limit most : ℕ) → limit < (most + 1) * 15 → HasMoreEntries g most →
    (text : List ℕ) → IsCertificateText g head text → limit < length text
more_bytes g head limit most room more text is =
    let many = more is.lines is.entries is.written in
    let long = text_length text (of_lists head is.lines is.entries) is.is in
    omega (arith, room, many, long)

-- a text that is made is the one within the limit
pub text_made : (g : GrammarView) (head : Head) (limit : ℕ) (lines : List Line) (entries : List Entry) (text : List ℕ) →
    IsWrittenCertificate g lines entries → IsTextOf text (of_lists head lines entries) → length text ≤ limit →
    IsTextWithin g head limit (Some text)
text_made g head limit lines entries text written is le = (record { lines = lines; entries = entries; written = written; is = is }, le)

-- and where it is too long, each is
pub text_long : (g : GrammarView) (head : Head) (limit : ℕ) (lines : List Line) (entries : List Entry) (text : List ℕ) →
    IsWrittenCertificate g lines entries → IsTextOf text (of_lists head lines entries) → limit < length text →
    IsTextWithin g head limit None
text_long g head limit lines entries text written is long other two =
    subst (λ z. limit < length z)
    (one_text g head text other (record { lines = lines; entries = entries; written = written; is = is }) two) long

-- with the name of a host
pub host_made : (r : ResolvedParts) (g : GrammarView) (limit : ℕ) → r.grammar ≡ Some g → (text : List ℕ) →
    IsTextOfHoles r (Host r.host) limit (Some text) → IsHostCertificate r text × (length text ≤ limit)
host_made r g limit start text made =
    let (is, le) = made g start in (record { grammar = g; start = start; text = is }, le)

pub host_long : (r : ResolvedParts) (g : GrammarView) (limit : ℕ) → r.grammar ≡ Some g → IsTextOfHoles r (Host r.host) limit None →
    (text : List ℕ) → IsHostCertificate r text → limit < length text
host_long r g limit start made text two =
    let same : two.grammar ≡ g = same_Some two.grammar g (sym two.start ∙ start) in
    made g start text (subst (λ z. IsCertificateText (with_holes_of z r.extensible) (Host r.host) text) same two.text)

-- with those of an extension and its host
pub extension_made : (r : ResolvedParts) (g : GrammarView) (head : Head) (limit : ℕ) → r.grammar ≡ Some g → IsHeadOf r head →
    (text : List ℕ) → IsTextOfHoles r head limit (Some text) → IsExtensionCertificate r text × (length text ≤ limit)
extension_made r g head limit start is text made =
    let (of, le) = made g start in (
      record {
        name = is.name;
        one = is.one;
        grammar = g;
        start = start;
        text = subst (λ h. IsCertificateText (with_holes_of g r.extensible) h text) is.is of;
      },
      le,
    )

pub extension_long : (r : ResolvedParts) (g : GrammarView) (head : Head) (limit : ℕ) → r.grammar ≡ Some g → IsHeadOf r head →
    IsTextOfHoles r head limit None → (text : List ℕ) → IsExtensionCertificate r text → limit < length text
extension_long r g head limit start is made text two =
    let same : two.grammar ≡ g = same_Some two.grammar g (sym two.start ∙ start) in
    let name : two.name ≡ is.name = first_same two.name is.name (sym two.one ∙ is.one) in
    made g start text (subst (λ h. IsCertificateText (with_holes_of g r.extensible) h text) (sym is.is)
    (subst (λ n. IsCertificateText (with_holes_of g r.extensible) (Extension n r.host) text) name
    (subst (λ z. IsCertificateText (with_holes_of z r.extensible) (Extension two.name r.host) text) same two.text)))

-- what is made of a text that is tested against the limit
pub text_tested : (g : GrammarView) (head : Head) (limit : ℕ) (lines : List Line) (entries : List Entry) (text : List ℕ) →
    IsWrittenCertificate g lines entries → IsTextOf text (of_lists head lines entries) → (made : Option (List ℕ)) →
    MatchOption made (limit < length text) (λ bytes. (bytes ≡ text) × (length text ≤ limit)) → IsTextWithin g head limit made
text_tested g head limit lines entries text written is None long = text_long g head limit lines entries text written is long
text_tested g head limit lines entries text written is (Some bytes) (same, le) =
    subst (λ z. IsTextWithin g head limit (Some z)) (sym same) (text_made g head limit lines entries text written is le)

pub host_within : (r : ResolvedParts) (g : GrammarView) (limit : ℕ) → r.grammar ≡ Some g → (made : Option (List ℕ)) →
    IsTextOfHoles r (Host r.host) limit made →
    MatchOption made ((text : List ℕ) → IsHostCertificate r text → limit < length text)
    (λ text. IsHostCertificate r text × (length text ≤ limit))
host_within r g limit start None made = host_long r g limit start made
host_within r g limit start (Some text) made = host_made r g limit start text made

pub extension_within : (r : ResolvedParts) (g : GrammarView) (head : Head) (limit : ℕ) → r.grammar ≡ Some g → IsHeadOf r head →
    (made : Option (List ℕ)) → IsTextOfHoles r head limit made →
    MatchOption made ((text : List ℕ) → IsExtensionCertificate r text → limit < length text)
    (λ text. IsExtensionCertificate r text × (length text ≤ limit))
extension_within r g head limit start is None made = extension_long r g head limit start is made
extension_within r g head limit start is (Some text) made = extension_made r g head limit start is text made

-- the grammar with holes, where it is made
pub holes_are : (r : ResolvedParts) (g made : GrammarView) → r.grammar ≡ Some g →
    IfSome r.grammar (λ h. made ≡ with_holes_of h r.extensible) → made ≡ with_holes_of g r.extensible
holes_are r g made start is = subst (λ o. IfSome o (λ h. made ≡ with_holes_of h r.extensible)) start is

pub holes_within : (r : ResolvedParts) (made : GrammarView) (head : Head) (limit : ℕ) →
    IfSome r.grammar (λ h. made ≡ with_holes_of h r.extensible) → (text : Option (List ℕ)) → IsTextWithin made head limit text →
    IsTextOfHoles r head limit text
holes_within r made head limit is text within g start =
    subst (λ h. IsTextWithin h head limit text) (holes_are r g made start is) within

-- the same of a host that is lent, with a copy of its name
pub host_told : (whole r : ResolvedParts) (name : List ℕ) (limit : ℕ) → r ≡ whole → name ≡ r.host → (g : GrammarView) →
    whole.grammar ≡ Some g → (made : Option (List ℕ)) → IsTextOfHoles r (Host name) limit made →
    MatchOption made ((text : List ℕ) → IsHostCertificate whole text → limit < length text)
    (λ text. IsHostCertificate whole text × (length text ≤ limit))
host_told whole r name limit same named g start made within =
    host_within whole g limit start made (subst (λ (z : ResolvedParts). IsTextOfHoles z (Host z.host) limit made) same
    (subst (λ n. IsTextOfHoles r (Host n) limit made) named within))

-- and of an extension, with copies of the names
pub extension_told : (whole r : ResolvedParts) (head : Head) (limit : ℕ) → r ≡ whole → IsHeadOf whole head → (g : GrammarView) →
    whole.grammar ≡ Some g → (made : Option (List ℕ)) → IsTextOfHoles r head limit made →
    MatchOption made ((text : List ℕ) → IsExtensionCertificate whole text → limit < length text)
    (λ text. IsExtensionCertificate whole text × (length text ≤ limit))
extension_told whole r head limit same named g start made within =
    extension_within whole g head limit start named made (subst (λ z. IsTextOfHoles z head limit made) same within)

-- the head of an extension
pub head_made : (r lent : ResolvedParts) (name shown host : List ℕ) → IsResolved lent → lent ≡ r → IsOneExtension r shown → name ≡ shown →
    host ≡ lent.host → IsHeadOf r (Extension name host)
head_made r lent name shown host whole same one is host_is =
    let resolved : IsResolved r = subst IsResolved same whole in
    let own : r.host ≡ host = ap (λ (z : ResolvedParts). z.host) (sym same) ∙ sym host_is in
    record {
      name = name;
      one = one ∙ ap (λ n. n ∷ []) (sym is);
      is = ap (Extension name) (sym own);
      names = (
        All-head IsName name [] (subst (All IsName) (one ∙ ap (λ n. n ∷ []) (sym is)) resolved.attributes.named.extensions),
        subst IsName own resolved.host,
      );
    }
