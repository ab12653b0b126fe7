-- Why calls by handles are refused.
use Rattle.std.specs.Prelude.{◌≡◌, ◌<◌, ◌≤◌, ◌⊎◌, ℕ, List, length}
use Rattle.wb_values.specs.ValuesIn.{tree_in}
use Rattle.wb_terms.specs.Printed.{printed_tree}
use Rattle.wb_compose_files.specs.HostContents.{IsHostRefusal}
use Rattle.wb_compose_files.specs.extension_refusal.FileRefusal.{FileRefusal}
use Rattle.wb_compose_files.specs.extension_refusal.FileRefusal.TheVariants as f
use Rattle.wb_compose_files.specs.host_refusal.HostRefusal.TheVariants as h
use Rattle.wb_compose_files.specs.Unions.{all_resolved}
use Rattle.wb_compose_files.specs.Certified.{CertifiedParts}
use Rattle.wb_compose_files.specs.Extensions.{IsNextRefusal}
use Rattle.wb_compose_files.specs.declared.refusal.NextRefusal.TheVariants as n
use Rattle.wb_operations.specs.Standard.{standard_signatures}
use Rattle.wb_report.specs.Lines.{report_of}
use Rattle.wb_report.specs.declared.outcome.Outcome.TheVariants as o
use Rattle.wb_report.specs.declared.refusal.Refusal.{Refusal}
use Rattle.wb_library_handles.specs.Handles.{IsNamed, NamesNone}
use Rattle.wb_library_handles.specs.declared.handle.Handle.{Handle}
use Rattle.wb_library_handles.specs.declared.slot.Slot.{Slot}
use Rattle.wb_session_library.specs.Reasons.{IsNoReason, IsReason}
use Rattle.wb_session_library.specs.Views.{TextView}
use Rattle.wb_session_library.specs.declared.reason.Reason.{Reason}
use Rattle.wb_session_library.specs.declared.refusal.CallRefusal.{CallRefusal}
use Rattle.wb_session_library.specs.declared.refusal.CallRefusal.TheVariants as c

-- there is no room for one more
abbrev pub IsOfRoom : CallRefusal → Type 0
IsOfRoom c.Full = Unit {0}
IsOfRoom c.NoMemory = Unit {0}
IsOfRoom other = ⊥

-- there is nothing of the number, or memory ran out
abbrev pub IsPlaceRefusal : Type 0 → CallRefusal → Type 0
IsPlaceRefusal Out c.OutOfRange = Out
IsPlaceRefusal Out c.NoMemory = Unit {0}
IsPlaceRefusal Out other = ⊥

module _ {T : Type 0} where
  -- the handle names a value of which this holds
  pub record Names (slots : List (Slot T)) (handle : Handle) (P : T → Type 0) : Type 0 where
    pub value : T
    pub is : IsNamed slots handle value
    pub holds : P value

  -- the handle names no value, or the value that it names is refused for this reason
  abbrev pub IsNamedRefusal : List (Slot T) → Handle → (T → CallRefusal → Type 0) → CallRefusal → Type 0
  IsNamedRefusal slots handle R c.WrongHandle = NamesNone slots handle
  IsNamedRefusal slots handle R other = Names slots handle (λ value. R value other)

-- a file of this name is refused for a refusal that meets this; the note is the line that says so, and the reason has its code and place
pub record HasReason (P : Refusal → Type 0) (name note : List ℕ) (reason : Reason) : Type 0 where
  pub refusal : Refusal
  pub meets : P refusal
  pub shown : note ≡ report_of (o.Refused name refusal)
  pub told : IsReason refusal reason

-- why contents are no host, with the note and the reason of it: they aren't certified, or there is no room for one more
abbrev pub IsHostRefused : (contents name note : List ℕ) → Reason → CallRefusal → Type 0
IsHostRefused contents name note reason c.SpecRefused =
    HasReason (λ refusal. IsHostRefusal standard_signatures contents (h.Specification refusal)) name note reason
IsHostRefused contents name note reason c.NotCertified =
    HasReason (λ refusal. IsHostRefusal standard_signatures contents (h.Certification refusal)) name note reason
IsHostRefused contents name note reason c.Full = Unit {0}
IsHostRefused contents name note reason c.NoMemory = Unit {0}
IsHostRefused contents name note reason other = ⊥

-- the contents can't follow the extensions of the host for this reason, by what is written or by a rule that is left
abbrev pub IsFileRefused : CertifiedParts → List ℕ → FileRefusal → Type 0
IsFileRefused host contents refusal =
    IsNextRefusal standard_signatures host.host.resolved (all_resolved host.extensions) contents (n.Header refusal) ⊎
    IsNextRefusal standard_signatures host.host.resolved (all_resolved host.extensions) contents (n.Later refusal)

-- the extension is for this host, which is another, and the note says so
pub record IsForOther (host : CertifiedParts) (contents name note : List ℕ) (reason : Reason) : Type 0 where
  pub other : List ℕ
  pub is : IsFileRefused host contents (f.WrongHost other)
  pub shown : note ≡ report_of (o.WrongHost name other)
  pub told : IsNoReason reason

-- the extension has the name of one before it, and the note says so
pub record IsSecond (host : CertifiedParts) (contents note : List ℕ) (reason : Reason) : Type 0 where
  pub name : List ℕ
  pub is : IsNextRefusal standard_signatures host.host.resolved (all_resolved host.extensions) contents (n.Duplicate name)
  pub shown : note ≡ report_of (o.DuplicateExtension name)
  pub told : IsNoReason reason

-- why contents are no extension of the host after those that it has, with the note and the reason of it
abbrev pub IsExtensionRefused : (contents name note : List ℕ) → Reason → CertifiedParts → CallRefusal → Type 0
IsExtensionRefused contents name note reason host c.SpecRefused =
    HasReason (λ refusal. IsFileRefused host contents (f.Specification refusal)) name note reason
IsExtensionRefused contents name note reason host c.NotCertified =
    HasReason (λ refusal. IsFileRefused host contents (f.Certification refusal)) name note reason
IsExtensionRefused contents name note reason host c.WrongHost = IsForOther host contents name note reason
IsExtensionRefused contents name note reason host c.DuplicateExtension = IsSecond host contents note reason
IsExtensionRefused contents name note reason host c.NoMemory = Unit {0}
IsExtensionRefused contents name note reason host other = ⊥

-- why no text is opened in a language
abbrev pub IsOpenRefusal : List ℕ → CallRefusal → Type 0
IsOpenRefusal text c.TextTooLong = 1048576 < length text
IsOpenRefusal text c.Full = Unit {0}
IsOpenRefusal text c.NoMemory = Unit {0}
IsOpenRefusal text other = ⊥

-- why a call is refused that asks for what each value of the sort has: the handle names none
abbrev pub IsNoRefusal : CallRefusal → Type 0
IsNoRefusal other = ⊥

-- why the tree at a node isn't printed
abbrev pub IsPrintRefusal : TextView → ℕ → CallRefusal → Type 0
IsPrintRefusal view node c.OutOfRange = length view.store ≤ node
IsPrintRefusal view node c.TooLongToPrint = 16777216 < length (printed_tree view.language.signatures (tree_in view.store node))
IsPrintRefusal view node c.NoMemory = Unit {0}
IsPrintRefusal view node other = ⊥
