-- A refusal of the value that a handle names is one of the handle.
use Rattle.std.proofs.Common.{◌≡◌, ℕ, List, Some, Result, Ok, Err, IfErr}
use Rattle.wb_compose_files.specs.text_value.TextValue.{TextValue}
use Rattle.wb_compose_files.specs.text_value.TextValue.TheVariants as v
use Rattle.wb_compose_files.specs.tree_value.TreeValue.{TreeValue}
use Rattle.wb_compose_files.specs.tree_value.TreeValue.TheVariants as t
use Rattle.wb_library_handles.specs.Handles.{IsNamed}
use Rattle.wb_library_handles.specs.declared.handle.Handle.{Handle}
use Rattle.wb_library_handles.specs.declared.slot.Slot.{Slot}
use Rattle.wb_session_library.specs.Questions.{IsShown, IsShownTree, IsValueRefusal, no_memory, unknown, ended}
use Rattle.wb_session_library.specs.Refusals.{IsNamedRefusal}
use Rattle.wb_session_library.specs.Views.{TextView}
use Rattle.wb_session_library.specs.declared.refusal.CallRefusal.{CallRefusal}
use Rattle.wb_session_library.specs.declared.refusal.CallRefusal.TheVariants as c

-- what holds of a refusal, from what holds of it
pub on_err : {X E : Type 0} (r : Result X E) (P Q : E → Type 0) → ((e : E) → P e → Q e) → IfErr r P → IfErr r Q
on_err (Ok x) P Q weaker holds = tt
on_err (Err e) P Q weaker holds = weaker e holds

-- no value is refused as if there were none
pub refused_value : {T : Type 0} (slots : List (Slot T)) (handle : Handle) (value : T) (R : T → CallRefusal → Type 0)
    (refusal : CallRefusal) → IsNamed slots handle value → (R value c.WrongHandle → ⊥) → R value refusal →
    IsNamedRefusal slots handle R refusal
refused_value slots handle value R c.WrongHandle is never holds = absurd (never holds)
refused_value slots handle value R other is never holds = record { value = value; is = is; holds = holds }

-- what comes of the attribute at the root of a tree isn't told as a wrong handle
tree_known : (name : List ℕ) (steps : ℕ) (note : List ℕ) (value : TreeValue) → IsShownTree name steps note value (Some c.WrongHandle) → ⊥
tree_known name steps note (t.Fault operation code) (status, shown) = absurd (cc)
tree_known name steps note t.MoreSteps (status, shown) = absurd (cc)
tree_known name steps note t.TooLong (status, shown) = absurd (cc)
tree_known name steps note (t.Value printed) (status, shown) = absurd (cc)

-- nor is what comes of a text
text_known : (name : List ℕ) (steps : ℕ) (note : List ℕ) (value : TextValue) → IsShown name steps note value (Some c.WrongHandle) → ⊥
text_known name steps note (v.Stopped place stop) (status, shown) = absurd (cc)
text_known name steps note (v.Tree value) shown = tree_known name steps note value shown

-- no value of an attribute is refused as if there were no text
pub known : (view : TextView) (name : List ℕ) (steps : ℕ) (note : List ℕ) → IsValueRefusal view name steps note c.WrongHandle → ⊥
known view name steps note (no_memory is) = absurd (cc)
known view name steps note (unknown is none shown) = absurd (cc)
known view name steps note (ended has) = text_known name steps note has.value has.shown
