-- How a run ends that adds an explanation to the lines of `workbench`, and what it has written then.
use Rattle.std.proofs.Common.{◌≡◌, ◌≢◌, ◌⊎◌, ◌++◌, ◌∙◌, ℕ, Bool, true, false, Option, Some, List, [], Result, Ok, Err, inl, inr, arith, ap, sym, refl, subst, length}
use Rattle.std.specs.Io.KnownBytes.{append_known}
use Rattle.wb_world.specs.Cause.{Rose}
use Rattle.wb_explain_lines.specs.Page.{PageView}
use Rattle.wb_explain_lines.specs.Written.{WrotePart}
use Rattle.std.specs.Prelude.{OnOk}
use Rattle.wb_program.specs.Written.{Wrote, WrotePrefix}
use Rattle.wb_program.specs.status.Status.{Status}
use Rattle.wb_program.specs.status.Status.TheVariants.{Done, Absent, ReadFault, WriteFault, NoMemory}
use Rattle.wb_explain.specs.Explained.{AreLines, BeginsWith, Explained, IsExplained}
use Rattle.wb_explain.specs.Inner.Ends.{Adds, Ends, shown_as}
use Rattle.wb_explain_shown.specs.Asking.{AsksTree}
use Rattle.wb_explain_shown.specs.Pictures.{AddsPicture}

-- a run that ends in no other way ends with the status
pub same_status : (status end other : Status) (bytes : List ℕ) (before now : Option (List ℕ)) → other ≢ WriteFault → other ≢ NoMemory
    → Ends status bytes before now end → end ≡ other → status ≡ other
same_status status end other bytes before now not_fault not_memory (inl (is, same)) e = absurd (not_memory (sym e ∙ is))
same_status status end other bytes before now not_fault not_memory (inr (memory, inl (is, part))) e = absurd (not_fault (sym e ∙ is))
same_status status end other bytes before now not_fault not_memory (inr (memory, inr (is, all))) e = sym is ∙ e

-- a count that rose isn't zero
rose_some : (before now : ℕ) → before ≡ 0 → Rose before now → now ≢ 0
rose_some before now none (inl more) is = omega (arith, more, is)
rose_some before now none (inr full) is = omega (arith, full, is)

-- a run ends so only where the output failed, as the page has not
pub fault_rose : (Shows : List ℕ → List ℕ → Type 0) (status : Status) (fresh page filled : PageView) (before now : ℕ) → fresh ≡ record { bytes = []; failures = 0 }
    → (status ≡ WriteFault → Rose fresh.failures page.failures) → Adds Shows status page filled → (status ≡ WriteFault) ⊎ Rose before now
    → Rose before now
fault_rose Shows status fresh page filled before now none fault adds (inl is) =
    absurd (rose_some fresh.failures page.failures (ap (λ (p : PageView). p.failures) none) (fault is) adds.unfailed)
fault_rose Shows status fresh page filled before now none fault adds (inr rose) = rose

-- what is shown of a run that comes to its end
pub adds_ended : (Shows : List ℕ → List ℕ → Type 0) (status : Status) (before now : PageView) → before.failures ≡ 0 → status ≡ Done
    → Shows before.bytes now.bytes → Adds Shows status before now
adds_ended Shows status before now unfailed done shows =
    record { unfailed = unfailed; begins = λ other. absurd (other done); ends = λ is. shows }

-- what is said of another
pub adds_said : (Shows : List ℕ → List ℕ → Type 0) (status : Status) (before now : PageView) → before.failures ≡ 0 → status ≢ Done
    → BeginsWith before.bytes now.bytes → Adds Shows status before now
adds_said Shows status before now unfailed other begins =
    record { unfailed = unfailed; begins = λ is. begins; ends = λ done. absurd (other done) }

-- the lines are followed by the tree
pub shows_tree : (draws : Bool) (words : List (List ℕ)) (lines bytes more : List ℕ) → draws ≡ false → bytes ≡ lines ++ more
    → (more ≡ []) ⊎ AsksTree words → shown_as draws words lines bytes
shows_tree true words lines bytes more is added none = absurd (cc)
shows_tree false words lines bytes more is added none = (more, added, none)

-- a picture is in their place
pub shows_picture : (draws : Bool) (words : List (List ℕ)) (lines bytes : List ℕ) → draws ≡ true → AddsPicture [] bytes
    → shown_as draws words lines bytes
shows_picture true words lines bytes is picture = picture
shows_picture false words lines bytes is picture = absurd (cc)

-- what follows where it went well
pub on_ok : {X E : Type 0} (r : Result X E) (P Q : Type 0) → (P → Q) → OnOk r P → OnOk r Q
on_ok (Ok x) P Q f h = f h
on_ok (Err e) P Q f h = tt

-- the same bytes are known
same_bytes : (xs ys : List ℕ) → Some xs ≡ Some ys → xs ≡ ys
same_bytes xs ys is = cc

module _ (IsReport : Status → List ℕ → Type 0) (Shows : List ℕ → List ℕ → Type 0) where
  -- what is on the page are the lines of the run
  lines_of : (status : Status) (bytes : List ℕ) → status ≢ WriteFault → status ≢ NoMemory → Wrote IsReport (Some []) (Some bytes) status
      → AreLines IsReport Shows status bytes
  lines_of status bytes not_fault not_memory (inl (inl absent, same)) = inr (inl absent, same_bytes bytes [] same)
  lines_of status bytes not_fault not_memory (inl (inr (inl fault), same)) = inr (inr fault, same_bytes bytes [] same)
  lines_of status bytes not_fault not_memory (inl (inr (inr memory), same)) = absurd (not_memory memory)
  lines_of status bytes not_fault not_memory (inr (inl (fault, some))) = absurd (not_fault fault)
  lines_of status bytes not_fault not_memory (inr (inr whole)) =
      inl (subst (IsReport status) (sym (same_bytes bytes whole.bytes whole.written)) whole.report)

  -- and with what is added they are explained
  explains : (status : Status) (fresh before now : PageView) → status ≢ NoMemory → fresh ≡ record { bytes = []; failures = 0 }
      → (status ≡ WriteFault → Rose fresh.failures before.failures) → Wrote IsReport (Some fresh.bytes) (Some before.bytes) status
      → Adds Shows status before now → IsExplained IsReport Shows status now.bytes
  explains status fresh before now not_memory none fault wrote adds = record {
    lines = before.bytes;
    are = lines_of status before.bytes
        (λ is. rose_some fresh.failures before.failures (ap (λ (p : PageView). p.failures) none) (fault is) adds.unfailed) not_memory
        (subst (λ (bytes : List ℕ). Wrote IsReport (Some bytes) (Some before.bytes) status) (ap (λ (p : PageView). p.bytes) none) wrote);
    begins = adds.begins;
    ends = adds.ends;
  }

  -- a prefix of it was written
  part_of : (before now : Option (List ℕ)) (bytes : List ℕ) → WrotePart before now bytes → WrotePrefix before now bytes
  part_of before now bytes part = record { count = part.count; cut = part.cut; written = part.written }

  pub explained : (status end : Status) (fresh page filled : PageView) (before now : Option (List ℕ))
      → fresh ≡ record { bytes = []; failures = 0 } → (status ≡ WriteFault → Rose fresh.failures page.failures)
      → Wrote IsReport (Some fresh.bytes) (Some page.bytes) status → Adds Shows status page filled
      → Ends status filled.bytes before now end → Explained IsReport Shows before now end
  explained status end fresh page filled before now none fault wrote adds (inl out) = inl out
  explained status end fresh page filled before now none fault wrote adds (inr (memory, inl (is, part))) =
      inr (inl (
        is,
        record {
          status = status;
          bytes = filled.bytes;
          explained = explains status fresh page filled memory none fault wrote adds;
          part = part_of before now filled.bytes part;
        },
      ))
  explained status end fresh page filled before now none fault wrote adds (inr (memory, inr (is, all))) =
      inr (inr (record {
        bytes = filled.bytes;
        explained = subst (λ (s : Status). IsExplained IsReport Shows s filled.bytes) (sym is)
            (explains status fresh page filled memory none fault wrote adds);
        written = all;
      }))
