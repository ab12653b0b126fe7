-- A refusal that is handed on is true of what was asked.
use Rattle.std.proofs.Common.{◌≡◌, ℕ, List, Some, None, refl, sym, subst}
use Rattle.std.specs.Prelude.{Option, IfSome, IsSome}
use Rattle.wb_certify.specs.HostTests.{IsKindRefusal}
use Rattle.wb_certify.specs.certify_refusal.CertifyRefusal.{CertifyRefusal}
use Rattle.wb_certify.specs.certify_refusal.CertifyRefusal.TheVariants as c
use Rattle.wb_operations.specs.Operations.{OperationSignature}
use Rattle.wb_syntax_resolved.specs.declared.resolved.ResolvedParts.{ResolvedParts}
use Rattle.wb_recheck.specs.declared.refusal.RecheckRefusal.{RecheckRefusal}
use Rattle.wb_recheck.specs.declared.refusal.RecheckRefusal.TheVariants as k
use Rattle.wb_recheck.specs.ExtensionRefusals.{IsBesideRecheckRefusal}
use Rattle.wb_recheck.specs.HostRefusals.{IsMemory, IsValueRecheckRefusal}
use Rattle.wb_recheck.specs.Inner.Handed.{IsHandedOn, IsKindFault}

-- what is there, and what holds of it
pub found_in : {X : Type 0} (o : Option X) (P : X → Type 0) → IsSome o → IfSome o P → (x : X) × (o ≡ Some x) × P x
found_in (Some x) P there holds = (x, refl, holds)
found_in None P there holds = absurd (cc there)

pub some_in : {X : Type 0} (o : Option X) → IsSome o → (x : X) × (o ≡ Some x)
some_in (Some x) there = (x, refl)
some_in None there = absurd (cc there)

module _ (r : ResolvedParts) (operations : List OperationSignature) (text : List ℕ) where
  -- out of memory says nothing of a host
  pub memory_value : (handed : RecheckRefusal) → IsMemory handed → IsValueRecheckRefusal r operations text handed
  memory_value (k.Certify refusal) is = absurd is
  memory_value (k.Syntax place) is = absurd is
  memory_value (k.WrongLine line) is = absurd is
  memory_value (k.Missing kernel) is = absurd is
  memory_value (k.NoMemory error) is = tt

  -- nor of an extension
  pub memory_beside : (host : ResolvedParts) (handed : RecheckRefusal) → IsMemory handed
      → IsBesideRecheckRefusal host r operations text handed
  memory_beside host (k.Certify refusal) is = absurd is
  memory_beside host (k.Syntax place) is = absurd is
  memory_beside host (k.WrongLine line) is = absurd is
  memory_beside host (k.Missing kernel) is = absurd is
  memory_beside host (k.NoMemory error) is = tt

-- a refusal of kinds
pub kind_fault : (r : ResolvedParts) (operations : List OperationSignature) (refusal : CertifyRefusal) (handed : RecheckRefusal)
    → IsHandedOn refusal handed → IsKindRefusal r operations refusal → IsKindFault r operations handed
kind_fault r operations (c.Names refusal) handed is reason = absurd reason
kind_fault r operations (c.Types refusal) handed is reason = record {
  of_host = λ text. subst (IsValueRecheckRefusal r operations text) (sym is) (reason, tt);
  beside = λ host text. subst (IsBesideRecheckRefusal host r operations text) (sym is) (reason, tt);
}
kind_fault r operations c.NoStart handed is reason = absurd reason
kind_fault r operations (c.Determinism refusal) handed is reason = absurd reason
kind_fault r operations (c.Attributes refusal) handed is reason = absurd reason
kind_fault r operations (c.NoMemory error) handed is reason = record {
  of_host = λ text. memory_value r operations text handed is;
  beside = λ host text. memory_beside r operations text host handed is;
}
