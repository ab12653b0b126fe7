-- A host and extensions as they were tested, each extension with the host alone.
use Rattle.std.specs.Prelude.{◌≡◌, List, [], Some, None, All}
use Rattle.wb_flow_theory.specs.Modular.{AreWellDefinedAttributes, IsHosts}
use Rattle.wb_operations.specs.Operations.{OperationSignature}
use Rattle.wb_syntax_resolved.specs.Attribution.{IsAttribution}
use Rattle.wb_types.specs.Rules.{KindsOk}
use Rattle.wb_compose_theory_attributes.specs.Unions.{Rooted}

-- each is an attribution, the host's has no extensions, and its start is its own
pub record AreAttributions (host : Rooted) (extensions : List Rooted) : Type 0 where
  pub of_host : IsAttribution host.attributes
  pub alone : host.attributes.extensions ≡ []
  pub start : IsHosts host.attributes host.start
  pub of_extensions : All (λ (e : Rooted). IsAttribution e.attributes) extensions

-- the attributes of the host are well defined, and those of each extension with the host
pub record AreWellDefinedEach (host : Rooted) (extensions : List Rooted) : Type 0 where
  pub of_host : AreWellDefinedAttributes host.attributes (Some host.start) None
  pub of_extensions : All (λ (e : Rooted). AreWellDefinedAttributes e.attributes (Some e.start) (Some 1)) extensions

-- over operations of these signatures the expressions of the host are of their kinds, and those of each extension with the host
pub record HaveKindsEach (host : Rooted) (extensions : List Rooted) (operations : List OperationSignature) : Type 0 where
  pub of_host : KindsOk host.attributes operations
  pub of_extensions : All (λ (e : Rooted). KindsOk e.attributes operations) extensions
