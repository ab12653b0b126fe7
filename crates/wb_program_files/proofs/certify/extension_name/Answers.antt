-- The copied name is the extension's.
use Rattle.std.proofs.Common.{◌≡◌, ℕ, List, sym, subst}
use Rattle.wb_certify_files.specs.Extensions.{IsOneExtension}
use Rattle.wb_program_files.proofs.StopLemmas.{on_ok}
use Rattle.wb_program_files.proofs.certify.extension_name.Goals as goal

pub returns : goal.returns
returns c =
    let r = c.args.extension.resolved in
    on_ok c.from_slice-name.result (λ made. made ≡ c.name.result.now) (IsOneExtension r)
    (λ made same. subst (λ (name : List ℕ). IsOneExtension r name) (sym same) c.name.ensures) c.from_slice-name.ensures.ok
