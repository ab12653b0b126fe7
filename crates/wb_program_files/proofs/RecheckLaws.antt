-- The report of `recheck`: it is written whole, and known files have one status, and one text where it isn't left open.
use Rattle.std.proofs.Common.{◌≡◌, ◌∷◌, [], ℕ, List, Option, Some, None, sym, subst, ◌∙◌}
use Rattle.wb_certify_files.specs.Extensions.{IsOneExtension}
use Rattle.wb_operations.specs.Operations.{OperationSignature}
use Rattle.wb_certify_files.specs.OneRecheckAnswer.{HaveOneExtensionAnswer, HaveOneHostAnswer}
use Rattle.wb_certify_files.specs.RecheckedExtensions.{IsRecheckedNamed, IsRefusedExtension}
use Rattle.wb_certify_files.specs.RecheckedHosts.{IsRecheckedHost, IsRefusedHost}
use Rattle.wb_syntax_resolved.specs.declared.resolved.ResolvedParts.{ResolvedParts}
use Rattle.wb_world.specs.Shelf.{Files}
use Rattle.wb_program_files.specs.Commands.Recheck.{ExtensionReport, RecheckReport, RecheckedLines}
use Rattle.wb_program_files.specs.declared.status.Status.{Status}
use Rattle.wb_program_files.proofs.OneCertificate.{AreNear, IsOneBy, are_near, by_pair, one_pair_report}
use Rattle.wb_program_files.proofs.WrittenWhole.{IsReported}

module _ (operations : List OperationSignature) (hosts : (contents text : List ℕ) → HaveOneHostAnswer operations contents text)
    (extensions : (host : ResolvedParts) (contents text : List ℕ) → HaveOneExtensionAnswer host operations contents text) where
  -- contents are by a text one host
  one_host : (contents text : List ℕ) → IsOneBy (IsRecheckedHost operations) (IsRefusedHost operations) contents text
  one_host contents text =
      let law = hosts contents text in
      record { one = law.one; excluded = law.excluded; sorts = law.sorts }

  -- one name
  one_name : (r : ResolvedParts) (x y : List ℕ) → IsOneExtension r x → IsOneExtension r y → x ≡ y
  one_name r x y first second = let both = sym first ∙ second in cc

  -- and one extension
  one_extension : (host : ResolvedParts) (contents text : List ℕ)
      → IsOneBy (IsRecheckedNamed host operations) (IsRefusedExtension host operations) contents text
  one_extension host contents text =
      let law = extensions host contents text in
      record {
        one = λ x y first second. one_name second.value x y
            (subst (λ (r : ResolvedParts). IsOneExtension r x) (law.one first.value second.value first.is second.is) first.named)
            second.named;
        excluded = λ x first. law.excluded first.value first.is;
        sorts = law.sorts;
      }

  -- two reports of one name
  one_lines : (host : List ℕ) (extension : Option (List ℕ)) (s t : Status) (bytes others : List ℕ)
      → RecheckedLines host extension s bytes → RecheckedLines host extension t others → AreNear s t bytes others
  one_lines host extension s t bytes others first second =
      are_near s t bytes others (first.0 ∙ sym second.0, first.1 ∙ sym second.1)

  -- two reports after the host
  one_rest : (files : Files) (s t : Status) (bytes others : List ℕ) (host : ResolvedParts) (extension : List (List ℕ))
      → ExtensionReport operations (Some files) host extension s bytes → ExtensionReport operations (Some files) host extension t others
      → AreNear s t bytes others
  one_rest files s t bytes others host [] = one_lines host.host None s t bytes others
  one_rest files s t bytes others host (file ∷ []) = one_lines host.host None s t bytes others
  one_rest files s t bytes others host (file ∷ certificate ∷ more) =
      one_pair_report file certificate (IsRecheckedNamed host operations) (IsRefusedExtension host operations) (one_extension host) files
      (λ (name : List ℕ). RecheckedLines host.host (Some name)) s t bytes others
      (λ name. one_lines host.host (Some name) s t bytes others)

  -- two reports of `recheck`
  pub one_recheck_report : (files : Files) (host certificate : List ℕ) (extension : List (List ℕ)) (s t : Status) (bytes others : List ℕ)
      → RecheckReport operations (Some files) host certificate extension s bytes
      → RecheckReport operations (Some files) host certificate extension t others → AreNear s t bytes others
  one_recheck_report files host certificate extension s t bytes others =
      one_pair_report host certificate (IsRecheckedHost operations) (IsRefusedHost operations) one_host files
      (λ (r : ResolvedParts). ExtensionReport operations (Some files) r extension) s t bytes others
      (λ r. one_rest files s t bytes others r extension)

module _ (operations : List OperationSignature) (known : Option Files) (s : Status) (bytes : List ℕ) where
  -- the lines of what is certified
  lines_reported : (host : List ℕ) (extension : Option (List ℕ)) → RecheckedLines host extension s bytes → IsReported s
  lines_reported host extension is = subst IsReported (sym is.0) tt

  -- a report after the host
  rest_reported : (host : ResolvedParts) (extension : List (List ℕ)) → ExtensionReport operations known host extension s bytes
      → IsReported s
  rest_reported host [] = lines_reported host.host None
  rest_reported host (file ∷ []) = lines_reported host.host None
  rest_reported host (file ∷ certificate ∷ more) =
      by_pair file certificate known (IsRecheckedNamed host operations) (IsRefusedExtension host operations)
      (λ (name : List ℕ). RecheckedLines host.host (Some name)) s bytes (λ name. lines_reported host.host (Some name))

  -- a report of `recheck`
  pub recheck_reported : (host certificate : List ℕ) (extension : List (List ℕ))
      → RecheckReport operations known host certificate extension s bytes → IsReported s
  recheck_reported host certificate extension =
      by_pair host certificate known (IsRecheckedHost operations) (IsRefusedHost operations)
      (λ (r : ResolvedParts). ExtensionReport operations known r extension) s bytes (λ r. rest_reported r extension)
