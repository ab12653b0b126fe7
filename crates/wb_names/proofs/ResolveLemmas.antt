-- Hosts and extensions have files; what is made of a file is made of its specification, and its refusals are the specification's.
use Rattle.std.proofs.Common.{◌≡◌, ◌∷◌, [], ℕ, inr, All, Result, IfErr, arith, refl, subst, sym}
use Rattle.std.specs.Prelude.{IfOk}
use Rattle.std.proofs.lemmas.List.Elements.{All-cons, All-nil}
use Rattle.std.proofs.lemmas.Option.{slice_get_within}
use Rattle.std.proofs.lemmas.Result.{IfErr-weaker, IfOk-weaker}
use Rattle.wb_base.specs.Identifiers.{IsName}
use Rattle.wb_syntax_resolved.specs.declared.resolved.ResolvedParts.{ResolvedParts}
use Rattle.wb_syntax_resolved.specs.Resolved.{IsResolved}
use Rattle.wb_syntax.specs.Equations.{HasWholeEquations}
use Rattle.wb_syntax.specs.Names.{HasNames}
use Rattle.wb_syntax.specs.SpecText.{SpecView}
use Rattle.wb_syntax.specs.declared.header.Header.TheVariants as h
use Rattle.wb_names_theory.specs.Refusals.{IsTrueRefusal}
use Rattle.wb_names_theory.specs.declared.refusal.NameRefusal.{NameRefusal}
use Rattle.wb_names_theory.specs.declared.refusal.NameRefusal.TheVariants as n
use Rattle.wb_names_numbers_theory.specs.Files.{File}
use Rattle.wb_names_numbers_theory.specs.Given.{IsFile}
use Rattle.wb_names.specs.Resolving.{IsExtensionNameRefusal, IsHostNameRefusal, ResolvesExtension, ResolvesHost}
use Rattle.wb_names.specs.Resolving.{extension_file, file_scope, host_file}
use Rattle.wb_names.specs.Inner.Value.{IsValueOf}

-- the file of a host, or of an extension of a host without extensions, is one
module _ (spec : SpecView) (file : File) (resolved : IsResolved file.base) (names : HasNames spec)
    (whole : All HasWholeEquations file.items) where
  pub host_given : file ≡ host_file spec → IsFile file
  host_given is = subst IsFile (sym is) (record {
    base = subst (λ (z : File). IsResolved z.base) is resolved;
    alone = refl;
    owner = omega (arith);
    extensions = All-nil IsName;
    differ = λ x i j a b. absurd (let past = slice_get_within [] i x a in omega (arith, past));
    host = λ e. (refl, refl);
    names = names.items;
    whole = subst (λ (z : File). All HasWholeEquations z.items) is whole;
  })

  pub extension_given : (host : ResolvedParts) → host.attributes.extensions ≡ [] → file ≡ extension_file host spec → IsFile file
  extension_given host alone is = subst IsFile (sym is) (record {
    base = subst (λ (z : File). IsResolved z.base) is resolved;
    alone = alone;
    owner = omega (arith);
    extensions = All-cons IsName spec.name [] names.name (All-nil IsName);
    differ = λ x i j a b.
        let p = slice_get_within (spec.name ∷ []) i x a in let q = slice_get_within (spec.name ∷ []) j x b in omega (arith, p, q);
    host = λ e. absurd (cc e);
    names = names.items;
    whole = subst (λ (z : File). All HasWholeEquations z.items) is whole;
  })

module _ (spec : SpecView) (format : ℕ) (same : format ≡ spec.format) (file : File) (r : Result ResolvedParts NameRefusal) where
  pub host_made : spec.header ≡ h.Host → file ≡ host_file spec → IfOk r (IsValueOf format file) → IfOk r (ResolvesHost spec)
  host_made header is = IfOk-weaker r (IsValueOf format file) (ResolvesHost spec) (λ made value.
      let moved = subst (λ (z : File). IsValueOf spec.format z made) is (subst (λ (k : ℕ). IsValueOf k file made) same value) in
      record { header = header; names = moved.names; value = moved.value })

  pub host_refused : spec.header ≡ h.Host → file ≡ host_file spec → IfErr r (IsTrueRefusal (file_scope format file))
      → IfErr r (IsHostNameRefusal spec)
  host_refused header is =
      IfErr-weaker r (IsTrueRefusal (file_scope format file)) (IsHostNameRefusal spec) (λ e true. of e (moved e true)) where
        moved : (e : NameRefusal) → IsTrueRefusal (file_scope format file) e → IsTrueRefusal (file_scope spec.format (host_file spec)) e
        moved e true = subst (λ (z : File). IsTrueRefusal (file_scope spec.format z) e) is
            (subst (λ (k : ℕ). IsTrueRefusal (file_scope k file) e) same true)

        of : (e : NameRefusal) → IsTrueRefusal (file_scope spec.format (host_file spec)) e → IsHostNameRefusal spec e
        of (n.NoMemory error) true = tt
        of (n.Unknown name) true = inr (header, true)
        of (n.Duplicate name) true = inr (header, true)
        of (n.Orphan name) true = inr (header, true)
        of (n.WrongKind name) true = inr (header, true)
        of (n.WrongHost name) true = absurd true

  module _ (host : ResolvedParts) where
    pub extension_made : spec.header ≡ h.Extension host.host → file ≡ extension_file host spec → IfOk r (IsValueOf format file)
        → IfOk r (ResolvesExtension host spec)
    extension_made header is = IfOk-weaker r (IsValueOf format file) (ResolvesExtension host spec) (λ made value.
        let moved = subst (λ (z : File). IsValueOf spec.format z made) is (subst (λ (k : ℕ). IsValueOf k file made) same value) in
        record { header = header; names = moved.names; value = moved.value })

    pub extension_refused : spec.header ≡ h.Extension host.host → file ≡ extension_file host spec
        → IfErr r (IsTrueRefusal (file_scope format file)) → IfErr r (IsExtensionNameRefusal host spec)
    extension_refused header is =
        IfErr-weaker r (IsTrueRefusal (file_scope format file)) (IsExtensionNameRefusal host spec) (λ e true. of e (moved e true)) where
          moved : (e : NameRefusal) → IsTrueRefusal (file_scope format file) e
              → IsTrueRefusal (file_scope spec.format (extension_file host spec)) e
          moved e true = subst (λ (z : File). IsTrueRefusal (file_scope spec.format z) e) is
              (subst (λ (k : ℕ). IsTrueRefusal (file_scope k file) e) same true)

          of : (e : NameRefusal) → IsTrueRefusal (file_scope spec.format (extension_file host spec)) e → IsExtensionNameRefusal host spec e
          of (n.NoMemory error) true = tt
          of (n.Unknown name) true = inr (inr (header, true))
          of (n.Duplicate name) true = inr (inr (header, true))
          of (n.Orphan name) true = inr (inr (header, true))
          of (n.WrongKind name) true = inr (inr (header, true))
          of (n.WrongHost name) true = absurd true
