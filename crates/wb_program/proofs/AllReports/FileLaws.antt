-- The reports of commands on files that stand alone have the laws of a report.
use Rattle.std.proofs.Common.{inl, inr, ℕ, List}
use Rattle.wb_operations.specs.Operations.{Operations}
use Rattle.wb_program_words.specs.Asked as a
use Rattle.wb_program_texts.specs.status.Status.{Status}
use Rattle.wb_program_texts.proofs.CertifyLaws.{certify_reported, one_certify_report}
use Rattle.wb_program_texts.proofs.CheckLaws.{check_reported, one_check_report}
use Rattle.wb_program_texts.proofs.OneCertificate.{AreNear}
use Rattle.wb_program_texts.proofs.RecheckLaws.{one_recheck_report, recheck_reported}
use Rattle.wb_program_texts.proofs.ShowLaws.{one_show_report, show_reported}
use Rattle.wb_program_texts.proofs.ValueLaws.{one_value_report, value_reported}
use Rattle.wb_program.proofs.ReportLaws.{AreOneOf, HasLaws, may_differ, when_alike, when_one}

-- that of `show`
pub show_laws : (operations : Operations) (file : List ℕ) → HasLaws operations (a.show file)
show_laws operations file = record {
  whole = λ known. show_reported known file;
  one = λ below files s t bytes others x y. when_one (a.show file) s t bytes others (one_show_report files file s t bytes others x y);
}

-- that of `check`
pub check_laws : (operations : Operations) (host : List ℕ) → HasLaws operations (a.check host)
check_laws operations host = record {
  whole = λ known. check_reported operations.signatures known host;
  one = λ below files s t bytes others x y. when_alike (a.check host) s t bytes others tt
      (one_check_report operations.signatures files host s t bytes others x y);
}

-- that of `certify`
pub certify_laws : (operations : Operations) (host : List ℕ) (extensions : List (List ℕ)) → HasLaws operations (a.certify host extensions)
certify_laws operations host extensions = record {
  whole = λ known. certify_reported operations.signatures known host extensions;
  one = λ below files s t bytes others x y. when_alike (a.certify host extensions) s t bytes others tt
      (one_certify_report below.extensions operations.signatures files host extensions s t bytes others x y);
}

-- that of `value`
pub value_laws : (operations : Operations) (host term attribute : List ℕ) → HasLaws operations (a.value host term attribute)
value_laws operations host term attribute = record {
  whole = λ known. value_reported operations known host term attribute;
  one = λ below files s t bytes others x y. when_alike (a.value host term attribute) s t bytes others tt
      (one_value_report operations files host term attribute s t bytes others x y);
}

-- reports of `recheck` that are near
when_near : (host certificate : List ℕ) (extension : List (List ℕ)) (s t : Status) (bytes others : List ℕ) → AreNear s t bytes others
    → AreOneOf (a.recheck host certificate extension) s t bytes others
when_near host certificate extension s t bytes others near = (
  near.0,
  λ chosen. elim chosen [
    | inl differ ↦ near.1 differ.0 differ.1 differ.2
    | inr once ↦ absurd (may_differ (a.recheck host certificate extension) tt once)
  ],
)

-- that of `recheck`
pub recheck_laws : (operations : Operations) (host certificate : List ℕ) (extension : List (List ℕ))
    → HasLaws operations (a.recheck host certificate extension)
recheck_laws operations host certificate extension = record {
  whole = λ known s bytes. recheck_reported operations.signatures known s bytes host certificate extension;
  one = λ below files s t bytes others x y. when_near host certificate extension s t bytes others
      (one_recheck_report operations.signatures (below.rechecked_hosts operations.signatures)
      (λ r. below.rechecked_extensions r operations.signatures) files host certificate extension s t bytes others x y);
}
