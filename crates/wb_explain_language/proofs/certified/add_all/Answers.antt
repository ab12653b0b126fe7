-- One extension more is added.
use Rattle.std.proofs.Common.{◌≡◌, ℕ, List, true, rules, subst, sym}
use Rattle.wb_compose_files.specs.Hosts.{CertifiedView}
use Rattle.wb_compose_files.specs.Certified.{Extends}
use Rattle.wb_explain_language.proofs.AddedLemmas.{all_added, none_added, one_added}
use Rattle.wb_explain_language.proofs.certified.add_all.Goals as goal

pub files-init : goal.files-init
files-init g c = none_added c.args.operations.now.signatures c.args.certified.now c.args.files.now c.requires.none

pub add-requires : goal.add-requires
add-requires g c =
    subst (λ (h : CertifiedView). h.operations ≡ c.args.operations.now.signatures) (sym c.files.invariant.host_is) c.requires.operations

pub files-preserved : goal.files-preserved
files-preserved g c =
    let operations = c.args.operations.now.signatures in
    let went : c.add.result ≡ true = search rules in
    let extends : Extends operations c.file-item.result c.files.certified c.add.new.certified =
    subst (λ (x : List ℕ). Extends operations x c.files.certified c.add.new.certified) c.as_slice.ensures (c.add.ensures went) in
    one_added operations c.args.certified.now.host c.args.files.now c.files.file-index c.file-item.result c.files.certified
    c.add.new.certified c.files-test.true (sym c.file-item.is) c.files.invariant extends

pub returns : goal.returns
returns g c = λ _.
    all_added c.args.operations.now.signatures c.args.certified.now.host c.args.files.now c.files.file-index c.files.certified
    c.files.invariant c.files-test.false
