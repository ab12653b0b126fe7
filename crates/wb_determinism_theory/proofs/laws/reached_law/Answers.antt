use Rattle.wb_determinism_theory.proofs.KnownLemmas.{host_same}
use Rattle.wb_determinism_theory.proofs.ReachedLemmas.{marker_kernel_at, reached, split}
use Rattle.wb_determinism_theory.proofs.laws.reached_law.Goals as goal

pub returns-clause-same : goal.returns-clause-same
returns-clause-same c = λ w e ready prefix viable. host_same ready.is_marked ready.host ready.both_parts (viable.2)

pub returns-clause-split : goal.returns-clause-split
returns-clause-split c = λ w e ready prefix viable. split ready.is_marked ready.host ready.both_parts (viable.2)

pub returns-clause-marker : goal.returns-clause-marker
returns-clause-marker c = λ w e ready prefix m h mark viable item. marker_kernel_at ready.is_marked prefix m h mark (viable.2) item

pub returns-clause-all : goal.returns-clause-all
returns-clause-all c = λ w e own count prefix_of ready r prefix viable. reached ready.is_marked ready.host ready.both_parts r (viable.2)
