-- Texts that are names, by computing.
use Rattle.std.proofs.Common.{◌≡◌, ℕ, List, [], Contains, get_or, refl, sym, true, false}
use Rattle.std.specs.Prelude.{codes}
use Rattle.std.specs.List.{list_any}
use Rattle.std.specs.Str.{bytes_eq}
use Rattle.std.proofs.lemmas.List.Folds.{list_any_at}
use Rattle.std.proofs.lemmas.Slice.Eq.{bytes_eq-Decides}
use Rattle.wb_base.specs.Identifiers.{IsName, IsReserved, reserved_words}

-- what is none of the reserved words by a test isn't reserved
free_of : (x : List ℕ) → list_any (bytes_eq x) reserved_words ≡ false → IsReserved x → ⊥
free_of x none (k, lt, is) =
    let yes : list_any (bytes_eq x) reserved_words ≡ true =
    list_any_at (bytes_eq x) reserved_words k x lt ((bytes_eq-Decides x (get_or reserved_words k x)).1 (sym is)) in
    cc

pub h_name : IsName (codes "h")
unfolding reserved_words
h_name = record { identifier = (refl, refl); free = free_of (codes "h") refl }

pub n_name : IsName (codes "N")
unfolding reserved_words
n_name = record { identifier = (refl, refl); free = free_of (codes "N") refl }

pub v_name : IsName (codes "v")
unfolding reserved_words
v_name = record { identifier = (refl, refl); free = free_of (codes "v") refl }

pub p_name : IsName (codes "p")
unfolding reserved_words
p_name = record { identifier = (refl, refl); free = free_of (codes "p") refl }

pub frob_name : IsName (codes "frob")
unfolding reserved_words
frob_name = record { identifier = (refl, refl); free = free_of (codes "frob") refl }
