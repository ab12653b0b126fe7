-- A code of trees, by which a proof tells two of them apart: the model of a store asks for it.
use Rattle.std.specs.Prelude.{◌≡◌, refl}
use Rattle.std.proofs.Common.{ap}
use Rattle.std.specs.Coded.{Coded, coded_ℕ, coded_ℤ, coded_bool, coded_list}
use base.Stored.{Gv, gnil, gnum, gcons}
use Rattle.wb_values.specs.Tree.{Plain, int, bool, text, Tree, node, Value, plain, tree, Values, empty, more}

abbrev plain_code : Plain → Gv
plain_code (int z) = gcons (gnum 0) (coded_ℤ.code z)
plain_code (bool b) = gcons (gnum 1) (coded_bool.code b)
plain_code (text s) = gcons (gnum 2) ((coded_list coded_ℕ).code s)

abbrev mutual
  tree_code : Tree → Gv
  tree_code (node p vs) = gcons (gnum p) (values_code vs)

  value_code : Value → Gv
  value_code (plain c) = gcons (gnum 0) (plain_code c)
  value_code (tree t) = gcons (gnum 1) (tree_code t)

  values_code : Values → Gv
  values_code empty = gnil
  values_code (more v vs) = gcons (value_code v) (values_code vs)

plain_inj : (x y : Plain) → plain_code x ≡ plain_code y → x ≡ y
plain_inj (int x) (int y) h = ap int (coded_ℤ.inj x y cc)
plain_inj (bool x) (bool y) h = ap bool (coded_bool.inj x y cc)
plain_inj (text x) (text y) h = ap text ((coded_list coded_ℕ).inj x y cc)
plain_inj (int x) (bool y) h = cc
plain_inj (int x) (text y) h = cc
plain_inj (bool x) (int y) h = cc
plain_inj (bool x) (text y) h = cc
plain_inj (text x) (int y) h = cc
plain_inj (text x) (bool y) h = cc

mutual
  pub tree_inj : (x y : Tree) → tree_code x ≡ tree_code y → x ≡ y
  tree_inj (node p vs) (node q us) h = let e = values_inj vs us cc in cc

  value_inj : (x y : Value) → value_code x ≡ value_code y → x ≡ y
  value_inj (plain c) (plain d) h = let e = plain_inj c d cc in cc
  value_inj (tree t) (tree u) h = let e = tree_inj t u cc in cc
  value_inj (plain c) (tree u) h = cc
  value_inj (tree t) (plain d) h = cc

  values_inj : (x y : Values) → values_code x ≡ values_code y → x ≡ y
  values_inj empty empty h = refl
  values_inj (more v vs) (more u us) h =
      let e = value_inj v u cc in
      let f = values_inj vs us cc in
      cc
  values_inj empty (more u us) h = cc
  values_inj (more v vs) empty h = cc

abbrev pub coded_tree : Coded Tree
coded_tree = record { code = tree_code; inj = tree_inj }
