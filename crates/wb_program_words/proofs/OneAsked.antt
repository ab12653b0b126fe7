-- Words ask one thing at most: they split in one way, and the options of a row have one value each.
use Rattle.std.proofs.Common.{◌≡◌, ◌≢◌, inl, inr, ℕ, suc, ◌<◌, List, [], ◌∷◌, ◌++◌, All, Some, Contains, length, slice_get, refl, ap, sym, ◌∙◌}
use Rattle.std.proofs.Common.{subst}
use Rattle.std.proofs.lemmas.List.Elements.{All-head, All-tail}
use Rattle.std.proofs.lemmas.Option.{slice_get-map, slice_get_within, same_Some}
use Rattle.std.specs.Option.{option_map}
use Rattle.std.specs.Str.Parse.{digits_value}
use Rattle.wb_lemmas.proofs.Members.{contains_at}
use Rattle.wb_lemmas.proofs.Places.{at_within}
use Rattle.wb_base.specs.Different.{Differ}
use Rattle.wb_program_words.specs.Asked.{Asked}
use Rattle.wb_program_words.specs.Laws.{AskOneThing}
use Rattle.wb_program_words.specs.Options.{Given, HasNumber, HasOption, IsPositional, Splits, names_of, no_option, apart, joined}
use Rattle.wb_program_words.specs.OptionValues.{HasValue, OptionValue, a_number, a_word}
use Rattle.wb_program_words.specs.Rows.{HaveValues, asked_of, form_of, name_of, row_of}
use Rattle.wb_program_words.specs.Words.{Says}
use Rattle.wb_program_words.specs.declared.rows.Form.{Form}
use Rattle.wb_program_words.specs.declared.rows.Form.TheVariants as f
use Rattle.wb_program_words.specs.declared.rows.OptionName.{OptionName}
use Rattle.wb_program_words.specs.declared.rows.Verb.{Verb}
use Rattle.wb_program_words.proofs.RowLemmas.{one_verb}

-- a positional word begins with no dash
pub no_dash : (word rest : List ℕ) → IsPositional word → word ≡ 45 ∷ rest → ⊥
no_dash [] rest is same = is
no_dash (byte ∷ bytes) rest is same = is (cc)

-- a name without '=' has none in it
pub no_cut : (name part value : List ℕ) → All (λ byte. byte ≢ 61) name → name ≡ part ++ 61 ∷ value → ⊥
no_cut [] [] value none_is same = absurd (cc)
no_cut [] (y ∷ part) value none_is same = absurd (cc)
no_cut (x ∷ name) [] value none_is same = All-head (λ byte. byte ≢ 61) x name none_is (cc)
no_cut (x ∷ name) (y ∷ part) value none_is same = no_cut name part value (All-tail (λ byte. byte ≢ 61) x name none_is) (cc)

-- two names before the first '=' are one, and so are the values after it
pub one_cut : (name other value v : List ℕ) → All (λ byte. byte ≢ 61) name → All (λ byte. byte ≢ 61) other →
    name ++ 61 ∷ value ≡ other ++ 61 ∷ v
    → (name ≡ other) × (value ≡ v)
one_cut [] [] value v p q same = (refl, cc)
one_cut [] (y ∷ other) value v p q same = absurd (All-head (λ byte. byte ≢ 61) y other q (cc))
one_cut (x ∷ name) [] value v p q same = absurd (All-head (λ byte. byte ≢ 61) x name p (cc))
one_cut (x ∷ name) (y ∷ other) value v p q same =
    let rest : name ++ 61 ∷ value ≡ other ++ 61 ∷ v = cc in
    let one : (name ≡ other) × (value ≡ v) =
    one_cut name other value v (All-tail (λ byte. byte ≢ 61) x name p) (All-tail (λ byte. byte ≢ 61) y other q) rest in
    let names : name ≡ other = one.0 in
    let first : x ≡ y = cc in
    (cc, one.1)

-- an option with this name and this value
abbrev given : List ℕ → List ℕ → Given
given name value = record { name = name; value = value }

-- an option is its name and its value
pub one_given : (o p : Given) → o.name ≡ p.name → o.value ≡ p.value → o ≡ p
one_given o p name value = ap (λ v. given o.name v) value ∙ ap (λ n. given n p.value) name

-- words split in one way
pub one_split : (words : List (List ℕ)) (xs ys : List Given) (u v : List (List ℕ)) → Splits words xs u → Splits words ys v → (xs ≡ ys) × (u ≡ v)
one_split words xs ys u v (no_option p) (no_option q) = (refl, refl)
one_split words xs ys u v (no_option p) (apart {word = word} {value = value} {words = later} {o = o} name is same is_value rest) =
    absurd (no_dash word (45 ∷ o.name) (All-head IsPositional word (value ∷ later) p) is)
one_split words xs ys u v (no_option p) (joined {word = word} {words = later} {o = o} name is is_value rest) =
    absurd (no_dash word (45 ∷ (o.name ++ 61 ∷ o.value)) (All-head IsPositional word later p) is)
one_split words xs ys u v (apart {word = word} {value = value} {words = later} {o = o} name is same is_value rest) (no_option q) =
    absurd (no_dash word (45 ∷ o.name) (All-head IsPositional word (value ∷ later) q) is)
one_split words xs ys u v (joined {word = word} {words = later} {o = o} name is is_value rest) (no_option q) =
    absurd (no_dash word (45 ∷ (o.name ++ 61 ∷ o.value)) (All-head IsPositional word later q) is)
one_split words xs ys u v (apart {words = later} {o = o} {options = os} name is same is_value rest)
    (apart {o = p} {options = ps} name' is' same' is_value' rest') =
    let both : 45 ∷ 45 ∷ o.name ≡ 45 ∷ 45 ∷ p.name = sym is ∙ is' in
    let names : o.name ≡ p.name = cc in
    let option : o ≡ p = one_given o p names (sym same ∙ same') in
    let one : (os ≡ ps) × (u ≡ v) = one_split later os ps u v rest rest' in
    let others : os ≡ ps = one.0 in
    (cc, one.1)
one_split words xs ys u v (apart {o = o} name is same is_value rest) (joined {o = p} name' is' is_value' rest') =
    let both : 45 ∷ 45 ∷ o.name ≡ 45 ∷ 45 ∷ (p.name ++ 61 ∷ p.value) = sym is ∙ is' in
    absurd (no_cut o.name p.name p.value name (cc))
one_split words xs ys u v (joined {o = o} name is is_value rest) (apart {o = p} name' is' same' is_value' rest') =
    let both : 45 ∷ 45 ∷ p.name ≡ 45 ∷ 45 ∷ (o.name ++ 61 ∷ o.value) = sym is' ∙ is in
    absurd (no_cut p.name o.name o.value name' (cc))
one_split words xs ys u v (joined {words = later} {o = o} {options = os} name is is_value rest)
    (joined {o = p} {options = ps} name' is' is_value' rest') =
    let both : 45 ∷ 45 ∷ (o.name ++ 61 ∷ o.value) ≡ 45 ∷ 45 ∷ (p.name ++ 61 ∷ p.value) = sym is ∙ is' in
    let cut : (o.name ≡ p.name) × (o.value ≡ p.value) = one_cut o.name p.name o.value p.value name name' (cc) in
    let option : o ≡ p = one_given o p cut.0 cut.1 in
    let one : (os ≡ ps) × (u ≡ v) = one_split later os ps u v rest rest' in
    let others : os ≡ ps = one.0 in
    (cc, one.1)

module _ (options : List Given) (once : Differ (names_of options)) where
  -- an option is among the names
  named_at : (name value : List ℕ) (has : HasOption options name value) → slice_get (names_of options) has.place ≡ Some name
  named_at name value has = slice_get-map (λ (o : Given). o.name) options has.place ∙ ap (option_map (λ (o : Given). o.name)) has.given

  -- so it isn't one that isn't given
  pub not_lacked : (name value : List ℕ) → HasOption options name value → ¬ Contains (names_of options) name → ⊥
  not_lacked name value has none = none (contains_at (names_of options) name has.place (named_at name value has))

  -- an option has one value
  pub one_text : (name v w : List ℕ) → HasOption options name v → HasOption options name w → v ≡ w
  one_text name v w first second =
      let same : first.place ≡ second.place = once name first.place second.place (named_at name v first) (named_at name w second) in
      let at : slice_get options second.place ≡ Some (record { name = name; value = v }) = subst
      (λ k. slice_get options k ≡ Some (record { name = name; value = v })) same first.given in
      let both : given name v ≡ given name w = same_Some (given name v) (given name w) (sym at ∙ second.given) in
      ap (λ (o : Given). o.value) both

  -- an option is one number
  one_number : (name : List ℕ) (least most m n : ℕ) → HasNumber options name least most m → HasNumber options name least most n → m ≡ n
  one_number name least most m n first second = first.is
      ∙ (ap (digits_value 10) (one_text name first.value second.value first.given second.given) ∙ sym second.is)

  -- an option has one value of its form
  one_value : (form : Form) (name : List ℕ) (v w : OptionValue) → HasValue form options name v → HasValue form options name w → v ≡ w
  one_value f.Word name (a_word v) (a_word w) first second = ap a_word (one_text name v w first second)
  one_value f.Word name (a_word v) (a_number n) first second = absurd second
  one_value f.Word name (a_number m) w first second = absurd first
  one_value (f.Number least most) name (a_word v) w first second = absurd first
  one_value (f.Number least most) name (a_number m) (a_word w) first second = absurd second
  one_value (f.Number least most) name (a_number m) (a_number n) first second = ap a_number (one_number name least most m n first second)
  one_value (f.NumberOr least most otherwise) name (a_word v) w first second = absurd first
  one_value (f.NumberOr least most otherwise) name (a_number m) (a_word w) first second = absurd second
  one_value (f.NumberOr least most otherwise) name (a_number m) (a_number n) (inl a) (inl b) =
      ap a_number (one_number name least most m n a b)
  one_value (f.NumberOr least most otherwise) name (a_number m) (a_number n) (inl a) (inr b) =
      absurd (not_lacked name a.value a.given b.0)
  one_value (f.NumberOr least most otherwise) name (a_number m) (a_number n) (inr a) (inl b) =
      absurd (not_lacked name b.value b.given a.0)
  one_value (f.NumberOr least most otherwise) name (a_number m) (a_number n) (inr a) (inr b) = ap a_number (a.1 ∙ sym b.1)

  -- so the names of a row have one list of values
  pub one_list : (names : List OptionName) (vs ws : List OptionValue) → HaveValues options names vs → HaveValues options names ws → vs ≡ ws
  one_list names vs ws first second =
      same_lists vs ws (first.many ∙ sym second.many) (λ k v w at there.
      let small : k < length vs = slice_get_within vs k v at in
      let (name, is) = at_within names k (subst (λ (n : ℕ). k < n) first.many small) in
      one_value (form_of name) (name_of name) v w (first.each k name v is at) (second.each k name w is there))
    where
      -- lists that are one at each place are one
      same_lists : {X : Type 0} (xs ys : List X) → length xs ≡ length ys
          → ((k : ℕ) (x y : X) → slice_get xs k ≡ Some x → slice_get ys k ≡ Some y → x ≡ y) → xs ≡ ys
      same_lists [] [] long same = refl
      same_lists [] (y ∷ ys) long same = absurd (cc long)
      same_lists (x ∷ xs) [] long same = absurd (cc long)
      same_lists (x ∷ xs) (y ∷ ys) long same =
          let first : x ≡ y = same 0 x y refl refl in
          let rest : xs ≡ ys = same_lists xs ys (cc long) (λ k a b at there. same (suc k) a b at there) in
          cc (first, rest)

-- a verb with the words after it says one thing
pub one_said : (verb : Verb) (rest : List (List ℕ)) (x y : Asked) → Says verb rest x → Says verb rest y → x ≡ y
one_said verb rest x y first second =
    let split = one_split rest first.options second.options first.positional second.positional first.splits second.splits in
    let given : HaveValues second.options (row_of verb).options first.values =
    subst (λ (os : List Given). HaveValues os (row_of verb).options first.values) split.0 first.given in
    let values : first.values ≡ second.values =
    one_list second.options second.known.once (row_of verb).options first.values second.values given second.given in
    first.is
    ∙ (ap (λ (ws : List (List ℕ)). asked_of verb first.values ws) split.1
    ∙ (ap (λ (vs : List OptionValue). asked_of verb vs second.positional) values ∙ sym second.is))

-- words ask one thing at most
pub one_asked : AskOneThing
one_asked words asked other first second =
    let lines : (row_of first.verb).verb ∷ first.rest ≡ (row_of second.verb).verb ∷ second.rest = sym first.line ∙ second.line in
    let text : (row_of first.verb).verb ≡ (row_of second.verb).verb = cc lines in
    let rest : first.rest ≡ second.rest = cc lines in
    let verb : first.verb ≡ second.verb = one_verb first.verb second.verb text in
    let said : Says second.verb second.rest asked =
    subst (λ (v : Verb). Says v second.rest asked) verb (subst (λ (ws : List (List ℕ)). Says first.verb ws asked) rest first.says) in
    one_said second.verb second.rest asked other said second.says
