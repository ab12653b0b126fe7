-- A text that words ask to be made has few leaves: of all verbs `generate` alone asks for one, by a computation over the table.
use Rattle.std.proofs.Common.{◌≡◌, ◌≤◌, ℕ, List, [], Bool, true, false, refl, ap, sym, subst, ◌∙◌, arith}
use Rattle.std.specs.Prelude.{if◌then◌else◌, slice_index_or}
use denote.Enum.Bare.{sameb, same_true}
use lib.Chars.{codes}
use Rattle.wb_lemmas.proofs.Places.{at_default}
use Rattle.wb_text_tokens.proofs.Enumerations.{each_value}
use Rattle.wb_program_words.specs.Asked.{Asked}
use Rattle.wb_program_words.specs.Asked as a
use Rattle.wb_program_words.specs.Laws.{AskFewLeaves}
use Rattle.wb_program_words.specs.Options.{Given}
use Rattle.wb_program_words.specs.OptionValues.{HasValue, OptionValue, a_number, a_word, number_at, number_of}
use Rattle.wb_program_words.specs.Rows.{HaveValues, asked_of, row_of}
use Rattle.wb_program_words.specs.contracts.rows.Verb as verbs
use Rattle.wb_program_words.specs.declared.rows.Form.TheVariants as f
use Rattle.wb_program_words.specs.declared.rows.OptionName.TheVariants as n
use Rattle.wb_program_words.specs.declared.rows.Verb.{Verb}
use Rattle.wb_program_words.specs.declared.rows.Verb.TheVariants.{Generate}

-- a number that is given is within its bounds
within : (options : List Given) (name : List ℕ) (least most : ℕ) (value : OptionValue) → HasValue (f.Number least most) options name value
    → number_of value ≤ most
within options name least most (a_word text) has = absurd has
within options name least most (a_number number) has = has.high

-- so is the size of a text that is made
within_size : (options : List Given) (values : List OptionValue) → HaveValues options (row_of Generate).options values
    → number_at values 1 ≤ 100000
within_size options values have =
    within options (codes "size") 0 100000 (slice_index_or values 1 (a_word []))
    (have.each 1 n.Size (slice_index_or values 1 (a_word [])) refl
    (at_default values 1 (a_word []) (let many = have.many in omega (arith, many))))

-- a text is to be made
abbrev is_made : Asked → Bool
is_made (a.generate number size attribute host extensions) = true
is_made other = false

-- `generate` alone asks so
generates : (verb : Verb) (values : List OptionValue) (words : List (List ℕ)) → is_made (asked_of verb values words) ≡ true → verb ≡ Generate
generates verb values words made =
    same_true verbs.the_type tt verb Generate
    (subst (λ (b : Bool). (if b then sameb verbs.the_type verb Generate else true) ≡ true) made
    (each_value verbs.enum (λ v. if is_made (asked_of v values words) then sameb verbs.the_type v Generate else true) refl verb))

pub few_leaves : AskFewLeaves
few_leaves words asked asks number size attribute host extensions is =
    let says = asks.says in
    let made : Asked = a.generate number size attribute host extensions in
    let same : asked_of asks.verb says.values says.positional ≡ made = sym says.is ∙ is in
    let verb : asks.verb ≡ Generate = generates asks.verb says.values says.positional (ap is_made same) in
    let sized : asked_of Generate says.values says.positional ≡ made =
    subst (λ (v : Verb). asked_of v says.values says.positional ≡ made) verb same in
    let one : number_at says.values 1 ≡ size = one_size sized in
    subst (λ (k : ℕ). k ≤ 100000) one
    (within_size says.options says.values (subst (λ (v : Verb). HaveValues says.options (row_of v).options says.values) verb says.given))
  where
    one_size : {n m k l : ℕ} {x y h i : List ℕ} {xs ys : List (List ℕ)} → a.generate n k x h xs ≡ a.generate m l y i ys → k ≡ l
    one_size e = cc
