-- The pieces read of a file so far are its prefix, and at its end or past the limit they decide what it has.
use Rattle.std.proofs.Common.{◌≡◌, ◌≤◌, ◌<◌, ℕ, ◌+◌, List, ◌++◌, Option, Some, None, take, drop, length, min, ap, sym, ◌∙◌, arith}
use Rattle.std.proofs.Math.Seq.{take-add}
use Rattle.std.proofs.lemmas.List.{length-take, take_all}
use Rattle.std.proofs.lemmas.Grind.{common_steps}
use Rattle.wb_world.specs.Shelf.{Files, FitsFiles, GivesFrom}
use Rattle.wb_world.specs.declared.shelf.Got.TheVariants.{Bytes as Gave, Absent}
use Rattle.wb_program_files.specs.Files.{FileIs, KnownAbsent, KnownFile}
use Rattle.wb_program_files.specs.Contents.{KnownIs}
use Rattle.wb_program_files.specs.Inner.Prefixes.{IsPrefix, KnownPrefix}

-- the next lemma, of one file
prefix_more_file : (file : Option (List ℕ)) (bytes buffer more : List ℕ) (n : ℕ) → IsPrefix file bytes →
    GivesFrom file (length bytes) n buffer → n ≤ length buffer → more ≡ take n buffer → IsPrefix file (bytes ++ more)
prefix_more_file None bytes buffer more n prefix gives within is = absurd gives
prefix_more_file (Some contents) bytes buffer more n prefix gives within is =
    let e : take n buffer ≡ take n (drop (length bytes) contents) = gives.bytes in
    let a : bytes ++ more ≡ take (length bytes + n) contents = ap (λ l. bytes ++ l) (is ∙ e)
    ∙ ap (λ l. l ++ take n (drop (length bytes) contents)) prefix ∙ sym (take-add (length bytes) n contents) in
    let l : length (bytes ++ more) ≡ length bytes + n = grind (arith, common_steps, is) in
    rw l a

-- the prefix and the next bytes are the prefix
pub prefix_more : (told : Option Files) (name bytes buffer more : List ℕ) (n : ℕ) → KnownPrefix told name bytes →
    FitsFiles told name (length bytes) (Gave n) buffer → n ≤ length buffer → more ≡ take n buffer → KnownPrefix told name (bytes ++ more)
prefix_more None name bytes buffer more n prefix gives within is = tt
prefix_more (Some files) name bytes buffer more n prefix gives within is = prefix_more_file
    (files name) bytes buffer more n prefix gives within is

-- a read that finds no file finds that there is none
pub absent_known : (told : Option Files) (name : List ℕ) (from : ℕ) (buffer : List ℕ) → FitsFiles told name from Absent buffer
    → KnownAbsent told name
absent_known None name from buffer fits = tt
absent_known (Some files) name from buffer fits = fits

-- the next lemma, of one file
prefix_end_file : (file : Option (List ℕ)) (bytes : List ℕ) (size most : ℕ) → IsPrefix file bytes → FileIs file (λ c. length c ≤ size) →
    size ≡ length bytes → size ≤ most → FileIs file (λ c. bytes ≡ take most c)
prefix_end_file None bytes size most prefix ended same within = absurd ended
prefix_end_file (Some contents) bytes size most prefix ended same within = grind (arith, common_steps, prefix)

-- at the end the prefix is all
pub prefix_end : (told : Option Files) (name bytes : List ℕ) (size most : ℕ) → KnownPrefix told name bytes →
    KnownFile told name (λ c. length c ≤ size) → size ≡ length bytes → size ≤ most → KnownFile told name (λ c. bytes ≡ take most c)
prefix_end None name bytes size most prefix ended same within = tt
prefix_end (Some files) name bytes size most prefix ended same within = prefix_end_file
    (files name) bytes size most prefix ended same within

-- the next lemma, of one file
prefix_limit_file : (file : Option (List ℕ)) (bytes : List ℕ) (most : ℕ) → IsPrefix file bytes → length bytes ≡ most → 0 < most →
    FileIs file (λ c. bytes ≡ take most c)
prefix_limit_file None bytes most prefix full some = absurd (omega (arith, ap length prefix))
prefix_limit_file (Some contents) bytes most prefix full some = grind (arith, common_steps)

-- at the limit the prefix is so many bytes
pub prefix_limit : (told : Option Files) (name bytes : List ℕ) (most : ℕ) → KnownPrefix told name bytes → length bytes ≡ most → 0 < most →
    KnownFile told name (λ c. bytes ≡ take most c)
prefix_limit None name bytes most prefix full some = tt
prefix_limit (Some files) name bytes most prefix full some = prefix_limit_file (files name) bytes most prefix full some

-- the next lemma, of one file
whole_file : (file : Option (List ℕ)) (bytes : List ℕ) (most : ℕ) → FileIs file (λ c. bytes ≡ take (most + 1) c) → length bytes ≤ most →
    file ≡ Some bytes
whole_file None bytes most is short = absurd is
whole_file (Some contents) bytes most is short =
    let l : length (take (most + 1) contents) ≡ min (most + 1) (length contents) = length-take (most + 1) contents in
    let all : length contents ≤ most = omega (arith, l, ap length is) in
    ap Some (sym (is ∙ take_all (most + 1) contents (omega (arith, all))))

-- a prefix that is short enough is the file
pub whole : (told : Option Files) (name bytes : List ℕ) (most : ℕ) → KnownFile told name (λ c. bytes ≡ take (most + 1) c) →
    length bytes ≤ most → KnownIs told name bytes
whole None name bytes most is short = tt
whole (Some files) name bytes most is short = whole_file (files name) bytes most is short

-- the next lemma, of one file
too_long_file : (file : Option (List ℕ)) (bytes : List ℕ) (most : ℕ) → FileIs file (λ c. bytes ≡ take (most + 1) c) → most < length bytes →
    FileIs file (λ c. most < length c)
too_long_file None bytes most is long = absurd is
too_long_file (Some contents) bytes most is long = omega (arith, length-take (most + 1) contents, ap length is)

-- a prefix that is longer shows that the file is too long
pub too_long : (told : Option Files) (name bytes : List ℕ) (most : ℕ) → KnownFile told name (λ c. bytes ≡ take (most + 1) c) →
    most < length bytes → KnownFile told name (λ c. most < length c)
too_long None name bytes most is long = tt
too_long (Some files) name bytes most is long = too_long_file (files name) bytes most is long
