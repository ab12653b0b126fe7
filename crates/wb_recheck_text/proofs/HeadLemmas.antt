-- The lines at the beginning: where they are read, and where they stop.
use Rattle.std.proofs.Common.{◌≡◌, ◌≢◌, ℕ, List, [], ◌∷◌, ◌++◌, false, refl, sym, ap, ◌∙◌, subst, drop, get_or, arith}
use Rattle.std.specs.Prelude.{codes}
use Rattle.wb_base.specs.Identifiers.{IsName, is_name_byte}
use Rattle.wb_lemmas.proofs.Parts.{append_assoc}
use Rattle.wb_recheck_text.specs.Text.{head_text, name_then}
use Rattle.wb_recheck_text.specs.Faults.{AreNames}
use Rattle.wb_recheck_text.specs.Inner.Parts.{Begins, Both, Exactly, IsPrefixFree, IsStop, NamesThen, Texts}
use Rattle.wb_recheck_text.specs.Inner.Progress.{for_text, top_text}
use Rattle.wb_recheck_text.specs.declared.certificate.Head.{Head}
use Rattle.wb_recheck_text.specs.declared.certificate.Head.TheVariants.{Host, Extension}
use Rattle.wb_recheck_text.proofs.StopLemmas.{append_cancel, exactly_free, stop_first, stop_same, stop_second, stop_wider}
use Rattle.wb_recheck_text.proofs.NameLemmas.{letter_name, name_unique, names_free}

-- a name with its end in some text
some_name : (end : ℕ) → NamesThen end (name_then end (95 ∷ []))
some_name end = (95 ∷ [], letter_name, refl)

-- the host of an extension
abbrev pub Fors : List ℕ → Type 0
Fors = Both (Exactly (codes "for ")) (NamesThen 10)

for_there : (l : List ℕ) → Fors l → Texts IsName for_text l
for_there l (a, b, one, (host, is_name, two), e) = (host, is_name, e ∙ (ap (λ x. x ++ b) one ∙ ap (λ x. codes "for " ++ x) two))

for_back : (l : List ℕ) → Texts IsName for_text l → Fors l
for_back l (host, is_name, e) = (codes "for ", name_then 10 host, refl, (host, is_name, refl), e)

pub for_stopped_word : (text rest : List ℕ) → IsStop (Exactly (codes "for ")) text rest → IsStop (Texts IsName for_text) text rest
for_stopped_word text rest s = stop_same for_there for_back (stop_first s (name_then 10 (95 ∷ [])) (some_name 10))

pub for_stopped_name : (text after rest : List ℕ) → text ≡ codes "for " ++ after → IsStop (NamesThen 10) after rest →
    IsStop (Texts IsName for_text) text rest
for_stopped_name text after rest is s =
    stop_same for_there for_back (stop_second (exactly_free (codes "for ")) (codes "for ") text refl is s)

pub for_read : (text after next host : List ℕ) → text ≡ codes "for " ++ after → Begins IsName (name_then 10) after host next →
    Begins IsName for_text text host next
for_read text after next host is (is_name, e) = (
  is_name,
  is ∙ (ap (λ l. codes "for " ++ l) e ∙ sym (append_assoc (codes "for ") (name_then 10 host) next)),
)

some_for : Texts IsName for_text (for_text (95 ∷ []))
some_for = (95 ∷ [], letter_name, refl)

-- the line of a host, and that of an extension
abbrev pub Hosts : List ℕ → Type 0
Hosts = Both (Exactly (codes "host ")) (NamesThen 10)

abbrev pub Extensions : List ℕ → Type 0
Extensions = Both (Exactly (codes "extension ")) (Both (NamesThen 32) (Texts IsName for_text))

abbrev pub Heads : List ℕ → Type 0
Heads = Texts AreNames head_text

host_there : (l : List ℕ) → Hosts l → Heads l
host_there l (a, b, one, (name, is_name, two), e) = (Host name, is_name, e ∙ (ap (λ x. x ++ b) one ∙ ap (λ x. codes "host " ++ x) two))

extension_there : (l : List ℕ) → Extensions l → Heads l
extension_there l (a, b, one, (c, d, (name, is_name, c_is), (host, host_name, d_is), b_is), e) = (
  Extension name host,
  (is_name, host_name),
  e ∙ (ap (λ x. x ++ b) one ∙ ap (λ x. codes "extension " ++ x)
      (b_is ∙ (ap (λ x. x ++ d) c_is ∙ ap (λ x. name_then 32 name ++ x) d_is))),
)

host_back : (b : ℕ) (tail : List ℕ) → b ≢ 101 → Heads (b ∷ tail) → Hosts (b ∷ tail)
host_back b tail other (Host name, is_name, e) = (codes "host ", name_then 10 name, refl, (name, is_name, refl), e)
host_back b tail other (Extension name host, names, e) = absurd (other cc)

extension_back : (tail : List ℕ) → Heads (101 ∷ tail) → Extensions (101 ∷ tail)
extension_back tail (Host name, is_name, e) = let f : 101 ≡ 104 = ap (λ l. get_or l 0 0) e in absurd (omega (arith, f))
extension_back tail (Extension name host, names, e) = (
  codes "extension ",
  name_then 32 name ++ for_text host,
  refl,
  (name_then 32 name, for_text host, (name, names.0, refl), (host, names.1, refl), refl),
  e,
)

head_some : ¬ Heads []
head_some (Host name, is_name, e) = cc
head_some (Extension name host, names, e) = cc

host_widened : (text : List ℕ) {rest : List ℕ} → ((after : List ℕ) → text ≢ 101 ∷ after) → IsStop Hosts text rest → IsStop Heads text rest
host_widened text other s =
    stop_wider text host_there
    (λ b tail more there o. host_back b more (λ same. other tail (there ∙ ap (λ z. z ∷ tail) same)) o)
    head_some s

extension_widened : (text : List ℕ) {rest : List ℕ} → text ≡ 101 ∷ drop 1 text → IsStop Extensions text rest → IsStop Heads text rest
extension_widened text is s =
    stop_wider text extension_there
    (λ b tail more there o. (let same : b ≡ 101 = cc in subst (λ z. Extensions (z ∷ more)) (sym same)
    (extension_back more (subst (λ z. Heads (z ∷ more)) same o))))
    head_some s

pub host_stopped_word : (text rest : List ℕ) → ((after : List ℕ) → text ≢ 101 ∷ after) → IsStop (Exactly (codes "host ")) text rest →
    IsStop (Texts AreNames head_text) text rest
host_stopped_word text rest other s = host_widened text other (stop_first s (name_then 10 (95 ∷ [])) (some_name 10))

pub host_stopped_name : (text after rest : List ℕ) → ((after : List ℕ) → text ≢ 101 ∷ after) → text ≡ codes "host " ++ after →
    IsStop (NamesThen 10) after rest → IsStop (Texts AreNames head_text) text rest
host_stopped_name text after rest other is s =
    host_widened text other (stop_second (exactly_free (codes "host ")) (codes "host ") text refl is s)

pub host_read : (text after next name : List ℕ) → text ≡ codes "host " ++ after → Begins IsName (name_then 10) after name next →
    Begins AreNames head_text text (Host name) next
host_read text after next name is (is_name, e) = (
  is_name,
  is ∙ (ap (λ l. codes "host " ++ l) e ∙ sym (append_assoc (codes "host ") (name_then 10 name) next)),
)

pub extension_stopped_word : (text rest : List ℕ) → text ≡ 101 ∷ drop 1 text → IsStop (Exactly (codes "extension ")) text rest →
    IsStop (Texts AreNames head_text) text rest
extension_stopped_word text rest is s =
    extension_widened text is (stop_first s (name_then 32 (95 ∷ []) ++ for_text (95 ∷ []))
    (name_then 32 (95 ∷ []), for_text (95 ∷ []), some_name 32, some_for, refl))

pub extension_stopped_name : (text after rest : List ℕ) → text ≡ 101 ∷ drop 1 text → text ≡ codes "extension " ++ after →
    IsStop (NamesThen 32) after rest → IsStop (Texts AreNames head_text) text rest
extension_stopped_name text after rest first is s =
    extension_widened text first (stop_second (exactly_free (codes "extension ")) (codes "extension ") text refl is
    (stop_first s (for_text (95 ∷ [])) some_for))

no_space : is_name_byte 32 ≡ false
no_space = refl

no_lf : is_name_byte 10 ≡ false
no_lf = refl

pub extension_stopped_host : (text after last rest name : List ℕ) → text ≡ 101 ∷ drop 1 text → text ≡ codes "extension " ++ after →
    Begins IsName (name_then 32) after name last → IsStop (Texts IsName for_text) last rest → IsStop (Texts AreNames head_text) text rest
extension_stopped_host text after last rest name first is (is_name, e) s =
    extension_widened text first (stop_second (exactly_free (codes "extension ")) (codes "extension ") text refl is
    (stop_second (names_free 32 no_space) (name_then 32 name) after (name, is_name, refl) e s))

pub extension_read : (text after last next name host : List ℕ) → text ≡ codes "extension " ++ after →
    Begins IsName (name_then 32) after name last → Begins IsName for_text last host next →
    Begins AreNames head_text text (Extension name host) next
extension_read text after last next name host is (is_name, e) (host_name, f) = (
  (is_name, host_name),
  is ∙ ap (λ l. codes "extension " ++ l) (e ∙ (ap (λ l. name_then 32 name ++ l) f
      ∙ sym (append_assoc (name_then 32 name) (for_text host) next))),
)

-- both lines
abbrev pub Tops : List ℕ → Type 0
Tops = Both (Exactly (codes "certificate 1\n")) Heads

top_there : (l : List ℕ) → Tops l → Texts AreNames top_text l
top_there l (a, b, one, (head, names, two), e) =
    (head, names, e ∙ (ap (λ x. x ++ b) one ∙ ap (λ x. codes "certificate 1\n" ++ x) two))

top_back : (l : List ℕ) → Texts AreNames top_text l → Tops l
top_back l (head, names, e) = (codes "certificate 1\n", head_text head, refl, (head, names, refl), e)

pub top_stopped_word : (text rest : List ℕ) → IsStop (Exactly (codes "certificate 1\n")) text rest →
    IsStop (Texts AreNames top_text) text rest
top_stopped_word text rest s =
    stop_same top_there top_back (stop_first s (head_text (Host (95 ∷ []))) (Host (95 ∷ []), letter_name, refl))

pub top_stopped_head : (text line rest : List ℕ) → text ≡ codes "certificate 1\n" ++ line → IsStop (Texts AreNames head_text) line rest →
    IsStop (Texts AreNames top_text) text rest
top_stopped_head text line rest is s =
    stop_same top_there top_back (stop_second (exactly_free (codes "certificate 1\n")) (codes "certificate 1\n") text refl is s)

pub top_read : (text line next : List ℕ) (head : Head) → text ≡ codes "certificate 1\n" ++ line →
    Begins AreNames head_text line head next → Begins AreNames top_text text head next
top_read text line next head is (names, e) = (
  names,
  is ∙ (ap (λ l. codes "certificate 1\n" ++ l) e ∙ sym (append_assoc (codes "certificate 1\n") (head_text head) next)),
)

-- one head is at the beginning
head_unique : (p q : Head) (x y : List ℕ) → AreNames p → AreNames q → head_text p ++ x ≡ head_text q ++ y → (p ≡ q) × (x ≡ y)
head_unique (Host a) (Host b) x y a_name b_name e =
    let tails = append_cancel (codes "host ") (name_then 10 a ++ x) (name_then 10 b ++ y) e in
    let both = name_unique 10 a b x y no_lf a_name b_name tails in
    (ap Host both.0, both.1)
head_unique (Host a) (Extension b c) x y p_names q_names e =
    let f : 104 ≡ 101 = ap (λ l. get_or l 0 0) e in absurd (omega (arith, f))
head_unique (Extension a b) (Host c) x y p_names q_names e =
    let f : 101 ≡ 104 = ap (λ l. get_or l 0 0) e in absurd (omega (arith, f))
head_unique (Extension a b) (Extension c d) x y p_names q_names e =
    let tails = append_cancel (codes "extension ") ((name_then 32 a ++ for_text b) ++ x) ((name_then 32 c ++ for_text d) ++ y) e in
    let one = name_unique 32 a c (for_text b ++ x) (for_text d ++ y) no_space p_names.0 q_names.0
    (sym (append_assoc (name_then 32 a) (for_text b) x) ∙ (tails ∙ append_assoc (name_then 32 c) (for_text d) y)) in
    let more = append_cancel (codes "for ") (name_then 10 b ++ x) (name_then 10 d ++ y) one.1 in
    let two = name_unique 10 b d x y no_lf p_names.1 q_names.1 more in
    (ap (λ z. Extension z b) one.0 ∙ ap (Extension c) two.0, two.1)

pub top_unique : (p q : Head) (x y : List ℕ) → AreNames p → AreNames q → top_text p ++ x ≡ top_text q ++ y → (p ≡ q) × (x ≡ y)
top_unique p q x y p_names q_names e =
    head_unique p q x y p_names q_names (append_cancel (codes "certificate 1\n") (head_text p ++ x) (head_text q ++ y) e)
