-- Names that are new among the names read before them.
use Rattle.std.proofs.Common.{◌≡◌, ℕ, ◌^◌, ◌<◌, ◌≤◌, ◌||◌, Bool, true, false, List, [], ◌∷◌, ◌++◌, length, refl, sym, ap, ◌∙◌, subst, arith, length-append}
use Rattle.std.proofs.Common.{⊎_elim, bytes_eq}
use Rattle.std.specs.declared.string.String.{String}
use Rattle.std.specs.BTreeSet.{BTreeSet}
use Rattle.std.specs.Fmt.{decimal}
use Rattle.std.proofs.lemmas.Bool.{cases_lt}
use Rattle.smith_input.specs.Reading.{IsTail}
use Rattle.smith_input.specs.Kebab.{Kebab}
use Rattle.smith_input.specs.Names.{GainsName, Holds, ReadsKebab, ReadsNew}
use Rattle.smith_input.specs.NewNames.{IsMadeUnique, appended, is_among}
use Rattle.smith_input.specs.Script.{script_name}
use Rattle.smith_input.specs.Texts.{ReadsNewText}
use Rattle.smith_input.proofs.Kebab.{kebab_is_read, kebab_is_kept, kebab_tail, kebab_unique}
use Rattle.smith_input.proofs.NameShapes.{name_read}
use Rattle.smith_input.proofs.ReadsTexts.{text_tail, text_unique}

or_turned : (a b c : Bool) → (a || (b || c)) ≡ (b || (a || c))
or_turned true true c = refl
or_turned true false c = refl
or_turned false b c = refl

pub among_more : (names : List (List ℕ)) (name q : List ℕ) → is_among (names ++ name ∷ []) q ≡ (bytes_eq name q || is_among names q)
among_more [] name q = refl
among_more (n ∷ ns) name q = ap (λ b. bytes_eq n q || b) (among_more ns name q) ∙ or_turned (bytes_eq n q) (bytes_eq name q) (is_among ns q)

-- a set that gains a name has it at the end
pub holds_more : {A : Type 0} {old new : BTreeSet (String A)} {names : List (List ℕ)} {name : List ℕ} → Holds old names → GainsName old new name
    → Holds new (names ++ name ∷ [])
holds_more {names = names} {name = name} h g = record {
  has = λ q. g.has q ∙ (ap (λ b. bytes_eq name q || b) (h.has q) ∙ sym (among_more names name q));
  size = omega (arith, g.size, h.size, length-append names (name ∷ []));
}

-- the existing names decide what a text becomes

earlier : (has : List ℕ → Bool) (size : ℕ) (text a b : List ℕ) (u : IsMadeUnique has size text a) (v : IsMadeUnique has size text b) → u.times < v.times → ⊥
earlier has size text a b u v l =
    let t : has a ≡ true = ap has u.name_is ∙ v.taken u.times l in
    let f : has a ≡ false = u.is_new in
    let c : true ≡ false = sym t ∙ f in cc

pub made_unique_same : (has : List ℕ → Bool) (size : ℕ) (text a b : List ℕ) → IsMadeUnique has size text a → IsMadeUnique has size text b → a ≡ b
made_unique_same has size text a b u v =
    let e : u.times ≡ v.times = ⊎_elim
    (λ l. absurd (earlier has size text a b u v l))
    (λ l. ⊎_elim (λ k. absurd (earlier has size text b a v u k)) (λ k. omega (arith, l, k)) (cases_lt v.times u.times))
    (cases_lt u.times v.times) in
    u.name_is ∙ (ap (appended text (decimal size)) e ∙ sym v.name_is)

pub new_tail : {max : ℕ} {names : List (List ℕ)} {bytes name rest : List ℕ} → ReadsNew max names bytes name rest → IsTail rest bytes
new_tail r = kebab_tail r.reads

pub new_unique : {max : ℕ} {names : List (List ℕ)} {bytes a b left rest : List ℕ} → ReadsNew max names bytes a left → ReadsNew max names bytes b rest
    → (a ≡ b) × (left ≡ rest)
new_unique {names = names} {a = a} {b = b} r s =
    let same = kebab_unique r.reads s.reads in
    let P : List ℕ → Type 0 = λ t. IsMadeUnique (is_among names) (length names) t a in
    (made_unique_same (is_among names) (length names) s.text a b (subst P same.0 r.unique) s.unique, same.1)

pub new_kebab : {max : ℕ} {names : List (List ℕ)} {bytes name rest : List ℕ} → ReadsNew max names bytes name rest → Kebab name
new_kebab r = kebab_is_kept _ _ _ _ (kebab_is_read r.reads) r.unique

pub new_text_tail : {max : ℕ} {names : List (List ℕ)} {bytes name rest : List ℕ} → ReadsNewText max names bytes name rest → IsTail rest bytes
new_text_tail r = text_tail r.reads

pub new_text_unique : {max : ℕ} {names : List (List ℕ)} {bytes a b left rest : List ℕ} → ReadsNewText max names bytes a left
    → ReadsNewText max names bytes b rest → (a ≡ b) × (left ≡ rest)
new_text_unique {names = names} {a = a} {b = b} r s =
    let same = text_unique r.reads s.reads in
    let P : List ℕ → Type 0 = λ t. IsMadeUnique (is_among names) (length names) t a in
    (made_unique_same (is_among names) (length names) s.text a b (subst P same.0 r.unique) s.unique, same.1)

-- a spelled name that is none of those before it is read as itself
pub new_read : (max : ℕ) (names : List (List ℕ)) (name rest : List ℕ) → max < 2 ^ 64 → Kebab name → length name ≤ max → is_among names name ≡ false
    → ReadsNew max names (script_name max name ++ rest) name rest
new_read max names name rest h k l n = record {
  text = name;
  reads = name_read max name rest h k l;
  unique = record { times = 0; name_is = refl; taken = λ m b. absurd (omega (arith, b)); is_new = n };
}

-- The script of a name that is not among the names produces that name.
pub unique_scripted : (has : List ℕ → Bool) (size max : ℕ) (bytes text name left spelled rest : List ℕ) → max < 2 ^ 64 → Kebab spelled → length spelled ≤ max
    → has spelled ≡ false → bytes ≡ script_name max spelled ++ rest
    → ReadsKebab max bytes text left → IsMadeUnique has size text name → (name ≡ spelled) × (left ≡ rest)
unique_scripted has size max bytes text name left spelled rest h k l n e reads unique =
    let same = kebab_unique (subst (λ z. ReadsKebab max z text left) e reads) (name_read max spelled rest h k l) in
    let as_read : IsMadeUnique has size spelled spelled = record { times = 0; name_is = refl; taken = λ m b. absurd (omega (arith, b)); is_new = n } in
    (made_unique_same has size spelled name spelled (subst (λ t. IsMadeUnique has size t name) same.0 unique) as_read, same.1)
