-- Core types that are read: the rest, that they are as they should be, and that they are determined.
use Rattle.std.proofs.Common.{◌≡◌, ◌≤◌, ◌⊎◌, inl, inr, ℕ, zero, suc, ◌+◌, ◌-◌, List, [], ◌∷◌, Bool, true, false, length, refl, sym, ap, ◌∙◌, subst, arith}
use Rattle.std.specs.List.{AllByRecursion, Contains}
use Rattle.std.specs.Prelude.{Option, Some, None, IfSome, slice_get}
use Rattle.smith_input.specs.Reading.{Reads, IsTail}
use Rattle.smith_input.proofs.Choices.{among_tail, among_same, among_contains}
use Rattle.smith_input.proofs.Loops.{loop_tail, loop_few, loop_all, loop_same}
use Rattle.smith_input.proofs.Reading.{tail_same, tail_trans, reads_tail, reads_unique, flips_unique}
use Rattle.smith_format.specs.CoreFormed.{FormedLimits, FormedFunction, FormedMemory}
use Rattle.smith_format.specs.CoreReading.{ReadsBetween, ReadsMaximum, unbounded, bounded, ReadsLimits, ReadsMemory, ReadsElement, only_functions, either}
use Rattle.smith_format.specs.CoreReading.{ReadsTable, ReadsTag, ReadsValues, ReadsFunction}
use Rattle.smith_format.specs.CoreTypes.{Function}
use Rattle.smith_format.specs.declared.types.MemoryType.{MemoryType}
use Rattle.smith_format.specs.declared.types.RefType.{RefType}
use Rattle.smith_format.specs.declared.types.RefType.TheVariants.{FuncRef, ExternRef}
use Rattle.smith_format.specs.declared.types.TableType.{TableType}
use Rattle.smith_format.specs.declared.types.TagType.{TagType}
use Rattle.smith_format.specs.declared.types.ValType.{ValType}

-- What reads leave is a tail.
maximum_tail : {minimum : ℕ} {bytes : List ℕ} {most : Option ℕ} {rest : List ℕ} → ReadsMaximum minimum bytes most rest → IsTail rest bytes
maximum_tail (unbounded f) = (1, f.left)
maximum_tail (bounded f b) = tail_trans (reads_tail b.reads) (1, f.left)

pub limits_tail : {bytes : List ℕ} {minimum : ℕ} {most : Option ℕ} {rest : List ℕ} → ReadsLimits bytes minimum most rest → IsTail rest bytes
limits_tail r = tail_trans (maximum_tail r.most) (reads_tail r.least.reads)

element_tail : {references : Bool} {bytes : List ℕ} {t : RefType} {rest : List ℕ} → ReadsElement references bytes t rest → IsTail rest bytes
element_tail (only_functions {bytes = bytes}) = tail_same bytes
element_tail (either r) = among_tail r

values_tail : {bits : ℕ} {valtypes : List ValType} {max : ℕ} {bytes : List ℕ} {xs : List ValType} {rest : List ℕ} → ReadsValues bits valtypes max bytes xs rest
    → IsTail rest bytes
values_tail {bytes = bytes} {xs = xs} {rest = rest} l = loop_tail (λ s b r t e. absurd e) (λ s b x r t i. among_tail i) 0 tt bytes xs rest tt l

pub function_tail : {bits : ℕ} {valtypes : List ValType} {max_results : ℕ} {bytes : List ℕ} {f : Function} {rest : List ℕ}
    → ReadsFunction bits valtypes max_results bytes f rest → IsTail rest bytes
function_tail r = tail_trans (values_tail r.results) (values_tail r.params)

-- what a call for a number in a range returns
pub between : {low high : ℕ} {bytes : List ℕ} {n : ℕ} {rest : List ℕ} → (k : ℕ) × (n ≡ low + k) × Reads (high - low + 1) bytes k rest
    → ReadsBetween low high bytes n rest
between x = record { place = x.0; is = x.1; reads = x.2 }

-- What is read is as it should be.
maximum_formed : {minimum : ℕ} {bytes : List ℕ} {most : Option ℕ} {rest : List ℕ} → minimum ≤ 10 → ReadsMaximum minimum bytes most rest
    → IfSome most (λ n. (minimum ≤ n) × (n ≤ 20))
maximum_formed low (unbounded f) = tt
maximum_formed low (bounded f b) = (omega (arith, b.is), omega (arith, b.is, b.reads.below))

pub limits_formed : {bytes : List ℕ} {minimum : ℕ} {most : Option ℕ} {rest : List ℕ} → ReadsLimits bytes minimum most rest → FormedLimits minimum most
limits_formed {minimum = minimum} r = let low : minimum ≤ 10 = omega (arith, r.least.is, r.least.reads.below) in
    record { least = low; most = maximum_formed low r.most }

pub memory_formed : {bytes rest : List ℕ} {m : MemoryType} → ReadsMemory bytes m rest → FormedMemory m
memory_formed r = record { limits = limits_formed r.limits; shared = r.shared; memory64 = r.memory64 }

element_is : (place : ℕ) (t : RefType) → slice_get (FuncRef ∷ ExternRef ∷ []) place ≡ Some t → (t ≡ FuncRef) ⊎ (t ≡ ExternRef)
element_is zero t e = inl (let z : t ≡ FuncRef = cc in z)
element_is (suc zero) t e = inr (let z : t ≡ ExternRef = cc in z)
element_is (suc (suc n)) t e = absurd (let z : None ≡ Some t = e in cc)

pub element_formed : {references : Bool} {bytes : List ℕ} {t : RefType} {rest : List ℕ} → ReadsElement references bytes t rest
    → (t ≡ FuncRef) ⊎ ((references ≡ true) × (t ≡ ExternRef))
element_formed (only_functions) = inl refl
element_formed (either {t = t} r) = elim (element_is r.place t r.named) [ inl e ↦ inl e | inr e ↦ inr (refl, e) ]

values_few : {bits : ℕ} {valtypes : List ValType} {max : ℕ} {bytes : List ℕ} {xs : List ValType} {rest : List ℕ} → ReadsValues bits valtypes max bytes xs rest
    → length xs ≤ max
values_few {max = max} {bytes = bytes} {xs = xs} {rest = rest} l = let few : 0 + length xs ≤ max = loop_few 0 tt bytes xs rest tt (omega arith) l in omega arith

values_formed : {bits : ℕ} {valtypes : List ValType} {max : ℕ} {bytes : List ℕ} {xs : List ValType} {rest : List ℕ}
    → ReadsValues bits valtypes max bytes xs rest
    → AllByRecursion (Contains valtypes) xs
values_formed {bits} {valtypes} {bytes = bytes} {xs = xs} {rest = rest} l =
    loop_all (Contains valtypes) (λ s b x r t i. among_contains i) 0 tt bytes xs rest tt l

pub function_formed : {bits : ℕ} {valtypes : List ValType} {max_results : ℕ} {bytes : List ℕ} {f : Function} {rest : List ℕ}
    → ReadsFunction bits valtypes max_results bytes f rest → FormedFunction valtypes max_results f
function_formed r = record {
  few_params = values_few r.params;
  few_results = values_few r.results;
  params = values_formed r.params;
  results = values_formed r.results;
}

-- The bytes decide what is read.
between_unique : {low high : ℕ} {bytes : List ℕ} {m n : ℕ} {left rest : List ℕ} → ReadsBetween low high bytes m left → ReadsBetween low high bytes n rest
    → (m ≡ n) × (left ≡ rest)
between_unique r s = let d = reads_unique r.reads s.reads in (omega (arith, r.is, s.is, d.0), d.1)

maximum_unique : {minimum : ℕ} {bytes : List ℕ} {x y : Option ℕ} {left rest : List ℕ} → ReadsMaximum minimum bytes x left → ReadsMaximum minimum bytes y rest
    → (x ≡ y) × (left ≡ rest)
maximum_unique (unbounded f) (unbounded g) = (refl, (flips_unique f g).1)
maximum_unique (unbounded f) (bounded g b) = absurd (let z : false ≡ true = (flips_unique f g).0 in cc)
maximum_unique (bounded f b) (unbounded g) = absurd (let z : true ≡ false = (flips_unique f g).0 in cc)
maximum_unique {minimum} (bounded f b) (bounded {n = n} {rest = rest} g c) =
    let d = between_unique b (subst (λ bs. ReadsBetween minimum 20 bs n rest) (sym (flips_unique f g).1) c) in (ap Some d.0, d.1)

limits_unique : {bytes : List ℕ} {m n : ℕ} {x y : Option ℕ} {left rest : List ℕ} → ReadsLimits bytes m x left → ReadsLimits bytes n y rest
    → (m ≡ n) × (x ≡ y) × (left ≡ rest)
limits_unique {y = y} {rest = rest} r s =
    let l = between_unique r.least s.least in
    let z : ReadsMaximum _ r.mid y rest = subst (λ bs. ReadsMaximum _ bs y rest) (sym l.1) s.most in
    let d = maximum_unique r.most (subst (λ k. ReadsMaximum k r.mid y rest) (sym l.0) z) in (l.0, d.0, d.1)

pub memory_unique : {bytes : List ℕ} {m n : MemoryType} {left rest : List ℕ} → ReadsMemory bytes m left → ReadsMemory bytes n rest → (m ≡ n) × (left ≡ rest)
memory_unique {m = m} {n = n} r s =
    let d = limits_unique r.limits s.limits in
    let e : m.shared ≡ n.shared = r.shared ∙ sym s.shared in
    let f : m.memory64 ≡ n.memory64 = r.memory64 ∙ sym s.memory64 in
    (λ i. record { minimum = d.0 i; maximum = d.1 i; shared = e i; memory64 = f i }, d.2)

element_unique : {references : Bool} {bytes : List ℕ} {t o : RefType} {left rest : List ℕ} → ReadsElement references bytes t left
    → ReadsElement references bytes o rest → (t ≡ o) × (left ≡ rest)
element_unique (only_functions) (only_functions) = (refl, refl)
element_unique (either r) (either s) = among_same r s

pub table_unique : {references : Bool} {bytes : List ℕ} {t o : TableType} {left rest : List ℕ} → ReadsTable references bytes t left
    → ReadsTable references bytes o rest → (t ≡ o) × (left ≡ rest)
table_unique {t = t} {o = o} {rest = rest} r s =
    let e = element_unique r.element s.element in
    let d = limits_unique r.limits (subst (λ bs. ReadsLimits bs o.minimum o.maximum rest) (sym e.1) s.limits) in
    let f : t.table64 ≡ o.table64 = r.table64 ∙ sym s.table64 in
    (λ i. record { element_type = e.0 i; table64 = f i; minimum = d.0 i; maximum = d.1 i }, d.2)

pub tag_unique : {candidates bytes : List ℕ} {t o : TagType} {left rest : List ℕ} → ReadsTag candidates bytes t left → ReadsTag candidates bytes o rest
    → (t ≡ o) × (left ≡ rest)
tag_unique r s = let d = among_same r s in (λ i. record { func_type_idx = d.0 i }, d.1)

values_unique : {bits : ℕ} {valtypes : List ValType} {max : ℕ} {bytes : List ℕ} {xs ys : List ValType} {left rest : List ℕ}
    → ReadsValues bits valtypes max bytes xs left
    → ReadsValues bits valtypes max bytes ys rest → (xs ≡ ys) × (left ≡ rest)
values_unique {bytes = bytes} {xs = xs} {ys = ys} {left = left} {rest = rest} l m =
    let d = loop_same (λ s b r q t u e f. absurd e) (λ s b x r q t u e i. e) (λ s b x y r q t u i j. let c = among_same i j in (c.0, c.1, refl)) 0 tt bytes xs
    ys left rest tt tt l m in
    (d.0, d.1)

pub function_unique : {bits : ℕ} {valtypes : List ValType} {max_results : ℕ} {bytes : List ℕ} {f g : Function} {left rest : List ℕ}
    → ReadsFunction bits valtypes max_results bytes f left → ReadsFunction bits valtypes max_results bytes g rest → (f ≡ g) × (left ≡ rest)
function_unique {bits} {valtypes} {max_results} {g = g} {rest = rest} r s =
    let p = values_unique r.params s.params in
    let q = values_unique r.results (subst (λ b. ReadsValues bits valtypes max_results b g.1 rest) (sym p.1) s.results) in (λ i. (p.0 i, q.0 i), q.1)
