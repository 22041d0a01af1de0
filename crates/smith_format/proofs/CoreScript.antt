-- Core function types, limits and memory types are read from their scripts.
use Rattle.std.proofs.Common.{◌≡◌, ◌≤◌, ◌^◌, ℕ, ◌+◌, ◌-◌, List, ◌++◌, length, refl, sym, ap, subst, arith, append_assoc, Option, Some, None}
use Rattle.std.specs.Prelude.{IfSome}
use Rattle.std.proofs.lemmas.Bool.{false≢true}
use Rattle.std.proofs.lemmas.Bool.Decides.{Decides-and, Decides-eqb}
use Rattle.std.specs.Cmp.{booleans_Decides}
use Rattle.std.specs.Bool.{Decides}
use Rattle.std.specs.List.{AllByRecursion, Contains}
use Rattle.smith_input.proofs.Choices.{among_written}
use Rattle.smith_input.proofs.Loops.{loop_read, along_all}
use Rattle.smith_input.proofs.Picks.{reads-pick}
use Rattle.smith_input.proofs.Reading.{flips_one, flips_zero}
use Rattle.smith_format.specs.CoreFormed.{FormedFunction, FormedLimits, FormedMemory}
use Rattle.smith_format.specs.CoreReading.{ReadsBetween, ReadsFunction, ReadsLimits, ReadsMaximum, ReadsMemory, ReadsValues, bounded, unbounded}
use Rattle.smith_format.specs.CoreScript.{script_between, script_function, script_limits, script_maximum, script_memory, script_values}
use Rattle.smith_format.specs.CoreTypes.{Function}
use Rattle.smith_format.specs.Equality.{same_val}
use Rattle.smith_format.specs.contracts.types.RefTypePartialEq.TheImpl.{ghosts as references}
use Rattle.smith_format.specs.declared.types.MemoryType.{MemoryType}
use Rattle.smith_format.specs.declared.types.RefType.{RefType}
use Rattle.smith_format.specs.declared.types.RefType.TheVariants.{FuncRef, ExternRef, Concrete}
use Rattle.smith_format.specs.declared.types.ValType.{ValType}
use Rattle.smith_format.specs.declared.types.ValType.TheVariants.{I32, I64, F32, F64, V128, Ref}
use Rattle.smith_format.proofs.CoreReading.{function_unique}

-- the derived equalities return true exactly if both are the same
pub ref_Decides : (r o : RefType) → Decides (references.eq r o) (r ≡ o)
ref_Decides FuncRef FuncRef = (λ _. refl, λ _. refl)
ref_Decides ExternRef ExternRef = (λ _. refl, λ _. refl)
ref_Decides (Concrete a i) (Concrete b j) = let d = Decides-and _ _ (booleans_Decides a b) (Decides-eqb i j) in
    (λ e. λ k. Concrete ((d.0 e).0 k) ((d.0 e).1 k), λ e. d.1 (cc, cc))
ref_Decides r o = (λ e. absurd (false≢true e), λ e. cc)

pub same_val_Decides : (x y : ValType) → Decides (same_val x y) (x ≡ y)
same_val_Decides I32 I32 = (λ _. refl, λ _. refl)
same_val_Decides I64 I64 = (λ _. refl, λ _. refl)
same_val_Decides F32 F32 = (λ _. refl, λ _. refl)
same_val_Decides F64 F64 = (λ _. refl, λ _. refl)
same_val_Decides V128 V128 = (λ _. refl, λ _. refl)
same_val_Decides (Ref r) (Ref o) = let d = ref_Decides r o in (λ e. ap Ref (d.0 e), λ e. d.1 cc)
same_val_Decides x y = (λ e. absurd (false≢true e), λ e. cc)

values_read : {bits : ℕ} (valtypes : List ValType) (max : ℕ) (xs : List ValType) (rest : List ℕ) → length valtypes ≤ 2 ^ 64 → length xs ≤ max
    → AllByRecursion (Contains valtypes) xs → ReadsValues bits valtypes max (script_values valtypes max xs ++ rest) xs rest
values_read valtypes max xs rest many few all =
    loop_read _ (λ s x. tt) (λ s x. Contains valtypes x) (λ s x rest c. among_written same_val same_val_Decides valtypes x rest many c) xs 0 tt rest
    (along_all (Contains valtypes) (λ s x. tt) tt xs all) (omega arith) (omega arith)

pub function_read : {bits : ℕ} (valtypes : List ValType) (max_results : ℕ) (f : Function) (rest : List ℕ) → FormedFunction valtypes max_results f
    → length valtypes ≤ 2 ^ 64 → ReadsFunction bits valtypes max_results (script_function valtypes max_results f ++ rest) f rest
function_read {bits} valtypes max_results f rest h many =
    let params = script_values valtypes 20 f.0 in
    let results = script_values valtypes max_results f.1 in
    record {
      mid = results ++ rest;
      params = subst (λ b. ReadsValues bits valtypes 20 b f.0 (results ++ rest)) (sym (append_assoc params results rest))
          (values_read valtypes 20 f.0 (results ++ rest) many h.few_params h.params);
      results = values_read valtypes max_results f.1 rest many h.few_results h.results;
    }

-- what is read from a script
pub function_scripted : {bits : ℕ} (valtypes : List ValType) (max_results : ℕ) (f g : Function) (bytes rest left : List ℕ)
    → FormedFunction valtypes max_results f
    → length valtypes ≤ 2 ^ 64 → bytes ≡ script_function valtypes max_results f ++ rest → ReadsFunction bits valtypes max_results bytes g left
    → (g ≡ f) × (left ≡ rest)
function_scripted {bits} valtypes max_results f g bytes rest left h many e r =
    function_unique r (subst (λ b. ReadsFunction bits valtypes max_results b f rest) (sym e) (function_read valtypes max_results f rest h many))

-- limits

pub between_read : (low high n : ℕ) (rest : List ℕ) → low ≤ n → n ≤ high → high ≤ 1000 → ReadsBetween low high (script_between low high n ++ rest) n rest
between_read low high n rest l h small = record {
  place = n - low;
  is = omega (arith, l);
  reads = reads-pick (high - low + 1) (n - low) rest (omega (arith, small)) (omega (arith, l, h));
}

pub maximum_read : (minimum : ℕ) (maximum : Option ℕ) (rest : List ℕ) → IfSome maximum (λ n. (minimum ≤ n) × (n ≤ 20))
    → ReadsMaximum minimum (script_maximum minimum maximum ++ rest) maximum rest
maximum_read minimum None rest f = unbounded (flips_zero rest)
maximum_read minimum (Some n) rest f = bounded (flips_one (script_between minimum 20 n ++ rest)) (between_read minimum 20 n rest f.0 f.1 (omega arith))

pub limits_read : (minimum : ℕ) (maximum : Option ℕ) (rest : List ℕ) → FormedLimits minimum maximum
    → ReadsLimits (script_limits minimum maximum ++ rest) minimum maximum rest
limits_read minimum maximum rest f =
    let a : List ℕ = script_between 0 10 minimum in
    let b : List ℕ = script_maximum minimum maximum in
    subst (λ z. ReadsLimits z minimum maximum rest) (sym (append_assoc a b rest)) (record {
      mid = b ++ rest;
      least = between_read 0 10 minimum (b ++ rest) (omega arith) f.least (omega arith);
      most = maximum_read minimum maximum rest f.most;
    })

pub memory_read : (m : MemoryType) (rest : List ℕ) → FormedMemory m → ReadsMemory (script_memory m ++ rest) m rest
memory_read m rest f = record { limits = limits_read m.minimum m.maximum rest f.limits; shared = f.shared; memory64 = f.memory64 }
