-- Steps of writers of scripts.
use Rattle.std.proofs.Common.{◌≡◌, ℕ, List, [], ◌++◌, refl, ap, sym, subst, ◌∙◌, Result, Ok, Err, IsErrAnd, append_assoc, append-nil}
use Rattle.std.specs.declared.vec.Vec.{Vec}
use Rattle.std.specs.declared.alloc.Global.{Global}
use Rattle.smith_input.specs.declared.error.Error.{Error}
use Rattle.smith_input.specs.declared.error.Error.TheVariants.{OutOfMemory}
use Rattle.smith_script_types.specs.Says.{Adds, IsUnsaid, Says}
use Rattle.smith_input.proofs.Lists.{all_front, all_back}
use Rattle.std.proofs.Common.{zero, suc, ◌+◌, ◌∷◌, arith}
use Rattle.std.specs.Prelude.{min}
use Rattle.smith_input.specs.Script.{script_end, script_more}
use Rattle.smith_format.specs.CoreScript.{script_function}
use Rattle.smith_format.specs.CoreTypes.{Function}
use Rattle.smith_format.specs.Limits.{configured, max_results}
use Rattle.smith_format.specs.declared.config.Config.{Config}
use Rattle.smith_core.specs.StandInScript.{function_of, functions_from}
use Rattle.smith_script_types.specs.Fronts.{script_functions}

pub adds_nothing : {a : Vec ℕ Global} → Adds a a []
adds_nothing {a} = record { is = sym (append-nil a.items) }

pub adds_then : {a b c : Vec ℕ Global} {p q : List ℕ} → Adds a b p → Adds b c q → Adds a c (p ++ q)
adds_then {a} {b} {c} {p} {q} g h = record { is = h.is ∙ ap (λ z. z ++ q) g.is ∙ append_assoc a.items p q }

pub unsaid_left : {e : Error} {p : List ℕ} (q : List ℕ) → IsUnsaid e p → IsUnsaid e (p ++ q)
unsaid_left {e} {p} q d = record { is = λ h all. d.is h (all_front _ p q all) }

pub unsaid_right : {e : Error} (p : List ℕ) {q : List ℕ} → IsUnsaid e q → IsUnsaid e (p ++ q)
unsaid_right {e} p {q} d = record { is = λ h all. d.is h (all_back _ p q all) }

-- a last call whose result is returned
pub ends : {A : Type 0} (r : Result A Error) {a b : Vec ℕ Global} (c : Vec ℕ Global) {p : List ℕ} (q : List ℕ) → Adds a b p → Says r b c q
    → Says r a c (p ++ q)
ends (Ok x) c q g h = adds_then g h
ends (Err e) c {p} q g h = unsaid_right p h

pub ends_third : {A : Type 0} (r : Result A Error) {a b c : Vec ℕ Global} (d : Vec ℕ Global) {p q : List ℕ} (s : List ℕ) → Adds a b p → Adds b c q
    → Says r c d s → Says r a d (p ++ q ++ s)
ends_third r d s g h k = ends r d s (adds_then g h) k

-- What was put is a front of all, and this is left.
pub record Towards (old new : Vec ℕ Global) (all left : List ℕ) : Type 0 where
  pub front : List ℕ
  pub parts : all ≡ front ++ left
  pub adds : Adds old new front

pub towards_start : (a : Vec ℕ Global) (all : List ℕ) → Towards a a all all
towards_start a all = record { front = []; parts = refl; adds = adds_nothing }

pub towards_step : {a b c : Vec ℕ Global} {all left : List ℕ} (p rest : List ℕ) → Towards a b all left → left ≡ p ++ rest → Adds b c p → Towards a c all rest
towards_step p rest t e g =
    record { front = t.front ++ p; parts = t.parts ∙ ap (λ x. t.front ++ x) e ∙ sym (append_assoc t.front p rest); adds = adds_then t.adds g }

pub towards_exit : {a b : Vec ℕ Global} {all left : List ℕ} {e : Error} (p rest : List ℕ) → Towards a b all left → left ≡ p ++ rest → IsUnsaid e p
    → IsUnsaid e all
towards_exit {a} {b} {all} {left} {e} p rest t is d =
    subst (IsUnsaid e) (sym (t.parts ∙ ap (λ x. t.front ++ x) is)) (unsaid_right t.front (unsaid_left rest d))

pub towards_end : {A : Type 0} (r : Result A Error) {a b : Vec ℕ Global} (c : Vec ℕ Global) {all left : List ℕ} → Towards a b all left → Says r b c left
    → Says r a c all
towards_end r {a} {b} c t h = subst (Says r a c) (sym t.parts) (ends r c _ t.adds h)

pub towards_done : {a b : Vec ℕ Global} {all left : List ℕ} → Towards a b all left → left ≡ [] → Adds a b all
towards_done {a} {b} t e = subst (Adds a b) (sym (t.parts ∙ ap (λ x. t.front ++ x) e ∙ append-nil t.front)) t.adds

-- an allocation that failed
pub memory_unsaid : (e : Error) (p : List ℕ) → e ≡ OutOfMemory → IsUnsaid e p
memory_unsaid e p h = record { is = λ k. absurd (k h) }

-- an error that is passed on
pub gives_up : {A : Type 0} (r : Result A Error) (e : Error) (a b : Vec ℕ Global) {p : List ℕ} → IsErrAnd r (λ y. y ≡ e) → IsUnsaid e p → Says r a b p
gives_up (Ok x) e a b {p} is d = absurd is
gives_up (Err y) e a b {p} is d = subst (λ (z : Error). IsUnsaid z p) (sym is) d

pub ruleset saying = (adds_nothing, adds_then, unsaid_left, unsaid_right, ends, ends_third)

-- Stand-ins as they are read from their bytes, step by step.

-- function types

pub functions_at : (n more : ℕ) (bs : List ℕ) → n ≡ more + 1
    → functions_from n bs ≡ ((function_of bs).0 ∷ (functions_from more (function_of bs).1).0, (functions_from more (function_of bs).1).1)
functions_at zero more bs e = absurd (omega (arith, e))
functions_at (suc n) more bs e =
    let same : n ≡ more = omega (arith, e) in
    ap (λ m. ((function_of bs).0 ∷ (functions_from m (function_of bs).1).0, (functions_from m (function_of bs).1).1)) same

pub functions_said : (config : Config) (done n more : ℕ) (bs : List ℕ) → n ≡ more + 1
    → script_functions config done (functions_from n bs).0
    ≡ (script_more 0 done ++ script_function (configured config) (max_results config) (function_of bs).0)
    ++ script_functions config (done + 1) (functions_from more (function_of bs).1).0
functions_said config done n more bs e = ap (λ (fs : List Function × List ℕ). script_functions config done fs.0) (functions_at n more bs e)

pub functions_left : (n more : ℕ) (bs : List ℕ) → n ≡ more + 1 → (functions_from n bs).1 ≡ (functions_from more (function_of bs).1).1
functions_left n more bs e = ap (λ (fs : List Function × List ℕ). fs.1) (functions_at n more bs e)

pub functions_over : (config : Config) (done count n : ℕ) (bs : List ℕ) → n ≡ 0 → done ≡ count
    → script_functions config done (functions_from n bs).0 ≡ script_end count (min config.max_types 20) ++ []
functions_over config done count n bs none all =
    ap (λ m. script_functions config done (functions_from m bs).0) none
    ∙ ap (λ d. script_end d (min config.max_types 20)) all
    ∙ sym (append-nil (script_end count (min config.max_types 20)))
