-- Steps of judgements.
use Rattle.std.proofs.Common.{arith, ◌≡◌, ℕ, Bool, true, false, List, [], ◌++◌, sym, subst, Result, Ok, Err, IsErrAnd}
use Rattle.std.proofs.Common.{append-nil, append_assoc}
use Rattle.std.specs.Prelude.{IfErr, IfOk, OnOk}
use Rattle.smith_syntax.specs.Entries.{export_decl}
use Rattle.smith_syntax.specs.declared.deftype.ComponentTypeRef.{ComponentTypeRef}
use Rattle.smith_tree.specs.Bodies.{Body, IsSmall, after_export, externs_at}
use Rattle.smith_tree.specs.Demands.{Demands, Keeps, everything}
use Rattle.smith_tree.specs.Facts.{FactScope, Id}
use Rattle.smith_tree.specs.Validates.{ValidDecl, exported}
use Rattle.smith_validate.specs.Externs.{IsAskedFor}
use Rattle.smith_validate.specs.Instances.{Surface}
use Rattle.smith_validate.specs.Judges.{IsNamed, IsUnnamed, Judges, Refutes, asked}
use Rattle.smith_validate.specs.Steps.{ExactView, Later, Steps, StepsExactly, View}
use Rattle.smith_validate.specs.declared.error.Stop.{Stop}

-- a fact that another rests on
pub refute_by : {e : Stop} {P Q : Demands → Type 0} → ((d : Demands) → Q d → P d) → Refutes e P → Refutes e Q
refute_by {e} f r = record { is = λ n q. r.is n (f (asked e) q) }

-- an error that is passed on
pub passed_on : {A : Type 0} (r : Result A Stop) (e : Stop) {P : Demands → Type 0} → IsErrAnd r (λ y. y ≡ e) → Refutes e P → Judges r P
passed_on (Ok x) e {P} is d = absurd is
passed_on (Err y) e {P} is d = subst (λ (z : Stop). Refutes z P) (sym is) d

pub judged_by : {A : Type 0} (r : Result A Stop) {P Q : Demands → Type 0} → (P everything → Q everything) → ((d : Demands) → Q d → P d)
    → Judges r P → Judges r Q
judged_by (Ok x) {P} {Q} f g j = f j
judged_by (Err e) {P} {Q} f g j = refute_by g j

-- a property of something else that is the same
pub refuted_at : {B : Type 0} {e : Stop} (F : B → Demands → Type 0) (x y : B) → x ≡ y → Refutes e (F x) → Refutes e (F y)
refuted_at F x y e r = refute_by (λ d q. subst (λ z. F z d) (sym e) q) r

pub on_by : {A : Type 0} (r : Result A Stop) {P Q : Type 0} → (P → Q) → OnOk r P → OnOk r Q
on_by (Ok x) {P} {Q} f p = f p
on_by (Err e) {P} {Q} f p = tt

pub on_both : {A : Type 0} (r : Result A Stop) {P Q R : Type 0} → (P → Q → R) → OnOk r P → OnOk r Q → OnOk r R
on_both (Ok x) {P} {Q} {R} f p q = f p q
on_both (Err e) {P} {Q} {R} f p q = tt

pub on_all : {A : Type 0} (r : Result A Stop) {P Q R S : Type 0} → (P → Q → R → S) → OnOk r P → OnOk r Q → OnOk r R → OnOk r S
on_all (Ok x) {P} {Q} {R} {S} f p q s = f p q s
on_all (Err e) {P} {Q} {R} {S} f p q s = tt

pub on_five : {A : Type 0} (r : Result A Stop) {P Q R S T V : Type 0} → (P → Q → R → S → T → V)
    → OnOk r P → OnOk r Q → OnOk r R → OnOk r S → OnOk r T → OnOk r V
on_five (Ok x) {P} {Q} {R} {S} {T} {V} f p q s t v = f p q s t v
on_five (Err e) {P} {Q} {R} {S} {T} {V} f p q s t v = tt

pub on_judged : {A : Type 0} (r : Result A Stop) (R : Demands → Type 0) {P Q S : Type 0} → (P → Q → R everything → S)
    → OnOk r P → OnOk r Q → Judges r R → OnOk r S
on_judged (Ok x) R {P} {Q} {S} f p q j = f p q j
on_judged (Err e) R {P} {Q} {S} f p q j = tt

-- an export, whether names are asked or not
pub export_judged : {A : Type 0} (r : Result A Stop) (asks : Bool) (name : List ℕ) (to : ComponentTypeRef) (outer : List FactScope) (b : Body)
    → Judges r (λ d. IsAskedFor d asks (exported b) (externs_at b.own outer to) × IsSmall d (after_export outer b to))
    → Judges r (λ d. ValidDecl d asks (export_decl name tt to) outer b × IsSmall d (after_export outer b to))
export_judged r true name to outer b j = j
export_judged r false name to outer b j = j

pub ok_by : {A : Type 0} (r : Result A Stop) {P Q : A → Type 0} → ((x : A) → P x → Q x) → IfOk r P → IfOk r Q
ok_by (Ok x) {P} {Q} f p = f x p
ok_by (Err e) {P} {Q} f p = tt

pub err_by : {A : Type 0} (r : Result A Stop) {P Q : Stop → Type 0} → ((e : Stop) → P e → Q e) → IfErr r P → IfErr r Q
err_by (Ok x) {P} {Q} f p = tt
err_by (Err e) {P} {Q} f p = f e p

pub refuse : {A : Type 0} (r : Result A Stop) {P : Type 0} → ¬ P → IfErr r (λ e. IsNamed e → ¬ P)
refuse (Ok x) {P} n = tt
refuse (Err e) {P} n = λ h. n

pub on_any : {A : Type 0} (r : Result A Stop) {P : Type 0} → P → OnOk r P
on_any (Ok x) {P} p = p
on_any (Err e) {P} p = tt

-- an error that is passed on
pub refused_on : {A : Type 0} (r : Result A Stop) (e : Stop) {P : Type 0} → IsErrAnd r (λ y. y ≡ e) → (IsNamed e → P) → IfErr r (λ y. IsNamed y → P)
refused_on (Ok x) e {P} is d = tt
refused_on (Err y) e {P} is d = subst (λ (z : Stop). IsNamed z → P) (sym is) d

pub on_err : {A : Type 0} (r : Result A Stop) (e : Stop) (P : Type 0) → IsErrAnd r (λ y. y ≡ e) → OnOk r P
on_err (Ok x) e P is = absurd is
on_err (Err y) e P is = tt

-- a fact that another rests on, if it is asked
pub keeps_by : (asked : Bool) {P Q : Type 0} → (P → Q) → Keeps asked P → Keeps asked Q
keeps_by true f p = f p
keeps_by false f p = tt

-- with more types of instances, or none

module _ {S N : Type 0} (V : S → List FactScope → N → List Surface → Type 0) (at : S) (outer : List FactScope) (names : N) (table : List Surface) where
  pub later_none : V at outer names table → Later V at outer names table
  later_none h = ([], subst (λ t. V at outer names t) (sym (append-nil table)) h)

  pub later_more : (more : List Surface) → Later V at outer names (table ++ more) → Later V at outer names table
  later_more more h = (more ++ h.0, subst (λ t. V at outer names t) (append_assoc table more h.0) h.1)

-- a call that finds nothing unnamed
pub never_unnamed : {A S : Type 0} (result : Result A Stop) (after : S → List FactScope → S) {Before After : ExactView S}
    {Usual Valid : S → List FactScope → Type 0} → IfErr result IsUnnamed
    → ((at : S) (outer : List FactScope) (named : List Id) (table : List Surface) → Before at outer named table
    → OnOk result (After (after at outer) outer named table)) → StepsExactly result Before After after Usual Valid
never_unnamed result after bound exact = grind (arith, err_by)

-- a call that fails
pub steps_err : {A S : Type 0} (result : Result A Stop) (e : Stop) (is : IsErrAnd result (λ y. y ≡ e)) {Before After : View S}
    {after : S → List FactScope → S} {Valid : Demands → S → List FactScope → Type 0}
    → ((at : S) (outer : List FactScope) (names : List (List Id)) (table : List Surface) → Before at outer names table
    → Refutes e (λ d. Valid d at outer)) → Steps result Before After after Valid
steps_err result e is refuted = grind (arith, passed_on, on_err)
