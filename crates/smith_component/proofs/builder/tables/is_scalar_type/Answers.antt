use Rattle.std.proofs.Common.{◌≡◌, ℕ, List, false, ap, sym, subst, ◌∙◌, inl, inr, arith}
use Rattle.std.specs.Prelude.{Some, None, slice_get}
use Rattle.std.specs.declared.alloc.Global.{Global}
use Rattle.std.specs.declared.rc.Rc.{Rc}
use Rattle.smith_syntax.specs.Entries.{plain}
use Rattle.smith_syntax.specs.Flat.{is_scalar}
use Rattle.smith_syntax.specs.Shown.{shown_type}
use Rattle.smith_syntax.specs.declared.deftype.DefType.{DefType}
use Rattle.smith_syntax.specs.declared.deftype.DefType.TheVariants as def
use Rattle.smith_syntax.specs.declared.func.FuncType.{FuncType}
use Rattle.smith_syntax.proofs.Shown.{full_component, full_defined, full_func, full_instance}
use Rattle.smith_scopes.specs.Scopes.{Contents, last_of, own_scope}
use Rattle.smith_scopes.proofs.Stack.{length-last}
use Rattle.smith_tree.specs.Offers.{is_scalar_entry, is_scalar_type}
use Rattle.smith_component.proofs.CanonicalsState.{IsOther, type_shown}
use Rattle.smith_component.proofs.builder.tables.is_scalar_type.Goals as goal

-- what is in the last scope, as a plain tree
type_at : (scopes : List Contents) (p : ℕ) (t : DefType) → slice_get (last_of scopes).types p ≡ Some t
    → is_scalar_type (own_scope scopes).types p ≡ is_scalar_entry (shown_type t)
type_at scopes p t h =
    ap (λ o. elim o [ None ↦ false | Some e ↦ is_scalar_entry e ]) (type_shown scopes p t h)

function_scalar : (t : DefType) (f : Rc FuncType Global) → t ≡ def.Func f → is_scalar_entry (shown_type t) ≡ is_scalar f.value
function_scalar t f e = ap (λ x. is_scalar_entry (shown_type x)) e ∙ ap (λ x. is_scalar_entry (plain x)) (full_func f)

pub get-requires-clause-entry : goal.get-requires-clause-entry
get-requires-clause-entry c = omega (arith, c.requires, length-last c.args.scopes.now)

pub returns-in-Func : goal.returns-in-Func
returns-in-Func c =
    let t : DefType = c.get.result.now.value in
    c.is_scalar.ensures ∙ (ap is_scalar c.deref-in-Func.ensures
    ∙ sym (type_at c.args.scopes.now c.args.ty t c.get.ensures.value ∙ function_scalar t c.in-Func.func (sym c.deref.ensures ∙ c.in-Func.is)))

not_scalar : (t : DefType) → IsOther t → is_scalar_entry (shown_type t) ≡ false
not_scalar t (inl d) = ap (λ x. is_scalar_entry (shown_type x)) d.1 ∙ ap (λ x. is_scalar_entry (plain x)) (full_defined d.0)
not_scalar t (inr (inl d)) = ap (λ x. is_scalar_entry (shown_type x)) d.1 ∙ ap (λ x. is_scalar_entry (plain x)) (full_component d.0)
not_scalar t (inr (inr d)) = ap (λ x. is_scalar_entry (shown_type x)) d.1 ∙ ap (λ x. is_scalar_entry (plain x)) (full_instance d.0)

-- The type that is there has no function to flatten.
other_at : (scopes : List Contents) (p : ℕ) (t v : DefType) → slice_get (last_of scopes).types p ≡ Some t → v ≡ t → IsOther v
    → false ≡ is_scalar_type (own_scope scopes).types p
other_at scopes p t v h e other = sym (type_at scopes p t h ∙ not_scalar t (subst IsOther e other))

pub returns-in-Defined : goal.returns-in-Defined
returns-in-Defined c = other_at c.args.scopes.now c.args.ty c.get.result.now.value c.deref.result.now c.get.ensures.value c.deref.ensures c.in-Defined.is

pub returns-in-Defined-2 : goal.returns-in-Defined-2
returns-in-Defined-2 c = other_at c.args.scopes.now c.args.ty c.get.result.now.value c.deref.result.now c.get.ensures.value c.deref.ensures c.in-Defined.is

pub returns-in-Defined-3 : goal.returns-in-Defined-3
returns-in-Defined-3 c = other_at c.args.scopes.now c.args.ty c.get.result.now.value c.deref.result.now c.get.ensures.value c.deref.ensures c.in-Defined.is
