-- What is well formed is possible.
use Rattle.std.proofs.Common.{◌≡◌, ◌⊎◌, inl, inr, ⊎_elim, ℕ, zero, suc, ◌≤◌, Bool, true, false, List, [], ◌∷◌, ◌++◌, length, map, Option, Some, None}
use Rattle.std.proofs.Common.{refl, sym, ap, ◌∙◌, subst, arith}
use Rattle.std.proofs.Common.{append-nil}
use Rattle.std.specs.List.{AllByRecursion}
use Rattle.std.specs.Option.{option_to_list}
use Rattle.std.specs.Prelude.{IfSome, slice_get}
use Rattle.smith_format.specs.CoreFormed.{FormedLimits, FormedMemory, FormedTable}
use Rattle.smith_format.specs.CoreTypes.{Function}
use Rattle.smith_format.specs.declared.types.EntityType.{EntityType}
use Rattle.smith_format.specs.declared.types.EntityType.TheVariants.{Func, Global, Memory, Table, Tag}
use Rattle.smith_format.specs.declared.types.MemoryType.{MemoryType}
use Rattle.smith_format.specs.declared.types.TableType.{TableType}
use Rattle.smith_input.specs.Kebab.{Kebab}
use Rattle.smith_syntax.specs.Entries.{CoreEntry, Decl, Decls, DefValType, Entry, ModuleDecl, aliases, component_type, core_func, core_module, core_type_alias}
use Rattle.smith_syntax.specs.Entries.{core_type_decl, declares, defined, enum_type, export_decl, exports, flags_type, function, import_decl, imports}
use Rattle.smith_syntax.specs.Entries.{instance_type}
use Rattle.smith_syntax.specs.Entries.{list_type, no_decls, option_type, primitive_type, record_type, result_type, then_decls, tuple_type, type_alias}
use Rattle.smith_syntax.specs.Entries.{type_decl}
use Rattle.smith_syntax.specs.Entries.{variant_type}
use Rattle.smith_syntax.specs.ModuleTypes.{adds}
use Rattle.smith_syntax.specs.Possible.{PossibleCore, PossibleCores, PossibleDecl, PossibleDeclaration, PossibleDeclarations, PossibleDefined, PossibleEntity}
use Rattle.smith_syntax.specs.Possible.{PossibleEntry, PossibleLimits, PossibleMemory, PossibleModule, PossibleName, PossibleNames, PossibleTable}
use Rattle.smith_syntax.specs.Possible.{PossibleTypes}
use Rattle.smith_syntax.specs.Possible.{after_possible, is_beyond}
use Rattle.smith_syntax.specs.Scope.{Scope, after_decl, exported_type, with_core_type, with_type, with_types}
use Rattle.smith_syntax.specs.WellFormed.{FormedCore, FormedCores, FormedDecl, FormedDeclaration, FormedDeclarations, FormedDecls, FormedDefined, FormedEntity}
use Rattle.smith_syntax.specs.WellFormed.{FormedEntry, FormedTypes, Named, is_type_eq}
use Rattle.smith_syntax.specs.declared.deftype.ComponentTypeRef.{ComponentTypeRef}
use Rattle.smith_syntax.specs.declared.deftype.ComponentTypeRef.TheVariants as to
use Rattle.smith_syntax.proofs.Labels.{kebab_label}

-- ---- names

pub kebab_possible : (extern : Bool) (cs : List ℕ) → Kebab cs → PossibleName extern cs
kebab_possible extern cs k = inl (kebab_label cs k)

all_possible : (extern : Bool) (ns : List (List ℕ)) → AllByRecursion Kebab ns → AllByRecursion (PossibleName extern) ns
all_possible extern [] a = tt
all_possible extern (n ∷ ns) a = (kebab_possible extern n a.0, all_possible extern ns a.1)

pub named_possible : (extern : Bool) (ns : List (List ℕ)) → Named ns → PossibleNames extern ns
named_possible extern ns n = (all_possible extern ns n.0, n.1)

-- ---- core types

limits_possible : (top minimum : ℕ) (wide : Bool) (maximum : Option ℕ) → 20 ≤ top → FormedLimits minimum maximum → PossibleLimits top wide minimum maximum
limits_possible top minimum wide None h f = (tt, λ w. (let least = f.least in omega (arith, least, h), tt))
limits_possible top minimum wide (Some n) h f =
    (f.most.0, λ w. (let least = f.least in omega (arith, least, h), let most = f.most.1 in omega (arith, most, h)))

pub memory_possible : (m : MemoryType) → FormedMemory m → PossibleMemory m
memory_possible m f =
    (limits_possible 65536 m.minimum m.memory64 m.maximum (omega arith) f.limits, λ s. let z : false ≡ true = sym f.shared ∙ s in absurd cc)

pub table_possible : (t : TableType) → FormedTable true t → PossibleTable t
table_possible t f = limits_possible 4294967295 t.minimum t.table64 t.maximum (omega arith) f.limits

pub entity_possible : (own : List Function) (e : EntityType) → FormedEntity own e → PossibleEntity own e
entity_possible own (Func i) f = f
entity_possible own (Table t) f = table_possible t f
entity_possible own (Memory m) f = memory_possible m f
entity_possible own (Global g) f = tt
entity_possible own (Tag t) f = (f.0, f.1)

pub decl_possible : (around : List CoreEntry) (far : ℕ) (own : List Function) (d : ModuleDecl) → FormedDecl around own d → PossibleDecl around far own d
decl_possible around far own (imports m n e) f = entity_possible own e f
decl_possible around far own (declares g) f = tt
decl_possible around far own (aliases zero i) f = f
decl_possible around far own (aliases (suc zero) i) f = f
decl_possible around far own (aliases (suc (suc n)) i) f = absurd (let z : None ≡ Some f.0 = f.1 in cc)
decl_possible around far own (exports n e) f = entity_possible own e f

-- what is well formed names no scope beyond the one around it
pub never_beyond : (around : List CoreEntry) (own : List Function) (d : ModuleDecl) → FormedDecl around own d → is_beyond d ≡ false
never_beyond around own (aliases (suc (suc n)) i) f = absurd (let z : None ≡ Some f.0 = f.1 in cc)
never_beyond around own (aliases (suc zero) i) f = refl
never_beyond around own (aliases zero i) f = refl
never_beyond around own (imports m n e) f = refl
never_beyond around own (declares g) f = refl
never_beyond around own (exports n e) f = refl

module_possible : (around : List CoreEntry) (far : ℕ) (own : List Function) (ds : List ModuleDecl)
    → FormedDecls around own ds → PossibleModule around far own ds
module_possible around far own [] f = tt
module_possible around far own (d ∷ ds) f =
    (decl_possible around far own d f.0, λ b. module_possible around far (own ++ adds around own d) ds f.1)

pub core_possible : (e : CoreEntry) (around : List CoreEntry) (far : ℕ) → FormedCore e around → PossibleCore e around far
core_possible (core_func g) around far f = tt
core_possible (core_module ds) around far f = (module_possible around far [] ds f.0, f.1)

pub cores_possible : (es : List CoreEntry) (own : Scope) (far : ℕ) → FormedCores es own → PossibleCores es own far
cores_possible [] own far f = tt
cores_possible (e ∷ es) own far f = (core_possible e own.core_types far f.0, cores_possible es (with_core_type own e) far f.1)

-- ---- types

pub defined_possible : (t : DefValType) (own : Scope) → FormedDefined t own → PossibleDefined t own
defined_possible (primitive_type p) own f = tt
defined_possible (record_type fs) own f = (named_possible false (map (λ x. x.0) fs) f.0, f.1, f.2)
defined_possible (variant_type cs) own f = (named_possible false (map (λ x. x.0) cs) f.0, f.1, f.2)
defined_possible (list_type v) own f = f
defined_possible (tuple_type vs) own f = (f.0, f.1)
defined_possible (flags_type ns) own f = (named_possible false ns f.0, f.1, f.2)
defined_possible (enum_type ns) own f = (named_possible false ns f.0, f.1)
defined_possible (option_type v) own f = f
defined_possible (result_type ok err) own f = f

pub own_same : (own : Scope) → with_types own [] ≡ own
own_same own = ap (λ ts. record own { types = ts }) (append-nil own.types)

-- An import that is well formed is of no type, so that it adds none.
pub adds_none : (own : Scope) (r : ComponentTypeRef) → is_type_eq r ≡ false → exported_type own r ≡ None
adds_none own (to.Module i) e = refl
adds_none own (to.Func i) e = refl
adds_none own (to.TypeEq i) e = absurd (let z : true ≡ false = e in cc)
adds_none own (to.Component i) e = refl
adds_none own (to.Instance i) e = refl

-- what precedes the next declaration
pub after_same : (d : Decl) (own : Scope) (outer : List Scope) → FormedDeclaration d own outer → after_possible outer own d ≡ after_decl outer own d
after_same (core_type_decl t k) own outer f = refl
after_same (type_decl e) own outer f = refl
after_same (type_alias count i k) own outer f = refl
after_same (core_type_alias count i k) own outer f = refl
after_same (import_decl name n r) own outer f = ap (λ t. with_types own (option_to_list t)) (adds_none own r f.1) ∙ own_same own
after_same (export_decl name n r) own outer f = refl

mutual
  pub entry_possible : (e : Entry) (own : Scope) (outer : List Scope) → FormedEntry e own outer → PossibleEntry e own outer
  entry_possible (defined t) own outer f = defined_possible t own f
  entry_possible (function s) own outer f = (named_possible false (map (λ p. p.0) s.params) f.0, f.1, f.3)
  entry_possible (component_type ds) own outer f =
      (declarations_possible ds _ (own ∷ outer) f.0, named_possible true _ f.1, named_possible true _ f.2)
  entry_possible (instance_type ds) own outer f = (declarations_possible ds _ (own ∷ outer) f.0, f.1, named_possible true _ f.2)

  pub declaration_possible : (d : Decl) (own : Scope) (outer : List Scope) → FormedDeclaration d own outer → PossibleDeclaration d own outer
  declaration_possible (core_type_decl t k) own outer f = core_possible t own.core_types (length outer) f
  declaration_possible (type_decl e) own outer f = entry_possible e own outer f
  declaration_possible (type_alias count i k) own outer f = f
  declaration_possible (core_type_alias count i k) own outer f = f
  declaration_possible (import_decl name n r) own outer f = f.0
  declaration_possible (export_decl name n r) own outer f = f

  declarations_possible : (ds : Decls) (own : Scope) (outer : List Scope) → FormedDeclarations ds own outer → PossibleDeclarations ds own outer
  declarations_possible no_decls own outer f = tt
  declarations_possible (then_decls d ds) own outer f = (
    declaration_possible d own outer f.0,
    subst (λ s. PossibleDeclarations ds s outer) (sym (after_same d own outer f.0)) (declarations_possible ds (after_decl outer own d) outer f.1),
  )

pub types_possible : (es : List Entry) (own : Scope) (outer : List Scope) → FormedTypes es own outer → PossibleTypes es own outer
types_possible [] own outer f = tt
types_possible (e ∷ es) own outer f = (entry_possible e own outer f.0, types_possible es (with_type own e) outer f.1)
