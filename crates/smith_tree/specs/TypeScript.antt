-- The input that a type is read from: what a script says of it.
use Rattle.std.specs.Prelude.{ℕ, ◌+◌, ◌-◌, Bool, true, false, ◌&&◌, List, [], ◌∷◌, ◌++◌, length, Option, Some, None, slice_get}
use Rattle.std.specs.Prelude.{nat_eq, nat_le, if◌then◌else◌}
use Rattle.std.specs.Option.{option_to_list}
use Rattle.smith_input.specs.NameScript.{script_new}
use Rattle.smith_input.specs.Script.{script_among, script_end, script_loop, pick}
use Rattle.smith_tree.specs.CoreTypeScript.{script_core}
use Rattle.smith_format.specs.declared.config.Config.{Config}
use Rattle.smith_syntax.specs.Entries.{DefValType, primitive_type, record_type, variant_type, list_type, tuple_type, flags_type, enum_type, option_type}
use Rattle.smith_syntax.specs.Entries.{result_type, Field, Case, Signature, Entry, defined, function, component_type, instance_type}
use Rattle.smith_syntax.specs.Entries.{Decl, Decls, core_type_decl, type_decl, type_alias, core_type_alias, import_decl, export_decl, no_decls}
use Rattle.smith_syntax.specs.Entries.{then_decls}
use Rattle.smith_syntax.specs.Marked.{Marked, empty_marked, marked_after, scope_in}
use Rattle.smith_syntax.specs.Usable.{value_places}
use Rattle.smith_syntax.specs.WellFormed.{import_of, export_of}
use Rattle.smith_syntax.specs.declared.deftype.ComponentTypeRef.{ComponentTypeRef}
use Rattle.smith_syntax.specs.declared.deftype.ComponentTypeRef.TheVariants as to
use Rattle.smith_tree.specs.TypeNeeds.{decl_cost}
use Rattle.smith_tree.specs.TypeOffers.{has_reference, occupied, aliases_of, declaration_items, ref_kinds, ref_places, uncounted}
use Rattle.smith_tree.specs.contracts.choices.DeclarationItemPartialEq.TheImpl.{ghosts as items}
use Rattle.smith_tree.specs.contracts.choices.RefKindPartialEq.TheImpl.{ghosts as refs}
use Rattle.smith_tree.specs.declared.choices.DeclarationItem.{DeclarationItem}
use Rattle.smith_tree.specs.declared.choices.DeclarationItem.TheVariants as item
use Rattle.smith_tree.specs.declared.choices.RefKind.{RefKind}
use Rattle.smith_tree.specs.declared.choices.RefKind.TheVariants as ref
use Rattle.smith_tree.specs.declared.totals.RefTotals.{RefTotals}
use Rattle.smith_tree.specs.contracts.choices.TypeKindPartialEq.TheImpl.{ghosts as types}
use Rattle.smith_tree.specs.contracts.choices.DefinedKindPartialEq.TheImpl.{ghosts as kinds}
use Rattle.smith_syntax.specs.contracts.types.PrimitiveValTypePartialEq.TheImpl.{ghosts as prims}
use Rattle.smith_tree.specs.declared.choices.TypeKind.{TypeKind}
use Rattle.smith_tree.specs.declared.choices.TypeKind.TheVariants.{Defined, Function, Component, Instance}
use Rattle.smith_tree.specs.declared.choices.DefinedKind.{DefinedKind}
use Rattle.smith_tree.specs.declared.choices.DefinedKind.TheVariants as kind
use Rattle.smith_syntax.specs.declared.types.ComponentValType.{ComponentValType}
use Rattle.smith_syntax.specs.declared.types.ComponentValType.TheVariants.{Primitive, Indexed}
use Rattle.smith_syntax.specs.declared.types.PrimitiveValType.{PrimitiveValType}
use Rattle.smith_tree.specs.TypeOffers.{primitives, defined_kinds, type_kinds, lifted}
use Rattle.smith_syntax.specs.Flat.{flat_primitive}

-- that a value type is primitive, if it may be an indexed one
abbrev pub script_either : ℕ → List ℕ
script_either count = if nat_eq count 0 then [] else pick 2 0

abbrev pub script_primitive : PrimitiveValType → List ℕ
script_primitive p = script_among prims.eq primitives p

abbrev pub script_val : Marked → ComponentValType → List ℕ
script_val own (Primitive p) = script_either (length (value_places own)) ++ script_primitive p
script_val own (Indexed i) = pick 2 1 ++ script_among nat_eq (value_places own) i

abbrev pub script_maybe : Marked → Option ComponentValType → List ℕ
script_maybe own None = 0 ∷ []
script_maybe own (Some v) = 1 ∷ script_val own v

-- a name of which at most so many bytes are read as the limits allow, after that many names
abbrev pub script_label : Config → ℕ → List ℕ → List ℕ
script_label config count n = script_new config.max_name_length count n

abbrev pub script_field : Config → Marked → ℕ → Field → List ℕ
script_field config own count f = script_label config count f.0 ++ script_val own f.1

abbrev pub script_case : Config → Marked → ℕ → Case → List ℕ
script_case config own count c = script_label config count c.0 ++ script_maybe own c.1

-- members, each of which has a script after that many before it
abbrev pub script_members : {A : Type 0} → (ℕ → A → List ℕ) → ℕ → ℕ → List A → List ℕ
script_members f min max xs = script_loop f (λ count x. count + 1) min max 0 0 xs

abbrev pub script_kind : DefinedKind → List ℕ
script_kind k = script_among kinds.eq defined_kinds k

abbrev pub script_defined : Config → Marked → DefValType → List ℕ
script_defined config own (primitive_type p) = script_kind kind.Primitive ++ script_primitive p
script_defined config own (record_type fs) = script_kind kind.Record ++ script_members (script_field config own) 1 100 fs
script_defined config own (variant_type cs) = script_kind kind.Variant ++ script_members (script_case config own) 1 100 cs
script_defined config own (list_type v) = script_kind kind.List ++ script_val own v
script_defined config own (tuple_type vs) = script_kind kind.Tuple ++ script_members (λ count v. script_val own v) 1 100 vs
script_defined config own (flags_type ns) = script_kind kind.Flags ++ script_members (script_label config) 1 32 ns
script_defined config own (enum_type ns) = script_kind kind.Enum ++ script_members (script_label config) 1 100 ns
script_defined config own (option_type v) = script_kind kind.Option ++ script_val own v
script_defined config own (result_type ok err) = script_kind kind.Result ++ (script_maybe own ok ++ script_maybe own err)

-- the parameters, and then the result or none
abbrev pub script_signature : Config → Marked → Signature → List ℕ
script_signature config own s = script_members (script_field config own) 0 16 s.params
    ++ script_members (λ count v. script_val own v) 0 1 (option_to_list s.result)

abbrev pub script_type_kind : TypeKind → List ℕ
script_type_kind k = script_among types.eq type_kinds k

-- a primitive among the ones that flatten as it does
abbrev pub script_scalar : ComponentValType → List ℕ
script_scalar (Primitive p) = elim (flat_primitive p) [ None ↦ [] | Some v ↦ script_among prims.eq (lifted v) p ]
script_scalar (Indexed i) = []

-- parameters after that many
abbrev pub script_params : Config → ℕ → List Field → List ℕ
script_params config count [] = []
script_params config count (f ∷ fs) = script_label config count f.0 ++ (script_scalar f.1 ++ script_params config (count + 1) fs)

abbrev pub script_result : Option ComponentValType → List ℕ
script_result None = []
script_result (Some v) = script_scalar v

-- the signature of a function type that is lifted: a name and a primitive for each parameter, and a primitive for the result
abbrev pub script_lifted : Config → Signature → List ℕ
script_lifted config s = script_params config 0 s.params ++ script_result s.result

-- the kind of a reference, and its index
abbrev pub kind_in : ComponentTypeRef → RefKind
kind_in (to.Module i) = ref.Module
kind_in (to.TypeEq i) = ref.TypeEq
kind_in (to.Func i) = ref.Func
kind_in (to.Component i) = ref.Component
kind_in (to.Instance i) = ref.Instance

abbrev pub index_in : ComponentTypeRef → ℕ
index_in (to.Module i) = i
index_in (to.TypeEq i) = i
index_in (to.Func i) = i
index_in (to.Component i) = i
index_in (to.Instance i) = i

-- what an import or an export is of: a choice of a kind, and of an entry of that kind
abbrev pub script_ref : Config → Marked → RefTotals → Bool → Bool → ComponentTypeRef → List ℕ
script_ref config own totals for_import for_type_def r =
    script_among refs.eq (ref_kinds config own totals for_import for_type_def) (kind_in r)
    ++ script_among nat_eq (ref_places own for_import (kind_in r)) (index_in r)

-- a name after that many, and no URL
abbrev pub script_extern : Config → ℕ → List ℕ → List ℕ
script_extern config count name = script_label config count name ++ 0 ∷ []

-- how many imports and exports a type has declared
pub record Taken : Type 0 where
  pub imports : ℕ
  pub exports : ℕ

abbrev pub none_taken : Taken
none_taken = record { imports = 0; exports = 0 }

-- with one more declaration
abbrev pub after_taken : Taken → Decl → Taken
after_taken taken d = record { imports = taken.imports + length (import_of d); exports = taken.exports + length (export_of d) }

-- an outer alias: a choice of the scope, and of what is in it, the core types after the types
abbrev pub script_entry : ℕ → (Marked → ℕ) → Option Marked → List ℕ
script_entry count place None = []
script_entry count place (Some s) = pick (length (aliases_of count s)) (place s)

abbrev pub script_alias : List Marked → ℕ → (Marked → ℕ) → List ℕ
script_alias scopes count place = script_among nat_eq (occupied scopes) count ++ script_entry count place (slice_get scopes count)

-- that no import is declared, if one might be
abbrev pub script_no_import : Bool → Marked → List ℕ
script_no_import importing own = if importing && has_reference own then pick 4 1 else []

-- what is declared
abbrev pub script_declaration_item : Config → List Marked → Marked → DeclarationItem → List ℕ
script_declaration_item config outer own chosen = script_among items.eq (declaration_items config outer own) chosen

abbrev pub script_declares : Config → Bool → Marked → List Marked → DeclarationItem → List ℕ
script_declares config importing own outer chosen = script_no_import importing own ++ script_declaration_item config outer own chosen

-- A type with that much fuel: which of four kinds it is, if the fuel lasts, and then what it is. The fuel lasts for all
-- but a type of values.
abbrev mutual
  pub script_type : Entry → Config → ℕ → Marked → List Marked → List ℕ
  script_type (defined t) config fuel own outer = (if nat_le 2 fuel then script_type_kind Defined else []) ++ script_defined config own t
  script_type (function s) config fuel own outer = script_type_kind Function ++ script_signature config own s
  script_type (component_type ds) config fuel own outer =
      script_type_kind Component ++ script_decls ds config true (fuel - 1) 0 none_taken (empty_marked own.keeps) (own ∷ outer)
  script_type (instance_type ds) config fuel own outer =
      script_type_kind Instance ++ script_decls ds config false (fuel - 1) 0 none_taken (empty_marked own.keeps) (own ∷ outer)

  pub script_decl : Decl → Config → Bool → ℕ → Taken → Marked → List Marked → List ℕ
  script_decl (core_type_decl t k) config importing fuel taken own outer =
      script_declares config importing own outer item.CoreType ++ script_core config (scope_in own) fuel t
  script_decl (type_decl e) config importing fuel taken own outer =
      script_declares config importing own outer item.«Type» ++ script_type e config fuel own outer
  script_decl (type_alias count i k) config importing fuel taken own outer =
      script_declares config importing own outer item.Alias ++ script_alias (own ∷ outer) count (λ s. i)
  script_decl (core_type_alias count i k) config importing fuel taken own outer =
      script_declares config importing own outer item.Alias ++ script_alias (own ∷ outer) count (λ s. length s.types + i)
  script_decl (import_decl name n r) config importing fuel taken own outer =
      pick 4 0 ++ (script_ref config own uncounted true true r ++ script_extern config taken.imports name)
  script_decl (export_decl name n r) config importing fuel taken own outer =
      script_declares config importing own outer item.Export ++ (script_ref config own uncounted false true r ++ script_extern config taken.exports name)

  -- A byte asks for each declaration after that many, with these names. Each turn takes one from the fuel.
  pub script_decls : Decls → Config → Bool → ℕ → ℕ → Taken → Marked → List Marked → List ℕ
  script_decls no_decls config importing fuel done taken own outer = script_end done 100
  script_decls (then_decls d ds) config importing fuel done taken own outer =
      1 ∷ (script_decl d config importing (fuel - 1) taken own outer
      ++ script_decls ds config importing (fuel - 1 - decl_cost d) (done + 1) (after_taken taken d) (marked_after d outer own) outer)
