-- Types that have no encoding.
use Rattle.std.proofs.Common.{◌≡◌, ℕ, ◌⊎◌, ◌↔◌, Bool, true, false, List, [], ◌∷◌, refl, Some, None, Option}
use Rattle.smith_format.specs.CoreTypes.{core_function}
use Rattle.smith_format.specs.Entities.{entity}
use Rattle.smith_format.specs.Piece.{◌⊕◌, bytes, u, text, many}
use Rattle.smith_format.specs.TooLong.{IsTooLarge, ListTooLong}
use Rattle.smith_format.proofs.Sizes.{u_none_where, s_index_none_where}
use Rattle.smith_format.proofs.TooLong.{join_none, after_bytes, before_bytes, bytes_none, name_none, many_none_where, function_none_where, entity_none_where}
use Rattle.smith_syntax.specs.Entries.{DefValType, primitive_type, record_type, variant_type, list_type, tuple_type, flags_type, enum_type, option_type}
use Rattle.smith_syntax.specs.Entries.{result_type}
use Rattle.smith_syntax.specs.Entries.{Field, Case, Signature, Entry, defined, function, component_type, instance_type, CoreEntry, core_func, core_module}
use Rattle.smith_syntax.specs.Entries.{ModuleDecl, imports, declares, aliases, exports}
use Rattle.smith_syntax.specs.Entries.{ImportEntry, Decl, Decls, core_type_decl, type_decl, type_alias, core_type_alias, import_decl, export_decl, no_decls}
use Rattle.smith_syntax.specs.Entries.{then_decls, decl_count}
use Rattle.smith_syntax.specs.Grammar.{primvaltype, valtype, maybe_valtype, labelvaltype, case, resultlist, defvaltype, functype, moduledecl, core_entry}
use Rattle.smith_syntax.specs.Grammar.{externdesc, named_extern, importdecl, import_entry, entry, decl, decls}
use Rattle.smith_syntax.specs.TooLong.{ComponentValTooLong, MaybeTooLong, FieldTooLong, CaseTooLong, DefinedTooLong, DeclTooLong, CoreEntryTooLong}
use Rattle.smith_syntax.specs.TooLong.{TypeRefTooLong}
use Rattle.smith_syntax.specs.TooLong.{ExternTooLong, ImportEntryTooLong, ImportDeclTooLong, EntryTooLong, DeclarationTooLong, DeclarationsTooLong}
use Rattle.smith_syntax.specs.declared.deftype.ComponentTypeRef.{ComponentTypeRef}
use Rattle.smith_syntax.specs.declared.deftype.ComponentTypeRef.TheVariants as to
use Rattle.smith_syntax.specs.declared.types.ComponentValType.{ComponentValType}
use Rattle.smith_syntax.specs.declared.types.ComponentValType.TheVariants.{Primitive, Indexed}

val_none : (v : ComponentValType) → (valtype v ≡ None) ↔ ComponentValTooLong v
val_none (Primitive p) = bytes_none (primvaltype p ∷ [])
val_none (Indexed i) = s_index_none_where i

maybe_none : (v : Option ComponentValType) → (maybe_valtype v ≡ None) ↔ MaybeTooLong v
maybe_none None = bytes_none (0 ∷ [])
maybe_none (Some v) = after_bytes (1 ∷ []) (valtype v) (val_none v)

result_none : (v : Option ComponentValType) → (resultlist v ≡ None) ↔ MaybeTooLong v
result_none None = bytes_none (1 ∷ 0 ∷ [])
result_none (Some v) = after_bytes (0 ∷ []) (valtype v) (val_none v)

field_none : (f : Field) → (labelvaltype f ≡ None) ↔ FieldTooLong f
field_none f = join_none (text f.0) (valtype f.1) (name_none f.0) (val_none f.1)

case_none : (c : Case) → (case c ≡ None) ↔ CaseTooLong c
case_none c = join_none (text c.0) _ (name_none c.0) (before_bytes (maybe_valtype c.1) (0 ∷ []) (maybe_none c.1))

defined_none : (t : DefValType) → (defvaltype t ≡ None) ↔ DefinedTooLong t
defined_none (primitive_type p) = bytes_none (primvaltype p ∷ [])
defined_none (record_type fs) = after_bytes (0x72 ∷ []) (many labelvaltype fs) (many_none_where labelvaltype field_none fs)
defined_none (variant_type cs) = after_bytes (0x71 ∷ []) (many case cs) (many_none_where case case_none cs)
defined_none (list_type v) = after_bytes (0x70 ∷ []) (valtype v) (val_none v)
defined_none (tuple_type vs) = after_bytes (0x6f ∷ []) (many valtype vs) (many_none_where valtype val_none vs)
defined_none (flags_type ns) = after_bytes (0x6e ∷ []) (many text ns) (many_none_where text name_none ns)
defined_none (enum_type ns) = after_bytes (0x6d ∷ []) (many text ns) (many_none_where text name_none ns)
defined_none (option_type v) = after_bytes (0x6b ∷ []) (valtype v) (val_none v)
defined_none (result_type ok err) = after_bytes (0x6a ∷ []) (maybe_valtype ok ⊕ maybe_valtype err)
    (join_none (maybe_valtype ok) (maybe_valtype err) (maybe_none ok) (maybe_none err))

decl_none : (d : ModuleDecl) → (moduledecl d ≡ None) ↔ DeclTooLong d
decl_none (imports m n e) = after_bytes (0 ∷ []) (text m ⊕ text n ⊕ entity e)
    (join_none (text m) (text n ⊕ entity e) (name_none m) (join_none (text n) (entity e) (name_none n) (entity_none_where e)))
decl_none (declares f) = after_bytes (1 ∷ []) (core_function f) (function_none_where f)
decl_none (aliases count i) = after_bytes (0x02 ∷ 0x10 ∷ 0x01 ∷ []) (u count ⊕ u i) (join_none (u count) (u i) (u_none_where count) (u_none_where i))
decl_none (exports n e) = after_bytes (3 ∷ []) (text n ⊕ entity e) (join_none (text n) (entity e) (name_none n) (entity_none_where e))

pub core_entry_none : (e : CoreEntry) → (core_entry e ≡ None) ↔ CoreEntryTooLong e
core_entry_none (core_func f) = function_none_where f
core_entry_none (core_module ds) = after_bytes (0x50 ∷ []) (many moduledecl ds) (many_none_where moduledecl decl_none ds)

function_type_none : (s : Signature) → (functype s ≡ None) ↔ (ListTooLong FieldTooLong s.params ⊎ MaybeTooLong s.result)
function_type_none s =
    after_bytes (0x40 ∷ []) (many labelvaltype s.params ⊕ resultlist s.result)
    (join_none (many labelvaltype s.params) (resultlist s.result) (many_none_where labelvaltype field_none s.params) (result_none s.result))

ref_none : (r : ComponentTypeRef) → (externdesc r ≡ None) ↔ TypeRefTooLong r
ref_none (to.Module i) = after_bytes (0x00 ∷ 0x11 ∷ []) (u i) (u_none_where i)
ref_none (to.Func i) = after_bytes (0x01 ∷ []) (u i) (u_none_where i)
ref_none (to.TypeEq i) = after_bytes (0x03 ∷ 0x00 ∷ []) (u i) (u_none_where i)
ref_none (to.Component i) = after_bytes (0x04 ∷ []) (u i) (u_none_where i)
ref_none (to.Instance i) = after_bytes (0x05 ∷ []) (u i) (u_none_where i)

pub extern_none : (name : List ℕ) (r : ComponentTypeRef) → (named_extern name r ≡ None) ↔ ExternTooLong name r
extern_none name r = after_bytes (0x00 ∷ []) (text name ⊕ externdesc r) (join_none (text name) (externdesc r) (name_none name) (ref_none r))

pub import_entry_none : (i : ImportEntry) → (import_entry i ≡ None) ↔ ImportEntryTooLong i
import_entry_none i = extern_none i.name i.to

import_none : (importing : Bool) (name : List ℕ) (r : ComponentTypeRef) → (importdecl importing name r ≡ None) ↔ ImportDeclTooLong importing name r
import_none true name r = after_bytes (0x03 ∷ []) (named_extern name r) (extern_none name r)
import_none false name r = (λ _. tt, λ _. refl)

-- an outer alias, after the bytes that say what it is of
alias_none : (first : List ℕ) (count i : ℕ) → (bytes first ⊕ u count ⊕ u i ≡ None) ↔ (IsTooLarge count ⊎ IsTooLarge i)
alias_none first count i = after_bytes first (u count ⊕ u i) (join_none (u count) (u i) (u_none_where count) (u_none_where i))

mutual
  pub entry_none : (e : Entry) → (entry e ≡ None) ↔ EntryTooLong e
  entry_none (defined t) = defined_none t
  entry_none (function s) = function_type_none s
  entry_none (component_type ds) = after_bytes (0x41 ∷ []) (u (decl_count ds) ⊕ decls true ds)
      (join_none (u (decl_count ds)) (decls true ds) (u_none_where (decl_count ds)) (declarations_none true ds))
  entry_none (instance_type ds) = after_bytes (0x42 ∷ []) (u (decl_count ds) ⊕ decls false ds)
      (join_none (u (decl_count ds)) (decls false ds) (u_none_where (decl_count ds)) (declarations_none false ds))

  declaration_none : (importing : Bool) (d : Decl) → (decl importing d ≡ None) ↔ DeclarationTooLong importing d
  declaration_none importing (core_type_decl t k) = after_bytes (0x00 ∷ []) (core_entry t) (core_entry_none t)
  declaration_none importing (type_decl e) = after_bytes (0x01 ∷ []) (entry e) (entry_none e)
  declaration_none importing (type_alias count i k) = alias_none (0x02 ∷ 0x03 ∷ 0x02 ∷ []) count i
  declaration_none importing (core_type_alias count i k) = alias_none (0x02 ∷ 0x00 ∷ 0x10 ∷ 0x02 ∷ []) count i
  declaration_none importing (import_decl name n r) = import_none importing name r
  declaration_none importing (export_decl name n r) = after_bytes (0x04 ∷ []) (named_extern name r) (extern_none name r)

  declarations_none : (importing : Bool) (ds : Decls) → (decls importing ds ≡ None) ↔ DeclarationsTooLong importing ds
  declarations_none importing no_decls = bytes_none []
  declarations_none importing (then_decls d ds) = join_none (decl importing d) (decls importing ds) (declaration_none importing d)
      (declarations_none importing ds)
