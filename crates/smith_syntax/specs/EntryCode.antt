-- A code of types, by which proofs distinguish them.
use Rattle.std.specs.Prelude.{◌≡◌, ℕ, List}
use Rattle.std.specs.Coded.{Coded, coded_ℕ, coded_list, codes}
use Rattle.std.proofs.Common.{arith, refl, ap}
use base.Stored.{Gv, gnil, gnum, gcons, num}
use Rattle.smith_syntax.specs.Entries.{DefValType, Signature, CoreEntry, Entry, defined, function, component_type, instance_type}
use Rattle.smith_syntax.specs.Entries.{Decl, Decls, core_type_decl, type_decl, type_alias, core_type_alias, import_decl, export_decl, no_decls, then_decls}
use Rattle.smith_syntax.specs.declared.deftype.ComponentTypeRef.{ComponentTypeRef}

name_code : Coded (List ℕ)
name_code = coded_list coded_ℕ

defined_code : Coded DefValType
defined_code = Prim.hlevel codes

signature_code : Coded Signature
signature_code = Prim.hlevel codes

core_entry_code : Coded CoreEntry
core_entry_code = Prim.hlevel codes

ref_code : Coded ComponentTypeRef
ref_code = Prim.hlevel codes

-- the parts of a pair
abbrev pub front : Gv → Gv
front gnil = gnil
front (gnum n) = gnil
front (gcons a b) = a

abbrev pub back : Gv → Gv
back gnil = gnil
back (gnum n) = gnil
back (gcons a b) = b

abbrev mutual
  code_entry : Entry → Gv
  code_entry (defined t) = gcons (gnum 0) (defined_code.code t)
  code_entry (function s) = gcons (gnum 1) (signature_code.code s)
  code_entry (component_type ds) = gcons (gnum 2) (code_decls ds)
  code_entry (instance_type ds) = gcons (gnum 3) (code_decls ds)

  code_decl : Decl → Gv
  code_decl (core_type_decl t k) = gcons (gnum 0) (core_entry_code.code t)
  code_decl (type_decl e) = gcons (gnum 1) (code_entry e)
  code_decl (type_alias count i k) = gcons (gnum 2) (gcons (gnum count) (gnum i))
  code_decl (core_type_alias count i k) = gcons (gnum 3) (gcons (gnum count) (gnum i))
  code_decl (import_decl name n r) = gcons (gnum 4) (gcons (name_code.code name) (ref_code.code r))
  code_decl (export_decl name n r) = gcons (gnum 5) (gcons (name_code.code name) (ref_code.code r))

  code_decls : Decls → Gv
  code_decls no_decls = gnil
  code_decls (then_decls d ds) = gcons (code_decl d) (code_decls ds)

mutual
  entry_inj : (x y : Entry) → code_entry x ≡ code_entry y → x ≡ y
  entry_inj (defined t) (defined u) e = ap defined (defined_code.inj t u (ap back e))
  entry_inj (function s) (function t) e = ap function (signature_code.inj s t (ap back e))
  entry_inj (component_type ds) (component_type es) e = ap component_type (decls_inj ds es (ap back e))
  entry_inj (instance_type ds) (instance_type es) e = ap instance_type (decls_inj ds es (ap back e))
  entry_inj x y e = let c = ap (λ g. num (front g)) e in absurd (omega arith)

  decl_inj : (x y : Decl) → code_decl x ≡ code_decl y → x ≡ y
  decl_inj (core_type_decl t k) (core_type_decl u l) e = λ i. core_type_decl (core_entry_code.inj t u (ap back e) i) tt
  decl_inj (type_decl t) (type_decl u) e = ap type_decl (entry_inj t u (ap back e))
  decl_inj (type_alias c n k) (type_alias d m l) e = λ i. type_alias (num (front (back (e i)))) (num (back (back (e i)))) tt
  decl_inj (core_type_alias c n k) (core_type_alias d m l) e = λ i. core_type_alias (num (front (back (e i)))) (num (back (back (e i)))) tt
  decl_inj (import_decl a n r) (import_decl b m s) e =
      λ i. import_decl (name_code.inj a b (ap (λ g. front (back g)) e) i) tt (ref_code.inj r s (ap (λ g. back (back g)) e) i)
  decl_inj (export_decl a n r) (export_decl b m s) e =
      λ i. export_decl (name_code.inj a b (ap (λ g. front (back g)) e) i) tt (ref_code.inj r s (ap (λ g. back (back g)) e) i)
  decl_inj x y e = let c = ap (λ g. num (front g)) e in absurd (omega arith)

  decls_inj : (x y : Decls) → code_decls x ≡ code_decls y → x ≡ y
  decls_inj no_decls no_decls e = refl
  decls_inj (then_decls d ds) (then_decls c es) e = λ i. then_decls (decl_inj d c (ap front e) i) (decls_inj ds es (ap back e) i)
  decls_inj no_decls (then_decls c es) e = cc
  decls_inj (then_decls d ds) no_decls e = cc

pub entry_code : Coded Entry
entry_code = record { code = code_entry; inj = entry_inj }
