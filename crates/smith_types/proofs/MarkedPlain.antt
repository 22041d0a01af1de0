-- A declaration and its plain tree import and export the same names, and leave the same scope with the same marks, whose plain part is
-- the plain scope after it.
use Rattle.std.proofs.Common.{◌≡◌, List, ◌∷◌, refl, ap, ◌∙◌}
use Rattle.smith_syntax.specs.Entries.{EntryOf, DeclOf, DeclsOf, defined, function, component_type, instance_type, type_decl, import_decl, export_decl}
use Rattle.smith_syntax.specs.Entries.{no_decls, then_decls, plain, plain_decl, plain_decls}
use Rattle.smith_syntax.specs.Marked.{Marked, empty_marked, mark, marked_after, marked_after_all, scope_in, scopes_in_marked, with_marked}
use Rattle.smith_syntax.specs.Marks.{closed_mark}
use Rattle.smith_syntax.specs.Scope.{after_decl}
use Rattle.smith_syntax.specs.WellFormed.{names, import_of, export_of}
use Rattle.smith_syntax.specs.declared.marks.Reach.TheVariants.{Everywhere}

module _ {N K : Type 0} where
  -- A plain tree of a plain tree is that tree.
  mutual
    pub plain_twice : (e : EntryOf N K) → plain (plain e) ≡ plain e
    plain_twice (defined t) = refl
    plain_twice (function s) = refl
    plain_twice (component_type ds) = ap component_type (decls_twice ds)
    plain_twice (instance_type ds) = ap instance_type (decls_twice ds)

    decl_twice : (d : DeclOf N K) → plain_decl (plain_decl d) ≡ plain_decl d
    decl_twice (type_decl e) = ap type_decl (plain_twice e)
    decl_twice d = refl

    decls_twice : (ds : DeclsOf N K) → plain_decls (plain_decls ds) ≡ plain_decls ds
    decls_twice no_decls = refl
    decls_twice (then_decls d ds) = λ i. then_decls (decl_twice d i) (decls_twice ds i)

  mutual
    pub mark_plain : (e : EntryOf N K) (own : Marked) (outer : List Marked) → mark (plain e) own outer ≡ mark e own outer
    mark_plain (defined t) own outer = refl
    mark_plain (function s) own outer = refl
    mark_plain (component_type ds) own outer = ap (λ s. closed_mark Everywhere s.size) (all_plain ds (own ∷ outer) (empty_marked own.keeps))
    mark_plain (instance_type ds) own outer = ap (λ s. closed_mark s.exported s.size) (all_plain ds (own ∷ outer) (empty_marked own.keeps))

    pub after_plain : (outer : List Marked) (own : Marked) (d : DeclOf N K) → marked_after (plain_decl d) outer own ≡ marked_after d outer own
    after_plain outer own (type_decl e) = λ i. with_marked own (plain_twice e i) (mark_plain e own outer i)
    after_plain outer own d = refl

    all_plain : (ds : DeclsOf N K) (outer : List Marked) (own : Marked) → marked_after_all (plain_decls ds) outer own ≡ marked_after_all ds outer own
    all_plain no_decls outer own = refl
    all_plain (then_decls d ds) outer own =
        all_plain ds outer (marked_after (plain_decl d) outer own) ∙ ap (λ s. marked_after_all ds outer s) (after_plain outer own d)

  pub scope_after : (outer : List Marked) (own : Marked) (d : DeclOf N K)
      → scope_in (marked_after d outer own) ≡ after_decl (scopes_in_marked outer) (scope_in own) d
  scope_after outer own (type_decl e) = refl
  scope_after outer own d = refl

  pub import_plain : (d : DeclOf N K) → names (import_of (plain_decl d)) ≡ names (import_of d)
  import_plain (import_decl name n r) = refl
  import_plain d = refl

  pub export_plain : (d : DeclOf N K) → names (export_of (plain_decl d)) ≡ names (export_of d)
  export_plain (export_decl name n r) = refl
  export_plain d = refl
