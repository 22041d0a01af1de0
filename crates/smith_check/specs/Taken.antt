-- The names before a place.
use Rattle.std.specs.Prelude.{◌≡◌, ℕ, Bool, true, ◌&&◌, List, map, bytes_eq}
use Rattle.std.specs.Ordering.{nat_cmp, ordering_then}
use Rattle.std.specs.BTreeSet.{contains}
use Rattle.std.specs.Borrow.{Bor}
use Rattle.std.specs.Cmp.Lexicographic.{slice_cmp}
use Rattle.std.specs.List.{flat_map, list_any}
use Rattle.smith_input.specs.NewNames.{is_among}
use Rattle.smith_syntax.specs.Entries.{Decls, ModuleDecl, in_order}
use Rattle.smith_syntax.specs.ModuleTypes.{module_export_names, module_import_of}
use Rattle.smith_syntax.specs.Possible.{PossibleNames}
use Rattle.smith_syntax.specs.WellFormed.{Named, decl_exports, decl_imports, names}
use Rattle.smith_read.specs.TypeNodes.{shown_decl_node}
use Rattle.smith_read.specs.declared.type_nodes.DeclNode.{DeclNode}
use Rattle.smith_check.specs.declared.modules.ModuleNames.{ModuleNames}
use Rattle.smith_check.specs.declared.names.Names.{Names}
use Rattle.smith_check.specs.declared.types.DeclaredNames.{DeclaredNames}

-- The set has these names, and no others.
pub record Holds (s : Names) (before : List (List ℕ)) : Type 0 where
  pub has : (q : Bor (List ℕ)) → contains (λ x y. slice_cmp nat_cmp x.now y.now) s.set q ≡ is_among before q.now

-- The set has these names, which are well named, and no others.
pub record Knows (s : Names) (before : List (List ℕ)) : Type 0 where
  pub holds : Holds s before
  pub named : Named before

-- whether that name is imported from that module
abbrev pub has_pair : ModuleNames → Bor (List ℕ) → Bor (List ℕ) → Bool
has_pair s m n =
    contains (λ x y. ordering_then (slice_cmp nat_cmp x.0.now y.0.now) (slice_cmp nat_cmp x.1.now y.1.now)) s.imports (m, n)

-- The sets have the names of these declarations of a module type, and no others.
pub record HoldsModule (s : ModuleNames) (before : List ModuleDecl) : Type 0 where
  pub imports : (m n : Bor (List ℕ)) → has_pair s m n
      ≡ list_any (λ i. bytes_eq i.0 m.now && bytes_eq i.1 n.now) (flat_map module_import_of before)
  pub exports : Holds s.exports (module_export_names before)

abbrev pub plain_decls : List DeclNode → Decls
plain_decls ds = in_order (map shown_decl_node ds)

abbrev pub imported : List DeclNode → List (List ℕ)
imported ds = names (decl_imports (plain_decls ds))

abbrev pub exported : List DeclNode → List (List ℕ)
exported ds = names (decl_exports (plain_decls ds))

-- What they import is well named, and so is what they export.
abbrev pub NamedDeclared : List DeclNode → Type 0
NamedDeclared ds = Named (imported ds) × Named (exported ds)

-- The same as far as the standard asks it.
abbrev pub NamedPossibly : List DeclNode → Type 0
NamedPossibly ds = PossibleNames true (imported ds) × PossibleNames true (exported ds)

-- The sets have the names of these declarations of a component type or an instance type, which are well named, and no others.
pub record KnowsDeclared (s : DeclaredNames) (before : List DeclNode) : Type 0 where
  pub imports : Knows s.imports (imported before)
  pub exports : Knows s.exports (exported before)
