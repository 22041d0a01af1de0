-- The text of canonical functions, imports and exports (Explainer.md, canonical definitions, import and export definitions).
use Rattle.std.specs.Prelude.{ℕ, List, codes, decimal}
use Rattle.smith_syntax.specs.declared.deftype.ComponentTypeRef.{ComponentTypeRef}
use Rattle.smith_syntax.specs.declared.deftype.ComponentTypeRef.TheVariants as to
use Rattle.smith_tree.specs.Tree.{Canon, lift, lower}
use Rattle.smith_print.specs.declared.spaces.IndexSpaces.{IndexSpaces}
use Rattle.smith_print.specs.Spaces.{extern_index}
use Rattle.smith_print.specs.Words.{◌⧺◌, quoted}

-- the sort of what an import or an export is of, and how its type bounds it
abbrev pub sort_of : ComponentTypeRef → List ℕ
sort_of (to.Module i) = codes "core module"
sort_of (to.Func i) = codes "func"
sort_of (to.TypeEq i) = codes "type"
sort_of (to.Component i) = codes "component"
sort_of (to.Instance i) = codes "instance"

abbrev pub bound_of : ComponentTypeRef → List ℕ
bound_of (to.TypeEq i) = codes "eq "
bound_of _ = codes "type "

abbrev pub type_of : ComponentTypeRef → ℕ
type_of (to.Module i) = i
type_of (to.Func i) = i
type_of (to.TypeEq i) = i
type_of (to.Component i) = i
type_of (to.Instance i) = i

-- an import (Explainer.md, importdecl)
abbrev pub import_text : List ℕ → ComponentTypeRef → IndexSpaces → List ℕ
import_text name r s =
    codes "(import " ⧺ quoted name ⧺ codes " (" ⧺ sort_of r ⧺ codes " (;" ⧺ decimal (extern_index r s) ⧺ codes ";) (" ⧺ bound_of r ⧺ decimal (type_of r)
    ⧺ codes ")))"

-- an export of a type (Explainer.md, exportdecl)
abbrev pub export_text : List ℕ → ComponentTypeRef → IndexSpaces → List ℕ
export_text name r s =
    codes "(export (;" ⧺ decimal (extern_index r s) ⧺ codes ";) " ⧺ quoted name ⧺ codes " (" ⧺ sort_of r ⧺ codes " (" ⧺ bound_of r ⧺ decimal (type_of r)
    ⧺ codes ")))"

-- a canonical function (Explainer.md, canon)
abbrev pub canon_text : Canon → IndexSpaces → List ℕ
canon_text (lift c t) s =
    codes "(func (;" ⧺ decimal s.functions ⧺ codes ";) (type " ⧺ decimal t ⧺ codes ") (canon lift (core func " ⧺ decimal c ⧺ codes ")))"
canon_text (lower f) s = codes "(core func (;" ⧺ decimal s.core_functions ⧺ codes ";) (canon lower (func " ⧺ decimal f ⧺ codes ")))"
