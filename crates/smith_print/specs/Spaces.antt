-- How the index spaces of a component grow (Explainer.md, index spaces).
use Rattle.std.specs.Prelude.{ℕ, ◌+◌}
use Rattle.smith_print.specs.declared.spaces.IndexSpaces.{IndexSpaces}
use Rattle.smith_syntax.specs.declared.deftype.ComponentTypeRef.{ComponentTypeRef}
use Rattle.smith_syntax.specs.declared.deftype.ComponentTypeRef.TheVariants as to
use Rattle.smith_tree.specs.Tree.{Canon, lift, lower}

-- the index of what an import or an export is of, if it is next, and the spaces after it

abbrev pub extern_index : ComponentTypeRef → IndexSpaces → ℕ
extern_index (to.Module i) s = s.modules
extern_index (to.Func i) s = s.functions
extern_index (to.TypeEq i) s = s.types
extern_index (to.Component i) s = s.components
extern_index (to.Instance i) s = s.instances

abbrev pub after_extern : ComponentTypeRef → IndexSpaces → IndexSpaces
after_extern (to.Module i) s = record s { modules = s.modules + 1 }
after_extern (to.Func i) s = record s { functions = s.functions + 1 }
after_extern (to.TypeEq i) s = record s { types = s.types + 1 }
after_extern (to.Component i) s = record s { components = s.components + 1 }
after_extern (to.Instance i) s = record s { instances = s.instances + 1 }

abbrev pub after_canon : Canon → IndexSpaces → IndexSpaces
after_canon (lift c t) s = record s { functions = s.functions + 1 }
after_canon (lower f) s = record s { core_functions = s.core_functions + 1 }

abbrev pub nothing : IndexSpaces
nothing =
    record { core_types = 0; core_functions = 0; memories = 0; modules = 0; types = 0; functions = 0; components = 0; instances = 0 }
