-- What the nodes of a tree that is read show.
use Rattle.std.specs.Prelude.{map, string_bytes}
use Rattle.smith_format.specs.Shown.{shown_func}
use Rattle.smith_syntax.specs.Entries.{ModuleDecl, imports, declares, aliases, exports, CoreEntry, core_func, core_module}
use Rattle.smith_read.specs.declared.core_types.CoreNode.{CoreNode}
use Rattle.smith_read.specs.declared.core_types.CoreNode.TheVariants as core
use Rattle.smith_read.specs.declared.core_types.ModuleNode.{ModuleNode}
use Rattle.smith_read.specs.declared.core_types.ModuleNode.TheVariants as decl

abbrev pub shown_module_node : ModuleNode → ModuleDecl
shown_module_node (decl.Func f) = declares (shown_func f)
shown_module_node (decl.Import m n e) = imports (string_bytes m) (string_bytes n) e
shown_module_node (decl.OuterAlias count i) = aliases count i
shown_module_node (decl.Export n e) = exports (string_bytes n) e

abbrev pub shown_core_node : CoreNode → CoreEntry
shown_core_node (core.Func f) = core_func (shown_func f)
shown_core_node (core.Module ds) = core_module (map shown_module_node ds.items)
