-- Core types whose names can be read.
use Rattle.std.specs.Prelude.{ℕ, ◌≤◌, List, [], ◌∷◌, ◌++◌, length}
use Rattle.std.specs.Str.{IsUtf8}
use Rattle.smith_format.specs.declared.config.Config.{Config}
use Rattle.smith_input.specs.NameScript.{IsReachableText}
use Rattle.smith_syntax.specs.Entries.{CoreEntry, ModuleDecl, core_func, core_module, imports, declares, aliases, exports}
use Rattle.smith_syntax.specs.ModuleTypes.{after_front, module_export_names, names_from}
use Rattle.smith_tree.specs.ModuleScript.{in_front}

-- A text that can be read: UTF-8 that is not longer than a name.
abbrev pub IsReadableText : Config → List ℕ → Type 0
IsReadableText config text = IsUtf8 text × (length text ≤ config.max_name_length)

-- A text that can be made new among these: UTF-8, and made of a text that is not longer than a name.
abbrev pub IsReadableNewText : Config → List (List ℕ) → List ℕ → Type 0
IsReadableNewText config names text = IsUtf8 text × IsReachableText config.max_name_length names text

-- The name of an import or an export can be made after those before it. The name of the module from which something is
-- imported is read as it is.
abbrev pub IsReadableModuleDecl : Config → List ModuleDecl → ModuleDecl → Type 0
IsReadableModuleDecl config before (imports from name e) = IsReadableText config from × IsReadableNewText config (names_from from before) name
IsReadableModuleDecl config before (declares f) = Unit {0}
IsReadableModuleDecl config before (aliases count i) = Unit {0}
IsReadableModuleDecl config before (exports name e) = IsReadableNewText config (module_export_names before) name

-- declarations in a row, each judged after those before it
abbrev pub AreReadableModuleDecls : Config → List ModuleDecl → List ModuleDecl → Type 0
AreReadableModuleDecls config before [] = Unit {0}
AreReadableModuleDecls config before (d ∷ ds) = IsReadableModuleDecl config before d × AreReadableModuleDecls config (before ++ d ∷ []) ds

-- All names within a core type can be read. Those in front that the canonical ABI asks for are not read.
abbrev pub IsReadableCore : Config → CoreEntry → Type 0
IsReadableCore config (core_func f) = Unit {0}
IsReadableCore config (core_module ds) = AreReadableModuleDecls config (in_front ds (after_front ds)) (after_front ds)
