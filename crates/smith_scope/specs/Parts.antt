-- What core types and the declarations of module types are made of.
use Rattle.std.specs.Prelude.{◌≡◌, List, [], ◌∷◌, map}
use Rattle.smith_format.specs.CoreTypes.{Function}
use Rattle.smith_format.specs.Shown.{shown_func}
use Rattle.smith_syntax.specs.Entries.{CoreEntry, ModuleDecl, aliases, core_func, core_module, declares}
use Rattle.smith_syntax.specs.ModuleTypes.{adds, entities_in}
use Rattle.smith_scope.specs.declared.typed.CorePart.{CorePart}
use Rattle.smith_scope.specs.declared.typed.CorePart.TheVariants as part
use Rattle.smith_scope.specs.declared.typed.ModulePart.{ModulePart}
use Rattle.smith_scope.specs.declared.typed.ModulePart.TheVariants as decl

-- It is that declaration. What it imports or exports is known by its entity.
abbrev pub IsModulePart : ModuleDecl → ModulePart → Type 0
IsModulePart d (decl.Func f) = d ≡ declares (shown_func f.now)
IsModulePart d (decl.OuterAlias count i) = d ≡ aliases count i
IsModulePart d (decl.Entity e) = (entities_in d ≡ e ∷ []) × ((around : List CoreEntry) → (fs : List Function) → adds around fs d ≡ [])

-- It is that core type, given what declarations show.
abbrev pub IsCorePart : {D : Type 0} → (D → ModuleDecl) → CoreEntry → CorePart D → Type 0
IsCorePart plain e (part.Func f) = e ≡ core_func (shown_func f.now)
IsCorePart plain e (part.Module ds) = e ≡ core_module (map plain ds.now)
