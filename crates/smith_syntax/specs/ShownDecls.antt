-- What the types of the program declare, as plain trees.
use Rattle.std.specs.Prelude.{ℕ}
use Rattle.smith_syntax.specs.Entries.{FullEntry, FullDecl, FullDecls, Decl, plain_decl}
use Rattle.smith_syntax.specs.Shown.{component_decl_step, type_step, instance_decl_step, kind_step, alias_step, component_step, instance_step}
use Rattle.smith_syntax.specs.declared.deftype.ComponentTypeDef.{ComponentTypeDef}
use Rattle.smith_syntax.specs.declared.deftype.InstanceTypeDecl.{InstanceTypeDecl}
use Rattle.smith_syntax.specs.declared.deftype.Alias.{Alias}
use Rattle.smith_syntax.specs.declared.deftype.ComponentTypeDef.TheFolds.{fold-ComponentTypeDef, fold-InstanceTypeDecl, fold-Alias}

-- with URLs and with what their aliases keep

abbrev pub full_component_decl : ComponentTypeDef → FullDecl
full_component_decl = fold-ComponentTypeDef FullDecl FullEntry FullDecl (ℕ → ℕ → FullDecl) FullDecl FullDecls FullDecls component_decl_step type_step
    instance_decl_step kind_step alias_step component_step instance_step

abbrev pub full_instance_decl : InstanceTypeDecl → FullDecl
full_instance_decl = fold-InstanceTypeDecl FullDecl FullEntry FullDecl (ℕ → ℕ → FullDecl) FullDecl FullDecls FullDecls component_decl_step type_step
    instance_decl_step kind_step alias_step component_step instance_step

abbrev pub full_alias : Alias → FullDecl
full_alias = fold-Alias FullDecl FullEntry FullDecl (ℕ → ℕ → FullDecl) FullDecl FullDecls FullDecls component_decl_step type_step instance_decl_step kind_step
    alias_step component_step instance_step

-- what is declared, as plain trees

abbrev pub shown_component_decl : ComponentTypeDef → Decl
shown_component_decl d = plain_decl (full_component_decl d)

abbrev pub shown_instance_decl : InstanceTypeDecl → Decl
shown_instance_decl d = plain_decl (full_instance_decl d)

abbrev pub shown_alias : Alias → Decl
shown_alias a = plain_decl (full_alias a)
