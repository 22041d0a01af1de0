-- A declaration of an instance type as one of a component type: the values are the same.
use Rattle.std.specs.Prelude.{◌≡◌, Option, String}
use Rattle.std.specs.declared.alloc.Global.{Global}
use Rattle.std.specs.declared.rc.Rc.{Rc}
use Rattle.smith_syntax.specs.declared.core_types.CoreType.{CoreType}
use Rattle.smith_syntax.specs.declared.deftype.Alias.{Alias}
use Rattle.smith_syntax.specs.declared.deftype.ComponentTypeDef.{ComponentTypeDef}
use Rattle.smith_syntax.specs.declared.deftype.ComponentTypeDef.TheVariants as in_component
use Rattle.smith_syntax.specs.declared.deftype.ComponentTypeRef.{ComponentTypeRef}
use Rattle.smith_syntax.specs.declared.deftype.DefType.{DefType}
use Rattle.smith_syntax.specs.declared.deftype.InstanceTypeDecl.{InstanceTypeDecl}
use Rattle.smith_syntax.specs.declared.deftype.InstanceTypeDecl.TheVariants as in_instance

pub data SameDecl (d : InstanceTypeDecl) (r : ComponentTypeDef) : Type 0 where
  same_core_type : {t : Rc CoreType Global} → d ≡ in_instance.CoreTypeDecl t → r ≡ in_component.CoreTypeDecl t → SameDecl d r
  same_type : {t : Rc DefType Global} → d ≡ in_instance.TypeDecl t → r ≡ in_component.TypeDecl t → SameDecl d r
  same_alias : {a : Alias} → d ≡ in_instance.Alias a → r ≡ in_component.Alias a → SameDecl d r
  same_export : {name : String Global} {url : Option (String Global)} {to : ComponentTypeRef} → d ≡ in_instance.Export name url to
      → r ≡ in_component.Export name url to → SameDecl d r
