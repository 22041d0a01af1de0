use Rattle.std.proofs.Common.{refl}
use Rattle.smith_syntax.specs.SameDecl.{same_core_type, same_type, same_alias, same_export}
use Rattle.smith_syntax.proofs.deftype.ComponentTypeDefFromInstanceTypeDecl.from.Goals as goal

pub returns-in-CoreTypeDecl-clause-values : goal.returns-in-CoreTypeDecl-clause-values
returns-in-CoreTypeDecl-clause-values c = same_core_type c.in-CoreTypeDecl.is refl

pub returns-in-TypeDecl-clause-values : goal.returns-in-TypeDecl-clause-values
returns-in-TypeDecl-clause-values c = same_type c.in-TypeDecl.is refl

pub returns-in-Alias-clause-values : goal.returns-in-Alias-clause-values
returns-in-Alias-clause-values c = same_alias c.in-Alias.is refl

pub returns-in-Export-clause-values : goal.returns-in-Export-clause-values
returns-in-Export-clause-values c = same_export c.in-Export.is refl
