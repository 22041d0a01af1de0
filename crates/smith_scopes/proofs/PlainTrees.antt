-- Plain types.
use Rattle.std.proofs.Common.{◌≡◌, refl, ap, ◌∙◌}
use Rattle.smith_syntax.specs.Entries.{Entry, Decl, Decls, plain, plain_decl, plain_decls}
use Rattle.smith_syntax.specs.Entries.{defined, function, component_type, instance_type}
use Rattle.smith_syntax.specs.Entries.{type_decl, no_decls, then_decls}

-- a plain type is plain
mutual
  pub plain_same : (e : Entry) → plain e ≡ e
  plain_same (defined t) = refl
  plain_same (function s) = refl
  plain_same (component_type ds) = ap component_type (plain_decls_same ds)
  plain_same (instance_type ds) = ap instance_type (plain_decls_same ds)

  plain_decl_same : (d : Decl) → plain_decl d ≡ d
  plain_decl_same (type_decl e) = ap type_decl (plain_same e)
  plain_decl_same _ = refl

  plain_decls_same : (ds : Decls) → plain_decls ds ≡ ds
  plain_decls_same no_decls = refl
  plain_decls_same (then_decls d ds) = ap (λ x. then_decls x (plain_decls ds)) (plain_decl_same d) ∙ ap (λ xs. then_decls d xs) (plain_decls_same ds)
