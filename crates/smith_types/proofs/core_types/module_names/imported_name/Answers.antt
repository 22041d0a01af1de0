use Rattle.std.proofs.Common.{◌≡◌, true, cond, List, [], ◌∷◌, map, ap, sym, ◌∙◌, string_bytes, bytes_eq}
use Rattle.smith_format.specs.Entities.{CoreImport}
use Rattle.smith_syntax.specs.ModuleTypes.{names_from}
use Rattle.smith_syntax.specs.Shown.{shown_decl}
use Rattle.smith_types.proofs.core_types.module_names.imported_name.Goals as goal

pub returns-then-eq : goal.returns-then-eq
returns-then-eq c =
    let i = c.in-Import.import in
    let is : bytes_eq (string_bytes i.module) c.args.from.now ≡ true = ap (λ z. bytes_eq z c.args.from.now) (sym c.as_str.ensures.value)
    ∙ (sym c.eq.ensures ∙ c.if-eq.true) in
    let all : List CoreImport = (string_bytes i.module, string_bytes i.name, i.entity_type) ∷ [] in
    ap (λ z. names_from c.args.from.now (shown_decl z ∷ [])) c.in-Import.is ∙ ap (λ b. map (λ i. i.1) (cond b all [])) is
    ∙ ap (λ n. n ∷ []) (sym c.as_str-then-eq.ensures.value)
