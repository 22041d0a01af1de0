use Rattle.std.proofs.Common.{ℕ, ◌-◌, List, refl, sym, subst, append-nil, string_bytes, map}
use Rattle.smith_syntax.specs.Entries.{exports}
use Rattle.smith_input.specs.Texts.{ReadsNewText}
use Rattle.smith_types.specs.MadeCore.{ReadsExportName}
use Rattle.smith_types.specs.MakingCore.{MaybeEntity, shown_funcs, so_far}
use Rattle.smith_syntax.specs.ModuleTypes.{module_export_names}
use Rattle.smith_syntax.specs.Shown.{shown_decl}
use Rattle.smith_types.proofs.MakingCore.{keep_more, same_state}
use Rattle.smith_scopes.proofs.Plain.{pushed}
use Rattle.smith_types.proofs.core_types.module_types.read_export.Goals as goal

pub returns-in-None-clause-adds : goal.returns-in-None-clause-adds
returns-in-None-clause-adds c around fuel =
    let s = so_far c.args.declared.now fuel in
    let none = subst (λ e. MaybeEntity c.args.making.now.config.now s c.read_export_name.new.u e c.read_entity.new.u) c.in-None.is
    (c.read_entity.ensures.reads fuel) in
    let N : List _ → Type 0 =
    λ ds. ReadsNewText c.args.making.now.config.now.max_name_length (module_export_names (map shown_decl ds)) c.args.u.now
    (string_bytes c.in_ok-name.name) c.read_export_name.new.u in
    let R : List ℕ → Type 0 = λ r. ReadsExportName c.args.making.now.config.now s c.args.u.now (string_bytes c.in_ok-name.name) r in
    ((string_bytes c.in_ok-name.name, subst R (sym none.1) (subst N c.deref.ensures.value c.in_ok-name.ensures.reads), none.0), refl)

pub returns-in_ok-push-in-Some-clause-adds : goal.returns-in_ok-push-in-Some-clause-adds
returns-in_ok-push-in-Some-clause-adds c around fuel =
    let old = c.args.declared.now in
    let some = subst (λ e. MaybeEntity c.args.making.now.config.now (so_far old fuel) c.read_export_name.new.u e c.read_entity.new.u) c.in-Some.is
    (c.read_entity.ensures.reads fuel) in
    let name = string_bytes c.in_ok-name.name in
    let N : List _ → Type 0 = λ ds. ReadsNewText c.args.making.now.config.now.max_name_length
    (module_export_names (map shown_decl ds)) c.args.u.now name c.read_export_name.new.u in
    let decls = pushed shown_decl old.counted.defs.items c.push.new.self.defs.items _ c.in_ok-push-in-Some.ensures.items in (
      exports name c.in-Some.entity,
      (name, c.read_export_name.new.u, subst N c.deref.ensures.value c.in_ok-name.ensures.reads, c.in-Some.entity, some, refl),
      same_state (fuel - 1) (fuel - 1) (sym (append-nil (shown_funcs old.own.items))) decls refl,
    )

pub returns-in_ok-push-in-Some-clause-kept : goal.returns-in_ok-push-in-Some-clause-kept
returns-in_ok-push-in-Some-clause-kept c around k =
    let old = c.args.declared.now in
    let own = shown_funcs old.own.items in
    keep_more around own own old.counted.defs.items _ _ k tt (sym (append-nil own)) c.in_ok-push-in-Some.ensures.items
