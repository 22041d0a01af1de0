use Rattle.std.proofs.Common.{◌≡◌, List, [], ◌++◌, refl, sym, subst}
use Rattle.smith_syntax.specs.Entries.{FullDecl}
use Rattle.smith_syntax.specs.WellFormed.{export_of, import_of}
use Rattle.smith_syntax.proofs.Shown.{instance_export}
use Rattle.smith_types.specs.Declarations.{NamedExtern}
use Rattle.smith_types.specs.MakingTypes.{HoldsExterns}
use Rattle.smith_scopes.specs.Scopes.{own_marked}
use Rattle.smith_types.proofs.MakingTypes.{export_possible, export_read}
use Rattle.smith_types.proofs.References.{ref_formed}
use Rattle.smith_types.proofs.make.declarations.read_export.Goals as goal

pub unreachable-requires : goal.unreachable-requires
unreachable-requires c = export_possible c.args.making.now.config.now (own_marked c.args.scopes.now) c.requires.possible
    (rw c.in_default.is at c.arbitrary_type_ref.ensures.reads).0

pub add_exported-requires-clause-formed : goal.add_exported-requires-clause-formed
add_exported-requires-clause-formed c = ref_formed c.args.making.now.config.now (own_marked c.args.scopes.now) _ _ _ _ c.in-Some.ty _
    (rw c.in-Some.is at c.arbitrary_type_ref.ensures.reads)

pub returns-clause-reads : goal.returns-clause-reads
returns-clause-reads c = λ so_far held.
    export_read c.args.making.now.config.now (own_marked c.args.scopes.now) so_far c.in-Some.ty _ _ _ _ _
    (rw c.in-Some.is at c.arbitrary_type_ref.ensures.reads)
    (c.in_ok-name.ensures.reads so_far held) (instance_export _ _ _)

pub returns-clause-names : goal.returns-clause-names
returns-clause-names c =
    let is = sym (instance_export c.in_ok-name.name c.in_ok-name.url c.in-Some.ty) in
    let P : List NamedExtern → FullDecl → Type 0 = λ so_far d. HoldsExterns c.named_extern.new.externs (so_far ++ export_of d) in
    record {
      no_import = subst (λ d. import_of d ≡ []) is refl;
      gains = λ so_far held. subst (P so_far) is (c.in_ok-name.ensures.names so_far held);
    }
