-- Imports and exports of bodies of which what is kept is exact.
use Rattle.std.proofs.Common.{◌≡◌, inl, inr, ◌+◌, Bool, true, false, List, [], ◌∷◌, ◌++◌, length}
use Rattle.std.proofs.Common.{sym, ap, ◌∙◌, subst, arith, append-nil, None, Some}
use Rattle.std.specs.Option.{option_to_list}
use Rattle.smith_input.proofs.Lists.{all_both}
use Rattle.smith_input.specs.NewNames.{is_among}
use Rattle.smith_syntax.specs.declared.deftype.ComponentTypeRef.{ComponentTypeRef}
use Rattle.smith_tree.specs.Bodies.{Body, after_import, externs_at}
use Rattle.smith_tree.specs.Facts.{Extern, FactScope, Id, id_at}
use Rattle.smith_tree.specs.Validates.{names_of}
use Rattle.smith_validate.specs.Attained.{Attains}
use Rattle.smith_validate.specs.Deferring.{IsExposure}
use Rattle.smith_validate.specs.Exact.{AreExportsExactly, AreNamedFor, IsPieceExactly, IsRoleExactly}
use Rattle.smith_validate.specs.Exact.{IsRoleExported, IsKeptBody}
use Rattle.smith_validate.specs.Externs.{extern_of}
use Rattle.smith_validate.specs.Instances.{Surface, externs_in, refers_of, uses_in}
use Rattle.smith_validate.specs.Marks.{both}
use Rattle.smith_validate.specs.Tables.{Fits, names_in}
use Rattle.smith_validate.specs.declared.body.Exported.{Exported}
use Rattle.smith_validate.specs.declared.body.Extern.{Extern as KeptExtern}
use Rattle.smith_validate.specs.declared.body.Role.{Role}
use Rattle.smith_validate.specs.declared.body.Role.TheVariants.{Names, Exporting}
use Rattle.smith_validate.specs.declared.known.Known.{Known}
use Rattle.smith_validate.proofs.Attaining.{attains_both}
use Rattle.smith_validate.proofs.Closing.{scope_long}
use Rattle.smith_validate.proofs.Names.{among_cases, refers_of_append, sub_left, sub_right}
use Rattle.smith_validate.proofs.Piecing.{Is, piece_exact}
use Rattle.smith_validate.proofs.Roles.{externs_append, uses_append}

pub not_empty : {A : Type 0} (xs ys : List A) → ¬ (ys ≡ []) → ¬ (xs ++ ys ≡ [])
not_empty [] ys n = n
not_empty (x ∷ xs) ys n = λ e. let z : x ∷ (xs ++ ys) ≡ [] = e in cc

-- one more export of an instance type
pub exports_push_exactly : (table : List Surface) (place around : Id) (full : List Id) (e f : Exported) (xs ys : List Extern) (k : KeptExtern)
    → AreExportsExactly table place around full e xs → IsPieceExactly table place around full k ys → f.refers ≡ both e.refers k.refers
    → f.uses.items ≡ e.uses.items ++ option_to_list k.used → f.any ≡ true → AreExportsExactly table place around full f (xs ++ ys)
exports_push_exactly table place around full e f xs ys k a i refers uses any =
    let one = i.piece ∷ [] in
    record {
      pieces = a.pieces ++ one;
      externs_are = ap (λ zs. zs ++ ys) a.externs_are ∙ (ap (λ zs. externs_in table a.pieces ++ zs) i.externs_are ∙ sym (externs_append table a.pieces one));
      uses_are = uses ∙ (ap (λ us. us ++ option_to_list k.used) a.uses_are
          ∙ (ap (λ us. uses_in a.pieces ++ us) (sym i.used_is) ∙ sym (uses_append a.pieces one)));
      fit = all_both (Fits table (length table) around) a.pieces one a.fit (i.fit, tt);
      before = λ id h.
          elim (among_cases (refers_of xs) (refers_of ys) id (subst (λ ids. is_among ids id ≡ true) (refers_of_append xs ys) h))
          [ inl x ↦ a.before id x | inr y ↦ i.before id y ];
      refers_are = subst (λ ids. Attains place full f.refers ids) (sym (refers_of_append xs ys))
          (subst (λ n. Attains place full n (refers_of xs ++ refers_of ys)) (sym refers)
          (attains_both place full e.refers k.refers (refers_of xs) (refers_of ys) a.refers_are i.refers_are));
      some = λ h. not_empty xs ys i.some;
      none = λ h. absurd (let z : true ≡ false = sym any ∙ h in cc);
    }

module _ (asks : Bool) (k : Known) (r : Role) (b : Body) (outer : List FactScope) (named : List Id) (table : List Surface)
    (h : IsKeptBody asks k r b outer named table) where
  abbrev place : Id
  place = id_at (b.own ∷ outer)

  abbrev full : List Id
  full = (names_of b.exports ++ named) ++ names_in table

  -- what is kept of what is imported or exported
  pub piece_of : (to : ComponentTypeRef) → Is table outer b.own full (extern_of k.scopes.own.types.items to) (externs_at b.own outer to)
  piece_of to = piece_exact table outer b.own full k.scopes.own.types.items h.known.types_are.0 to

  pub piece_some : (to : ComponentTypeRef) (x : KeptExtern) → Some x ≡ extern_of k.scopes.own.types.items to
      → IsPieceExactly table place (id_at outer) full x (externs_at b.own outer to)
  piece_some to x e = subst (λ o. Is table outer b.own full o (externs_at b.own outer to)) (sym e) (piece_of to)

  pub piece_none : (to : ComponentTypeRef) → None ≡ extern_of k.scopes.own.types.items to → externs_at b.own outer to ≡ []
  piece_none to e = subst (λ o. Is table outer b.own full o (externs_at b.own outer to)) (sym e) (piece_of to)

  pub place_long : length place ≡ length outer + 1
  place_long = let l = scope_long (λ (s : FactScope). length s.types) outer in omega (arith, l)

  pub named_for : AreNamedFor table place full b
  named_for = record {
    imports_are = h.imports_are;
    exports_are = λ id a. elim (h.exports_are id a) [ inl x ↦ inl x | inr y ↦ inr (y.0, omega (arith, y.1, place_long)) ];
    exports_named = λ id a. sub_left (names_of b.exports ++ named) (names_in table) id (sub_left (names_of b.exports) named id a);
    table_named = sub_right (names_of b.exports ++ named) (names_in table);
  }

  -- nothing is imported or exported that has to be named
  pub role_imported_none : (to : ComponentTypeRef) → externs_at b.own outer to ≡ [] → IsRoleExactly table outer named asks r (after_import outer b to)
  role_imported_none to e = by_role r h.role_is
    where
      same : b.imports ++ externs_at b.own outer to ≡ b.imports
      same = ap (λ xs. b.imports ++ xs) e ∙ append-nil b.imports

      by_role : (x : Role) → IsRoleExactly table outer named asks x b → IsRoleExactly table outer named asks x (after_import outer b to)
      by_role (Names s) y = (
        y.0,
        (
          subst (λ xs. IsExposure table s.imported (names_of xs)) (sym same) y.1.0,
          subst (λ xs. IsExposure table s.exported (names_of xs ++ names_of b.exports)) (sym same) y.1.1,
        ),
      )
      by_role (Exporting x) y = y

  pub role_exported_none : (to : ComponentTypeRef) → externs_at b.own outer to ≡ []
      → IsRoleExported table outer named asks r b (externs_at b.own outer to)
  role_exported_none to e = by_role r h.role_is
    where
      same : b.exports ++ externs_at b.own outer to ≡ b.exports
      same = ap (λ xs. b.exports ++ xs) e ∙ append-nil b.exports

      by_role : (x : Role) → IsRoleExactly table outer named asks x b → IsRoleExported table outer named asks x b (externs_at b.own outer to)
      by_role (Names s) y = (y.0, (y.1.0, subst (λ xs. IsExposure table s.exported (names_of b.imports ++ names_of xs)) (sym same) y.1.1))
      by_role (Exporting x) y =
          (y.0, subst (λ xs. AreExportsExactly table place (id_at outer) full x xs) (sym same) y.1)
