-- The scopes, the bytes and the fuel decide which type is made, and the rest.
use Rattle.std.proofs.Common.{◌≡◌, ℕ, ◌+◌, ◌-◌, ◌<◌, Bool, true, false, List, ◌∷◌, refl, sym, ap, ◌∙◌, subst, arith}
use Rattle.smith_input.specs.Choices.{ReadsAmong}
use Rattle.smith_input.proofs.Choices.{among_same}
use Rattle.smith_input.proofs.Reading.{more_unique}
use Rattle.smith_format.specs.declared.config.Config.{Config}
use Rattle.smith_syntax.specs.Entries.{DefValType, FullEntry, FullDecl, FullDecls, defined, function, component_type, instance_type, core_type_decl, type_decl}
use Rattle.smith_syntax.specs.Entries.{keeps_functions, then_decls}
use Rattle.smith_syntax.specs.Marked.{Marked}
use Rattle.smith_types.specs.Declarations.{SoFar, after_one, ReadsAlias, ReadsExportDecl, ReadsImportDecl, NoImportDecl}
use Rattle.smith_tree.specs.TypeOffers.{declaration_items, type_kinds}
use Rattle.smith_types.specs.Made.{MadeDefined, Made, spent_type, made_defined, made_function, made_component, made_instance, MadeDeclaration}
use Rattle.smith_types.specs.Made.{made_import, made_export, made_alias, made_core_type, made_type, MadeDeclarations, no_more_decls, spent_decls, one_decl}
use Rattle.smith_types.specs.MakingTypes.{MadeCoreTypeDecl, MadeKind, MadeTypeDecl}
use Rattle.smith_types.specs.MadeCore.{named_by_core}
use Rattle.smith_tree.specs.declared.choices.TypeKind.{TypeKind}
use Rattle.smith_tree.specs.declared.choices.DeclarationItem.{DeclarationItem}
use Rattle.smith_tree.specs.declared.choices.DeclarationItem.TheVariants as item
use Rattle.smith_types.proofs.ReadsDeclarations.{import_same, export_same, alias_same, no_import_same, import_or_none}
use Rattle.smith_types.proofs.Made.{defined_same, function_same}
use Rattle.smith_types.proofs.MadeCoreSame.{Same, made_core_same}

-- A type as another of the same bytes and the same fuel is made: without fuel, or as a type of the chosen kind.

spent_told : {config : Config} {own : Marked} {outer : List Marked} {b : List ℕ} {fuel : ℕ} {e : FullEntry} {rest : List ℕ} {left : ℕ} → fuel - 1 ≡ 0
    → Made config own outer b fuel e rest left → (t : DefValType) × MadeDefined config own b 0 t rest left × (e ≡ defined t)
spent_told none (spent_type {t = t} f d i) = (t, d, i)
spent_told none (made_defined f c d i) = absurd (omega (arith, none, f))
spent_told none (made_function f c d i) = absurd (omega (arith, none, f))
spent_told none (made_component f c d i) = absurd (omega (arith, none, f))
spent_told none (made_instance f c d i) = absurd (omega (arith, none, f))

kind_told : {config : Config} {own : Marked} {outer : List Marked} {b mid : List ℕ} {fuel : ℕ} {e : FullEntry} {rest : List ℕ} {left : ℕ} {k : TypeKind}
    → 0 < fuel - 1 → ReadsAmong type_kinds b k mid → Made config own outer b fuel e rest left → MadeKind config own outer k mid (fuel - 1) e rest left
kind_told {config} {own} {outer} {b} {mid} {fuel} {e} {rest} {left} {k} lasts c m = told m
  where
    by : {j : TypeKind} {low : List ℕ} → ReadsAmong type_kinds b j low → MadeKind config own outer j low (fuel - 1) e rest left
        → MadeKind config own outer k mid (fuel - 1) e rest left
    by {j} a m =
        let u = among_same a c in
        subst (λ z. MadeKind config own outer z mid (fuel - 1) e rest left) u.0
        (subst (λ z. MadeKind config own outer j z (fuel - 1) e rest left) u.1 m)

    told : Made config own outer b fuel e rest left → MadeKind config own outer k mid (fuel - 1) e rest left
    told (spent_type f d i) = absurd (omega (arith, lasts, f))
    told (made_defined {t = t} f a d i) = by a (t, d, i)
    told (made_function {s = s} f a d i) = by a (s, d, i)
    told (made_component {ds = ds} f a d i) = by a (ds, d, i)
    told (made_instance {ds = ds} f a d i) = by a (ds, d, i)

-- what is declared, by the choice of it
abbrev MadeItem : Config → List Marked → SoFar → DeclarationItem → List ℕ → ℕ → FullDecl → List ℕ → ℕ → Type 0
MadeItem config outer s item.Export b fuel d rest left = ReadsExportDecl config s.own s.exports b d rest × (left ≡ fuel)
MadeItem config outer s item.Alias b fuel d rest left = ReadsAlias (s.own ∷ outer) b d rest × (left ≡ fuel)
MadeItem config outer s item.CoreType b fuel d rest left = MadeCoreTypeDecl config s.own b fuel d rest left
MadeItem config outer s item.«Type» b fuel d rest left = MadeTypeDecl config s.own outer b fuel d rest left

-- A declaration as another of the same bytes is made: an import, or what was chosen.

import_told : {config : Config} {importing : Bool} {outer : List Marked} {s : SoFar} {b : List ℕ} {fuel : ℕ} {d e : FullDecl} {r rest : List ℕ} {left : ℕ}
    → importing ≡ true → ReadsImportDecl config s.own s.imports b d r → MadeDeclaration config importing outer s b fuel e rest left
    → ReadsImportDecl config s.own s.imports b e rest × (left ≡ fuel)
import_told {config} {importing} {outer} {s} {b} {d = d} {r = r} asked x m = told m
  where
    none : {A : Type 0} {mid : List ℕ} → NoImportDecl config importing s.own b mid → A
    none {mid = mid} n = absurd (import_or_none config s.own importing s.imports b r mid d asked x n)

    told : {fuel : ℕ} {e : FullDecl} {rest : List ℕ} {left : ℕ} → MadeDeclaration config importing outer s b fuel e rest left
        → ReadsImportDecl config s.own s.imports b e rest × (left ≡ fuel)
    told (made_import h y l) = (y, l)
    told (made_export n c y l) = none n
    told (made_alias n c y l) = none n
    told (made_core_type n c y i) = none n
    told (made_type n c y i) = none n

item_told : {config : Config} {importing : Bool} {outer : List Marked} {s : SoFar} {b mid low : List ℕ} {fuel : ℕ} {d : FullDecl} {rest : List ℕ} {left : ℕ}
    {i : DeclarationItem} → NoImportDecl config importing s.own b mid → ReadsAmong (declaration_items config outer s.own) mid i low
    → MadeDeclaration config importing outer s b fuel d rest left → MadeItem config outer s i low fuel d rest left
item_told {config} {importing} {outer} {s} {b} {mid} {low} {fuel} {d} {rest} {left} {i} n c m = told m
  where
    by : {j : DeclarationItem} {m l : List ℕ} → NoImportDecl config importing s.own b m → ReadsAmong (declaration_items config outer s.own) m j l
        → MadeItem config outer s j l fuel d rest left → MadeItem config outer s i low fuel d rest left
    by {j} {m} {l} o a x =
        let P : List ℕ → Type 0 = λ z. ReadsAmong (declaration_items config outer s.own) z j l in
        let u = among_same (subst P (no_import_same config s.own importing b m mid o n) a) c in
        subst (λ z. MadeItem config outer s z low fuel d rest left) u.0 (subst (λ z. MadeItem config outer s j z fuel d rest left) u.1 x)

    told : MadeDeclaration config importing outer s b fuel d rest left → MadeItem config outer s i low fuel d rest left
    told (made_import h x l) = absurd (import_or_none config s.own importing s.imports b rest mid d h x n)
    told (made_export o a x l) = by o a (x, l)
    told (made_alias o a x l) = by o a (x, l)
    told (made_core_type {c = p} o a x is) = by o a (p, x, is)
    told (made_type {e = e} o a x is) = by o a (e, x, is)

mutual
  pub made_same : {config : Config} {own : Marked} {outer : List Marked} {b : List ℕ} {fuel : ℕ} {d e : FullEntry} {r s : List ℕ} {f g : ℕ}
      → Made config own outer b fuel d r f → Made config own outer b fuel e s g → Same d e r s f g
  made_same (spent_type h x i) m =
      let (u, y, j) = spent_told h m in
      let v = defined_same x y in
      record { value = i ∙ (ap defined v.value ∙ sym j); rest = v.rest; left = v.left }
  made_same (made_defined h c x i) m =
      let (u, y, j) = kind_told h c m in
      let v = defined_same x y in
      record { value = i ∙ (ap defined v.value ∙ sym j); rest = v.rest; left = v.left }
  made_same (made_function h c x i) m =
      let (u, y, j) = kind_told h c m in
      let v = function_same x y in
      record { value = i ∙ (ap function v.value ∙ sym j); rest = v.rest; left = v.left }
  made_same (made_component h c x i) m =
      let (es, y, j) = kind_told h c m in
      let v = declarations_same x y in
      record { value = i ∙ (ap component_type v.value ∙ sym j); rest = v.rest; left = v.left }
  made_same (made_instance h c x i) m =
      let (es, y, j) = kind_told h c m in
      let v = declarations_same x y in
      record { value = i ∙ (ap instance_type v.value ∙ sym j); rest = v.rest; left = v.left }

  declaration_same : {config : Config} {importing : Bool} {outer : List Marked} {t : SoFar} {b : List ℕ} {fuel : ℕ} {d e : FullDecl} {r s : List ℕ} {f g : ℕ}
      → MadeDeclaration config importing outer t b fuel d r f → MadeDeclaration config importing outer t b fuel e s g → Same d e r s f g
  declaration_same {config} {t = t} {b = b} {d = d} {e = e} {r = r} {s = s} (made_import h x l) m =
      let (y, k) = import_told h x m in
      let v = import_same config t.own t.imports b d e r s x y in
      record { value = v.0; rest = v.1; left = l ∙ sym k }
  declaration_same {config} {t = t} {d = d} {e = e} {r = r} {s = s} (made_export {low = low} n c x l) m =
      let (y, k) = item_told n c m in
      let v = export_same config t.own t.exports low d e r s x y in
      record { value = v.0; rest = v.1; left = l ∙ sym k }
  declaration_same {outer = outer} {t = t} {d = d} {e = e} {r = r} {s = s} (made_alias {low = low} n c x l) m =
      let (y, k) = item_told n c m in
      let v = alias_same (t.own ∷ outer) low d e r s x y in
      record { value = v.0; rest = v.1; left = l ∙ sym k }
  declaration_same {t = t} (made_core_type n c x i) m =
      let (q, y, j) = item_told n c m in
      let v = made_core_same x y in
      record { value = i ∙ (ap (λ z. core_type_decl z (keeps_functions (named_by_core t.own.core_types z))) v.value ∙ sym j); rest = v.rest; left = v.left }
  declaration_same (made_type n c x i) m =
      let (q, y, j) = item_told n c m in
      let v = made_same x y in
      record { value = i ∙ (ap type_decl v.value ∙ sym j); rest = v.rest; left = v.left }

  declarations_same : {config : Config} {importing : Bool} {outer : List Marked} {done : ℕ} {t : SoFar} {b : List ℕ} {fuel : ℕ} {ds es : FullDecls}
      {r s : List ℕ} {f g : ℕ}
      → MadeDeclarations config importing outer done t b fuel ds r f → MadeDeclarations config importing outer done t b fuel es s g → Same ds es r s f g
  declarations_same (no_more_decls m l) (no_more_decls n k) = record { value = refl; rest = (more_unique m n).1; left = l ∙ sym k }
  declarations_same (spent_decls m h l) (spent_decls n j k) = record { value = refl; rest = (more_unique m n).1; left = l ∙ sym k }
  declarations_same {config} {importing} {outer} {done} {t} {fuel = fuel} {s = s} {g = g}
      (one_decl {low = low} {held = held} {d = d} m h one later) (one_decl {low = after} {held = kept} {d = e} {ds = es} n j other behind) =
      let P : List ℕ → Type 0 = λ z. MadeDeclaration config importing outer t z (fuel - 1) e after kept in
      let v = declaration_same one (subst P (more_unique n m).1 other) in
      let Q : FullDecl → Type 0 = λ z. MadeDeclarations config importing outer (done + 1) (after_one outer t z) after kept es s g in
      let R : List ℕ → Type 0 = λ z. MadeDeclarations config importing outer (done + 1) (after_one outer t d) z kept es s g in
      let S : ℕ → Type 0 = λ z. MadeDeclarations config importing outer (done + 1) (after_one outer t d) low z es s g in
      let x = declarations_same later (subst S (sym v.left) (subst R (sym v.rest) (subst Q (sym v.value) behind))) in
      record { value = λ i. then_decls (v.value i) (x.value i); rest = x.rest; left = x.left }
  declarations_same (no_more_decls m l) (spent_decls n j k) = absurd (let z : false ≡ true = (more_unique m n).0 in cc)
  declarations_same (no_more_decls m l) (one_decl n j other behind) = absurd (let z : false ≡ true = (more_unique m n).0 in cc)
  declarations_same (spent_decls m h l) (no_more_decls n k) = absurd (let z : true ≡ false = (more_unique m n).0 in cc)
  declarations_same (one_decl m h one later) (no_more_decls n k) = absurd (let z : true ≡ false = (more_unique m n).0 in cc)
  declarations_same (spent_decls m h l) (one_decl n j other behind) = absurd (omega (arith, h, j))
  declarations_same (one_decl m h one later) (spent_decls n j k) = absurd (omega (arith, h, j))
