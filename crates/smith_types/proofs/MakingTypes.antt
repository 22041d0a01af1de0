-- Types as the program makes them, by kind and by sort of declaration, and when there is an import or an export.
use Rattle.std.proofs.Common.{◌≡◌, ℕ, zero, suc, ◌-◌, ◌<◌, Bool, true, false, not, List, ◌∷◌, [], ◌++◌, refl, sym, ap, ◌∙◌, subst, arith, append-nil, ◌+◌, ◌&&◌}
use Rattle.std.proofs.Common.{◌||◌}
use Rattle.std.proofs.Math.ListN.{drop}
use Rattle.smith_format.specs.declared.config.Config.{Config}
use Rattle.smith_input.specs.Choices.{ReadsAmong}
use Rattle.std.specs.Prelude.{if◌then◌else◌}
use Rattle.smith_syntax.specs.Entries.{FullEntry, FullDecl, FullDecls, import_decl, export_decl}
use Rattle.smith_syntax.specs.Marked.{Marked, empty_marked, first_marked, mark, marked_after_all}
use Rattle.smith_syntax.specs.Marks.{closed_mark}
use Rattle.smith_syntax.specs.WellFormed.{export_of}
use Rattle.smith_syntax.specs.declared.marks.Mark.{Mark}
use Rattle.smith_syntax.specs.declared.marks.Reach.TheVariants.{Everywhere}
use Rattle.smith_types.specs.Declarations.{NamedExtern, ReadsAlias, nothing_so_far, NoImportDecl, not_asked, none_fits, ReadsImportDecl, ReadsExportDecl}
use Rattle.smith_types.specs.Declarations.{ReadsNamedExtern}
use Rattle.smith_tree.specs.TypeOffers.{type_kinds, has_export, has_reference, ref_kinds, ref_offers, has_place, uncounted}
use Rattle.smith_types.specs.Made.{Made, spent_type, made_defined, made_function, made_component, made_instance}
use Rattle.smith_types.specs.MakingTypes.{ExportsOnly, HoldsExterns, IsMarkOf, IsNameless, MadeKind, declaring}
use Rattle.smith_scopes.specs.Scopes.{Contents, last_of, outer_marked, own_marked}
use Rattle.smith_scopes.proofs.Stack.{own_marked_last}
use Rattle.smith_tree.specs.declared.choices.TypeKind.{TypeKind}
use Rattle.smith_tree.specs.declared.choices.TypeKind.TheVariants as kind
use Rattle.smith_types.specs.declared.make.externs.ExternNames.{ExternNames}
use Rattle.std.proofs.lemmas.Bool.{false≢true}
use Rattle.smith_input.specs.Reading.{Reads}
use Rattle.smith_input.specs.Offers.{offers_of}
use Rattle.smith_syntax.specs.declared.deftype.ComponentTypeRef.{ComponentTypeRef}
use Rattle.smith_types.specs.References.{ReadsRef}
use Rattle.smith_tree.specs.declared.choices.RefKind.TheVariants as ref

-- a type of a kind that was chosen, after it took one from the fuel
kind_made : (config : Config) (own : Marked) (outer : List Marked) (b mid rest : List ℕ) (k : TypeKind) (fuel left : ℕ) (e : FullEntry) → 0 < fuel - 1
    → ReadsAmong type_kinds b k mid → MadeKind config own outer k mid (fuel - 1) e rest left → Made config own outer b fuel e rest left
kind_made config own outer b mid rest kind.Defined fuel left e lasts chosen (t, m, is) = made_defined lasts chosen m is
kind_made config own outer b mid rest kind.Function fuel left e lasts chosen (s, m, is) = made_function lasts chosen m is
kind_made config own outer b mid rest kind.Component fuel left e lasts chosen (ds, m, is) = made_component lasts chosen m is
kind_made config own outer b mid rest kind.Instance fuel left e lasts chosen (ds, m, is) = made_instance lasts chosen m is

spent_made : (config : Config) (own : Marked) (outer : List Marked) (b mid rest : List ℕ) (k : TypeKind) (fuel left : ℕ) (e : FullEntry) → fuel - 1 ≡ 0
    → (k ≡ kind.Defined) × (mid ≡ b) → MadeKind config own outer k mid (fuel - 1) e rest left → Made config own outer b fuel e rest left
spent_made config own outer b mid rest k fuel left e none (is, same) m =
    let d = subst (λ n. MadeKind config own outer kind.Defined b n e rest left) none
    (subst (λ z. MadeKind config own outer kind.Defined z (fuel - 1) e rest left) same
    (subst (λ z. MadeKind config own outer z mid (fuel - 1) e rest left) is m)) in
    spent_type none d.1 d.2

pub type_made : (config : Config) (own : Marked) (outer : List Marked) (b mid rest : List ℕ) (k : TypeKind) (fuel held left : ℕ) (e : FullEntry)
    → held ≡ fuel - 1
    → (held ≡ 0 → (k ≡ kind.Defined) × (mid ≡ b)) → (0 < held → ReadsAmong type_kinds b k mid)
    → MadeKind config own outer k mid held e rest left → Made config own outer b fuel e rest left
type_made config own outer b mid rest k fuel zero left e burnt spent chosen m =
    spent_made config own outer b mid rest k fuel left e (sym burnt) (spent refl) (subst (λ n. MadeKind config own outer k mid n e rest left) burnt m)
type_made config own outer b mid rest k fuel (suc n) left e burnt spent chosen m =
    kind_made config own outer b mid rest k fuel left e (omega (arith, burnt)) (chosen (omega arith))
    (subst (λ h. MadeKind config own outer k mid h e rest left) burnt m)

-- what a declaration without a name adds to the names
pub names_stay : (sets : ExternNames) (so_far : List NamedExtern) (more : List NamedExtern) → more ≡ [] → HoldsExterns sets so_far
    → HoldsExterns sets (so_far ++ more)
names_stay sets so_far more none held = subst (HoldsExterns sets) (sym (ap (λ xs. so_far ++ xs) none ∙ append-nil so_far)) held

pub exports_nothing : (sets : ExternNames) (d : FullDecl) → IsNameless d → ExportsOnly sets sets d
exports_nothing sets d n = record { no_import = n.no_import; gains = λ so_far. names_stay sets so_far (export_of d) n.no_export }

-- an outer alias names an entry of a scope, so there is one
pub alias_within : (scopes : List Marked) (b : List ℕ) (d : FullDecl) (rest : List ℕ) → ReadsAlias scopes b d rest
    → ReadsAlias (first_marked scopes ∷ drop 1 scopes) b d rest
alias_within [] b d rest r = absurd (let stands = r.stands in cc)
alias_within (s ∷ scopes) b d rest r = r

-- the mark of a type of a component or of an instance, from its scope when all was declared there
mark_closed : (importing : Bool) (own : Marked) (outer : List Marked) (ds : FullDecls) (s : Marked) (m : Mark)
    → s ≡ marked_after_all ds (own ∷ outer) (empty_marked own.keeps) → m ≡ closed_mark (if not importing then s.exported else Everywhere) s.size
    → m ≡ mark (declaring importing ds) own outer
mark_closed true own outer ds s m e is = is ∙ ap (λ t. closed_mark Everywhere t.size) e
mark_closed false own outer ds s m e is = is ∙ ap (λ t. closed_mark t.exported t.size) e

pub scoped_marked : (importing : Bool) (old opened changed : List Contents) (ds : FullDecls) (e : FullEntry) (m : Mark)
    → outer_marked opened ≡ own_marked old ∷ outer_marked old
    → own_marked changed ≡ marked_after_all ds (outer_marked opened) (nothing_so_far (outer_marked opened)).own
    → m ≡ closed_mark (if not importing then (last_of changed).exported else Everywhere) (last_of changed).size → e ≡ declaring importing ds
    → IsMarkOf old e m
scoped_marked importing old opened changed ds e m around closed is made = λ keeps.
    let own = own_marked old in
    let outer = outer_marked old in
    let s_is : own_marked changed ≡ marked_after_all ds (own ∷ outer) (empty_marked own.keeps) =
    closed ∙ ap (λ ss. marked_after_all ds ss (nothing_so_far ss).own) around in
    let m_is : m ≡ closed_mark (if not importing then (own_marked changed).exported else Everywhere) (own_marked changed).size =
    is ∙ ap (λ s. closed_mark (if not importing then s.exported else Everywhere) s.size) (sym (own_marked_last changed)) in
    mark_closed importing own outer ds (own_marked changed) m s_is m_is ∙ ap (λ x. mark x own outer) (sym made)

-- imports and exports

-- if nothing is offered, the first is not offered
first_offered : {A : Type 0} (b : Bool) (x : A) (os : List (Bool × A)) → offers_of ((b, x) ∷ os) ≡ [] → (b ≡ false) × (offers_of os ≡ [])
first_offered true x os e = absurd (cc)
first_offered false x os e = (refl, e)

left_true : (a b : Bool) → b ≡ true → a && b ≡ false → a ≡ false
left_true true b t e = absurd (false≢true (sym e ∙ t))
left_true false b t e = refl

-- An export has something to name if there is something to export.
pub export_possible : (config : Config) (own : Marked) → has_export own ≡ true → ref_kinds config own uncounted false true ≡ [] → ⊥
export_possible config own has none =
    let offers = ref_offers config own uncounted false true in
    let m = first_offered (has_place own false ref.Module && true) ref.Module (drop 1 offers) none in
    let t = first_offered (has_place own false ref.TypeEq && true) ref.TypeEq (drop 2 offers) m.1 in
    let f = first_offered (has_place own false ref.Func && true) ref.Func (drop 3 offers) t.1 in
    let c = first_offered (has_place own false ref.Component && true) ref.Component (drop 4 offers) f.1 in
    let i = first_offered (has_place own false ref.Instance && true) ref.Instance (drop 5 offers) c.1 in
    let no_module = left_true (has_place own false ref.Module) true refl m.0 in
    let no_type = left_true (has_place own false ref.TypeEq) true refl t.0 in
    let no_component = left_true (has_place own false ref.Component) true refl c.0 in
    let no_instance = left_true (has_place own false ref.Instance) true refl i.0 in
    let never : has_export own ≡ false = λ j. no_module j || no_type j || no_component j || no_instance j in
    false≢true (sym never ∙ has)

module _ (config : Config) (own : Marked) (b mid : List ℕ) (n : ℕ) (has : has_reference own ≡ true) (read : (k : ℕ) × (n ≡ 0 + k) × Reads 4 b k mid) where
  pub import_not_asked : 0 < n → NoImportDecl config true own b mid
  import_not_asked h = not_asked refl has read.2 (omega (arith, h, read.1))

  asked : n ≡ 0 → Reads 4 b 0 mid
  asked e = subst (λ k. Reads 4 b k mid) (let z : read.0 ≡ 0 = omega (arith, e, read.1) in z) read.2

  pub import_fits_none : n ≡ 0 → ref_kinds config own uncounted true true ≡ [] → NoImportDecl config true own b mid
  import_fits_none e none = none_fits refl has (asked e) none

  pub import_read : (so_far : List NamedExtern) (r : ComponentTypeRef) (x : NamedExtern) (low rest : List ℕ) → n ≡ 0
      → ReadsRef config own uncounted true true mid r low → ReadsNamedExtern config so_far low x rest
      → ReadsImportDecl config own so_far b (import_decl x.0 x.1 r) rest
  import_read so_far r x low rest e of name = record { mid = mid; low = low; to = r; named = x; there = has; asked = asked e; of = of; name = name; is = refl }

pub export_read : (config : Config) (own : Marked) (so_far : List NamedExtern) (r : ComponentTypeRef) (x : NamedExtern) (b mid rest : List ℕ) (d : FullDecl)
    → ReadsRef config own uncounted false true b r mid → ReadsNamedExtern config so_far mid x rest → d ≡ export_decl x.0 x.1 r
    → ReadsExportDecl config own so_far b d rest
export_read config own so_far r x b mid rest d of name is = record { mid = mid; to = r; named = x; of = of; name = name; is = is }
