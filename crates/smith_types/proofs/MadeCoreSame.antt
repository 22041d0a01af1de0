-- The scope, the bytes and the fuel decide which core type is made, and the rest.
use Rattle.std.proofs.Common.{◌≡◌, ℕ, ◌-◌, List, [], ◌∷◌, refl, sym, ap, ◌∙◌, subst, arith}
use Rattle.std.proofs.lemmas.Bool.{false≢true}
use Rattle.std.specs.Prelude.{codes}
use Rattle.smith_input.specs.Choices.{ReadsAmong}
use Rattle.smith_input.specs.Loops.{Loop}
use Rattle.smith_input.specs.Reading.{Reads, Flips}
use Rattle.smith_input.specs.Texts.{ReadsNewText}
use Rattle.smith_input.proofs.Choices.{among_none, among_same}
use Rattle.smith_input.proofs.Loops.{loop_same}
use Rattle.smith_input.proofs.NewNames.{new_text_unique}
use Rattle.smith_input.proofs.Reading.{reads_unique, flips_unique}
use Rattle.smith_input.proofs.ReadsTexts.{text_unique}
use Rattle.smith_format.specs.CoreReading.{ReadsFunction}
use Rattle.smith_format.specs.CoreTypes.{Function}
use Rattle.smith_format.specs.Limits.{configured, max_results}
use Rattle.smith_format.specs.declared.config.Config.{Config}
use Rattle.smith_format.specs.declared.types.EntityType.{EntityType}
use Rattle.smith_format.specs.declared.types.EntityType.TheVariants.{Func, Table, Memory, Global, Tag}
use Rattle.smith_format.specs.declared.types.ExportKind.{ExportKind}
use Rattle.smith_format.specs.declared.types.ExportKind.TheVariants as kind
use Rattle.smith_format.proofs.CoreReading.{function_unique, memory_unique, table_unique, tag_unique}
use Rattle.smith_syntax.specs.Entries.{CoreEntry, ModuleDecl, core_func, core_module, imports, declares, aliases, exports}
use Rattle.smith_types.specs.MadeCore.{ReadsEntityOf, ReadsEntity, ReadsImportNames, ReadsExportName, ReadsDeclOf, ReadsDecl, EndsModuleType, no_fuel}
use Rattle.smith_types.specs.MadeCore.{no_import, no_export, ReadsLine, not_allowed, declined, taken, MemoryLine, ReadsFunctionLine, ReadsFront}
use Rattle.smith_types.specs.MadeCore.{MadeModule, MadeCore, spent_core, of_function, of_module}
use Rattle.smith_tree.specs.CoreTypeOffers.{Declared, undeclared, with_decl, with_front, entity_kinds, module_items}
use Rattle.smith_syntax.specs.ModuleTypes.{names_from, realloc, free}
use Rattle.smith_syntax.specs.Scope.{Scope}
use Rattle.smith_tree.specs.declared.choices.ModuleItem.{ModuleItem}
use Rattle.smith_tree.specs.declared.choices.ModuleItem.TheVariants as item

-- what two readings of the same bytes share
pub record Same {A : Type 0} (x y : A) (r s : List ℕ) (f g : ℕ) : Type 0 where
  pub value : x ≡ y
  pub rest : r ≡ s
  pub left : f ≡ g

module _ (config : Config) (s : Declared) where
  entity_of_same : (k : ExportKind) (b : List ℕ) (d e : EntityType) (r q : List ℕ) → ReadsEntityOf config s k b d r → ReadsEntityOf config s k b e q
      → (d ≡ e) × (r ≡ q)
  entity_of_same kind.Global b d e r q (g, mid, c, f, i) (h, low, a, o, j) =
      let u = among_same c a in
      let v = flips_unique (subst (λ z. Flips z g.mutable r) u.1 f) o in
      (i ∙ (λ n. Global (record { val_type = u.0 n; mutable = v.0 n })) ∙ sym j, v.1)
  entity_of_same kind.Table b d e r q (t, c, i) (u, a, j) = let v = table_unique c a in (i ∙ ap Table v.0 ∙ sym j, v.1)
  entity_of_same kind.Memory b d e r q (m, c, i) (n, a, j) = let v = memory_unique c a in (i ∙ ap Memory v.0 ∙ sym j, v.1)
  entity_of_same kind.Tag b d e r q (t, c, i) (u, a, j) = let v = tag_unique c a in (i ∙ ap Tag v.0 ∙ sym j, v.1)
  entity_of_same kind.Func b d e r q (m, c, i) (n, a, j) = let v = among_same c a in (i ∙ ap Func v.0 ∙ sym j, v.1)

  entity_same : (b : List ℕ) (d e : EntityType) (r q : List ℕ) → ReadsEntity config s b d r → ReadsEntity config s b e q → (d ≡ e) × (r ≡ q)
  entity_same b d e r q x y =
      let c = among_same x.choice y.choice in
      let P : ExportKind → Type 0 = λ z. ReadsEntityOf config s z x.mid d r in
      let Q : List ℕ → Type 0 = λ z. ReadsEntityOf config s y.kind z d r in
      entity_of_same y.kind y.mid d e r q (subst Q c.1 (subst P c.0 x.is)) y.is

import_names_same : (config : Config) → (s : Declared) (bytes m n a b r q : List ℕ) → ReadsImportNames config s bytes m a r
    → ReadsImportNames config s bytes n b q → (m ≡ n) × (a ≡ b) × (r ≡ q)
import_names_same config s bytes m n a b r q (mid, t, x) (low, u, y) =
    let v = text_unique t u in
    let P : List ℕ → Type 0 = λ z. ReadsNewText config.max_name_length (names_from z s.decls) mid a r in
    let Q : List ℕ → Type 0 = λ z. ReadsNewText config.max_name_length (names_from n s.decls) z a r in
    let w = new_text_unique (subst Q v.1 (subst P v.0 x)) y in
    (v.0, w.0, w.1)

module _ (config : Config) (around : Scope) where
  decl_of_same : (s : Declared) (k : ModuleItem) (b : List ℕ) (d e : ModuleDecl) (r q : List ℕ) → ReadsDeclOf config around s k b d r
      → ReadsDeclOf config around s k b e q → (d ≡ e) × (r ≡ q)
  decl_of_same s item.Import b d e r q (from, name, mid, n, x, c, i) (fram, nome, low, o, y, a, j) =
      let u = import_names_same config s b from fram name nome mid low n o in
      let P : List ℕ → Type 0 = λ z. ReadsEntity config s z x r in
      let v = entity_same config s low x y r q (subst P u.2 c) a in
      (i ∙ (λ l. imports (u.0 l) (u.1 l) (v.0 l)) ∙ sym j, v.1)
  decl_of_same s item.Export b d e r q (name, mid, n, x, c, i) (nome, low, o, y, a, j) =
      let u = new_text_unique n o in
      let P : List ℕ → Type 0 = λ z. ReadsEntity config s z x r in
      let v = entity_same config s low x y r q (subst P u.1 c) a in
      (i ∙ (λ l. exports (u.0 l) (v.0 l)) ∙ sym j, v.1)
  decl_of_same s item.Type b d e r q (f, c, i) (g, a, j) = let u = function_unique c a in (i ∙ ap declares u.0 ∙ sym j, u.1)
  decl_of_same s item.Alias b d e r q (m, c, i) (n, a, j) = let u = among_same c a in (i ∙ ap (λ z. aliases z.0 z.1) u.0 ∙ sym j, u.1)

  decl_same : (s : Declared) (b : List ℕ) (d e : ModuleDecl) (r q : List ℕ) (t u : Declared) → ReadsDecl config around s b d r t
      → ReadsDecl config around s b e q u → (d ≡ e) × (r ≡ q) × (t ≡ u)
  decl_same s b d e r q t u x y =
      let c = among_same x.choice y.choice in
      let P : ModuleItem → Type 0 = λ z. ReadsDeclOf config around s z x.mid d r in
      let Q : List ℕ → Type 0 = λ z. ReadsDeclOf config around s y.item z d r in
      let v = decl_of_same s y.item y.mid d e r q (subst Q c.1 (subst P c.0 x.reads)) y.reads in
      (v.0, v.1, x.state ∙ (ap (with_decl around.core_types s) v.0 ∙ sym y.state))

  -- if nothing can be imported or exported, no declaration is an import or an export
  no_entity : (s : Declared) {b rest : List ℕ} {e : EntityType} → entity_kinds config s ≡ [] → ReadsEntity config s b e rest → ⊥
  no_entity s none r = among_none none r.choice

  item_told : (s : Declared) (k : ModuleItem) {b mid rest : List ℕ} {d : ModuleDecl} {t : Declared} → ReadsAmong (module_items config around s) b k mid
      → (x : ReadsDecl config around s b d rest t) → ReadsDeclOf config around s k x.mid d rest
  item_told s k {rest = rest} {d = d} c x = let P : ModuleItem → Type 0 = λ z. ReadsDeclOf config around s z x.mid d rest in
      subst P (among_same x.choice c).0 x.reads

  ends_apart : (s : Declared) (b : List ℕ) (d : ModuleDecl) (r q : List ℕ) (t u : Declared) → EndsModuleType config around s b r t
      → ReadsDecl config around s b d q u → ⊥
  ends_apart s b d r q t u (no_fuel f e) x = omega (arith, f, x.lasts)
  ends_apart s b d r q t u (no_import f c n none e) x = let (from, name, mid, n, y, a, i) = item_told s item.Import c x in no_entity s none a
  ends_apart s b d r q t u (no_export f c n none e) x = let (name, mid, n, y, a, i) = item_told s item.Export c x in no_entity s none a

  item_apart : (s : Declared) {b mid low : List ℕ} → ReadsAmong (module_items config around s) b item.Import mid
      → ReadsAmong (module_items config around s) b item.Export low → ⊥
  item_apart s c a = let z : item.Import ≡ item.Export = (among_same c a).0 in cc

  ends_same : (s : Declared) (b r q : List ℕ) (t u : Declared) → EndsModuleType config around s b r t → EndsModuleType config around s b q u → (r ≡ q) × (t ≡ u)
  ends_same s b r q t u (no_fuel f e) (no_fuel g h) = (refl, e ∙ sym h)
  ends_same s b r q t u (no_fuel f e) (no_import g c n none h) = absurd (omega (arith, f, g))
  ends_same s b r q t u (no_fuel f e) (no_export g c n none h) = absurd (omega (arith, f, g))
  ends_same s b r q t u (no_import g c n none h) (no_fuel f e) = absurd (omega (arith, f, g))
  ends_same s b r q t u (no_import {mid = mid} {from = m} {name = x} f c n none e) (no_import {mid = low} {from = l} {name = y} g a o some h) =
      let P : List ℕ → Type 0 = λ z. ReadsImportNames config s z m x r in
      ((import_names_same config s low m l x y r q (subst P (among_same c a).1 n) o).2, e ∙ sym h)
  ends_same s b r q t u (no_import f c n none e) (no_export g a o some h) = absurd (item_apart s c a)
  ends_same s b r q t u (no_export g c n none h) (no_fuel f e) = absurd (omega (arith, f, g))
  ends_same s b r q t u (no_export f c n none e) (no_import g a o some h) = absurd (item_apart s a c)
  ends_same s b r q t u (no_export {mid = mid} {name = x} f c n none e) (no_export {mid = low} {name = y} g a o some h) =
      let P : List ℕ → Type 0 = λ z. ReadsExportName config s z x r in
      ((new_text_unique (subst P (among_same c a).1 n) o).1, e ∙ sym h)

line_same : {may : _} {Line : List ℕ → List ModuleDecl → List ℕ → Type 0}
    → ((b : List ℕ) (ds es : List ModuleDecl) (r q : List ℕ) → Line b ds r → Line b es q → (ds ≡ es) × (r ≡ q))
    → (s : Declared) (b : List ℕ) (t u : Declared) (r q : List ℕ) → ReadsLine may Line s b t r → ReadsLine may Line s b u q → (t ≡ u) × (r ≡ q)
line_same one s b t u r q (not_allowed n e) (not_allowed m f) = (e ∙ sym f, refl)
line_same one s b t u r q (not_allowed n e) (declined m c k f) = absurd (false≢true (sym n ∙ m))
line_same one s b t u r q (not_allowed n e) (taken m c k l f) = absurd (false≢true (sym n ∙ m))
line_same one s b t u r q (declined m c k f) (not_allowed n e) = absurd (false≢true (sym n ∙ m))
line_same one s b t u r q (declined m c k e) (declined n a l f) = (e ∙ sym f, (reads_unique c a).1)
line_same one s b t u r q (declined m c k e) (taken n a l x f) = absurd (omega (arith, k, l, (reads_unique c a).0))
line_same one s b t u r q (taken m c k l f) (not_allowed n e) = absurd (false≢true (sym n ∙ m))
line_same one s b t u r q (taken n a l x f) (declined m c k e) = absurd (omega (arith, k, l, (reads_unique c a).0))
line_same {Line = Line} one s b t u r q (taken {ds = ds} m c k x e) (taken {mid = low} {ds = es} n a l y f) =
    let P : List ℕ → Type 0 = λ z. Line z ds r in
    let v = one low ds es r q (subst P (reads_unique c a).1 x) y in
    (e ∙ (ap (with_front s) v.0 ∙ sym f), v.1)

memory_line_same : (b : List ℕ) (ds es : List ModuleDecl) (r q : List ℕ) → MemoryLine b ds r → MemoryLine b es q → (ds ≡ es) × (r ≡ q)
memory_line_same b ds es r q (m, c, i) (n, a, j) = let v = memory_unique c a in (i ∙ (ap (λ x. exports (codes "memory") (Memory x) ∷ []) v.0 ∙ sym j), v.1)

function_line_same : (config : Config) (name : List ℕ) (f : Function) (s : Declared) (b : List ℕ) (t u : Declared) (r q : List ℕ)
    → ReadsFunctionLine config name f s b t r → ReadsFunctionLine config name f s b u q → (t ≡ u) × (r ≡ q)
function_line_same config name f s b t u r q x y = line_same (λ c ds es l m h i. (h.1 ∙ sym i.1, h.0 ∙ sym i.0)) s b t u r q x y

front_same : (config : Config) (b : List ℕ) (fuel : ℕ) (s t : Declared) (r q : List ℕ) → ReadsFront config b fuel s r → ReadsFront config b fuel t q
    → (s ≡ t) × (r ≡ q)
front_same config b fuel s t r q x y =
    let m = line_same memory_line_same (undeclared fuel) b x.with_memory y.with_memory x.after_memory y.after_memory x.memory y.memory in
    let Reallocs : Declared → List ℕ → Type 0 = λ d c. ReadsFunctionLine config (codes "canonical_abi_realloc") realloc d c x.with_realloc x.after_realloc in
    let l = function_line_same config (codes "canonical_abi_realloc") realloc y.with_memory y.after_memory x.with_realloc y.with_realloc x.after_realloc
    y.after_realloc
    (subst (Reallocs y.with_memory) m.1 (subst (λ d. Reallocs d x.after_memory) m.0 x.reallocs)) y.reallocs in
    let Frees : Declared → List ℕ → Type 0 = λ d c. ReadsFunctionLine config (codes "canonical_abi_free") free d c s r in
    function_line_same config (codes "canonical_abi_free") free y.with_realloc y.after_realloc s t r q
    (subst (Frees y.with_realloc) l.1 (subst (λ d. Frees d x.after_realloc) l.0 x.frees)) y.frees

module_same : (config : Config) (around : Scope) (b : List ℕ) (fuel : ℕ) (ds es : List ModuleDecl) (r q : List ℕ) (f g : ℕ)
    → MadeModule config around b fuel ds r f → MadeModule config around b fuel es q g → Same ds es r q f g
module_same config around b fuel ds es r q f g x y =
    let u = front_same config b fuel x.front y.front x.mid y.mid x.begins y.begins in
    let P : Declared → List ℕ → Type 0 = λ s c. Loop (EndsModuleType config around) (ReadsDecl config around) config.loop_bits 0 100 0 s c x.more r x.whole in
    let v = loop_same (ends_same config around) (ends_apart config around) (decl_same config around) 0 y.front y.mid x.more y.more r q x.whole y.whole
    (subst (P y.front) u.1 (subst (λ s. P s x.mid) u.0 x.goes_on)) y.goes_on in
    record { value = x.decls ∙ (ap (λ s. s.decls) v.2 ∙ sym y.decls); rest = v.1; left = x.fuel_left ∙ (ap (λ s. s.fuel) v.2 ∙ sym y.fuel_left) }

other_choice : {b mid low : List ℕ} → Reads 2 b 0 mid → Reads 2 b 1 low → ⊥
other_choice c a = omega (arith, (reads_unique c a).0)

pub made_core_same : {config : Config} {around : Scope} {bytes : List ℕ} {fuel : ℕ} {d e : CoreEntry} {r q : List ℕ} {f g : ℕ}
    → MadeCore config around bytes fuel d r f → MadeCore config around bytes fuel e q g → Same d e r q f g
made_core_same (spent_core h i n) (spent_core o j m) = record { value = i ∙ sym j; rest = refl; left = n ∙ sym m }
made_core_same (spent_core h i n) (of_function o c x j m) = absurd (omega (arith, h, o))
made_core_same (spent_core h i n) (of_module o c x j) = absurd (omega (arith, h, o))
made_core_same (of_function o c x j m) (spent_core h i n) = absurd (omega (arith, h, o))
made_core_same {config} {r = r} (of_function {f = f} h c x i n) (of_function {f = g} o a y j m) =
    let P : List ℕ → Type 0 = λ z. ReadsFunction config.loop_bits (configured config) (max_results config) z f r in
    let v = function_unique (subst P (reads_unique c a).1 x) y in
    record { value = i ∙ (ap core_func v.0 ∙ sym j); rest = v.1; left = n ∙ sym m }
made_core_same (of_function h c x i n) (of_module o a y j) = absurd (other_choice c a)
made_core_same (of_module o c x j) (spent_core h i n) = absurd (omega (arith, h, o))
made_core_same (of_module o a y j) (of_function h c x i n) = absurd (other_choice c a)
made_core_same {config} {around} {fuel = fuel} {r = r} {q = q} {f = f} {g = g} (of_module {ds = ds} h c x i) (of_module {mid = low} {ds = es} o a y j) =
    let P : List ℕ → Type 0 = λ z. MadeModule config around z (fuel - 1) ds r f in
    let v = module_same config around low (fuel - 1) ds es r q f g (subst P (reads_unique c a).1 x) y in
    record { value = i ∙ (ap core_module v.value ∙ sym j); rest = v.rest; left = v.left }
