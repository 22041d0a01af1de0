-- What the sections that a turn adds hold, and what they show.
use Rattle.std.proofs.Common.{◌≡◌, ℕ, ◌+◌, List, [], ◌∷◌, ◌++◌, map, length, drop, refl, sym, ap, ◌∙◌, append-nil, suc, arith}
use Rattle.std.proofs.lemmas.List.{length-map, map-append}
use Rattle.std.specs.declared.alloc.Global.{Global}
use Rattle.std.specs.declared.rc.Rc.{Rc}
use Rattle.smith_input.specs.Loops.{Loop, Never, no_more, by_itself, an_item}
use Rattle.smith_input.proofs.Loops.{loop_map}
use Rattle.smith_format.specs.declared.config.Config.{Config}
use Rattle.smith_syntax.specs.Entries.{ImportEntry}
use Rattle.smith_syntax.specs.Marked.{Marked, first_marked}
use Rattle.smith_syntax.specs.Shown.{full_type, import_shown, shown_shared, shown_shared_core}
use Rattle.smith_syntax.specs.WellFormed.{names}
use Rattle.smith_syntax.specs.declared.core_types.CoreType.{CoreType}
use Rattle.smith_syntax.specs.declared.deftype.DefType.{DefType}
use Rattle.smith_syntax.specs.declared.deftype.Import.{Import}
use Rattle.smith_types.specs.Declarations.{NamedExtern}
use Rattle.smith_types.specs.MakingTypes.{HoldsExterns}
use Rattle.smith_component.specs.Building.{Building, open_of}
use Rattle.smith_component.specs.Imports.{NoImport, ReadsImport}
use Rattle.smith_tree.specs.Open.{Open}
use Rattle.smith_component.specs.SectionValues.{AddsImportSection, AddsTypeSection, NoImportValue, ReadsCoreTypeValue, ReadsImportValue, ReadsTypeValue}
use Rattle.smith_component.specs.SectionValues.{extern_of, externs_in, externs_of}
use Rattle.smith_component.specs.Shown.{shown_section, shown_sections}
use Rattle.smith_component.specs.Tables.{IsTabled, Tabled}
use Rattle.smith_tree.specs.Spaces.{after_part, spaces_of}
use Rattle.smith_tree.specs.Functions.{core_functions_of, functions_of}
use Rattle.smith_tree.specs.Tree.{Tree, canons_in, exports_in, imports_in, imports_of, first, add, parts_of}
use Rattle.smith_component.specs.AddedSections.{AddsImports, AddsTypes, ReadsCoreTypes, ReadsTypes}
use Rattle.smith_tree.specs.WellFormed.{import_names}
use Rattle.smith_component.specs.declared.builder.open.OpenComponent.{OpenComponent}
use Rattle.smith_component.specs.declared.builder.tables.Tables.{Tables}
use Rattle.smith_component.specs.declared.component.Section.{Section}
use Rattle.smith_component.specs.declared.component.Section.TheVariants.{Custom, CoreModule, CoreTypes, Types, Canonical, Imports, Exports, Component}
use Rattle.smith_component.proofs.TracksStack.{tabled_added}
use Rattle.smith_component.proofs.Tables.{flat_map_more}
use Rattle.smith_component.proofs.Tree.{no_functions_in}

pub length-shown : (ss : List Section) → length (parts_of (shown_sections ss)) ≡ length ss
length-shown [] = refl
length-shown (s ∷ ss) = ap suc (length-shown ss)

pub shown_push : (ss : List Section) (s : Section) → shown_sections (ss ++ s ∷ []) ≡ add (shown_sections ss) (shown_section s)
shown_push [] s = refl
shown_push (r ∷ ss) s = ap (first (shown_section r)) (shown_push ss s)

-- the open components around the inner one, as plain trees
abbrev pub trees_of : List OpenComponent → List Tree
trees_of xs = map shown_sections (map (λ c. c.sections.items) xs)

pub none_open : (xs : List OpenComponent) → length xs ≡ 0 → trees_of xs ≡ []
none_open [] h = refl
none_open (x ∷ xs) h = absurd (omega arith)

pub outer_push : (xs : List OpenComponent) (x : OpenComponent) → trees_of (xs ++ x ∷ []) ≡ trees_of xs ++ shown_sections x.sections.items ∷ []
outer_push [] x = refl
outer_push (y ∷ xs) x = ap (λ t. shown_sections y.sections.items ∷ t) (outer_push xs x)

pub outer_popped : (old new : List OpenComponent) (x : OpenComponent) → old ≡ new ++ x ∷ []
    → trees_of old ≡ trees_of new ++ shown_sections x.sections.items ∷ []
outer_popped old new x e = ap trees_of e ∙ outer_push new x

-- What is read of types and core types is read of what they show.

pub types_shown : (config : Config) (outer : List Marked) {min max : ℕ} {own next : Marked} {b rest : List ℕ} {ts : List (Rc DefType Global)}
    → Loop Never (ReadsTypeValue config outer) config.loop_bits min max 0 own b ts rest next
    → ReadsTypes config outer min max own b (map shown_shared ts) rest next
types_shown config outer {own = own} {next = next} {b = b} {rest = rest} {ts = ts} r =
    loop_map shown_shared (λ s c t q u (left, made, e). (record { full = full_type t.value; left = left; made = made; shown = refl }, e)) 0 own b ts rest next r

pub core_types_shown : (config : Config) {max : ℕ} {own next : Marked} {b rest : List ℕ} {ts : List (Rc CoreType Global)}
    → Loop Never (ReadsCoreTypeValue config) config.loop_bits 0 max 0 own b ts rest next → ReadsCoreTypes config max own b (map shown_shared_core ts) rest next
core_types_shown config {own = own} {next = next} {b = b} {rest = rest} {ts = ts} r =
    loop_map shown_shared_core (λ s c t q u (reads, kept). reads) 0 own b ts rest next r

-- the same entries when the scopes and the room are known by equations
pub entries_where : {A : Type 0} (R : List Marked → Marked → List ℕ → A → List ℕ → Marked → Type 0) (scopes outer : List Marked) (own : Marked) (max room : ℕ)
    {bits min : ℕ} {next : Marked} {b rest : List ℕ} {xs : List A}
    → scopes ≡ own ∷ outer → max ≡ room → Loop Never (R (drop 1 scopes)) bits min max 0 (first_marked scopes) b xs rest next
    → Loop Never (R outer) bits min room 0 own b xs rest next
entries_where R scopes outer own max room {bits} {min} {next} {b} {rest} {xs} e m r = grind arith

-- The names of a component's imports.

names_shown : (is : List Import) → names (map extern_of is) ≡ import_names (map import_shown is)
names_shown [] = refl
names_shown (i ∷ is) = ap (λ ns. (extern_of i).0 ∷ ns) (names_shown is)

names_in_section : (s : Section) → names (externs_in s) ≡ import_names (imports_in (shown_section s))
names_in_section (Custom s) = refl
names_in_section (CoreModule m) = refl
names_in_section (CoreTypes s) = refl
names_in_section (Component t) = refl
names_in_section (Types s) = refl
names_in_section (Canonical s) = refl
names_in_section (Imports s) = names_shown s.imports.items
names_in_section (Exports s) = refl

names_both : (xs ys : List NamedExtern) → names (xs ++ ys) ≡ names xs ++ names ys
names_both xs ys = map-append (λ (x : NamedExtern). x.0) xs ys

import_names_both : (is js : List ImportEntry) → import_names (is ++ js) ≡ import_names is ++ import_names js
import_names_both is js = map-append (λ (i : ImportEntry). i.name) is js

pub externs_named : (ss : List Section) → names (externs_of ss) ≡ import_names (imports_of (shown_sections ss))
externs_named [] = refl
externs_named (s ∷ ss) =
    names_both (externs_in s) (externs_of ss)
    ∙ (ap (λ ns. ns ++ names (externs_of ss)) (names_in_section s)
    ∙ (ap (λ ns. import_names (imports_in (shown_section s)) ++ ns) (externs_named ss)
    ∙ sym (import_names_both (imports_in (shown_section s)) (imports_of (shown_sections ss)))))

-- There are as many as imports.
pub import_count : (ss : List Section) → length (externs_of ss) ≡ length (imports_of (shown_sections ss))
import_count ss =
    sym (length-map (externs_of ss) (λ (x : NamedExtern). x.0))
    ∙ (ap length (externs_named ss) ∙ length-map (imports_of (shown_sections ss)) (λ (i : ImportEntry). i.name))

-- An import section that is read is read of what it shows.
module _ (config : Config) (stack : Open) (before : List NamedExtern) (are : names before ≡ import_names (imports_of stack.inner)) where
  names_behind : (is : List Import) → names (before ++ map extern_of is) ≡ import_names (imports_of stack.inner ++ map import_shown is)
  names_behind is = grind (arith, names_both, names_shown, import_names_both)

  import_is_shown : (s : List Import) (b : List ℕ) (x : Import) (rest : List ℕ) (t : List Import) → ReadsImportValue config stack before s b x rest t
      → ReadsImport config stack (map import_shown s) b (import_shown x) rest (map import_shown t)
  import_is_shown s b x rest t i = grind (arith, names_behind, map-append)

  pub imports_shown : {bits min max : ℕ} (done : ℕ) (s : List Import) (b : List ℕ) (xs : List Import) (rest : List ℕ) (t : List Import)
      → Loop (NoImportValue config stack) (ReadsImportValue config stack before) bits min max done s b xs rest t
      → Loop (NoImport config stack) (ReadsImport config stack) bits min max done (map import_shown s) b (map import_shown xs) rest (map import_shown t)
  imports_shown done s b xs rest t (no_more m e) = no_more m (ap (map import_shown) e)
  imports_shown done s b xs rest t (by_itself m e) = by_itself m (e.0, e.1, ap (map import_shown) e.2)
  imports_shown done s b xs rest u (an_item {t = t} {mid = mid} {after = after} {x = x} {xs = ys} m i l) =
      an_item m (import_is_shown s mid x after t i) (imports_shown (done + 1) t after ys rest u l)

-- What a section with a minimum adds, as a plain tree.

pub type_section_shown : (config : Config) (min : ℕ) (old new : Building) (b rest : List ℕ) → AddsTypeSection config min old b new rest
    → AddsTypes config min (open_of old) b (open_of new).inner rest
type_section_shown config min old new b rest a =
    (map shown_shared a.section.types.items, a.scope, types_shown config _ a.reads, ap shown_sections a.added ∙ shown_push old.inner (Types a.section))

pub import_section_shown : (config : Config) (min : ℕ) (old new : Building) (b rest : List ℕ) → AddsImportSection config min old b new rest
    → AddsImports config min (open_of old) b (open_of new).inner rest
import_section_shown config min old new b rest a = grind (arith, imports_shown, externs_named, shown_push)

-- What is kept of a component to which a section without functions and imports is added.

no_extern : (is : List Import) → map import_shown is ≡ [] → map extern_of is ≡ []
no_extern [] e = refl
no_extern (i ∷ is) e = absurd cc

no_externs : (s : Section) → imports_in (shown_section s) ≡ [] → externs_in s ≡ []
no_externs (Custom s) e = refl
no_externs (CoreModule m) e = refl
no_externs (CoreTypes s) e = refl
no_externs (Component t) e = refl
no_externs (Types s) e = refl
no_externs (Canonical s) e = refl
no_externs (Imports s) e = no_extern s.imports.items e
no_externs (Exports s) e = refl

-- with those that another section imports
pub externs_push : (ss : List Section) (s : Section) → externs_of (ss ++ s ∷ []) ≡ externs_of ss ++ externs_in s
externs_push ss s = flat_map_more externs_in ss s

-- A component's tables are as what it shows and imports.
pub tabled_as : (c : OpenComponent) (tables : Tables) (t : Tree) (ns : List NamedExtern) → c.tables ≡ tables → shown_sections c.sections.items ≡ t
    → externs_of c.sections.items ≡ ns → Tabled tables t → HoldsExterns tables.imports ns → IsTabled c
tabled_as c tables t ns e shown named tabled held = grind arith

pub is_tabled_added : (old new : OpenComponent) (s : Section) → new.sections.items ≡ old.sections.items ++ s ∷ [] → new.tables ≡ old.tables
    → (after_part (spaces_of (shown_sections old.sections.items)) (shown_section s)).functions ≡ functions_of (shown_sections old.sections.items)
    → (after_part (spaces_of (shown_sections old.sections.items)) (shown_section s)).core_functions ≡ core_functions_of (shown_sections old.sections.items)
    → imports_in (shown_section s) ≡ [] → canons_in (shown_section s) ≡ [] → exports_in (shown_section s) ≡ [] → IsTabled old → IsTabled new
is_tabled_added old new s e tables fs cs is ks xs i =
    let shown = ap shown_sections e ∙ shown_push old.sections.items s in
    let same : externs_of new.sections.items ≡ externs_of old.sections.items =
    ap externs_of e ∙ (externs_push old.sections.items s ∙ (ap (λ z. externs_of old.sections.items ++ z) (no_externs s is)
    ∙ append-nil (externs_of old.sections.items))) in
    let tabled = tabled_added (shown_sections old.sections.items) _ (shown_section s) refl fs cs (no_functions_in (shown_section s) is ks) xs i.tabled in
    tabled_as new old.tables _ _ tables shown same tabled i.externs
