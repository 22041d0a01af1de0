-- A component with an item made simpler has as many of everything, unless the item is a component.
use Rattle.std.proofs.Common.{◌≡◌, ℕ, zero, suc, ◌+◌, ◌-◌, List, [], ◌∷◌, Option, None, Some, length, length-append}
use Rattle.std.proofs.Common.{nat_lt, ap, sym, refl, ◌∙◌, arith}
use Rattle.std.specs.Prelude.{bytes_eq}
use Rattle.std.specs.List.{flat_map}
use Rattle.smith_input.proofs.Lists.{all_back, all_both, all_front}
use Rattle.smith_format.specs.declared.config.Config.{Config}
use Rattle.smith_core.specs.Preamble.{core_preamble}
use Rattle.smith_syntax.specs.Entries.{Entry, ImportEntry}
use Rattle.smith_tree.specs.Tree.{Canon, lift, lower, ExportEntry, Tree, Part, ends, first, own, parts_of}
use Rattle.smith_tree.specs.Tree.{anywhere, anywhere_in, canons_in, components_in, exports_in, exports_of, imported_components_in, imported_functions_in}
use Rattle.smith_tree.specs.Tree.{imported_instances_in, imported_modules_in, imports_in, imports_of, inside, modules_in}
use Rattle.smith_tree.specs.Tree as part
use Rattle.smith_tree.specs.WellFormed.{export_names, import_names}
use Rattle.smith_edit.specs.Counts.{KeepsMaxima, KeepsOwnMaxima}
use Rattle.smith_edit.specs.Edits.{export_renamed, import_renamed}
use Rattle.smith_edit.specs.Items.{entry_items, part_items}
use Rattle.smith_edit.specs.ShortNames.{shorter_name}
use Rattle.smith_edit.specs.Simpler.{component_at, entry_simplified, itself_or, part_simplified, renamed_at, sections_of, sections_simplified}
use Rattle.smith_edit.specs.Simpler.{simpler_entry, simpler_part, simplified, types_simplified}
use Rattle.smith_edit.proofs.CoveredRows.{all_alone, alone, components_of}
use Rattle.smith_edit.proofs.CoveredRows.{instances_of, modules_of}
use Rattle.smith_edit.proofs.CoveredRows.{functions_in}
use Rattle.smith_edit.proofs.KeptInside.{AllKeep}
use Rattle.smith_edit.proofs.Perhaps.{Perhaps, both, either, given, gives, itself, mapped, more, nothing, whatever}
use Rattle.smith_edit.proofs.FewerEntries.{NoMore, NoMoreAnywhere, all_kept, core_types_in, kept, types_in}

module _ {A B : Type 0} (name : A → List ℕ) (rename : A → List ℕ → A) (held : A → List B)
    (same : (x : A) (new : List ℕ) → length (held (rename x new)) ≡ length (held x)) where
  renamed_alike : (ns : List (List ℕ)) (k : ℕ) (xs : List A)
      → Perhaps (λ ys. length (flat_map held ys) ≡ length (flat_map held xs)) (renamed_at name rename ns k xs)
  renamed_alike ns k [] = nothing tt
  renamed_alike ns zero (x ∷ xs) =
      mapped {P = λ y. length (held y) ≡ length (held x)} (λ y. y ∷ xs)
      (λ y h. omega (arith, h, length-append (held y) (flat_map held xs), length-append (held x) (flat_map held xs)))
      (mapped {P = λ new. Unit {0}} (rename x) (λ new h. same x new) (whatever (shorter_name ns (name x)) (λ new. tt)))
  renamed_alike ns (suc k) (x ∷ xs) =
      mapped (λ ys. x ∷ ys)
      (λ ys h. omega (arith, h, length-append (held x) (flat_map held ys), length-append (held x) (flat_map held xs)))
      (renamed_alike ns k xs)

types_alike : (k : ℕ) (ts : List Entry) → Perhaps (λ us. length us ≡ length ts) (types_simplified k ts)
types_alike k [] = nothing tt
types_alike k (e ∷ es) =
    either (nat_lt k (entry_items e + 1))
    (mapped {P = λ f. Unit {0}} (λ f. f ∷ es) (λ f h. refl)
    (whatever (itself_or (simpler_entry e) (λ j. entry_simplified j e) k) (λ f. tt)))
    (mapped (λ fs. e ∷ fs) (λ fs h. ap suc h) (types_alike (k - (entry_items e + 1)) es))

names_alike : {A : Type 0} (name : A → List ℕ) (rename : A → List ℕ → A) (ns : List (List ℕ)) (k : ℕ) (xs : List A)
    → Perhaps (λ ys. length ys ≡ length xs) (renamed_at name rename ns k xs)
names_alike name rename ns k xs =
    more (λ ys h. ap length (sym (all_alone ys)) ∙ h ∙ ap length (all_alone xs)) (renamed_alike name rename alone (λ x new. refl) ns k xs)

-- it is what it is
known : {A : Type 0} (o : Option A) → Perhaps (λ x. o ≡ Some x) o
known None = nothing tt
known (Some x) = gives x refl

-- As many imports, and of each sort.
record ImportsAlike (js is : List ImportEntry) : Type 0 where
  count : length js ≡ length is
  functions : length (flat_map functions_in js) ≡ length (flat_map functions_in is)
  modules : length (flat_map modules_of js) ≡ length (flat_map modules_of is)
  components : length (flat_map components_of js) ≡ length (flat_map components_of is)
  instances : length (flat_map instances_of js) ≡ length (flat_map instances_of is)

imports_alike : (ns : List (List ℕ)) (k : ℕ) (is : List ImportEntry)
    → Perhaps (λ js. ImportsAlike js is) (renamed_at (λ i. i.name) import_renamed ns k is)
imports_alike ns k is =
    more (λ js e. record {
      count = given js (names_alike (λ i. i.name) import_renamed ns k is) e;
      functions = of js functions_in (λ i new. refl) e;
      modules = of js modules_of (λ i new. refl) e;
      components = of js components_of (λ i new. refl) e;
      instances = of js instances_of (λ i new. refl) e;
    }) (known (renamed_at (λ i. i.name) import_renamed ns k is))
  where
    of : (js : List ImportEntry) (held : ImportEntry → List ℕ) → ((i : ImportEntry) (new : List ℕ) → length (held (import_renamed i new)) ≡ length (held i))
        → renamed_at (λ i. i.name) import_renamed ns k is ≡ Some js → length (flat_map held js) ≡ length (flat_map held is)
    of js held same e = given js (renamed_alike (λ i. i.name) import_renamed held same ns k is) e

-- The other has as many by itself, and in it at any depth.

record SectionAlike (p q : Part) : Type 0 where
  types : length (types_in q) ≡ length (types_in p)
  core_types : length (core_types_in q) ≡ length (core_types_in p)
  imports : length (imports_in q) ≡ length (imports_in p)
  functions : length (imported_functions_in q) ≡ length (imported_functions_in p)
  canons : length (canons_in q) ≡ length (canons_in p)
  exports : length (exports_in q) ≡ length (exports_in p)
  modules : length (anywhere_in modules_in q) ≡ length (anywhere_in modules_in p)
  components : length (anywhere_in components_in q) ≡ length (anywhere_in components_in p)
  imported_modules : length (anywhere_in imported_modules_in q) ≡ length (anywhere_in imported_modules_in p)
  imported_components : length (anywhere_in imported_components_in q) ≡ length (anywhere_in imported_components_in p)
  imported_instances : length (anywhere_in imported_instances_in q) ≡ length (anywhere_in imported_instances_in p)

record TreeAlike (t u : Tree) : Type 0 where
  types : length (own types_in u) ≡ length (own types_in t)
  core_types : length (own core_types_in u) ≡ length (own core_types_in t)
  imports : length (own imports_in u) ≡ length (own imports_in t)
  functions : length (own imported_functions_in u) ≡ length (own imported_functions_in t)
  canons : length (own canons_in u) ≡ length (own canons_in t)
  exports : length (own exports_in u) ≡ length (own exports_in t)
  modules : length (anywhere modules_in u) ≡ length (anywhere modules_in t)
  components : length (anywhere components_in u) ≡ length (anywhere components_in t)
  imported_modules : length (anywhere imported_modules_in u) ≡ length (anywhere imported_modules_in t)
  imported_components : length (anywhere imported_components_in u) ≡ length (anywhere imported_components_in t)
  imported_instances : length (anywhere imported_instances_in u) ≡ length (anywhere imported_instances_in t)

same_section : (p : Part) → SectionAlike p p
same_section p = grind arith

same_tree : (t : Tree) → TreeAlike t t
same_tree t = grind arith

first_alike : (p q : Part) (t u : Tree) → SectionAlike p q → TreeAlike t u → TreeAlike (first p t) (first q u)
first_alike p q t u h k = record {
  types = beside types_in h.types k.types;
  core_types = beside core_types_in h.core_types k.core_types;
  imports = beside imports_in h.imports k.imports;
  functions = beside imported_functions_in h.functions k.functions;
  canons = beside canons_in h.canons k.canons;
  exports = beside exports_in h.exports k.exports;
  modules = below modules_in h.modules k.modules;
  components = below components_in h.components k.components;
  imported_modules = below imported_modules_in h.imported_modules k.imported_modules;
  imported_components = below imported_components_in h.imported_components k.imported_components;
  imported_instances = below imported_instances_in h.imported_instances k.imported_instances;
}
  where
    beside : {A : Type 0} (held : Part → List A) → length (held q) ≡ length (held p) → length (own held u) ≡ length (own held t)
        → length (own held (first q u)) ≡ length (own held (first p t))
    beside held here rest = omega (arith, here, rest, length-append (held q) (own held u), length-append (held p) (own held t))

    below : {A : Type 0} (held : Part → List A) → length (anywhere_in held q) ≡ length (anywhere_in held p)
        → length (anywhere held u) ≡ length (anywhere held t) → length (anywhere held (first q u)) ≡ length (anywhere held (first p t))
    below held here rest =
        omega (arith, here, rest, length-append (anywhere_in held q) (anywhere held u), length-append (anywhere_in held p) (anywhere held t))

simpler_alike : (p : Part) → Perhaps (SectionAlike p) (simpler_part p)
simpler_alike (part.custom name []) = nothing tt
simpler_alike (part.custom name (b ∷ bs)) = gives (part.custom name []) (grind arith)
simpler_alike (part.core_module text) = either (bytes_eq text core_preamble) (nothing tt) (gives (part.core_module core_preamble) (grind arith))
simpler_alike p = nothing tt

mutual
  sections_alike : (is es : List (List ℕ)) (k : ℕ) (t : Tree) → Perhaps (TreeAlike t) (sections_simplified is es k t)
  sections_alike is es k ends = nothing tt
  sections_alike is es k (first p t) =
      either (nat_lt k (part_items p + 1))
      (mapped (λ q. first q t) (λ q h. first_alike p q t t h (same_tree t)) (itself k (simpler_alike p) (λ j. inside_alike is es j p)))
      (mapped (λ u. first p u) (λ u h. first_alike p p t u (same_section p) h) (sections_alike is es (k - (part_items p + 1)) t))

  inside_alike : (is es : List (List ℕ)) (k : ℕ) (p : Part) → Perhaps (SectionAlike p) (part_simplified is es k p)
  inside_alike is es k (part.component t) =
      mapped part.component (λ u h. grind (arith, h.modules, h.components, h.imported_modules, h.imported_components, h.imported_instances))
      (sections_alike (import_names (imports_of t)) (export_names (exports_of t)) k t)
  inside_alike is es k (part.types ts) = mapped part.types (λ us h. grind (arith, h)) (types_alike k ts)
  inside_alike is es k (part.imports js) =
      mapped part.imports (λ ys h. grind (arith, h.count, h.functions, h.modules, h.components, h.instances)) (imports_alike is k js)
  inside_alike is es k (part.exports fs) =
      mapped part.exports (λ ys h. grind (arith, h)) (names_alike (λ e. e.name) export_renamed es k fs)
  inside_alike is es k p = nothing tt

-- So a component that is alike has no more.

own_alike : (t u : Tree) → TreeAlike t u → NoMore u t
own_alike t u h = record {
  types = omega (arith, h.types);
  core_types = omega (arith, h.core_types);
  imports = omega (arith, h.imports);
  functions = omega (arith, h.functions);
  canons = omega (arith, h.canons);
  exports = omega (arith, h.exports);
}

anywhere_alike : (t u : Tree) → TreeAlike t u → NoMoreAnywhere u t
anywhere_alike t u h = record {
  modules = omega (arith, h.modules);
  components = omega (arith, h.components);
  imported_modules = omega (arith, h.imported_modules);
  imported_components = omega (arith, h.imported_components);
  imported_instances = omega (arith, h.imported_instances);
}

module _ (config : Config) where
  -- The components in a section keep maxima if they do in a simpler one.
  abbrev BackIn : Part → Part → Type 0
  BackIn p q = AllKeep config (anywhere_in components_in q) → AllKeep config (anywhere_in components_in p)

  abbrev BackFrom : Tree → Tree → Type 0
  BackFrom t u = AllKeep config (inside u) → AllKeep config (inside t)

  simpler_back : (p : Part) → Perhaps (BackIn p) (simpler_part p)
  simpler_back (part.custom name []) = nothing tt
  simpler_back (part.custom name (b ∷ bs)) = gives (part.custom name []) (λ all. tt)
  simpler_back (part.core_module text) = either (bytes_eq text core_preamble) (nothing tt) (gives (part.core_module core_preamble) (λ all. tt))
  simpler_back p = nothing tt

  both_back : (p q : Part) (t u : Tree) → BackIn p q → BackFrom t u → BackFrom (first p t) (first q u)
  both_back p q t u here rest all =
      all_both (KeepsOwnMaxima config) (anywhere_in components_in p) (inside t)
      (here (all_front (KeepsOwnMaxima config) (anywhere_in components_in q) (inside u) all))
      (rest (all_back (KeepsOwnMaxima config) (anywhere_in components_in q) (inside u) all))

  mutual
    sections_back : (is es : List (List ℕ)) (k : ℕ) (t : Tree) → Perhaps (BackFrom t) (sections_simplified is es k t)
    sections_back is es k ends = nothing tt
    sections_back is es k (first p t) =
        either (nat_lt k (part_items p + 1))
        (mapped (λ q. first q t) (λ q h. both_back p q t t h (λ all. all)) (itself k (simpler_back p) (λ j. inside_back is es j p)))
        (mapped (λ u. first p u) (λ u h. both_back p p t u (λ all. all) h) (sections_back is es (k - (part_items p + 1)) t))

    inside_back : (is es : List (List ℕ)) (k : ℕ) (p : Part) → Perhaps (BackIn p) (part_simplified is es k p)
    inside_back is es k (part.component t) =
        let imports = import_names (imports_of t) in
        let exports = export_names (exports_of t) in
        mapped part.component (λ u h all. (kept config u t (own_alike t u h.0) all.0, h.1 all.1))
        (both (sections_alike imports exports k t) (sections_back imports exports k t))
    inside_back is es k (part.types ts) = mapped part.types (λ us h all. tt) (types_alike k ts)
    inside_back is es k (part.imports js) = mapped part.imports (λ ys h all. tt) (imports_alike is k js)
    inside_back is es k (part.exports fs) = mapped part.exports (λ ys h all. tt) (names_alike (λ e. e.name) export_renamed es k fs)
    inside_back is es k p = nothing tt

pub maxima_simplified : (config : Config) (k : ℕ) (t simpler : Tree) → component_at k t ≡ None → simplified k t ≡ Some simpler
    → KeepsMaxima config simpler → KeepsMaxima config t
maxima_simplified config k t u none e keeps =
    let in_place : simplified k t ≡ sections_of k t = ap (λ (o : Option Tree). elim o [ None ↦ sections_of k t | Some v ↦ Some v ]) none in
    let imports = import_names (imports_of t) in
    let exports = export_names (exports_of t) in
    let is : sections_simplified imports exports k t ≡ Some u = sym in_place ∙ e in
    let alike = given u (sections_alike imports exports k t) is in
    all_kept config u t (anywhere_alike t u alike) (given u (sections_back config imports exports k t) is) (own_alike t u alike) keeps
