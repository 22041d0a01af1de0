-- What holds of a type that is made: it leaves a tail of the bytes, is well formed, of what was offered and within the limits, its names
-- can be read, it takes no more fuel than there was, and its types are declared where one more scope may nest.
use Rattle.std.proofs.Common.{◌≡◌, ℕ, zero, suc, ◌+◌, ◌-◌, ◌<◌, ◌≤◌, Bool, true, false, List, [], ◌∷◌, ◌++◌, length, refl, sym, ◌∙◌, subst, arith, append-nil}
use Rattle.std.proofs.Common.{append_assoc}
use Rattle.std.proofs.lemmas.Bool.{false≢true}
use Rattle.std.proofs.lemmas.List.{map-append}
use Rattle.std.specs.List.{AllByRecursion}
use Rattle.std.specs.Prelude.{drop, max}
use Rattle.smith_input.specs.Choices.{ReadsAmong}
use Rattle.smith_input.specs.Kebab.{Kebab}
use Rattle.smith_input.specs.Names.{ReadsNew}
use Rattle.smith_input.specs.Reading.{IsTail}
use Rattle.smith_input.proofs.Choices.{among_tail}
use Rattle.smith_input.proofs.DistinctNames.{AreNew, new_distinct}
use Rattle.smith_input.proofs.Lists.{all_both}
use Rattle.smith_input.proofs.NameScript.{new_reachable}
use Rattle.smith_input.proofs.NewNames.{new_kebab}
use Rattle.smith_input.proofs.Reading.{tail_same, tail_trans, more_tail, more_within}
use Rattle.smith_format.specs.declared.config.Config.{Config}
use Rattle.smith_syntax.specs.Entries.{Entry, Decl, Decls, FullEntry, FullDecl, FullDecls, plain, plain_decl, plain_decls, decl_count, DefValType, Signature}
use Rattle.smith_syntax.specs.Entries.{defined, function, component_type, instance_type, core_type_decl, type_decl, type_alias, core_type_alias, import_decl}
use Rattle.smith_syntax.specs.Entries.{export_decl, no_decls, then_decls}
use Rattle.smith_syntax.specs.Marked.{Marked, first_marked, marked_after, scope_in, scopes_in_marked}
use Rattle.smith_syntax.specs.Nesting.{nesting, decl_nesting, decls_nesting}
use Rattle.smith_syntax.specs.Scope.{after_decl}
use Rattle.smith_syntax.specs.TypeLimits.{EntryLimits, DeclLimits, DeclsLimits}
use Rattle.smith_syntax.specs.Usable.{OfferedDecls}
use Rattle.smith_syntax.specs.WellFormed.{FormedDeclarations, Named, names, import_of, export_of, decl_imports, decl_exports, size, decl_size, decls_size}
use Rattle.smith_syntax.specs.WellFormed.{defined_size}
use Rattle.smith_tree.specs.ReadableTypes.{IsReadableType, IsReadableDecl, AreReadableDecls}
use Rattle.smith_tree.specs.TypeNeeds.{need_of, need, decl_need, decls_need, cost, decl_cost, decls_cost, declaring, decl_declaring, decls_declaring}
use Rattle.smith_tree.specs.declared.choices.DeclarationItem.{DeclarationItem}
use Rattle.smith_tree.specs.declared.choices.DeclarationItem.TheVariants as item
use Rattle.smith_tree.proofs.TypeNeeds.{decl_costs, declared_within, Nests, DeclNests, DeclsNest}
use Rattle.smith_types.proofs.MadeCore.{core_fits}
use Rattle.smith_types.proofs.Takes.{Takes, used}
use Rattle.smith_types.specs.Declarations.{NoImportDecl, SoFar, nothing_so_far, after_one}
use Rattle.smith_types.specs.Made.{Made, spent_type, made_defined, made_function, made_component, made_instance, MadeDeclaration, made_import, made_export}
use Rattle.smith_types.specs.Made.{made_alias, made_core_type, made_type, MadeDeclarations, no_more_decls, spent_decls, one_decl}
use Rattle.smith_types.proofs.Externs.{names_behind}
use Rattle.smith_types.proofs.Judged.{IsType}
use Rattle.smith_types.proofs.Made.{DefinedFits, FunctionFits, defined_fits, function_fits}
use Rattle.smith_types.proofs.MarkedPlain.{after_plain, scope_after, import_plain, export_plain}
use Rattle.smith_types.proofs.ReadsDeclarations.{IsDeclaration, alias_holds, alias_is, import_is, export_is, import_tail, export_tail, alias_tail}
use Rattle.smith_types.proofs.ReadsDeclarations.{no_import_tail, item_offered}

-- what is made takes of the fuel

takes_none : (left fuel : ℕ) → left ≤ fuel → Takes 0 0 0 left fuel
takes_none left fuel h = record { within = omega arith; enough = omega arith; leaves = omega arith }

needed : (n held fuel : ℕ) → used n ≤ held → held ≤ fuel - 1 → need_of n ≤ fuel
needed zero held fuel h le = omega arith
needed (suc n) held fuel h le = omega (arith, h, le)

values_take : (n held left fuel : ℕ) → held ≤ fuel - 1 → n + left ≤ held → used n ≤ held → Takes n (n + 1) (need_of n) left fuel
values_take n held left fuel le within uses = record {
  within = omega (arith, le, within);
  enough = needed n held fuel uses le;
  leaves = omega (arith, le, within);
}

function_takes : (n left fuel : ℕ) → 0 < fuel - 1 → n + left ≤ fuel - 1 → n + 1 ≤ fuel - 1 → Takes n (n + 1) (n + 2) left fuel
function_takes n left fuel lasts within uses = record { within = omega arith; enough = omega arith; leaves = omega arith }

scope_takes : (n c k left fuel : ℕ) → 0 < fuel - 1 → Takes n c k left (fuel - 1) → Takes n (c + 1) (max 2 (k + 1)) left fuel
scope_takes n c k left fuel lasts t = record {
  within = omega (arith, t.within);
  enough = omega (arith, lasts, t.enough);
  leaves = omega (arith, t.leaves);
}

-- a turn of a loop, and those after it
turn_takes : (n c k m a l held left fuel : ℕ) → 0 < fuel - 1 → c ≤ max 1 k → Takes n c k held (fuel - 1) → Takes m a l left held
    → Takes (n + m + 1) (c + a + 1) (max 2 (max (k + 1) (l + c + 1))) left fuel
turn_takes n c k m a l held left fuel lasts costs one later = record {
  within = omega (arith, lasts, one.within, later.within);
  enough = omega (arith, lasts, costs, one.enough, one.leaves, later.enough);
  leaves = omega (arith, one.leaves, later.leaves);
}

-- names

-- These names are in kebab case, and each is none of those before it.
abbrev pub NewNames : List (List ℕ) → List (List ℕ) → Type 0
NewNames so_far more = AreNew so_far more × AllByRecursion Kebab more

new_name : {max : ℕ} {so_far : List (List ℕ)} {b name rest : List ℕ} → ReadsNew max so_far b name rest → NewNames so_far (name ∷ [])
new_name r = ((r.unique.is_new, tt), (new_kebab r, tt))

new_append : (before ns ms : List (List ℕ)) → AreNew before ns → AreNew (before ++ ns) ms → AreNew before (ns ++ ms)
new_append before [] ms a b = subst (λ z. AreNew z ms) (append-nil before) b
new_append before (n ∷ ns) ms a b = (a.0, new_append (before ++ n ∷ []) ns ms a.1 (subst (λ z. AreNew z ms) (sym (append_assoc before (n ∷ []) ns)) b))

names_after : (so_far : List (List ℕ)) (one later : List (List ℕ × Unit {0})) → NewNames so_far (names one) → NewNames (so_far ++ names one) (names later)
    → NewNames so_far (names (one ++ later))
names_after so_far one later x y = subst (NewNames so_far) (sym (map-append (λ z. z.0) one later))
    (new_append so_far (names one) (names later) x.0 y.0, all_both Kebab (names one) (names later) x.1 y.1)

all_named : (ns : List (List ℕ)) → NewNames [] ns → Named ns
all_named ns new = (new.1, new_distinct [] ns new.0)

-- what holds of a type, of a declaration, and of declarations

pub record Fits (config : Config) (own : Marked) (outer : List Marked) (b : List ℕ) (fuel : ℕ) (e : FullEntry) (rest : List ℕ) (left : ℕ) : Type 0 where
  pub tail : IsTail rest b
  pub is : IsType (plain e) own outer
  pub limits : EntryLimits config (plain e)
  pub readable : IsReadableType config (plain e)
  pub takes : Takes (size (plain e)) (cost (plain e)) (need (plain e)) left fuel
  pub nests : Nests (plain e) config (length (own ∷ outer))

pub record DeclFits (config : Config) (importing : Bool) (outer : List Marked) (s : SoFar) (b : List ℕ) (fuel : ℕ) (d : FullDecl) (rest : List ℕ) (left : ℕ)
    : Type 0 where
  pub tail : IsTail rest b
  pub is : IsDeclaration d s.own outer
  pub limits : DeclLimits config (plain_decl d)
  pub readable : IsReadableDecl config (plain_decl d) (names s.imports) (names s.exports)
  pub imports : NewNames (names s.imports) (names (import_of (plain_decl d)))
  pub exports : NewNames (names s.exports) (names (export_of (plain_decl d)))
  pub instance_imports : importing ≡ false → import_of (plain_decl d) ≡ []
  pub takes : Takes (decl_size (plain_decl d)) (decl_cost (plain_decl d)) (decl_need (plain_decl d)) left fuel
  pub nests : DeclNests (plain_decl d) config (length (s.own ∷ outer))

abbrev AreDeclarations : FullDecls → Marked → List Marked → Type 0
AreDeclarations ds own outer = FormedDeclarations (plain_decls ds) (scope_in own) (scopes_in_marked outer) × OfferedDecls (plain_decls ds) outer own

pub record DeclsFit (config : Config) (importing : Bool) (outer : List Marked) (done : ℕ) (s : SoFar) (b : List ℕ) (fuel : ℕ) (ds : FullDecls)
    (rest : List ℕ) (left : ℕ) : Type 0 where
  pub tail : IsTail rest b
  pub are : AreDeclarations ds s.own outer
  pub few : done ≤ 100 → done + decl_count (plain_decls ds) ≤ 100
  pub limits : DeclsLimits config (plain_decls ds)
  pub readable : AreReadableDecls config (plain_decls ds) (names s.imports) (names s.exports)
  pub imports : NewNames (names s.imports) (names (decl_imports (plain_decls ds)))
  pub exports : NewNames (names s.exports) (names (decl_exports (plain_decls ds)))
  pub instance_imports : importing ≡ false → decl_imports (plain_decls ds) ≡ []
  pub takes : Takes (decls_size (plain_decls ds)) (decls_cost (plain_decls ds)) (decls_need (plain_decls ds)) left fuel
  pub nests : DeclsNest (plain_decls ds) config (length (s.own ∷ outer))

module _ {config : Config} {own : Marked} {outer : List Marked} {b rest : List ℕ} {fuel left : ℕ} where
  fits_as : {e x : FullEntry} → e ≡ x → Fits config own outer b fuel x rest left → Fits config own outer b fuel e rest left
  fits_as same f = subst (λ z. Fits config own outer b fuel z rest left) (sym same) f

  values_fit : {mid : List ℕ} {held : ℕ} {t : DefValType} → IsTail mid b → held ≤ fuel - 1 → DefinedFits config own mid held t rest left
      → Fits config own outer b fuel (defined t) rest left
  values_fit {held = held} {t = t} before le d = record {
    tail = tail_trans d.tail before;
    is = d.is;
    limits = tt;
    readable = d.readable;
    takes = values_take (defined_size t) held left fuel le d.within d.uses;
    nests = tt;
  }

  function_fit : {mid : List ℕ} {s : Signature} → IsTail mid b → 0 < fuel - 1 → FunctionFits config own mid (fuel - 1) s rest left
      → Fits config own outer b fuel (function s) rest left
  function_fit {s = s} before lasts f = record {
    tail = tail_trans f.tail before;
    is = f.is outer;
    limits = tt;
    readable = f.readable;
    takes = function_takes (size (function s)) left fuel lasts f.within (f.uses lasts);
    nests = tt;
  }

  component_fits : {mid : List ℕ} {ds : FullDecls} → IsTail mid b → 0 < fuel - 1
      → DeclsFit config true (own ∷ outer) 0 (nothing_so_far (own ∷ outer)) mid (fuel - 1) ds rest left
      → Fits config own outer b fuel (component_type ds) rest left
  component_fits {ds = ds} before lasts f = record {
    tail = tail_trans f.tail before;
    is = ((f.are.0, all_named (names (decl_imports (plain_decls ds))) f.imports, all_named (names (decl_exports (plain_decls ds))) f.exports), f.are.1);
    limits = (let few = f.few (omega arith) in omega (arith, few), f.limits);
    readable = f.readable;
    takes = scope_takes (decls_size (plain_decls ds)) (decls_cost (plain_decls ds)) (decls_need (plain_decls ds)) left fuel lasts f.takes;
    nests = f.nests;
  }

  instance_fits : {mid : List ℕ} {ds : FullDecls} → IsTail mid b → 0 < fuel - 1
      → DeclsFit config false (own ∷ outer) 0 (nothing_so_far (own ∷ outer)) mid (fuel - 1) ds rest left
      → Fits config own outer b fuel (instance_type ds) rest left
  instance_fits {ds = ds} before lasts f = record {
    tail = tail_trans f.tail before;
    is = ((f.are.0, f.instance_imports refl, all_named (names (decl_exports (plain_decls ds))) f.exports), f.are.1);
    limits = (let few = f.few (omega arith) in omega (arith, few), f.limits);
    readable = f.readable;
    takes = scope_takes (decls_size (plain_decls ds)) (decls_cost (plain_decls ds)) (decls_need (plain_decls ds)) left fuel lasts f.takes;
    nests = f.nests;
  }

-- neither a type nor a core type
abbrev IsBare : FullDecl → Type 0
IsBare (core_type_decl t k) = ⊥
IsBare (type_decl e) = ⊥
IsBare d = Unit {0}

-- a declaration, if it is well formed and of what was offered
abbrev IfDeclared : Config → Bool → List Marked → SoFar → List ℕ → ℕ → List ℕ → ℕ → FullDecl → Type 0
IfDeclared config importing outer s b fuel rest left d = IsDeclaration d s.own outer → DeclFits config importing outer s b fuel d rest left

item_tail : {config : Config} {importing : Bool} {own : Marked} {b mid low : List ℕ} {xs : List DeclarationItem} {i : DeclarationItem}
    → NoImportDecl config importing own b mid → ReadsAmong xs mid i low → IsTail low b
item_tail {config} {importing} {own} {b} {mid} none c = tail_trans (among_tail c) (no_import_tail config own importing b mid none)

module _ {config : Config} {importing : Bool} {outer : List Marked} {s : SoFar} {b rest : List ℕ} {fuel left : ℕ} where
  decl_as : {d x : FullDecl} → d ≡ x → DeclFits config importing outer s b fuel x rest left → DeclFits config importing outer s b fuel d rest left
  decl_as same f = subst (λ z. DeclFits config importing outer s b fuel z rest left) (sym same) f

  bare_fits : (d : FullDecl) → IsBare d → left ≡ fuel → IsTail rest b → IsReadableDecl config (plain_decl d) (names s.imports) (names s.exports)
      → NewNames (names s.imports) (names (import_of (plain_decl d))) → NewNames (names s.exports) (names (export_of (plain_decl d)))
      → (importing ≡ false → import_of (plain_decl d) ≡ []) → IfDeclared config importing outer s b fuel rest left d
  bare_fits (core_type_decl t k) bare l tail readable imports exports none is = absurd bare
  bare_fits (type_decl e) bare l tail readable imports exports none is = absurd bare
  bare_fits d bare l tail readable imports exports none is = record {
    tail = tail;
    is = is;
    limits = tt;
    readable = readable;
    imports = imports;
    exports = exports;
    instance_imports = none;
    takes = takes_none left fuel (omega (arith, l));
    nests = tt;
  }

no_decls_fit : {config : Config} {importing : Bool} {outer : List Marked} {done : ℕ} {s : SoFar} {b rest : List ℕ} {fuel left : ℕ} → IsTail rest b
    → left ≤ fuel → DeclsFit config importing outer done s b fuel no_decls rest left
no_decls_fit {fuel = fuel} {left = left} tail le = record {
  tail = tail;
  are = (tt, tt);
  few = λ few. omega arith;
  limits = tt;
  readable = tt;
  imports = (tt, tt);
  exports = (tt, tt);
  instance_imports = λ never. refl;
  takes = takes_none left fuel le;
  nests = tt;
}

-- those after one
are_after : (d : FullDecl) (ds : FullDecls) (own : Marked) (outer : List Marked) → AreDeclarations ds (marked_after d outer own) outer
    → FormedDeclarations (plain_decls ds) (after_decl (scopes_in_marked outer) (scope_in own) (plain_decl d)) (scopes_in_marked outer)
    × OfferedDecls (plain_decls ds) outer (marked_after (plain_decl d) outer own)
are_after d ds own outer h =
    let back = subst (λ z. AreDeclarations ds z outer) (sym (after_plain outer own d)) h in
    (subst (λ z. FormedDeclarations (plain_decls ds) z (scopes_in_marked outer)) (scope_after outer own (plain_decl d)) back.0, back.1)

one_fits : {config : Config} {importing : Bool} {outer : List Marked} {done : ℕ} {s : SoFar} {b mid low rest : List ℕ} {fuel held left : ℕ} {d : FullDecl}
    {ds : FullDecls} → IsTail mid b → done < 100 → 0 < fuel - 1 → DeclFits config importing outer s mid (fuel - 1) d low held
    → DeclsFit config importing outer (done + 1) (after_one outer s d) low held ds rest left
    → DeclsFit config importing outer done s b fuel (then_decls d ds) rest left
one_fits {config = config} {outer = outer} {done = done} {s = s} {fuel = fuel} {held = held} {left = left} {d = d} {ds = ds} before lt lasts one later =
    let e : Decl = plain_decl d in
    let es : Decls = plain_decls ds in
    let imports = sym (names_behind s.imports (import_of d) (import_of e) (import_plain d)) in
    let exports = sym (names_behind s.exports (export_of d) (export_of e) (export_plain d)) in
    let behind = are_after d ds s.own outer later.are in
    record {
      tail = tail_trans later.tail (tail_trans one.tail before);
      are = ((one.is.0, behind.0), (one.is.1, behind.1));
      few = λ h. let few = later.few (omega (arith, lt)) in omega (arith, few);
      limits = (one.limits, later.limits);
      readable = (
        one.readable,
        subst (λ z. AreReadableDecls config es z (names s.exports ++ names (export_of e))) imports
            (subst (λ z. AreReadableDecls config es (names (after_one outer s d).imports) z) exports later.readable),
      );
      imports = names_after (names s.imports) (import_of e) (decl_imports es) one.imports
          (subst (λ z. NewNames z (names (decl_imports es))) imports later.imports);
      exports = names_after (names s.exports) (export_of e) (decl_exports es) one.exports
          (subst (λ z. NewNames z (names (decl_exports es))) exports later.exports);
      instance_imports = λ never. λ i. one.instance_imports never i ++ later.instance_imports never i;
      takes = turn_takes (decl_size e) (decl_cost e) (decl_need e) (decls_size es) (decls_cost es) (decls_need es) held left fuel lasts (decl_costs e)
          one.takes later.takes;
      nests = (one.nests, later.nests);
    }

mutual
  pub made_fits : {config : Config} {own : Marked} {outer : List Marked} {b : List ℕ} {fuel : ℕ} {e : FullEntry} {rest : List ℕ} {left : ℕ}
      → Made config own outer b fuel e rest left → Fits config own outer b fuel e rest left
  made_fits {b = b} (spent_type f d i) = fits_as i (values_fit (tail_same b) (omega arith) (defined_fits d))
  made_fits (made_defined f c d i) = fits_as i (values_fit (among_tail c) (omega arith) (defined_fits d))
  made_fits (made_function f c d i) = fits_as i (function_fit (among_tail c) f (function_fits d))
  made_fits (made_component f c d i) = fits_as i (component_fits (among_tail c) f (declarations_fit d))
  made_fits (made_instance f c d i) = fits_as i (instance_fits (among_tail c) f (declarations_fit d))

  pub declaration_fits : {config : Config} {importing : Bool} {outer : List Marked} {s : SoFar} {b : List ℕ} {fuel : ℕ} {d : FullDecl} {rest : List ℕ}
      {left : ℕ} → MadeDeclaration config importing outer s b fuel d rest left → DeclFits config importing outer s b fuel d rest left
  declaration_fits {config} {importing} {outer} {s} {b} {fuel} {d} {rest} {left} (made_import asked r l) =
      subst (IfDeclared config importing outer s b fuel rest left) (sym r.is)
      (bare_fits (import_decl r.named.0 r.named.1 r.to) tt l (import_tail config s.own s.imports b d rest r) (new_reachable r.name.name)
      (new_name r.name.name) (tt, tt) (λ never. absurd (false≢true (sym never ∙ asked)))) (import_is config s.own outer s.imports b d rest r)
  declaration_fits {config} {importing} {outer} {s} {b} {fuel} {d} {rest} {left} (made_export {low = low} n c r l) =
      subst (IfDeclared config importing outer s b fuel rest left) (sym r.is)
      (bare_fits (export_decl r.named.0 r.named.1 r.to) tt l (tail_trans (export_tail config s.own s.exports low d rest r) (item_tail n c))
      (new_reachable r.name.name) (tt, tt) (new_name r.name.name) (λ never. refl)) (export_is config s.own outer s.exports low d rest r)
  declaration_fits {config} {importing} {outer} {s} {b} {fuel} {d} {rest} {left} (made_alias {low = low} n c r l) =
      let tail = tail_trans (alias_tail (s.own ∷ outer) low d rest r) (item_tail n c) in
      alias_holds (IfDeclared config importing outer s b fuel rest left)
      (λ count i k. bare_fits (type_alias count i k) tt l tail tt (tt, tt) (tt, tt) (λ never. refl))
      (λ count i k. bare_fits (core_type_alias count i k) tt l tail tt (tt, tt) (tt, tt) (λ never. refl)) (s.own ∷ outer) low d rest r
      (alias_is s.own outer low d rest r)
  declaration_fits (made_core_type n c m i) =
      let f = core_fits m in
      decl_as i (record {
        tail = tail_trans f.tail (item_tail n c);
        is = (f.formed, tt);
        limits = f.limits;
        readable = f.readable;
        imports = (tt, tt);
        exports = (tt, tt);
        instance_imports = λ never. refl;
        takes = f.takes;
        nests = tt;
      })
  declaration_fits {config} {outer = outer} {s = s} (made_type n c m i) =
      let f = made_fits m in
      decl_as i (record {
        tail = tail_trans f.tail (item_tail n c);
        is = f.is;
        limits = f.limits;
        readable = f.readable;
        imports = (tt, tt);
        exports = (tt, tt);
        instance_imports = λ never. refl;
        takes = f.takes;
        nests = (item_offered config outer s.own c.place item.«Type» c.named, f.nests);
      })

  declarations_fit : {config : Config} {importing : Bool} {outer : List Marked} {done : ℕ} {s : SoFar} {b : List ℕ} {fuel : ℕ} {ds : FullDecls}
      {rest : List ℕ} {left : ℕ} → MadeDeclarations config importing outer done s b fuel ds rest left
      → DeclsFit config importing outer done s b fuel ds rest left
  declarations_fit (no_more_decls m l) = no_decls_fit (more_tail m) (omega (arith, l))
  declarations_fit (spent_decls m f l) = no_decls_fit (more_tail m) (omega (arith, l))
  declarations_fit (one_decl m f one later) = one_fits (more_tail m) (more_within m) f (declaration_fits one) (declarations_fit later)

-- A type nests no deeper than its declared types, and a scope of its own.
mutual
  nested : (e : Entry) → nesting e ≤ max 1 (declaring e)
  nested (component_type ds) = decls_nested ds
  nested (instance_type ds) = decls_nested ds
  nested e = omega arith

  decl_nested : (d : Decl) → decl_nesting d + 1 ≤ max 1 (decl_declaring d)
  decl_nested (type_decl e) = omega (arith, nested e)
  decl_nested d = omega arith

  decls_nested : (ds : Decls) → decls_nesting ds + 1 ≤ max 1 (decls_declaring ds)
  decls_nested no_decls = omega arith
  decls_nested (then_decls d ds) = omega (arith, decl_nested d, decls_nested ds)

-- The same for a stack of scopes, also for none.
pub nesting_within : (config : Config) (ss : List Marked) (e : Entry) → Nests e config (length (first_marked ss ∷ drop 1 ss))
    → length ss + nesting e ≤ max (length ss + 1) config.max_nesting_depth
nesting_within config [] e n = omega (arith, nested e, declared_within e config 1 n)
nesting_within config (s ∷ ss) e n = omega (arith, nested e, declared_within e config (length (s ∷ ss)) n)
