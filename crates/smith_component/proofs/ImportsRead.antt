-- The script of imports is read as them.
use Rattle.std.proofs.Common.{◌≡◌, ℕ, ◌+◌, ◌-◌, ◌<◌, ◌≤◌, ◌^◌, true, false, List, [], ◌∷◌, ◌++◌, map, length, arith, refl, sym, ap, ◌∙◌, subst, append_assoc}
use Rattle.std.proofs.Common.{append-nil, nat_lt, None}
use Rattle.std.proofs.lemmas.Bool.Decides.{nat_tests}
use Rattle.std.proofs.lemmas.List.{length-append, length-map}
use Rattle.std.specs.List.{AllByRecursion}
use Rattle.smith_input.specs.Kebab.{Kebab}
use Rattle.smith_input.specs.Loops.{Along, Loop, after_all}
use Rattle.smith_input.specs.Names.{ReadsNew}
use Rattle.smith_input.specs.NameScript.{AreReachable, IsReachable, script_new}
use Rattle.smith_input.proofs.Loops.{loop_read}
use Rattle.smith_input.proofs.NameScript.{new_script_read}
use Rattle.smith_input.proofs.Reading.{flips_zero}
use Rattle.smith_format.specs.declared.config.Config.{Config}
use Rattle.smith_syntax.specs.Entries.{ImportEntry}
use Rattle.smith_syntax.specs.Marked.{Marked}
use Rattle.smith_syntax.specs.Scope.{Scope}
use Rattle.smith_syntax.specs.Usable.{OfferedRef}
use Rattle.smith_syntax.specs.WellFormed.{FormedRef, Named, names, is_type_eq}
use Rattle.smith_syntax.specs.declared.deftype.ComponentTypeRef.{ComponentTypeRef}
use Rattle.smith_syntax.specs.declared.deftype.ComponentTypeRef.TheVariants as to
use Rattle.smith_types.specs.Declarations.{NamedExtern, no_url}
use Rattle.smith_tree.specs.TypeScript.{script_ref}
use Rattle.smith_tree.specs.declared.totals.RefTotals.{RefTotals}
use Rattle.smith_types.proofs.ReferencesRead.{ref_read}
use Rattle.smith_tree.specs.TypeOffers.{IsAllowed, has_room}
use Rattle.smith_component.specs.Imports.{NoImport, ReadsImport, ReadsImports}
use Rattle.smith_tree.specs.Marking.{marked_inner}
use Rattle.smith_tree.specs.Offered.{OfferedImports}
use Rattle.smith_tree.specs.Offers.{marked_with_imports, totals_of, with_imports}
use Rattle.smith_tree.specs.Open.{Open}
use Rattle.smith_tree.specs.Script.{script_import, script_imports}
use Rattle.smith_tree.specs.Spaces.{core_types_of, types_of}
use Rattle.smith_tree.specs.Tree.{module_of, function_of, component_of, instance_of, imports_of}
use Rattle.smith_tree.specs.WellFormed.{FormedImport, import_names, scope_of}
use Rattle.smith_component.proofs.SectionsState.{modules_more, funcs_more, components_more, imports_marked, imports_marked_more, imports_scope, instances_more}
use Rattle.smith_component.proofs.Named.{named_behind, names_with_more}

-- names with no URLs
abbrev plain_names : List (List ℕ) → List NamedExtern
plain_names ns = map (λ n. (n, None)) ns

plain_names_are : (ns : List (List ℕ)) → names (plain_names ns) ≡ ns
plain_names_are [] = refl
plain_names_are (n ∷ ns) = λ i. n ∷ plain_names_are ns i

-- each entry is one more of the state, so that the last state is all of them
pub all_of_them : {A : Type 0} (s xs : List A) → after_all (λ t x. t ++ x ∷ []) s xs ≡ s ++ xs
all_of_them s [] = sym (append-nil s)
all_of_them s (x ∷ xs) = all_of_them (s ++ x ∷ []) xs ∙ append_assoc s (x ∷ []) xs

-- that no more is counted than may be
pub record Room (config : Config) (t : RefTotals) : Type 0 where
  pub modules : t.modules ≤ config.max_modules
  pub funcs : t.funcs ≤ config.max_funcs
  pub components : t.components ≤ config.max_components
  pub instances : t.instances ≤ config.max_instances

module _ (config : Config) (stack : Open) (few : length (types_of stack.inner) + length (core_types_of stack.inner) ≤ 2 ^ 64) where
  -- the names of the component's imports and of these
  abbrev names_at : List ImportEntry → List (List ℕ)
  names_at s = import_names (imports_of stack.inner ++ s)

  names_count : (s : List ImportEntry) → length (names_at s) ≡ length (imports_of stack.inner) + length s
  names_count s = length-map (imports_of stack.inner ++ s) (λ (i : ImportEntry). i.name) ∙ length-append (imports_of stack.inner) s

  abbrev totals_at : List ImportEntry → RefTotals
  totals_at s = totals_of (with_imports stack s)

  -- the scope of the component with these
  abbrev marked_at : List ImportEntry → Marked
  marked_at s = marked_with_imports config stack s

  pub few_at : (s : List ImportEntry) → length (marked_at s).types + length (marked_at s).core_types ≤ 2 ^ 64
  few_at s = grind (arith, imports_scope)

  -- an import that can be said after others
  record Sayable (s : List ImportEntry) (x : ImportEntry) : Type 0 where
    formed : FormedImport (scope_of stack.inner) x
    offered : OfferedRef (marked_at s) true x.to
    lasts : has_room (marked_at s) false ≡ true
    kebab : Kebab x.name
    reachable : IsReachable config.max_name_length (names_at s) x.name
    short : config.max_name_length < 2 ^ 64
    room : IsAllowed config (marked_at s) (totals_at s) true false x.to

  import_read : (s : List ImportEntry) (x : ImportEntry) (rest : List ℕ) → Sayable s x
      → ReadsImport config stack s (script_import config stack s x ++ rest) x rest (s ++ x ∷ [])
  import_read s x rest h =
      let a : List ℕ = script_ref config (marked_at s) (totals_at s) true false x.to in
      let n : List ℕ = script_new config.max_name_length (length (imports_of stack.inner) + length s) x.name in
      let whole : (a ++ (n ++ 0 ∷ [])) ++ rest ≡ a ++ (n ++ (0 ∷ rest)) = append_assoc a (n ++ 0 ∷ []) rest ∙ ap (λ z. a ++ z) (append_assoc n (0 ∷ []) rest) in
      let so_far : List NamedExtern = plain_names (names_at s) in
      let same : names so_far ≡ names_at s = plain_names_are (names_at s) in
      subst (λ z. ReadsImport config stack s z x rest (s ++ x ∷ [])) (sym whole) (record {
        mid = n ++ (0 ∷ rest);
        so_far = so_far;
        url = None;
        of = ref_read config (marked_at s) (totals_at s) true false (few_at s) x.to (n ++ (0 ∷ rest))
            (subst (λ (own : Scope). FormedRef own x.to) (sym (imports_scope config stack s)) h.formed.0) h.offered h.lasts h.room;
        names_are = same;
        named = record {
          mid = 0 ∷ rest;
          name = subst (λ z. ReadsNew config.max_name_length z (n ++ (0 ∷ rest)) x.name (0 ∷ rest)) (sym same)
              (subst (λ c. ReadsNew config.max_name_length (names_at s) (script_new config.max_name_length c x.name ++ (0 ∷ rest)) x.name (0 ∷ rest))
              (names_count s)
              (new_script_read config.max_name_length (names_at s) x.name (0 ∷ rest) (let short = h.short in omega (arith, short)) h.kebab h.reachable));
          url = no_url (flips_zero rest);
        };
        next_is = refl;
      })

  -- imports add to what is counted
  room_before : (s xs : List ImportEntry) → Room config (totals_at (s ++ xs)) → Room config (totals_at s)
  room_before s [] r = subst (λ z. Room config (totals_at z)) (append-nil s) r
  room_before s (x ∷ xs) r =
      let next : Room config (totals_at (s ++ x ∷ [])) = room_before (s ++ x ∷ []) xs
      (subst (λ z. Room config (totals_at z)) (sym (append_assoc s (x ∷ []) xs)) r) in
      record {
        modules = omega (arith, next.modules, modules_more stack s x);
        funcs = omega (arith, next.funcs, funcs_more stack s x);
        components = omega (arith, next.components, components_more stack s x);
        instances = omega (arith, next.instances, instances_more stack s x);
      }

  below : (n m : ℕ) → n < m → nat_lt n m ≡ true
  below n m h = grind (arith, nat_tests)

  one_allowed : (s : List ImportEntry) (x : ImportEntry) (r : ComponentTypeRef) → x.to ≡ r → is_type_eq r ≡ false → Room config (totals_at (s ++ x ∷ []))
      → IsAllowed config (marked_at s) (totals_at s) true false r
  one_allowed s x (to.Module i) e f r = below _ _ (omega (arith, r.modules, modules_more stack s x, ap (λ z. length (module_of z)) e))
  one_allowed s x (to.TypeEq i) e f r = absurd (cc)
  one_allowed s x (to.Func i) e f r = below _ _ (omega (arith, r.funcs, funcs_more stack s x, ap (λ z. length (function_of z)) e))
  one_allowed s x (to.Component i) e f r = below _ _ (omega (arith, r.components, components_more stack s x, ap (λ z. length (component_of z)) e))
  one_allowed s x (to.Instance i) e f r = below _ _ (omega (arith, r.instances, instances_more stack s x, ap (λ z. length (instance_of z)) e))

  all_sayable : config.max_name_length < 2 ^ 64 → (s xs : List ImportEntry) → AreReachable config.max_name_length (names_at s) (import_names xs)
      → AllByRecursion (FormedImport (scope_of stack.inner)) xs
      → AllByRecursion Kebab (import_names xs) → OfferedImports xs (marked_at s)
      → Room config (totals_at (s ++ xs)) → Along Sayable (λ t x. t ++ x ∷ []) s xs
  all_sayable short s [] p f k o h = tt
  all_sayable short s (x ∷ xs) p f k o h =
      let next : List ImportEntry = s ++ x ∷ [] in
      let all : Room config (totals_at (next ++ xs)) = subst (λ z. Room config (totals_at z)) (sym (append_assoc s (x ∷ []) xs)) h in (
        record {
          formed = f.0;
          offered = o.0;
          lasts = o.1;
          kebab = k.0;
          reachable = p.0;
          short = short;
          room = one_allowed s x x.to refl f.0.1 (room_before next xs all);
        },
        all_sayable short next xs
            (subst (λ z. AreReachable config.max_name_length z (import_names xs))
            (sym (names_with_more (λ (i : ImportEntry). i.name) (imports_of stack.inner) s x)) p.1)
            f.1 k.1 (subst (OfferedImports xs) (sym (imports_marked_more config stack s x)) o.2) all,
      )

  -- The script of the imports of a plan is read as them.
  pub imports_read : config.max_name_length < 2 ^ 64 → (is : List ImportEntry) (rest : List ℕ)
      → AreReachable config.max_name_length (import_names (imports_of stack.inner)) (import_names is)
      → AllByRecursion (FormedImport (scope_of stack.inner)) is
      → Named (import_names (imports_of stack.inner ++ is)) → OfferedImports is (marked_inner config stack.outer stack.inner) → Room config (totals_at is)
      → length is ≤ config.max_imports - length (imports_of stack.inner) → ReadsImports config 0 stack (script_imports config stack is ++ rest) is rest
  imports_read short is rest reachable formed named offered room fits =
      let behind = named_behind (λ (i : ImportEntry). i.name) (imports_of stack.inner) is named in
      let start : AreReachable config.max_name_length (names_at []) (import_names is) =
      subst (λ z. AreReachable config.max_name_length (import_names z) (import_names is)) (sym (append-nil (imports_of stack.inner))) reachable in
      let all = all_sayable short [] is start formed behind.0 (subst (OfferedImports is) (sym (imports_marked config stack [])) offered) room in
      let B : List ℕ = script_imports config stack is ++ rest in
      let L : List ImportEntry → Type 0 = λ t. Loop (NoImport config stack) (ReadsImport config stack) config.loop_bits 0
      (config.max_imports - length (imports_of stack.inner))
      0 [] B is rest t in
      subst L (all_of_them [] is) (loop_read (script_import config stack) (λ t x. t ++ x ∷ []) Sayable import_read is 0 [] rest all (omega arith)
      (omega (arith, fits)))
