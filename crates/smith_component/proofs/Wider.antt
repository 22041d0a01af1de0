-- What can be generated within some limits can be within wider ones.
use Rattle.std.proofs.Common.{◌≡◌, ℕ, ◌+◌, ◌≤◌, Bool, true, false, if◌then◌else◌, nat_le, List, [], ◌∷◌, ◌++◌, length, map, inl, inr, refl, sym, ◌∙◌, subst}
use Rattle.std.proofs.Common.{arith}
use Rattle.std.proofs.lemmas.Bool.{leb-true, le-leb}
use Rattle.std.proofs.lemmas.List.Elements.{Contains-append_left, Contains-append_right, Contains-append_cases}
use Rattle.std.specs.List.{Contains}
use Rattle.std.specs.Prelude.{◌⊎◌}
use Rattle.smith_format.specs.CoreFormed.{FormedFunction}
use Rattle.smith_format.specs.CoreTypes.{Function}
use Rattle.smith_format.specs.Limits.{configured, max_results}
use Rattle.smith_format.specs.declared.config.Config.{Config}
use Rattle.smith_format.specs.declared.types.EntityType.{EntityType}
use Rattle.smith_format.specs.declared.types.EntityType.TheVariants.{Func, Table, Memory, Global, Tag}
use Rattle.smith_format.specs.declared.types.RefType.TheVariants.{FuncRef, ExternRef}
use Rattle.smith_format.specs.declared.types.ValType.{ValType}
use Rattle.smith_format.specs.declared.types.ValType.TheVariants.{I32, I64, F32, F64, V128, Ref}
use Rattle.smith_input.specs.NameScript.{AreReachable, IsReachable, is_short, is_within, last_word_is_a}
use Rattle.smith_input.specs.Offers.{offered}
use Rattle.smith_tree.proofs.Everything.{everything_offered}
use Rattle.smith_syntax.specs.CoreLimits.{CoreLimits, EntityLimits}
use Rattle.smith_syntax.specs.Entries.{CoreEntry, Entry, core_func, core_module as module_type, defined, function, component_type, instance_type}
use Rattle.smith_syntax.specs.Entries.{Decl, Decls, core_type_decl, type_decl, type_alias, core_type_alias, import_decl, export_decl, no_decls, then_decls}
use Rattle.smith_syntax.specs.Entries.{DefValType, primitive_type, record_type, variant_type, list_type, tuple_type, flags_type, enum_type, option_type}
use Rattle.smith_syntax.specs.Entries.{result_type, ModuleDecl, imports as imports_one, declares, aliases, exports as exports_one}
use Rattle.smith_syntax.specs.Marked.{Marked, empty_marked}
use Rattle.smith_syntax.specs.ModuleTypes.{after_front, module_export_names, names_from}
use Rattle.smith_syntax.specs.WellFormed.{export_of, import_of, names}
use Rattle.smith_syntax.specs.TypeLimits.{DeclLimits, DeclsLimits, EntryLimits}
use Rattle.smith_tree.specs.CoreTypeNeeds.{core_need}
use Rattle.smith_tree.specs.Limits.{Maxima, Minima, OwnLimits, OwnSizes, max_depth}
use Rattle.smith_tree.specs.Marking.{marked_after_part}
use Rattle.smith_tree.specs.Offered.{IsOffered, OfferedPart, OfferedParts}
use Rattle.smith_tree.specs.ModuleScript.{in_front}
use Rattle.smith_tree.specs.ReadableCoreTypes.{AreReadableModuleDecls, IsReadableCore, IsReadableModuleDecl, IsReadableNewText}
use Rattle.smith_tree.specs.ReadableTypes.{AreReadableDecls, IsReadableDecl, IsReadableDefined, IsReadableType}
use Rattle.smith_tree.specs.WellFormed.{export_names, import_names}
use Rattle.smith_tree.specs.Readable.{AreFinishable, CanBeGenerated, IsFinishable, IsReadablePart, IsReadableRest, StandsForModule}
use Rattle.smith_tree.specs.Spaces.{Spaces, after_part, no_spaces}
use Rattle.smith_tree.specs.Tree.{Tree, Part, add, ends, first, custom, core_module, core_types, component, types, canons, imports, exports}
use Rattle.smith_tree.specs.Tree.{exports_of, imports_of}
use Rattle.smith_tree.specs.Tree.{inside}
use Rattle.smith_tree.specs.TypeNeeds.{need}
use Rattle.smith_component.specs.Wider.{AreWider}
use Rattle.smith_component.proofs.Tables.{all_weaker}

-- whether a boolean is on
on_or_off : (b : Bool) → (b ≡ true) ⊎ (b ≡ false)
on_or_off true = inl refl
on_or_off false = inr refl

-- what is offered if it is on
more_offered : {A : Type 0} (b c : Bool) (xs : List A) (x : A) → (b ≡ true → c ≡ true) → Contains (offered b xs) x → Contains (offered c xs) x
more_offered true true xs x wider h = h
more_offered true false xs x wider h = let z = wider refl in absurd (cc)
more_offered false true xs x wider h = absurd (omega (arith, h.1))
more_offered false false xs x wider h = h

-- what is in two lists in a row
more_in_either : {A : Type 0} (xs ws ys zs : List A) (x : A) → (Contains xs x → Contains ws x) → (Contains ys x → Contains zs x) → Contains (xs ++ ys) x
    → Contains (ws ++ zs) x
more_in_either xs ws ys zs x f g h = go (Contains-append_cases xs ys x h)
  where
    go : (Contains xs x) ⊎ (Contains ys x) → Contains (ws ++ zs) x
    go (inl l) = Contains-append_left ws zs x (f l)
    go (inr r) = Contains-append_right ws zs x (g r)

more_results : (b c : Bool) → (b ≡ true → c ≡ true) → (if b then 20 else 1) ≤ (if c then 20 else 1)
more_results true true wider = omega arith
more_results true false wider = let z = wider refl in absurd (cc)
more_results false true wider = omega arith
more_results false false wider = omega arith

-- what types are, within limits

abbrev IsFormed : Config → Function → Type 0
IsFormed c f = FormedFunction (configured c) (max_results c) f

abbrev IsSmall : Config → Entry → Type 0
IsSmall c e = need e ≤ c.max_type_size

abbrev IsSmallCore : Config → CoreEntry → Type 0
IsSmallCore c e = core_need e ≤ c.max_type_size

-- the core value types that are there if a feature is on

abbrev floats_of : Config → List ValType
floats_of c = offered c.allow_floats (F32 ∷ F64 ∷ [])

abbrev vectors_of : Config → List ValType
vectors_of c = offered c.simd_enabled (V128 ∷ [])

abbrev references_of : Config → List ValType
references_of c = offered c.reference_types_enabled (Ref FuncRef ∷ Ref ExternRef ∷ [])

module _ {wide narrow : Config} (wider : AreWider wide narrow) where
  -- core types

  values_wider : (v : ValType) → Contains (configured narrow) v → Contains (configured wide) v
  values_wider v h =
      let numbers : List ValType = I32 ∷ I64 ∷ [] in
      let floats = more_in_either numbers numbers (floats_of narrow) (floats_of wide) v (λ k. k)
      (more_offered narrow.allow_floats wide.allow_floats (F32 ∷ F64 ∷ []) v wider.floats) in
      let vectors = more_in_either (numbers ++ floats_of narrow) (numbers ++ floats_of wide) (vectors_of narrow) (vectors_of wide) v floats
      (more_offered narrow.simd_enabled wide.simd_enabled (V128 ∷ []) v wider.simd) in
      more_in_either ((numbers ++ floats_of narrow) ++ vectors_of narrow) ((numbers ++ floats_of wide) ++ vectors_of wide) (references_of narrow)
      (references_of wide) v vectors
      (more_offered narrow.reference_types_enabled wide.reference_types_enabled (Ref FuncRef ∷ Ref ExternRef ∷ []) v wider.reference_types)
      h

  function_wider : (f : Function) → FormedFunction (configured narrow) (max_results narrow) f → FormedFunction (configured wide) (max_results wide) f
  function_wider f h = grind (arith, more_results, all_weaker, values_wider)

  entity_wider : (e : EntityType) → EntityLimits narrow e → EntityLimits wide e
  entity_wider (Func i) h = tt
  entity_wider (Table t) (inl h) = inl h
  entity_wider (Table t) (inr h) = inr (wider.reference_types h)
  entity_wider (Memory m) h = tt
  entity_wider (Global g) h = values_wider g.val_type h
  entity_wider (Tag t) h = wider.exceptions h

  core_wider : (e : CoreEntry) → CoreLimits narrow e → CoreLimits wide e
  core_wider (core_func f) h = function_wider f h
  core_wider (module_type ds) h = grind (arith, all_weaker, function_wider, entity_wider)

  -- types

  mutual
    entry_wider : (e : Entry) → EntryLimits narrow e → EntryLimits wide e
    entry_wider (defined t) h = tt
    entry_wider (function s) h = tt
    entry_wider (component_type ds) h = (h.0, decls_wider ds h.1)
    entry_wider (instance_type ds) h = (h.0, decls_wider ds h.1)

    decl_wider : (d : Decl) → DeclLimits narrow d → DeclLimits wide d
    decl_wider (core_type_decl t k) h = core_wider t h
    decl_wider (type_decl e) h = entry_wider e h
    decl_wider _ h = tt

    decls_wider : (ds : Decls) → DeclsLimits narrow ds → DeclsLimits wide ds
    decls_wider no_decls h = tt
    decls_wider (then_decls d ds) h = (decl_wider d h.0, decls_wider ds h.1)

  -- components

  own_wider : (t : Tree) → OwnLimits narrow t → OwnLimits wide t
  own_wider t h = grind (arith, all_weaker, entry_wider, core_wider)

  maxima_wider : (t : Tree) → Maxima narrow t → Maxima wide t
  maxima_wider t h =
      let deeper : max_depth narrow ≤ max_depth wide = omega (arith, wider.max_nesting_depth) in
      record {
        each = all_weaker (OwnLimits narrow) (OwnLimits wide) own_wider (t ∷ inside t) h.each;
        modules = omega (arith, h.modules, wider.max_modules);
        components = omega (arith, h.components, wider.max_components);
        instances = omega (arith, h.instances, wider.max_instances);
        depth = omega (arith, h.depth, deeper);
        declared = omega (arith, h.declared, deeper);
      }

  minima_wider : (t : Tree) → Minima narrow t → Minima wide t
  minima_wider t h = grind arith

  sizes_wider : (t : Tree) → OwnSizes narrow t → OwnSizes wide t
  sizes_wider t h = grind (arith, all_weaker)

  -- what can be read

  module_wider : (text : List ℕ) → StandsForModule narrow text → StandsForModule wide text
  module_wider text (s, is, e) = grind (arith, all_weaker, function_wider)

  within_wider : (name : List ℕ) → is_within narrow.max_name_length name ≡ true → is_within wide.max_name_length name ≡ true
  within_wider name = by_end (last_word_is_a name)
    where
      by_end : (b : Bool) → nat_le (length name) (if b then narrow.max_name_length + 1 else narrow.max_name_length) ≡ true
          → nat_le (length name) (if b then wide.max_name_length + 1 else wide.max_name_length) ≡ true
      by_end true e = le-leb (length name) (wide.max_name_length + 1)
          (omega (arith, leb-true (length name) (narrow.max_name_length + 1) e, wider.max_name_length))
      by_end false e = le-leb (length name) wide.max_name_length
          (omega (arith, leb-true (length name) narrow.max_name_length e, wider.max_name_length))

  short_wider : (text : List ℕ) → is_short narrow.max_name_length text ≡ true → is_short wide.max_name_length text ≡ true
  short_wider text e = le-leb (length text) wide.max_name_length (omega (arith, leb-true (length text) narrow.max_name_length e, wider.max_name_length))

  name_wider : (names : List (List ℕ)) (name : List ℕ) → IsReachable narrow.max_name_length names name → IsReachable wide.max_name_length names name
  name_wider names name (text, can, made) = (text, within_wider text can, made)

  names_wider : (before ns : List (List ℕ)) → AreReachable narrow.max_name_length before ns → AreReachable wide.max_name_length before ns
  names_wider before [] h = tt
  names_wider before (n ∷ ns) h = (name_wider before n h.0, names_wider (before ++ n ∷ []) ns h.1)

  new_text_wider : (names : List (List ℕ)) (text : List ℕ) → IsReadableNewText narrow names text → IsReadableNewText wide names text
  new_text_wider names name (utf8, (text, can, made)) = (utf8, (text, short_wider text can, made))

  module_decl_wider : (before : List ModuleDecl) (d : ModuleDecl) → IsReadableModuleDecl narrow before d → IsReadableModuleDecl wide before d
  module_decl_wider before (imports_one from name e) ((utf8, short), new) =
      ((utf8, omega (arith, short, wider.max_name_length)), new_text_wider (names_from from before) name new)
  module_decl_wider before (declares f) h = tt
  module_decl_wider before (aliases count i) h = tt
  module_decl_wider before (exports_one name e) h = new_text_wider (module_export_names before) name h

  module_decls_wider : (before ds : List ModuleDecl) → AreReadableModuleDecls narrow before ds → AreReadableModuleDecls wide before ds
  module_decls_wider before [] h = tt
  module_decls_wider before (d ∷ ds) h = (module_decl_wider before d h.0, module_decls_wider (before ++ d ∷ []) ds h.1)

  core_names_wider : (e : CoreEntry) → IsReadableCore narrow e → IsReadableCore wide e
  core_names_wider (core_func f) h = tt
  core_names_wider (module_type ds) h = module_decls_wider (in_front ds (after_front ds)) (after_front ds) h

  defined_names_wider : (t : DefValType) → IsReadableDefined narrow t → IsReadableDefined wide t
  defined_names_wider (record_type fs) h = names_wider [] (map (λ f. f.0) fs) h
  defined_names_wider (variant_type cs) h = names_wider [] (map (λ c. c.0) cs) h
  defined_names_wider (flags_type ns) h = names_wider [] ns h
  defined_names_wider (enum_type ns) h = names_wider [] ns h
  defined_names_wider (primitive_type p) h = tt
  defined_names_wider (list_type v) h = tt
  defined_names_wider (tuple_type vs) h = tt
  defined_names_wider (option_type v) h = tt
  defined_names_wider (result_type ok err) h = tt

  mutual
    type_names_wider : (e : Entry) → IsReadableType narrow e → IsReadableType wide e
    type_names_wider (defined t) h = defined_names_wider t h
    type_names_wider (function s) h = names_wider [] (map (λ p. p.0) s.params) h
    type_names_wider (component_type ds) h = decls_names_wider ds [] [] h
    type_names_wider (instance_type ds) h = decls_names_wider ds [] [] h

    decl_names_wider : (d : Decl) (imported exported : List (List ℕ)) → IsReadableDecl narrow d imported exported → IsReadableDecl wide d imported exported
    decl_names_wider (core_type_decl t k) imported exported h = core_names_wider t h
    decl_names_wider (type_decl e) imported exported h = type_names_wider e h
    decl_names_wider (type_alias count i k) imported exported h = tt
    decl_names_wider (core_type_alias count i k) imported exported h = tt
    decl_names_wider (import_decl name n r) imported exported h = name_wider imported name h
    decl_names_wider (export_decl name n r) imported exported h = name_wider exported name h

    decls_names_wider : (ds : Decls) (imported exported : List (List ℕ)) → AreReadableDecls narrow ds imported exported
        → AreReadableDecls wide ds imported exported
    decls_names_wider no_decls imported exported h = tt
    decls_names_wider (then_decls d ds) imported exported h =
        (decl_names_wider d imported exported h.0, decls_names_wider ds (imported ++ names (import_of d)) (exported ++ names (export_of d)) h.1)

  mutual
    rest_wider : (t before : Tree) → IsReadableRest narrow t before → IsReadableRest wide t before
    rest_wider ends before h = tt
    rest_wider (first p t) before h = (part_wider p before h.0, rest_wider t (add before p) h.1)

    part_wider : (p : Part) (before : Tree) → IsReadablePart narrow p before → IsReadablePart wide p before
    part_wider (core_module text) before h = module_wider text h
    part_wider (component t) before h = rest_wider t ends h
    part_wider (canons fs) before h = tt
    part_wider (core_types ts) before h = all_weaker (IsReadableCore narrow) (IsReadableCore wide) core_names_wider ts h
    part_wider (types ts) before h = all_weaker (IsReadableType narrow) (IsReadableType wide) type_names_wider ts h
    part_wider (imports is) before h = names_wider (import_names (imports_of before)) (import_names is) h
    part_wider (exports es) before h = (omega (arith, h.0, wider.max_exports), names_wider (export_names (exports_of before)) (export_names es) h.1)
    part_wider (custom name contents) before h = h

  -- what is offered

  mutual
    parts_offered : (same : wide.must_validate ≡ narrow.must_validate) (t : Tree) (s : Spaces) (outer : List Marked) (own : Marked)
        → OfferedParts t narrow s outer own → OfferedParts t wide s outer own
    parts_offered same ends s outer own h = tt
    parts_offered same (first p t) s outer own h =
        (part_offered same p s outer own h.0, parts_offered same t (after_part s p) outer (marked_after_part p s outer own) h.1)

    part_offered : (same : wide.must_validate ≡ narrow.must_validate) (p : Part) (s : Spaces) (outer : List Marked) (own : Marked)
        → OfferedPart p narrow s outer own → OfferedPart p wide s outer own
    part_offered same (component t) s outer own h =
        subst (λ b. OfferedParts t wide no_spaces (own ∷ outer) (empty_marked b)) (sym same)
        (parts_offered same t no_spaces (own ∷ outer) (empty_marked narrow.must_validate) h)
    part_offered same (types ts) s outer own h = h
    part_offered same (imports is) s outer own h = h
    part_offered same (exports es) s outer own h = h
    part_offered same _ s outer own h = tt

  offered_wider : (t : Tree) → IsOffered narrow t → IsOffered wide t
  offered_wider t h = go (on_or_off wide.must_validate)
    where
      go : (wide.must_validate ≡ true) ⊎ (wide.must_validate ≡ false) → IsOffered wide t
      go (inr off) = everything_offered wide off t
      go (inl on) =
          let same : wide.must_validate ≡ narrow.must_validate = on ∙ sym (wider.must_validate on) in
          subst (λ b. OfferedParts t wide no_spaces [] (empty_marked b)) (sym same)
          (parts_offered same t no_spaces [] (empty_marked narrow.must_validate) h)

  pub generated_wider : (t : Tree) → CanBeGenerated narrow t → CanBeGenerated wide t
  generated_wider t h = grind (arith, maxima_wider, all_weaker, minima_wider, sizes_wider, rest_wider, offered_wider)

pub finishable_wider : (wide narrow : Config) (t : Tree) → wide.finish_after ≤ narrow.finish_after → AreFinishable narrow t → AreFinishable wide t
finishable_wider wide narrow t fewer h =
    all_weaker (IsFinishable narrow) (IsFinishable wide) (λ u many. omega (arith, many, fewer)) (t ∷ inside t) h
