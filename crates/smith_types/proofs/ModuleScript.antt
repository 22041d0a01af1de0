-- Declarations of module types are read from their scripts.
use Rattle.std.proofs.Common.{◌≡◌, ◌⊎◌, inl, inr, ℕ, zero, suc, ◌+◌, ◌-◌, ◌<◌, ◌≤◌, ◌^◌, Bool, true, false, List, [], ◌∷◌, ◌++◌, length, refl, sym, ap, ◌∙◌}
use Rattle.std.proofs.Common.{subst, arith, append_assoc, nat_eq, nat_lt, Some, None, Decides}
use Rattle.std.proofs.lemmas.Bool.{false≢true, lt-ltb, and_from}
use Rattle.std.proofs.lemmas.Bool.Decides.{Decides-eqb}
use Rattle.std.proofs.lemmas.Option.{slice_get_within}
use Rattle.std.specs.Prelude.{Option, slice_get, if◌then◌else◌}
use denote.Enum.Bare.{same_true, true_same}
use Rattle.smith_input.specs.NameScript.{script_new_text}
use Rattle.smith_input.specs.Texts.{ReadsNewText}
use Rattle.smith_input.specs.Reading.{Flips}
use Rattle.smith_input.specs.Script.{pick, rank_of, script_among, script_text}
use Rattle.smith_input.proofs.Choices.{among_read, among_written, rank_found}
use Rattle.smith_input.proofs.NameScript.{new_text_read}
use Rattle.smith_input.proofs.Offered.{offers_few, offers_found}
use Rattle.smith_input.proofs.Picks.{reads-pick}
use Rattle.smith_input.proofs.Reading.{flips_one, flips_zero}
use Rattle.smith_input.proofs.ReadsTexts.{text_read}
use Rattle.smith_format.proofs.CoreScript.{limits_read, function_read, ref_Decides, same_val_Decides}
use Rattle.smith_format.specs.CoreReading.{ReadsElement, only_functions, either, ReadsTable}
use Rattle.smith_format.specs.CoreScript as core
use Rattle.smith_format.specs.CoreScript.{script_limits}
use Rattle.smith_format.specs.CoreTypes.{Function}
use Rattle.smith_format.specs.Entities.{kind_of}
use Rattle.smith_format.specs.Equality.{same_val}
use Rattle.smith_format.specs.Limits.{configured, max_results}
use Rattle.smith_format.specs.contracts.types.ExportKind.{the_type as kind_type}
use Rattle.smith_format.specs.contracts.types.ExportKindPartialEq.TheImpl.{ghosts as kinds}
use Rattle.smith_format.specs.contracts.types.RefTypePartialEq.TheImpl.{ghosts as references}
use Rattle.smith_format.specs.declared.config.Config.{Config}
use Rattle.smith_format.specs.declared.types.EntityType.{EntityType}
use Rattle.smith_format.specs.declared.types.EntityType.TheVariants.{Func, Table, Memory, Global, Tag}
use Rattle.smith_format.specs.declared.types.ExportKind.{ExportKind}
use Rattle.smith_format.specs.declared.types.ExportKind.TheVariants as kind
use Rattle.smith_format.specs.declared.types.RefType.{RefType}
use Rattle.smith_format.specs.declared.types.RefType.TheVariants.{FuncRef, ExternRef}
use Rattle.smith_syntax.specs.Entries.{CoreEntry, ModuleDecl, core_func, core_module, imports, declares, aliases, exports}
use Rattle.smith_syntax.specs.ModuleTypes.{aliased, module_export_names, func_in, is_tag_type, names_from}
use Rattle.smith_syntax.specs.Scope.{Scope}
use Rattle.smith_syntax.specs.Places.{is_core_func, places}
use Rattle.smith_syntax.specs.WellFormed.{FormedDecl, FormedEntity}
use Rattle.smith_scope.proofs.Places.{place_found}
use Rattle.smith_scope.proofs.Places.{length-places}
use Rattle.smith_types.specs.MadeCore.{ReadsDecl, ReadsDeclOf, ReadsEntity, ReadsEntityOf}
use Rattle.smith_tree.specs.CoreTypeOffers.{Declared, alias_choices, entity_kinds, indexes, item_offers, kind_offers, module_items, with_decl}
use Rattle.smith_tree.specs.ModuleScript.{alias_place, script_bit, script_decl, script_element, script_entity, script_entity_of, script_item}
use Rattle.smith_tree.specs.ReadableCoreTypes.{IsReadableModuleDecl, IsReadableNewText}
use Rattle.smith_tree.specs.contracts.choices.ModuleItem.{the_type as item_type}
use Rattle.smith_tree.specs.contracts.choices.ModuleItemPartialEq.TheImpl.{ghosts as items}
use Rattle.smith_tree.specs.declared.choices.ModuleItem.{ModuleItem}
use Rattle.smith_tree.specs.declared.choices.ModuleItem.TheVariants as item
use Rattle.smith_format.proofs.ScriptBytes.{few_values}
use Rattle.smith_types.proofs.MakingCore.{choice_around, choice_own, choices_count, length-indexes, own_at}
use Rattle.smith_types.proofs.ModuleTypes.{DeclFits, EntityFits}
use Rattle.smith_input.proofs.Lists.{some_there}

kind_Decides : (a b : ExportKind) → Decides (kinds.eq a b) (a ≡ b)
kind_Decides a b = (same_true kind_type tt a b, true_same kind_type a b)

item_Decides : (a b : ModuleItem) → Decides (items.eq a b) (a ≡ b)
item_Decides a b = (same_true item_type tt a b, true_same item_type a b)

-- What can be said of what is imported or exported, after these declarations.
abbrev pub IsSayableEntity : Config → Declared → EntityType → Type 0
IsSayableEntity config s e = EntityFits config s.decls e × FormedEntity s.own e

-- A declaration can be said after others, and the fuel lasts for it.
pub record IsSayable (config : Config) (around : Scope) (s : Declared) (d : ModuleDecl) : Type 0 where
  pub lasts : 0 < s.fuel - 1
  pub few : length s.own + length around.core_types ≤ 2 ^ 64
  pub fits : DeclFits config around.core_types s.own s.decls d
  pub formed : FormedDecl around.core_types s.own d
  pub text : IsReadableModuleDecl config s.decls d
  pub names : config.max_name_length < 2 ^ 64

element_read : (references_too : Bool) (t : RefType) (rest : List ℕ) → (t ≡ FuncRef) ⊎ (references_too ≡ true)
    → (t ≡ FuncRef) ⊎ ((true ≡ true) × (t ≡ ExternRef))
    → ReadsElement references_too ((if references_too then script_among references.eq (FuncRef ∷ ExternRef ∷ []) t else []) ++ rest) t rest
element_read true t rest fits (inl e) = either (among_read references.eq ref_Decides (FuncRef ∷ ExternRef ∷ []) t 0 rest (omega arith) (ap Some (sym e)))
element_read true t rest fits (inr (r, e)) = either (among_read references.eq ref_Decides (FuncRef ∷ ExternRef ∷ []) t 1 rest (omega arith) (ap Some (sym e)))
element_read false t rest (inl e) formed = subst (λ z. ReadsElement false rest z rest) (sym e) only_functions
element_read false t rest (inr r) formed = absurd (false≢true r)

bit_read : (b : Bool) (rest : List ℕ) → Flips (script_bit b ++ rest) b rest
bit_read true rest = flips_one rest
bit_read false rest = flips_zero rest

-- entities

module _ (config : Config) (s : Declared) (few : length s.own ≤ 2 ^ 64) where
  entity_of_read : (e : EntityType) (rest : List ℕ) → IsSayableEntity config s e
      → ReadsEntityOf config s (kind_of e) (script_entity_of config s e ++ rest) e rest
  entity_of_read (Func i) rest (fits, (f, at)) =
      let count : length (indexes s.own) ≤ 2 ^ 64 = omega (arith, few, length-indexes 0 s.own) in
      (i, among_read nat_eq Decides-eqb (indexes s.own) i i rest count (own_at s.own i (slice_get_within s.own i f at)), refl)
  entity_of_read (Table t) rest (fits, f) =
      let x : List ℕ = script_element config t.element_type in
      let y : List ℕ = script_limits t.minimum t.maximum in (
        t,
        subst (λ z. ReadsTable config.reference_types_enabled z t rest) (sym (append_assoc x y rest)) (record {
          mid = y ++ rest;
          element = element_read config.reference_types_enabled t.element_type (y ++ rest) fits.0 f.element;
          limits = limits_read t.minimum t.maximum rest f.limits;
          table64 = f.table64;
        }),
        refl,
      )
  entity_of_read (Memory m) rest (fits, f) =
      (m, record { limits = limits_read m.minimum m.maximum rest f.limits; shared = f.shared; memory64 = f.memory64 }, refl)
  entity_of_read (Global g) rest (fits, f) =
      let x : List ℕ = script_among same_val (configured config) g.val_type in
      let values : length (configured config) ≤ 7 = few_values config in
      let P : List ℕ → Type 0 = λ z. ReadsEntityOf config s kind.Global z (Global g) rest in
      subst P (sym (append_assoc x (script_bit g.mutable) rest)) (
        g,
        script_bit g.mutable ++ rest,
        among_written same_val same_val_Decides (configured config) g.val_type (script_bit g.mutable ++ rest) (omega (arith, values)) fits.0,
        bit_read g.mutable rest,
        refl,
      )
  entity_of_read (Tag t) rest (fits, (f, at, is)) =
      let found = place_found is_tag_type s.own t.func_type_idx f at is in
      let count : length (places is_tag_type 0 s.own) ≤ 2 ^ 64 = omega (arith, few, length-places is_tag_type 0 s.own) in
      (t, among_read nat_eq Decides-eqb (places is_tag_type 0 s.own) t.func_type_idx found.0 rest count found.1, refl)

  kind_offered : (e : EntityType) → IsSayableEntity config s e → (j : ℕ) × (slice_get (entity_kinds config s) j ≡ Some (kind_of e))
  kind_offered (Func i) (fits, (f, at)) =
      offers_found (kind_offers config s) 4 _ kind.Func refl (and_from _ _ (some_there s.own i f at) (lt-ltb _ _ fits.1))
  kind_offered (Table t) (fits, f) = offers_found (kind_offers config s) 1 _ kind.Table refl (lt-ltb _ _ fits.1)
  kind_offered (Memory m) (fits, f) = offers_found (kind_offers config s) 2 _ kind.Memory refl (lt-ltb _ _ fits.1)
  kind_offered (Global g) (fits, f) = offers_found (kind_offers config s) 0 _ kind.Global refl (lt-ltb _ _ fits.1)
  kind_offered (Tag t) (fits, (f, at, is)) =
      let found = place_found is_tag_type s.own t.func_type_idx f at is in
      let some : nat_lt 0 (length (places is_tag_type 0 s.own)) ≡ true = some_there (places is_tag_type 0 s.own) found.0 t.func_type_idx found.1 in
      offers_found (kind_offers config s) 3 _ kind.Tag refl (and_from _ _ (and_from _ _ (lt-ltb _ _ fits.1) fits.0) some)

  entity_read : (e : EntityType) (rest : List ℕ) → IsSayableEntity config s e → ReadsEntity config s (script_entity config s e ++ rest) e rest
  entity_read e rest h =
      let ks : List ExportKind = entity_kinds config s in
      let at = kind_offered e h in
      let x : List ℕ = script_among kinds.eq ks (kind_of e) in
      let y : List ℕ = script_entity_of config s e in
      let count = offers_few (kind_offers config s) in
      subst (λ z. ReadsEntity config s z e rest) (sym (append_assoc x y rest)) (record {
        kind = kind_of e;
        mid = y ++ rest;
        choice = among_read kinds.eq kind_Decides ks (kind_of e) at.0 (y ++ rest) (omega (arith, count)) at.1;
        is = entity_of_read e rest h;
      })

-- texts

new_read : (config : Config) → config.max_name_length < 2 ^ 64 → (names : List (List ℕ)) (name rest : List ℕ) → IsReadableNewText config names name
    → ReadsNewText config.max_name_length names (script_new_text config.max_name_length (length names) name ++ rest) name rest
new_read config short names name rest (u, made) = new_text_read config.max_name_length names name rest (omega (arith, short)) u made

-- outer aliases

func_split : (o : Option CoreEntry) (f : Function) → func_in o ≡ Some f → (e : CoreEntry) × (o ≡ Some e) × (is_core_func e ≡ true)
func_split None f h = absurd (cc)
func_split (Some (core_func g)) f h = (core_func g, refl, refl)
func_split (Some (core_module ds)) f h = absurd (cc)

pub alias_at : (around : Scope) (s : Declared) (count i : ℕ) (f : Function) → aliased around.core_types s.own count i ≡ Some f
    → slice_get (alias_choices around s) (alias_place around count i) ≡ Some (count, i)
alias_at around s zero i f h = choice_own around s.own (alias_place around 0 i) i refl (slice_get_within s.own i f h)
alias_at around s (suc zero) i f h =
    let e = func_split (slice_get around.core_types i) f h in
    let found = place_found is_core_func around.core_types i e.0 e.1 e.2 in
    choice_around around s.own (rank_of nat_eq (places is_core_func 0 around.core_types) i) i
    (rank_found nat_eq Decides-eqb (places is_core_func 0 around.core_types) i found.0 found.1)
alias_at around s (suc (suc n)) i f h = absurd (cc)

-- declarations

module _ (config : Config) (around : Scope) where
  says : (s : Declared) (d : ModuleDecl) (i : ModuleItem) (k : ℕ) (b : Bool) (said rest : List ℕ) → 0 < s.fuel - 1
      → slice_get (item_offers config around s) k ≡ Some (b, i) → b ≡ true → ReadsDeclOf config around s i (said ++ rest) d rest
      → ReadsDecl config around s ((script_item config around s i ++ said) ++ rest) d rest (with_decl around.core_types s d)
  says s d i k b said rest lasts named offered reads =
      let at = offers_found (item_offers config around s) k b i named offered in
      let count = offers_few (item_offers config around s) in
      let x : List ℕ = script_item config around s i in
      subst (λ z. ReadsDecl config around s z d rest (with_decl around.core_types s d)) (sym (append_assoc x said rest)) (record {
        lasts = lasts;
        item = i;
        mid = said ++ rest;
        choice = among_read items.eq item_Decides (module_items config around s) i at.0 (said ++ rest) (omega (arith, count)) at.1;
        reads = reads;
        state = refl;
      })

  -- A declaration that can be said is read from its script.
  pub decl_read : (s : Declared) (d : ModuleDecl) (rest : List ℕ) → IsSayable config around s d
      → ReadsDecl config around s (script_decl config around s d ++ rest) d rest (with_decl around.core_types s d)
  decl_read s (imports from name e) rest h =
      let a : List ℕ = script_text config.max_name_length from in
      let b : List ℕ = script_new_text config.max_name_length (length (names_from from s.decls)) name in
      let c : List ℕ = script_entity config s e in
      let P : List ℕ → Type 0 = λ z. ReadsDeclOf config around s item.Import z (imports from name e) rest in
      let whole : (a ++ (b ++ c)) ++ rest ≡ a ++ (b ++ (c ++ rest)) = append_assoc a (b ++ c) rest ∙ ap (λ z. a ++ z) (append_assoc b c rest) in
      let module_name = text_read config.max_name_length from (b ++ (c ++ rest)) (let short = h.names in omega (arith, short)) h.text.0.0 h.text.0.1 in
      let new = new_read config h.names (names_from from s.decls) name (c ++ rest) h.text.1 in
      let entity = entity_read config s (omega (arith, h.few)) e rest (h.fits, h.formed) in
      says s (imports from name e) item.Import 0 true (a ++ (b ++ c)) rest h.lasts refl refl
      (subst P (sym whole) (from, name, c ++ rest, (b ++ (c ++ rest), module_name, new), e, entity, refl))
  decl_read s (exports name e) rest h =
      let b : List ℕ = script_new_text config.max_name_length (length (module_export_names s.decls)) name in
      let c : List ℕ = script_entity config s e in
      let P : List ℕ → Type 0 = λ z. ReadsDeclOf config around s item.Export z (exports name e) rest in
      let new = new_read config h.names (module_export_names s.decls) name (c ++ rest) h.text in
      let entity = entity_read config s (omega (arith, h.few)) e rest (h.fits, h.formed) in
      says s (exports name e) item.Export 1 true (b ++ c) rest h.lasts refl refl
      (subst P (sym (append_assoc b c rest)) (name, c ++ rest, new, e, entity, refl))
  decl_read s (declares f) rest h =
      let values : length (configured config) ≤ 7 = few_values config in
      says s (declares f) item.Type 2 _ (core.script_function (configured config) (max_results config) f) rest h.lasts refl (lt-ltb _ _ h.fits.1)
      (f, function_read (configured config) (max_results config) f rest h.fits.0 (omega (arith, values)), refl)
  decl_read s (aliases count i) rest h =
      let cs : List (ℕ × ℕ) = alias_choices around s in
      let at = alias_at around s count i h.formed.0 h.formed.1 in
      let within : alias_place around count i < length cs = slice_get_within cs (alias_place around count i) (count, i) at in
      let some : nat_lt 0 (length cs) ≡ true = lt-ltb 0 (length cs) (omega (arith, within)) in
      let many : length cs ≤ 2 ^ 64 = omega (arith, h.few, choices_count around s.own, length-places is_core_func 0 around.core_types) in
      let read = reads-pick (length cs) (alias_place around count i) rest many within in
      says s (aliases count i) item.Alias 3 _ (pick (length cs) (alias_place around count i)) rest h.lasts refl (and_from _ _ (lt-ltb _ _ h.fits.1) some)
      ((count, i), record { place = alias_place around count i; reads = read; named = at }, refl)
