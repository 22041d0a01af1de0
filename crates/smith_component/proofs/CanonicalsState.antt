-- A canonical section as the program makes it.
use Rattle.std.proofs.Common.{◌≡◌, ◌≢◌, ◌⊎◌, inl, inr, ℕ, ◌-◌, ◌<◌, ◌≤◌, Bool, true, false, List, [], ◌∷◌, ◌++◌, map, length, get_or, refl, sym, ap, ◌∙◌, subst}
use Rattle.std.proofs.Common.{arith, append-nil, append_assoc, length-append, Option, None, Some}
use Rattle.std.proofs.lemmas.Bool.{false≢true}
use Rattle.std.proofs.lemmas.List.{map-append}
use Rattle.std.proofs.lemmas.List.Concat.{flat_map-append}
use Rattle.std.proofs.lemmas.Option.{get_or_from_slice_get, slice_get-get_or, slice_get-map, slice_get_within}
use Rattle.std.specs.Prelude.{option_map, slice_get}
use Rattle.std.specs.declared.alloc.Global.{Global}
use Rattle.std.specs.declared.rc.Rc.{Rc}
use Rattle.smith_input.specs.Choices.{ReadsAmong}
use Rattle.smith_input.specs.Loops.{Loop}
use Rattle.smith_input.specs.Reading.{Reads}
use Rattle.smith_input.proofs.Choices.{among}
use Rattle.smith_format.specs.CoreTypes.{Function}
use Rattle.smith_format.specs.Consistency.{IsConsistent}
use Rattle.smith_format.specs.declared.config.Config.{Config}
use Rattle.smith_syntax.specs.Entries.{Entry, Signature, function, plain}
use Rattle.smith_syntax.specs.Flat.{Flattens, is_scalar}
use Rattle.smith_syntax.specs.Marked.{Marked, mark, scope_in, with_marked}
use Rattle.smith_syntax.specs.Scope.{Scope, is_func}
use Rattle.smith_syntax.specs.Places.{places}
use Rattle.smith_syntax.specs.Shown.{shown_shared, shown_type}
use Rattle.smith_syntax.specs.HasSignature.{has_signature, is_of_signature}
use Rattle.smith_syntax.specs.declared.deftype.DefType.{DefType}
use Rattle.smith_syntax.specs.declared.deftype.DefType.TheVariants as def
use Rattle.smith_syntax.specs.declared.deftype.ComponentType.{ComponentType}
use Rattle.smith_syntax.specs.declared.deftype.InstanceType.{InstanceType}
use Rattle.smith_syntax.specs.declared.func.FuncType.{FuncType}
use Rattle.smith_syntax.specs.declared.marks.Mark.{Mark}
use Rattle.smith_syntax.specs.declared.types.DefinedType.{DefinedType}
use Rattle.smith_syntax.proofs.Shown.{full_defined, full_func, full_component, full_instance}
use Rattle.smith_types.specs.Lifting.{ReadsLiftedType}
use Rattle.smith_types.specs.MakingTypes.{HoldsExterns}
use Rattle.smith_scopes.specs.Rows.{IsChosenEqual}
use Rattle.smith_scopes.specs.Scopes.{AddsMarked, Contents, last_of, outer_marked, own_marked, own_scope}
use Rattle.smith_scopes.proofs.Marking.{marked_alike}
use Rattle.smith_scopes.proofs.Stack.{grown_marked, keeps_last, length-last, own_last, own_scope_is}
use Rattle.smith_component.specs.Canonicals.{CanonTurn, Growing, NoCanon, ReadsCanons, empty_section, equal_types, grown, spaces_at, with_canon, with_defined}
use Rattle.smith_component.specs.Canonicals.{LiftsTo, to_equal, to_defined, given_up, ReadsLift, ReadsLower}
use Rattle.smith_component.specs.CanonicalsState.{CanonicalsState, DraftsOn, IsDraftIn, IsDrafted, IsLowered, KeepsFront, ReadsLiftedTypeOf, SameLoans}
use Rattle.smith_component.specs.CanonicalsState.{draft_of, growing}
use Rattle.smith_component.specs.SectionValues.{externs_in, externs_of}
use Rattle.smith_component.specs.Shown.{shown_sections}
use Rattle.smith_tree.specs.Shown.{shown_canon}
use Rattle.smith_component.specs.Tables.{AddsCoreFunction, AddsFunction, IsLowerable, Tabled, functions_at}
use Rattle.smith_tree.specs.Marking.{marked_in, marked_inner, with_type_entry}
use Rattle.smith_tree.specs.Spaces.{spaces_of}
use Rattle.smith_tree.specs.Functions.{core_functions_of}
use Rattle.smith_tree.specs.Tree.{Tree, Canon, add, canons, exports_in, exports_of, types, lift, lower, function_count}
use Rattle.smith_tree.specs.WellFormed.{scope_of}
use Rattle.smith_component.specs.declared.builder.canonicals.CanonicalDraft.{CanonicalDraft}
use Rattle.smith_component.specs.declared.builder.open.OpenComponent.{OpenComponent}
use Rattle.smith_component.specs.declared.builder.tables.Tables.{Tables}
use Rattle.smith_tree.specs.declared.entries.Func.{Func}
use Rattle.smith_tree.specs.declared.entries.Func.TheVariants.{CanonLift, CanonLower}
use Rattle.smith_component.specs.declared.component.Section.{Section}
use Rattle.smith_tree.specs.declared.choices.CanonItem.{CanonItem}
use Rattle.smith_component.proofs.ReadsCanons.{canon_count, empty_count, signature_count, spaces_signature, with_signature}
use Rattle.smith_tree.proofs.Marking.{marked_add, scope_marked}
use Rattle.smith_component.proofs.SectionsState.{around_then}
use Rattle.smith_component.proofs.Growth.{spaces-add, spaces_canon}
use Rattle.smith_component.proofs.Spaces.{IsScalarFunction, all_at, equal_at, equal_own}
use Rattle.smith_component.proofs.Tables.{own_bare, scalar_at, tabled_core_function, tabled_function, tabled_quiet, tabled_types}

-- one more function in the section
pub funcs_more : (old new : List Func) (f : Func) → new ≡ old ++ f ∷ [] → map shown_canon new ≡ map shown_canon old ++ shown_canon f ∷ []
funcs_more old new f e = ap (map shown_canon) e ∙ map-append shown_canon old (f ∷ [])

pub growing_more : (old new : OpenComponent) (fs gs : List Func) (f : Func) → new.sections.items ≡ old.sections.items → gs ≡ fs ++ f ∷ []
    → growing new gs ≡ with_canon (growing old fs) (shown_canon f)
growing_more old new fs gs f e more = grind (arith, funcs_more)

-- The exports stay as they are.
exports_canon : (s : Growing) (c : Canon) → exports_of (grown (with_canon s c)) ≡ exports_of (grown s)
exports_canon s c = own_bare exports_in s.before (canons (s.funcs ++ c ∷ [])) refl ∙ sym (own_bare exports_in s.before (canons s.funcs) refl)

-- The tables, when the section has one more function.

tabled_lower : {old new : Tables} (s : Growing) (f : ℕ) → IsScalarFunction (spaces_at s) f → Tabled old (grown s) → AddsCoreFunction old f new
    → Tabled new (grown (with_canon s (lower f)))
tabled_lower s f scalar tabled adds = grind (arith, spaces_canon, tabled_core_function, canon_count, exports_canon)

tabled_lift : {own : Scope} {old new : Tables} (s : Growing) (c t : ℕ) → own ≡ scope_of (grown s) → t < length own.types → Tabled old (grown s)
    → AddsFunction own 1 old t new → Tabled new (grown (with_canon s (lift c t)))
tabled_lift {own} s c t is known tabled adds = grind (arith, spaces_canon, tabled_function, canon_count, exports_canon)

tabled_signature : {tables : Tables} (s : Growing) (signature : Signature) → Tabled tables (grown s) → Tabled tables (grown (with_signature s signature))
tabled_signature s signature tabled = grind (arith, spaces_signature, tabled_types, with_signature, signature_count, own_bare)

-- What is kept of the component, when the section has one more function, and when a type and another section follow it.
module _ (config : Config) (around : List Tree) where
  marked_section : (s : Growing) → marked_inner config around (grown s) ≡ marked_inner config around s.before
  marked_section s = marked_add config (marked_in config around) s.before (canons s.funcs)

  pub marked_canon : (s : Growing) (c : Canon) → marked_inner config around (grown (with_canon s c)) ≡ marked_inner config around (grown s)
  marked_canon s c = marked_section (with_canon s c) ∙ sym (marked_section s)

  pub marked_signature : (s : Growing) (signature : Signature)
      → marked_inner config around (grown (with_signature s signature)) ≡ with_type_entry (marked_in config around) (marked_inner config around (grown s))
      (function signature)
  marked_signature s signature = grind (arith, marked_section, with_signature, marked_add)

  -- the scope by itself
  own_is : (scopes : List Contents) (t : Tree) → own_marked scopes ≡ marked_inner config around t → own_scope scopes ≡ scope_of t
  own_is scopes t e = own_scope_is scopes ∙ (ap scope_in e ∙ scope_marked config (marked_in config around) t)

-- A function is lowered.
module _ (old new : OpenComponent) (fs gs : List Func) (items b rest : List ℕ) (f : ℕ) (tabled : Tabled old.tables (grown (growing old fs)))
    (are : items ≡ old.tables.scalars.items) (chosen : (k : ℕ) × Reads (length items) b k rest × (slice_get items k ≡ Some f))
    (same : new.sections.items ≡ old.sections.items) (more : gs ≡ fs ++ CanonLower f ∷ []) where
  pub lower_reads : ReadsLower (growing old fs) b rest (growing new gs)
  lower_reads = (f, subst (λ xs. ReadsAmong xs b f rest) (are ∙ tabled.scalars) (among chosen), growing_more old new fs gs (CanonLower f) same more)

  lower_tabled : AddsCoreFunction old.tables f new.tables → Tabled new.tables (grown (growing new gs))
  lower_tabled adds =
      let s : Growing = growing old fs in
      let scalar = scalar_at (grown s) chosen.0 f (ap (λ xs. slice_get xs chosen.0) (sym (are ∙ tabled.scalars)) ∙ chosen.2) in
      subst (λ z. Tabled new.tables (grown z)) (sym (growing_more old new fs gs (CanonLower f) same more)) (tabled_lower s f scalar tabled adds)

  pub lower_draft : {config : Config} {around : List Tree} (scopes : List Contents) → CanonicalsState config around scopes old fs
      → AddsCoreFunction old.tables f new.tables → CanonicalsState config around scopes new gs
  lower_draft {config} {around} scopes d adds =
      let e = growing_more old new fs gs (CanonLower f) same more in
      record {
        consistent = d.consistent;
        scope_is = d.scope_is ∙ sym (ap (λ z. marked_inner config around (grown z)) e ∙ marked_canon config around (growing old fs) (lower f));
        tabled = lower_tabled adds;
      }

-- The function type of the component function that a core function lowers.

pub shown_function : (f : Rc FuncType Global) → shown_type (def.Func f) ≡ function f.value
shown_function f = ap plain (full_func f)

same_function : (e : Entry) (a b : Signature) → e ≡ function a → e ≡ function b → a ≡ b
same_function e a b p q = cc

some_same : {A : Type 0} (x y : A) → Some x ≡ Some y → x ≡ y
some_same x y e = cc

no_function : (e : Entry) (s : Signature) → is_func e ≡ false → e ≡ function s → ⊥
no_function e s h is = false≢true (sym h ∙ ap is_func is)

-- a defined type, or the type of a component or of an instance
abbrev pub IsOther : DefType → Type 0
IsOther t = ((d : DefinedType) × (t ≡ def.Defined d)) ⊎ (((d : ComponentType) × (t ≡ def.Component d))
    ⊎ ((d : InstanceType) × (t ≡ def.Instance d)))

no_other : (t : DefType) (s : Signature) → shown_type t ≡ function s → IsOther t → ⊥
no_other t s e (inl d) = no_function (shown_type t) s (ap (λ x. is_func (shown_type x)) d.1 ∙ ap (λ x. is_func (plain x)) (full_defined d.0)) e
no_other t s e (inr (inl d)) = no_function (shown_type t) s (ap (λ x. is_func (shown_type x)) d.1 ∙ ap (λ x. is_func (plain x)) (full_component d.0)) e
no_other t s e (inr (inr d)) = no_function (shown_type t) s (ap (λ x. is_func (shown_type x)) d.1 ∙ ap (λ x. is_func (plain x)) (full_instance d.0)) e

-- A type of the last scope, as a plain tree.
pub type_shown : (scopes : List Contents) (i : ℕ) (ty : DefType) → slice_get (last_of scopes).types i ≡ Some ty
    → slice_get (own_scope scopes).types i ≡ Some (shown_type ty)
type_shown scopes i ty at = ap (λ s. slice_get s.types i) (own_last scopes)
    ∙ (slice_get-map shown_type (last_of scopes).types i ∙ ap (option_map shown_type) at)

module _ (scopes : List Contents) (tables : Tables) (c i t : ℕ) (known : IsLowered (own_scope scopes) tables c)
    (at : i ≡ get_or tables.core_functions.items c i) (of : t ≡ get_or tables.functions.items i t) where
  index_is : i ≡ known.1.f
  index_is = at ∙ get_or_from_slice_get tables.core_functions.items c known.1.f i known.1.lowers

  stands_is : slice_get tables.functions.items i ≡ Some known.1.ty
  stands_is = ap (slice_get tables.functions.items) index_is ∙ known.1.stands

  type_is : t ≡ known.1.ty
  type_is = of ∙ get_or_from_slice_get tables.functions.items i known.1.ty t stands_is

  lowered_at : slice_get (own_scope scopes).types t ≡ Some (function known.0)
  lowered_at = ap (slice_get (own_scope scopes).types) type_is ∙ known.1.is

  pub lowered_within : t < length (last_of scopes).types
  lowered_within = omega (arith, slice_get_within (own_scope scopes).types t (function known.0) lowered_at, length-last scopes)

  module _ (ty : DefType) (here : slice_get (last_of scopes).types t ≡ Some ty) where
    pub lowered_shown : shown_type ty ≡ function known.0
    lowered_shown = some_same (shown_type ty) (function known.0) (sym (type_shown scopes t ty here) ∙ lowered_at)

    -- It is of no other type.
    pub lowered_other : (other : DefType) → other ≡ ty → IsOther other → ⊥
    lowered_other other e is = no_other ty known.0 lowered_shown (subst IsOther e is)

    module _ (f : Rc FuncType Global) (is : ty ≡ def.Func f) where
      lowered_is : f.value ≡ known.0
      lowered_is = same_function (shown_type ty) f.value known.0 (ap shown_type is ∙ shown_function f) lowered_shown

      pub lowered_scalar : is_scalar f.value ≡ true
      lowered_scalar = ap is_scalar lowered_is ∙ known.2

      -- How the core function is lifted is read.
      pub lifts_as : (config : Config) (core : Function) (lowered signature : Signature) (b rest : List ℕ) → lowered ≡ f.value → Flattens lowered core
          → ReadsLiftedType config.max_name_length core b signature rest → ReadsLiftedTypeOf config (own_scope scopes) tables c b signature rest
      lifts_as config core lowered signature b rest e flat reads = grind (arith, lowered_is)

-- What is known of a draft.
module _ (draft : CanonicalDraft) (around : List Tree) (d : IsDraftIn around draft) where
  abbrev s : Growing
  s = draft_of draft

  abbrev held : List Contents
  held = draft.scopes.now

  abbrev tables : Tables
  tables = draft.component.now.tables

  -- the last scope by itself
  own : own_scope held ≡ scope_of (grown s)
  own = own_is draft.config.now around held (grown s) d.scope_is

  -- A core function lowers one that can be lowered.
  pub draft_lowered : (c : ℕ) → c < length tables.core_functions.items → IsLowered (own_scope held) tables c
  draft_lowered c h =
      let items : List ℕ = tables.core_functions.items in
      let f : ℕ = get_or items c 0 in
      let at : slice_get items c ≡ Some f = slice_get-get_or items c 0 h in
      let l : IsLowerable (grown s) f = all_at (IsLowerable (grown s)) (core_functions_of (grown s)) c f d.tabled.grounded.lowered
      (ap (λ xs. slice_get xs c) (sym d.tabled.core_functions) ∙ at) in (
        l.0,
        record {
          f = f;
          ty = l.1.ty;
          lowers = at;
          stands = ap (λ xs. slice_get xs f) d.tabled.functions ∙ l.1.stands;
          is = ap (λ z. slice_get z.types l.1.ty) own ∙ l.1.is;
        },
        l.2,
      )

  equal_are : (signature : Signature) → places (has_signature signature) 0 (last_of held).types ≡ equal_types s signature
  equal_are signature = equal_own held signature ∙ ap (λ z. places (is_of_signature signature) 0 z.types) own

  -- One of the types that are equal is there.
  pub equal_within : (signature : Signature) (t : ℕ) {low rest : List ℕ}
      → ReadsAmong (places (has_signature signature) 0 (last_of held).types) low t rest → t < length (own_scope held).types
  equal_within signature t r =
      let e : slice_get (equal_types s signature) r.place ≡ Some t = ap (λ xs. slice_get xs r.place) (sym (equal_are signature)) ∙ r.named in
      omega (
        arith,
        slice_get_within (spaces_at s).types t (function signature) (equal_at (spaces_at s).types signature r.place t e),
        ap (λ z. length z.types) own,
      )

  -- A lift is read by where it leads.
  module _ (config : Config) (n c : ℕ) (signature : Signature) (b mid low rest : List ℕ) (next : Growing)
      (count : n ≡ length tables.core_functions.items) (chosen : Reads n b c mid)
      (lifts : ReadsLiftedTypeOf config (own_scope held) tables c mid signature low) where
    pub lift_reads : LiftsTo config s c signature low rest next → ReadsLift config s b rest next
    lift_reads to = record {
      c = c;
      mid = mid;
      low = low;
      f = lifts.of.f;
      lowered = lifts.lowered;
      core = lifts.core;
      signature = signature;
      chooses = subst (λ m. Reads m b c mid) (count ∙ ap length d.tabled.core_functions) chosen;
      lowers = ap (λ xs. slice_get xs c) (sym d.tabled.core_functions) ∙ lifts.of.lowers;
      of = record {
        ty = lifts.of.ty;
        stands = ap (λ xs. slice_get xs lifts.of.f) (sym d.tabled.functions) ∙ lifts.of.stands;
        is = ap (λ z. slice_get z.types lifts.of.ty) (sym own) ∙ lifts.of.is;
      };
      flattens = lifts.flattens;
      reads = lifts.reads;
      lifts = to;
    }

    -- to one of the types that are equal
    pub lift_equal : (t : ℕ) → ReadsAmong (places (has_signature signature) 0 (last_of held).types) low t rest → next ≡ with_canon s (lift c t)
        → ReadsLift config s b rest next
    lift_equal t r e = lift_reads (to_equal (subst (λ xs. ReadsAmong xs low t rest) (equal_are signature) r) e)

    none_equal : places (has_signature signature) 0 (last_of held).types ≡ [] → equal_types s signature ≡ []
    none_equal none = sym (equal_are signature) ∙ none

    -- to one that it defines
    pub lift_defined : places (has_signature signature) 0 (last_of held).types ≡ [] → length (own_scope held).types < config.max_types → rest ≡ low
        → next ≡ with_defined s c signature → ReadsLift config s b rest next
    lift_defined none room left e = lift_reads (to_defined (none_equal none) (omega (arith, room, ap (λ z. length z.types) own)) left e)

    -- or not at all
    pub lift_given_up : places (has_signature signature) 0 (last_of held).types ≡ [] → config.max_types ≤ length (own_scope held).types → rest ≡ low
        → next ≡ s → ReadsLift config s b rest next
    lift_given_up none full left e = lift_reads (given_up (none_equal none) (omega (arith, full, ap (λ z. length z.types) own)) left e)

  -- It stays a draft if a core function is lifted to a type that is there.
  pub lift_draft : (new : OpenComponent) (more : List Func) (c t : ℕ) → t < length (own_scope held).types
      → AddsFunction (own_scope held) 1 tables t new.tables → growing new more ≡ with_canon s (lift c t)
      → CanonicalsState draft.config.now around held new more
  lift_draft new more c t known adds e = record {
    consistent = d.consistent;
    scope_is = d.scope_is
        ∙ sym (ap (λ z. marked_inner draft.config.now around (grown z)) e ∙ marked_canon draft.config.now around s (lift c t));
    tabled = subst (λ z. Tabled new.tables (grown z)) (sym e) (tabled_lift s c t own known d.tabled adds);
  }

  -- It stays one if the type is defined.
  module _ (after : List Contents) (new : OpenComponent) (more : List Func) (c t : ℕ) (signature : Signature) (ty : DefType) (m : Mark)
      (shows : shown_type ty ≡ function signature) (grows : AddsMarked held ty m after)
      (is_mark : (last_of held).keeps ≡ true → m ≡ mark {N = Unit {0}} {K = Unit {0}} (function signature) (own_marked held) (outer_marked held))
      (e : growing new more ≡ with_defined s c signature) where
    marked_after : own_marked after ≡ marked_inner draft.config.now around (grown (with_signature s signature))
    marked_after =
        let M : Marked → Mark = λ z. mark {N = Unit {0}} {K = Unit {0}} (function signature) z (marked_in draft.config.now around) in
        (grown_marked held after ty grows).own
        ∙ (ap (λ x. with_marked (own_marked held) x m) shows
        ∙ (marked_alike (own_marked held) (function signature) m (M (own_marked held)) (λ k. is_mark (keeps_last held ∙ k))
        ∙ (ap (λ z. with_marked z (function signature) (M z)) d.scope_is ∙ sym (marked_signature draft.config.now around s signature))))

    scope_after : own_scope after ≡ scope_of (grown (with_signature s signature))
    scope_after = own_is draft.config.now around after (grown (with_signature s signature)) marked_after

    pub define_draft : t ≡ length (last_of held).types → AddsFunction (own_scope after) 1 tables t new.tables
        → CanonicalsState draft.config.now around after new more
    define_draft index adds =
        let u : Growing = with_signature s signature in
        let at : t ≡ length (spaces_at s).types = omega (arith, index, length-last held, ap (λ z. length z.types) own) in
        let known : t < length (own_scope after).types = omega (
          arith,
          at,
          ap (λ z. length z.types) scope_after,
          ap (λ z. length z.types) (spaces_signature s signature),
          length-append (spaces_at s).types (function signature ∷ []),
        ) in
        let tabled = tabled_lift u c t scope_after known (tabled_signature s signature d.tabled) adds in
        let same : growing new more ≡ with_canon u (lift c t) = e ∙ ap (λ n. with_canon u (lift c n)) (sym at) in
        record {
          consistent = d.consistent;
          scope_is = marked_after
              ∙ sym (ap (λ z. marked_inner draft.config.now around (grown z)) same ∙ marked_canon draft.config.now around u (lift c t));
          tabled = subst (λ z. Tabled new.tables (grown z)) (sym same) tabled;
        }

  pub type_index : (t : ℕ) → t ≡ length (last_of held).types → t ≡ length (spaces_at s).types
  type_index t index = omega (arith, index, length-last held, ap (λ z. length z.types) own)

-- The section ends, the type is defined, and another section begins.
pub defines : (s : Growing) (c t : ℕ) (signature : Signature) (middle last : Tree) (ended made : List Func) (entries : List (Rc DefType Global))
    (shared : Rc DefType Global)
    → middle ≡ add s.before (canons (map shown_canon ended)) → map shown_canon ended ≡ s.funcs → last ≡ add middle (types (map shown_shared entries))
    → entries ≡ shared ∷ [] → shown_type shared.value ≡ function signature → made ≡ CanonLift t c ∷ []
    → t ≡ length (spaces_at s).types → record { before = last; funcs = map shown_canon made } ≡ with_defined s c signature
defines s c t signature middle last ended made entries shared a b e f g h index = grind arith

-- Before the first turn the section is empty.

pub first_growing : (component : OpenComponent) (funcs : List Func) → funcs ≡ []
    → growing component funcs ≡ empty_section (shown_sections component.sections.items)
first_growing component funcs none = let e = ap (map shown_canon) none in λ i. record { before = shown_sections component.sections.items; funcs = e i }

pub first_draft : (config : Config) (around : List Tree) (scopes : List Contents) (component : OpenComponent) (funcs : List Func) → IsConsistent config
    → funcs ≡ [] → own_marked scopes ≡ marked_inner config around (shown_sections component.sections.items)
    → Tabled component.tables (shown_sections component.sections.items) → CanonicalsState config around scopes component funcs
first_draft config around scopes component funcs consistent none is tabled =
    let t : Tree = shown_sections component.sections.items in
    let e = spaces-add t (canons []) in
    let same = first_growing component funcs none in
    record {
      consistent = consistent;
      scope_is = is ∙ sym (ap (λ z. marked_inner config around (grown z)) same ∙ marked_section config around (empty_section t));
      tabled = subst (λ z. Tabled component.tables (grown z)) (sym same)
          (tabled_quiet t (add t (canons [])) tabled (ap (λ z. z.types) e) (ap (λ z. z.functions) e) (ap (λ z. z.core_functions) e) (empty_count t)
          (own_bare exports_in t (canons []) refl));
    }

pub first_count : (component : OpenComponent) (funcs : List Func) → funcs ≡ []
    → functions_at (spaces_at (growing component funcs)) ≡ functions_at (spaces_of (shown_sections component.sections.items))
first_count component funcs none = grind (arith, first_growing, spaces-add)

-- All turns together.
pub all_read : (config : Config) (least most : ℕ) (t : Tree) (first next : Growing) (b rest : List ℕ) → first ≡ empty_section t
    → most ≡ config.max_funcs - function_count t
    → (turns : List CanonItem) × Loop NoCanon (CanonTurn config) config.loop_bits least most 0 first b turns rest next → (last : Tree) → last ≡ grown next
    → (turns : List CanonItem) × (next : Growing) × ReadsCanons config least t b turns rest next × (last ≡ grown next)
all_read config least most t first next b rest e m (turns, l) last is = grind arith

-- What was in front stays in front.

pub front_same : (old new : OpenComponent) → new.sections.items ≡ old.sections.items → new.tables.imports ≡ old.tables.imports
    → KeepsFront old new
front_same old new e names =
    record { more = []; sections = e ∙ sym (append-nil old.sections.items); no_imports = refl; names = names }

pub front_then : (old mid new : OpenComponent) → KeepsFront old mid → KeepsFront mid new → KeepsFront old new
front_then old mid new f g = grind (arith, append_assoc, flat_map-append)

pub front_push : (old mid new : OpenComponent) (section : Section) → KeepsFront old mid → new.sections.items ≡ mid.sections.items ++ section ∷ []
    → externs_in section ≡ [] → new.tables.imports ≡ mid.tables.imports → KeepsFront old new
front_push old mid new section f e none names =
    front_then old mid new f (record { more = section ∷ []; sections = e; no_imports = ap (λ xs. xs ++ []) none; names = names })

-- A draft that continues, and continues again.

-- what is chosen among the types that are equal to one of that signature

pub chosen_equal : (ts : List DefType) (signature named : Signature) (b rest : List ℕ) (found : Option ℕ) (t : ℕ) → named ≡ signature → found ≡ Some t
    → IsChosenEqual ts named b found rest → ReadsAmong (places (has_signature signature) 0 ts) b t rest
chosen_equal ts signature named b rest found t same is chosen =
    subst (λ z. ReadsAmong (places (has_signature z) 0 ts) b t rest) same (subst (λ o. IsChosenEqual ts named b o rest) is chosen)

pub chosen_none : (ts : List DefType) (signature named : Signature) (b rest : List ℕ) (found : Option ℕ) → named ≡ signature
    → ((t : ℕ) → found ≢ Some t) → IsChosenEqual ts named b found rest → (places (has_signature signature) 0 ts ≡ []) × (rest ≡ b)
chosen_none ts signature named b rest None same none chosen = (ap (λ z. places (has_signature z) 0 ts) (sym same) ∙ chosen.0, chosen.1)
chosen_none ts signature named b rest (Some t) same none chosen = absurd (none t refl)

pub drafts_none : (d : CanonicalDraft) → DraftsOn d d
drafts_none d = grind (arith, front_same)

pub loans_then : {a b c : CanonicalDraft} → SameLoans a b → SameLoans b c → SameLoans a c
loans_then f g = grind arith

pub drafts_then : {a b c : CanonicalDraft} → DraftsOn a b → DraftsOn b c → DraftsOn a c
drafts_then {a} {b} {c} f g = grind (arith, front_then, around_then)

-- A draft's names are those of its imports then.
pub front_externs : (old new : OpenComponent) → KeepsFront old new → HoldsExterns old.tables.imports (externs_of old.sections.items)
    → HoldsExterns new.tables.imports (externs_of new.sections.items)
front_externs old new f h = grind (arith, flat_map-append, append-nil)

-- What a turn of the program is, by its answer.
pub drafted : {k config : Config} (s next : Growing) (b rest : List ℕ) {made answer : Bool} → k ≡ config → made ≡ answer
    → IsDrafted k s b made rest next → IsDrafted config s b answer rest next
drafted {k} {config} s next b rest {made} {answer} same is d =
    subst (λ m. IsDrafted config s b m rest next) is (subst (λ z. IsDrafted z s b made rest next) same d)
