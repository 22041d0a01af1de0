-- What holds of a core type that is made: it leaves a tail of the bytes, is well formed and within the limits, its names can be read, and it
-- takes no more fuel than there was; and scripts of function types are read as them.
use Rattle.std.proofs.Common.{◌≡◌, inl, inr, ℕ, zero, suc, ◌+◌, ◌-◌, ◌<◌, ◌≤◌, true, List, [], ◌∷◌, ◌++◌, map, length, refl, sym, ap, ◌∙◌, subst, arith}
use Rattle.std.proofs.Common.{append-nil, append_assoc}
use Rattle.std.proofs.lemmas.Bool.{false≢true, ltb-true, and_parts}
use Rattle.std.specs.Prelude.{Some, slice_get}
use Rattle.smith_input.specs.Reading.{IsTail}
use Rattle.smith_input.specs.Script.{pick}
use Rattle.smith_input.proofs.Choices.{among_tail, among_contains}
use Rattle.smith_input.proofs.Loops.{loop_tail, loop_gives, loop_few}
use Rattle.smith_input.proofs.NewNames.{new_text_tail}
use Rattle.smith_input.proofs.Offered.{offer_holds}
use Rattle.smith_input.proofs.Picks.{reads-pick}
use Rattle.smith_input.proofs.Reading.{tail_same, tail_is, tail_trans, reads_tail}
use Rattle.smith_input.proofs.ReadsTexts.{text_tail}
use Rattle.smith_format.specs.CoreFormed.{FormedFunction}
use Rattle.smith_format.specs.CoreScript as core
use Rattle.smith_format.specs.CoreReading.{ReadsElement, only_functions, either}
use Rattle.smith_format.specs.CoreTypes.{Function}
use Rattle.smith_format.specs.Limits.{configured, max_results}
use Rattle.smith_format.specs.declared.config.Config.{Config}
use Rattle.smith_format.specs.declared.types.EntityType.{EntityType}
use Rattle.smith_format.specs.declared.types.EntityType.TheVariants.{Func, Table, Memory, Global, Tag}
use Rattle.smith_format.specs.declared.types.ExportKind.{ExportKind}
use Rattle.smith_format.specs.declared.types.ExportKind.TheVariants as kind
use Rattle.smith_format.specs.declared.types.RefType.{RefType}
use Rattle.smith_format.proofs.CoreReading.{limits_tail, limits_formed, element_formed, function_tail, function_formed, memory_formed}
use Rattle.smith_format.proofs.CoreScript.{function_read}
use Rattle.smith_syntax.specs.CoreLimits.{ModuleLimits, CoreLimits}
use Rattle.smith_syntax.specs.Entries.{CoreEntry, ModuleDecl, core_func, core_module, imports, declares, aliases, exports}
use Rattle.smith_types.specs.MadeCore.{with_fuel, ReadsEntityOf, ReadsEntity, ReadsImportNames, ReadsDeclOf, ReadsDecl, EndsModuleType, no_fuel, no_import}
use Rattle.smith_types.specs.MadeCore.{no_export, ReadsLine, not_allowed, declined, taken, MemoryLine, ReadsFront, MadeModule, MadeCore, spent_core}
use Rattle.smith_types.specs.MadeCore.{of_function, of_module}
use Rattle.smith_tree.specs.CoreTypeOffers.{Declared, with_decl, indexes, kind_offers, entity_kinds, alias_choices, item_offers, module_items}
use Rattle.smith_syntax.specs.ModuleTypes.{after_front, func_in, aliased, is_tag_type, count_of_kind}
use Rattle.smith_syntax.specs.Scope.{Scope}
use Rattle.smith_syntax.specs.Places.{is_core_func, places}
use Rattle.smith_tree.specs.CoreTypeScript.{script_core_type}
use Rattle.smith_syntax.specs.WellFormed.{FormedEntity, FormedCore, core_size}
use Rattle.smith_tree.specs.declared.choices.ModuleItem.{ModuleItem}
use Rattle.smith_tree.specs.declared.choices.ModuleItem.TheVariants as item
use Rattle.smith_format.proofs.ScriptBytes.{few_values}
use Rattle.smith_types.proofs.ModuleFronts.{front_is, front_size}
use Rattle.smith_types.proofs.ModuleTypes.{judged_names, limit_of, EntityFits, Within}
use Rattle.smith_scope.proofs.Places.{place_stands, get_either, get_mapped}
use Rattle.smith_tree.specs.CoreTypeNeeds.{core_cost, core_need}
use Rattle.smith_tree.proofs.FrontFound.{front_decls}
use Rattle.smith_tree.specs.ReadableCoreTypes.{AreReadableModuleDecls, IsReadableCore, IsReadableModuleDecl}
use Rattle.smith_types.proofs.ModuleHolds.{Holds, IsReadAfter, Stands, front_holds, holds_more, holds_none, new_readable, read_more, read_none}
use Rattle.smith_types.proofs.ModuleHolds.{text_readable}
use Rattle.smith_types.proofs.ReadableFronts.{behind_readable}
use Rattle.smith_tree.specs.ModuleScript.{in_front}
use Rattle.smith_types.proofs.Takes.{Takes, one_used, used}

-- what is imported or exported

element_tail : {references : _} {bytes : List ℕ} {t : RefType} {rest : List ℕ} → ReadsElement references bytes t rest → IsTail rest bytes
element_tail (only_functions {bytes = bytes}) = tail_same bytes
element_tail (either r) = among_tail r

module _ (config : Config) (s : Declared) where
  -- tags are allowed only if there are exceptions
  abbrev MayStand : ExportKind → Type 0
  MayStand kind.Tag = config.exceptions_enabled ≡ true
  MayStand k = Unit {0}

  abbrev HasRoom : ExportKind → Type 0
  HasRoom k = (count_of_kind k s.decls < limit_of config k) × MayStand k

  kind_offered : (i : ℕ) (k : ExportKind) → slice_get (entity_kinds config s) i ≡ Some k → HasRoom k
  kind_offered i k e =
      offer_holds HasRoom (kind_offers config s) (
        λ t. (ltb-true (count_of_kind kind.Global s.decls) config.max_globals t, tt),
        (
          λ t. (ltb-true (count_of_kind kind.Table s.decls) config.max_tables t, tt),
          (
            λ t. (ltb-true (count_of_kind kind.Memory s.decls) config.max_memories t, tt),
            (
              λ t. let both = and_parts _ _ (and_parts _ _ t).0 in (ltb-true (count_of_kind kind.Tag s.decls) config.max_tags both.0, both.1),
              (
                λ t. (ltb-true (count_of_kind kind.Func s.decls) config.max_funcs (and_parts _ _ t).1, tt),
                tt,
              ),
            ),
          ),
        ),
      ) i k e

  record EntityLaws (b : List ℕ) (e : EntityType) (rest : List ℕ) : Type 0 where
    tail : IsTail rest b
    formed : FormedEntity s.own e
    fits : EntityFits config s.decls e

  entity_as : {b rest : List ℕ} {e : EntityType} (x : EntityType) → e ≡ x → IsTail rest b → FormedEntity s.own x → EntityFits config s.decls x
      → EntityLaws b e rest
  entity_as x same tail formed fits = record {
    tail = tail;
    formed = subst (FormedEntity s.own) (sym same) formed;
    fits = subst (EntityFits config s.decls) (sym same) fits;
  }

  entity_of : (k : ExportKind) (b : List ℕ) (e : EntityType) (rest : List ℕ) → HasRoom k → ReadsEntityOf config s k b e rest → EntityLaws b e rest
  entity_of kind.Global b e rest room (g, mid, r, f, i) = entity_as (Global g) i (tail_trans (1, f.left) (among_tail r)) tt (among_contains r, room.0)
  entity_of kind.Table b e rest room (t, r, i) = entity_as (Table t) i (tail_trans (limits_tail r.limits) (element_tail r.element)) (record {
    element = elim (element_formed r.element) [ inl f ↦ inl f | inr f ↦ inr (refl, f.1) ];
    limits = limits_formed r.limits;
    table64 = r.table64;
  }) (elim (element_formed r.element) [ inl f ↦ inl f | inr f ↦ inr f.0 ], room.0)
  entity_of kind.Memory b e rest room (m, r, i) = entity_as (Memory m) i (limits_tail r.limits) (memory_formed r) (tt, room.0)
  entity_of kind.Tag b e rest room (t, r, i) = entity_as (Tag t) i (among_tail r) (place_stands is_tag_type s.own r.place t.func_type_idx r.named)
      (room.1, room.0)
  entity_of kind.Func b e rest room (n, r, i) = let p = place_stands (λ f. true) s.own r.place n r.named in
      entity_as (Func n) i (among_tail r) (p.0, p.1) (tt, room.0)

  entity_laws : {b : List ℕ} {e : EntityType} {rest : List ℕ} → ReadsEntity config s b e rest → EntityLaws b e rest
  entity_laws {e = e} {rest = rest} r =
      let f = entity_of r.kind r.mid e rest (kind_offered r.choice.place r.kind r.choice.named) r.is in
      record { tail = tail_trans f.tail (among_tail r.choice); formed = f.formed; fits = f.fits }

-- declarations

import_names_tail : (config : Config) → (s : Declared) {b from name rest : List ℕ} → ReadsImportNames config s b from name rest → IsTail rest b
import_names_tail config s (mid, r, n) = tail_trans (new_text_tail n) (text_tail r)

func_named : (e : CoreEntry) → is_core_func e ≡ true → (f : Function) × (func_in (Some e) ≡ Some f)
func_named (core_func f) t = (f, refl)
func_named (core_module ds) t = absurd (false≢true t)

alias_named : (around : Scope) (s : Declared) (k : ℕ) (a : ℕ × ℕ) → slice_get (alias_choices around s) k ≡ Some a
    → (f : Function) × (aliased around.core_types s.own a.0 a.1 ≡ Some f)
alias_named around s k a e =
    elim (get_either (map (λ i. (1, i)) (places is_core_func 0 around.core_types)) (map (λ i. (0, i)) (indexes s.own)) k a e) [
      | inl p ↦ (let q = get_mapped (λ i. (1, i)) (places is_core_func 0 around.core_types) p.0 a p.1 in
          let at = place_stands is_core_func around.core_types p.0 q.0 q.1 in
          let named = func_named at.0 at.2 in
          subst (λ z. (f : Function) × (aliased around.core_types s.own z.0 z.1 ≡ Some f)) (sym q.2) (named.0, ap func_in at.1 ∙ named.1))
      | inr p ↦ (let q = get_mapped (λ i. (0, i)) (indexes s.own) p.0 a p.1 in
          let at = place_stands (λ f. true) s.own p.0 q.0 q.1 in
          subst (λ z. (f : Function) × (aliased around.core_types s.own z.0 z.1 ≡ Some f)) (sym q.2) (at.0, at.1))
    ]

module _ (config : Config) (around : Scope) where
  -- there is room for one more own type, if it is one
  abbrev ItemFits : Declared → ModuleItem → Type 0
  ItemFits s item.Type = length s.own < config.max_types
  ItemFits s item.Alias = length s.own < config.max_types
  ItemFits s k = Unit {0}

  item_offered : (s : Declared) (i : ℕ) (k : ModuleItem) → slice_get (module_items config around s) i ≡ Some k → ItemFits s k
  item_offered s i k e =
      offer_holds (ItemFits s) (item_offers config around s) (
        λ t. tt,
        (
          λ t. tt,
          (
            ltb-true (length s.own) config.max_types,
            (
              λ t. ltb-true (length s.own) config.max_types (and_parts _ _ t).0,
              tt,
            ),
          ),
        ),
      ) i k e

  record DeclLaws (s : Declared) (b : List ℕ) (d : ModuleDecl) (rest : List ℕ) : Type 0 where
    tail : IsTail rest b
    stands : Stands config around.core_types s.own s.decls d
    readable : IsReadableModuleDecl config s.decls d

  decl_as : {s : Declared} {b rest : List ℕ} {d : ModuleDecl} (x : ModuleDecl) → d ≡ x → IsTail rest b → Stands config around.core_types s.own s.decls x
      → IsReadableModuleDecl config s.decls x → DeclLaws s b d rest
  decl_as {s} x same tail stands readable = record {
    tail = tail;
    stands = subst (Stands config around.core_types s.own s.decls) (sym same) stands;
    readable = subst (IsReadableModuleDecl config s.decls) (sym same) readable;
  }

  decl_of : (s : Declared) (k : ModuleItem) (b : List ℕ) (d : ModuleDecl) (rest : List ℕ) → ItemFits s k → ReadsDeclOf config around s k b d rest
      → DeclLaws s b d rest
  decl_of s item.Import b d rest room (from, name, mid, (low, t, n), e, r, i) =
      let f = entity_laws config s r in
      decl_as (imports from name e) i (tail_trans f.tail (import_names_tail config s (low, t, n)))
      (record { formed = f.formed; new = n.unique.is_new; fits = f.fits }) (text_readable config t, new_readable config n)
  decl_of s item.Export b d rest room (name, mid, n, e, r, i) =
      let f = entity_laws config s r in
      decl_as (exports name e) i (tail_trans f.tail (new_text_tail n))
      (record { formed = f.formed; new = n.unique.is_new; fits = f.fits }) (new_readable config n)
  decl_of s item.Type b d rest room (f, r, i) =
      decl_as (declares f) i (function_tail r) (record { formed = tt; new = tt; fits = (function_formed r, room) }) tt
  decl_of s item.Alias b d rest room (a, r, i) =
      let named = alias_named around s r.place a r.named in
      decl_as (aliases a.0 a.1) i (among_tail r) (record { formed = named; new = tt; fits = (named, room) }) tt

  decl_laws : (s : Declared) (b : List ℕ) (d : ModuleDecl) (rest : List ℕ) (t : Declared) → ReadsDecl config around s b d rest t → DeclLaws s b d rest
  decl_laws s b d rest t r =
      let f = decl_of s r.item r.mid d rest (item_offered s r.choice.place r.item r.choice.named) r.reads in
      record { tail = tail_trans f.tail (among_tail r.choice); stands = f.stands; readable = f.readable }

  ends_tail : (s : Declared) (b rest : List ℕ) (t : Declared) → EndsModuleType config around s b rest t → IsTail rest b
  ends_tail s b rest t (no_fuel f e) = tail_same b
  ends_tail s b rest t (no_import f c n none e) = tail_trans (import_names_tail config s n) (among_tail c)
  ends_tail s b rest t (no_export f c n none e) = tail_trans (new_text_tail n) (among_tail c)

line_tail : {may : _} {Line : List ℕ → List ModuleDecl → List ℕ → Type 0}
    → ((b : List ℕ) (ds : List ModuleDecl) (rest : List ℕ) → Line b ds rest → IsTail rest b)
    → (s : Declared) (b : List ℕ) (t : Declared) (rest : List ℕ) → ReadsLine may Line s b t rest → IsTail rest b
line_tail one s b t rest (not_allowed n e) = tail_same b
line_tail one s b t rest (declined m r k e) = reads_tail r
line_tail one s b t rest (taken {mid = mid} {ds = ds} m r k l e) = tail_trans (one mid ds rest l) (reads_tail r)

memory_line_tail : (b : List ℕ) (ds : List ModuleDecl) (rest : List ℕ) → MemoryLine b ds rest → IsTail rest b
memory_line_tail b ds rest (m, r, i) = limits_tail r.limits

front_tail : (config : Config) (b : List ℕ) (fuel : ℕ) (s : Declared) (rest : List ℕ) → ReadsFront config b fuel s rest → IsTail rest b
front_tail config b fuel s rest r =
    tail_trans (line_tail (λ c ds l h. tail_is h.0) r.with_realloc r.after_realloc s rest r.frees)
    (tail_trans (line_tail (λ c ds l h. tail_is h.0) r.with_memory r.after_memory r.with_realloc r.after_realloc r.reallocs)
    (line_tail memory_line_tail _ b r.with_memory r.after_memory r.memory))

module_tail : (config : Config) (around : Scope) (b : List ℕ) (fuel : ℕ) (ds : List ModuleDecl) (rest : List ℕ) (left : ℕ)
    → MadeModule config around b fuel ds rest left → IsTail rest b
module_tail config around b fuel ds rest left m =
    tail_trans (loop_tail (ends_tail config around) (λ s c d r t i. (decl_laws config around s c d r t i).tail) 0 m.front m.mid m.more rest m.whole m.goes_on)
    (front_tail config b fuel m.front m.mid m.begins)

-- module types

-- what holds before the declarations and lasts, holds after them
module _ {config : Config} {around : Scope} (P : Declared → Type 0) (burnt : (s : Declared) (n : ℕ) → P s → P (with_fuel s n))
    (more : (s : Declared) (b : List ℕ) (d : ModuleDecl) (rest : List ℕ) (t : Declared) → P s → ReadsDecl config around s b d rest t
    → P (with_decl around.core_types s d)) where
  ends_keep : (s : Declared) (b rest : List ℕ) (t : Declared) → EndsModuleType config around s b rest t → P s → P t
  ends_keep s b rest t (no_fuel f e) p = subst P (sym e) (burnt s 0 p)
  ends_keep s b rest t (no_import f c n none e) p = subst P (sym e) (burnt s (s.fuel - 1) p)
  ends_keep s b rest t (no_export f c n none e) p = subst P (sym e) (burnt s (s.fuel - 1) p)

  pub module_keeps : {b : List ℕ} {fuel : ℕ} {ds : List ModuleDecl} {rest : List ℕ} {left : ℕ} → (m : MadeModule config around b fuel ds rest left) → P m.front
      → P m.whole
  module_keeps m =
      loop_gives (λ s ds t. P s → P t) (λ s p. p) ends_keep (λ s t u b d rest ds r later p. later (subst P (sym r.state) (more s b d rest t p r))) 0 m.front
      m.mid m.more _ m.whole m.goes_on

module _ (config : Config) (around : Scope) where
  -- a loop over declarations yields them after those before, each takes one from the fuel, and there are at most 100
  record Grows (s : Declared) (ds : List ModuleDecl) (t : Declared) : Type 0 where
    decls : t.decls ≡ s.decls ++ ds
    fuel : length ds + t.fuel ≤ s.fuel
    uses : used (length ds) ≤ s.fuel

  ends_with : (s t : Declared) (n : ℕ) → n ≤ s.fuel → t ≡ with_fuel s n → Grows s [] t
  ends_with s t n le e = record {
    decls = ap (λ u. u.decls) e ∙ sym (append-nil s.decls);
    fuel = omega (arith, ap (λ u. u.fuel) e, le);
    uses = omega arith;
  }

  ends_grows : (s : Declared) (b rest : List ℕ) (t : Declared) → EndsModuleType config around s b rest t → Grows s [] t
  ends_grows s b rest t (no_fuel f e) = ends_with s t 0 (omega arith) e
  ends_grows s b rest t (no_import f c n none e) = ends_with s t (s.fuel - 1) (omega arith) e
  ends_grows s b rest t (no_export f c n none e) = ends_with s t (s.fuel - 1) (omega arith) e

  decl_grows : (s t u : Declared) (b : List ℕ) (d : ModuleDecl) (rest : List ℕ) (ds : List ModuleDecl) → ReadsDecl config around s b d rest t → Grows t ds u
      → Grows s (d ∷ ds) u
  decl_grows s t u b d rest ds r g =
      let less = ap (λ v. v.fuel) r.state in
      let lasts = r.lasts in
      record {
        decls = g.decls ∙ (ap (λ v. v.decls ++ ds) r.state ∙ append_assoc s.decls (d ∷ []) ds);
        fuel = omega (arith, g.fuel, less, lasts);
        uses = one_used ds t.fuel s.fuel g.uses (omega (arith, less, lasts)) (omega (arith, less, lasts));
      }

  need_is : (ds : List ModuleDecl) (k f g : ℕ) → core_size (core_module ds) ≤ k → used k ≤ f → 0 < f → f ≤ g - 1 → core_need (core_module ds) ≤ g
  need_is [] k f g h u p l = omega arith
  need_is (d ∷ ds) zero f g h u p l = omega (arith, h, p, l)
  need_is (d ∷ ds) (suc k) f g h u p l = omega (arith, h, u, l)

  abbrev IsHolding : List ModuleDecl → Declared → Type 0
  IsHolding front s = Holds config around.core_types s.own s.decls × IsReadAfter config front s.decls

  -- what holds holds after one more declaration
  still_holding : (front : List ModuleDecl) (s : Declared) (b : List ℕ) (d : ModuleDecl) (rest : List ℕ) (t : Declared) → IsHolding front s
      → ReadsDecl config around s b d rest t → IsHolding front (with_decl around.core_types s d)
  still_holding front s b d rest t (h, read) i =
      let laws = decl_laws config around s b d rest t i in
      (holds_more config around.core_types s.own s.decls d h laws.stands, read_more config front s.decls d read laws.readable)

  within_limits : (own : List Function) (ds : List ModuleDecl) → Within config own ds → core_size (core_module ds) ≤ 100 → ModuleLimits config ds
  within_limits own ds w most = record {
    functions = w.functions;
    entities = w.values;
    types = omega (arith, w.types, w.few);
    globals = w.counts kind.Global;
    tables = w.counts kind.Table;
    memories = w.counts kind.Memory;
    tags = w.counts kind.Tag;
    funcs = w.counts kind.Func;
    declarations = most;
  }

  record ModuleLaws (b : List ℕ) (fuel : ℕ) (ds : List ModuleDecl) (rest : List ℕ) (left : ℕ) : Type 0 where
    formed : FormedCore (core_module ds) around.core_types
    limits : ModuleLimits config ds
    readable : AreReadableModuleDecls config (in_front ds (after_front ds)) (after_front ds)
    takes : Takes (core_size (core_module ds)) (core_cost (core_module ds)) (core_need (core_module ds)) left (fuel + 1)

  -- after one was taken from the fuel
  module_laws : {b : List ℕ} {fuel : ℕ} {ds : List ModuleDecl} {rest : List ℕ} {left : ℕ} → 0 < fuel → MadeModule config around b fuel ds rest left
      → ModuleLaws b fuel ds rest left
  module_laws {b} {fuel} {ds} {rest} {left} some m =
      let front = front_is config b fuel m.front m.mid m.begins in
      let begun : m.front.fuel ≡ fuel = ap (λ s. s.fuel) front.state in
      let grows = loop_gives Grows (λ s. record { decls = sym (append-nil s.decls); fuel = omega arith; uses = omega arith }) ends_grows decl_grows 0 m.front
      m.mid m.more rest m.whole m.goes_on in
      let few = loop_few 0 m.front m.mid m.more rest m.whole (omega arith) m.goes_on in
      let all = m.decls ∙ (grows.decls ∙ ap (λ s. s.decls ++ m.more) front.state) in
      let after : core_size (core_module ds) ≤ length m.more = subst (λ ds. core_size (core_module ds) ≤ length m.more) (sym all)
      (front_size front.memory front.reallocs front.frees m.more) in
      let asked : List ModuleDecl = front_decls front.memory front.reallocs front.frees in
      let holding : IsHolding asked m.whole =
      module_keeps (IsHolding asked) (λ s n h. h) (still_holding asked) m
      (subst (IsHolding asked) (sym front.state) (front_holds config around.core_types front, read_none config asked asked refl)) in
      let holds : Holds config around.core_types m.whole.own ds = subst (Holds config around.core_types m.whole.own) (sym m.decls) holding.0 in
      let read : IsReadAfter config asked ds = subst (IsReadAfter config asked) (sym m.decls) holding.1 in
      record {
        formed = (holds.judged.formed, judged_names around.core_types m.whole.own ds holds.judged);
        limits = within_limits m.whole.own ds holds.within (omega (arith, after, few));
        readable = behind_readable config front.memory front.reallocs front.frees ds read;
        takes = record {
          within = omega (arith, after, grows.fuel, begun, m.fuel_left);
          enough = need_is ds (length m.more) m.front.fuel (fuel + 1) after grows.uses (omega (arith, begun, some)) (omega (arith, begun));
          leaves = omega (arith, after, grows.fuel, begun, m.fuel_left);
        };
      }

pub record CoreFits (config : Config) (around : Scope) (b : List ℕ) (fuel : ℕ) (e : CoreEntry) (rest : List ℕ) (left : ℕ) : Type 0 where
  pub tail : IsTail rest b
  pub formed : FormedCore e around.core_types
  pub limits : CoreLimits config e
  pub readable : IsReadableCore config e
  pub takes : Takes (core_size e) (core_cost e) (core_need e) left fuel

pub core_fits : {config : Config} {around : Scope} {b rest : List ℕ} {fuel left : ℕ} {e : CoreEntry} → MadeCore config around b fuel e rest left
    → CoreFits config around b fuel e rest left
core_fits {config} {around} {b} {rest} {fuel} {left} (spent_core f i n) =
    let h = holds_none config around.core_types in
    subst (λ z. CoreFits config around b fuel z rest left) (sym i) (record {
      tail = tail_same b;
      formed = (h.judged.formed, judged_names around.core_types [] [] h.judged);
      limits = within_limits config around [] [] h.within (omega arith);
      readable = tt;
      takes = record { within = omega (arith, n); enough = omega arith; leaves = omega (arith, n) };
    })
core_fits {config} {around} {b} {rest} {fuel} {left} (of_function f c r i n) =
    subst (λ z. CoreFits config around b fuel z rest left) (sym i) (record {
      tail = tail_trans (function_tail r) (reads_tail c);
      formed = tt;
      limits = function_formed r;
      readable = tt;
      takes = record { within = omega (arith, n); enough = omega (arith, f); leaves = omega (arith, n) };
    })
core_fits {config} {around} {b} {rest} {fuel} {left} (of_module {mid = mid} {ds = ds} f c m i) =
    let x = module_laws config around f m in
    let same : fuel - 1 + 1 ≡ fuel = omega (arith, f) in
    subst (λ z. CoreFits config around b fuel z rest left) (sym i) (record {
      tail = tail_trans (module_tail config around mid (fuel - 1) ds rest left m) (reads_tail c);
      formed = x.formed;
      limits = x.limits;
      readable = x.readable;
      takes = subst (Takes (core_size (core_module ds)) (core_cost (core_module ds)) (core_need (core_module ds)) left) same x.takes;
    })

-- scripts

pub core_type_read : (config : Config) (around : Scope) (fuel : ℕ) (f : Function) (rest : List ℕ) → 2 ≤ fuel
    → FormedFunction (configured config) (max_results config) f → MadeCore config around (script_core_type config f ++ rest) fuel (core_func f) rest (fuel - 1)
core_type_read config around fuel f rest lasts formed =
    let said = core.script_function (configured config) (max_results config) f in
    let few : length (configured config) ≤ 7 = few_values config in
    let P : List ℕ → Type 0 = λ b. MadeCore config around b fuel (core_func f) rest (fuel - 1) in
    subst P (sym (append_assoc (pick 2 0) said rest)) (of_function (omega arith) (reads-pick 2 0 (said ++ rest) (omega arith) (omega arith))
    (function_read (configured config) (max_results config) f rest formed (omega (arith, few))) refl refl)
