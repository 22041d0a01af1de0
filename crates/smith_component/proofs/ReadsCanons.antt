-- What canonical sections read: they keep what is true of the builder.
use Rattle.std.proofs.Common.{◌≡◌, ℕ, ◌+◌, ◌-◌, ◌<◌, ◌≤◌, List, [], ◌∷◌, ◌++◌, map, length, length-append, refl, sym, ap, ◌∙◌, subst, arith, Some, Option}
use Rattle.std.proofs.lemmas.List.{length-map}
use Rattle.std.specs.List.{AllByRecursion}
use Rattle.std.specs.Option.{option_to_list}
use Rattle.std.specs.Prelude.{slice_get}
use Rattle.smith_input.specs.Reading.{IsTail}
use Rattle.smith_input.proofs.Choices.{among_tail}
use Rattle.smith_input.proofs.Loops.{loop_tail}
use Rattle.smith_input.proofs.Reading.{tail_is, tail_trans, reads_tail}
use Rattle.smith_format.specs.CoreTypes.{Function}
use Rattle.smith_format.specs.declared.config.Config.{Config}
use Rattle.smith_format.specs.declared.types.ValType.{ValType}
use Rattle.smith_syntax.specs.Entries.{Entry, Signature, defined, function, component_type, instance_type}
use Rattle.smith_syntax.specs.Flat.{Flat, Flattens, flat_value}
use Rattle.smith_syntax.specs.Marked.{Marked}
use Rattle.smith_syntax.specs.Scope.{Scope}
use Rattle.smith_syntax.specs.Usable.{OfferedEntry}
use Rattle.smith_syntax.specs.WellFormed.{FormedEntry, FormedTypes, size}
use Rattle.smith_tree.specs.TypeNeeds.{need}
use Rattle.smith_syntax.specs.declared.types.ComponentValType.{ComponentValType}
use Rattle.smith_syntax.proofs.Flat.{flattens_params}
use Rattle.smith_tree.specs.ReadableTypes.{IsReadableType}
use Rattle.smith_types.proofs.Lifting.{lifted_readable, lifted_tail, lifted_flattens, lifted_formed, lifted_offered}
use Rattle.smith_component.specs.Canonicals.{Growing, grown, spaces_at, with_canon, with_defined, LiftsTo, to_equal, to_defined, given_up, ReadsLift, CanonTurn}
use Rattle.smith_component.specs.Canonicals.{empty_section, ReadsCanons}
use Rattle.smith_tree.specs.Open.{Open, scopes_in, tree_so_far, with_inner}
use Rattle.smith_component.specs.Sound.{Sound}
use Rattle.smith_tree.specs.Spaces.{Spaces, after_part, core_types_of, spaces_of, types_of}
use Rattle.smith_component.specs.Tables.{functions_at}
use Rattle.smith_tree.specs.Tree.{Canon, lift, lower, Tree, Part, ends, first, component, types, canons, add, imports_in, imports_of, function_count}
use Rattle.smith_tree.specs.WellFormed.{scope_of, HasSignature, FormedCanon, FormedCanons, Formed, FormedPart}
use Rattle.smith_tree.specs.declared.choices.CanonItem.{CanonItem}
use Rattle.smith_tree.specs.declared.choices.CanonItem.TheVariants.{Lower, Lift}
use Rattle.smith_component.proofs.Fits.{fits_kept, fits_of, own_limits-add, own_sizes-add, sizes_keep}
use Rattle.smith_component.proofs.Growth.{KeepsTypes, canon_keeps, canons_keep, extends_part, functions_after, spaces-add, spaces_canon}
use Rattle.smith_component.proofs.Growth.{types_past}
use Rattle.smith_component.proofs.Loops.{loop_keeps}
use Rattle.smith_component.proofs.Sound.{addable_level, addable_types, own_limits_of, own_sizes_of, part_sound}
use Rattle.smith_component.proofs.Spaces.{all_at, get_last, with_entries, has_signature_stays}
use Rattle.smith_component.proofs.Spaces.{equal_at, formed_canons-snoc}
use Rattle.smith_component.proofs.Tables.{own_bare, scalar_at}
use Rattle.smith_component.proofs.Tree.{function_count-add, join-add, join-ends, join, formed_front}

-- Function types of a well formed component have at most 16 parameters.

abbrev FewParams : Entry → Type 0
FewParams (defined t) = Unit {0}
FewParams (function s) = length s.params ≤ 16
FewParams (component_type ds) = Unit {0}
FewParams (instance_type ds) = Unit {0}

entry_few : (e : Entry) (own : Scope) (outer : List Scope) → FormedEntry e own outer → FewParams e
entry_few (defined t) own outer f = tt
entry_few (function s) own outer (named, values, few, result) = few
entry_few (component_type ds) own outer f = tt
entry_few (instance_type ds) own outer f = tt

types_few : (es : List Entry) (own : Scope) (outer : List Scope) → FormedTypes es own outer → AllByRecursion FewParams es
types_few [] own outer f = tt
types_few (e ∷ es) own outer f = (entry_few e own outer f.0, types_few es _ outer f.1)

part_few : (p : Part) (outer : List Scope) (before : Tree) → FormedPart p outer before → AllByRecursion FewParams (types_of before)
    → AllByRecursion FewParams (types_of (add before p))
part_few p outer before f few =
    types_past FewParams before p few (λ ts e. types_few ts (scope_of before) outer (subst (λ q. FormedPart q outer before) e f))

tree_few : (t : Tree) (outer : List Scope) (before : Tree) → Formed t outer before → AllByRecursion FewParams (types_of before)
    → AllByRecursion FewParams (types_of (join before t))
tree_few ends outer before f few = subst (λ u. AllByRecursion FewParams (types_of u)) (sym (join-ends before)) few
tree_few (first p t) outer before f few =
    subst (λ u. AllByRecursion FewParams (types_of u)) (join-add before p t) (tree_few t outer (add before p) f.1 (part_few p outer before f.0 few))

inner_few : (stack : List Tree) (outer : List Scope) (t : Tree) → Formed (tree_so_far stack t) outer ends → AllByRecursion FewParams (types_of t)
inner_few [] outer t f = tree_few t outer ends f tt
inner_few (u ∷ stack) outer t f = inner_few stack (scope_of u ∷ outer) t (formed_front u (component (tree_so_far stack t)) outer ends f).1

-- What a lift that defines its type is of.
pub record Defines (config : Config) (s : Growing) (c : ℕ) (signature : Signature) : Type 0 where
  pub f : ℕ
  pub lowered : Signature
  pub lowers : slice_get (spaces_at s).core_functions c ≡ Some f
  pub of : HasSignature (spaces_at s) f lowered
  pub flat : Flat signature lowered
  pub formed : length lowered.params ≤ 16 → (own : Scope) (outer : List Scope) → FormedEntry (function signature) own outer
  pub readable : IsReadableType config (function signature)
  pub offered : (own : Marked) (outer : List Marked) → OfferedEntry {N = Unit {0}} {K = Unit {0}} (function signature) own outer
  pub small : size (function signature) ≤ size (function lowered)
  pub room : length (spaces_at s).types < config.max_types

-- A turn adds a canonical function, or a type and a canonical function, or nothing.
pub data Turned (config : Config) (s next : Growing) : Type 0 where
  adds : (c : Canon) → FormedCanon (spaces_at s) c → next ≡ with_canon s c → Turned config s next
  defines : (c : ℕ) (signature : Signature) → Defines config s c signature → next ≡ with_defined s c signature → Turned config s next
  gives_up : config.max_types ≤ length (spaces_at s).types → next ≡ s → Turned config s next

one_result : (o : Option ComponentValType) (vs : List ValType) → map flat_value (option_to_list o) ≡ map Some vs → length vs ≡ 1 → length (option_to_list o) ≡ 1
one_result o vs e one = omega (arith, ap length e, one, length-map (option_to_list o) flat_value, length-map vs (λ (v : ValType). Some v))

-- Signatures that flatten to one core function type are of one size.
same_size : {a b : Signature} {f : Function} → Flattens a f → Flattens b f → size (function a) ≡ size (function b)
same_size {a} {b} {f} p q =
    omega (arith, flattens_params p, flattens_params q, one_result a.result f.1 p.result p.one, one_result b.result f.1 q.result q.one)

lift_turned : {config : Config} {s : Growing} {b rest : List ℕ} {next : Growing} (r : ReadsLift config s b rest next)
    → LiftsTo config s r.c r.signature r.low rest next → Turned config s next
lift_turned {s = s} r (to_equal {t = t} among e) =
    adds (lift r.c t) (
      r.signature,
      r.lowered,
      r.f,
      equal_at (spaces_at s).types r.signature among.place t among.named,
      r.lowers,
      r.of,
      (r.core, lifted_flattens r.reads, r.flattens),
    ) e
lift_turned r (to_defined none room left e) =
    defines r.c r.signature (record {
      f = r.f;
      lowered = r.lowered;
      lowers = r.lowers;
      of = r.of;
      flat = (r.core, lifted_flattens r.reads, r.flattens);
      formed = λ h. lifted_formed r.reads (omega (arith, h, flattens_params r.flattens));
      readable = lifted_readable r.reads;
      offered = lifted_offered r.reads;
      small = omega (arith, same_size (lifted_flattens r.reads) r.flattens);
      room = room;
    }) e
lift_turned r (given_up none full left e) = gives_up full e

pub turned : (config : Config) (s : Growing) (b : List ℕ) (item : CanonItem) (rest : List ℕ) (next : Growing) → CanonTurn config s b item rest next
    → Turned config s next
turned config s b Lower rest next (mid, chosen, (f, among, e)) = adds (lower f) (scalar_at (grown s) among.place f among.named) e
turned config s b Lift rest next (mid, chosen, r) = lift_turned r r.lifts

-- A type after a canonical section, and an empty one after that.
abbrev pub with_signature : Growing → Signature → Growing
with_signature s signature = empty_section (add (grown s) (types (function signature ∷ [])))

pub spaces_signature : (s : Growing) (signature : Signature) → spaces_at (with_signature s signature) ≡ with_entries (spaces_at s) (function signature ∷ [])
spaces_signature s signature = grind (arith, spaces-add)

pub canon_count : (s : Growing) (c : Canon) → function_count (grown (with_canon s c)) ≡ function_count (grown s) + 1
canon_count s c = grind (arith, function_count-add, length-append)

pub signature_count : (s : Growing) (signature : Signature) → function_count (grown (with_signature s signature)) ≡ function_count (grown s)
signature_count s signature = grind (arith, function_count-add)

signature_types : (s : Growing) (signature : Signature) (n : ℕ) → n ≤ length (types_of (grown s)) → n ≤ length (types_of (grown (with_signature s signature)))
signature_types s signature n h = grind (arith, spaces_signature, length-append)

pub empty_count : (t : Tree) → function_count (grown (empty_section t)) ≡ function_count t
empty_count t = omega (arith, function_count-add t (canons []))

-- The lift to the type that is defined is formed after it.
pub defined_canon : {config : Config} {s : Growing} {c : ℕ} {signature : Signature} → Defines config s c signature
    → FormedCanon (spaces_at (with_signature s signature)) (lift c (length (spaces_at s).types))
defined_canon {s = s} {c = c} {signature = signature} d =
    let es : List Entry = function signature ∷ [] in
    let P : Spaces → Type 0 = λ u. FormedCanon u (lift c (length (spaces_at s).types)) in
    let of = has_signature_stays (extends_part (spaces_at s) (types es)) d.of in
    subst P (sym (spaces_signature s signature)) (signature, d.lowered, d.f, get_last (spaces_at s).types (function signature), d.lowers, of, d.flat)

-- What a turn keeps, by what a canonical function and a type keep.
pub turn_keeps : (P : ℕ → Growing → Type 0) (config : Config) (n : ℕ) (s next : Growing)
    → ((u : Growing) (c : Canon) → FormedCanon (spaces_at u) c → P n u → P (n + 1) (with_canon u c))
    → ((c : ℕ) (signature : Signature) → Defines config s c signature → P n s → P n (with_signature s signature))
    → (config.max_types ≤ length (spaces_at s).types → P n s → P (n + 1) s) → P n s → Turned config s next → P (n + 1) next
turn_keeps P config n s next canon type none p (adds c h e) = subst (P (n + 1)) (sym e) (canon s c h p)
turn_keeps P config n s next canon type none p (defines c signature d e) =
    subst (P (n + 1)) (sym e) (canon (with_signature s signature) (lift c (length (spaces_at s).types)) (defined_canon d) (type c signature d p))
turn_keeps P config n s next canon type none p (gives_up full e) = subst (P (n + 1)) (sym e) (none full p)

-- A turn adds at most one function to the index spaces.
pub turn_functions : (config : Config) (s : Growing) (b : List ℕ) (item : CanonItem) (rest : List ℕ) (next : Growing) → CanonTurn config s b item rest next
    → functions_at (spaces_at next) ≤ functions_at (spaces_at s) + 1
turn_functions config s b item rest next i =
    let P : ℕ → Growing → Type 0 = λ n u. functions_at (spaces_at u) ≤ functions_at (spaces_at s) + n in
    turn_keeps P config 0 s next (λ v c h p. omega (arith, p, ap functions_at (spaces_canon v.before v.funcs c), functions_after (spaces_at v) c))
    (λ c signature d p. omega (arith, p, ap functions_at (spaces_signature s signature)))
    (λ full p. omega (arith, p)) (omega arith) (turned config s b item rest next i)

module _ (config : Config) (least : ℕ) (t : Tree) {b : List ℕ} {turns : List CanonItem} {rest : List ℕ} {next : Growing}
    (r : ReadsCanons config least t b turns rest next) where
  turn_tail : (s : Growing) (b : List ℕ) (item : CanonItem) (rest : List ℕ) (next : Growing) → CanonTurn config s b item rest next → IsTail rest b
  turn_tail s b Lower rest next (mid, chosen, (f, among, e)) = tail_trans (among_tail among) (among_tail chosen)
  turn_tail s b Lift rest next (mid, chosen, r) = tail_trans (tail_trans (lifts_tail r.lifts) (tail_trans (lifted_tail r.reads) (reads_tail r.chooses)))
      (among_tail chosen)
    where
      lifts_tail : {c : ℕ} {signature : Signature} {low : List ℕ} → LiftsTo config s c signature low rest next → IsTail rest low
      lifts_tail (to_equal among e) = among_tail among
      lifts_tail (to_defined none room left e) = tail_is left
      lifts_tail (given_up none full left e) = tail_is left

  pub canons_tail : IsTail rest b
  canons_tail = loop_tail (λ s b r t e. tail_is e.1) turn_tail 0 (empty_section t) b turns rest next r

  -- They add no import and no core type, and take no type away.
  pub canons_grow : (imports_of (grown next) ≡ imports_of t) × (core_types_of (grown next) ≡ core_types_of t)
      × (length (types_of t) ≤ length (types_of (grown next)))
  canons_grow =
      let P : ℕ → Growing → Type 0 = λ n s. (imports_of (grown s) ≡ imports_of t) × (core_types_of (grown s) ≡ core_types_of t)
      × (length (types_of t) ≤ length (types_of (grown s))) in
      let all = loop_keeps P (λ n s b r t p e. subst (P n) (sym e.2) p)
      (λ n s b x q u lt p i. turn_keeps P config n s u
      (λ v c h p. (
        own_bare imports_in v.before (canons (v.funcs ++ c ∷ [])) refl ∙ (sym (own_bare imports_in v.before (canons v.funcs) refl) ∙ p.0),
        ap (λ z. z.core_types) (spaces_canon v.before v.funcs c) ∙ ((canon_keeps (spaces_at v) c).core_types ∙ p.1),
        omega (arith, p.2, ap (λ z. length z.types) (spaces_canon v.before v.funcs c), ap length (canon_keeps (spaces_at v) c).types),
      ))
      (λ c signature d p. (
        own_bare imports_in (add (grown s) (types (function signature ∷ []))) (canons []) refl
            ∙ (own_bare imports_in (grown s) (types (function signature ∷ [])) refl ∙ p.0),
        ap (λ z. z.core_types) (spaces_signature s signature) ∙ p.1,
        signature_types s signature (length (types_of t)) p.2,
      ))
      (λ full p. p) p (turned config s b x q u i))
      0 (empty_section t) b turns rest next (omega arith) (
        own_bare imports_in t (canons []) refl,
        ap (λ z. z.core_types) (spaces-add t (canons [])),
        omega (arith, ap (λ z. length z.types) (spaces-add t (canons []))),
      ) r in
      all.2

-- What is true of the builder, that many turns after the section was begun.
record Going (config : Config) (stack : Open) (n : ℕ) (s : Growing) : Type 0 where
  pub sound : Sound config (with_inner stack s.before)
  pub formed : FormedCanons s.funcs (spaces_of s.before)
  pub few : function_count (grown s) ≤ function_count stack.inner + n

module _ (config : Config) (stack : Open) (fits : function_count stack.inner ≤ config.max_funcs) where
  section_sound : (n : ℕ) (s : Growing) → n ≤ config.max_funcs - function_count stack.inner → Going config stack n s → Sound config (with_inner stack (grown s))
  section_sound n s h g =
      let spaces : Spaces = after_part (spaces_of s.before) (canons s.funcs) in
      let same : KeepsTypes (spaces_of s.before) spaces = canons_keep (spaces_of s.before) s.funcs in
      let count : function_count s.before + length s.funcs ≤ config.max_funcs =
      omega (arith, g.few, h, fits, function_count-add s.before (canons s.funcs)) in
      let addable = addable_level config (with_inner stack s.before) (canons s.funcs) g.formed (λ o.
      own_limits-add config s.before (canons s.funcs) o (fits_kept config (spaces_of s.before) spaces same (fits_of config s.before o))
      (record { imports = omega (arith, o.imports); functions = omega (arith, count); exports = omega (arith, o.exports) }) tt)
      (λ o. own_sizes-add config s.before (canons s.funcs) (sizes_keep config (spaces_of s.before) spaces same o)) refl refl refl
      (λ h. omega (arith, h)) in
      part_sound config (with_inner stack s.before) (canons s.funcs) addable g.sound

  going_canon : (n : ℕ) (s : Growing) (c : Canon) → FormedCanon (spaces_at s) c → Going config stack n s → Going config stack (n + 1) (with_canon s c)
  going_canon n s c h g = record {
    sound = g.sound;
    formed = formed_canons-snoc (spaces_of s.before) s.funcs c g.formed (subst (λ u. FormedCanon u c) (spaces-add s.before (canons s.funcs)) h);
    few = omega (arith, g.few, canon_count s c);
  }

  going_signature : (n : ℕ) (s : Growing) (c : ℕ) (signature : Signature) → n ≤ config.max_funcs - function_count stack.inner → Defines config s c signature
      → Going config stack n s → Going config stack n (with_signature s signature)
  going_signature n s c signature h d g =
      let es : List Entry = function signature ∷ [] in
      let u : Open = with_inner stack (grown s) in
      let whole : Sound config u = section_sound n s h g in
      let few : length d.lowered.params ≤ 16 = all_at FewParams (types_of (grown s)) d.of.ty (function d.lowered)
      (inner_few stack.outer [] (grown s) whole.formed) d.of.is in
      let small : need (function d.lowered) ≤ config.max_type_size =
      all_at (λ e. need e ≤ config.max_type_size) (types_of (grown s)) d.of.ty (function d.lowered) (own_sizes_of config u whole).0 d.of.is in
      let formed = d.formed few in
      record {
        sound =
            part_sound config u (types es)
            (addable_types config u es (formed (scope_of (grown s)) (scopes_in stack.outer), tt) (omega (arith, d.room)) (tt, tt) (omega arith)
            (omega (arith, small, d.small), tt))
            whole;
        formed = tt;
        few = omega (arith, g.few, signature_count s signature);
      }

-- Canonical sections may be added.
pub canons_sound : (config : Config) (least : ℕ) (stack : Open) {b : List ℕ} {turns : List CanonItem} {rest : List ℕ} {next : Growing}
    → ReadsCanons config least stack.inner b turns rest next → Sound config stack → Sound config (with_inner stack (grown next))
canons_sound config least stack {b} {turns} {rest} {next} r sound =
    let fits : function_count stack.inner ≤ config.max_funcs = (own_limits_of config stack sound).functions in
    let P : ℕ → Growing → Type 0 = Going config stack in
    let start : P 0 (empty_section stack.inner) = record { sound = sound; formed = tt; few = omega (arith, empty_count stack.inner) } in
    let all = loop_keeps P (λ n s b r t p e. subst (P n) (sym e.2) p)
    (λ n s b x q u lt p i.
    turn_keeps P config n s u (λ v c h p. going_canon config stack fits n v c h p)
    (λ c signature d p. going_signature config stack fits n s c signature (omega (arith, lt)) d p)
    (λ full p. record { sound = p.sound; formed = p.formed; few = omega (arith, p.few) }) p (turned config s b x q u i))
    0 (empty_section stack.inner) b turns rest next (omega arith) start r in
    section_sound config stack fits all.0 next all.1 all.2
