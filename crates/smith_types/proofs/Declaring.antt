-- The scopes as declarations are made: what is in one of them, and how the last one grows.
use Rattle.std.proofs.Common.{◌≡◌, ℕ, ◌+◌, ◌<◌, ◌≤◌, Bool, true, List, [], ◌∷◌, ◌++◌, length, map, reverse}
use Rattle.std.proofs.Common.{refl, sym, ap, ◌∙◌, subst, arith}
use Rattle.std.proofs.Math.ListN.{drop}
use Rattle.std.proofs.lemmas.List.{reverse-append, reverse-reverse, length-append, length-map}
use Rattle.std.proofs.lemmas.Option.{slice_get-map, slice_get_within}
use Rattle.std.proofs.lemmas.Bool.Decides.{nat_tests}
use Rattle.std.specs.Option.{option_to_list}
use Rattle.std.specs.Prelude.{get_or, Option, Some, option_map, slice_get}
use Rattle.smith_input.specs.Choices.{ReadsAmong}
use Rattle.smith_input.specs.Reading.{Reads}
use Rattle.smith_syntax.specs.Entries.{CoreEntry, Entry, FullDecl, Kept, core_type_decl, import_decl, keeps_type, keeps_core_type, type_alias, core_type_alias}
use Rattle.smith_syntax.specs.Entries.{type_decl}
use Rattle.smith_syntax.specs.Marked.{Marked, core_size_named, empty_marked, exported_mark, first_marked, mark, mark_named, marks_for, more_kept, scope_in}
use Rattle.smith_syntax.specs.Marked.{scopes_in_marked, with_export, with_exported, with_import, with_marked, with_sized}
use Rattle.smith_syntax.specs.Marks.{aliased_mark, equal_mark, no_mark}
use Rattle.smith_syntax.specs.Scope.{core_type_named, exported_type, type_named}
use Rattle.smith_syntax.specs.Shown.{full_type, shown_type, shown_core}
use Rattle.smith_syntax.specs.ShownDecls.{full_alias}
use Rattle.smith_syntax.specs.Sizes.{capped, module_type_size}
use Rattle.smith_syntax.specs.WellFormed.{FormedRef}
use Rattle.smith_syntax.proofs.Shown.{alias_of_type, alias_of_core_type}
use Rattle.smith_syntax.specs.declared.core_types.CoreType.{CoreType}
use Rattle.smith_syntax.specs.declared.deftype.Alias.{Alias}
use Rattle.smith_syntax.specs.declared.deftype.ComponentTypeRef.{ComponentTypeRef}
use Rattle.smith_syntax.specs.declared.deftype.ComponentTypeRef.TheVariants as to
use Rattle.smith_syntax.specs.declared.deftype.DefType.{DefType}
use Rattle.smith_syntax.specs.declared.deftype.OuterAliasKind.TheVariants as of
use Rattle.smith_syntax.specs.declared.marks.Mark.{Mark}
use Rattle.std.specs.declared.alloc.Global.{Global}
use Rattle.std.specs.declared.rc.Rc.{Rc}
use Rattle.smith_scopes.specs.Scopes.{AddsMarked, AddsSized, Changes, Contents, inward_marked, last_of, outer_marked, own_marked, scope_at, shown_marked}
use Rattle.smith_scopes.proofs.Marking.{core_size_found, grown_export, grown_import, length-changed, mark_found, marked_alike, sized_alike}
use Rattle.smith_scope.proofs.Places.{place_stands}
use Rattle.smith_scopes.proofs.Stack.{GrownMarked, grown_marked, grown_sized, keeps_last, length-inward_marked, marked_at, opened_outer, own_marked_last}
use Rattle.smith_scopes.proofs.Stack.{split_marked}
use Rattle.smith_tree.specs.TypeOffers.{is_occupied, occupied, aliases_of}
use Rattle.smith_tree.proofs.Aliases.{length-aliases}
use Rattle.smith_types.proofs.ReadsDeclarations.{alias_core_type_at, alias_type_at}
use Rattle.smith_types.specs.Declarations.{ReadsAlias}
use Rattle.smith_types.specs.MakingTypes.{Declares, IsAliased, IsMarkOf, SameOuter}

-- what an outer alias may name is counted, and is where the choice says
module _ (scopes : List Contents) (b mid rest : List ℕ) (count place : ℕ) (choice : ReadsAmong (occupied (inward_marked scopes)) b count mid)
    (within : count < length scopes)
    (reads : Reads (length (scope_at scopes count).types + length (scope_at scopes count).core_types) mid place rest) where
  alias_at : (d : FullDecl) → slice_get (aliases_of count (shown_marked (scope_at scopes count))) place ≡ Some d → ReadsAlias (inward_marked scopes) b d rest
  alias_at d at =
      let s = scope_at scopes count in
      let total : length s.types + length s.core_types ≡ length (aliases_of count (shown_marked s)) =
      omega (arith, length-aliases count (shown_marked s), length-map s.types shown_type, length-map s.core_types shown_core) in
      record {
        count = count;
        mid = mid;
        scope = shown_marked s;
        choice = choice;
        stands = marked_at scopes count within;
        names = record { place = place; reads = subst (λ n. Reads n mid place rest) total reads; named = at };
      }

  pub type_alias_read : (ty : DefType) → slice_get (scope_at scopes count).types place ≡ Some ty
      → ReadsAlias (inward_marked scopes) b (type_alias count place (keeps_type (shown_type ty))) rest
  type_alias_read ty at =
      let s = scope_at scopes count in
      alias_at (type_alias count place (keeps_type (shown_type ty)))
      (alias_type_at count (shown_marked s) place (shown_type ty) (slice_get-map shown_type s.types place ∙ ap (option_map shown_type) at))

  pub core_type_alias_read : (i : ℕ) (ty : CoreType) → place ≡ length (scope_at scopes count).types + i
      → slice_get (scope_at scopes count).core_types i ≡ Some ty
      → ReadsAlias (inward_marked scopes) b (core_type_alias count i (keeps_core_type (shown_core ty))) rest
  core_type_alias_read i ty past at =
      let s = scope_at scopes count in
      let place_is : place ≡ length (map shown_type s.types) + i = omega (arith, past, length-map s.types shown_type) in
      alias_at (core_type_alias count i (keeps_core_type (shown_core ty))) (ap (slice_get (aliases_of count (shown_marked s))) place_is
      ∙ alias_core_type_at count (shown_marked s) i (shown_core ty) (slice_get-map shown_core s.core_types i ∙ ap (option_map shown_core) at))

-- a scope that an alias may be chosen from is there, and is not empty
pub record IsAmong (scopes : List Contents) (count : ℕ) : Type 0 where
  pub within : count < length scopes
  pub some : 0 < length (scope_at scopes count).types + length (scope_at scopes count).core_types

among_occupied : (scopes : List Contents) (count k : ℕ) → slice_get (occupied (inward_marked scopes)) k ≡ Some count → IsAmong scopes count
among_occupied scopes count k h =
    let p = place_stands is_occupied (inward_marked scopes) k count h in
    let w : count < length scopes = omega (arith, slice_get_within (inward_marked scopes) count p.0 p.1, length-inward_marked scopes) in
    let same : Some p.0 ≡ Some (shown_marked (scope_at scopes count)) = sym p.1 ∙ marked_at scopes count w in
    let is : p.0 ≡ shown_marked (scope_at scopes count) = cc in
    let t : is_occupied (shown_marked (scope_at scopes count)) ≡ true = sym (ap is_occupied is) ∙ p.2 in
    let s = scope_at scopes count in
    let lt : 0 < length (map shown_type s.types) + length (map shown_core s.core_types) = grind (arith, nat_tests) in
    record { within = w; some = omega (arith, lt, length-map s.types shown_type, length-map s.core_types shown_core) }

-- a choice among the counts of the scopes that have an entry
pub scope_chosen : (scopes : List Contents) (counts b mid : List ℕ) (count : ℕ) → counts ≡ occupied (inward_marked scopes)
    → (k : ℕ) × Reads (length counts) b k mid × (slice_get counts k ≡ Some count) → ReadsAmong (occupied (inward_marked scopes)) b count mid
scope_chosen scopes counts b mid count e (k, r, at) = record
    { place = k; reads = subst (λ cs. Reads (length cs) b k mid) e r; named = ap (λ cs. slice_get cs k) (sym e) ∙ at }

pub chosen_among : (scopes : List Contents) {counts b mid : List ℕ} {count : ℕ} → counts ≡ occupied (inward_marked scopes)
    → (k : ℕ) × Reads (length counts) b k mid × (slice_get counts k ≡ Some count) → IsAmong scopes count
chosen_among scopes e h = let r = scope_chosen scopes _ _ _ _ e h in among_occupied scopes _ r.place r.named

-- the same, also if there is none
pub occupied_count : (scopes : List Marked) → length (occupied (first_marked scopes ∷ drop 1 scopes)) ≡ length (occupied scopes)
occupied_count [] = refl
occupied_count (s ∷ ss) = refl

pub length-last_types : (scopes : List Contents) → length (last_of scopes).types ≡ length (own_marked scopes).types
length-last_types scopes = sym (ap (λ s. length s.types) (own_marked_last scopes) ∙ length-map (last_of scopes).types shown_type)

pub length-last_core_types : (scopes : List Contents) → length (last_of scopes).core_types ≡ length (own_marked scopes).core_types
length-last_core_types scopes = sym (ap (λ s. length s.core_types) (own_marked_last scopes) ∙ length-map (last_of scopes).core_types shown_core)

-- The last scope grows, and those around it stay.

pub same_trans : {a b c : List Contents} → SameOuter a b → SameOuter b c → SameOuter a c
same_trans x y = record { around = y.around ∙ x.around; depth = y.depth ∙ x.depth }

-- the last scope changed alone
pub same_changed : {f : Contents → Contents} {old new : List Contents} → Changes f old new → SameOuter old new
same_changed {f = f} {old = old} {new = new} c =
    let before : drop 1 (reverse old) ≡ reverse c.outer = ap (λ s. drop 1 (reverse s)) c.before ∙ ap (drop 1) (reverse-append c.outer (c.own ∷ [])) in
    let after : drop 1 (reverse new) ≡ reverse c.outer = ap (λ s. drop 1 (reverse s)) c.after ∙ ap (drop 1) (reverse-append c.outer (f c.own ∷ [])) in
    record { around = after ∙ sym before; depth = length-changed _ _ _ c }

-- a scope was opened and closed, and those around it stayed
pub closed_again : (old opened changed new : List Contents) (inner last : Contents) → opened ≡ old ++ inner ∷ [] → SameOuter opened changed
    → changed ≡ new ++ last ∷ [] → new ≡ old
closed_again old opened changed new inner last o same c =
    let backwards : reverse new ≡ reverse old =
    sym (ap (λ s. drop 1 (reverse s)) c ∙ ap (drop 1) (reverse-append new (last ∷ [])))
    ∙ (same.around ∙ (ap (λ s. drop 1 (reverse s)) o ∙ ap (drop 1) (reverse-append old (inner ∷ [])))) in
    sym (reverse-reverse new) ∙ (ap reverse backwards ∙ reverse-reverse old)

-- What a declaration leaves of the last scope.

module _ (old new : List Contents) where
  pub type_declared : (entry ty : DefType) (m : Mark) (d : FullDecl) → AddsMarked old entry m new → entry ≡ ty → d ≡ type_decl (full_type ty)
      → IsMarkOf old (full_type ty) m → Declares old new d
  type_declared entry ty m d adds same is marked =
      let own = own_marked old in
      let g = grown_marked old new entry adds in
      subst (λ x. Declares old new x) (sym is)
      (record {
        own = g.own
            ∙ (ap (λ t. with_marked own (shown_type t) m) same ∙ marked_alike own (shown_type ty) m (mark (full_type ty) own (outer_marked old)) marked);
        outer = g.outer;
      })

  pub core_type_declared : (entry ty : CoreType) (n : ℕ) (k : Kept) (d : FullDecl) → AddsSized old entry n new → entry ≡ ty
      → d ≡ core_type_decl (shown_core ty) k
      → ((last_of old).keeps ≡ true → n ≡ capped (module_type_size (map shown_core (last_of old).core_types) (shown_core ty))) → Declares old new d
  core_type_declared entry ty n k d adds same is sized =
      let own = own_marked old in
      let g = grown_sized old new entry adds in
      let around : map shown_core (last_of old).core_types ≡ own.core_types = sym (ap (λ s. s.core_types) (own_marked_last old)) in
      let known : own.keeps ≡ true → n ≡ capped (module_type_size own.core_types (shown_core ty)) =
      λ keeps. sized (keeps_last old ∙ keeps) ∙ ap (λ ts. capped (module_type_size ts (shown_core ty))) around in
      subst (λ x. Declares old new x) (sym is)
      (record {
        own = g.own ∙ (ap (λ t. with_sized own (shown_core t) n) same
            ∙ sized_alike own (shown_core ty) n (capped (module_type_size own.core_types (shown_core ty))) known);
        outer = g.outer;
      })

  pub import_declared : (name : List ℕ) (url : Option (List ℕ)) (r : ComponentTypeRef) → Changes (λ d. with_import d r) old new
      → Declares old new (import_decl name url r)
  import_declared name url r c = let g = grown_import old new r c in record { own = g.own; outer = g.outer }

-- An outer alias adds what it names.

module _ (old new : List Contents) (a : Alias) (within : a.count < length old) (kept : IsAliased (inward_marked old) (full_alias a)) where
  abbrev own : Marked
  own = own_marked old

  abbrev around : List Marked
  around = own_marked old ∷ outer_marked old

  split : inward_marked old ≡ own_marked old ∷ outer_marked old
  split = split_marked old (omega (arith, within))

  pub type_alias_declared : (ty : Rc DefType Global) (entry : DefType) (m : Mark) → AddsMarked old entry m new → entry ≡ ty.value → a.kind ≡ of.OfType ty
      → m ≡ aliased_mark a.count (get_or (scope_at old a.count).marks a.i no_mark) → Declares old new (full_alias a)
  type_alias_declared ty entry m adds same kind is =
      let g = grown_marked old new entry adds in
      let t = shown_type ty.value in
      let d = alias_of_type a ty kind in
      let k = subst (IsAliased (inward_marked old)) d kept in
      let there : type_named (scopes_in_marked around) a.count a.i ≡ Some t =
      ap (λ ss. type_named (scopes_in_marked ss) a.count a.i) (sym split) ∙ (k.2 ∙ ap Some (sym (kept_type k.1))) in
      let m_is : m ≡ aliased_mark a.count (mark_named around a.count a.i) = is ∙ ap (aliased_mark a.count) (mark_found old a.count a.i within) in
      let adding : Option Entry → Marked = λ o. record own {
        types = own.types ++ option_to_list o;
        marks = more_kept own.keeps own.marks (marks_for o (aliased_mark a.count (mark_named around a.count a.i)));
      } in
      subst (λ x. Declares old new x) (sym d)
      (record {
        own = g.own ∙ (ap (λ e. with_marked own (shown_type e) m) same ∙ (ap (λ n. with_marked own t n) m_is ∙ ap adding (sym there)));
        outer = g.outer;
      })
    where
      kept_type : {x y : Entry} → keeps_type x ≡ keeps_type y → x ≡ y
      kept_type e = cc

  pub core_type_alias_declared : (ty : Rc CoreType Global) (entry : CoreType) (n : ℕ) → AddsSized old entry n new → entry ≡ ty.value
      → a.kind ≡ of.OfCoreType ty → n ≡ get_or (scope_at old a.count).core_sizes a.i 0 → Declares old new (full_alias a)
  core_type_alias_declared ty entry n adds same kind is =
      let g = grown_sized old new entry adds in
      let t = shown_core ty.value in
      let d = alias_of_core_type a ty kind in
      let k = subst (IsAliased (inward_marked old)) d kept in
      let there : core_type_named (scopes_in_marked around) a.count a.i ≡ Some t =
      ap (λ ss. core_type_named (scopes_in_marked ss) a.count a.i) (sym split) ∙ (k.2 ∙ ap Some (sym (kept_core k.1))) in
      let n_is : n ≡ core_size_named around a.count a.i = is ∙ core_size_found old a.count a.i within in
      let adding : Option CoreEntry → Marked = λ o. record own {
        core_types = own.core_types ++ option_to_list o;
        core_sizes = more_kept own.keeps own.core_sizes (map (λ x. core_size_named around a.count a.i) (option_to_list o));
      } in
      subst (λ x. Declares old new x) (sym d)
      (record {
        own = g.own ∙ (ap (λ e. with_sized own (shown_core e) n) same ∙ (ap (λ m. with_sized own t m) n_is ∙ ap adding (sym there)));
        outer = g.outer;
      })
    where
      kept_core : {x y : CoreEntry} → keeps_core_type x ≡ keeps_core_type y → x ≡ y
      kept_core e = cc

-- An export is noted, and adds a type if it is of one.

module _ (old noted : List Contents) (r : ComponentTypeRef) (notes : Changes (λ d. with_export d r) old noted) where
  abbrev exports : Marked
  exports = with_export (own_marked old) r

  g : GrownMarked (λ s. with_export s r) old noted
  g = grown_export old noted r notes

  -- with the type that it adds, or none
  abbrev adding : Option Entry → Marked
  adding o = record exports
      { types = exports.types ++ option_to_list o; marks = more_kept exports.keeps exports.marks (marks_for o (exported_mark exports.marks r)) }

  module _ (i : ℕ) (is_equal : r ≡ to.TypeEq i) where
    -- a type that it is equal to is in the last scope
    pub equal_stands : FormedRef (scope_in (own_marked old)) r → i < length (last_of noted).types
    equal_stands formed =
        let f = subst (FormedRef (scope_in (own_marked old))) is_equal formed in
        let l = slice_get_within (own_marked old).types i f.0 f.1 in
        omega (arith, l, length-last_types noted, ap (λ s. length s.types) g.own)

    equal_shown : (ty : DefType) → slice_get (last_of noted).types i ≡ Some ty → exported_type (scope_in (own_marked old)) r ≡ Some (shown_type ty)
    equal_shown ty at =
        ap (exported_type (scope_in (own_marked old))) is_equal ∙ (ap (λ s. slice_get s.types i) (sym g.own)
        ∙ (ap (λ s. slice_get s.types i) (own_marked_last noted)
        ∙ (slice_get-map shown_type (last_of noted).types i ∙ ap (option_map shown_type) at)))

    pub equal_added : (new : List Contents) (ty entry : DefType) (m : Mark) → AddsMarked noted entry m new → entry ≡ ty
        → slice_get (last_of noted).types i ≡ Some ty → m ≡ equal_mark (get_or (last_of noted).marks i no_mark)
        → own_marked new ≡ with_exported (own_marked old) r
    equal_added new ty entry m adds same at is =
        let m_is : m ≡ exported_mark exports.marks r =
        is ∙ (ap (λ s. equal_mark (get_or s.marks i no_mark)) (sym (own_marked_last noted) ∙ g.own) ∙ ap (exported_mark exports.marks) (sym is_equal)) in
        (grown_marked noted new entry adds).own ∙ (ap (λ s. with_marked s (shown_type entry) m) g.own
        ∙ (ap (λ e. with_marked exports (shown_type e) m) same
        ∙ (ap (λ n. with_marked exports (shown_type ty) n) m_is ∙ ap adding (sym (equal_shown ty at)))))

-- an empty scope was opened
pub opened_around : (old new : List Contents) (keeps : Bool) → new ≡ old ++ empty_marked keeps ∷ [] → 2 ≤ length new
    → outer_marked new ≡ own_marked old ∷ outer_marked old
opened_around old new keeps o deep =
    let grew : length new ≡ length old + 1 = ap length o ∙ length-append old (empty_marked keeps ∷ []) in
    opened_outer old new keeps o ∙ split_marked old (omega (arith, grew, deep))
