-- Marks before a place are tied to the types there: so they are after a type, an import and an export.
use Rattle.std.proofs.Common.{◌≡◌, ℕ, zero, suc, ◌+◌, Bool, true, false, List, [], ◌∷◌, ◌++◌, flat_map, refl, sym, ap, ap₂, subst, ◌∙◌}
use Rattle.std.proofs.Common.{append-nil, arith, get_or, option_to_list}
use Rattle.std.proofs.lemmas.Grind.{flat_map-append}
use Rattle.std.proofs.lemmas.List.{map-append}
use Rattle.std.specs.List.{AllByRecursion}
use Rattle.smith_format.specs.declared.config.Config.{Config}
use Rattle.smith_input.proofs.Lists.{all_both}
use Rattle.smith_syntax.specs.Entries.{Entry, CoreEntry}
use Rattle.smith_syntax.specs.Marked.{Marked, empty_marked, exported_mark, exported_with, marks_for, more_kept, reference_reach, reference_size}
use Rattle.smith_syntax.specs.Marked.{scope_in, size_with, with_export, with_exported, with_import}
use Rattle.smith_syntax.specs.Marks.{narrower}
use Rattle.smith_syntax.specs.Scope.{exported_type}
use Rattle.smith_syntax.specs.Sizes.{capped}
use Rattle.smith_syntax.specs.Usable.{OfferedRef}
use Rattle.smith_syntax.specs.declared.deftype.ComponentTypeRef.{ComponentTypeRef}
use Rattle.smith_syntax.specs.declared.deftype.ComponentTypeRef.TheVariants as to
use Rattle.smith_syntax.specs.declared.marks.Mark.{Mark}
use Rattle.smith_syntax.specs.declared.marks.Reach.TheVariants.{Everywhere}
use Rattle.smith_tree.specs.Bodies.{Body, after_export, after_import, empty_body, exported_facts, externs_at, module_size_at, module_size_of}
use Rattle.smith_tree.specs.Bodies.{reference_size as fact_reference, with_core_facts, with_facts}
use Rattle.smith_tree.specs.Counts.{Counts, with_export as counted_export}
use Rattle.smith_tree.specs.Facts.{CoreFacts, FactScope, Facts, Id, sizes as fact_sizes}
use Rattle.smith_tree.specs.Validates.{RefersTo, names_of}
use Rattle.smith_tree.proofs.Capped.{capped_again, capped_both}
use Rattle.smith_tree.proofs.Externs.{export_added, export_many, export_refers, exports_nothing}
use Rattle.smith_tree.proofs.Kept.{kept_either, kept_more, kept_none}
use Rattle.smith_tree.proofs.Named.{IsWithin, named_before, names_of_both, refers_both}
use Rattle.smith_tree.proofs.Reaches.{both_everywhere}
use Rattle.smith_tree.proofs.SameSizes.{same_at}
use Rattle.smith_tree.proofs.Ties.{AsMany, FitsCore, TiedScope, TiedTypes, entries_of, kept_sizes, many_more, types_more, types_wider}

pub record TiedBody (config : Config) (m : Marked) (b : Body) : Type 0 where
  pub keeps : m.keeps ≡ true
  pub own : TiedScope config (names_of b.exports) m b.own
  pub size : m.size ≡ capped b.size
  pub refers : RefersTo [] b.exports
  pub exported : m.exported ≡ Everywhere → flat_map (λ x. x.refers) b.exports ≡ []

-- Imports and exports have the same sizes on both sides, as they are kept.

same_module : (fs : List CoreFacts) (i : ℕ) → capped (get_or (kept_sizes fs) i 0) ≡ capped (module_size_at fs i)
same_module [] i = refl
same_module (f ∷ fs) zero = capped_again (module_size_of f)
same_module (f ∷ fs) (suc i) = same_module fs i

module _ (config : Config) where
  pub tied_empty : (keeps : Bool) → keeps ≡ true → TiedBody config (empty_marked keeps) empty_body
  tied_empty keeps e = record {
    keeps = e;
    own = record { types = tt; entries = tt; core_types = refl; core_sizes = refl; cores = tt };
    size = omega arith;
    refers = tt;
    exported = λ e. refl;
  }

  pub same_reference : (named : List Id) (m : Marked) (own : FactScope) (r : ComponentTypeRef) → TiedScope config named m own
      → capped (reference_size m r) ≡ capped (fact_reference own.core_types (fact_sizes own.types) r)
  same_reference named m own (to.Module i) t = ap (λ l. capped (get_or l i 0)) t.core_sizes ∙ same_module own.core_types i
  same_reference named m own (to.Func i) t = same_at named m.marks own.types i 0 t.types
  same_reference named m own (to.TypeEq i) t = same_at named m.marks own.types i 0 t.types
  same_reference named m own (to.Component i) t = same_at named m.marks own.types i 0 t.types
  same_reference named m own (to.Instance i) t = same_at named m.marks own.types i 0 t.types

  -- with more types, which are so tied
  pub tied_types : (m : Marked) (b : Body) (es : List Entry) (ms : List Mark) (fs : List Facts) → TiedBody config m b
      → AsMany es fs → TiedTypes (names_of b.exports) ms fs
      → TiedBody config (record m { types = m.types ++ es; marks = more_kept m.keeps m.marks ms }) (with_facts b fs)
  tied_types m b es ms fs t many k =
      let named = names_of b.exports in
      record {
        keeps = t.keeps;
        own = record {
          types = subst (λ l. TiedTypes named l (b.own.types ++ fs)) (sym (kept_more m.keeps m.marks ms t.keeps))
              (types_more named m.marks b.own.types ms fs t.own.types k);
          entries = many_more m.types b.own.types es fs t.own.entries many;
          core_types = t.own.core_types;
          core_sizes = t.own.core_sizes;
          cores = t.own.cores;
        };
        size = t.size;
        refers = t.refers;
        exported = t.exported;
      }

  -- with more core types
  pub tied_cores : (m : Marked) (b : Body) (cs : List CoreEntry) (ns : List ℕ) (fs : List CoreFacts)
      → TiedBody config m b → cs ≡ entries_of fs → ns ≡ kept_sizes fs → AllByRecursion (FitsCore config) fs
      → TiedBody config (record m { core_types = m.core_types ++ cs; core_sizes = more_kept m.keeps m.core_sizes ns }) (with_core_facts b fs)
  tied_cores m b cs ns fs t same_cores same_sizes fit = record {
    keeps = t.keeps;
    own = record {
      types = t.own.types;
      entries = t.own.entries;
      core_types = ap₂ ◌++◌ t.own.core_types same_cores ∙ sym (map-append (λ (f : CoreFacts). f.entry) b.own.core_types fs);
      core_sizes = kept_more m.keeps m.core_sizes ns t.keeps
          ∙ (ap₂ ◌++◌ t.own.core_sizes same_sizes ∙ sym (map-append (λ (f : CoreFacts). capped (module_size_of f)) b.own.core_types fs));
      cores = all_both (FitsCore config) b.own.core_types fs t.own.cores fit;
    };
    size = t.size;
    refers = t.refers;
    exported = t.exported;
  }

  same_size : (m : Marked) (b : Body) (r : ComponentTypeRef) → TiedBody config m b
      → size_with m r ≡ capped (b.size + fact_reference b.own.core_types (fact_sizes b.own.types) r)
  same_size m b r t =
      kept_either m.keeps (capped (m.size + reference_size m r)) m.size t.keeps
      ∙ capped_both m.size b.size (reference_size m r) (fact_reference b.own.core_types (fact_sizes b.own.types) r)
      (ap capped t.size ∙ capped_again b.size) (same_reference (names_of b.exports) m b.own r t.own)

  pub tied_import : (m : Marked) (b : Body) (outer : List FactScope) (r : ComponentTypeRef) → TiedBody config m b
      → TiedBody config (with_import m r) (after_import outer b r)
  tied_import m b outer r t = record {
    keeps = t.keeps;
    own = grind arith;
    size = same_size m b r t;
    refers = t.refers;
    exported = t.exported;
  }

  -- What is exported names what it names from there on.
  tied_exports : (m : Marked) (b : Body) (outer : List FactScope) (r : ComponentTypeRef) (counts : Counts) → TiedBody config m b
      → RefersTo (names_of b.exports) (externs_at b.own outer r)
      → TiedBody config (with_export m r)
      (record b {
        exports = b.exports ++ externs_at b.own outer r;
        size = b.size + fact_reference b.own.core_types (fact_sizes b.own.types) r;
        counts = counts;
      })
  tied_exports m b outer r counts t refers =
      let named = names_of b.exports in
      let xs = externs_at b.own outer r in
      let wider = subst (IsWithin named) (sym (names_of_both b.exports xs)) (named_before named (names_of xs)) in
      record {
        keeps = t.keeps;
        own = record {
          types = types_wider m.marks b.own.types wider t.own.types;
          entries = t.own.entries;
          core_types = t.own.core_types;
          core_sizes = t.own.core_sizes;
          cores = t.own.cores;
        };
        size = same_size m b r t;
        refers = refers_both [] b.exports xs t.refers refers;
        exported = λ e.
            let both = both_everywhere m.exported (reference_reach m r)
            (sym (kept_either m.keeps (narrower m.exported (reference_reach m r)) m.exported t.keeps) ∙ e) in
            flat_map-append (λ x. x.refers) b.exports xs
            ∙ ap₂ ◌++◌ (t.exported both.0) (exports_nothing config named m b.own outer r t.own both.1);
      }

  export_types : (m : Marked) (b : Body) (outer : List FactScope) (r : ComponentTypeRef) → TiedBody config m b
      → RefersTo (names_of b.exports) (externs_at b.own outer r) → TiedBody config (with_exported m r) (after_export outer b r)
  export_types m b outer r t refers =
      let named = names_of b.exports in
      let xs = externs_at b.own outer r in
      let size = b.size + fact_reference b.own.core_types (fact_sizes b.own.types) r in
      let marks = marks_for (exported_type (scope_in m) r) (exported_mark m.marks r) in
      tied_types (with_export m r) (record b { exports = b.exports ++ xs; size = size; counts = counted_export b.counts r })
      (option_to_list (exported_type (scope_in m) r)) marks (exported_facts b.own outer r)
      (tied_exports m b outer r (counted_export b.counts r) t refers) (export_many config named m b.own outer r t.own)
      (subst (λ l. TiedTypes l marks (exported_facts b.own outer r)) (sym (names_of_both b.exports xs))
      (export_added config named m b.own outer r t.own))

  pub tied_export : (m : Marked) (b : Body) (outer : List FactScope) (r : ComponentTypeRef) → TiedBody config m b → OfferedRef m false r
      → TiedBody config (with_exported m r) (after_export outer b r)
  tied_export m b outer r t h = export_types m b outer r t (export_refers config (names_of b.exports) m b.own outer r t.own h)

  -- the export of a function, which adds no type
  pub tied_function : (m : Marked) (b : Body) (outer : List FactScope) (i : ℕ) → TiedBody config m b
      → RefersTo (names_of b.exports) (externs_at b.own outer (to.Func i))
      → TiedBody config (with_export m (to.Func i)) (after_export outer b (to.Func i))
  tied_function m b outer i t refers =
      let after = λ (es : List Entry) (ms : List Mark).
      record m { types = es; marks = ms; exported = exported_with m (to.Func i); size = size_with m (to.Func i) } in
      subst (λ ms. TiedBody config (after m.types ms) (after_export outer b (to.Func i))) (kept_none m.keeps m.marks t.keeps)
      (subst (λ es. TiedBody config (after es (more_kept m.keeps m.marks [])) (after_export outer b (to.Func i))) (append-nil m.types)
      (export_types m b outer (to.Func i) t refers))
