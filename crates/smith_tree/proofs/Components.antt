-- Components of which each type, import and export was offered are valid.
use Rattle.std.proofs.Common.{rules, ◌≡◌, ◌≤◌, true, List, [], ◌∷◌, fold, refl, ap, subst, ◌∙◌}
use Rattle.smith_format.specs.Consistency.{IsConsistent}
use Rattle.smith_format.specs.declared.config.Config.{Config}
use Rattle.smith_syntax.specs.Marked.{Marked, empty_marked}
use Rattle.smith_syntax.specs.Scope.{Scope}
use Rattle.smith_tree.specs.Marking.{marked_after_part}
use Rattle.smith_tree.specs.Offered.{OfferedPart, OfferedParts}
use Rattle.smith_tree.specs.Readable.{CanBeGenerated, IsReadablePart, IsReadableRest}
use Rattle.smith_tree.specs.Spaces.{Spaces, after_part as spaces_after, no_spaces, spaces_of}
use Rattle.smith_tree.specs.Tree.{Tree, Part, ends, first, custom, core_module, core_types, component, types, canons, imports, exports}
use Rattle.smith_tree.specs.Tree.{add, parts_of}
use Rattle.smith_tree.specs.WellFormed.{Formed, FormedCanons, FormedPart, scope_of}
use Rattle.smith_tree.specs.Bodies.{Body, empty_body}
use Rattle.smith_tree.specs.Counts.{Counts, with_component}
use Rattle.smith_tree.specs.Demands.{everything}
use Rattle.smith_tree.specs.Facts.{FactScope}
use Rattle.smith_tree.specs.Validates.{ValidPart, ValidParts, Validates, after_part, names_of}
use Rattle.smith_tree.proofs.KeptLimits.{limits_fit, limits_kept}
use Rattle.smith_tree.proofs.FewMemories.{module_has_few}
use Rattle.smith_tree.proofs.Left.{KeptPart, KeptParts, left, part_left}
use Rattle.smith_tree.proofs.Sections.{brought, cores, entries, given, lifts}
use Rattle.smith_tree.proofs.Standing.{Stands, stands_component, stands_empty, stands_module, stands_small}
use Rattle.smith_tree.proofs.Ties.{TiedScopes}

after_added : (s : Spaces) (t : Tree) (p : Part) → fold spaces_after s (parts_of (add t p)) ≡ spaces_after (fold spaces_after s (parts_of t)) p
after_added s ends p = refl
after_added s (first q t) p = after_added (spaces_after s q) t p

pub spaces_added : (t : Tree) (p : Part) → spaces_of (add t p) ≡ spaces_after (spaces_of t) p
spaces_added t p = after_added no_spaces t p

module _ (config : Config) (valid : config.must_validate ≡ true) (few : config.max_memories ≤ 100) where
  mutual
    valid_parts : (t before : Tree) (around : List Scope) (s : Spaces) (marked : List Marked) (outer : List FactScope) (m : Marked) (b : Body)
        → spaces_of before ≡ s → Stands config s.types s.functions m b (left t) → TiedScopes config marked outer → Formed t around before
        → KeptParts config t → IsReadableRest config t before → OfferedParts t config s marked m → ValidParts everything t s outer b
    valid_parts ends before around s marked outer m b same h k w l r o = tt
    valid_parts (first p t) before around s marked outer m b same h k w l r o =
        let here = valid_part p (left t) before around s marked outer m b same h k w.0 l.0 r.0 o.0 in (
          here.0,
          valid_parts t (add before p) around (spaces_after s p) marked outer (marked_after_part p s marked m) (after_part p s outer b)
              (spaces_added before p ∙ ap (λ x. spaces_after x p) same) here.1 k w.1 l.1 r.1 o.1,
        )

    valid_part : (p : Part) (l : Counts) (before : Tree) (around : List Scope) (s : Spaces) (marked : List Marked) (outer : List FactScope)
        (m : Marked) (b : Body) → spaces_of before ≡ s → Stands config s.types s.functions m b (part_left p l) → TiedScopes config marked outer
        → FormedPart p around before → KeptPart config p → IsReadablePart config p before → OfferedPart p config s marked m
        → ValidPart everything p s outer b
        × Stands config (spaces_after s p).types (spaces_after s p).functions (marked_after_part p s marked m) (after_part p s outer b) l
    valid_part (custom name contents) l before around s marked outer m b same h k w limits r o = (tt, h)
    valid_part (core_module text) l before around s marked outer m b same h k w limits r o = search (rules, stands_module, stands_small, module_has_few)
    valid_part (core_types ts) l before around s marked outer m b same h k w limits r o = cores config ts s.types s.functions m b l h limits
    valid_part (component t) l before around s marked outer m b same h k w limits r o =
        let here = stands_component config s.types s.functions m b l h in (
          (
            (stands_small config m (record b { counts = with_component b.counts }) l here).1,
            valid_parts t ends (scope_of before ∷ around) no_spaces (m ∷ marked) (b.own ∷ outer) (empty_marked config.must_validate) empty_body refl
                (stands_empty config config.must_validate (left t) valid limits.0) (names_of b.exports, h.tied.own, k) w limits.1 r o,
          ),
          here,
        )
    valid_part (types ts) l before around s marked outer m b same h k w limits r o =
        entries config ts s.types s.functions marked outer (scope_of before) around m b l h k w limits o
    valid_part (canons cs) l before around s marked outer m b same h k w limits r o = lifts config cs s m b l h (subst (FormedCanons cs) same w)
    valid_part (imports is) l before around s marked outer m b same h k w limits r o =
        brought config is s m b l outer (scope_of before) h (ap (λ x. x.types) same) w.0 o
    valid_part (exports es) l before around s marked outer m b same h k w limits r o = given config es s m b l outer h o

pub valid_tree : (config : Config) (t : Tree) → config.must_validate ≡ true → IsConsistent config → CanBeGenerated config t → Validates t
valid_tree config t valid c can =
    let counts = c.valid valid in
    valid_parts config valid counts.memories t ends [] no_spaces [] [] (empty_marked config.must_validate) empty_body refl
    (stands_empty config config.must_validate (left t) valid (limits_fit config counts t can.limits.maxima)) tt can.formed
    (limits_kept config counts t can.limits.maxima) can.readable can.offered
