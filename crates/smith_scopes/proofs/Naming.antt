-- Scopes that keep something or not all alike, and what outer aliases and exports find in them.
use Rattle.std.proofs.Common.{arith, ◌≡◌, ℕ, zero, suc, Bool, true, false, List, [], ◌∷◌, ◌++◌, get_or, refl, sym, ap, subst, ◌∙◌, Option, None, Some, reverse}
use Rattle.std.proofs.lemmas.List.{reverse-append}
use Rattle.std.proofs.lemmas.Option.{same_Some, slice_get-map}
use Rattle.std.specs.Borrow.{Bor}
use Rattle.std.specs.Prelude.{Err, IfSome, Ok, OnErr, OnOk, Result, option_map, slice_get}
use Rattle.smith_syntax.specs.Marked.{Marked, core_size_named, mark_named, more_kept}
use Rattle.smith_syntax.specs.Marked.{scope_in, scopes_in_marked, with_export, with_exported}
use Rattle.smith_syntax.specs.Marks.{aliased_mark, equal_mark, no_mark}
use Rattle.smith_syntax.specs.Scope.{core_type_named, exported_type, type_named}
use Rattle.smith_syntax.specs.declared.deftype.ComponentTypeRef.{ComponentTypeRef}
use Rattle.smith_syntax.specs.declared.deftype.ComponentTypeRef.TheVariants as to
use Rattle.smith_syntax.specs.declared.marks.Mark.{Mark}
use Rattle.smith_read.specs.Nodes.{shown_core_node}
use Rattle.smith_read.specs.TypeNodes.{shown_type_node}
use Rattle.smith_read.specs.declared.core_types.CoreNode.{CoreNode}
use Rattle.smith_read.specs.declared.type_nodes.TypeNode.{TypeNode}
use Rattle.smith_scopes.specs.Naming.{Exported, Found, FoundCore, after_alias, after_core_alias, with_found, with_found_core}
use Rattle.smith_scope.specs.Nest.{inward_of}
use Rattle.smith_scopes.specs.Nodes.{AreAlike, Contents, shown_marked}
use Rattle.smith_scope.specs.declared.nest.Nest.{Nest}

-- Scopes that are alike.

pub alike_more : (k : Bool) (ss : List Contents) (s : Contents) → AreAlike k ss → s.keeps ≡ k → AreAlike k (ss ++ s ∷ [])
alike_more k [] s a e zero t is = ap (λ x. x.keeps) (sym (same_Some s t is)) ∙ e
alike_more k [] s a e (suc i) t is = absurd (let z : None ≡ Some t = is in cc)
alike_more k (x ∷ xs) s a e zero t is = a zero t is
alike_more k (x ∷ xs) s a e (suc i) t is = alike_more k xs s (λ j u h. a (suc j) u h) e i t is

pub alike_front : (k : Bool) (ss : List Contents) (s : Contents) → AreAlike k (ss ++ s ∷ []) → AreAlike k ss
alike_front k [] s a i t is = absurd (let z : None ≡ Some t = is in cc)
alike_front k (x ∷ xs) s a zero t is = a zero t is
alike_front k (x ∷ xs) s a (suc i) t is = alike_front k xs s (λ j u h. a (suc j) u h) i t is

pub alike_last : (k : Bool) (ss : List Contents) (s : Contents) → AreAlike k (ss ++ s ∷ []) → s.keeps ≡ k
alike_last k [] s a = a zero s refl
alike_last k (x ∷ xs) s a = alike_last k xs s (λ j u h. a (suc j) u h)

pub alike_under : (k : Bool) (ss : List Contents) (s : Contents) → AreAlike k (ss ++ s ∷ []) → AreAlike s.keeps ss
alike_under k ss s a i t is = alike_front k ss s a i t is ∙ sym (alike_last k ss s a)

alike_inward : (k : Bool) (ss : List Contents) → AreAlike k ss → AreAlike k (reverse ss)
alike_inward k [] a = a
alike_inward k (x ∷ xs) a =
    subst (AreAlike k) (sym (reverse-append (x ∷ []) xs))
    (alike_more k (reverse xs) x (alike_inward k xs (λ i s is. a (suc i) s is)) (a zero x refl))

alike_at : (n : Nest Contents) → AreAlike n.own.keeps n.outer.items → AreAlike n.own.keeps (inward_of n)
alike_at n a zero s is = ap (λ x. x.keeps) (sym (same_Some n.own s is))
alike_at n a (suc i) s is = alike_inward n.own.keeps n.outer.items a i s is

pub alike_found : (n : Nest Contents) → AreAlike n.own.keeps n.outer.items → (count : ℕ) (r : Option (Bor Contents))
    → option_map (λ s. s.now) r ≡ slice_get (inward_of n) count → IfSome r (λ s. s.now.keeps ≡ n.own.keeps)
alike_found n a count None is = tt
alike_found n a count (Some s) is = alike_at n a count s.now (sym is)

-- a scope that is entered is like the one around it
pub alike_entered : {T E : Type 0} (r : Result T E) (old new : Nest Contents) (empty : Contents) → AreAlike old.own.keeps old.outer.items
    → empty.keeps ≡ old.own.keeps → OnOk r (new.own ≡ empty) → OnOk r (new.outer.items ≡ old.outer.items ++ old.own ∷ [])
    → OnErr r (new.own ≡ old.own) → OnErr r (new.outer.items ≡ old.outer.items) → AreAlike new.own.keeps new.outer.items
alike_entered (Ok x) old new empty a keeps own outer same_own same_outer =
    rw (ap (λ s. s.keeps) own ∙ keeps, outer) (alike_more old.own.keeps old.outer.items old.own a refl)
alike_entered (Err e) old new empty a keeps own outer same_own same_outer = rw (ap (λ s. s.keeps) same_own, same_outer) a

-- What an outer alias finds in the scope of its count.

module _ (own : Marked) (outer : List Marked) (count i : ℕ) (s : Contents) (at : slice_get (own ∷ outer) count ≡ Some (shown_marked s)) where
  scope_is : slice_get (scopes_in_marked (own ∷ outer)) count ≡ Some (scope_in (shown_marked s))
  scope_is = slice_get-map scope_in (own ∷ outer) count ∙ ap (λ o. option_map scope_in o) at

  type_is : type_named (scopes_in_marked (own ∷ outer)) count i ≡ option_map shown_type_node (slice_get s.types i)
  type_is = grind (arith, scope_is, slice_get-map)

  core_is : core_type_named (scopes_in_marked (own ∷ outer)) count i ≡ option_map shown_core_node (slice_get s.core_types i)
  core_is = grind (arith, scope_is, slice_get-map)

  mark_is : mark_named (own ∷ outer) count i ≡ get_or s.marks i no_mark
  mark_is = ap (λ (o : Option Marked). elim o as (λ o. Mark) [ None ↦ no_mark | Some t ↦ get_or t.marks i no_mark ]) at

  size_is : core_size_named (own ∷ outer) count i ≡ get_or s.core_sizes i 0
  size_is = ap (λ (o : Option Marked). elim o as (λ o. ℕ) [ None ↦ 0 | Some t ↦ get_or t.core_sizes i 0 ]) at

  pub found_some : (ty : Bor TypeNode) (m n : Mark) → Some ty.now ≡ slice_get s.types i → m ≡ get_or s.marks i no_mark → n ≡ aliased_mark count m
      → Found own outer count i (Some (ty, n))
  found_some ty m n is known e = grind (arith, type_is, mark_is)

  pub found_none : None ≡ slice_get s.types i → Found own outer count i None
  found_none is = grind (arith, type_is)

  pub found_core_some : (ty : Bor CoreNode) (n : ℕ) → Some ty.now ≡ slice_get s.core_types i → n ≡ get_or s.core_sizes i 0
      → FoundCore own outer count i (Some (ty, n))
  found_core_some ty n is known = grind (arith, core_is, size_is)

  pub found_core_none : None ≡ slice_get s.core_types i → FoundCore own outer count i None
  found_core_none is = grind (arith, core_is)

-- What an export adds.
module _ (s : Contents) (r : ComponentTypeRef) (i : ℕ) (of : r ≡ to.TypeEq i) where
  equal_is : exported_type (scope_in (shown_marked s)) r ≡ option_map shown_type_node (slice_get s.types i)
  equal_is = ap (exported_type (scope_in (shown_marked s))) of ∙ slice_get-map shown_type_node s.types i

  pub exported_some : (ty : Bor TypeNode) (m n : Mark) → Some ty.now ≡ slice_get s.types i → m ≡ get_or s.marks i no_mark → n ≡ equal_mark m
      → Exported (shown_marked s) r (Some (ty, n))
  exported_some ty m n is known e = grind (arith, equal_is)

  pub exported_none : None ≡ slice_get s.types i → Exported (shown_marked s) r None
  exported_none is = grind (arith, equal_is)

-- A scope with what was found.

kept_alike : {A : Type 0} (keeps : Bool) (xs ys zs : List A) → (keeps ≡ true → ys ≡ zs) → more_kept keeps xs ys ≡ more_kept keeps xs zs
kept_alike true xs ys zs same = ap (λ ws. xs ++ ws) (same refl)
kept_alike false xs ys zs same = refl

module _ (own : Marked) (outer : List Marked) (count i : ℕ) where
  pub alias_is : (found : Option (Bor TypeNode × Mark)) → Found own outer count i found → with_found own found ≡ after_alias outer own count i
  alias_is found f = grind (arith, kept_alike)

  pub core_alias_is : (found : Option (Bor CoreNode × ℕ)) → FoundCore own outer count i found → with_found_core own found ≡ after_core_alias outer own count i
  core_alias_is found f = grind (arith, kept_alike)

pub export_is : (own : Marked) (r : ComponentTypeRef) (found : Option (Bor TypeNode × Mark)) → Exported own r found
    → with_found (with_export own r) found ≡ with_exported own r
export_is own r found f = grind (arith, kept_alike)
