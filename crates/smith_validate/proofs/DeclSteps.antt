-- The declarations of a component type or an instance type one by one.
use Rattle.std.proofs.Common.{◌≡◌, ℕ, ◌+◌, ◌≤◌, Bool, List, [], ◌∷◌, ◌++◌, map, length, reverse, take, ap}
use Rattle.std.proofs.Common.{sym, ◌∙◌, refl, arith, Option, Some, None}
use Rattle.std.proofs.Common.{length-append}
use Rattle.std.proofs.lemmas.List.{map-append, reverse-append, take_all}
use Rattle.std.proofs.lemmas.Option.{slice_get-map}
use Rattle.std.specs.Option.{option_map}
use Rattle.std.specs.Prelude.{slice_get}
use Rattle.smith_syntax.specs.Entries.{Decl, in_order}
use Rattle.smith_syntax.specs.Scope.{empty_scope}
use Rattle.smith_tree.specs.Bodies.{Body, IsSmall, after_decl, after_decls, empty_body, named_in}
use Rattle.smith_tree.specs.Demands.{everything}
use Rattle.smith_tree.specs.Facts.{FactScope, Id}
use Rattle.smith_tree.specs.Validates.{ValidDecl, ValidDecls}
use Rattle.smith_read.specs.TypeNodes.{shown_decl_node}
use Rattle.smith_read.specs.declared.type_nodes.DeclNode.{DeclNode}
use Rattle.smith_validate.specs.Bodies.{IsBody, IsEmpty, IsFresh, IsIn}
use Rattle.smith_validate.specs.Instances.{Surface, IsTable}
use Rattle.smith_validate.specs.Kept.{Kept, kept_in, kept_of, named_at, outer_in, own_in, types_in}
use Rattle.smith_validate.specs.Nested.{IsJudged}
use Rattle.smith_validate.specs.Steps.{Later}
use Rattle.smith_validate.specs.Usual.{AreUsualDecls, IsUsualDecl}
use Rattle.smith_validate.specs.declared.body.Body.{Body as KeptBody}
use Rattle.smith_validate.specs.declared.known.Known.{Known}
use Rattle.smith_validate.specs.declared.known.Scope.{Scope}
use Rattle.smith_validate.proofs.Roles.{role_fresh}
use Rattle.smith_validate.proofs.RowSteps.{IsRow, Row, run}
use Rattle.smith_validate.proofs.Tables.{are_kept_more, scopes_more}

pub empty_small : IsSmall everything empty_body
empty_small = grind arith

-- what an outer alias names

pub scopes_kept : (k : Known) (own : FactScope) (outer : List FactScope) (here : List Id) (names : List (List Id)) (table : List Surface)
    → IsIn k own outer here names table → own_in k ∷ outer_in k ≡ map kept_of (own ∷ outer)
scopes_kept k own outer here names table s = ap (λ o. o ∷ outer_in k) s.own_is ∙ ap (λ os. kept_of own ∷ os) s.outer_is

module _ {A B : Type 0} (f : A → B) (in_kept : Kept → List B) (in_plain : FactScope → List A)
    (same : (s : FactScope) → in_kept (kept_of s) ≡ map f (in_plain s))
    (count i : ℕ) where
  of_scope : (o : Option FactScope)
      → (elim (option_map kept_of o) as (λ x. Option B) [ None ↦ None | Some s ↦ slice_get (in_kept s) i ])
      ≡ option_map f (elim o [ None ↦ None | Some s ↦ slice_get (in_plain s) i ])
  of_scope None = refl
  of_scope (Some s) = ap (λ xs. slice_get xs i) (same s) ∙ slice_get-map f (in_plain s) i

  pub named_kept : (scopes : List FactScope) → named_at in_kept (map kept_of scopes) count i ≡ option_map f (named_in in_plain scopes count i)
  named_kept scopes = grind (arith, slice_get-map, of_scope)

-- the scopes after one was entered, and after one was left

pub outer_sizes : (old : Known) (os : List Scope) → os ≡ old.scopes.outer.items ++ old.scopes.own ∷ [] → reverse (map kept_in os) ≡ own_in old ∷ outer_in old
outer_sizes old os e = grind (arith, map-append, reverse-append)

pub outer_kept : (old : Known) (os : List Scope) → os ≡ old.scopes.outer.items ++ old.scopes.own ∷ [] → reverse (map (λ o. o.types.items) os) ≡ types_in old
outer_kept old os e = grind (arith, map-append, reverse-append)

module _ (k new : Known) (own : FactScope) (outer : List FactScope) (here : List Id) (names : List (List Id)) (table : List Surface)
    (s : IsIn k own outer here names table) where
  pub in_entered : own_in new ≡ empty_scope → new.scopes.own.types.items ≡ [] → new.scopes.outer.items ≡ k.scopes.outer.items ++ k.scopes.own ∷ []
      → new.instances.items ≡ k.instances.items → IsIn new empty_scope (own ∷ outer) [] (here ∷ names) table
  in_entered sizes types outers instances = grind (arith, outer_sizes, scopes_kept, outer_kept, length-append)

  pub in_again : (more : List Surface) → new.scopes.own ≡ k.scopes.own → new.scopes.outer.items ≡ k.scopes.outer.items
      → IsTable new.instances.items (table ++ more)
      → IsIn new own outer here names (table ++ more)
  in_again more same outers instances = grind (arith, are_kept_more, scopes_more)

no_more : {A : Type 0} (ys : List A) (y : A) → [] ≡ ys ++ y ∷ [] → ⊥
no_more [] y e = let t : [] ≡ y ∷ [] = e in cc
no_more (z ∷ ys) y e = let t : [] ≡ z ∷ (ys ++ y ∷ []) = e in cc

pub last_same : {A : Type 0} (xs ys : List A) (x y : A) → xs ++ x ∷ [] ≡ ys ++ y ∷ [] → (x ≡ y) × (xs ≡ ys)
last_same [] [] x y e = let t : x ∷ [] ≡ y ∷ [] = e in (cc, refl)
last_same [] (z ∷ ys) x y e = let t : x ∷ [] ≡ z ∷ (ys ++ y ∷ []) = e in absurd (no_more ys y (let u : [] ≡ ys ++ y ∷ [] = cc in u))
last_same (z ∷ xs) [] x y e =
    let t : z ∷ (xs ++ x ∷ []) ≡ y ∷ [] = e in absurd (no_more xs x (let u : [] ≡ xs ++ x ∷ [] = let v : xs ++ x ∷ [] ≡ [] = cc in sym v in u))
last_same (z ∷ xs) (w ∷ ys) x y e =
    let t : z ∷ (xs ++ x ∷ []) ≡ w ∷ (ys ++ y ∷ []) = e in
    let h : z ≡ w = cc in
    let r = last_same xs ys x y (let u : xs ++ x ∷ [] ≡ ys ++ y ∷ [] = cc in u) in
    (r.0, ap (λ v. v ∷ xs) h ∙ ap (λ vs. w ∷ vs) r.1)

-- what is empty
pub empty_is : (asks : Bool) (k : Known) (o : KeptBody) (outer : List FactScope) (names : List (List Id)) (table : List Surface)
    → IsIn k empty_scope outer [] names table → IsEmpty o → IsFresh asks o.role → IsBody asks k o empty_body outer names table
empty_is asks k o outer names table s e f = grind (arith, empty_small, role_fresh)

-- declarations in a row

abbrev pub decls_row : Bool → List FactScope → Row Decl Body
decls_row asks outer = record {
  valid = λ d ds b. ValidDecls d asks (in_order ds) outer b;
  usual = λ ds b. AreUsualDecls asks (in_order ds) outer b;
  one = λ d x b. ValidDecl d asks x outer b × IsSmall d (after_decl x outer b);
  one_usual = λ x b. IsUsualDecl asks x outer b;
  next = λ x b. after_decl x outer b;
}

pub decls_are : (asks : Bool) (outer : List FactScope) → IsRow (decls_row asks outer)
decls_are asks outer = grind arith

module _ (asks : Bool) (outer : List FactScope) where
  run_all : (ds : List Decl) (b : Body) → run (decls_row asks outer).next ds b ≡ after_decls (in_order ds) outer b
  run_all [] b = refl
  run_all (d ∷ ds) b = run_all ds (after_decl d outer b)

  -- what there is after some of the declarations of a node
  abbrev pub decls_before : List DeclNode → ℕ → Body
  decls_before ds i = run (decls_row asks outer).next (map shown_decl_node (take i ds)) empty_body

  pub decls_all : (ds : List DeclNode) (i : ℕ) → length ds ≤ i → decls_before ds i ≡ after_decls (in_order (map shown_decl_node ds)) outer empty_body
  decls_all ds i h =
      ap (λ xs. run (decls_row asks outer).next (map shown_decl_node xs) empty_body) (take_all i ds h) ∙ run_all (map shown_decl_node ds) empty_body

-- what was judged, if the scope is left
pub judged_is : (asks : Bool) (k new : Known) (o : KeptBody) (b : Body) (outer : List FactScope) (names : List (List Id)) (table : List Surface)
    → Later (IsBody asks k o) b outer names table → new.instances.items ≡ k.instances.items → IsJudged asks new o b names table
judged_is asks k new o b outer names table m i = grind arith

-- nothing is known before a component
pub in_start : (k : Known) → own_in k ≡ empty_scope → k.scopes.own.types.items ≡ [] → k.scopes.outer.items ≡ [] → k.instances.items ≡ []
    → IsIn k empty_scope [] [] [] []
in_start k sizes types outers instances = grind arith
