-- Types that are declared, and aliases of types.
use Rattle.std.proofs.Common.{arith, ◌≡◌, ℕ, zero, suc, Bool, List, [], ◌∷◌, ◌++◌, append-nil, append_assoc, Option, Some, None, Result}
use Rattle.std.specs.Option.{option_map, option_to_list}
use Rattle.smith_tree.specs.Bodies.{Body, named_in}
use Rattle.smith_tree.specs.Demands.{Demands}
use Rattle.smith_tree.specs.Facts.{FactScope, Facts, Id}
use Rattle.smith_tree.specs.Validates.{names_of}
use Rattle.smith_validate.specs.Bodies.{IsBody}
use Rattle.smith_validate.specs.Instances.{AreKept, Surface, IsKept, IsTable, ScopesKept}
use Rattle.smith_validate.specs.Judges.{Judges}
use Rattle.smith_validate.specs.Kept.{type_in}
use Rattle.smith_validate.specs.Nested.{IsDeclared}
use Rattle.smith_validate.specs.declared.body.Body.{Body as KeptBody}
use Rattle.smith_validate.specs.declared.error.Stop.{Stop}
use Rattle.smith_validate.specs.declared.facts.Facts.{Facts as KeptFacts}
use Rattle.smith_validate.specs.declared.known.Known.{Known}
use Rattle.smith_validate.proofs.Covering.{covers_outer}
use Rattle.smith_validate.proofs.DeclSteps.{in_again}
use Rattle.smith_validate.proofs.Roles.{role_more}
use Rattle.smith_validate.proofs.Tables.{kept_by}
use Rattle.smith_validate.proofs.Zips.{zip_at, zip_map}

module _ (table : List Surface) where
  are_kept_outer : (here : List Id) (names : List (List Id)) (ks : List KeptFacts) (fs : List Facts) → AreKept table names ks fs
      → AreKept table (here ∷ names) ks fs
  are_kept_outer here names =
      zip_map (IsKept table names) (IsKept table (here ∷ names)) (kept_by table names (here ∷ names) (covers_outer here names))

  pub alias_kept : (names : List (List Id)) (kss : List (List KeptFacts)) (ss : List FactScope) (count i : ℕ) → ScopesKept table names kss ss
      → AreKept table names (option_to_list (type_in kss count i)) (option_to_list (named_in (λ s. s.types) ss count i))
  alias_kept [] [] [] count i a = tt
  alias_kept [] [] (s ∷ ss) count i a = absurd a
  alias_kept [] (ks ∷ kss) ss count i a = absurd a
  alias_kept (here ∷ names) [] ss count i a = absurd a
  alias_kept (here ∷ names) (ks ∷ kss) [] count i a = absurd a
  alias_kept (here ∷ names) (ks ∷ kss) (s ∷ ss) zero i a = zip_at (IsKept table (here ∷ names)) ks s.types i a.0
  alias_kept (here ∷ names) (ks ∷ kss) (s ∷ ss) (suc count) i a =
      are_kept_outer here names (option_to_list (type_in kss count i)) (option_to_list (named_in (λ o. o.types) ss count i))
      (alias_kept names kss ss count i a.1)

  module _ (names : List (List Id)) (k : Known) (g : KeptFacts) (f : Facts) where
    pub declared_now : IsTable k.instances.items table → IsKept table names g f → IsDeclared table names k g f
    declared_now t i = grind (arith, append-nil)

    pub declared_more : (more : List Surface) → IsDeclared (table ++ more) names k g f → IsDeclared table names k g f
    declared_more more d = grind (arith, append_assoc)

-- the body after a type was read, before it is added
pub body_declared : (asks : Bool) (k new : Known) (o : KeptBody) (b : Body) (outer : List FactScope) (names : List (List Id)) (table more : List Surface)
    → IsBody asks k o b outer names table → new.scopes.own ≡ k.scopes.own → new.scopes.outer.items ≡ k.scopes.outer.items
    → IsTable new.instances.items (table ++ more)
    → IsBody asks new o b outer names (table ++ more)
body_declared asks k new o b outer names table more s own outers instances = record {
  scopes = in_again k new b.own outer (names_of b.exports) names table s.scopes more own outers instances;
  size_is = s.size_is;
  counts_are = s.counts_are;
  small = s.small;
  role_is = role_more table more names asks o.role b s.role_is;
}

-- An alias is counted as the type that it is of.

pub alias_judged : {A B F : Type 0} (r : Result A Stop) (kept : F → B) (y : B) (P : List F → Demands → Type 0) (f : Option F) → Some y ≡ option_map kept f
    → ((g : F) → Judges r (P (g ∷ []))) → Judges r (P (option_to_list f))
alias_judged r kept y P None e j = absurd (let z : Some y ≡ None = e in cc)
alias_judged r kept y P (Some g) e j = j g
