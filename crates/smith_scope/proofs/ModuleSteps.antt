-- The declarations of a module type one by one.
use Rattle.std.proofs.Common.{◌≡◌, ℕ, ◌+◌, ◌<◌, ◌≤◌, List, [], ◌∷◌, ◌++◌, map, length, get_or, ◌∙◌, subst, arith, Some}
use Rattle.std.proofs.Math.ListN.{drop}
use Rattle.std.proofs.lemmas.Option.{slice_get-map}
use Rattle.std.specs.Prelude.{slice_get}
use Rattle.smith_format.specs.CoreTypes.{Function}
use Rattle.smith_input.proofs.Rests.{drop_past, rest_at}
use Rattle.smith_syntax.specs.Entries.{CoreEntry, ModuleDecl, core_module}
use Rattle.smith_syntax.specs.ModuleTypes.{adds, func_in}
use Rattle.smith_syntax.specs.Sizes.{capped, core_size, module_size}
use Rattle.smith_syntax.specs.OwnSizes.{added_size, sizes_in}
use Rattle.smith_syntax.proofs.AliasSizes.{kept_size}
use Rattle.smith_scope.specs.declared.module_sizes.ModuleSize.{ModuleSize}

-- the function type that a core type shows
module _ {A C : Type 0} (tree : A → C) (shown : C → CoreEntry) (around : List A) (i : ℕ) (t : A) (is : slice_get around i ≡ Some t) where
  pub size_at : (e : CoreEntry) → shown (tree t) ≡ e → kept_size (func_in (slice_get (map shown (map tree around)) i)) ≡ kept_size (func_in (Some e))
  size_at e shows = grind (arith, kept_size, slice_get-map)

-- What was read and the rest are the whole.
pub record Left (around : List CoreEntry) (all : List ModuleDecl) (m : ModuleSize) (rest : List ModuleDecl) : Type 0 where
  pub fs : List Function
  pub own_is : m.own.items ≡ sizes_in fs
  pub read : ℕ
  pub size_is : m.size ≡ capped read
  pub whole : module_size around [] all + 1 ≡ read + module_size around fs rest

pub left_all : (around : List CoreEntry) (all : List ModuleDecl) (m : ModuleSize) → m.own.items ≡ [] → m.size ≡ 1 → Left around all m all
left_all around all m o s = record { fs = []; own_is = o; read = 1; size_is = omega (arith, s); whole = omega arith }

module _ (around : List CoreEntry) (all : List ModuleDecl) (m : ModuleSize) (d : ModuleDecl) (rest : List ModuleDecl) where
  pub left_small : Left around all m (d ∷ rest) → capped m.size ≡ m.size
  left_small l = omega (arith, l.size_is)

  pub left_more : (l : Left around all m (d ∷ rest)) (new : ModuleSize) → new.size ≡ capped (m.size + added_size l.fs d)
      → new.own.items ≡ sizes_in (l.fs ++ adds around l.fs d) → Left around all new rest
  left_more l new s o = record {
    fs = l.fs ++ adds around l.fs d;
    own_is = o;
    read = l.read + added_size l.fs d;
    size_is = omega (arith, s, l.size_is);
    whole = omega (arith, l.whole);
  }

pub size_none : (around : List CoreEntry) (all : List ModuleDecl) (m : ModuleSize) → Left around all m [] → m.size ≡ capped (core_size around (core_module all))
size_none around all m l = omega (arith, l.size_is, l.whole)

-- the rest of the declarations of a module type
module _ {D : Type 0} (shown : D → ModuleDecl) (around : List CoreEntry) (ds : List D) (m : ModuleSize) (i : ℕ) where
  abbrev pub LeftFrom : Type 0
  LeftFrom = Left around (map shown ds) m (map shown (drop i ds))

  pub left_at : (d : D) → i < length ds → d ≡ get_or ds i d → LeftFrom → Left around (map shown ds) m (shown d ∷ map shown (drop (i + 1) ds))
  left_at d h e l = subst (λ ys. Left around (map shown ds) m (map shown ys)) (rest_at ds i d h e) l

  pub left_end : length ds ≤ i → LeftFrom → Left around (map shown ds) m []
  left_end h l = subst (λ ys. Left around (map shown ds) m (map shown ys)) (drop_past ds i h) l
