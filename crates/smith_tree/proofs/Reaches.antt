-- What a reach says of what a type refers to.
use Rattle.std.proofs.Common.{◌≡◌, List, [], ◌++◌, refl, subst, sym}
use Rattle.smith_input.proofs.Lists.{all_both}
use Rattle.smith_tree.specs.Facts.{Id}
use Rattle.smith_tree.proofs.Named.{AreNamed, IsNamed, IsWithin, named_wider}
use Rattle.smith_syntax.specs.Marks.{elsewhere, narrower}
use Rattle.smith_syntax.specs.declared.marks.Reach.{Reach}
use Rattle.smith_syntax.specs.declared.marks.Reach.TheVariants.{Everywhere, Here, Nowhere}

-- With these names in the scope, what is referred to is nothing, is named, or is anything.
abbrev pub Reaches : Reach → List Id → List Id → Type 0
Reaches Everywhere named ids = ids ≡ []
Reaches Here named ids = AreNamed named ids
Reaches Nowhere named ids = Unit {0}

pub reaches_wider : (r : Reach) (named wider ids : List Id) → IsWithin named wider → Reaches r named ids → Reaches r wider ids
reaches_wider Everywhere named wider ids w h = h
reaches_wider Here named wider ids w h = named_wider named wider ids w h
reaches_wider Nowhere named wider ids w h = tt

pub none_named : (named ids : List Id) → ids ≡ [] → AreNamed named ids
none_named named ids e = subst (AreNamed named) (sym e) tt

pub reaches_named : (r : Reach) (named ids : List Id) → Reaches r named ids → ¬ (r ≡ Nowhere) → AreNamed named ids
reaches_named Everywhere named ids h not = none_named named ids h
reaches_named Here named ids h not = h
reaches_named Nowhere named ids h not = absurd (not refl)

pub reaches_elsewhere : (r : Reach) (named other ids : List Id) → Reaches r named ids → Reaches (elsewhere r) other ids
reaches_elsewhere Everywhere named other ids h = h
reaches_elsewhere Here named other ids h = tt
reaches_elsewhere Nowhere named other ids h = tt

pub reaches_both : (a b : Reach) (named xs ys : List Id) → Reaches a named xs → Reaches b named ys → Reaches (narrower a b) named (xs ++ ys)
reaches_both Everywhere b named xs ys h k = subst (λ l. Reaches b named (l ++ ys)) (sym h) k
reaches_both Here Everywhere named xs ys h k = all_both (IsNamed named) xs ys h (none_named named ys k)
reaches_both Here Here named xs ys h k = all_both (IsNamed named) xs ys h k
reaches_both Here Nowhere named xs ys h k = tt
reaches_both Nowhere b named xs ys h k = tt

-- The narrower of two is everywhere only if both are.
pub both_everywhere : (a b : Reach) → narrower a b ≡ Everywhere → (a ≡ Everywhere) × (b ≡ Everywhere)
both_everywhere Everywhere b e = (refl, e)
both_everywhere Here Everywhere e = cc
both_everywhere Here Here e = cc
both_everywhere Here Nowhere e = cc
both_everywhere Nowhere b e = cc

pub all_everywhere : (r : Reach) → elsewhere r ≡ Everywhere → r ≡ Everywhere
all_everywhere Everywhere e = refl
all_everywhere Here e = cc
all_everywhere Nowhere e = cc
