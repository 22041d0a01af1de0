-- Whatever is read in front of a module type's declarations, those after what the canonical ABI asks can be read.
use Rattle.std.proofs.Common.{◌≡◌, ℕ, ◌≤◌, Bool, List, [], ◌∷◌, ◌++◌, length, refl, sym, ap, ◌∙◌, subst, arith, length-append}
use Rattle.std.specs.Prelude.{Option}
use Rattle.smith_format.specs.declared.config.Config.{Config}
use Rattle.smith_format.specs.declared.types.MemoryType.{MemoryType}
use Rattle.smith_syntax.specs.Entries.{ModuleDecl}
use Rattle.smith_syntax.specs.ModuleTypes.{after_front}
use Rattle.smith_tree.proofs.FrontFound.{front_decls, fronted, in_front_is, whole_front}
use Rattle.smith_tree.specs.ModuleScript.{in_front}
use Rattle.smith_tree.specs.ReadableCoreTypes.{AreReadableModuleDecls}
use Rattle.smith_types.proofs.ModuleFronts.{front_size}
use Rattle.smith_types.proofs.ModuleHolds.{IsReadAfter, readable_back}

-- Of two beginnings of a list, the one with no more behind it begins with the other.
beginnings : {A : Type 0} (front more other back : List A) → front ++ more ≡ other ++ back → length back ≤ length more
    → (extra : List A) × (other ≡ front ++ extra) × (more ≡ extra ++ back)
beginnings [] more other back e few = (other, refl, e)
beginnings (x ∷ xs) more [] back e few =
    absurd (let long : length (x ∷ (xs ++ more)) ≡ length back = ap length e in omega (arith, long, few, length-append xs more))
beginnings (x ∷ xs) more (y ∷ ys) back e few =
    let first : x ≡ y = cc in
    let behind : xs ++ more ≡ ys ++ back = cc in
    let (extra, p, q) = beginnings xs more ys back behind few in (extra, λ i. sym first i ∷ p i, q)

pub behind_readable : (config : Config) (m : Option MemoryType) (r f : Bool) (ds : List ModuleDecl) → IsReadAfter config (front_decls m r f) ds
    → AreReadableModuleDecls config (in_front ds (after_front ds)) (after_front ds)
behind_readable config m r f ds (more, e, all) =
    let x = fronted ds in
    let front : List ModuleDecl = front_decls m r f in
    let found : List ModuleDecl = front_decls x.memory x.reallocs x.frees in
    let back : List ModuleDecl = after_front ds in
    let few : length back ≤ length more = subst (λ z. length (after_front z) ≤ length more) (sym e) (front_size m r f more) in
    let (extra, p, q) = beginnings front more found back (sym e ∙ whole_front x) few in
    subst (λ z. AreReadableModuleDecls config z back) (sym p ∙ sym (in_front_is ds found back (whole_front x)))
    (readable_back config front extra back (subst (AreReadableModuleDecls config front) q all))
