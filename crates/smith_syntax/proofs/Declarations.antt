-- How types of components and instances are spelled, and what they declare, over the program's lists.
use Rattle.std.proofs.Common.{◌≡◌, ℕ, ◌+◌, ◌<◌, ◌^◌, arith, Bool, true, false, List, [], ◌∷◌, length, Option, Some, SomeIff, refl, ap, ◌∙◌}
use Rattle.std.specs.declared.rc.Rc.{Rc}
use Rattle.std.specs.declared.alloc.Global.{Global}
use Rattle.smith_format.specs.Piece.{Piece, ◌⊕◌, byte, bytes, u, each, many}
use Rattle.smith_format.proofs.Many.{many-map}
use Rattle.smith_format.proofs.Sizes.{length_is, takes_bytes, takes_then}
use Rattle.smith_format.specs.Writing.{IsLengthOf, Takes}
use Rattle.smith_syntax.specs.declared.core_types.CoreType.{CoreType}
use Rattle.smith_syntax.specs.declared.deftype.Alias.{Alias}
use Rattle.smith_syntax.specs.declared.deftype.ComponentType.{ComponentType}
use Rattle.smith_syntax.specs.declared.deftype.DefType.{DefType}
use Rattle.smith_syntax.specs.declared.deftype.DefType.TheVariants as ty
use Rattle.smith_syntax.specs.declared.deftype.InstanceType.{InstanceType}
use Rattle.smith_syntax.specs.declared.deftype.OuterAliasKind.TheVariants as kind
use Rattle.smith_syntax.specs.Entries.{DeclOf, DeclsOf, in_order, no_decls, then_decls, decl_count, plain_decl, plain_decls}
use Rattle.smith_syntax.specs.Grammar.{decl, decls, entry}
use Rattle.smith_syntax.specs.Shown.{shown_type}
use Rattle.smith_syntax.specs.ShownDecls.{shown_alias, shown_component_decl, shown_instance_decl}
use Rattle.smith_syntax.proofs.Shown.{alias_of_core_type, alias_of_type, shown_component_is, shown_instance_is}

-- Declarations in order are written as a list of them, if `all` writes one after another by `one`.
module _ {N K : Type 0} (one : DeclOf N K → Piece) (all : DeclsOf N K → Piece) (none : all no_decls ≡ Some [])
    (more : (d : DeclOf N K) (ds : DeclsOf N K) → all (then_decls d ds) ≡ one d ⊕ all ds) where
  count_decls : (ds : List (DeclOf N K)) → decl_count (in_order ds) ≡ length ds
  count_decls [] = refl
  count_decls (d ∷ ds) = omega (arith, count_decls ds)

  each_decl : (ds : List (DeclOf N K)) → all (in_order ds) ≡ each one ds
  each_decl [] = none
  each_decl (d ∷ ds) = more d (in_order ds) ∙ ap (λ p. one d ⊕ p) (each_decl ds)

  pub many_decls : (ds : List (DeclOf N K)) → u (decl_count (in_order ds)) ⊕ all (in_order ds) ≡ many one ds
  many_decls ds = ap (λ n. u n ⊕ all (in_order ds)) (count_decls ds) ∙ ap (λ p. u (length ds) ⊕ p) (each_decl ds)

-- the same without what the binary format leaves out
module _ {N K : Type 0} (b : Bool) where
  count_plain : (ds : DeclsOf N K) → decl_count (plain_decls ds) ≡ decl_count ds
  count_plain no_decls = refl
  count_plain (then_decls d ds) = omega (arith, count_plain ds)

  many_plain : (ds : List (DeclOf N K)) → u (decl_count (plain_decls (in_order ds))) ⊕ decls b (plain_decls (in_order ds)) ≡ many
      (λ d. decl b (plain_decl d)) ds
  many_plain ds =
      ap (λ n. u n ⊕ decls b (plain_decls (in_order ds))) (count_plain (in_order ds))
      ∙ many_decls (λ d. decl b (plain_decl d)) (λ es. decls b (plain_decls es)) refl (λ d es. refl) ds

pub entry_component : (t : ComponentType) → entry (shown_type (ty.Component t)) ≡ byte 0x41 ⊕ many (λ d. decl true (shown_component_decl d))
    t.defs.items
entry_component t = grind (arith, shown_component_is, many_plain, many-map)

pub entry_instance : (t : InstanceType) → entry (shown_type (ty.Instance t)) ≡ byte 0x42 ⊕ many (λ d. decl false (shown_instance_decl d))
    t.defs.items
entry_instance t = grind (arith, shown_instance_is, many_plain, many-map)

-- outer aliases

pub type_alias_is : (b : Bool) (a : Alias) (t : Rc DefType Global) → a.kind ≡ kind.OfType t
    → decl b (shown_alias a) ≡ bytes (0x02 ∷ 0x03 ∷ 0x02 ∷ []) ⊕ u a.count ⊕ u a.i
type_alias_is b a t e = ap (λ d. decl b (plain_decl d)) (alias_of_type a t e)

pub core_type_alias_is : (b : Bool) (a : Alias) (t : Rc CoreType Global) → a.kind ≡ kind.OfCoreType t
    → decl b (shown_alias a) ≡ bytes (0x02 ∷ 0x00 ∷ 0x10 ∷ 0x02 ∷ []) ⊕ u a.count ⊕ u a.i
core_type_alias_is b a t e = ap (λ d. decl b (plain_decl d)) (alias_of_core_type a t e)

-- a length, and one byte before it
pub length_behind : (r : Option ℕ) (tag : ℕ) {n : ℕ} {p : Piece} → SomeIff r (n + 1 < 2 ^ 32) (n + 1) → Takes n p → IsLengthOf r (byte tag ⊕ p)
length_behind r tag s t = length_is r s (takes_then (takes_bytes 1 (tag ∷ []) refl) t) (omega arith)
