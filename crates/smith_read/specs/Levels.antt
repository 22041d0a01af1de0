-- How types that hold types are read, and spelled, with that many levels of them.
use Rattle.std.specs.Prelude.{ℕ, zero, suc, Bool, true, false, List, [], Option, Some, None, ◌==◌, if◌then◌else◌}
use Rattle.smith_format.specs.Piece.{Piece, ◌⊕◌, byte, u}
use Rattle.smith_syntax.specs.Entries.{Entry, defined, function, component_type, instance_type}
use Rattle.smith_syntax.specs.Entries.{Decl, Decls, core_type_decl, type_decl, type_alias, core_type_alias, import_decl, export_decl, no_decls, then_decls}
use Rattle.smith_syntax.specs.Entries.{in_order, decl_count}
use Rattle.smith_syntax.specs.Grammar.{defvaltype, functype, decl}
use Rattle.smith_read.specs.CoreTypes.{core_entry_at}
use Rattle.smith_read.specs.Externs.{named_at}
use Rattle.smith_read.specs.Reading.{Found, ◌>>=◌, seen, all_of, byte_at, behind, both_at, many_at, u_at}
use Rattle.smith_read.specs.Types.{defined_after, function_at}

-- an outer alias: whether it is one of a type, its count and its index
abbrev pub Outer : Type 0
Outer = Bool × ℕ × ℕ

abbrev pub outer_decl : Outer → Decl
outer_decl (true, count, i) = type_alias count i tt
outer_decl (false, count, i) = core_type_alias count i tt

abbrev pub outer_text : Outer → Piece
outer_text (true, count, i) = byte 0x03 ⊕ byte 0x02 ⊕ u count ⊕ u i
outer_text (false, count, i) = byte 0x00 ⊕ byte 0x10 ⊕ byte 0x02 ⊕ u count ⊕ u i

abbrev pub outer_of : Bool → ℕ × ℕ → Outer
outer_of of_type x = (of_type, x.0, x.1)

-- an outer alias after its first byte
unfoldable pub outer_after : ℕ → List ℕ → Found Outer
outer_after tag bs =
    if tag == 0x03 then seen (outer_of true) (behind 0x02 (both_at u_at u_at) bs)
    else if tag == 0x00 then seen (outer_of false) (behind 0x10 (behind 0x02 (both_at u_at u_at)) bs)
    else None

unfoldable pub outer_at : List ℕ → Found Outer
outer_at bs = byte_at bs >>= λ t. outer_after t.0 t.1

-- a type that holds no types, after its first byte
unfoldable pub leaf_after : ℕ → List ℕ → Found Entry
leaf_after tag bs = if tag == 0x40 then seen function (function_at bs) else seen defined (defined_after tag bs)

unfoldable pub import_after : Bool → List ℕ → Found Decl
import_after importing bs = if importing then seen (λ x. import_decl x.0 tt x.1) (named_at bs) else None

module _ (inner : ℕ → List ℕ → Found Entry) where
  unfoldable pub decl_after : Bool → ℕ → List ℕ → Found Decl
  decl_after importing tag bs =
      if tag == 0x00 then seen (λ t. core_type_decl t tt) (core_entry_at bs)
      else if tag == 0x01 then seen type_decl (byte_at bs >>= λ t. inner t.0 t.1)
      else if tag == 0x02 then seen outer_decl (outer_at bs)
      else if tag == 0x03 then import_after importing bs
      else if tag == 0x04 then seen (λ x. export_decl x.0 tt x.1) (named_at bs)
      else None

  unfoldable pub decl_at : Bool → List ℕ → Found Decl
  decl_at importing bs = byte_at bs >>= λ t. decl_after importing t.0 t.1

  unfoldable pub around_after : ℕ → List ℕ → Found Entry
  around_after tag bs =
      if tag == 0x41 then seen (λ ds. component_type (in_order ds)) (many_at (decl_at true) bs)
      else if tag == 0x42 then seen (λ ds. instance_type (in_order ds)) (many_at (decl_at false) bs)
      else leaf_after tag bs

unfoldable pub entry_after : ℕ → ℕ → List ℕ → Found Entry
entry_after zero = leaf_after
entry_after (suc n) = around_after (entry_after n)

unfoldable pub entry_at : ℕ → List ℕ → Found Entry
entry_at n bs = byte_at bs >>= λ t. entry_after n t.0 t.1

-- the contents of a type section
unfoldable pub types_at : ℕ → List ℕ → Option (List Entry)
types_at n bs = all_of (many_at (entry_at n) bs)

-- Spellings, of types that hold types spelled by `inner`.
module _ (inner : Entry → Piece) where
  abbrev pub decl_in : Bool → Decl → Piece
  decl_in importing (core_type_decl t k) = decl importing (core_type_decl t k)
  decl_in importing (type_decl e) = byte 0x01 ⊕ inner e
  decl_in importing (type_alias count i k) = decl importing (type_alias count i k)
  decl_in importing (core_type_alias count i k) = decl importing (core_type_alias count i k)
  decl_in importing (import_decl name n r) = decl importing (import_decl name n r)
  decl_in importing (export_decl name n r) = decl importing (export_decl name n r)

  abbrev pub decls_in : Bool → Decls → Piece
  decls_in importing no_decls = Some []
  decls_in importing (then_decls d ds) = decl_in importing d ⊕ decls_in importing ds

  abbrev pub around : Entry → Piece
  around (defined t) = defvaltype t
  around (function s) = functype s
  around (component_type ds) = byte 0x41 ⊕ u (decl_count ds) ⊕ decls_in true ds
  around (instance_type ds) = byte 0x42 ⊕ u (decl_count ds) ⊕ decls_in false ds

abbrev pub leaf : Entry → Piece
leaf (defined t) = defvaltype t
leaf (function s) = functype s
leaf (component_type ds) = None
leaf (instance_type ds) = None

-- the spelling of a type with at most that many levels of types that hold types
unfoldable pub entry_in : ℕ → Entry → Piece
entry_in zero = leaf
entry_in (suc n) = around (entry_in n)
