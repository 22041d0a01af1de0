-- How imports and exports are read.
use Rattle.std.specs.Prelude.{ℕ, List, None, ◌==◌, if◌then◌else◌}
use Rattle.smith_syntax.specs.declared.deftype.ComponentTypeRef.{ComponentTypeRef}
use Rattle.smith_syntax.specs.declared.deftype.ComponentTypeRef.TheVariants as to
use Rattle.smith_read.specs.Reading.{Found, ◌>>=◌, seen, both_at, byte_at, behind, u_at, text_at}

unfoldable pub extern_after : ℕ → List ℕ → Found ComponentTypeRef
extern_after tag bs =
    if tag == 0x00 then seen to.Module (behind 0x11 u_at bs)
    else if tag == 0x01 then seen to.Func (u_at bs)
    else if tag == 0x03 then seen to.TypeEq (behind 0x00 u_at bs)
    else if tag == 0x04 then seen to.Component (u_at bs)
    else if tag == 0x05 then seen to.Instance (u_at bs)
    else None

unfoldable pub extern_at : List ℕ → Found ComponentTypeRef
extern_at bs = byte_at bs >>= λ t. extern_after t.0 t.1

-- the name of an import or an export, and what it is of
unfoldable pub named_at : List ℕ → Found (List ℕ × ComponentTypeRef)
named_at bs = behind 0x00 (both_at text_at extern_at) bs
