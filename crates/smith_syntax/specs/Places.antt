-- The indexes of what is chosen among, and the parts of a stack of scopes.
use Rattle.std.specs.Prelude.{ℕ, ◌+◌, Bool, true, false, List, [], ◌∷◌, if◌then◌else◌}
use Rattle.smith_syntax.specs.Entries.{CoreEntry, core_func, core_module}
use Rattle.smith_syntax.specs.Scope.{Scope, empty_scope, is_defined}

-- the innermost scope, and those around it
abbrev pub own_of : List Scope → Scope
own_of [] = empty_scope
own_of (own ∷ outer) = own

abbrev pub outer_of : List Scope → List Scope
outer_of [] = []
outer_of (own ∷ outer) = outer

-- Is it a core function type?
abbrev pub is_core_func : CoreEntry → Bool
is_core_func (core_func f) = true
is_core_func (core_module ds) = false

-- the indexes of the items that pass, ascending; the first item has the index i
abbrev pub places : {A : Type 0} → (A → Bool) → ℕ → List A → List ℕ
places test i [] = []
places test i (x ∷ xs) = if test x then i ∷ places test (i + 1) xs else places test (i + 1) xs

-- the indexes of the defined types, ascending
abbrev pub defined_places : Scope → List ℕ
defined_places s = places is_defined 0 s.types
