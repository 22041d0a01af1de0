-- What one change makes of core module types and of what they import and export.
use Rattle.std.proofs.Common.{◌≡◌, ℕ, not, Bool, true, false, Option, Some, None, ap, arith, sym, refl, ⊎_elim}
use Rattle.std.proofs.Common.{[], ◌∷◌}
use Rattle.std.specs.Prelude.{if◌then◌else◌, ◌==◌}
use Rattle.std.specs.Option.{option_map}
use Rattle.smith_format.specs.declared.types.EntityType.{EntityType}
use Rattle.smith_format.specs.declared.types.EntityType.TheVariants.{Func, Table, Memory, Global, Tag}
use Rattle.smith_format.specs.declared.types.MemoryType.{MemoryType}
use Rattle.smith_format.specs.declared.types.TableType.{TableType}
use Rattle.smith_syntax.specs.Entries.{CoreEntry, ModuleDecl, aliases, core_func, core_module, declares, exports, imports}
use Rattle.smith_change.specs.Alternatives.{bounds_alternative, core_value_alternative, element_alternative, index_alternative, memory_alternative, memory_of}
use Rattle.smith_change.specs.Alternatives.{only, other_element, table_alternative, table_of as as_table}
use Rattle.smith_change.specs.CoreTypes.{core_changed, entity_changed, function_changed, module_decl_again, module_decl_changed, module_decl_places}
use Rattle.smith_change.specs.CoreTypes.{module_decls_changed, outer_changed, unshared}
use Rattle.smith_change.specs.Rows.{first_or}
use Rattle.smith_change.specs.Tokens.{code, core_tokens, core_value, entity_tokens, index, limits}
use Rattle.smith_change.specs.Tokens.{module_decl_tokens, mutable}
use Rattle.smith_change.specs.Tokens.{name, table_of}
use Rattle.smith_change.proofs.Differing.{Differ, behind, by_first, if_cases, list_differs, map_cases, one_token, only_is, row_differs, so}
use Rattle.smith_change.proofs.DifferingTypes.{code_same, core_value_same, function_differs, index_same, mutable_same, table_same}

-- limits that are the same have the same bounds
limits_same : (s s2 w w2 : Bool) (n n2 : ℕ) (m m2 : Option ℕ) → limits s w n m ≡ limits s2 w2 n2 m2 → (s ≡ s2) × (w ≡ w2) × (n ≡ n2) × (m ≡ m2)
limits_same s s2 w w2 n n2 m m2 e = (cc, cc, cc, cc)

pub memories_same : (m n : MemoryType) → limits m.shared m.memory64 m.minimum m.maximum ≡ limits n.shared n.memory64 n.minimum n.maximum → m ≡ n
memories_same m n s =
    let same = limits_same m.shared n.shared m.memory64 n.memory64 m.minimum n.minimum m.maximum n.maximum s in
    λ i. record { shared = same.0 i; memory64 = same.1 i; minimum = same.2 i; maximum = same.3 i }

memories_differ : (m n : MemoryType) → Differ (entity_tokens (Memory m)) (entity_tokens (Memory n)) (Memory m ≡ Memory n)
memories_differ m n =
    one_token (code 0x02 ∷ []) [] (limits m.shared m.memory64 m.minimum m.maximum) (limits n.shared n.memory64 n.minimum n.maximum)
    (λ s. ap Memory (memories_same m n s))

-- tables of the same element
tables_differ : (t u : TableType) → u.element_type ≡ t.element_type → Differ (entity_tokens (Table t)) (entity_tokens (Table u)) (Table t ≡ Table u)
tables_differ t u element =
    rw element
    (one_token (table_of t.element_type ∷ []) [] (limits false t.table64 t.minimum t.maximum) (limits false u.table64 u.minimum u.maximum)
    (λ s. let same = limits_same false false t.table64 u.table64 t.minimum u.minimum t.maximum u.maximum s in
    λ i. Table (record { element_type = t.element_type; table64 = same.1 i; minimum = same.2 i; maximum = same.3 i })))

element_kept : (a : ℕ) (t u : TableType) → table_alternative a t ≡ Some u → u.element_type ≡ t.element_type
element_kept a t u e =
    ⊎_elim
    (λ wide. let is : record t { table64 = not t.table64 } ≡ u = cc in sym (ap (λ v. v.element_type) is))
    (λ other. let m = map_cases (λ b. record t { minimum = b.0; maximum = b.1 }) (bounds_alternative 4294967296 a t.minimum t.maximum) u other in
    sym (ap (λ v. v.element_type) m.2))
    (if_cases (a == 6) (Some (record t { table64 = not t.table64 })) _ u e)

unshared_is : (b : Bool) (x y : EntityType) (o : Option EntityType) → (if b then None else o) ≡ Some y → o ≡ Some y
unshared_is true x y o e = absurd cc
unshared_is false x y o e = e

pub entity_differs : (a k : ℕ) (x y : EntityType) → entity_changed a k x ≡ Some y → Differ (entity_tokens x) (entity_tokens y) (x ≡ y)
entity_differs a k (Func i) y e =
    by_first (only a (Tag (record { func_type_idx = i }))) (λ j. option_map Func (index_alternative a i)) k y e
    (λ own. let is : Tag (record { func_type_idx = i }) ≡ y = only_is (a == 0) (Tag (record { func_type_idx = i })) y own in
    rw (sym is) (one_token [] (index i ∷ []) (code 0x00) (code 0x04) (λ s. absurd (omega (arith, code_same 0x00 0x04 s)))))
    (λ j h. let m = map_cases Func (index_alternative a i) y h in
    rw (sym m.2) (one_token (code 0x00 ∷ []) [] (index i) (index m.0) (λ s. ap Func (index_same i m.0 s))))
entity_differs a k (Table t) y e =
    by_first (only a (Memory (memory_of t)))
    (λ k. first_or (option_map Table (element_alternative a t)) (λ j. option_map Table (table_alternative a t)) k) k y e
    (λ own. let is : Memory (memory_of t) ≡ y = only_is (a == 0) (Memory (memory_of t)) y own in
    rw (sym is)
    (one_token [] (limits false t.table64 t.minimum t.maximum ∷ []) (table_of t.element_type) (code 0x02) (λ s. absurd cc)))
    (λ j h. by_first (option_map Table (element_alternative a t)) (λ j. option_map Table (table_alternative a t)) j y h
    (λ own. let m = map_cases Table (element_alternative a t) y own in
    let is : record t { element_type = other_element t.element_type } ≡ m.0 =
    only_is (a == 0) (record t { element_type = other_element t.element_type }) m.0 m.1 in
    rw (sym m.2, sym is)
    (one_token [] (limits false t.table64 t.minimum t.maximum ∷ []) (table_of t.element_type) (table_of (other_element t.element_type))
    (λ s. ap (λ r. Table (record t { element_type = r })) (table_same t.element_type (other_element t.element_type) s))))
    (λ i g. let m = map_cases Table (table_alternative a t) y g in rw (sym m.2) (tables_differ t m.0 (element_kept a t m.0 m.1))))
entity_differs a k (Memory m) y e =
    by_first (unshared a m) (λ j. option_map Memory (memory_alternative a m)) k y e
    (λ own. by_sharing m.shared refl own)
    (λ j h. let n = map_cases Memory (memory_alternative a m) y h in rw (sym n.2) (memories_differ m n.0))
  where
    by_sharing : (b : Bool) → m.shared ≡ b → (if b then None else only a (Table (as_table m))) ≡ Some y
        → Differ (entity_tokens (Memory m)) (entity_tokens y) (Memory m ≡ y)
    by_sharing true is own = absurd cc
    by_sharing false is own =
        let same : Table (as_table m) ≡ y = only_is (a == 0) (Table (as_table m)) y own in
        rw (sym same, is)
        (one_token [] (limits false m.memory64 m.minimum m.maximum ∷ []) (code 0x02) (table_of (as_table m).element_type) (λ s. absurd cc))
entity_differs a k (Global g) y e =
    by_first (option_map (λ v. Global (record g { val_type = v })) (core_value_alternative a g.val_type))
    (λ j. only a (Global (record g { mutable = not g.mutable }))) k y e
    (λ own. let m = map_cases (λ v. Global (record g { val_type = v })) (core_value_alternative a g.val_type) y own in
    rw (sym m.2)
    (one_token (code 0x03 ∷ []) (mutable g.mutable ∷ []) (core_value g.val_type) (core_value m.0)
    (λ s. ap (λ v. Global (record g { val_type = v })) (core_value_same g.val_type m.0 s))))
    (λ j h. let is : Global (record g { mutable = not g.mutable }) ≡ y = only_is (a == 0) (Global (record g { mutable = not g.mutable })) y h in
    rw (sym is)
    (one_token (code 0x03 ∷ core_value g.val_type ∷ []) [] (mutable g.mutable) (mutable (not g.mutable))
    (λ s. ap (λ b. Global (record g { mutable = b })) (mutable_same g.mutable (not g.mutable) s))))
entity_differs a k (Tag t) y e =
    by_first (only a (Func t.func_type_idx)) (λ j. option_map (λ i. Tag (record { func_type_idx = i })) (index_alternative a t.func_type_idx)) k y e
    (λ own. let is : Func t.func_type_idx ≡ y = only_is (a == 0) (Func t.func_type_idx) y own in
    rw (sym is) (one_token [] (index t.func_type_idx ∷ []) (code 0x04) (code 0x00) (λ s. absurd (omega (arith, code_same 0x04 0x00 s)))))
    (λ j h. let m = map_cases (λ i. Tag (record { func_type_idx = i })) (index_alternative a t.func_type_idx) y h in
    rw (sym m.2)
    (one_token (code 0x04 ∷ []) [] (index t.func_type_idx) (index m.0) (λ s. ap (λ i. Tag (record { func_type_idx = i })) (index_same t.func_type_idx m.0 s))))

-- the count and the index of an outer alias
pub outer_differs : (a k : ℕ) (o y : ℕ × ℕ) → outer_changed a k o ≡ Some y → Differ (index o.0 ∷ index o.1 ∷ []) (index y.0 ∷ index y.1 ∷ []) (o ≡ y)
outer_differs a k o y e =
    by_first (option_map (λ n. (n, o.1)) (index_alternative a o.0)) (λ j. option_map (λ i. (o.0, i)) (index_alternative a o.1)) k y e
    (λ own. let m = map_cases (λ n. (n, o.1)) (index_alternative a o.0) y own in
    rw (sym m.2) (one_token [] (index o.1 ∷ []) (index o.0) (index m.0) (λ s. ap (λ n. (n, o.1)) (index_same o.0 m.0 s))))
    (λ j h. let m = map_cases (λ i. (o.0, i)) (index_alternative a o.1) y h in
    rw (sym m.2) (one_token (index o.0 ∷ []) [] (index o.1) (index m.0) (λ s. ap (λ i. (o.0, i)) (index_same o.1 m.0 s))))

module_decl_differs : (a k : ℕ) (x y : ModuleDecl) → module_decl_changed a k x ≡ Some y → Differ (module_decl_tokens x) (module_decl_tokens y) (x ≡ y)
module_decl_differs a k (declares f) y e =
    let m = map_cases declares (function_changed a k f) y e in
    rw (sym m.2) (behind (code 0x01 ∷ []) (so (λ s. ap declares s) (function_differs a k f m.0 m.1)))
module_decl_differs a k (imports n o t) y e =
    let m = map_cases (imports n o) (entity_changed a k t) y e in
    rw (sym m.2) (behind (code 0x00 ∷ name n ∷ name o ∷ []) (so (λ s. ap (imports n o) s) (entity_differs a k t m.0 m.1)))
module_decl_differs a k (aliases n i) y e =
    let m = map_cases (λ o. aliases o.0 o.1) (outer_changed a k (n, i)) y e in
    rw (sym m.2) (behind (code 0x02 ∷ []) (so (λ s. ap (λ o. aliases o.0 o.1) s) (outer_differs a k (n, i) m.0 m.1)))
module_decl_differs a k (exports n t) y e =
    let m = map_cases (exports n) (entity_changed a k t) y e in
    rw (sym m.2) (behind (code 0x03 ∷ name n ∷ []) (so (λ s. ap (exports n) s) (entity_differs a k t m.0 m.1)))

pub core_differs : (a k : ℕ) (x y : CoreEntry) → core_changed a k x ≡ Some y → Differ (core_tokens x) (core_tokens y) (x ≡ y)
core_differs a k (core_func f) y e =
    let m = map_cases core_func (function_changed a k f) y e in rw (sym m.2) (so (λ s. ap core_func s) (function_differs a k f m.0 m.1))
core_differs a k (core_module ds) y e =
    let m = map_cases core_module (module_decls_changed a k ds) y e in
    rw (sym m.2)
    (behind (code 0x50 ∷ []) (so (λ s. ap core_module s)
    (list_differs module_decl_tokens ds m.0
    (row_differs module_decl_tokens module_decl_places module_decl_changed module_decl_again a (module_decl_differs a) k ds m.0 m.1))))
