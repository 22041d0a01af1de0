-- The parts of a core module, as it is kept.
use Rattle.std.specs.Prelude.{◌≡◌, ℕ, ◌+◌, ◌<◌, ◌^◌, Bool, true, false, List, [], ◌∷◌, map, length, None}
use Rattle.std.specs.Global.{Vec}
use Rattle.std.proofs.Common.{ap, arith, refl, suc}
use Rattle.std.proofs.lemmas.List.{length-map}
use denote.RawPtr.{null_ptr}
use Rattle.smith_format.specs.Shown.{shown_func}
use Rattle.smith_format.specs.declared.types.FuncType.{FuncType}
use Rattle.smith_format.specs.declared.types.MemoryType.{MemoryType}
use Rattle.smith_core.specs.Module.{has_any}
use Rattle.smith_core.specs.StandIn.{groups_from}
use Rattle.smith_core.specs.StandInText.{StandIn, stand_in}
use Rattle.smith_core.specs.declared.module.Kept.{Kept}
use Rattle.smith_core.specs.declared.module.Kept.TheVariants as kept
use Rattle.smith_core.specs.declared.module.parts.ModuleParts.{ModuleParts}
use Rattle.smith_core.specs.declared.module.stand_in.StandIn as program
use Rattle.smith_core.specs.declared.module.types.CompositeType.TheVariants.{Func}
use Rattle.smith_core.specs.declared.module.types.SubType.{SubType}

-- a list with these items, and with no room for more
abbrev pub vec_of : {A : Type 0} (xs : List A) → length xs < 2 ^ 63 → Vec A
vec_of xs h = record {
  ptr = null_ptr;
  len = length xs;
  cap = length xs;
  alloc = record { memory = record { seal = tt } };
  items = xs;
  ok = (refl, omega arith);
  small = h;
}

abbrev pub empty_vec : {A : Type 0} → Vec A
empty_vec = vec_of [] (omega arith)

pub groups_count : (at : ℕ) (ts : List SubType) → length (groups_from at ts) ≡ length ts
groups_count at [] = refl
groups_count at (t ∷ ts) = ap suc (groups_count (at + 1) ts)

-- function types, each in a group by itself, and memories, all defined
abbrev pub parts_of : Bool → (ts : List SubType) (ms : List MemoryType) → length ts < 2 ^ 63 → length ms < 2 ^ 63 → ModuleParts
parts_of bulk_memory ts ms few_types few_memories = record {
  should_encode_types = has_any ts;
  should_encode_imports = false;
  bulk_memory_enabled = bulk_memory;
  types = vec_of ts few_types;
  rec_groups = vec_of (groups_from 0 ts) (omega (arith, few_types, groups_count 0 ts));
  imports = empty_vec;
  funcs = empty_vec;
  num_defined_funcs = 0;
  tables = empty_vec;
  defined_tables = empty_vec;
  memories = vec_of ms few_memories;
  num_defined_memories = length ms;
  tags = empty_vec;
  num_defined_tags = 0;
  globals = empty_vec;
  defined_globals = empty_vec;
  exports = empty_vec;
  start = None;
  elems = empty_vec;
  code = empty_vec;
  data_segments = empty_vec;
}

-- a function type as a final type without a supertype
abbrev pub final_type : FuncType → SubType
final_type f = record { is_final = true; supertype = None; composite_type = Func f }

pub few_items : {A : Type 0} (v : Vec A) → length v.items < 2 ^ 63
few_items v = omega (arith, v.ok.0, v.ok.1, v.small)

pub few_mapped : {A B : Type 0} (f : A → B) (v : Vec A) → length (map f v.items) < 2 ^ 63
few_mapped f v = omega (arith, v.ok.0, v.ok.1, v.small, length-map v.items f)

-- the parts of a module that stands for a generated one
abbrev pub stand_in_parts : program.StandIn → ModuleParts
stand_in_parts s = parts_of s.bulk_memory_enabled (map final_type s.types.items) s.memories.items (few_mapped final_type s.types) (few_items s.memories)

-- its function types and memories
abbrev pub shown : program.StandIn → StandIn
shown s = stand_in (map shown_func s.types.items) s.memories.items

-- the parts of a module
abbrev pub parts_in : Kept → ModuleParts
parts_in (kept.StandIn s) = stand_in_parts s
parts_in (kept.Parts p) = p.value
