-- The module that stands for a generated one: its groups, and that its parts agree.
use Rattle.std.proofs.Common.{◌≡◌, ℕ, ◌+◌, ◌<◌, ◌^◌, Bool, List, [], ◌∷◌, length, refl, ap, subst, arith}
use Rattle.smith_format.specs.Shown.{shown_func}
use Rattle.smith_format.specs.declared.config.Config.{Config}
use Rattle.smith_format.specs.declared.types.FuncType.{FuncType}
use Rattle.smith_format.specs.declared.types.MemoryType.{MemoryType}
use Rattle.smith_core.specs.Kept.{final_type, parts_of}
use Rattle.smith_core.specs.Parts.{Agree, Tiles}
use Rattle.smith_core.specs.StandIn.{groups_from, HasTypesAndMemories, ReadsFunctionType, ReadsSubType}
use Rattle.smith_core.specs.declared.module.parts.ModuleParts.{ModuleParts}
use Rattle.smith_core.specs.declared.module.types.SubType.{SubType}

-- a function type, as a type of the loop
pub reads_sub_type : (config : Config) (s : Unit {0}) (b : List ℕ) (f : FuncType) (r : List ℕ) (z : Unit {0}) → ReadsFunctionType config s b f r z
    → ReadsSubType config s b (final_type f) r z
reads_sub_type config s b f r z i = record { function = shown_func f; reads = i; is_final = refl; supertype = refl; composite = refl }

-- groups of one type each hold each type once and in order
pub groups_tile : (at : ℕ) (ts : List SubType) → Tiles (groups_from at ts) at (at + length ts)
groups_tile at [] = omega arith
groups_tile at (t ∷ ts) =
    let e : (at + 1) + length ts ≡ at + length (t ∷ ts) = omega arith in
    (refl, omega arith, subst (λ n. Tiles (groups_from (at + 1) ts) (at + 1) n) e (groups_tile (at + 1) ts))

-- The parts of function types and memories alone are so.
pub parts_listed : (bulk_memory : Bool) (ts : List SubType) (ms : List MemoryType) (few_types : length ts < 2 ^ 63) (few_memories : length ms < 2 ^ 63)
    → HasTypesAndMemories (parts_of bulk_memory ts ms few_types few_memories)
parts_listed bulk_memory ts ms few_types few_memories = record {
  encoded = refl;
  groups = refl;
  memories = refl;
  no_imports = (refl, refl);
  no_functions = (refl, refl);
  no_tables = (refl, refl);
  no_tags = (refl, refl);
  no_globals = (refl, refl);
  no_exports = refl;
  no_start = refl;
  no_elements = refl;
  no_code = refl;
  no_data = refl;
}

-- They agree with one another.
pub agrees : (m : ModuleParts) → HasTypesAndMemories m → Agree m
agrees m h = record {
  funcs = omega (arith, h.no_functions.1);
  tables = omega (arith, ap length h.no_tables.1);
  memories = omega (arith, h.memories);
  tags = omega (arith, h.no_tags.1);
  groups =
      let e : 0 + length m.types.items ≡ length m.types.items = omega arith in
      rw h.groups (subst (λ n. Tiles (groups_from 0 m.types.items) 0 n) e (groups_tile 0 m.types.items));
  globals = rw h.no_globals.1 tt;
  functions = rw h.no_elements tt;
  unnamed = rw h.no_elements tt;
}
