-- What holds of a module type that grows by one declaration after another: it is well formed and within the limits, and its names can be
-- read.
use Rattle.std.proofs.Common.{◌≡◌, ℕ, ◌<◌, Bool, true, false, List, [], ◌∷◌, ◌++◌, length, take, refl, sym, ap, ◌∙◌, subst, arith, append-nil, append_assoc}
use Rattle.std.proofs.Common.{codes}
use Rattle.std.proofs.lemmas.Bool.{le-leb}
use Rattle.std.proofs.lemmas.List.{length-take}
use Rattle.std.specs.Prelude.{Option, Some, None, IfSome, slice_get}
use Rattle.smith_input.specs.NewNames.{is_among}
use Rattle.smith_input.specs.Texts.{ReadsNewText, ReadsText}
use Rattle.smith_input.proofs.NameScript.{new_text_reachable, new_text_utf8}
use Rattle.smith_format.specs.CoreFormed.{FormedFunction, FormedMemory}
use Rattle.smith_format.specs.CoreTypes.{Function}
use Rattle.smith_format.specs.Limits.{configured, max_results}
use Rattle.smith_format.specs.declared.config.Config.{Config}
use Rattle.smith_format.specs.declared.types.EntityType.TheVariants.{Func, Memory}
use Rattle.smith_format.specs.declared.types.ExportKind.TheVariants as kind
use Rattle.smith_format.specs.declared.types.MemoryType.{MemoryType}
use Rattle.smith_syntax.specs.Entries.{CoreEntry, ModuleDecl, declares, exports}
use Rattle.smith_syntax.specs.ModuleTypes.{adds, count_of_kind, free, module_export_names, realloc}
use Rattle.smith_syntax.specs.WellFormed.{FormedDecl}
use Rattle.smith_tree.proofs.FrontFound.{front_decls}
use Rattle.smith_tree.specs.CoreTypeOffers.{Declared}
use Rattle.smith_tree.specs.ReadableCoreTypes.{AreReadableModuleDecls, IsReadableModuleDecl, IsReadableNewText, IsReadableText}
use Rattle.smith_types.proofs.ModuleFronts.{HasRoomFor, IsFront, front_own}
use Rattle.smith_types.proofs.ModuleTypes.{DeclFits, HasNewName, Judged, Within, free_fits, judged_more, realloc_fits, within_more, within_none}

-- names

pub text_readable : (config : Config) {b text rest : List ℕ} → ReadsText config.max_name_length b text rest → IsReadableText config text
text_readable config {text = text} r = (
  r.longest.utf8,
  omega (
    arith,
    ap length r.longest.front,
    length-take (length text) (take r.count r.after_count),
    length-take r.count r.after_count,
    r.counted.below,
  ),
)

pub new_readable : (config : Config) {names : List (List ℕ)} {b name rest : List ℕ} → ReadsNewText config.max_name_length names b name rest
    → IsReadableNewText config names name
new_readable config r = (new_text_utf8 r, new_text_reachable r)

-- one more declaration
readable_more : (config : Config) (before ds : List ModuleDecl) (d : ModuleDecl) → AreReadableModuleDecls config before ds
    → IsReadableModuleDecl config (before ++ ds) d → AreReadableModuleDecls config before (ds ++ d ∷ [])
readable_more config before [] d all one = (subst (λ z. IsReadableModuleDecl config z d) (append-nil before) one, tt)
readable_more config before (e ∷ ds) d all one =
    (all.0, readable_more config (before ++ e ∷ []) ds d all.1 (subst (λ z. IsReadableModuleDecl config z d) (sym (append_assoc before (e ∷ []) ds)) one))

-- of declarations that can be read those after some can be read after them
pub readable_back : (config : Config) (before front back : List ModuleDecl) → AreReadableModuleDecls config before (front ++ back)
    → AreReadableModuleDecls config (before ++ front) back
readable_back config before [] back h = subst (λ z. AreReadableModuleDecls config z back) (sym (append-nil before)) h
readable_back config before (d ∷ ds) back h =
    subst (λ z. AreReadableModuleDecls config z back) (append_assoc before (d ∷ []) ds) (readable_back config (before ++ d ∷ []) ds back h.1)

-- These declarations begin with those, and the others can be read after them.
abbrev pub IsReadAfter : Config → List ModuleDecl → List ModuleDecl → Type 0
IsReadAfter config front ds = (more : List ModuleDecl) × (ds ≡ front ++ more) × AreReadableModuleDecls config front more

pub read_none : (config : Config) (front ds : List ModuleDecl) → ds ≡ front → IsReadAfter config front ds
read_none config front ds e = ([], e ∙ sym (append-nil front), tt)

pub read_more : (config : Config) (front ds : List ModuleDecl) (d : ModuleDecl) → IsReadAfter config front ds → IsReadableModuleDecl config ds d
    → IsReadAfter config front (ds ++ d ∷ [])
read_more config front ds d (more, e, all) one = (
  more ++ d ∷ [],
  ap (λ z. z ++ d ∷ []) e ∙ append_assoc front more (d ∷ []),
  readable_more config front more d all (subst (λ z. IsReadableModuleDecl config z d) e one),
)

-- A declaration stands after these, which declare these types.
pub record Stands (config : Config) (around : List CoreEntry) (own : List Function) (ds : List ModuleDecl) (d : ModuleDecl) : Type 0 where
  pub formed : FormedDecl around own d
  pub new : HasNewName ds d
  pub fits : DeclFits config around own ds d

pub record Holds (config : Config) (around : List CoreEntry) (own : List Function) (ds : List ModuleDecl) : Type 0 where
  pub judged : Judged around own ds
  pub within : Within config own ds

module _ (config : Config) (around : List CoreEntry) where
  pub holds_none : Holds config around [] []
  holds_none = record { judged = record { formed = tt; types = refl; imported = λ from. tt; exported = tt }; within = within_none config }

  pub holds_more : (own : List Function) (ds : List ModuleDecl) (d : ModuleDecl) → Holds config around own ds → Stands config around own ds d
      → Holds config around (own ++ adds around own d) (ds ++ d ∷ [])
  holds_more own ds d h s = record {
    judged = judged_more around own ds d h.judged s.formed s.new;
    within = within_more config around own ds h.within d s.fits;
  }

  -- what the canonical ABI asks

  line_holds : (own : List Function) (ds : List ModuleDecl) (name : List ℕ) (f : Function) (i : ℕ) → Holds config around own ds
      → FormedFunction (configured config) (max_results config) f
      → is_among (module_export_names (ds ++ declares f ∷ [])) name ≡ false → slice_get (own ++ f ∷ []) i ≡ Some f
      → (count_of_kind kind.Func (ds ++ declares f ∷ []) < config.max_funcs) × (length own < config.max_types)
      → Holds config around ((own ++ f ∷ []) ++ []) ((ds ++ declares f ∷ []) ++ exports name (Func i) ∷ [])
  line_holds own ds name f i h fits new at room =
      holds_more (own ++ f ∷ []) (ds ++ declares f ∷ []) (exports name (Func i))
      (holds_more own ds (declares f) h (record { formed = tt; new = tt; fits = (fits, room.1) }))
      (record { formed = (f, at); new = new; fits = (tt, room.0) })

  front_memory : (m : Option MemoryType) → IfSome m (λ m. FormedMemory m × (0 < config.max_memories))
      → Holds config around (front_own false false) (front_decls m false false)
  front_memory None h = holds_none
  front_memory (Some m) h = holds_more [] [] (exports (codes "memory") (Memory m)) holds_none
      (record { formed = h.0; new = refl; fits = (tt, h.1) })

  front_realloc : (m : Option MemoryType) (r : Bool) → HasRoomFor config 0 r → Holds config around (front_own false false) (front_decls m false false)
      → Holds config around (front_own r false) (front_decls m r false)
  front_realloc m false room h = h
  front_realloc None true room h = line_holds [] [] (codes "canonical_abi_realloc") realloc 0 h (realloc_fits config) refl refl (room refl)
  front_realloc (Some m) true room h = line_holds [] (front_decls (Some m) false false) (codes "canonical_abi_realloc") realloc 0 h (realloc_fits config)
      refl refl (room refl)

  front_free : (m : Option MemoryType) (r f : Bool) → HasRoomFor config (length (front_own r false)) f
      → Holds config around (front_own r false) (front_decls m r false) → Holds config around (front_own r f) (front_decls m r f)
  front_free m r false room h = h
  front_free None false true room h = line_holds [] [] (codes "canonical_abi_free") free 0 h (free_fits config) refl refl (room refl)
  front_free None true true room h = line_holds (realloc ∷ []) (front_decls None true false) (codes "canonical_abi_free") free 1 h (free_fits config)
      refl refl (room refl)
  front_free (Some m) false true room h = line_holds [] (front_decls (Some m) false false) (codes "canonical_abi_free") free 0 h (free_fits config)
      refl refl (room refl)
  front_free (Some m) true true room h = line_holds (realloc ∷ []) (front_decls (Some m) true false) (codes "canonical_abi_free") free 1 h
      (free_fits config) refl refl (room refl)

  pub front_holds : {fuel : ℕ} {s : Declared} (x : IsFront config fuel s)
      → Holds config around (front_own x.reallocs x.frees) (front_decls x.memory x.reallocs x.frees)
  front_holds x =
      front_free x.memory x.reallocs x.frees x.has_free (front_realloc x.memory x.reallocs x.has_realloc (front_memory x.memory x.has_memory))
