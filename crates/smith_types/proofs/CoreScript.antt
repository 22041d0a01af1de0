-- Core types are read from their scripts.
use Rattle.std.proofs.Common.{◌≡◌, ℕ, ◌+◌, ◌-◌, ◌<◌, ◌≤◌, ◌^◌, Bool, true, false, List, [], ◌∷◌, ◌++◌, length, refl, sym, ap, ◌∙◌, subst, arith, append_assoc}
use Rattle.std.proofs.Common.{append-nil, length-append}
use Rattle.std.proofs.lemmas.Bool.Decides.{nat_tests}
use Rattle.std.specs.Prelude.{nat_le, if◌then◌else◌}
use Rattle.smith_input.specs.Loops.{Along, after_all}
use Rattle.smith_input.specs.Script.{pick, script_loop}
use Rattle.smith_input.proofs.Loops.{loop_read}
use Rattle.smith_input.proofs.Picks.{reads-pick}
use Rattle.smith_format.specs.declared.config.Config.{Config}
use Rattle.smith_syntax.specs.CoreLimits.{CoreLimits, ModuleLimits}
use Rattle.smith_syntax.specs.Entries.{CoreEntry, ModuleDecl, core_func, core_module}
use Rattle.smith_syntax.specs.ModuleTypes.{after_front, after_memory, after_realloc}
use Rattle.smith_syntax.specs.Scope.{Scope}
use Rattle.smith_syntax.specs.WellFormed.{FormedCore, FormedDecls, core_size}
use Rattle.smith_tree.proofs.FrontFound.{front_decls, fronted, in_front_is, whole_front}
use Rattle.smith_types.specs.MadeCore.{MadeCore, MadeModule, EndsModuleType, ReadsDecl, of_module, spent_core}
use Rattle.smith_tree.specs.CoreTypeOffers.{Declared, with_decl}
use Rattle.smith_tree.specs.ModuleScript.{front_before, script_decl, script_front, script_module}
use Rattle.smith_tree.specs.CoreTypeNeeds.{core_cost, core_need}
use Rattle.smith_tree.specs.CoreTypeScript.{script_core}
use Rattle.smith_tree.specs.ReadableCoreTypes.{AreReadableModuleDecls, IsReadableCore}
use Rattle.smith_types.proofs.FrontScript.{asked_read, front_before_is, front_few, front_formed, front_types}
use Rattle.smith_types.proofs.MadeCore.{core_type_read}
use Rattle.smith_types.proofs.ModuleFronts.{front_state}
use Rattle.smith_types.proofs.ModuleSaid.{decls_sayable}
use Rattle.smith_types.proofs.ModuleScript.{IsSayable, decl_read}

module _ (config : Config) (around : Scope) where
  -- the declarations are added one after another, and each takes one from the fuel
  after_decls : (s : Declared) (ds : List ModuleDecl) → let t = after_all (with_decl around.core_types) s ds in
      (t.decls ≡ s.decls ++ ds) × (t.fuel ≡ s.fuel - length ds)
  after_decls s [] = (sym (append-nil s.decls), omega arith)
  after_decls s (d ∷ ds) =
      let r = after_decls (with_decl around.core_types s d) ds in
      (r.0 ∙ append_assoc s.decls (d ∷ []) ds, omega (arith, r.1))

  -- What follows what the canonical ABI asks can be said.
  pub behind_sayable : (fuel : ℕ) (ds : List ModuleDecl) → FormedCore (core_module ds) around.core_types → ModuleLimits config ds
      → IsReadableCore config (core_module ds) → core_size (core_module ds) < fuel → length around.core_types ≤ 2 ^ 63 → config.max_name_length < 2 ^ 64
      → let x = fronted ds in Along (IsSayable config around) (with_decl around.core_types) (front_state fuel x.memory x.reallocs x.frees) (after_front ds)
  behind_sayable fuel ds formed limits texts lasts few short =
      let x = fronted ds in
      let more : List ModuleDecl = after_front ds in
      let start : Declared = front_state fuel x.memory x.reallocs x.frees in
      let whole : ds ≡ front_decls x.memory x.reallocs x.frees ++ more = whole_front x in
      let long = ap length whole ∙ length-append (front_decls x.memory x.reallocs x.frees) more in
      let small : length ds + length around.core_types ≤ 2 ^ 64 = omega (arith, long, front_few x.memory x.reallocs x.frees, limits.declarations, few) in
      let behind : FormedDecls around.core_types start.own more =
      (front_formed around.core_types x.memory x.reallocs x.frees more (subst (FormedDecls around.core_types []) whole formed.0)).1 in
      let readable : AreReadableModuleDecls config start.decls more =
      subst (λ z. AreReadableModuleDecls config z more) (in_front_is ds (front_decls x.memory x.reallocs x.frees) more whole) texts in
      decls_sayable config around ds limits small short start more whole (front_types x.memory x.reallocs x.frees) behind readable lasts

  -- the state after it
  pub begun : (fuel : ℕ) (ds : List ModuleDecl) → let x = fronted ds in
      front_before fuel ds (after_front ds) ≡ front_state fuel x.memory x.reallocs x.frees
  begun fuel ds = let x = fronted ds in front_before_is fuel x.memory x.reallocs x.frees ds (after_front ds) (whole_front x)

  -- a module type with that much fuel left for its declarations
  declared_read : (fuel : ℕ) (ds : List ModuleDecl) (rest : List ℕ) → FormedCore (core_module ds) around.core_types → ModuleLimits config ds
      → IsReadableCore config (core_module ds) → core_size (core_module ds) < fuel → length around.core_types ≤ 2 ^ 63 → config.max_name_length < 2 ^ 64
      → MadeModule config around (script_module config around fuel ds ++ rest) fuel ds rest (fuel - core_size (core_module ds))
  declared_read fuel ds rest formed limits texts lasts few short =
      let x = fronted ds in
      let more : List ModuleDecl = after_front ds in
      let start : Declared = front_state fuel x.memory x.reallocs x.frees in
      let whole : ds ≡ front_decls x.memory x.reallocs x.frees ++ more = whole_front x in
      let a : List ℕ = script_front config fuel ds (after_memory ds) (after_realloc (after_memory ds)) more in
      let turns : Declared → List ℕ = λ s. script_loop (script_decl config around) (with_decl around.core_types) 0 100 0 s more in
      let said : script_module config around fuel ds ++ rest ≡ a ++ (turns start ++ rest) =
      ap (λ s. (a ++ turns s) ++ rest) (begun fuel ds) ∙ append_assoc a (turns start) rest in
      let long = ap length whole ∙ length-append (front_decls x.memory x.reallocs x.frees) more in
      let all : Along (IsSayable config around) (with_decl around.core_types) start more = behind_sayable fuel ds formed limits texts lasts few short in
      let end = after_decls start more in
      let few_turns : 0 + length more ≤ 100 = omega (arith, limits.declarations) in
      let loop = loop_read {Ends = EndsModuleType config around} {Item = ReadsDecl config around} {bits = config.loop_bits} {min = 0} {max = 100}
      (script_decl config around)
      (with_decl around.core_types) (IsSayable config around) (decl_read config around) more 0 start rest all (omega arith) few_turns in
      let P : List ℕ → Type 0 = λ z. MadeModule config around z fuel ds rest (fuel - core_size (core_module ds)) in
      subst P (sym said) (record {
        front = start;
        mid = turns start ++ rest;
        begins = asked_read config around.core_types fuel x (turns start ++ rest) formed.0 limits;
        more = more;
        whole = after_all (with_decl around.core_types) start more;
        goes_on = loop;
        decls = whole ∙ sym end.0;
        fuel_left = sym end.1;
      })

  -- what a module type needs, if there is fuel for more than the empty one, and if there is not
  pub lasting : (fuel : ℕ) (ds : List ModuleDecl) → core_need (core_module ds) ≤ fuel → 2 ≤ fuel → core_size (core_module ds) + 2 ≤ fuel
  lasting fuel [] need some = some
  lasting fuel (d ∷ ds) need some = need

  nothing : (fuel : ℕ) (ds : List ModuleDecl) → core_need (core_module ds) ≤ fuel → fuel < 2 → ds ≡ []
  nothing fuel [] need none = refl
  nothing fuel (d ∷ ds) need none = absurd (omega (arith, need, none))

  module_read : (fuel : ℕ) (ds : List ModuleDecl) (rest : List ℕ) → FormedCore (core_module ds) around.core_types → ModuleLimits config ds
      → IsReadableCore config (core_module ds) → core_need (core_module ds) ≤ fuel → length around.core_types ≤ 2 ^ 63 → config.max_name_length < 2 ^ 64
      → (b : Bool) → nat_le 2 fuel ≡ b
      → MadeCore config around ((if b then pick 2 1 ++ script_module config around (fuel - 1) ds else []) ++ rest) fuel (core_module ds) rest
      (fuel - core_cost (core_module ds))
  module_read fuel ds rest formed limits texts need few short true e =
      let some : 2 ≤ fuel = grind (arith, nat_tests) in
      let lasts : core_size (core_module ds) + 2 ≤ fuel = lasting fuel ds need some in
      let said : List ℕ = script_module config around (fuel - 1) ds in
      let left : fuel - 1 - core_size (core_module ds) ≡ fuel - core_cost (core_module ds) = omega (arith, lasts) in
      let made = subst (MadeModule config around (said ++ rest) (fuel - 1) ds rest) left
      (declared_read (fuel - 1) ds rest formed limits texts (omega (arith, lasts)) few short) in
      let P : List ℕ → Type 0 = λ z. MadeCore config around z fuel (core_module ds) rest (fuel - core_cost (core_module ds)) in
      subst P (sym (append_assoc (pick 2 1) said rest)) (of_module (omega (arith, some)) (reads-pick 2 1 (said ++ rest) (omega arith) (omega arith)) made refl)
  module_read fuel ds rest formed limits texts need few short false e =
      let none : fuel < 2 = grind (arith, nat_tests) in
      spent_core (omega (arith, none)) (ap core_module (nothing fuel ds need none)) (omega (arith, none))

  -- A core type that is well formed and within the limits, whose names can be read and for which the fuel lasts.
  pub core_read : (fuel : ℕ) (e : CoreEntry) (rest : List ℕ) → FormedCore e around.core_types → CoreLimits config e → IsReadableCore config e
      → core_need e ≤ fuel
      → length around.core_types ≤ 2 ^ 63 → config.max_name_length < 2 ^ 64
      → MadeCore config around (script_core config around fuel e ++ rest) fuel e rest (fuel - core_cost e)
  core_read fuel (core_func f) rest formed limits texts need few short = core_type_read config around fuel f rest need limits
  core_read fuel (core_module ds) rest formed limits texts need few short = module_read fuel ds rest formed limits texts need few short (nat_le 2 fuel) refl
