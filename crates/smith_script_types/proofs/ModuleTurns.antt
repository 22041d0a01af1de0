-- Module types as a script spells them.
use Rattle.std.proofs.Common.{◌≡◌, ℕ, zero, suc, ◌+◌, ◌-◌, ◌<◌, ◌≤◌, Bool, List, [], ◌∷◌, ◌++◌, drop, length, map, get_or, refl, ap, sym, ◌∙◌, arith}
use Rattle.std.proofs.Common.{length-append}
use Rattle.std.proofs.Math.Seq.{drop-append_seam, drop-cons}
use Rattle.std.proofs.lemmas.Bool.{lt-ltb}
use Rattle.std.proofs.lemmas.Grind.{flat_map-append}
use Rattle.std.proofs.lemmas.List.{drop-map, length-map, take-map}
use Rattle.std.specs.List.{flat_map}
use Rattle.std.specs.Prelude.{take, if◌then◌else◌}
use Rattle.smith_input.specs.NameScript.{script_new_text}
use Rattle.smith_input.specs.Script.{pick, script_end, script_loop, script_more, script_text}
use Rattle.smith_format.specs.CoreTypes.{Function}
use Rattle.smith_format.specs.declared.config.Config.{Config}
use Rattle.smith_format.specs.declared.types.EntityType.{EntityType}
use Rattle.smith_format.specs.declared.types.EntityType.TheVariants.{Func, Table, Memory, Global, Tag}
use Rattle.smith_syntax.specs.Entries.{ModuleDecl, aliases, declares, exports, imports}
use Rattle.smith_syntax.specs.ModuleTypes.{adds, after_front, entities_in, entities_of, module_export_names, names_from}
use Rattle.smith_syntax.specs.Scope.{Scope}
use Rattle.smith_read.specs.Nodes.{shown_module_node}
use Rattle.smith_read.specs.declared.core_types.ModuleNode.{ModuleNode}
use Rattle.smith_tree.proofs.FrontFound.{fronted, whole_front}
use Rattle.smith_tree.specs.ModuleScript.{front_before, in_front, script_asked, script_decl, script_entity, script_item, script_line}
use Rattle.smith_tree.specs.declared.choices.ModuleItem.TheVariants as item
use Rattle.smith_tree.specs.CoreTypeOffers.{Declared, undeclared, with_decl, with_front}

-- what the canonical ABI leaves open

abbrev asked_in : List ModuleDecl → List ℕ
asked_in ds = flat_map script_asked (entities_of ds)

asked_more : (d : ModuleDecl) (ds : List ModuleDecl) → asked_in (d ∷ ds) ≡ asked_in (d ∷ []) ++ asked_in ds
asked_more d ds = ap (flat_map script_asked) (flat_map-append entities_in (d ∷ []) ds) ∙ flat_map-append script_asked (entities_of (d ∷ [])) (entities_of ds)

pub asked_at : (xs : List ModuleNode) (i : ℕ) (x : ModuleNode) → i < length xs → x ≡ get_or xs i x
    → asked_in (map shown_module_node (drop i xs)) ≡ asked_in (shown_module_node x ∷ []) ++ asked_in (map shown_module_node (drop (i + 1) xs))
asked_at xs i x h e =
    let further : suc i ≡ i + 1 = omega arith in
    ap (λ ys. asked_in (map shown_module_node ys)) (drop-cons xs i x h)
    ∙ asked_more (shown_module_node (get_or xs i x)) (map shown_module_node (drop (suc i) xs))
    ∙ ap (λ y. asked_in (shown_module_node y ∷ []) ++ asked_in (map shown_module_node (drop (suc i) xs))) (sym e)
    ∙ ap (λ j. asked_in (shown_module_node x ∷ []) ++ asked_in (map shown_module_node (drop j xs))) further

-- a line that is taken
pub line_taken : (may : Bool) (ds after : List ModuleDecl) → length after < length ds
    → script_line may ds after ≡ pick 100 0 ++ flat_map script_asked (entities_of (in_front ds after))
line_taken may ds after h =
    ap (λ b. if b then pick 100 0 ++ flat_map script_asked (entities_of (in_front ds after)) else (if may then pick 100 99 else []))
    (lt-ltb (length after) (length ds) h)

-- what is after the front

module _ (front after ds : List ModuleDecl) (e : ds ≡ front ++ after) where
  front_length : length front + length after ≡ length ds
  front_length = sym (length-append front after) ∙ ap length (sym e)

  after_dropped : drop (length ds - length after) ds ≡ after
  after_dropped =
      let n : length ds - length after ≡ length front = omega (arith, front_length) in
      ap (λ k. drop k ds) n ∙ ap (drop (length front)) e ∙ drop-append_seam front after

  within : length after ≤ length ds
  within = omega (arith, front_length)

pub after_within : (ds : List ModuleDecl) → length (after_front ds) ≤ length ds
after_within ds = within _ (after_front ds) ds (whole_front (fronted ds))

module _ (config : Config) (around : Scope) where
  -- a script does not go by the fuel

  abbrev state : List Function → List ModuleDecl → ℕ → Declared
  state own ds fuel = record { own = own; decls = ds; fuel = fuel }

  entity_fuel : (own : List Function) (ds : List ModuleDecl) (m n : ℕ) (e : EntityType)
      → script_entity config (state own ds m) e ≡ script_entity config (state own ds n) e
  entity_fuel own ds m n (Func i) = refl
  entity_fuel own ds m n (Table t) = refl
  entity_fuel own ds m n (Memory u) = refl
  entity_fuel own ds m n (Global g) = refl
  entity_fuel own ds m n (Tag t) = refl

  decl_fuel : (own : List Function) (ds : List ModuleDecl) (m n : ℕ) (d : ModuleDecl)
      → script_decl config around (state own ds m) d ≡ script_decl config around (state own ds n) d
  decl_fuel own ds m n (imports from name e) =
      ap
      (λ x. script_item config around (state own ds m) item.Import
      ++ (script_text config.max_name_length from ++ (script_new_text config.max_name_length (length (names_from from ds)) name ++ x)))
      (entity_fuel own ds m n e)
  decl_fuel own ds m n (exports name e) =
      ap (λ x. script_item config around (state own ds m) item.Export ++ (script_new_text config.max_name_length (length (module_export_names ds)) name ++ x))
      (entity_fuel own ds m n e)
  decl_fuel own ds m n (declares f) = refl
  decl_fuel own ds m n (aliases count i) = refl

  abbrev turns : ℕ → Declared → List ModuleDecl → List ℕ
  turns done s ds = script_loop (script_decl config around) (with_decl around.core_types) 0 100 done s ds

  turns_fuel : (ds : List ModuleDecl) (done : ℕ) (own : List Function) (before : List ModuleDecl) (m n : ℕ)
      → turns done (state own before m) ds ≡ turns done (state own before n) ds
  turns_fuel [] done own before m n = refl
  turns_fuel (d ∷ ds) done own before m n =
      ap (λ x. script_more 0 done ++ x ++ turns (done + 1) (with_decl around.core_types (state own before m) d) ds) (decl_fuel own before m n d)
      ∙ ap (λ x. script_more 0 done ++ script_decl config around (state own before n) d ++ x)
      (turns_fuel ds (done + 1) (own ++ adds around.core_types own d) (before ++ d ∷ []) (m - 1) (n - 1))

  -- a declaration, and the ones after it
  pub module_at : (xs : List ModuleNode) (i front : ℕ) (s t : Declared) (x : ModuleNode) → front ≤ i → i < length xs → x ≡ get_or xs i x
      → t ≡ with_decl around.core_types s (shown_module_node x)
      → turns (i - front) s (map shown_module_node (drop i xs))
      ≡ (script_more 0 (i - front) ++ script_decl config around s (shown_module_node x)) ++ turns (i + 1 - front) t (map shown_module_node (drop (i + 1) xs))
  module_at xs i front s t x from h e is =
      let n : ℕ = i - front in
      let turn : ModuleNode → List ℕ = λ y. script_more 0 n ++ script_decl config around s (shown_module_node y) in
      let next : ModuleNode → Declared = λ y. with_decl around.core_types s (shown_module_node y) in
      let further : suc i ≡ i + 1 = omega arith in
      let count : n + 1 ≡ i + 1 - front = omega (arith, from) in
      ap (λ ys. turns n s (map shown_module_node ys)) (drop-cons xs i x h)
      ∙ ap (λ y. turn y ++ turns (n + 1) (next y) (map shown_module_node (drop (suc i) xs))) (sym e)
      ∙ ap (λ m. turn x ++ turns m (next x) (map shown_module_node (drop (suc i) xs))) count
      ∙ ap (λ u. turn x ++ turns (i + 1 - front) u (map shown_module_node (drop (suc i) xs))) (sym is)
      ∙ ap (λ j. turn x ++ turns (i + 1 - front) t (map shown_module_node (drop j xs))) further

  -- no declaration is left
  pub module_over : (xs : List ModuleNode) (i done : ℕ) (s : Declared) → length xs ≤ i → turns done s (map shown_module_node (drop i xs)) ≡ script_end done 100
  module_over [] zero done s h = refl
  module_over [] (suc i) done s h = refl
  module_over (x ∷ xs) zero done s h = absurd (omega arith)
  module_over (x ∷ xs) (suc i) done s h = module_over xs i done s (omega arith)

  -- before the first declaration after the front
  pub module_start : (xs : List ModuleNode) (fuel front : ℕ) (s : Declared) → front ≡ length xs - length (after_front (map shown_module_node xs))
      → s ≡ with_front (undeclared 0) (map shown_module_node (take front xs))
      → turns 0 (front_before fuel (map shown_module_node xs) (after_front (map shown_module_node xs))) (after_front (map shown_module_node xs))
      ≡ turns (front - front) s (map shown_module_node (drop front xs))
  module_start xs fuel front s f is =
      let ds : List ModuleDecl = map shown_module_node xs in
      let none : 0 ≡ front - front = omega arith in
      let count : length ds - length (after_front ds) ≡ front = omega (arith, f, length-map xs shown_module_node) in
      let later : after_front ds ≡ map shown_module_node (drop front xs) =
      sym (after_dropped _ (after_front ds) ds (whole_front (fronted ds))) ∙ ap (λ n. drop n ds) count ∙ drop-map shown_module_node front xs in
      let before : front_before 0 ds (after_front ds) ≡ s =
      ap (λ n. with_front (undeclared 0) (take n ds)) count ∙ ap (with_front (undeclared 0)) (take-map shown_module_node front xs) ∙ sym is in
      turns_fuel (after_front ds) 0 _ _ fuel 0 ∙ ap (λ t. turns 0 t (after_front ds)) before ∙ ap (turns 0 s) later
      ∙ ap (λ n. turns n s (map shown_module_node (drop front xs))) none
