-- The script of exports is read as them.
use Rattle.std.proofs.Common.{◌≡◌, ℕ, ◌+◌, ◌-◌, ◌<◌, ◌≤◌, ◌^◌, List, [], ◌∷◌, ◌++◌, length, arith, refl, sym, ap, subst, append_assoc}
use Rattle.std.proofs.Common.{append-nil, length-append, ◌∙◌}
use Rattle.std.proofs.lemmas.List.{length-map}
use Rattle.std.specs.List.{AllByRecursion}
use Rattle.std.specs.Prelude.{true, false, if◌then◌else◌}
use Rattle.smith_input.specs.Kebab.{Kebab}
use Rattle.smith_input.specs.Loops.{Along, Loop}
use Rattle.smith_input.specs.Names.{ReadsNew}
use Rattle.smith_input.specs.NameScript.{AreReachable, IsReachable, script_new}
use Rattle.smith_input.specs.Reading.{Reads}
use Rattle.smith_input.specs.Script.{pick}
use Rattle.smith_input.proofs.Loops.{loop_read}
use Rattle.smith_input.proofs.NameScript.{new_script_read}
use Rattle.smith_input.proofs.Picks.{reads-pick}
use Rattle.smith_format.specs.declared.config.Config.{Config}
use Rattle.smith_syntax.specs.WellFormed.{Named}
use Rattle.smith_component.specs.ExportReading.{NoExport, ReadsExport, ReadsExports}
use Rattle.smith_tree.specs.Marking.{marked_inner}
use Rattle.smith_tree.specs.Offered.{OfferedExports}
use Rattle.smith_tree.specs.Offers.{export_functions, with_exports}
use Rattle.smith_tree.specs.Script.{script_export, script_exports}
use Rattle.smith_tree.specs.Spaces.{after_export, spaces_of}
use Rattle.smith_tree.specs.Functions.{functions_of}
use Rattle.smith_tree.specs.TypeOffers.{has_room}
use Rattle.smith_tree.specs.Tree.{ExportEntry, Tree, exports, exports_in, exports_of, function_count}
use Rattle.smith_tree.specs.WellFormed.{FormedExports, export_names}
use Rattle.smith_component.proofs.Growth.{functions_counted, spaces-add, spaces_export}
use Rattle.smith_component.proofs.ImportsRead.{all_of_them}
use Rattle.smith_component.proofs.Marks.{exports_marked, exports_marked_more}
use Rattle.smith_component.proofs.Named.{named_behind, names_with_more}
use Rattle.smith_component.proofs.Tree.{function_count-add, length-own-add}

-- No more functions are there than are counted and exported.
pub few_functions : (t : Tree) (s : List ExportEntry) → function_count t + (length (exports_of t) + length s) ≤ 2 ^ 64
    → length (functions_of (with_exports t s)) ≤ 2 ^ 64
few_functions t s h =
    omega (arith, h, (functions_counted (with_exports t s)).most, function_count-add t (exports s), length-own-add exports_in t (exports s))

module _ (config : Config) (outer : List Tree) (t : Tree) where
  -- the names of the component's exports and of these
  abbrev names_at : List ExportEntry → List (List ℕ)
  names_at s = export_names (exports_of t ++ s)

  names_count : (s : List ExportEntry) → length (names_at s) ≡ length (exports_of t) + length s
  names_count s = length-map (exports_of t ++ s) (λ (e : ExportEntry). e.name) ∙ length-append (exports_of t) s

  -- What may be exported, if there is room.
  open_functions : (s : List ExportEntry) → has_room (marked_inner config outer (with_exports t s)) false ≡ true
      → export_functions config outer t s ≡ functions_of (with_exports t s)
  open_functions s room = ap (λ b. if b then functions_of (with_exports t s) else []) room

  -- an export that can be said after others
  record Sayable (s : List ExportEntry) (x : ExportEntry) : Type 0 where
    reachable : IsReachable config.max_name_length (names_at s) x.name
    short : config.max_name_length < 2 ^ 64
    lasts : has_room (marked_inner config outer (with_exports t s)) false ≡ true
    stands : x.func < length (functions_of (with_exports t s))
    few : length (functions_of (with_exports t s)) ≤ 2 ^ 64
    kebab : Kebab x.name

  export_read : (s : List ExportEntry) (x : ExportEntry) (rest : List ℕ) → Sayable s x
      → ReadsExport config outer t s (script_export config t s x ++ rest) x rest (s ++ x ∷ [])
  export_read s x rest h =
      let p : List ℕ = pick (length (functions_of (with_exports t s))) x.func in
      let n : List ℕ = script_new config.max_name_length (length (exports_of t) + length s) x.name in
      subst (λ z. ReadsExport config outer t s z x rest (s ++ x ∷ [])) (sym (append_assoc p n rest)) (record {
        mid = n ++ rest;
        of = subst (λ fs. Reads (length fs) (p ++ (n ++ rest)) x.func (n ++ rest)) (sym (open_functions s h.lasts))
            (reads-pick (length (functions_of (with_exports t s))) x.func (n ++ rest) h.few h.stands);
        named = subst (λ c. ReadsNew config.max_name_length (names_at s) (script_new config.max_name_length c x.name ++ rest) x.name rest) (names_count s)
            (new_script_read config.max_name_length (names_at s) x.name rest (let short = h.short in omega (arith, short)) h.kebab h.reachable);
        next_is = refl;
      })

  all_sayable : config.max_name_length < 2 ^ 64 → (s xs : List ExportEntry) → AreReachable config.max_name_length (names_at s) (export_names xs)
      → FormedExports xs (spaces_of (with_exports t s))
      → AllByRecursion Kebab (export_names xs)
      → OfferedExports xs (spaces_of (with_exports t s)) (marked_inner config outer (with_exports t s))
      → function_count t + (length (exports_of t) + (length s + length xs)) ≤ 2 ^ 64 → Along Sayable (λ u x. u ++ x ∷ []) s xs
  all_sayable short s [] p f k o h = tt
  all_sayable short s (x ∷ xs) p f k o h = (
    record { reachable = p.0; short = short; lasts = o.0; stands = f.0; few = few_functions t s (omega (arith, h)); kebab = k.0 },
    all_sayable short (s ++ x ∷ []) xs
        (subst (λ z. AreReachable config.max_name_length z (export_names xs)) (sym (names_with_more (λ (e : ExportEntry). e.name) (exports_of t) s x)) p.1)
        (subst (FormedExports xs) (sym (spaces_export t s x)) f.1) k.1
        (subst (λ z. OfferedExports xs z (marked_inner config outer (with_exports t (s ++ x ∷ [])))) (sym (spaces_export t s x))
        (subst (OfferedExports xs (after_export (spaces_of (with_exports t s)) x)) (sym (exports_marked_more config outer t s x)) o.1))
        (omega (arith, h, length-append s (x ∷ []))),
  )

  -- The script of the exports of a plan is read as them.
  pub exports_read : config.max_name_length < 2 ^ 64 → (es : List ExportEntry) (rest : List ℕ)
      → AreReachable config.max_name_length (export_names (exports_of t)) (export_names es) → FormedExports es (spaces_of t)
      → Named (export_names (exports_of t ++ es)) → OfferedExports es (spaces_of t) (marked_inner config outer t)
      → length es ≤ config.max_exports - length (exports_of t)
      → function_count t + (length (exports_of t) + length es) ≤ 2 ^ 64
      → ReadsExports config outer t (script_exports config t es ++ rest) es rest
  exports_read short es rest reachable formed named offered fits few =
      let behind = named_behind (λ (e : ExportEntry). e.name) (exports_of t) es named in
      let start : FormedExports es (spaces_of (with_exports t [])) = subst (FormedExports es) (sym (spaces-add t (exports []))) formed in
      let from : AreReachable config.max_name_length (names_at []) (export_names es) =
      subst (λ z. AreReachable config.max_name_length (export_names z) (export_names es)) (sym (append-nil (exports_of t))) reachable in
      let open_first : OfferedExports es (spaces_of (with_exports t [])) (marked_inner config outer (with_exports t [])) =
      subst (λ z. OfferedExports es z (marked_inner config outer (with_exports t []))) (sym (spaces-add t (exports [])))
      (subst (OfferedExports es (spaces_of t)) (sym (exports_marked config outer t [])) offered) in
      let all = all_sayable short [] es from start behind.0 open_first (omega (arith, few)) in
      let B : List ℕ = script_exports config t es ++ rest in
      let L : List ExportEntry → Type 0 =
      λ u. Loop (NoExport config outer t) (ReadsExport config outer t) config.loop_bits 0 (config.max_exports - length (exports_of t)) 0 [] B es rest u in
      subst L (all_of_them [] es) (loop_read (script_export config t) (λ u x. u ++ x ∷ []) Sayable export_read es 0 [] rest all (omega arith)
      (omega (arith, fits)))
