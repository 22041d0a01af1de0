-- What a core type section reads: well formed core types, within the limits and their fuel, a tail of the bytes; and what its script
-- says.
use Rattle.std.proofs.Common.{◌≡◌, ℕ, ◌+◌, ◌<◌, ◌≤◌, ◌^◌, List, [], ◌∷◌, ◌++◌, length, length-append, fold, arith, refl, sym, ap, ◌∙◌, subst}
use Rattle.std.specs.List.{AllByRecursion}
use Rattle.smith_input.specs.Loops.{Along, after_all}
use Rattle.smith_input.specs.Reading.{IsTail}
use Rattle.smith_input.proofs.Loops.{loop_tail, loop_gives, loop_all, loop_same, loop_read}
use Rattle.smith_format.specs.declared.config.Config.{Config}
use Rattle.smith_syntax.specs.CoreLimits.{CoreLimits}
use Rattle.smith_syntax.specs.Entries.{CoreEntry}
use Rattle.smith_syntax.specs.Marked.{Marked, scope_in}
use Rattle.smith_syntax.specs.WellFormed.{FormedCore, FormedCores}
use Rattle.smith_types.proofs.MadeCore.{core_fits}
use Rattle.smith_types.proofs.MadeCoreSame.{made_core_same}
use Rattle.smith_tree.specs.CoreTypeNeeds.{core_need}
use Rattle.smith_tree.specs.Limits.{SmallCoreTypes}
use Rattle.smith_tree.specs.Marking.{with_core_entry}
use Rattle.smith_tree.specs.Script.{script_core_types}
use Rattle.smith_tree.specs.CoreTypeScript.{script_core}
use Rattle.smith_types.proofs.CoreScript.{core_read}
use Rattle.smith_tree.specs.ReadableCoreTypes.{IsReadableCore}
use Rattle.smith_component.specs.AddedSections.{ReadsCoreType, ReadsCoreTypes}

module _ (config : Config) {room : ℕ} {own next : Marked} {b rest : List ℕ} {xs : List CoreEntry} (r : ReadsCoreTypes config room own b xs rest next) where
  pub core_types_read_formed : FormedCores xs (scope_in own)
  core_types_read_formed = loop_gives (λ s ys t. FormedCores ys (scope_in s)) (λ s. tt) (λ s c q t e. absurd e)
      (λ s t u c x q ys (left, made, e) f. ((core_fits made).formed, subst (λ z. FormedCores ys (scope_in z)) e f)) 0 own b xs rest next r

  pub core_types_read_limited : AllByRecursion (CoreLimits config) xs
  core_types_read_limited = loop_all _ (λ s c x q t (left, made, e). (core_fits made).limits) 0 own b xs rest next r

  pub core_types_read_small : SmallCoreTypes config xs
  core_types_read_small = loop_all _ (λ s c x q t (left, made, e). (core_fits made).takes.enough) 0 own b xs rest next r

  pub core_types_read_tail : IsTail rest b
  core_types_read_tail = loop_tail (λ s c q t e. absurd e) (λ s c x q t (left, made, e). (core_fits made).tail) 0 own b xs rest next r

  -- The scope has what was read.
  pub core_types_read_scope : next ≡ fold with_core_entry own xs
  core_types_read_scope = loop_gives (λ s ys t. t ≡ fold with_core_entry s ys) (λ s. refl) (λ s c q t e. absurd e)
      (λ s t u c x q ys (left, made, e) f. f ∙ ap (λ z. fold with_core_entry z ys) e) 0 own b xs rest next r

module _ (config : Config) where
  -- They are determined.
  pub core_types_same : {max : ℕ} {own next other : Marked} {b r s : List ℕ} {xs ys : List CoreEntry} → ReadsCoreTypes config max own b xs r next
      → ReadsCoreTypes config max own b ys s other → (xs ≡ ys) × (r ≡ s)
  core_types_same {own = own} {next = next} {other = other} {b = b} {r = r} {s = s} {xs = xs} {ys = ys} x y =
      let d = loop_same (λ s c q p t u e f. absurd e) (λ s c x q p t u e i. e)
      (λ s c x y q p t u (left, made, e) (held, again, f).
      let m = made_core_same made again in
      (m.value, m.rest, e ∙ (ap (with_core_entry s) m.value ∙ sym f)))
      0 own b xs ys r s next other x y in
      (d.0, d.1)

  -- A core type may be in a scope, and its script can say it.
  abbrev pub Said : Marked → CoreEntry → Type 0
  Said s x = FormedCore x s.core_types × CoreLimits config x × (core_need x ≤ config.max_type_size) × IsReadableCore config x × (length s.core_types ≤ 2 ^ 63)

  pub all_said : (xs : List CoreEntry) (own : Marked) → FormedCores xs (scope_in own) → AllByRecursion (CoreLimits config) xs
      → SmallCoreTypes config xs → AllByRecursion (IsReadableCore config) xs → length own.core_types + length xs ≤ 2 ^ 63 → Along Said with_core_entry own xs
  all_said [] own f m l r small = tt
  all_said (x ∷ xs) own f m l r small = (
    (f.0, m.0, l.0, r.0, omega arith),
    all_said xs (with_core_entry own x) f.1 m.1 l.1 r.1 (omega (arith, length-append own.core_types (x ∷ []))),
  )

  one_read : config.max_name_length < 2 ^ 64 → (s : Marked) (x : CoreEntry) (rest : List ℕ) → Said s x
      → ReadsCoreType config s (script_core config (scope_in s) config.max_type_size x ++ rest) x rest (with_core_entry s x)
  one_read short s x rest (formed, limits, lasts, readable, small) =
      (_, core_read config (scope_in s) config.max_type_size x rest formed limits readable lasts small short, refl)

  -- Their script is read as them.
  pub core_types_read : config.max_name_length < 2 ^ 64 → (xs : List CoreEntry) (max : ℕ) (own : Marked) (rest : List ℕ) → FormedCores xs (scope_in own)
      → AllByRecursion (CoreLimits config) xs
      → SmallCoreTypes config xs → AllByRecursion (IsReadableCore config) xs → length xs ≤ max → length own.core_types + length xs ≤ 2 ^ 63
      → ReadsCoreTypes config max own (script_core_types config max own xs ++ rest) xs rest (after_all with_core_entry own xs)
  core_types_read short xs max own rest f m l r few small =
      loop_read (λ s x. script_core config (scope_in s) config.max_type_size x) with_core_entry Said (one_read short) xs 0 own rest
      (all_said xs own f m l r small)
      (omega arith) (omega arith)
